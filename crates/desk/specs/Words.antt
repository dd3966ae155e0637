-- The words of the command.
use Rattle.std.specs.Prelude.{◌≡◌, Bool, false, not, ◌&&◌, ◌||◌, List, [], ◌∷◌, ℕ, ◌+◌, eqb, Result, Ok, Err, IfOk}
use Rattle.std.specs.Int.{from_bool}
use Rattle.paper.specs.Lists.{same}
use Rattle.desk.specs.declared.words.Fault.{Fault}
use Rattle.desk.specs.declared.words.Word.{Word}
use Rattle.desk.specs.declared.words.Word.TheVariants as word

-- how many names a word is
abbrev pub names_in : Word → ℕ
names_in word.Setting = 0
names_in word.List = 1
names_in word.Sheet = 1
names_in word.Help = 0

-- where a word is taken, the names before it and those that it is are the names after it
abbrev pub NamesCounted : ℕ → ℕ → Result Word Fault → Type 0
NamesCounted before after result = IfOk result (λ (taken : Word). after ≡ before + names_in taken)

-- the first name is the list's, the second the sheet's
abbrev pub NamesOrdered : ℕ → Result Word Fault → Type 0
NamesOrdered before (Ok word.Setting) = Unit {0}
NamesOrdered before (Ok word.List) = before ≡ 0
NamesOrdered before (Ok word.Sheet) = before ≡ 1
NamesOrdered before (Ok word.Help) = Unit {0}
NamesOrdered before (Err _) = Unit {0}

-- a word begins with a hyphen, as an option does
abbrev pub hyphened : List ℕ → Bool
hyphened [] = false
hyphened (b ∷ bs) = eqb b 45

-- a word is a name where it does not say the search, and the options are over or it is none
abbrev pub is_name : Bool → Bool → List ℕ → Bool
is_name choosing over bytes = not choosing && (over || not (hyphened bytes))

-- a word that is taken is one name or none
abbrev pub NamesTaken : Bool → Result Word Fault → Type 0
NamesTaken name result = IfOk result (λ (taken : Word). names_in taken ≡ from_bool name)

-- the option that ends the options, and the one that asks for a search
abbrev pub ends_options : List ℕ
ends_options = 45 ∷ 45 ∷ []

abbrev pub asks_search : List ℕ
asks_search = 45 ∷ 45 ∷ 115 ∷ 101 ∷ 97 ∷ 114 ∷ 99 ∷ 104 ∷ []

-- a word is this option: it is neither a name nor what says the search
abbrev pub is_option : Bool → Bool → List ℕ → List ℕ → Bool
is_option choosing over bytes option = not choosing && (not (is_name choosing over bytes) && same bytes option)

-- where a word is taken: whether the options are over then, and whether the next word says the search
abbrev pub Goes : Bool → Bool → Bool → Bool → Result Word Fault → Type 0
Goes over choosing over_then choosing_then result = IfOk result (λ (taken : Word). (over_then ≡ over) × (choosing_then ≡ choosing))
