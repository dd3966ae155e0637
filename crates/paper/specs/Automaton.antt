-- The automaton of Aho and Corasick, with the dead links that document 01 adds for the leftmost kinds. A state IS its string:
-- no tables, no numbers of states, no widths.
use Rattle.std.specs.Prelude.{◌≡◌, Bool, true, false, not, ◌&&◌, ◌||◌, List, [], ◌∷◌, ◌++◌, map, ℕ, zero, suc, ◌+◌, ◌-◌, length, drop}
use Rattle.std.proofs.Math.Option.{Option, none, some}
use Rattle.paper.specs.Lists.{pick, same, prefix, snoc, is_nil, those}
use Rattle.paper.specs.Patterns.{Entry, Kind, standard, leftmost}
use Rattle.paper.specs.Matches.{Occurrence}

-- ---- states, failure, output

-- the states: the empty string, which is root, and each prefix of a pattern
unfoldable pub is_state : List Entry → List ℕ → Bool
is_state [] s = is_nil s
is_state (x ∷ xs) s = prefix s x.word || is_state xs s

-- a state's own outputs: the patterns that are the very string, in list order
unfoldable pub own_of : List Entry → List ℕ → List Entry
own_of es s = those (λ x. same x.word s) es

-- the automaton of a list: its states, own outputs, and the states that a leftmost kind links to dead for their own output
pub record Machine : Type 0 where
  pub is_state : List ℕ → Bool
  pub own : List ℕ → List Entry
  pub stops : List ℕ → Bool

-- Standard stops nowhere, a leftmost kind at each own output
abbrev pub stops_of : Kind → List Entry → List ℕ → Bool
stops_of standard es s = false
stops_of (leftmost c) es s = not (is_nil (own_of es s))

-- the automaton of the accepted patterns, for one kind
abbrev pub machine : Kind → List Entry → Machine
machine kind es = record { is_state = is_state es; own = own_of es; stops = stops_of kind es }

-- the longest suffix that is a state
unfoldable pub longest_state : (List ℕ → Bool) → List ℕ → List ℕ
longest_state S [] = []
longest_state S (x ∷ xs) = pick (S (x ∷ xs)) (x ∷ xs) (longest_state S xs)

-- failure: the longest proper suffix that is a state; root's is root
unfoldable pub failure : (List ℕ → Bool) → List ℕ → List ℕ
failure S [] = []
failure S (x ∷ xs) = longest_state S xs

-- ---- links

-- where a link leads: to dead, or to a state
pub data Link : Type 0 where
  dead : Link
  to : List ℕ → Link

-- a stopping string is u with some bytes of w, none or all of them, after it
unfoldable pub begins : (List ℕ → Bool) → List ℕ → List ℕ → Bool
begins stops u [] = stops u
begins stops u (c ∷ w) = stops u || begins stops (snoc u c) w

-- a stopping string starts at the head of w
abbrev pub starts : (List ℕ → Bool) → List ℕ → Bool
starts stops w = begins stops [] w

-- a stopping string occurs in w and starts before the longest suffix that is a state
-- For the list abcd, b, cx of a leftmost kind, b stops. Of the string bc the longest suffix that is a state is c, and b starts before it: true, so abc
-- links to dead and not to c. Of the string b it is b itself: false, so ab links to b.
unfoldable pub before : (List ℕ → Bool) → (List ℕ → Bool) → List ℕ → Bool
before S stops [] = false
before S stops (x ∷ xs) = pick (S (x ∷ xs)) false (starts stops (x ∷ xs) || before S stops xs)

-- the closed form of a dead link: a stopping string occurs in s and starts before its failure
unfoldable pub is_dead : Machine → List ℕ → Bool
is_dead M [] = false
is_dead M (x ∷ xs) = starts M.stops (x ∷ xs) || before M.is_state M.stops xs

-- the link of a state: its failure, unless it is dead
unfoldable pub link : Machine → List ℕ → Link
link M s = pick (is_dead M s) dead (to (failure M.is_state s))

-- ---- the hunt, for the walk and for the construction of links

-- where a hunt ends, and how many links it followed
pub record Hunt : Type 0 where
  pub found : Link
  pub links : ℕ

-- a hunt with one link more
abbrev pub followed : Hunt → Hunt
followed h = record { found = h.found; links = suc h.links }

-- a link to dead ends the hunt there; it is followed too
abbrev pub along : Link → (List ℕ → Hunt) → Hunt
along dead go = record { found = dead; links = 1 }
along (to r) go = followed (go r)

-- root has the byte, or keeps root
abbrev pub at_root : (List ℕ → Bool) → ℕ → Hunt
at_root S c = record { found = to (pick (S (c ∷ [])) (c ∷ []) []); links = 0 }

-- from s follow links until a state has the byte or root is reached. The number bounds the links; the length of s is enough.
unfoldable pub hunt : (List ℕ → Bool) → (List ℕ → Link) → ℕ → List ℕ → ℕ → Hunt
hunt S links zero [] c = at_root S c
hunt S links zero (x ∷ xs) c = at_root S c
hunt S links (suc n) [] c = at_root S c
hunt S links (suc n) (x ∷ xs) c =
    let on = along (links (x ∷ xs)) (λ r. hunt S links n r c) in
    pick (S (snoc (x ∷ xs) c)) (record { found = to (snoc (x ∷ xs) c); links = 0 }) on

-- document 01's rules for links, in the order of the build: parents before their children
pub record Rules (M : Machine) (links : List ℕ → Link) : Type 0 where
  -- root links to root
  pub root : links [] ≡ to []
  -- a state with an own output gets dead (leftmost kinds)
  pub stopped : (s : List ℕ) → M.is_state s ≡ true → M.stops s ≡ true → links s ≡ dead
  -- else a child of root links to root
  pub top : (c : ℕ) → M.is_state (c ∷ []) ≡ true → M.stops (c ∷ []) ≡ false → links (c ∷ []) ≡ to []
  -- else a child of a parent with link dead gets dead
  pub fallen : (x : ℕ) (xs : List ℕ) (c : ℕ) → M.is_state (snoc (x ∷ xs) c) ≡ true → M.stops (snoc (x ∷ xs) c) ≡ false
      → links (x ∷ xs) ≡ dead → links (snoc (x ∷ xs) c) ≡ dead
  -- else the hunt from the parent's link decides
  pub hunted : (x : ℕ) (xs : List ℕ) (c : ℕ) (r : List ℕ) → M.is_state (snoc (x ∷ xs) c) ≡ true → M.stops (snoc (x ∷ xs) c) ≡ false
      → links (x ∷ xs) ≡ to r → links (snoc (x ∷ xs) c) ≡ (hunt M.is_state links (length r) r c).found

-- ---- output

-- dead puts out nothing
abbrev pub onward : Link → (List ℕ → List Entry) → List Entry
onward dead go = []
onward (to r) go = go r

-- the chain of a state: its own outputs, then the chain of the state that it links to. The number bounds the links.
unfoldable pub chain : Machine → ℕ → List ℕ → List Entry
chain M zero s = []
chain M (suc n) [] = []
chain M (suc n) (x ∷ xs) = M.own (x ∷ xs) ++ onward (link M (x ∷ xs)) (λ r. chain M n r)

-- what a state puts out
abbrev pub output : Machine → List ℕ → List Entry
output M s = chain M (length s) s

-- the match of an entry that ends at e
abbrev pub end_at : ℕ → Entry → Occurrence
end_at e x = record { start = e - length x.word; end = e; row = x.row }

-- ---- the walk, with its moves: each link and each byte is one

-- where a walk is, and its moves so far
pub record Walk : Type 0 where
  pub state : List ℕ
  pub moves : ℕ

-- before the first byte: at root
abbrev pub fresh : Walk
fresh = record { state = []; moves = 0 }

-- dead is left for root
abbrev pub landed : Link → List ℕ
landed dead = []
landed (to s) = s

-- the walk takes a byte
unfoldable pub step : Machine → Walk → ℕ → Walk
step M w c =
    let h = hunt M.is_state (link M) (length w.state) w.state c in
    record { state = landed h.found; moves = w.moves + suc h.links }

-- the walk over a text; after a byte it begins again at root in each state of which `again` holds
unfoldable pub walk : Machine → (List ℕ → Bool) → Walk → List ℕ → Walk
walk M again w [] = w
walk M again w (c ∷ t) =
    let v = step M w c in
    walk M again (record { state = pick (again v.state) [] v.state; moves = v.moves }) t

-- overlapping search goes on
abbrev pub never : List ℕ → Bool
never s = false

-- plain search begins again after a match
abbrev pub putting_out : Machine → List ℕ → Bool
putting_out M s = not (is_nil (output M s))

-- ---- what the walks say: n bytes were taken, and the walk is at s

-- overlapping: after each byte the whole chain
unfoldable pub says_all : Machine → Walk → ℕ → List ℕ → List Occurrence
says_all M w n [] = []
says_all M w n (c ∷ t) =
    let v = step M w c in
    map (end_at (suc n)) (output M v.state) ++ says_all M v (suc n) t

-- by the first of an output, if there is one
abbrev pub on_first : List Entry → List Occurrence → (Entry → List Occurrence) → List Occurrence
on_first [] on found = on
on_first (x ∷ xs) on found = found x

-- plain: the first of the chain, and the walk begins again at root
unfoldable pub says_plain : Machine → Walk → ℕ → List ℕ → List Occurrence
says_plain M w n [] = []
says_plain M w n (c ∷ t) =
    let v = step M w c in
    let on = says_plain M v (suc n) t in
    on_first (output M v.state) on (λ x. end_at (suc n) x ∷ says_plain M (record { state = []; moves = v.moves }) (suc n) t)

-- the first of a state's output, if it has one, else what was kept
abbrev pub keeping : ℕ → List Entry → Option Occurrence → Option Occurrence
keeping n [] kept = kept
keeping n (x ∷ xs) kept = some (end_at n x)

-- something is kept
abbrev pub is_some : Option Occurrence → Bool
is_some none = false
is_some (some f) = true

-- how a leftmost call ends: what it gives, and the moves so far
pub record Given : Type 0 where
  pub given : Option Occurrence
  pub moves : ℕ

-- a call that ends with what was kept
abbrev pub giving : Option Occurrence → ℕ → Given
giving kept moves = record { given = kept; moves = moves }

-- leftmost, one call: keep the first output of each state that has one, and give the one kept last when a byte ends at root or the text ends
unfoldable pub says_next : Machine → Walk → ℕ → Option Occurrence → List ℕ → Given
says_next M w n kept [] = giving kept w.moves
says_next M w n kept (c ∷ t) =
    let v = step M w c in
    let now = keeping (suc n) (output M v.state) kept in
    let on = says_next M v (suc n) now t in
    pick (is_nil v.state && is_some now) (giving now v.moves) on

-- the matches of a leftmost search and its moves
pub record Leftmosts : Type 0 where
  pub matches : List Occurrence
  pub moves : ℕ

-- by what a call gave, if it gave a match
abbrev pub on_given : Option Occurrence → ℕ → (Occurrence → Leftmosts) → Leftmosts
on_given none moves more = record { matches = []; moves = moves }
on_given (some f) moves more = record { matches = f ∷ (more f).matches; moves = (more f).moves }

-- leftmost: calls in turn, each from root and from the end of the match before. The number bounds the calls.
unfoldable pub says_leftmost : Machine → ℕ → ℕ → ℕ → List ℕ → Leftmosts
says_leftmost M zero p moves t = record { matches = []; moves = moves }
says_leftmost M (suc n) p moves t =
    let g = says_next M (record { state = []; moves = moves }) p none (drop p t) in
    on_given g.given g.moves (λ f. says_leftmost M n f.end g.moves t)
