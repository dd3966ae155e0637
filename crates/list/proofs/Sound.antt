-- What a list that is not refused has, and when each refusal is given: the laws that callers of `List::check` cite.
use mathlib.Core.Path.{◌≡◌, refl, sym, ap, ◌∙◌}
use mathlib.Core.Bool.{Bool, true, false, not}
use mathlib.Core.List.{List, []}
use mathlib.Core.Option.{Option, none, some}
use mathlib.Core.HLevel.{is_prop→PathP}
use Prim.Native.Nat.{ℕ, ◌<◌, ◌≤◌}
use Rattle.std.proofs.Props.{props}
use native.Mathlib.Omega.{arith}
use lib.Dec.{eqb}
use lib.ListN.{length, get_or}
use Rattle.paper.specs.Lists.{pick}
use Rattle.paper.specs.Patterns.{Filled}
use Rattle.std.proofs.lemmas.Bool.{eqb-true, eqb-false, ne_eqb, ltb-false, le-ltb, not-false, or_parts}
use Rattle.paper.proofs.Tests.{clash}
use Rattle.list.specs.Limits.{last_kind, most_listed, most_bytes}
use Rattle.list.specs.Refusals.{Told, is_found, lowest, entry, without, distinct, Exactly}
use Rattle.list.specs.Listed.{patterns_of, falls, ends_wrong, is_empty, exceeds, first_where, refusals}
use Rattle.std.specs.Prelude.{Result, Ok, Err, IfOk, IsOk, IsErrAnd}
use Rattle.paper.specs.Patterns.{Kind as Search, standard, leftmost, longest, first}
use Rattle.list.specs.Kinds.{kind_of}
use Rattle.list.specs.Answers.{refused, told, kind_named}
use Rattle.list.specs.Claims.{Sound, GivenExactly}
use Rattle.list.specs.declared.List.{List as Lent}
use Rattle.list.specs.declared.SoundList.{SoundList}
use Rattle.list.specs.declared.Kind.{Kind}
use Rattle.list.specs.declared.Kind.TheVariants.{Standard, LeftmostLongest, LeftmostFirst}
use Rattle.list.specs.declared.Refusal.{Refusal}
use Rattle.list.specs.declared.Refusal.TheVariants.{BadKind, BadEnds, TooMany, Empty, TooLong}
use Rattle.list.proofs.First.{first_none, first_only}
use Rattle.list.proofs.Refusals.{exactly, none_at}
use Rattle.list.proofs.Patterns.{patterns_length, member_at}
use Rattle.list.proofs.Checks.{ends_sound, sound_right, gives_fine}

told_some : {t : Told} → some t ≡ none → ⊥
told_some e = let z : ◌≡◌ {A = ℕ} 0 1 = cc in omega arith

not_found : (o : Option ℕ) → is_found o ≡ false → o ≡ none
not_found none h = refl
not_found (some i) h = clash refl h

-- a kind by its name
abbrev kind_by : Search → Kind
kind_by standard = Standard
kind_by (leftmost longest) = LeftmostLongest
kind_by (leftmost first) = LeftmostFirst

by_name : (kind : Kind) → kind_by (kind_named kind) ≡ kind
by_name Standard = refl
by_name LeftmostLongest = refl
by_name LeftmostFirst = refl

-- a list that is not refused is so in one way
sound_prop : (kind : ℕ) (bytes ends values : List ℕ) → IsProp (Sound kind bytes ends values)
sound_prop kind bytes ends values x y =
    let within : (a b : ℕ) → IsProp (a ≤ b) = λ a b. hlevel props in
    let rising : IsProp (falls 0 ends ≡ false) = hlevel props in
    let same : (a b : ℕ) → IsProp (a ≡ b) = λ a b. hlevel props in
    let filled : IsProp ((i : ℕ) → i < length ends → 0 < length (get_or (patterns_of bytes ends) i [])) = hlevel props in
    let short : IsProp ((i : ℕ) → i < length ends → length (get_or (patterns_of bytes ends) i []) ≤ most_bytes) = hlevel props in
    λ i. record {
      known = within _ _ x.known y.known i;
      paired = same _ _ x.paired y.paired i;
      cut = record { rising = rising x.cut.rising y.cut.rising i; whole = same _ _ x.cut.whole y.cut.whole i };
      few = within _ _ x.few y.few i;
      filled = filled x.filled y.filled i;
      short = short x.short y.short i;
    }

-- sound lists of one list are the same: its number names their kind
pub sound_same : (s t : SoundList) → s.list ≡ t.list → s ≡ t
sound_same s t l =
    let named : kind_named s.kind ≡ kind_named t.kind = s.named ∙ ap (λ (u : Lent). kind_of u.kind) l ∙ sym t.named in
    let k : s.kind ≡ t.kind = sym (by_name s.kind) ∙ ap kind_by named ∙ by_name t.kind in
    λ i. record {
      list = l i;
      kind = k i;
      sound =
          is_prop→PathP (λ j. Sound (l j).kind (l j).bytes.now (l j).ends.now (l j).values.now)
          (λ j. sound_prop (l j).kind (l j).bytes.now (l j).ends.now (l j).values.now) s.sound t.sound i;
      named = is_prop→PathP (λ j. kind_named (k j) ≡ kind_of (l j).kind) (λ j. hlevel props) s.named t.named i;
    }

-- an answer handed on from a number that names no kind
pub tells_kind : {A : Type 0} (why : Refusal) (r : Result A Refusal) → why ≡ BadKind → IsErrAnd r (λ e. e ≡ why) → told r ≡ refused 1 0
tells_kind why (Ok a) bad is = absurd is
tells_kind {A} why (Err e) bad is = ap (λ (w : Refusal). told {A = A} (Err w)) (is ∙ bad)

-- an answer that tells nothing is no refusal
untold_ok : {A : Type 0} (r : Result A Refusal) → told r ≡ none → IsOk r
untold_ok (Ok a) e = refl
untold_ok (Err BadKind) e = absurd (told_some e)
untold_ok (Err BadEnds) e = absurd (told_some e)
untold_ok (Err TooMany) e = absurd (told_some e)
untold_ok (Err (Empty i)) e = absurd (told_some e)
untold_ok (Err (TooLong i)) e = absurd (told_some e)

ok_untold : {A : Type 0} (r : Result A Refusal) → IsOk r → told r ≡ none
ok_untold (Ok a) ok = refl
ok_untold (Err why) ok = clash ok refl

-- the refusal that tells a number and an index
abbrev refusal_by : Option Told → Refusal
refusal_by none = BadKind
refusal_by (some t) =
    pick (eqb t.number 1) BadKind
    (pick (eqb t.number 2) BadEnds
    (pick (eqb t.number 3) TooMany
    (pick (eqb t.number 4) (Empty t.index) (TooLong t.index))))

by_told : (why : Refusal) → refusal_by (told {A = SoundList} (Err why)) ≡ why
by_told BadKind = refl
by_told BadEnds = refl
by_told TooMany = refl
by_told (Empty i) = refl
by_told (TooLong i) = refl

-- so no two answers meet the promise of `List::check`: those that tell the same are the same, where two that are lists are of one list
pub told_only : (a b : Result SoundList Refusal) → IfOk a (λ s. IfOk b (λ t. s.list ≡ t.list)) → told a ≡ told b → a ≡ b
told_only (Ok s) (Ok t) of_one e = ap Ok (sound_same s t of_one)
told_only (Ok s) (Err why) of_one e = clash (untold_ok {A = SoundList} (Err why) (sym e)) refl
told_only (Err why) (Ok t) of_one e = clash (untold_ok {A = SoundList} (Err why) e) refl
told_only (Err why) (Err other) of_one e = ap Err (sym (by_told why) ∙ ap refusal_by e ∙ by_told other)

module _ (kind : ℕ) (bytes ends values : List ℕ) where
  -- the patterns, and what the test of a size says of each
  abbrev ps : List (List ℕ)
  ps = patterns_of bytes ends

  passed : (over : List ℕ → Bool) → is_found (first_where over ps) ≡ false → (i : ℕ) → i < length ends → over (get_or ps i []) ≡ false
  passed over h i l = first_none [] over ps (not_found (first_where over ps) h) i (omega (arith, patterns_length bytes ends))

  -- a list of which nothing is told has none of the five conditions
  pub untold_sound : lowest (refusals kind bytes ends values) ≡ none → Sound kind bytes ends values
  unfolding refusals
  untold_sound e =
      let free : (k : ℕ) → k < 5 → (entry (refusals kind bytes ends values) k).holds ≡ false = none_at (refusals kind bytes ends values) e in
      let counts = not (eqb (length ends) (length values)) in
      let wrong = ends_wrong 0 (length bytes) ends in
      record {
        known = ltb-false last_kind kind (free 0 (omega arith));
        paired = eqb-true (length ends) (length values) (not-false (eqb (length ends) (length values)) (or_parts counts wrong (free 1 (omega arith))).0);
        cut = ends_sound bytes ends (or_parts counts wrong (free 1 (omega arith))).1;
        few = ltb-false most_listed (length ends) (free 2 (omega arith));
        filled = λ i l. let n = eqb-false (length (get_or ps i [])) 0 (passed is_empty (free 3 (omega arith)) i l) in omega arith;
        short = λ i l. ltb-false most_bytes (length (get_or ps i [])) (passed (exceeds most_bytes) (free 4 (omega arith)) i l);
      }

  -- a list that is fine is sound, and a sound one is fine
  pub fine_sound : {A : Type 0} (r : Result A Refusal) → told r ≡ lowest (refusals kind bytes ends values) → IsOk r → Sound kind bytes ends values
  fine_sound r e ok = untold_sound (sym e ∙ ok_untold r ok)

  pub sound_untold : Sound kind bytes ends values → none ≡ lowest (refusals kind bytes ends values)
  sound_untold s =
      gives_fine kind bytes ends values
      (record { known = s.known; paired = s.paired; right = sound_right bytes ends s.cut; few = s.few })
      (sym (first_only [] is_empty ps none (λ j k. let l = s.filled j (omega (arith, patterns_length bytes ends)) in ne_eqb (length (get_or ps j [])) 0 (λ z. omega arith))))
      (sym (first_only [] (exceeds most_bytes) ps none (λ j k. le-ltb most_bytes (length (get_or ps j [])) (s.short j (omega (arith, patterns_length bytes ends))))))

  pub sound_fine : {A : Type 0} (r : Result A Refusal) → told r ≡ lowest (refusals kind bytes ends values) → Sound kind bytes ends values → IsOk r
  sound_fine r e s = untold_ok r (e ∙ sym (sound_untold s))

  numbers_distinct : distinct (refusals kind bytes ends values) ≡ true
  unfolding refusals distinct without
  numbers_distinct = refl

  -- each number is given exactly when its condition holds and none before it does
  pub given_exactly : GivenExactly kind bytes ends values
  unfolding refusals
  given_exactly =
      let at : (k : ℕ) → k < length (refusals kind bytes ends values) → Exactly (refusals kind bytes ends values) k
      = λ k l. exactly (refusals kind bytes ends values) k l numbers_distinct in
      record { one = at 0 (omega arith); two = at 1 (omega arith); three = at 2 (omega arith); four = at 3 (omega arith); five = at 4 (omega arith) }

  module _ (s : Sound kind bytes ends values) where
    -- no pattern of a sound list is empty
    pub sound_filled : Filled (patterns_of bytes ends)
    sound_filled p m =
        let r = member_at [] p (patterns_of bytes ends) m in
        rw (← r.2) (s.filled r.0 (omega (arith, r.1, patterns_length bytes ends)))
