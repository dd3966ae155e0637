-- What the accepted patterns of a sound list have, as the tables ask it.
use mathlib.Core.Path.{◌≡◌, refl, ap, subst}
use mathlib.Core.Bool.{Bool, ◌&&◌}
use mathlib.Core.List.Memᴰ
use mathlib.Core.List.{List, [], ◌∷◌, Memᴰ}
use mathlib.Core.Logic.{⊎_elim}
use Prim.Native.Nat.{ℕ, suc, ◌+◌, ◌*◌, ◌≤◌, ◌<◌}
use native.Mathlib.Decide.{dec_lt}
use native.Mathlib.Omega.{arith}
use lib.ListN.{length, length-append}
use Rattle.paper.specs.Patterns.{Entry, Kind, rows, rows_from, barred, Proper}
use Rattle.std.specs.Prelude.{Result, Ok, Err, IsErr}
use Rattle.paper.proofs.Tests.{test, clash}
use Rattle.paper.proofs.Acceptance.{rows_from_lem, accepted_listed, proper}
use Rattle.list.specs.Limits.{alphabet, most_listed, most_bytes}
use Rattle.list.specs.Kinds.{kind_of}
use Rattle.list.specs.Listed.{patterns_of}
use Rattle.list.specs.Claims.{Bytes, Sound}
use Rattle.list.proofs.Patterns.{patterns_length, pattern_bytes, member_at}
use Rattle.list.proofs.Slots.{smaller_first, smaller_second}
use Rattle.list.proofs.Sound.{sound_filled}
use Rattle.plan.specs.Breadth.{Within}
use Rattle.trie.specs.Made.{Parted, grown_by, drops_of, accept_on}
use Rattle.trie.proofs.Accepting.{accept_is}
use Rattle.plan.specs.Names.{names}
use Rattle.plan.proofs.Names.{names_few}
use Rattle.trie.specs.Trie.{Slots, slots_of}
use Rattle.trie.specs.Owned.{Owns}
use Rattle.trie.specs.Made.{Made}
use Rattle.links.specs.Queue.{Ready}
use Rattle.trie.specs.declared.Grown.{Grown as Counts}
use Rattle.trie.specs.declared.FewStates.{FewStates}
use Rattle.nfa.specs.Grown.{accepted_of, counted, GrownOk}

-- ---- the accepted patterns

rows_below : (i : ℕ) (ps : List (List ℕ)) (x : Entry) → Memᴰ x (rows_from i ps) → x.row < i + length ps
unfolding rows_from
rows_below i [] x m = absurd (Memᴰ.not-nil m)
rows_below i (p ∷ ps) x m =
    ⊎_elim (λ e. omega (arith, ap (λ (y : Entry). y.row) e)) (λ k. omega (arith, rows_below (suc i) ps x k)) (Memᴰ.cases_cons m)

rows_long : (i : ℕ) (ps : List (List ℕ)) → length (rows_from i ps) ≡ length ps
unfolding rows_from
rows_long i [] = refl
rows_long i (p ∷ ps) = ap suc (rows_long (suc i) ps)

grown_few : (drops : Bool) (es : List Entry) (x : Entry) → length (grown_by drops es x) ≤ suc (length es)
grown_few drops es x =
    test (drops && barred es x.word) (λ h. rw h (omega arith)) (λ h. rw h (omega (arith, length-append es (x ∷ []))))

accept_few : (drops : Bool) (es xs : List Entry) → length (accept_on drops es xs) ≤ length es + length xs
unfolding accept_on
accept_few drops es [] = omega arith
accept_few drops es (x ∷ xs) = omega (arith, accept_few drops (grown_by drops es x) xs, grown_few drops es x)

module _ {kind : ℕ} {bytes ends values : List ℕ} (S : Sound kind bytes ends values) where
  abbrev es : List Entry
  es = accepted_of kind bytes ends

  pub parted : Parted bytes ends
  parted = record { cut = S.cut; few = S.few; short = S.short }

  -- what the trie accepts is what the paper does
  pub same_accepted : (drops : Bool) → drops ≡ drops_of (kind_of kind) → accept_on drops [] (rows (patterns_of bytes ends)) ≡ es
  same_accepted drops e = rw e (accept_is (kind_of kind) (patterns_of bytes ends))

  pub fit : Proper es
  fit = proper (kind_of kind) (patterns_of bytes ends) (sound_filled kind bytes ends values S)

  listed : (x : Entry) → Memᴰ x es → Memᴰ x.word (patterns_of bytes ends)
  listed x m = (rows_from_lem 0 (patterns_of bytes ends) x (accepted_listed (kind_of kind) (patterns_of bytes ends) x m)).1

  short : (x : Entry) → Memᴰ x es → length x.word ≤ most_bytes
  short x m =
      let r = member_at [] x.word (patterns_of bytes ends) (listed x m) in
      rw (← r.2) (S.short r.0 (omega (arith, r.1, patterns_length bytes ends)))

  pub within : Bytes bytes → Within alphabet most_bytes es
  within B =
      record {
        letters = λ x m c k.
            let r = member_at 0 c x.word k in
            rw (← r.2) (pattern_bytes bytes ends B x.word (listed x m) r.0);
        short = short;
      }

  pub valued : (x : Entry) → Memᴰ x es → x.row < length values
  valued x m =
      omega (arith, rows_below 0 (patterns_of bytes ends) x (accepted_listed (kind_of kind) (patterns_of bytes ends) x m), patterns_length bytes ends, S.paired)

  pub few : length es ≤ most_listed
  few =
      rw (← accept_is (kind_of kind) (patterns_of bytes ends))
      (omega (arith, accept_few (drops_of (kind_of kind)) [] (rows (patterns_of bytes ends)), rows_long 0 (patterns_of bytes ends), patterns_length bytes ends, S.few))

  -- the tables of the trie, as the paper says what is accepted
  pub made : {drops : Bool} {K : Slots} {O : Owns} {states count room : ℕ} → drops ≡ drops_of (kind_of kind)
      → Made K O states count room (accept_on drops [] (rows (patterns_of bytes ends))) → Made K O states count room es
  made {drops} {K} {O} {states} {count} {room} e m = subst (λ (l : List Entry). Made K O states count room l) (same_accepted drops e) m

  -- no list within the limits has more states than this
  states_few : length (names alphabet es) ≤ 2 + most_listed * most_bytes
  states_few =
      omega (arith, few, names_few alphabet most_bytes es short)

  pub full : {drops : Bool} {slots : ℕ} (state_slots : ℕ) → drops ≡ drops_of (kind_of kind) → slots ≡ counted state_slots
      → slots < length (names alphabet (accept_on drops [] (rows (patterns_of bytes ends)))) → state_slots < length (names alphabet es)
  full {drops} {slots} state_slots e k h =
      let over : counted state_slots < length (names alphabet es)
      = subst (λ (l : List Entry). counted state_slots < length (names alphabet l)) (same_accepted drops e) (rw (← k) h) in
      elim (dec_lt state_slots 4294967295) [
        | yes l ↦ omega (arith, over, smaller_first state_slots 4294967295 l)
        | no l ↦ absurd (omega (arith, over, smaller_second state_slots 4294967295 (omega arith), states_few))
      ]

  pub ready : {trie : List (List ℕ)} {O : Owns} {states count room note_room : ℕ} → Bytes bytes → Made (slots_of trie) O states count room es
      → states ≤ length trie → states ≤ note_room → Ready (kind_of kind) es trie note_room
  ready B m t n =
      record {
        trie = m.trie;
        owned = m.owned;
        proper = fit;
        within = within B;
        trie_room = omega (arith, m.states_are);
        notes_room = omega (arith, m.states_are);
      }

-- the same with an equal number of slots
pub made_room : {K : Slots} {O : Owns} {states count room slots : ℕ} {es : List Entry} → room ≡ slots → Made K O states count room es → Made K O states count slots es
made_room {K} {O} {states} {count} {room} {slots} {es} e m = subst (λ (n : ℕ). Made K O states count n es) e m

pub ready_room : {kind : Kind} {es : List Entry} {trie : List (List ℕ)} {room slots : ℕ} → room ≡ slots → Ready kind es trie room → Ready kind es trie slots
ready_room {kind} {es} {trie} e r = subst (λ (n : ℕ). Ready kind es trie n) e r

-- an answer handed on from states that pass the slots
pub grown_full : (kind : ℕ) (bytes ends : List ℕ) (slots : ℕ) (trie owns notes : List (List ℕ)) (r : Result Counts FewStates) → IsErr r
    → slots < length (names alphabet (accepted_of kind bytes ends)) → GrownOk kind bytes ends slots trie owns notes r
grown_full kind bytes ends slots trie owns notes (Ok grown) e l = absurd (clash e refl)
grown_full kind bytes ends slots trie owns notes (Err why) e l = l
