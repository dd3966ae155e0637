-- A place is noted: the order and the links stay, so the tables are still those of the accepted patterns.
use mathlib.Core.Path.{◌≡◌, refl, ◌∙◌}
use mathlib.Core.List.{List}
use Prim.Native.Nat.{ℕ, zero, suc, ◌≤◌, ◌<◌}
use native.Mathlib.Omega.{arith}
use lib.ListN.{length, length-set}
use Rattle.paper.specs.Patterns.{Entry, Kind}
use Rattle.zeros.specs.Rows.{field}
use Rattle.zeros.proofs.Rows.{field_set_same, field_set_other}
use Rattle.trie.proofs.Inserting.{kept_field}
use Rattle.links.specs.Notes.{notes_of, with_place}
use Rattle.links.specs.Linked.{Linked}
use Rattle.outputs.specs.Placed.{Tabled, Placed}

module _ (notes : List (List ℕ)) (t v : ℕ) (h : t < length notes) where
  -- the other fields stay
  pub place_kept : (f : ℕ) → f < 6 → (f ≡ 2 → ⊥) → (k : ℕ) → field (with_place notes t v) k f ≡ field notes k f
  place_kept zero b n = kept_field notes t 0 _ h refl
  place_kept (suc zero) b n = kept_field notes t 1 _ h refl
  place_kept (suc (suc zero)) b n = absurd (n refl)
  place_kept (suc (suc (suc zero))) b n = kept_field notes t 3 _ h refl
  place_kept (suc (suc (suc (suc zero)))) b n = kept_field notes t 4 _ h refl
  place_kept (suc (suc (suc (suc (suc zero))))) b n = kept_field notes t 5 _ h refl
  place_kept (suc (suc (suc (suc (suc (suc f)))))) b n = absurd (omega arith)

  pub place_here : field (with_place notes t v) t 2 ≡ v
  place_here = field_set_same notes t 2 _ h

pub place_other : (notes : List (List ℕ)) (t v k : ℕ) → (k ≡ t → ⊥) → field (with_place notes t v) k 2 ≡ field notes k 2
place_other notes t v k n = field_set_other notes t k 2 _ n

-- the order and the links decide what is linked
pub still_linked : {kind : Kind} {es : List Entry} (notes₀ notes : List (List ℕ)) → ((k f : ℕ) → f < 2 → field notes k f ≡ field notes₀ k f)
    → Linked kind es (notes_of notes₀) → Linked kind es (notes_of notes)
still_linked notes₀ notes same L =
    record { order = λ i h. rw (same i 0 (omega arith)) (L.order i h); link = λ k h z. rw (same k 1 (omega arith)) (L.link k h z) }

-- root and dead have no outputs
abbrev pub begun : List (List ℕ) → List (List ℕ)
begun notes = with_place (with_place notes 0 0) 1 0

module _ (notes : List (List ℕ)) (two : 2 ≤ length notes) where
  pub begun_length : length (begun notes) ≡ length notes
  begun_length = length-set (with_place notes 0 0) 1 _ ∙ length-set notes 0 _

  first : 0 < length notes
  first = omega arith

  second : 1 < length (with_place notes 0 0)
  second = rw length-set (omega arith)

  begun_kept : (k f : ℕ) → f < 6 → (f ≡ 2 → ⊥) → field (begun notes) k f ≡ field notes k f
  begun_kept k f b n = place_kept (with_place notes 0 0) 1 0 second f b n k ∙ place_kept notes 0 0 first f b n k

  pub begun_root : field (begun notes) 0 2 ≡ 0
  begun_root = place_other (with_place notes 0 0) 1 0 0 (λ e. omega arith) ∙ place_here notes 0 0 first

  pub begun_dead : field (begun notes) 1 2 ≡ 0
  begun_dead = place_here (with_place notes 0 0) 1 0 second

  -- the order and the links are as they were
  pub begun_placed : {kind : Kind} {es : List Entry} {values : List ℕ} {after outs₀ outs : List (List ℕ)} {count : ℕ}
      → Placed kind es values (begun notes) after outs₀ outs count → Placed kind es values notes after outs₀ outs count
  begun_placed P =
      record {
        count_is = P.count_is;
        rows = P.rows;
        place = P.place;
        dead = P.dead;
        kept = λ k f b n. P.kept k f b n ∙ begun_kept k f b n;
      }

  pub begun_tabled : {kind : Kind} {es : List Entry} {trie owns : List (List ℕ)} {values : List ℕ} {slots states : ℕ}
      → Tabled kind es trie owns notes values slots states → Tabled kind es trie owns (begun notes) values slots states
  begun_tabled T =
      record {
        accepted = T.accepted;
        made = T.made;
        linked = still_linked notes (begun notes) (λ k f b. begun_kept k f (omega arith) (λ z. omega arith)) T.linked;
        proper = T.proper;
        within = T.within;
        valued = T.valued;
        few = T.few;
        own_room = T.own_room;
        out_room = T.out_room;
        trie_room = T.trie_room;
        note_room = rw begun_length T.note_room;
      }
