-- Plain search over tables of kind Standard that agree with a list: called again and again it gives the plain list and then the end, and the moves in its
-- answers are those of the paper's walk that begins again at root after each match.
use mathlib.Core.Path.{◌≡◌, refl, sym, ap, ◌∙◌}
use mathlib.Core.Bool.{Bool, true, false, not}
use mathlib.Core.List.{List, [], ◌∷◌, map, Memᴰ}
use mathlib.Core.Logic.{⊎_elim}
use Prim.Native.Nat.{ℕ, suc, ◌*◌, ◌-◌, ◌≤◌}
use native.Mathlib.Omega.{arith}
use lib.ListN.{length, take}
use Rattle.paper.specs.Lists.{is_nil}
use Rattle.paper.specs.Patterns.{Entry, standard}
use Rattle.paper.specs.Matches.{Occurrence, with_payloads, plain}
use Rattle.paper.specs.Automaton.{Machine, machine, output, end_at, Walk, fresh, step, on_first, says_plain}
use Rattle.paper.proofs.Plain.{says_plain_lem}
use Rattle.list.specs.Limits.{most_text}
use Rattle.list.specs.Claims.{Bytes}
use Rattle.table.specs.Agrees.{Tables, Agrees}
use Rattle.table.specs.declared.Row.{Row}
use Rattle.search.specs.declared.Search.{Search}
use Rattle.search.specs.Values as search
use Rattle.search.specs.Values.{Outcome, gives, ends, value_of, match_of, begun}
use Rattle.search.specs.Searches.{seek_of, rest, cleared, after_plain, walk_of, next_of}
use Rattle.search.proofs.Named.{output_at, ends_at}
use Rattle.meaning.specs.Repeated.{answers, said, then_end}
use Rattle.meaning.specs.Demands.{value_in, plain_moves, HasTaken, FewMoves}
use Rattle.meaning.proofs.Repeating.{Turn, repeated}
use Rattle.meaning.proofs.Counting.{all_taken, all_few}
use Rattle.meaning.proofs.Unrefused.{unrefused}
use Rattle.meaning.proofs.StandardWalk.{restarted, by_output, Standing, Comes, to_output, to_end, moves_are, moves_few, fits, root_stands, begun_stands, comes}

-- its walk begins again where something is put out
abbrev begins_again : List Entry → Bool
begins_again xs = not (is_nil xs)

-- a walk at root with these moves
abbrev at_root_with : ℕ → Walk
at_root_with moves = record { state = []; moves = moves }

-- what it has left to say: the first of the entries that are put out here and what the walk puts out from root on; without one, what it puts out from here on
abbrev left_plain : List Entry → Walk → ℕ → List Entry → List ℕ → List Occurrence
left_plain es w n xs t =
    on_first xs (says_plain (machine standard es) w n t) (λ x. end_at n x ∷ says_plain (machine standard es) (at_root_with w.moves) n t)

-- where the walk begins again it is at root
restarts : (again : List ℕ → Bool) (w : Walk) → again w.state ≡ true → restarted again w ≡ at_root_with w.moves
restarts again w e = rw e

module _ (T : Tables) (es : List Entry) (values text : List ℕ) (A : Agrees T standard es values) (bytes : Bytes text) (short : length text ≤ most_text) where
  abbrev M : Machine
  M = machine standard es

  abbrev next : Search → Outcome
  next v = next_of search.plain T 0 text v

  abbrev Stands : Walk → List Entry → Search → Type 0
  Stands = Standing T es values text begins_again

  -- a value has these matches left; between calls it has no output to give
  record Left (v : Search) (l : List Occurrence) : Type 0 where
    walk : Walk
    stands : Stands walk [] v
    is : l ≡ says_plain M walk v.place (rest text v)

  left_end : (w : Walk) (n : ℕ) → left_plain es w n [] [] ≡ []
  unfolding says_plain
  left_end w n = refl

  left_on : (w : Walk) (n c : ℕ) (t : List ℕ) → left_plain es w n [] (c ∷ t) ≡ left_plain es (step M w c) (suc n) (output M (step M w c).state) t
  unfolding says_plain
  left_on w n c t = refl

  -- the answer where the walk comes to an output, and at the text's end, from a value with no output to give
  cleared_same : (v : Search) → v.output ≡ 0 → cleared v ≡ v
  cleared_same v z = ap (λ (o : ℕ). value_of v.state o v.place v.moves) (sym z)

  output_answer : (v u : Search) (row : Row) → v.output ≡ 0 → seek_of false T v (rest text v) ≡ output_at row u
      → walk_of search.plain T text v ≡ gives (match_of row u.place) (after_plain u)
  output_answer v u row z e = rw (cleared_same v z, e)

  end_answer : (v u : Search) → v.output ≡ 0 → seek_of false T v (rest text v) ≡ ends_at u → walk_of search.plain T text v ≡ ends u
  end_answer v u z e = rw (cleared_same v z, e)

  -- after an output the value is at root, and so is the walk
  after_stands : (w : Walk) (x : Entry) (xs : List Entry) (u : Search) → Stands w (x ∷ xs) u → Stands (at_root_with u.moves) [] (after_plain u)
  after_stands w x xs u H =
      root_stands T es values text A bytes begins_again refl u.place u.moves H.inside
      (ap at_root_with H.at.counted ∙ sym (restarts (by_output begins_again es) w H.asked) ∙ H.walked)

  -- a call gives the first of what is left, or the end
  turns : (v : Search) (l : List Occurrence) → Left v l → Turn values Left (next v) l
  turns v l L =
      let walks = unrefused search.plain T 0 text v (⊎_elim (λ e. omega (arith, e)) (λ e. omega (arith, e))) (omega arith) A.rooms short
      (fits T es values text A bytes begins_again refl L.stands) in
      go walks (comes T es values text A bytes begins_again refl (left_plain es) left_end left_on L.walk [] v L.stands)
    where
      go : next v ≡ walk_of search.plain T text v
          → Comes T es values text begins_again (left_plain es) v (left_plain es L.walk v.place [] (rest text v))
          → Turn values Left (next v) l
      go q (to_output w x xs u H e d) = rw (q ∙ output_answer v u _ L.stands.chain e, L.is ∙ d)
          (record {
            says = refl;
            leaves = record {
              walk = at_root_with u.moves;
              stands = after_stands w x xs u H;
              is = ap (λ (m : ℕ). says_plain M (at_root_with m) u.place (rest text u)) (sym H.at.counted);
            };
          })
      go q (to_end w u H e d z) = rw (q ∙ end_answer v u L.stands.chain e, L.is ∙ z)
          (record { says = refl; leaves = record { walk = w; stands = H; is = sym z ∙ d } })

  -- a fresh search has all left
  begun_left : Left begun (says_plain M fresh 0 text)
  begun_left = record { walk = fresh; stands = begun_stands T es values text A bytes begins_again refl; is = refl }

  -- ---- demands 2 and 3

  pub says : (n : ℕ) → map said (answers next n begun) ≡ then_end n (with_payloads (value_in values) (plain es text))
  says n =
      repeated values next Left turns n begun (says_plain M fresh 0 text) begun_left
      ∙ ap (λ (l : List Occurrence). then_end n (with_payloads (value_in values) l)) (says_plain_lem es text)

  -- the moves that a value has made
  made : (v : Search) (l : List Occurrence) → Left v l → v.moves ≡ plain_moves es (take v.place text)
  made v l L = moves_are T es values text A bytes begins_again refl L.stands

  few : (v : Search) (l : List Occurrence) → Left v l → (v.place ≤ length text) × (v.moves ≤ 2 * v.place - 1)
  few v l L = (L.stands.inside, moves_few T es values text A bytes begins_again refl L.stands)

  pub moves : (n : ℕ) (o : Outcome) → Memᴰ o (answers next n begun) → HasTaken (plain_moves es) text o
  moves n = all_taken search.plain T 0 text (plain_moves es) values Left turns made n begun (says_plain M fresh 0 text) begun_left

  pub bound : (n : ℕ) (o : Outcome) → Memᴰ o (answers next n begun) → FewMoves text o
  bound n = all_few search.plain T 0 text (plain_moves es) values Left turns made few n begun (says_plain M fresh 0 text) begun_left
