-- The walk of a call of a standard search, over tables of kind Standard that agree: the value that it moves stands where the paper's walk over the bytes
-- taken so far is, and it comes to the first output or to the text's end. Overlapping and plain search differ in what they have left to say and in where
-- their walks begin again, which are parameters here.
use Rattle.std.specs.Prelude.{Some, None, Ok}
use mathlib.Core.Path.{◌≡◌, refl, sym, ap, ◌∙◌}
use mathlib.Core.Bool.{Bool, false}
use mathlib.Core.List.Memᴰ
use mathlib.Core.List.{List, [], ◌∷◌, ◌++◌, Memᴰ}
use Prim.Native.Nat.{ℕ, zero, suc, ◌+◌, ◌*◌, ◌-◌, ◌≤◌, ◌<◌}
use native.Mathlib.Numerals.{add-one}
use native.Mathlib.Omega.{arith}
use lib.Dec.{ltb}
use lib.ListN.{length, take, drop, get_or, drop_of_length-le}
use lib.Seq.{length-take-le, take-suc, drop-cons}
use Rattle.paper.specs.Lists.{pick}
use Rattle.paper.specs.Patterns.{Entry, standard}
use Rattle.paper.specs.Matches.{Occurrence}
use Rattle.paper.specs.Automaton.{Machine, machine, chain, output, Walk, fresh, step, walk}
use Rattle.std.proofs.lemmas.Bool.{ltb-true, ltb-false}
use Rattle.paper.proofs.Tests.{test}
use Rattle.paper.proofs.Moves.{moves_bound}
use Rattle.paper.proofs.Machines.{state_root}
use Rattle.list.specs.Claims.{Bytes}
use Rattle.table.specs.Agrees.{Tables, Agrees, Chain, state_cell}
use Rattle.table.specs.declared.Row.{Row}
use Rattle.table.proofs.Agrees.{cell_root}
use Rattle.table.proofs.Claims as readers
use Rattle.search.specs.declared.Search.{Search}
use Rattle.search.specs.Values.{root, cell, value_of, begun}
use Rattle.search.specs.Walk.{step_of}
use Rattle.search.specs.Searches.{shown_at, seek_of, rest}
use Rattle.search.proofs.Named.{output_at, ends_at}
use Rattle.meaning.specs.Demands.{value_in}
use Rattle.meaning.proofs.Steps.{At, Stepping, steps}
use Rattle.meaning.proofs.Lengths.{step_length, output_length}
use Rattle.meaning.proofs.Unrefused.{Admissible}

-- ---- the paper's walk, a byte at a time

-- a walk begins again at root in the states of which the test holds
abbrev pub restarted : (List ℕ → Bool) → Walk → Walk
restarted again w = record { state = pick (again w.state) [] w.state; moves = w.moves }

-- where nothing asks for it, it goes on
pub not_restarted : (again : List ℕ → Bool) (w : Walk) → again w.state ≡ false → restarted again w ≡ w
not_restarted again w e = rw e

walk_append : (M : Machine) (again : List ℕ → Bool) (w : Walk) (t : List ℕ) (c : ℕ)
    → walk M again w (t ++ (c ∷ [])) ≡ restarted again (step M (walk M again w t) c)
unfolding walk
walk_append M again w [] c = refl
walk_append M again w (d ∷ t) c = walk_append M again (restarted again (step M w d)) t c

-- the walk over one byte more of a text
walk_next : (M : Machine) (again : List ℕ → Bool) (w : Walk) (text : List ℕ) (n : ℕ) → n < length text
    → walk M again w (take (suc n) text) ≡ restarted again (step M (walk M again w (take n text)) (get_or text n 0))
walk_next M again w text n h = ap (walk M again w) (take-suc text n 0 h) ∙ walk_append M again w (take n text) (get_or text n 0)

-- ---- where a value stands

-- the test of a walk that begins again by what is put out
abbrev pub by_output : (List Entry → Bool) → List Entry → List ℕ → Bool
by_output begins es s = begins (output (machine standard es) s)

-- the walk over the first bytes of a text
abbrev pub walk_to : (List Entry → Bool) → List Entry → List ℕ → ℕ → Walk
walk_to begins es text n = walk (machine standard es) (by_output begins es) fresh (take n text)

-- a value stands where the walk over the bytes that it has taken is, before it begins again; it has these entries still to give there
pub record Standing (T : Tables) (es : List Entry) (values text : List ℕ) (begins : List Entry → Bool) (w : Walk) (xs : List Entry) (v : Search) : Type 0 where
  pub at : At T es w v
  pub chain : Chain T values v.output xs
  pub fit : (x : Entry) → Memᴰ x xs → length x.word ≤ v.place
  pub shallow : length w.state ≤ v.place
  pub asked : by_output begins es w.state ≡ begins xs
  pub walked : restarted (by_output begins es) w ≡ walk_to begins es text v.place
  pub inside : v.place ≤ length text

-- ---- the look for an output, by its ways

module _ (falling : Bool) (T : Tables) where
  seek_given : (v : Search) (bytes : List ℕ) (row : Row) → shown_at T v ≡ Ok (Some row) → seek_of falling T v bytes ≡ output_at row v
  unfolding seek_of
  seek_given v [] row e = rw e
  seek_given v (c ∷ bytes) row e = rw e

  seek_end : (v : Search) → shown_at T v ≡ Ok None → seek_of falling T v [] ≡ ends_at v
  unfolding seek_of
  seek_end v e = rw e

  seek_on : (v u : Search) (c : ℕ) (bytes : List ℕ) → shown_at T v ≡ Ok None → step_of falling T v c ≡ Ok u
      → seek_of falling T v (c ∷ bytes) ≡ seek_of falling T u bytes
  unfolding seek_of
  seek_on v u c bytes e k = rw (e, k)

-- the row of an entry, before a next place
abbrev pub row_of : List ℕ → Entry → ℕ → Row
row_of values x next = record { value = value_in values x.row; length = length x.word; next = next }

-- what the look for an output comes to from a value with l left to say: to the first of the entries that a value has to give, with the same left to
-- say, or to the text's end, with nothing left
pub data Comes (T : Tables) (es : List Entry) (values text : List ℕ) (begins : List Entry → Bool) (left : Walk → ℕ → List Entry → List ℕ → List Occurrence)
    (v : Search) (l : List Occurrence) : Type 0 where
  to_output : (w : Walk) (x : Entry) (xs : List Entry) (u : Search) (H : Standing T es values text begins w (x ∷ xs) u)
      → seek_of false T v (rest text v) ≡ output_at (row_of values x H.chain.0.next) u
      → l ≡ left w u.place (x ∷ xs) (rest text u)
      → Comes T es values text begins left v l
  to_end : (w : Walk) (u : Search) → Standing T es values text begins w [] u → seek_of false T v (rest text v) ≡ ends_at u
      → l ≡ left w u.place [] (rest text u)
      → l ≡ []
      → Comes T es values text begins left v l

module _ (T : Tables) (es : List Entry) (values text : List ℕ) (A : Agrees T standard es values) (bytes : Bytes text) (begins : List Entry → Bool)
    (none : begins [] ≡ false) where
  abbrev M : Machine
  M = machine standard es

  abbrev Stands : Walk → List Entry → Search → Type 0
  Stands = Standing T es values text begins

  -- its moves are those of the walk
  pub moves_are : {w : Walk} {xs : List Entry} {v : Search} → Stands w xs v → v.moves ≡ (walk_to begins es text v.place).moves
  moves_are H = H.at.counted ∙ ap (λ (u : Walk). u.moves) H.walked

  -- so they are at most 2n - 1 after n bytes
  pub moves_few : {w : Walk} {xs : List Entry} {v : Search} → Stands w xs v → v.moves ≤ 2 * v.place - 1
  moves_few {v = v} H =
      omega (arith, moves_are H, moves_bound M (by_output begins es) (take v.place text), length-take-le v.place text H.inside)

  -- what is shown there: the first of the entries, or nothing
  shows_first : {w : Walk} {x : Entry} {xs : List Entry} {v : Search} (H : Stands w (x ∷ xs) v)
      → shown_at T v ≡ Ok (Some (row_of values x H.chain.0.next))
  shows_first {x = x} {v = v} H = H.chain.0.given v.place (H.fit x (Memᴰ.head refl))

  shows_nothing : {w : Walk} {v : Search} → Stands w [] v → shown_at T v ≡ Ok None
  shows_nothing {v = v} H = ((readers.claims).ended T.outs T.accepted v.output v.place).1 H.chain

  -- its output place is one of the outputs, or none
  output_inside : {w : Walk} {v : Search} (xs : List Entry) → Stands w xs v → v.output ≤ T.accepted
  output_inside [] H = omega (arith, H.chain)
  output_inside {v = v} (x ∷ xs) H =
      (((readers.claims).given T.outs T.accepted v.output v.place (value_in values x.row) (length x.word) H.chain.0.next).0
      (shows_first H)).inside

  -- so a call on it is not refused
  pub fits : {w : Walk} {xs : List Entry} {v : Search} → Stands w xs v → Admissible T (length text) v
  fits {w} {xs} {v} H =
      record {
        state = rw H.at.there (A.inside w.state H.at.state);
        output = output_inside xs H;
        place = H.inside;
        moves = omega (arith, moves_few H);
      }

  -- a value at root with nothing to give stands there, if the walk is there too
  pub root_stands : (n m : ℕ) → n ≤ length text → record { state = []; moves = m } ≡ walk_to begins es text n
      → Stands (record { state = []; moves = m }) [] (value_of (cell root) 0 n m)
  unfolding chain
  root_stands n m h e =
      record {
        at = record { state = state_root es; there = ap cell (sym (cell_root T)); counted = refl };
        chain = refl;
        fit = λ x k. absurd (Memᴰ.not-nil k);
        shallow = omega arith;
        asked = refl;
        walked = not_restarted (by_output begins es) (record { state = []; moves = m }) none ∙ e;
        inside = h;
      }

  -- so does the value that a search begins with
  pub begun_stands : Stands fresh [] begun
  unfolding walk
  begun_stands = root_stands 0 0 (omega arith) refl

  -- ---- a byte

  -- the next byte of a value with nothing to give
  abbrev byte_at : Search → ℕ
  byte_at v = get_or text v.place 0

  module _ {w : Walk} {v : Search} (H : Stands w [] v) (more : v.place < length text) where
    abbrev next : Walk
    next = step M w (byte_at v)

    abbrev went : Stepping T standard es values w v (byte_at v)
    went = steps T standard es values A w v (byte_at v) H.at (bytes v.place)

    -- the value after it
    abbrev moved : Search
    moved = value_of (cell (state_cell T next.state)) went.place (v.place + 1) next.moves

    next_shallow : length next.state ≤ v.place + 1
    next_shallow = omega (arith, step_length M w (byte_at v), H.shallow)

    next_walked : restarted (by_output begins es) next ≡ walk_to begins es text (v.place + 1)
    next_walked =
        let here : walk_to begins es text v.place ≡ w = sym H.walked ∙ not_restarted (by_output begins es) w (H.asked ∙ none) in
        sym
        (ap (walk_to begins es text) (add-one v.place) ∙ walk_next M (by_output begins es) fresh text v.place more
        ∙ ap (λ (u : Walk). restarted (by_output begins es) (step M u (byte_at v))) here)

    next_stands : Stands next (output M next.state) moved
    next_stands =
        record {
          at = record { state = went.state; there = refl; counted = refl };
          chain = went.shows;
          fit = λ x m. omega (arith, output_length standard es next.state x m, next_shallow);
          shallow = next_shallow;
          asked = refl;
          walked = next_walked;
          inside = omega arith;
        }

    -- the walk goes on there
    next_seek : seek_of false T v (rest text v) ≡ seek_of false T moved (rest text moved)
    next_seek =
        ap (seek_of false T v) (drop-cons text v.place 0 more)
        ∙ seek_on false T v moved (byte_at v) (drop (suc v.place) text) (shows_nothing H) went.gone
        ∙ ap (λ (n : ℕ). seek_of false T moved (drop n text)) (sym (add-one v.place))

  -- ---- up to an output or the text's end

  -- what is left to say after n bytes, where the walk is and with these entries to give: nothing at the text's end, else it is so after the next byte
  module _ (left : Walk → ℕ → List Entry → List ℕ → List Occurrence)
      (left_end : (w : Walk) (n : ℕ) → left w n [] [] ≡ [])
      (left_on : (w : Walk) (n c : ℕ) (t : List ℕ) → left w n [] (c ∷ t) ≡ left (step M w c) (suc n) (output M (step M w c).state) t) where
    abbrev ComesTo : Search → List Occurrence → Type 0
    ComesTo = Comes T es values text begins left

    -- the value after a byte has the same left to say
    next_left : {w : Walk} {v : Search} (H : Stands w [] v) (more : v.place < length text)
        → left w v.place [] (rest text v)
        ≡ left (next H more) (moved H more).place (output M (next H more).state) (rest text (moved H more))
    next_left {w} {v} H more =
        rw (drop-cons text v.place 0 more, add-one v.place) (left_on w v.place (byte_at v) (drop (suc v.place) text))

    comes_back : {v u : Search} {l r : List Occurrence} → seek_of false T v (rest text v) ≡ seek_of false T u (rest text u) → l ≡ r → ComesTo u r → ComesTo v l
    comes_back e k (to_output w x xs a H q d) = to_output w x xs a H (e ∙ q) (k ∙ d)
    comes_back e k (to_end w a H q d z) = to_end w a H (e ∙ q) (k ∙ d) (k ∙ z)

    -- with an entry to give it is there
    comes_here : (w : Walk) (x : Entry) (xs : List Entry) (v : Search) → Stands w (x ∷ xs) v → ComesTo v (left w v.place (x ∷ xs) (rest text v))
    comes_here w x xs v H = to_output w x xs v H (seek_given false T v (rest text v) _ (shows_first H)) refl

    -- without one it is at the text's end
    comes_last : (w : Walk) (v : Search) → Stands w [] v → length text ≤ v.place → ComesTo v (left w v.place [] (rest text v))
    comes_last w v H h =
        let over : rest text v ≡ [] = drop_of_length-le text h in
        to_end w v H (rw over (seek_end false T v (shows_nothing H))) refl (rw over (left_end w v.place))

    -- or it comes there by the next byte
    comes_next : (w : Walk) (v : Search) (H : Stands w [] v) (more : v.place < length text)
        → ComesTo (moved H more) (left (next H more) (moved H more).place (output M (next H more).state) (rest text (moved H more)))
        → ComesTo v (left w v.place [] (rest text v))
    comes_next w v H more C = comes_back (next_seek H more) (next_left H more) C

    -- the number bounds the bytes that are left
    comes_by : (n : ℕ) (w : Walk) (xs : List Entry) (v : Search) → Stands w xs v → length text ≤ v.place + n
        → ComesTo v (left w v.place xs (rest text v))
    comes_by zero w [] v H h = comes_last w v H (omega arith)
    comes_by zero w (x ∷ xs) v H h = comes_here w x xs v H
    comes_by (suc n) w [] v H h =
        test (ltb v.place (length text))
        (λ e. let more = ltb-true v.place (length text) e in
        comes_next w v H more (comes_by n (next H more) (output M (next H more).state) (moved H more) (next_stands H more) (omega arith)))
        (λ e. comes_last w v H (ltb-false v.place (length text) e))
    comes_by (suc n) w (x ∷ xs) v H h = comes_here w x xs v H

    -- what the look for an output comes to from a value
    pub comes : (w : Walk) (xs : List Entry) (v : Search) → Stands w xs v → ComesTo v (left w v.place xs (rest text v))
    comes w xs v H = comes_by (length text) w xs v H (omega arith)
