-- The walk of a leftmost call over tables that agree is the paper's: with a match in hand it gives the match that the paper's call gives, and
-- up to the first output it goes where the paper's call goes. So the answer of the walk is what the paper's call gives.
use Rattle.std.specs.Prelude.{Some, None, Ok}
use mathlib.Core.Path.{◌≡◌, refl, sym, ap, ◌∙◌, subst}
use mathlib.Core.Bool.{true}
use mathlib.Core.List.{List, [], ◌∷◌, cons≢nil, Memᴰ}
use mathlib.Core.Option.{Option, none, some}
use Prim.Native.Nat.{ℕ, suc, ◌+◌, ◌≤◌, ◌<◌}
use native.Mathlib.Numerals.{add-one}
use native.Mathlib.Omega.{arith}
use lib.ListN.{length, drop, length-drop}
use lib.Seq.{get_or-drop, drop-drop}
use Rattle.paper.specs.Patterns.{Entry, Choice, leftmost}
use Rattle.paper.specs.Matches.{Occurrence}
use Rattle.paper.specs.Automaton.{Machine, machine, Walk, step, chain, output, end_at, keeping}
use Rattle.std.proofs.lemmas.Bool.{eq-eqb, ne_eqb}
use Rattle.paper.proofs.Machines.{state_root}
use Rattle.list.specs.Limits.{alphabet}
use Rattle.list.specs.Claims.{Bytes}
use Rattle.table.specs.Agrees.{Tables, Agrees, GivesAt, Chain, state_cell}
use Rattle.table.specs.declared.CellId.{CellId}
use Rattle.table.specs.declared.Row.{Row}
use Rattle.table.proofs.Agrees.{cell_root}
use Rattle.table.proofs.Claims as readers
use Rattle.search.specs.declared.Search.{Search}
use Rattle.search.specs.declared.Match.{Match}
use Rattle.search.specs.Values as search
use Rattle.search.specs.Values.{root, cell, value_of, match_of, Outcome, gives, ends, refuses}
use Rattle.search.specs.Walk.{step_of}
use Rattle.search.specs.Searches.{shown_at, seek_of, keep_of, rest, on_sought, on_kept, after_leftmost, at_output, at_end, walk_of}
use Rattle.meaning.specs.Demands.{value_in}
use Rattle.meaning.proofs.Steps.{At, steps}
use Rattle.meaning.proofs.Lengths.{step_length, output_length}
use Rattle.meaning.proofs.LeftmostPaper.{walk_at, given, given_end, given_none, given_root, given_on}

-- a match of the paper with its row's value
abbrev pub match_in : List ℕ → Occurrence → Match
match_in values f = record { start = f.start; end = f.end; value = value_in values f.row }

-- the answer of a call that gives this match, or of one that gives none on a text of so many bytes
abbrev pub answer_in : List ℕ → ℕ → Option Occurrence → Outcome
answer_in values size none = ends (after_leftmost size)
answer_in values size (some f) = gives (match_in values f) (after_leftmost f.end)

-- the bytes after the first
bytes_after : (c : ℕ) (t : List ℕ) → Bytes (c ∷ t) → Bytes t
bytes_after c t B k = B (suc k)

-- a text's bytes from the next place on
drop_next : (text : List ℕ) (n c : ℕ) (t : List ℕ) → drop n text ≡ c ∷ t → drop (suc n) text ≡ t
drop_next text n c t e = ap (λ (k : ℕ). drop k text) (sym (add-one n)) ∙ sym (drop-drop 1 n text) ∙ ap (drop 1) e

module _ (T : Tables) (choice : Choice) (es : List Entry) (values : List ℕ) (A : Agrees T (leftmost choice) es values) where
  abbrev M : Machine
  M = machine (leftmost choice) es

  -- ---- what stands at the output place of a value

  -- where nothing is put out, nothing stands there
  silent : (v : Search) → Chain T values v.output [] → shown_at T v ≡ Ok None
  silent v e = ((readers.claims).ended T.outs T.accepted v.output v.place).1 e

  -- the first that is put out, with its value and its length
  abbrev row_of : (p : ℕ) (x : Entry) → GivesAt T values p x → Row
  row_of p x t = record { value = value_in values x.row; length = length x.word; next = t.next }

  spoken : (v : Search) (x : Entry) (t : GivesAt T values v.output x) → length x.word ≤ v.place
      → shown_at T v ≡ Ok (Some (row_of v.output x t))
  spoken v x t h = t.given v.place h

  -- ---- a byte

  -- a value after n bytes stands where a walk is, whose state is no longer than that
  record Here (w : Walk) (n : ℕ) (v : Search) : Type 0 where
    at : At T es w v
    place : v.place ≡ n
    long : length w.state ≤ n

  -- what is put out there begins in the text
  fits : {w : Walk} {n : ℕ} {v : Search} → Here w n v → (x : Entry) (xs : List Entry) → output M w.state ≡ x ∷ xs → length x.word ≤ v.place
  fits {w} H x xs e =
      let m : Memᴰ x (output M w.state) = subst (λ (l : List Entry). Memᴰ x l) (sym e) (mathlib.Core.List.Memᴰ.head refl) in
      omega (arith, output_length (leftmost choice) es w.state x m, H.long, H.place)

  -- where the next byte takes it
  record Next (w : Walk) (n : ℕ) (v : Search) (c : ℕ) : Type 0 where
    value : Search
    gone : step_of true T v c ≡ Ok value
    here : Here (step M w c) (suc n) value
    shows : Chain T values value.output (output M (step M w c).state)

  next : (w : Walk) (n : ℕ) (v : Search) (c : ℕ) → Here w n v → c < alphabet → Next w n v c
  next w n v c H b =
      let S = steps T (leftmost choice) es values A w v c H.at b in
      record {
        value = value_of (cell (state_cell T (step M w c).state)) S.place (v.place + 1) (step M w c).moves;
        gone = S.gone;
        here = record {
          at = record { state = S.state; there = refl; counted = refl };
          place = add-one v.place ∙ ap suc H.place;
          long = omega (arith, step_length M w c, H.long);
        };
        shows = S.shows;
      }

  -- ---- with a match in hand

  -- the first that is put out is kept with its end
  spoken_match : (w : Walk) (n : ℕ) (u : Search) (x : Entry) (t : GivesAt T values u.output x) → Here w n u
      → match_of (row_of u.output x t) u.place ≡ match_in values (end_at n x)
  spoken_match w n u x t H = ap (match_of (row_of u.output x t)) H.place

  module _ (size : ℕ) (back : Outcome) where
    -- the answer that is made of the match kept last
    abbrev kept : Match → Search → List ℕ → Outcome
    kept m v t = on_kept (keep_of T m v t) (λ k stop. gives k (after_leftmost k.end)) back

    -- it is what the paper's call gives
    abbrev Keeps : List ℕ → Type 0
    Keeps t = (w : Walk) (n : ℕ) (v : Search) (f : Occurrence) → Here w n v → Bytes t
        → kept (match_in values f) v t ≡ answer_in values size (given M w n (some f) t)

    -- at the text's end it is the match in hand
    keep_end : Keeps []
    unfolding keep_of
    keep_end w n v f H B = rw (given_end M w n (some f))

    -- a byte that ends at root gives the match in hand; else the first that is put out there takes its place, if there is one
    keep_byte : (c : ℕ) (t : List ℕ) → Keeps t → Keeps (c ∷ t)
    unfolding keep_of
    keep_byte c t more w n v f H B = go (step M w c).state refl
      where
        N : Next w n v c
        N = next w n v c H (B 0)

        u : Search
        u = N.value

        there : u.state.0 ≡ state_cell T (step M w c).state
        there = ap (λ (i : CellId). i.0) N.here.at.there

        not_root : (x : ℕ) (s : List ℕ) → (step M w c).state ≡ x ∷ s → u.state.0 ≡ root → ⊥
        not_root x s e z = cons≢nil (sym e ∙ A.apart (step M w c).state [] N.here.at.state (state_root es) (sym there ∙ z ∙ sym (cell_root T)))

        on : (x : ℕ) (s : List ℕ) → (step M w c).state ≡ x ∷ s → (l : List Entry) → output M (step M w c).state ≡ l → Chain T values u.output l
            → kept (match_in values f) v (c ∷ t) ≡ answer_in values size (given M w n (some f) (c ∷ t))
        on x s e [] o C =
            rw (N.gone, ne_eqb u.state.0 root (not_root x s e), silent u C, given_on M w n c (some f) t x s e, o)
            (more (step M w c) (suc n) u f N.here (bytes_after c t B))
        on x s e (y ∷ ys) o C =
            rw (
              N.gone,
              ne_eqb u.state.0 root (not_root x s e),
              spoken u y C.0 (fits N.here y ys o),
              spoken_match (step M w c) (suc n) u y C.0 N.here,
              given_on M w n c (some f) t x s e,
              o,
            )
            (more (step M w c) (suc n) u (end_at (suc n) y) N.here (bytes_after c t B))

        go : (s : List ℕ) → (step M w c).state ≡ s → kept (match_in values f) v (c ∷ t) ≡ answer_in values size (given M w n (some f) (c ∷ t))
        go [] e =
            let z : u.state.0 ≡ root = there ∙ ap (state_cell T) e ∙ cell_root T in
            rw (N.gone, eq-eqb u.state.0 root z, given_root M w n c f t e)
        go (x ∷ s) e = on x s e (output M (step M w c).state) refl N.shows

    keep_says : (t : List ℕ) → Keeps t
    keep_says [] = keep_end
    keep_says (c ∷ t) = keep_byte c t (keep_says t)

  -- ---- up to the first output

  module _ (text : List ℕ) (origin : Search) where
    -- the answer that is made of where the walk comes to
    abbrev sought : Search → List ℕ → Outcome
    sought v t = on_sought (seek_of true T v t) (at_output search.leftmost T text origin) (at_end search.leftmost) (refuses 11 origin)

    -- a value has these bytes of the text to take, and what is put out where it stands to give
    record Left (w : Walk) (n : ℕ) (v : Search) (t : List ℕ) : Type 0 where
      here : Here w n v
      bytes : Bytes t
      shows : Chain T values v.output (output M w.state)
      left : drop n text ≡ t
      all : n + length t ≡ length text

    -- it is what the paper's call gives
    abbrev Seeks : List ℕ → Type 0
    Seeks t = (w : Walk) (n : ℕ) (v : Search) → Left w n v t
        → sought v t ≡ answer_in values (length text) (given M w n (keeping n (output M w.state) none) t)

    -- an output is kept, and the walk goes on with it in hand
    seek_output : (t : List ℕ) (w : Walk) (n : ℕ) (v : Search) → Left w n v t → (x : Entry)
        → (s : GivesAt T values v.output x)
        → at_output search.leftmost T text origin (row_of v.output x s) v ≡ answer_in values (length text) (given M w n (some (end_at n x)) t)
    seek_output t w n v L x s =
        let r : rest text v ≡ t = ap (λ (k : ℕ). drop k text) L.here.place ∙ L.left in
        rw (spoken_match w n v x s L.here, r) (keep_says (length text) (refuses 11 origin) t w n v (end_at n x) L.here L.bytes)

    -- at the text's end with nothing put out it is the end
    seek_end : Seeks []
    unfolding seek_of
    seek_end w n v L = go (output M w.state) refl L.shows
      where
        go : (l : List Entry) → output M w.state ≡ l → Chain T values v.output l
            → sought v [] ≡ answer_in values (length text) (given M w n (keeping n l none) [])
        go [] o C = rw (silent v C, given_end M w n none) (ap (λ (k : ℕ). ends (after_leftmost k)) (L.here.place ∙ omega (arith, L.all)))
        go (x ∷ xs) o C = rw (spoken v x C.0 (fits L.here x xs o)) (seek_output [] w n v L x C.0)

    -- where nothing is put out the byte is taken
    seek_byte : (c : ℕ) (t : List ℕ) → Seeks t → Seeks (c ∷ t)
    unfolding seek_of
    seek_byte c t more w n v L = go (output M w.state) refl L.shows
      where
        N : Next w n v c
        N = next w n v c L.here (L.bytes 0)

        after : Left (step M w c) (suc n) N.value t
        after =
            record {
              here = N.here;
              bytes = bytes_after c t L.bytes;
              shows = N.shows;
              left = drop_next text n c t L.left;
              all = omega (arith, L.all);
            }

        go : (l : List Entry) → output M w.state ≡ l → Chain T values v.output l
            → sought v (c ∷ t) ≡ answer_in values (length text) (given M w n (keeping n l none) (c ∷ t))
        go [] o C = rw (silent v C, N.gone, given_none M w n c t) (more (step M w c) (suc n) N.value after)
        go (x ∷ xs) o C = rw (spoken v x C.0 (fits L.here x xs o)) (seek_output (c ∷ t) w n v L x C.0)

    seek_says : (t : List ℕ) → Seeks t
    seek_says [] = seek_end
    seek_says (c ∷ t) = seek_byte c t (seek_says t)

  -- ---- a call

  -- the answer of the walk from root at p
  pub walk_says : (text : List ℕ) (p : ℕ) → Bytes text → p ≤ length text
      → walk_of search.leftmost T text (after_leftmost p) ≡ answer_in values (length text) (given M (walk_at [] 0) p none (drop p text))
  unfolding chain
  walk_says text p B h =
      seek_says text (after_leftmost p) (drop p text) (walk_at [] 0) p (after_leftmost p)
      (record {
        here = record {
          at = record { state = state_root es; there = ap cell (sym (cell_root T)); counted = refl };
          place = refl;
          long = omega arith;
        };
        bytes = λ k. rw (get_or-drop p text k 0) (B (p + k));
        shows = refl;
        left = refl;
        all = omega (arith, length-drop p text);
      })
