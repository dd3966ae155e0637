-- What repeated calls say, and what their answers hand back, is what a sheet holds.
use mathlib.Core.Path.{◌≡◌, refl, sym, ap, ◌∙◌, subst}
use mathlib.Core.Bool.{Bool, true, false}
use mathlib.Core.List.{List, [], ◌∷◌, map, Memᴰ, head-eq_of_cons-eq, tail-eq_of_cons-eq}
use mathlib.Core.Logic.{⊎_elim}
use mathlib.Core.Option.{Option, none, some}
use Prim.Native.Nat.{ℕ, zero, suc}
use native.Mathlib.Omega.{arith}
use lib.Dec.{ltb}
use lib.ListN.{length, take}
use lib.Seq.{take-length}
use Rattle.paper.specs.Lists.{pick}
use Rattle.paper.specs.Matches.{Match}
use Rattle.paper.specs.Automaton.{walk}
use Rattle.std.proofs.lemmas.Bool.{ltb-true, lt-ltb, le-ltb}
use Rattle.paper.proofs.Tests.{true_both}
use Rattle.list.specs.Refusals.{Told, lowest}
use Rattle.search.specs.declared.Search.{Search}
use Rattle.search.specs.declared.Match as search
use Rattle.search.specs.Values.{Which, Outcome, gives, ends, refuses, begun}
use Rattle.search.specs.Searches.{is_leftmost, next_of}
use Rattle.table.specs.Agrees.{Tables}
use Rattle.search.proofs.Claims as searches
use Rattle.sheet.specs.Sheet.{full, ended, refused, record_of, Load, stopping, with_record, on_answer, load_of, barred, at_once, sheet_of}
use Rattle.sheet.proofs.Beginning.{loads}
use Rattle.sheet.proofs.Claims as sheets-claims
use Rattle.sheet.proofs.Claims.{load_ended, sheet_once}
use Rattle.meaning.specs.Repeated.{handed_back, answers, match, end, said, then_end}
use Rattle.meaning.proofs.Repeating.{take_ends}
use Rattle.meaning.specs.Demands.{walk_moves, plain_moves, no_moves, HasTaken}
use Rattle.day.specs.EndToEnd.{GoodBuild, tables_left, searches, listed}
use Rattle.day.specs.Sheets.{Holds, SheetDay, SheetDayClaims}
use Rattle.day.proofs.EndToEnd as day

-- ---- whether a slot is to spare

spare_none : (k : ℕ) → ltb k 0 ≡ false
spare_none k = le-ltb k 0 (omega arith)

spare_all : (n : ℕ) → ltb 0 (suc n) ≡ true
spare_all n = lt-ltb 0 (suc n) (omega arith)

spare_next : (k n : ℕ) → ltb k n ≡ ltb (suc k) (suc n)
spare_next k n =
    true_both (ltb k n) (ltb (suc k) (suc n)) (λ e. lt-ltb (suc k) (suc n) (omega (arith, ltb-true k n e)))
    (λ e. lt-ltb k n (omega (arith, ltb-true (suc k) (suc n) e)))

-- ---- a load by its sayings

module _ (next : Search → Outcome) (moves : List ℕ → ℕ) (text : List ℕ) where
  -- an answer that says the end leaves nothing
  at_end_lem : (o : Outcome) (n p : ℕ) (go_on : search.Match → Search → Load) → said o ≡ end → HasTaken moves text o
      → Holds moves text (suc n) [] p (on_answer o go_on)
  at_end_lem (ends u) n p go_on e C =
      record {
        records_are = refl;
        stops = rw (spare_all n);
        taken = rw (spare_all n) C.0;
        moved = rw (spare_all n) (C.1 ∙ sym (ap moves (take-length text)));
      }
  at_end_lem (gives m u) n p go_on e C = cc
  at_end_lem (refuses k u) n p go_on e C = absurd C

  -- one that says a match puts it before what follows
  at_match : (o : Outcome) (n p : ℕ) (m : Match ℕ) (l : List (Match ℕ)) (go_on : Search → Load) → said o ≡ match m → HasTaken moves text o
      → ((u : Search) → u ≡ handed_back o → u.place ≡ m.end → u.moves ≡ moves (take m.end text) → Holds moves text n l m.end (go_on u))
      → Holds moves text (suc n) (m ∷ l) p (on_answer o (λ m' u. with_record (record_of m') (go_on u)))
  at_match (ends u) n p m l go_on e C more = cc
  at_match (gives m' u) n p m l go_on e C more =
      let same : m'.end ≡ m.end = cc in
      let H = more u refl (C.0 ∙ same) (C.1 ∙ ap (λ (k : ℕ). moves (take k text)) same) in
      record {
        records_are = cc H.records_are;
        stops = rw (← spare_next (length l) n) H.stops;
        taken = rw (← spare_next (length l) n) H.taken;
        moved = rw (← spare_next (length l) n) H.moved;
      }
  at_match (refuses k u) n p m l go_on e C more = cc

  -- so many sayings of these matches and then the end, each with its value, are a load of them
  loaded : (n : ℕ) (v : Search) (p : ℕ) (l : List (Match ℕ)) → v.place ≡ p → v.moves ≡ moves (take p text)
      → map said (answers next n v) ≡ then_end n l
      → ((o : Outcome) → Memᴰ o (answers next n v) → HasTaken moves text o)
      → Holds moves text n l p (load_of next n v)
  unfolding load_of answers
  loaded zero v p l here made e C =
      record {
        records_are = refl;
        stops = rw (spare_none (length l));
        taken = rw (spare_none (length l)) here;
        moved = rw (spare_none (length l)) made;
      }
  loaded (suc n) v p [] here made e C =
      at_end_lem (next v) n p (λ m u. with_record (record_of m) (load_of next n u)) (head-eq_of_cons-eq e) (C (next v) (Memᴰ.head refl))
  loaded (suc n) v p (m ∷ l) here made e C =
      at_match (next v) n p m l (load_of next n) (head-eq_of_cons-eq e) (C (next v) (Memᴰ.head refl))
      (λ u is place moved.
      loaded n u m.end l place moved
      (ap (λ (x : Search). map said (answers next n x)) is ∙ tail-eq_of_cons-eq e ∙ take_ends n n (map match l) (omega arith))
      (λ o k. C o (Memᴰ.tail (rw (← is) k))))

  -- the answer after the one that is the end is one of the answers in turn
  after_by : (n : ℕ) (v : Search) (o : Outcome) → next v ≡ o
      → ((u : Search) → ((k : ℕ) (a : Outcome) → Memᴰ a (answers next k u) → HasTaken moves text a) → (load_of next n u).stop ≡ ended
      → HasTaken moves text (next (load_of next n u).value))
      → ((k : ℕ) (a : Outcome) → Memᴰ a (answers next k v) → HasTaken moves text a)
      → (on_answer o (λ m u. with_record (record_of m) (load_of next n u))).stop ≡ ended
      → HasTaken moves text (next (on_answer o (λ m u. with_record (record_of m) (load_of next n u))).value)
  unfolding answers
  after_by n v (ends u) q more C e = C 2 (next u) (Memᴰ.tail (Memᴰ.head (ap (λ (o : Outcome). next (handed_back o)) (sym q))))
  after_by n v (gives m u) q more C e = more u (λ k a h. C (suc k) a (Memᴰ.tail (rw q h))) e
  after_by n v (refuses k u) q more C e = cc

  after_end : (n : ℕ) (v : Search) → ((k : ℕ) (a : Outcome) → Memᴰ a (answers next k v) → HasTaken moves text a) → (load_of next n v).stop ≡ ended
      → HasTaken moves text (next (load_of next n v).value)
  unfolding load_of
  after_end zero v C e = cc
  after_end (suc n) v C e = after_by n v (next v) refl (after_end n) C e

-- ---- a sheet

-- 9 and 10 are no stop of a load that holds matches
never_refused : (b : Bool) (n : ℕ) → pick b ended full ≡ refused n → ⊥
never_refused true n e = cc
never_refused false n e = cc

module _ (w : Which) (T : Tables) (kind : ℕ) (text : List ℕ) (moves : List ℕ → ℕ) (l : List (Match ℕ)) (none_yet : moves [] ≡ 0)
    (says : (n : ℕ) → map said (answers (next_of w T kind text) n begun) ≡ then_end n l)
    (counts : (n : ℕ) (o : Outcome) → Memᴰ o (answers (next_of w T kind text) n begun) → HasTaken moves text o) where
  -- with a slot
  slotted : (n : ℕ) → Holds moves text (suc n) l 0 (sheet_of w T kind text (suc n) begun)
  slotted n =
      rw (← loads w T kind text begun (suc n) (omega arith))
      (loaded (next_of w T kind text) moves text (suc n) begun 0 l refl (sym none_yet) (says (suc n)) (counts (suc n)))

  -- so 9 and 10 don't apply
  open_to_all : (o : Option Told) → lowest (barred (is_leftmost w) kind (length text)) ≡ o → at_once o ≡ full
  open_to_all none e = refl
  open_to_all (some t) e =
      let one = (slotted 0).stops in
      let told = (sheets-claims.claims w T kind text begun).told_first 1 t e in
      absurd (never_refused (ltb (length l) 1) t.number (sym one ∙ ap (λ (x : Load). x.stop) told))

  held : (slots : ℕ) → Holds moves text slots l 0 (sheet_of w T kind text slots begun)
  unfolding sheet_of
  held zero =
      record {
        records_are = refl;
        stops = rw (spare_none (length l)) (open_to_all _ refl);
        taken = rw (spare_none (length l)) refl;
        moved = rw (spare_none (length l)) (sym none_yet);
      }
  held (suc n) = slotted n

  -- after the end there is no refusal
  ended_again : (slots k : ℕ) → (sheet_of w T kind text slots begun).stop ≡ ended
      → sheet_of w T kind text (suc k) (sheet_of w T kind text slots begun).value ≡ stopping ended (sheet_of w T kind text slots begun).value
  unfolding sheet_of
  ended_again zero k e = cc (open_to_all _ refl)
  ended_again (suc n) k e =
      let next : Search → Outcome = next_of w T kind text in
      let x = (load_of next (suc n) begun).value in
      let E = load_ended next (suc n) begun e in
      let H = after_end next moves text (suc n) begun counts e in
      ⊎_elim (λ q. sheet_once w T kind text begun k x (ends x) q) (λ q. absurd (subst (HasTaken moves text) q H))
      ((searches.claims w T kind text E.came).end_again x E.ended_there)

-- of a good build, by what its searches say
sheet_day : {kind : ℕ} {bytes ends values : List ℕ} (b : GoodBuild kind bytes ends values) (w : Which) (moves : List ℕ → ℕ) (text : List ℕ)
    (l : List (Match ℕ)) → moves [] ≡ 0
    → ((n : ℕ) → map said (answers (searches b text w) n begun) ≡ then_end n l)
    → ((n : ℕ) (o : Outcome) → Memᴰ o (answers (searches b text w) n begun) → HasTaken moves text o)
    → SheetDay b w moves text l
sheet_day b w moves text l none_yet says taken =
    record {
      holds = held w (tables_left b) b.counts.kind text moves l none_yet says taken;
      end_again = ended_again w (tables_left b) b.counts.kind text moves l none_yet says taken;
    }

pub sheets : SheetDayClaims
unfolding walk
sheets =
    record {
      overlapping_sheets = λ bytes ends values text b B C short.
          let D = ((day.claims).standard_day bytes ends values text b B C short).demands in
          sheet_day b _ (walk_moves (listed bytes ends)) text _ refl D.overlapping_says D.overlapping_moves;
      plain_sheets = λ bytes ends values text b B C short.
          let D = ((day.claims).standard_day bytes ends values text b B C short).demands in
          sheet_day b _ (plain_moves (listed bytes ends)) text _ refl D.plain_says D.plain_moves_lem;
      leftmost_sheets = λ c bytes ends values text b B C short.
          let D = ((day.claims).leftmost_day c bytes ends values text b B C short).demands in
          sheet_day b _ no_moves text _ refl D.leftmost_says D.leftmost_moves;
    }
