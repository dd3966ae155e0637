-- The claims of a sheet, by the answers in turn.
use mathlib.Core.Path.{◌≡◌, refl, sym, ap, ◌∙◌}
use mathlib.Core.Bool.{Bool, true, false}
use mathlib.Core.List.{List, [], ◌∷◌}
use mathlib.Core.Logic.{◌⊎◌, ⊎_map}
use mathlib.Core.Option.{Option, none, some}
use Prim.Native.Nat.{ℕ, zero, suc, ◌+◌, ◌≤◌}
use native.Mathlib.Omega.{arith}
use lib.Dec.{eqb}
use lib.ListN.{length}
use Rattle.paper.specs.Lists.{pick}
use Rattle.list.specs.Refusals.{Told, plainly, lowest}
use Rattle.table.specs.Agrees.{Tables}
use Rattle.search.specs.declared.Search.{Search}
use Rattle.search.specs.declared.Match.{Match}
use Rattle.search.specs.declared.Refusal.TheVariants as refusal
use Rattle.search.specs.Values.{Which, Outcome, gives, ends, refuses}
use Rattle.search.specs.Searches.{next_of, unless, walk_of, is_leftmost}
use Rattle.search.proofs.Claims as search
use Rattle.sheet.specs.declared.Stop as declared
use Rattle.sheet.specs.declared.Stop.TheVariants as stop
use Rattle.sheet.specs.declared.Filled.{Filled}
use Rattle.sheet.specs.Sheet.{record_of, Stop, full, ended, refused, Load, stopping, with_record, on_answer, load_of, barred, at_once, sheet_of, stop_of, Tells}
use Rattle.sheet.specs.Claims.{after, SheetClaims}

-- ---- one answer

-- the code's stop, read back
back : Stop → declared.Stop
back full = stop.Full
back ended = stop.Ended
back (refused n) = stop.Refused (pick (eqb n 9) refusal.WrongKind (pick (eqb n 10) refusal.LongText refusal.Damage))

back_stop : (s : declared.Stop) → back (stop_of s) ≡ s
unfolding back
back_stop stop.Full = refl
back_stop stop.Ended = refl
back_stop (stop.Refused refusal.WrongKind) = refl
back_stop (stop.Refused refusal.LongText) = refl
back_stop (stop.Refused refusal.Damage) = refl

one : (l : Load) (r r' : Filled) → Tells r l → Tells r' l → r ≡ r'
one l r r' t t' =
    λ i. record {
      stop = (sym (back_stop r.stop) ∙ ap back (t.stopped ∙ sym t'.stopped) ∙ back_stop r'.stop) i;
      count = (t.counted ∙ sym t'.counted) i;
      value = (t.goes_on ∙ sym t'.goes_on) i;
    }

-- ---- answers in turn

is_full : Stop → ℕ
is_full full = 0
is_full ended = 1
is_full (refused n) = 2

-- a value that the end of a call left
pub record LeftByEnd (next : Search → Outcome) (x : Search) : Type 0 where
  pub came : Search
  pub ended_there : next came ≡ ends x

-- a match goes on like that, in so many slots
abbrev going_on : (Search → Outcome) → ℕ → Match → Search → Load
going_on next n m u = with_record (record_of m) (load_of next n u)

-- an answer that is the end stops there
stops_there : (u : Search) (on : Match → Search → Load) → on_answer (ends u) on ≡ stopping ended u
stops_there u on = refl

module _ (next : Search → Outcome) where
  within_by : (n : ℕ) (o : Outcome) → ((u : Search) → length (load_of next n u).records ≤ n) → length (on_answer o (going_on next n)).records ≤ suc n
  within_by n (gives m u) more = let h = more u in omega arith
  within_by n (ends u) more = omega arith
  within_by n (refuses k u) more = omega arith

  load_within : (n : ℕ) (v : Search) → length (load_of next n v).records ≤ n
  unfolding load_of
  load_within zero v = omega arith
  load_within (suc n) v = within_by n (next v) (load_within n)

  full_by : (n : ℕ) (o : Outcome) → ((u : Search) → (load_of next n u).stop ≡ full → length (load_of next n u).records ≡ n)
      → (on_answer o (going_on next n)).stop ≡ full
      → length (on_answer o (going_on next n)).records ≡ suc n
  unfolding is_full
  full_by n (gives m u) more e = ap suc (more u e)
  full_by n (ends u) more e = absurd (omega (arith, ap is_full e))
  full_by n (refuses k u) more e = absurd (omega (arith, ap is_full e))

  load_full : (n : ℕ) (v : Search) → (load_of next n v).stop ≡ full → length (load_of next n v).records ≡ n
  unfolding load_of
  load_full zero v e = refl
  load_full (suc n) v e = full_by n (next v) (load_full n) e

  joined_by : (n k : ℕ) (o : Outcome)
      → ((u : Search) → (load_of next n u).stop ≡ full → load_of next (n + k) u ≡ after (load_of next n u).records (load_of next k (load_of next n u).value))
      → (on_answer o (going_on next n)).stop ≡ full
      → on_answer o (going_on next (n + k)) ≡ after (on_answer o (going_on next n)).records (load_of next k (on_answer o (going_on next n)).value)
  unfolding is_full
  joined_by n k (gives m u) more e = ap (with_record (record_of m)) (more u e)
  joined_by n k (ends u) more e = absurd (omega (arith, ap is_full e))
  joined_by n k (refuses j u) more e = absurd (omega (arith, ap is_full e))

  load_joined : (n k : ℕ) (v : Search) → (load_of next n v).stop ≡ full → load_of next (n + k) v ≡ after (load_of next n v).records (load_of next k (load_of next n v).value)
  unfolding load_of
  load_joined zero k v e = let none_more : 0 + k ≡ k = omega arith in ap (λ (j : ℕ). load_of next j v) none_more
  load_joined (suc n) k v e =
      let one_more : suc n + k ≡ suc (n + k) = omega arith in
      ap (λ (j : ℕ). load_of next j v) one_more ∙ joined_by n k (next v) (load_joined n k) e

  -- a load that stops at the end has the value of an answer that is the end
  ended_by : (n : ℕ) (v : Search) (o : Outcome) → next v ≡ o → ((u : Search) → (load_of next n u).stop ≡ ended → LeftByEnd next (load_of next n u).value)
      → (on_answer o (going_on next n)).stop ≡ ended
      → LeftByEnd next (on_answer o (going_on next n)).value
  unfolding is_full
  ended_by n v (gives m u) q more e = more u e
  ended_by n v (ends u) q more e = record { came = v; ended_there = q }
  ended_by n v (refuses k u) q more e = absurd (omega (arith, ap is_full e))

  pub load_ended : (n : ℕ) (v : Search) → (load_of next n v).stop ≡ ended → LeftByEnd next (load_of next n v).value
  unfolding load_of is_full
  load_ended zero v e = absurd (omega (arith, ap is_full e))
  load_ended (suc n) v e = ended_by n v (next v) refl (load_ended n) e

-- ---- sheets

-- an empty sheet is never at the end
never_ended : (o : Option Told) → at_once o ≡ ended → ⊥
unfolding is_full
never_ended none e = omega (arith, ap is_full e)
never_ended (some t) e = omega (arith, ap is_full e)

is_some : Option Told → ℕ
is_some none = 0
is_some (some t) = 1

-- 9 and 10 are the first of the refusals that show before the walk
first_of : (a b c : Bool) (t : Told) → lowest (plainly 9 a ∷ plainly 10 b ∷ []) ≡ some t → lowest (plainly 9 a ∷ plainly 10 b ∷ plainly 11 c ∷ []) ≡ some t
unfolding lowest is_some
first_of true b c t e = e
first_of false true c t e = e
first_of false false c t e = absurd (omega (arith, ap is_some e))

module _ (w : Which) (T : Tables) (kind : ℕ) (text : List ℕ) (v : Search) where
  sheet_within : (n : ℕ) → length (sheet_of w T kind text n v).records ≤ n
  unfolding sheet_of
  sheet_within zero = omega arith
  sheet_within (suc n) = load_within (next_of w T kind text) (suc n) v

  sheet_full : (n : ℕ) → (sheet_of w T kind text n v).stop ≡ full → length (sheet_of w T kind text n v).records ≡ n
  unfolding sheet_of
  sheet_full zero e = refl
  sheet_full (suc n) e = load_full (next_of w T kind text) (suc n) v e

  sheet_joined : (n k : ℕ) → (sheet_of w T kind text n v).stop ≡ full
      → sheet_of w T kind text (n + suc k) v ≡ after (sheet_of w T kind text n v).records (sheet_of w T kind text (suc k) (sheet_of w T kind text n v).value)
  unfolding sheet_of
  sheet_joined zero k e = let none_more : 0 + suc k ≡ suc k = omega arith in ap (λ (j : ℕ). sheet_of w T kind text j v) none_more
  sheet_joined (suc n) k e =
      let one_more : suc n + suc k ≡ suc (n + suc k) = omega arith in
      ap (λ (j : ℕ). sheet_of w T kind text j v) one_more ∙ sym (ap (λ (j : ℕ). load_of (next_of w T kind text) j v) one_more)
      ∙ load_joined (next_of w T kind text) (suc n) (suc k) v e

  sheet_told : (n : ℕ) (t : Told) → lowest (barred (is_leftmost w) kind (length text)) ≡ some t → sheet_of w T kind text n v ≡ stopping (refused t.number) v
  unfolding sheet_of load_of next_of
  sheet_told zero t e = ap (λ (o : Option Told). stopping (at_once o) v) e
  sheet_told (suc n) t e =
      ap (λ (o : Option Told). on_answer (unless o v (walk_of w T text v)) (going_on (next_of w T kind text) n)) (first_of _ _ _ t e)

  -- a call with slots on a value that has the end, or damage, at once
  pub sheet_once : (k : ℕ) (x : Search) (o : Outcome) → next_of w T kind text x ≡ o
      → sheet_of w T kind text (suc k) x ≡ on_answer o (going_on (next_of w T kind text) k)
  unfolding sheet_of load_of
  sheet_once k x o q = ap (λ (a : Outcome). on_answer a (going_on (next_of w T kind text) k)) q

  sheet_again : (n k : ℕ) → (sheet_of w T kind text n v).stop ≡ ended
      → (sheet_of w T kind text (suc k) (sheet_of w T kind text n v).value ≡ stopping ended (sheet_of w T kind text n v).value)
      ⊎ (sheet_of w T kind text (suc k) (sheet_of w T kind text n v).value ≡ stopping (refused 11) (sheet_of w T kind text n v).value)
  unfolding sheet_of
  sheet_again zero k e = absurd (never_ended (lowest (barred (is_leftmost w) kind (length text))) e)
  sheet_again (suc n) k e =
      let E = load_ended (next_of w T kind text) (suc n) v e in
      let x = (load_of (next_of w T kind text) (suc n) v).value in
      ⊎_map (λ q. sheet_once k x (ends x) q ∙ stops_there x (going_on (next_of w T kind text) k)) (λ q. sheet_once k x (refuses 11 x) q) ((search.claims w T kind text E.came).end_again x E.ended_there)

  pub claims : SheetClaims w T kind text v
  claims =
      record {
        one_answer = λ n. one (sheet_of w T kind text n v);
        within = sheet_within;
        full_slots = sheet_full;
        joined = sheet_joined;
        end_again = sheet_again;
        told_first = sheet_told;
      }
