-- A byte more: `step_of` by its ways, and how far a value comes by it.
use mathlib.Core.Path.{◌≡◌, refl, sym, ap, ◌∙◌}
use mathlib.Core.Bool.{Bool}
use Prim.Native.Nat.{ℕ, zero, suc, ◌+◌, ◌≤◌}
use native.Mathlib.Omega.{arith}
use lib.Dec.{eqb}
use lib.ListN.{get_or}
use Rattle.std.specs.Prelude.{unwrap_or, Option, Some, None, Result, Ok, Err}
use Rattle.std.proofs.lemmas.Bool.{eqb-true, eqb-false}
use Rattle.paper.proofs.Tests.{test}
use Rattle.table.specs.Agrees.{Tables}
use Rattle.table.specs.declared.CellId.{CellId}
use Rattle.table.specs.declared.Damage.{Damage}
use Rattle.table.specs.Readers.{damage}
use Rattle.search.specs.declared.Search.{Search}
use Rattle.search.specs.Values.{root, value_of}
use Rattle.search.specs.Bounds.{most_added}
use Rattle.search.specs.Walk.{falls_at, take_of, take_in, begins_in, step_of}
use Rattle.search.proofs.Hunting.{never}
use Rattle.search.proofs.Walking.{at_child, at_damage, at_root_lem, at_broken, at_dead, at_link}

-- ---- the ways of a step, with the answers r and b of the byte's walk and of the place of outputs

module _ (falling : Bool) (T : Tables) (v : Search) (c : ℕ) (r : Result (CellId × ℕ) Damage) (walked : r ≡ take_in falling T v.state c v.moves) where
  pub step_damaged : r ≡ damage → damage ≡ step_of falling T v c
  unfolding step_of
  step_damaged e = rw (sym walked ∙ e)

  module _ (s : CellId) (m : ℕ) (to : r ≡ Ok (s, m)) (b : Result (Option ℕ) Damage) (begun : b ≡ begins_in falling T s) where
    pub step_goes : (o : Option ℕ) → b ≡ Ok o → Ok (value_of s (unwrap_or o 0) (v.place + 1) m) ≡ step_of falling T v c
    unfolding step_of
    step_goes (Some p) e = rw (sym walked ∙ to, sym begun ∙ e)
    step_goes None e = rw (sym walked ∙ to, sym begun ∙ e)

    pub step_astray : b ≡ damage → damage ≡ step_of falling T v c
    unfolding step_of
    step_astray e = rw (sym walked ∙ to, sym begun ∙ e)

-- ---- how many moves a byte costs

moves_of : Result (CellId × ℕ) Damage → ℕ
moves_of (Ok p) = p.1
moves_of (Err _) = 0

take_few : (n : ℕ) (falling : Bool) (probe : ℕ → ℕ → Result (Option CellId) Damage) (link : ℕ → Result CellId Damage) (s : CellId) (c m : ℕ) (t : CellId) (k : ℕ)
    → take_of n falling probe link s c m ≡ Ok (t, k) → k ≤ m + n + 1
unfolding moves_of take_of
take_few zero falling probe link s c m t k e = absurd (never (cc e))
take_few (suc n) falling probe link s c m t k e = by (λ target. take_few n falling probe link target c (m + 1) t k) (probe s.0 c) refl
  where
    Below : Type 0
    Below = (target : CellId) → take_of n falling probe link target c (m + 1) ≡ Ok (t, k) → k ≤ m + 1 + n + 1

    over : Below → (target : CellId) → probe s.0 c ≡ Ok None → (s.0 ≡ root → ⊥) → link s.0 ≡ Ok target → k ≤ m + suc n + 1
    over below target p nz l =
        test (falls_at falling target)
        (λ f. let g : m + 1 + 1 ≡ k = ap moves_of (sym (at_dead falling probe link c n s target m p nz l f) ∙ e) in omega (arith, g))
        (λ f. let g : k ≤ m + 1 + n + 1 = below target (sym (at_link falling probe link c n s target m p nz l f) ∙ e) in omega (arith, g))

    linking : Below → (l : Result CellId Damage) → link s.0 ≡ l → probe s.0 c ≡ Ok None → (s.0 ≡ root → ⊥) → k ≤ m + suc n + 1
    linking below (Ok target) l p nz = over below target p nz l
    linking below (Err _) l p nz = absurd (never (cc (sym (at_broken falling probe link c n s m p nz l) ∙ e)))

    by : Below → (f : Result (Option CellId) Damage) → probe s.0 c ≡ f → k ≤ m + suc n + 1
    by below (Ok (Some child)) p = let g : m + 1 ≡ k = ap moves_of (sym (at_child falling probe link c n s child m p) ∙ e) in omega (arith, g)
    by below (Err _) p = absurd (never (cc (sym (at_damage falling probe link c n s m p) ∙ e)))
    by below (Ok None) p =
        test (eqb s.0 root)
        (λ z. let g : m + 1 ≡ k = ap moves_of (sym (at_root_lem falling probe link c n s m p (eqb-true s.0 root z)) ∙ e) in omega (arith, g))
        (λ z. linking below (link s.0) refl p (eqb-false s.0 root z))

-- a step takes one byte, and costs no more moves than are allowed for
pub record Stepped (v w : Search) : Type 0 where
  pub onward : w.place ≡ v.place + 1
  pub few : w.moves ≤ v.moves + most_added

pub stepped : (falling : Bool) (T : Tables) (v : Search) (c : ℕ) (w : Search) → ((i : ℕ) → get_or T.depth i 0 + 2 ≤ most_added)
    → step_of falling T v c ≡ Ok w → Stepped v w
stepped falling T v c w shallow e = by (take_in falling T v.state c v.moves) refl
  where
    to : (s : CellId) (m p : ℕ) → take_in falling T v.state c v.moves ≡ Ok (s, m) → value_of s p (v.place + 1) m ≡ w → Stepped v w
    to s m p t g =
        let k : m ≤ v.moves + suc (get_or T.depth v.state.0 0) + 1 = take_few _ _ _ _ _ _ _ _ _ t in
        record {
          onward = ap (λ (x : Search). x.place) (sym g);
          few = rw (← ap (λ (x : Search). x.moves) g) (omega (arith, k, shallow v.state.0));
        }

    begun : (b : Result (Option ℕ) Damage) (s : CellId) (m : ℕ) → take_in falling T v.state c v.moves ≡ Ok (s, m) → begins_in falling T s ≡ b → Stepped v w
    begun (Ok o) s m t k = to s m (unwrap_or o 0) t (cc (step_goes falling T v c _ refl s m t _ refl o k ∙ e))
    begun (Err _) s m t k = absurd (never (cc (step_astray falling T v c _ refl s m t _ refl k ∙ e)))

    by : (r : Result (CellId × ℕ) Damage) → take_in falling T v.state c v.moves ≡ r → Stepped v w
    by (Ok p) t = begun (begins_in falling T p.0) p.0 p.1 t refl
    by (Err _) t = absurd (never (cc (step_damaged falling T v c _ refl t ∙ e)))
