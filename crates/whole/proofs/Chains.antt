-- The chains of the outputs, as the reader of outputs gives them.
use mathlib.Core.Path.{◌≡◌, refl, sym, ap}
use mathlib.Core.Bool.{true}
use mathlib.Core.List.Memᴰ
use mathlib.Core.List.{List, [], ◌∷◌, Memᴰ}
use mathlib.Core.Logic.{⊎_elim}
use Prim.Native.Nat.{ℕ, zero, suc, ◌-◌, ◌≤◌, ◌<◌}
use native.Mathlib.Decide.{ℕ_discrete}
use native.Mathlib.Omega.{arith}
use lib.ListN.{length, get_or}
use Rattle.zeros.specs.Rows.{field}
use Rattle.paper.specs.Patterns.{Entry, Kind}
use Rattle.paper.specs.Automaton.{machine, own_of, Link, dead, to, link, onward, chain}
use Rattle.paper.proofs.Leftmost.{in_own}
use Rattle.outputs.specs.Claims.{RowsChained}
use Rattle.table.specs.Readers.{there}
use Rattle.table.specs.Agrees.{Tables, place_in, Chain, ChainOf}
use Rattle.table.proofs.Claims.{claims}

-- ---- every entry of a chain has a byte: it is the string of a state that is not root

onward_filled : (k : Link) (go : List ℕ → List Entry) → ((r : List ℕ) (x : Entry) → Memᴰ x (go r) → 0 < length x.word)
    → (x : Entry) → Memᴰ x (onward k go) → 0 < length x.word
onward_filled dead go f x m = absurd (Memᴰ.not-nil m)
onward_filled (to r) go f x m = f r x m

pub chain_filled : (kind : Kind) (es : List Entry) (n : ℕ) (s : List ℕ) (x : Entry) → Memᴰ x (chain (machine kind es) n s)
    → 0 < length x.word
unfolding chain
chain_filled kind es zero s x m = absurd (Memᴰ.not-nil m)
chain_filled kind es (suc n) [] x m = absurd (Memᴰ.not-nil m)
chain_filled kind es (suc n) (y ∷ ys) x m =
    ⊎_elim (λ k. omega (arith, ap length (in_own es (y ∷ ys) k).1))
    (λ k. onward_filled (link (machine kind es) (y ∷ ys)) (chain (machine kind es) n) (λ r z i. chain_filled kind es n r z i) x k)
    (Memᴰ.append_cases (own_of es (y ∷ ys)) m)

-- ---- the reader gives what the rows tell

told_chain : (T : Tables) (values : List ℕ) → T.accepted ≤ length T.outs → (p : ℕ) (l : List Entry)
    → ((x : Entry) → Memᴰ x l → 0 < length x.word) → RowsChained values T.outs T.accepted p l → Chain T values p l
told_chain T values room p [] f t = t
told_chain T values room p (x ∷ l) f t = (
  record {
    next = field T.outs (p - 1) 2;
    given = λ end h. (claims.given T.outs T.accepted p end (get_or values x.row 0) (length x.word) (field T.outs (p - 1) 2)).1
        (record {
          some_place = t.0.some_place;
          inside = t.0.within;
          lent = omega (arith, t.0.within);
          value_is = sym t.0.value;
          size_is = sym t.0.size;
          next_is = refl;
          falls = t.0.falls;
          filled = f x (Memᴰ.head refl);
          fits = h;
        });
  },
  told_chain T values room (field T.outs (p - 1) 2) l (λ y m. f y (Memᴰ.tail m)) t.1,
)

-- ---- the chain of a state begins at the place in its cell

none_told : (values : List ℕ) (outs : List (List ℕ)) (count : ℕ) (l : List Entry) → RowsChained values outs count 0 l → l ≡ []
none_told values outs count [] t = refl
none_told values outs count (x ∷ l) t = absurd (omega (arith, t.0.some_place))

pub told_state : (T : Tables) (values : List ℕ) → T.accepted ≤ length T.outs → (i : ℕ) (l : List Entry)
    → there T.cells (length T.output) i ≡ true → ((x : Entry) → Memᴰ x l → 0 < length x.word)
    → RowsChained values T.outs T.accepted (get_or T.output i 0) l → ChainOf T values (place_in T i) l
told_state T values room i l h f t =
    elim (ℕ_discrete (get_or T.output i 0) 0) [
      | yes z ↦
          rw ((claims.without T.output T.cells i).1 (h, z)) (none_told values T.outs T.accepted l (rw z at t))
      | no z ↦
          rw ((claims.begins_at T.output T.cells i (get_or T.output i 0)).1 (record { state = h; place = refl; some_place = z }))
          (told_chain T values room (get_or T.output i 0) l f t)
    ]
