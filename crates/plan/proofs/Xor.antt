-- What placement needs of xor: it undoes itself, and a letter does not leave its block.
use mathlib.Core.Path.{◌≡◌, refl, sym, ap, ap₂, ◌∙◌}
use Prim.Native.Nat.{ℕ, zero, suc, ◌+◌, ◌*◌, ◌/◌, ◌%◌, ◌^◌, ◌≤◌, ◌<◌}
use native.Mathlib.Nat.{div-add-mod', mod-lt, zero-lt-suc, div-eq_of_lt, div-lt_iff_lt-mul, le-div_iff_mul-le}
use native.Mathlib.Omega.{arith}
use lib.Arith.{bin_ind, digits_div, digits_mod}
use lib.Bits.{bit_xor, differ, xor_step, xor_zero_r, xor_comm, xor_shr}
use Rattle.plan.specs.Placement.{Alphabet}

-- ---- xor undoes itself

differ_bit : (x y : ℕ) → x < 2 → y < 2 → differ x y < 2
differ_bit zero y p q = q
differ_bit (suc x) zero p q = p
differ_bit (suc x) (suc y) p q = differ_bit x y (omega arith) (omega arith)

differ_twice : (x y : ℕ) → x < 2 → y < 2 → differ (differ x y) y ≡ x
differ_twice zero zero p q = refl
differ_twice zero (suc zero) p q = refl
differ_twice zero (suc (suc y)) p q = absurd (omega arith)
differ_twice (suc zero) zero p q = refl
differ_twice (suc zero) (suc zero) p q = refl
differ_twice (suc zero) (suc (suc y)) p q = absurd (omega arith)
differ_twice (suc (suc x)) y p q = absurd (omega arith)

bit : (n : ℕ) → n % 2 < 2
bit n = mod-lt n (zero-lt-suc 1)

xor_bit : (m n : ℕ) → differ (m % 2) (n % 2) < 2
xor_bit m n = differ_bit (m % 2) (n % 2) (bit m) (bit n)

xor_half : (m n : ℕ) → bit_xor m n / 2 ≡ bit_xor (m / 2) (n / 2)
xor_half m n = ap (λ (k : ℕ). k / 2) (xor_step m n) ∙ digits_div (bit_xor (m / 2) (n / 2)) (xor_bit m n)

xor_odd : (m n : ℕ) → bit_xor m n % 2 ≡ differ (m % 2) (n % 2)
xor_odd m n = ap (λ (k : ℕ). k % 2) (xor_step m n) ∙ digits_mod (bit_xor (m / 2) (n / 2)) (xor_bit m n)

pub xor_twice : (b c : ℕ) → bit_xor (bit_xor b c) c ≡ b
xor_twice b c =
    bin_ind (λ (n : ℕ). (m : ℕ) → bit_xor (bit_xor m n) n ≡ m)
    (λ m. xor_zero_r (bit_xor m 0) ∙ xor_zero_r m)
    (λ n ih m.
    xor_step (bit_xor m n) n
    ∙ ap₂ (λ (h o : ℕ). bit_xor h (n / 2) * 2 + differ o (n % 2)) (xor_half m n) (xor_odd m n)
    ∙ ap₂ (λ (h o : ℕ). h * 2 + o) (ih (m / 2)) (differ_twice (m % 2) (n % 2) (bit m) (bit n))
    ∙ div-add-mod' m 2)
    c b

-- a base is known by a child's cell and byte
pub xor_base : (b d c : ℕ) → bit_xor b c ≡ bit_xor d c → b ≡ d
xor_base b d c e = sym (xor_twice b c) ∙ ap (λ (k : ℕ). bit_xor k c) e ∙ xor_twice d c

-- a byte is known by the base and the cell
pub xor_byte : (b c d : ℕ) → bit_xor b c ≡ bit_xor b d → c ≡ d
xor_byte b c d e = xor_base c d b (xor_comm c b ∙ e ∙ xor_comm b d)

-- from a base, the byte that is base xor cell leads to the cell
pub xor_back : (b j : ℕ) → bit_xor b (bit_xor b j) ≡ j
xor_back b j = xor_comm b (bit_xor b j) ∙ ap (λ (k : ℕ). bit_xor k b) (xor_comm b j) ∙ xor_twice j b

-- ---- a letter stays in the block

module _ (a : ℕ) (A : Alphabet a) where
  pub some_letter : 0 < a
  some_letter = omega (arith, A.two)

  pub xor_same_block : (b c : ℕ) → c < a → bit_xor b c / a ≡ b / a
  xor_same_block b c h =
      rw A.power
      (xor_shr b c A.bits ∙ ap (bit_xor (b / 2 ^ A.bits)) (div-eq_of_lt (rw A.power at h)) ∙ xor_zero_r (b / 2 ^ A.bits))

  pub xor_below : (b c m : ℕ) → c < a → b < m * a → bit_xor b c < m * a
  xor_below b c m h k = (div-lt_iff_lt-mul some_letter).0 (rw (xor_same_block b c h) ((div-lt_iff_lt-mul some_letter).1 k))

  pub xor_above : (b c m : ℕ) → c < a → m * a ≤ b → m * a ≤ bit_xor b c
  xor_above b c m h k = (le-div_iff_mul-le some_letter).0 (rw (xor_same_block b c h) ((le-div_iff_mul-le some_letter).1 k))
