-- When a cell is there, and when a match can end somewhere.
use mathlib.Core.Path.{◌≡◌}
use mathlib.Core.Bool.{true}
use Prim.Native.Nat.{ℕ, ◌≤◌, ◌<◌}
use lib.Dec.{ltb, leb}
use Rattle.std.proofs.lemmas.Bool.{lt-ltb, ltb-true, le-leb, leb-true, and_parts}
use Rattle.table.specs.Readers.{there, can_end}

pub there_yes : (cells slots i : ℕ) → i < cells → i < slots → true ≡ there cells slots i
there_yes cells slots i h l = rw (lt-ltb i cells h, lt-ltb i slots l)

pub there_below : (cells slots i : ℕ) → there cells slots i ≡ true → i < cells
there_below cells slots i e = ltb-true i cells (and_parts (ltb i cells) (ltb i slots) e).0

pub there_in : (cells slots i : ℕ) → there cells slots i ≡ true → i < slots
there_in cells slots i e = ltb-true i slots (and_parts (ltb i cells) (ltb i slots) e).1

pub can_yes : (size end : ℕ) → 0 < size → size ≤ end → true ≡ can_end size end
can_yes size end h l = rw (lt-ltb 0 size h, le-leb size end l)

pub can_some : (size end : ℕ) → can_end size end ≡ true → 0 < size
can_some size end e = ltb-true 0 size (and_parts (ltb 0 size) (leb size end) e).0

pub can_fit : (size end : ℕ) → can_end size end ≡ true → size ≤ end
can_fit size end e = leb-true size end (and_parts (ltb 0 size) (leb size end) e).1
