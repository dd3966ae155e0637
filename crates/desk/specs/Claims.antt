-- What is proved of the rows of a list and of the tables that hold them: each claim with its English above it. The proofs stand in ../proofs.
use Rattle.std.specs.Prelude.{◌≡◌, true, List, map, ℕ, take}
use Rattle.paper.specs.Lists.{same}
use Rattle.list.specs.Listed.{patterns_of}
use Rattle.list.specs.Claims.{SoundEnds}
use Rattle.desk.specs.Rows.{Listed}
use Rattle.desk.specs.Codes.{Held}
use Rattle.desk.specs.Hazards.{hazard, warned}

-- tables that hold rows
pub record HeldClaims (rs : List Listed) (bytes ends marks : List ℕ) : Type 0 where
  -- the ends cut the bytes, so refusal 2 is not met
  pub cut : SoundEnds bytes ends
  -- the listed patterns of a build are the codes of the rows, row for line
  pub patterns : patterns_of bytes ends ≡ map (λ (r : Listed). r.code) rs
  -- a hazard is what the rows warn of
  pub warns : (code : List ℕ) → hazard (patterns_of bytes ends) marks code ≡ warned rs code

pub record DeskClaims : Type 0 where
  pub held : (rs : List Listed) (count end : ℕ) (bytes ends values marks : List ℕ) → Held rs count end bytes ends values marks
      → HeldClaims rs (take end bytes) (take count ends) (take count marks)
  -- stretches that are told the same are equal
  pub same_only : (xs ys : List ℕ) → same xs ys ≡ true → xs ≡ ys
  -- and equal ones are told the same
  pub same_all : (xs ys : List ℕ) → xs ≡ ys → same xs ys ≡ true
