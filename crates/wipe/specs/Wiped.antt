-- Every element of the lent tables is zero.
use Rattle.std.specs.Prelude.{◌≡◌, List, ℕ, length, replicate}
use Rattle.zeros.specs.Rows.{zeros}

-- as long, and zero
abbrev pub blank : List ℕ → List ℕ
blank column = replicate (length column) 0

-- the same of rows of n numbers
abbrev pub blank_rows : ℕ → List (List ℕ) → List (List ℕ)
blank_rows n rows = replicate (length rows) (zeros n)

-- the working tables are zero
pub record WorkingZero (trie₀ owns₀ notes₀ spots₀ trie owns notes spots : List (List ℕ)) : Type 0 where
  pub trie_zero : trie ≡ blank_rows 5 trie₀
  pub owns_zero : owns ≡ blank_rows 2 owns₀
  pub notes_zero : notes ≡ blank_rows 6 notes₀
  pub spots_zero : spots ≡ blank_rows 2 spots₀

-- the result tables are zero
pub record ResultsZero (base₀ link₀ output₀ check₀ depth₀ : List ℕ) (outs₀ : List (List ℕ)) (base link output check depth : List ℕ) (outs : List (List ℕ)) : Type 0 where
  pub base_zero : base ≡ blank base₀
  pub link_zero : link ≡ blank link₀
  pub output_zero : output ≡ blank output₀
  pub check_zero : check ≡ blank check₀
  pub depth_zero : depth ≡ blank depth₀
  pub outs_zero : outs ≡ blank_rows 3 outs₀
