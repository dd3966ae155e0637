-- What is proved of a pattern list, for the callers of this crate: what a list that is not refused has, where its patterns stand, and
-- when each refusal is given. The proofs stand in ../proofs.
use Rattle.std.specs.Prelude.{◌≡◌, Bool, true, false, List, [], ℕ, ◌-◌, ◌≤◌, ◌<◌, length, take, drop, get_or}
use Rattle.std.proofs.Math.Option.{Option, none, some}
use Rattle.list.specs.Limits.{last_kind, alphabet, most_listed, most_bytes}
use Rattle.list.specs.Refusals.{Exactly}
use Rattle.list.specs.Listed.{patterns_of, start_of, end_of, falls, last_from, refusals}

-- o is the lowest index of an element that passes the test, and none where no element passes
abbrev pub LowestIndex : {A : Type 0} → A → (A → Bool) → List A → Option ℕ → Type 0
LowestIndex d test xs none = (j : ℕ) → j < length xs → test (get_or xs j d) ≡ false
LowestIndex d test xs (some i) = (i < length xs) × (test (get_or xs i d) ≡ true) × ((j : ℕ) → j < i → test (get_or xs j d) ≡ false)

-- numbers that are bytes: each is a value of a byte (past the end `get_or` gives 0, which is one too)
abbrev pub Bytes : List ℕ → Type 0
Bytes s = (k : ℕ) → get_or s k 0 < alphabet

-- ends that cut the bytes: none is below the one before it, and the last, 0 for no patterns, is the byte count
pub record SoundEnds (bytes ends : List ℕ) : Type 0 where
  pub rising : falls 0 ends ≡ false
  pub whole : last_from 0 ends ≡ length bytes

-- pattern i stands in the bytes from its start up to its end
pub record Standing (bytes ends : List ℕ) (i : ℕ) : Type 0 where
  pub ordered : start_of ends i ≤ end_of ends i
  pub within : end_of ends i ≤ length bytes
  pub part : take (end_of ends i - start_of ends i) (drop (start_of ends i) bytes) ≡ get_or (patterns_of bytes ends) i []
  pub size : length (get_or (patterns_of bytes ends) i []) ≡ end_of ends i - start_of ends i

-- a list that is not refused: none of the five conditions
pub record Sound (kind : ℕ) (bytes ends values : List ℕ) : Type 0 where
  pub known : kind ≤ last_kind
  pub paired : length ends ≡ length values
  pub cut : SoundEnds bytes ends
  pub few : length ends ≤ most_listed
  pub filled : (i : ℕ) → i < length ends → 0 < length (get_or (patterns_of bytes ends) i [])
  pub short : (i : ℕ) → i < length ends → length (get_or (patterns_of bytes ends) i []) ≤ most_bytes

-- each number is given exactly when its condition holds and none before it does
pub record GivenExactly (kind : ℕ) (bytes ends values : List ℕ) : Type 0 where
  -- 1, the kind is above the last
  pub one : Exactly (refusals kind bytes ends values) 0
  -- 2, counts differ, an end below the one before, or the last end not the byte count
  pub two : Exactly (refusals kind bytes ends values) 1
  -- 3, too many listed
  pub three : Exactly (refusals kind bytes ends values) 2
  -- 4, a pattern is empty
  pub four : Exactly (refusals kind bytes ends values) 3
  -- 5, a pattern is too long
  pub five : Exactly (refusals kind bytes ends values) 4
