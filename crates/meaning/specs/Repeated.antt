-- Calls in turn: each on the value that the one before handed back.
use Rattle.std.specs.Prelude.{List, [], ◌∷◌, ◌++◌, map, ℕ, zero, suc, take, replicate}
use Rattle.paper.specs.Matches.{Match}
use Rattle.search.specs.declared.Search.{Search}
use Rattle.search.specs.Values.{Outcome, gives, ends, refuses}

-- the search value that an answer hands back
abbrev pub handed_back : Outcome → Search
handed_back (gives m u) = u
handed_back (ends u) = u
handed_back (refuses n u) = u

-- the answers of so many calls in turn, the first on v
unfoldable pub answers : (Search → Outcome) → ℕ → Search → List Outcome
answers next zero v = []
answers next (suc n) v = next v ∷ answers next n (handed_back (next v))

-- what an answer says: a match with its value, the end, or the number of a refusal
pub data Saying : Type 0 where
  match : Match ℕ → Saying
  end : Saying
  refusal : ℕ → Saying

-- each answer as a saying
abbrev pub said : Outcome → Saying
said (gives m u) = match (record { start = m.start; end = m.end; payload = m.value })
said (ends u) = end
said (refuses n u) = refusal n

-- the first so many sayings of a search that gives these matches and then the end, again and again
abbrev pub then_end : ℕ → List (Match ℕ) → List Saying
then_end n l = take n (map match l ++ replicate n end)
