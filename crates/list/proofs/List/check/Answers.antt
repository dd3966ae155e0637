-- `List::check` gives the lowest refusal: each way out cites its law.
use mathlib.Core.Path.{◌≡◌, sym, ap, ◌∙◌}
use mathlib.Core.Option.{none, some}
use native.Mathlib.Omega.{arith}
use Rattle.list.specs.Limits.{most_bytes}
use Rattle.list.specs.Listed.{patterns_of, is_empty, exceeds, first_where, refusals}
use Rattle.list.specs.Refusals.{lowest}
use Rattle.list.specs.Answers.{placed}
use Rattle.list.specs.Claims.{SoundEnds}
use Rattle.list.proofs.Checks.{Counted, sound_ends, empty_same, long_same, index_small, gives_kind, gives_counts, gives_ends, gives_many, gives_empty, gives_long, gives_fine}
use Rattle.list.proofs.Sound.{tells_kind, untold_sound}
use Rattle.list.proofs.List.check.Goals as goal
use Rattle.list.proofs.List.check.Goals.{Else-self-gt-MOST_LISTED, In-Some, In-Some-first_sized, In_default, In_default-first_sized}

-- past the first four tests
counted : (c : goal.Else-self-gt-MOST_LISTED) → Counted c.args.self.kind c.args.self.bytes.now c.args.self.ends.now c.args.self.values.now
counted c =
    record {
      known = c.in_ok-kind.ensures.0;
      paired = c.if-self.false;
      right = sym c.ends_wrong.ensures ∙ c.if-ends_wrong.false;
      few = c.if-self-gt-MOST_LISTED.false;
    }

ends_right : (c : goal.Else-self-gt-MOST_LISTED) → SoundEnds c.args.self.bytes.now c.args.self.ends.now
ends_right c = sound_ends _ _ _ _ (counted c)

-- what the two searches found, where the ends are right
empty_at : (c : goal.In-Some) → SoundEnds c.args.self.bytes.now c.args.self.ends.now
    → first_where is_empty (patterns_of c.args.self.bytes.now c.args.self.ends.now) ≡ some c.in-Some.i
empty_at c sound = empty_same _ _ ∙ sym (c.first_sized.ensures _ sound) ∙ ap placed c.in-Some.is

empty_none : (c : goal.In_default) → SoundEnds c.args.self.bytes.now c.args.self.ends.now
    → first_where is_empty (patterns_of c.args.self.bytes.now c.args.self.ends.now) ≡ none
empty_none c sound = empty_same _ _ ∙ sym (c.first_sized.ensures _ sound) ∙ ap placed c.in_default.is

long_at : (c : goal.In-Some-first_sized) → SoundEnds c.args.self.bytes.now c.args.self.ends.now
    → first_where (exceeds most_bytes) (patterns_of c.args.self.bytes.now c.args.self.ends.now) ≡ some c.in-Some-first_sized.i
long_at c sound = long_same _ _ _ sound ∙ sym (c.first_sized-2.ensures _ sound) ∙ ap placed c.in-Some-first_sized.is

long_none : (c : goal.In_default-first_sized) → SoundEnds c.args.self.bytes.now c.args.self.ends.now
    → first_where (exceeds most_bytes) (patterns_of c.args.self.bytes.now c.args.self.ends.now) ≡ none
long_none c sound = long_same _ _ _ sound ∙ sym (c.first_sized-2.ensures _ sound) ∙ ap placed c.in_default-first_sized.is

pub returns-in_err-kind-clause-told : goal.returns-in_err-kind-clause-told
returns-in_err-kind-clause-told c =
    let named = c.in_err-kind.ensures in
    tells_kind _ _ named.1 c.from_residual.ensures.1 ∙ gives_kind _ _ _ _ named.0

pub returns-then-self-clause-told : goal.returns-then-self-clause-told
returns-then-self-clause-told c = gives_counts _ _ _ _ c.in_ok-kind.ensures.0 c.if-self.true

pub returns-then-ends_wrong-clause-told : goal.returns-then-ends_wrong-clause-told
returns-then-ends_wrong-clause-told c =
    gives_ends _ _ _ _ c.in_ok-kind.ensures.0 c.if-self.false (sym c.ends_wrong.ensures ∙ c.if-ends_wrong.true)

pub returns-then-self-gt-MOST_LISTED-clause-told : goal.returns-then-self-gt-MOST_LISTED-clause-told
returns-then-self-gt-MOST_LISTED-clause-told c =
    gives_many _ _ _ _ c.in_ok-kind.ensures.0 c.if-self.false (sym c.ends_wrong.ensures ∙ c.if-ends_wrong.false)
    c.if-self-gt-MOST_LISTED.true

pub overflow_cast-result : goal.overflow_cast-result
overflow_cast-result c =
    let past = (goal.at.overflow_cast-result c).Else-self-gt-MOST_LISTED in
    omega (arith, index_small _ _ _ _ (counted past) is_empty _ (empty_at c (ends_right past)))

pub returns-in-Some-clause-told : goal.returns-in-Some-clause-told
returns-in-Some-clause-told c =
    let past = (goal.at.returns-in-Some-clause-told c).Else-self-gt-MOST_LISTED in
    gives_empty _ _ _ _ (counted past) _ (empty_at c (ends_right past))

pub overflow_cast-result-in-Some-first_sized : goal.overflow_cast-result-in-Some-first_sized
overflow_cast-result-in-Some-first_sized c =
    let past = (goal.at.overflow_cast-result-in-Some-first_sized c).Else-self-gt-MOST_LISTED in
    omega (arith, index_small _ _ _ _ (counted past) (exceeds most_bytes) _ (long_at c (ends_right past)))

pub returns-in-Some-first_sized-clause-told : goal.returns-in-Some-first_sized-clause-told
returns-in-Some-first_sized-clause-told c =
    let past = (goal.at.returns-in-Some-first_sized-clause-told c).Else-self-gt-MOST_LISTED in
    let sound = ends_right past in
    gives_long _ _ _ _ (counted past) _ (empty_none (goal.at.returns-in-Some-first_sized-clause-told c).In_default sound) (long_at c sound)

-- past the last test nothing is told
fine : (c : goal.In_default-first_sized) → none ≡ lowest (refusals c.args.self.kind c.args.self.bytes.now c.args.self.ends.now c.args.self.values.now)
fine c =
    let past = (goal.at.In_default-first_sized c).Else-self-gt-MOST_LISTED in
    let sound = ends_right past in
    gives_fine _ _ _ _ (counted past) (empty_none (goal.at.In_default-first_sized c).In_default sound) (long_none c sound)

pub invariant_of-result-clause-sound : goal.invariant_of-result-clause-sound
invariant_of-result-clause-sound c = untold_sound _ _ _ _ (sym (fine (goal.at.invariant_of-result-clause-sound c).In_default-first_sized))

pub returns-clause-told : goal.returns-clause-told
returns-clause-told c = fine (goal.at.returns-clause-told c).In_default-first_sized
