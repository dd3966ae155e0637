-- What each answer of a call says: what comes with a match, with the end, and the cause of a refusal.
use mathlib.Core.Path.{◌≡◌, refl, sym, ap, ◌∙◌, subst}
use mathlib.Core.Bool.{Bool, true, false}
use mathlib.Core.List.{List}
use mathlib.Core.Logic.{◌⊎◌, inl, inr, ◌↔◌}
use Prim.Native.Nat.{ℕ, ◌+◌, ◌≤◌, ◌<◌}
use native.Mathlib.Omega.{arith}
use lib.ListN.{length, length-drop, drop_of_length-le}
use Rattle.std.specs.Prelude.{Result, Ok, Err}
use Rattle.list.specs.Limits.{most_text}
use Rattle.table.specs.Agrees.{Tables}
use Rattle.table.specs.declared.Row.{Row}
use Rattle.table.specs.declared.Damage.{Damage}
use Rattle.table.specs.Readers.{damage}
use Rattle.search.specs.declared.Search.{Search}
use Rattle.search.specs.declared.Match.{Match}
use Rattle.search.specs.declared.seek.Sought.{Sought}
use Rattle.search.specs.declared.seek.Sought.TheVariants as sought
use Rattle.search.specs.Values.{Which, overlapping, plain, leftmost, root, value_of, match_of, Outcome, gives, ends, refuses}
use Rattle.search.specs.Searches.{seek_of, keep_of, rest, cleared, from, is_leftmost, after_leftmost, at_output, at_end, walk_of, next_of}
use Rattle.search.specs.Damage.{WalkMeets, KeepMeets, ShowsAtFirst, Damaged, shown_at_first, in_walk, with_match}
use Rattle.search.specs.Claims.{WrongKind, Lies}
use Rattle.search.proofs.Hunting.{never}
use Rattle.search.proofs.Stepping.{ended}
use Rattle.search.proofs.Meeting.{seeking, Comes, comes, keeping, match_there, KeptLies, keep_lies}
use Rattle.search.proofs.Entering.{Ready, Course, wrong, long, shows, walks, course}

-- ---- what an answer says

-- a match leaves the place at its end, plain search at root with no output to give, leftmost search with no moves too
abbrev pub AfterMatch : Which → Match → Search → Type 0
AfterMatch overlapping m u = u.place ≡ m.end
AfterMatch plain m u = (u.place ≡ m.end) × (u.state.0 ≡ root) × (u.output ≡ 0)
AfterMatch leftmost m u = u ≡ after_leftmost m.end

-- the end leaves the place at the text's end with no output to give, leftmost search at root and with no moves
abbrev pub AfterEnd : Which → List ℕ → Search → Type 0
AfterEnd overlapping text u = (u.place ≡ length text) × (u.output ≡ 0)
AfterEnd plain text u = (u.place ≡ length text) × (u.output ≡ 0)
AfterEnd leftmost text u = u ≡ after_leftmost (length text)

-- the cause of a refusal, by its number
pub record Cause (w : Which) (T : Tables) (kind : ℕ) (text : List ℕ) (v : Search) (n : ℕ) : Type 0 where
  pub known : (n ≡ 9) ⊎ (n ≡ 10) ⊎ (n ≡ 11)
  pub nine : n ≡ 9 → WrongKind w kind
  pub ten : n ≡ 10 → (WrongKind w kind → ⊥) × (most_text < length text)
  pub eleven : n ≡ 11 → (WrongKind w kind → ⊥) × (length text ≤ most_text) × Damaged w T kind text v

-- each number has its cause
module _ {w : Which} {T : Tables} {kind : ℕ} {text : List ℕ} {v : Search} where
  nine_caused : WrongKind w kind → Cause w T kind text v 9
  nine_caused x = record { known = inl refl; nine = λ z. x; ten = λ z. absurd (omega arith); eleven = λ z. absurd (omega arith) }

  ten_caused : (WrongKind w kind → ⊥) → most_text < length text → Cause w T kind text v 10
  ten_caused n l = record { known = inr (inl refl); nine = λ z. absurd (omega arith); ten = λ z. (n, l); eleven = λ z. absurd (omega arith) }

  eleven_caused : (WrongKind w kind → ⊥) → length text ≤ most_text → Damaged w T kind text v → Cause w T kind text v 11
  eleven_caused n l D =
      record { known = inr (inr refl); nine = λ z. absurd (omega arith); ten = λ z. absurd (omega arith); eleven = λ z. (n, l, D) }

-- what an answer says of the call
abbrev pub Says : Which → Tables → ℕ → List ℕ → Search → Outcome → Type 0
Says w T kind text v (gives m u) = AfterMatch w m u × Lies v.place (length text) m
Says w T kind text v (ends u) = (WrongKind w kind → ⊥) × (length text ≤ most_text) × AfterEnd w text u
Says w T kind text v (refuses n u) = (u ≡ v) × Cause w T kind text v n

-- ---- the walk of a call that is admitted

-- the bytes that are left, with those that are taken, are the text's
taken_left : (text : List ℕ) (v : Search) → v.place ≤ length text → v.place + length (rest text v) ≡ length text
taken_left text v h = omega (arith, length-drop v.place text)

module _ (T : Tables) (kind : ℕ) (text : List ℕ) (v : Search) (short : length text ≤ most_text) (F : Ready T (length text) v) where
  -- where the walk begins is ready too
  begin : (w : Which) → Ready T (length text) (from w v)
  begin overlapping = F
  begin plain = record { rooms = F.rooms; state = F.state; place = F.place }
  begin leftmost = record { rooms = F.rooms; state = F.state; place = F.place }

  -- what the walk comes to up to the first output
  abbrev found : Which → Result Sought Damage
  found w = seek_of (is_leftmost w) T (from w v) (rest text (from w v))

  comes_to : (w : Which) (r : Result Sought Damage) → found w ≡ r → Comes T (from w v) (rest text (from w v)) r
  comes_to w r e =
      subst (Comes T (from w v) (rest text (from w v))) e (comes T F.rooms (is_leftmost w) (rest text (from w v)) (from w v) (begin w).state)

  found_meets : (w : Which) → (found w ≡ damage) ↔ WalkMeets (is_leftmost w) T (from w v) (rest text (from w v))
  found_meets w = seeking T F.rooms (is_leftmost w) (rest text (from w v)) (from w v) (begin w).state

  -- what a leftmost walk keeps from the first output on
  abbrev held : Row → Search → Result (Match × Search) Damage
  held row at = keep_of T (match_of row at.place) at (rest text at)

  held_meets : (row : Row) (at : Search) → found leftmost ≡ Ok (sought.Given row at) → (held row at ≡ damage) ↔ KeepMeets T at (rest text at)
  held_meets row at e = keeping T F.rooms (rest text at) (match_of row at.place) at (comes_to leftmost (Ok (sought.Given row at)) e).state

  -- the match of the first output, and the one that a leftmost walk keeps, lie in the text from the value's place on
  whole_rest : (w : Which) → length text ≡ (from w v).place + length (rest text (from w v))
  whole_rest w = sym (taken_left text (from w v) (begin w).place)

  same_place : (w : Which) → (from w v).place ≡ v.place
  same_place overlapping = refl
  same_place plain = refl
  same_place leftmost = refl

  lies_there : (w : Which) (row : Row) (at : Search) → found w ≡ Ok (sought.Given row at) → Lies v.place (length text) (match_of row at.place)
  lies_there w row at e =
      subst (λ (p : ℕ). Lies p (length text) (match_of row at.place)) (same_place w)
      (match_there T (from w v) (rest text (from w v)) row at (length text) (whole_rest w) (comes_to w (Ok (sought.Given row at)) e))

  held_lies : (row : Row) (at : Search) → found leftmost ≡ Ok (sought.Given row at) → KeptLies v.place (length text) (held row at)
  held_lies row at e =
      let G = comes_to leftmost (Ok (sought.Given row at)) e in
      let within : at.place ≤ length text = omega (arith, G.to, whole_rest leftmost) in
      keep_lies T F.rooms v.place (length text) (rest text at) (match_of row at.place) at G.state G.from (sym (taken_left text at within))
      (lies_there leftmost row at e)

  -- the answers at an output and at the text's end
  output_says : (w : Which) → (WrongKind w kind → ⊥) → (row : Row) (at : Search) → found w ≡ Ok (sought.Given row at)
      → Says w T kind text v (at_output w T text v row at)
  output_says overlapping n row at e = (refl, lies_there overlapping row at e)
  output_says plain n row at e = ((refl, refl, refl), lies_there plain row at e)
  output_says leftmost n row at e = go (held row at) refl
    where
      go : (r : Result (Match × Search) Damage) → held row at ≡ r → Says leftmost T kind text v (at_output leftmost T text v row at)
      go (Ok p) k = rw k (refl, subst (KeptLies v.place (length text)) k (held_lies row at e))
      go (Err _) k = rw k (refl, eleven_caused n short (with_match row at refl e ((held_meets row at e).0 k)))

  end_says : (w : Which) → (WrongKind w kind → ⊥) → (at : Search) → at.place ≡ length text → at.output ≡ 0 → Says w T kind text v (at_end w at)
  end_says overlapping n at p z = (n, short, (p, z))
  end_says plain n at p z = (n, short, (p, z))
  end_says leftmost n at p z = (n, short, ap after_leftmost p)

  -- the answer of the walk
  walk_says : (w : Which) → (WrongKind w kind → ⊥) → Says w T kind text v (walk_of w T text v)
  walk_says w n = go (found w) refl
    where
      go : (r : Result Sought Damage) → found w ≡ r → Says w T kind text v (walk_of w T text v)
      go (Ok (sought.Given row at)) e = rw e (output_says w n row at e)
      go (Ok (sought.End at)) e =
          let C = comes_to w (Ok (sought.End at)) e in
          rw e (end_says w n at (C.1 ∙ taken_left text (from w v) (begin w).place) C.0)
      go (Err _) e = rw e (refl, eleven_caused n short (in_walk ((found_meets w).0 e)))

  -- where it meets damage it answers so: with a match in hand
  held_damaged : (w : Which) → w ≡ leftmost → (row : Row) (at : Search) → seek_of true T (from w v) (rest text (from w v)) ≡ Ok (sought.Given row at)
      → KeepMeets T at (rest text at)
      → walk_of w T text v ≡ refuses 11 v
  held_damaged overlapping q row at e M = absurd (never (cc))
  held_damaged plain q row at e M = absurd (never (cc))
  held_damaged leftmost q row at e M = rw (e, (held_meets row at e).1 M)

  -- or anywhere
  walk_damaged : (w : Which) → (ShowsAtFirst T kind (length text) v → ⊥) → Damaged w T kind text v → walk_of w T text v ≡ refuses 11 v
  walk_damaged w n (shown_at_first S) = absurd (n S)
  walk_damaged w n (in_walk M) = rw ((found_meets w).1 M)
  walk_damaged w n (with_match row at q e M) = held_damaged w q row at e M

-- ---- the end again

-- a value with no output to give is the one that a search walks on from
cleared_same : (u : Search) → u.output ≡ 0 → cleared u ≡ u
cleared_same u z = ap (λ (o : ℕ). value_of u.state o u.place u.moves) (sym z)

-- at the text's end with no output to give, the walk comes to the same value
seek_again : (falling : Bool) (T : Tables) (text : List ℕ) (u : Search) → u.place ≡ length text → u.output ≡ 0
    → seek_of falling T u (rest text u) ≡ Ok (sought.End u)
unfolding seek_of
seek_again falling T text u p z =
    rw (drop_of_length-le text {i = u.place} (omega arith), (ended T u).1 z)

-- so each search answers the end, and the value as it came in
walk_again : (w : Which) (T : Tables) (text : List ℕ) (u : Search) → AfterEnd w text u → walk_of w T text u ≡ ends u
walk_again overlapping T text u A = rw (seek_again false T text u A.0 A.1)
walk_again plain T text u A = rw (cleared_same u A.1, seek_again false T text u A.0 A.1)
walk_again leftmost T text u A = rw A (rw (seek_again true T text (after_leftmost (length text)) refl refl))

-- ---- the call

module _ (w : Which) (T : Tables) (kind : ℕ) (text : List ℕ) (v : Search) where
  -- what its answer says
  pub says : Says w T kind text v (next_of w T kind text v)
  says = go (course w T kind text v)
    where
      go : Course w T kind text v → Says w T kind text v (next_of w T kind text v)
      go (wrong x q) = rw q (refl, nine_caused x)
      go (long n x q) = rw q (refl, ten_caused n x)
      go (shows n l S q) = rw q (refl, eleven_caused n l (shown_at_first S))
      go (walks n l none F q) = rw q (walk_says T kind text v l F w n)

  -- each refusal is given where it has its cause
  pub nine_told : WrongKind w kind → next_of w T kind text v ≡ refuses 9 v
  nine_told x = go (course w T kind text v)
    where
      go : Course w T kind text v → next_of w T kind text v ≡ refuses 9 v
      go (wrong _ q) = q
      go (long n l q) = absurd (n x)
      go (shows n l S q) = absurd (n x)
      go (walks n l none F q) = absurd (n x)

  pub ten_told : (WrongKind w kind → ⊥) → most_text < length text → next_of w T kind text v ≡ refuses 10 v
  ten_told m h = go (course w T kind text v)
    where
      go : Course w T kind text v → next_of w T kind text v ≡ refuses 10 v
      go (wrong x q) = absurd (m x)
      go (long n l q) = q
      go (shows n l S q) = absurd (omega arith)
      go (walks n l none F q) = absurd (omega arith)

  pub eleven_told : (WrongKind w kind → ⊥) → length text ≤ most_text → Damaged w T kind text v → next_of w T kind text v ≡ refuses 11 v
  eleven_told m h D = go (course w T kind text v)
    where
      go : Course w T kind text v → next_of w T kind text v ≡ refuses 11 v
      go (wrong x q) = absurd (m x)
      go (long n l q) = absurd (omega arith)
      go (shows n l S q) = q
      go (walks n l none F q) = q ∙ walk_damaged T kind text v l F w none D

  -- a value that the end left has the end again, unless it shows damage
  pub end_told : (WrongKind w kind → ⊥) → length text ≤ most_text → AfterEnd w text v
      → (next_of w T kind text v ≡ ends v) ⊎ (next_of w T kind text v ≡ refuses 11 v)
  end_told m h A = go (course w T kind text v)
    where
      go : Course w T kind text v → (next_of w T kind text v ≡ ends v) ⊎ (next_of w T kind text v ≡ refuses 11 v)
      go (wrong x q) = absurd (m x)
      go (long n l q) = absurd (omega arith)
      go (shows n l S q) = inr q
      go (walks n l none F q) = inl (q ∙ walk_again w T text v A)
