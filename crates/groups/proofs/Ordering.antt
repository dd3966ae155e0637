-- The order as it is made: the groups that are noted and those that the stack stands for are all groups. A state is popped once, so there is
-- room for its group and for its children.
use mathlib.Core.Path.{◌≡◌, refl, sym, ap, ◌∙◌, subst}
use mathlib.Core.List.{List, [], ◌∷◌, ◌++◌, append-nil, append_assoc, Memᴰ}
use Prim.Native.Nat.{ℕ, zero, suc, ◌+◌, ◌-◌, ◌*◌, ◌≤◌, ◌<◌}
use native.Mathlib.Decide.{dec_lt}
use native.Mathlib.Omega.{arith}
use lib.ListN.{length, get_or, length-append, length-set, get_or-append}
use lib.Seq.{get_or-append_seam}
use Rattle.zeros.specs.Rows.{field}
use Rattle.zeros.proofs.Rows.{field_set_same, field_set_other}
use Rattle.paper.specs.Patterns.{Entry}
use Rattle.paper.specs.Automaton.{is_state}
use Rattle.list.specs.Limits.{alphabet, most_bytes}
use Rattle.plan.specs.Names.{names}
use Rattle.plan.specs.Breadth.{kid_bytes, kids, Bounded}
use Rattle.plan.specs.Groups.{Group, group_of, own_group, flat}
use Rattle.plan.proofs.Names.{index}
use Rattle.plan.proofs.Lists.{get_member}
use Rattle.plan.proofs.Machines.{machine_bounded}
use Rattle.plan.proofs.Groups.{groups_exact, flat_nil, flat_root, flat_pop}
use Rattle.trie.specs.Trie.{slots_of}
use Rattle.trie.proofs.Inserting.{kept_field}
use Rattle.trie.proofs.Making.{names_cover}
use Rattle.trie.proofs.Walks.{Walk, walk_begin, walk_end, walk_first, rest}
use Rattle.links.specs.Linked.{Named}
use Rattle.links.proofs.States.{root_named}
use Rattle.groups.specs.Ordered.{with_group, groups_of, no_group, Groupable, Grouped}
use Rattle.groups.specs.Stack.{Stack, with_kids, Pushable, Pushed}
use Rattle.groups.proofs.Visits.{Visits, visits_root, visits_fit, visits_pop}
use Rattle.groups.proofs.Pushing.{stack_same}

-- ---- one group anew

-- the fields before the group's stay everywhere
group_keeps : (rows : List (List ℕ)) (i v : ℕ) → i < length rows → (k f : ℕ) → f < 3 → field (with_group rows i v) k f ≡ field rows k f
group_keeps rows i v h k zero l = kept_field rows i 0 _ h refl k
group_keeps rows i v h k (suc zero) l = kept_field rows i 1 _ h refl k
group_keeps rows i v h k (suc (suc zero)) l = kept_field rows i 2 _ h refl k
group_keeps rows i v h k (suc (suc (suc f))) l = absurd (omega arith)

-- and so does the stack
group_stack : (rows : List (List ℕ)) (i v : ℕ) → i < length rows → (k : ℕ) → field (with_group rows i v) k 4 ≡ field rows k 4
group_stack rows i v h k = kept_field rows i 4 _ h refl k

-- ---- the loop

-- before a state is popped: `popped` are those before it, and `noted` the groups of those of them that have children
pub record Ordering (es : List Entry) (notes₀ notes : List (List ℕ)) (height count : ℕ) (stack : List (List ℕ)) : Type 0 where
  pub noted : List Group
  pub popped : List (List ℕ)
  pub whole : noted ++ flat alphabet (is_state es) most_bytes stack ≡ groups_of es
  pub visits : Visits (is_state es) popped stack
  pub few : length noted ≤ length popped
  pub count_is : count ≡ length noted
  pub height_is : height ≡ length stack
  pub stack_is : Stack (names alphabet es) notes stack
  pub named : (i : ℕ) → i < length noted → Named (names alphabet es) (field notes i 3) (get_or noted i no_group).parent
  pub kept : (k f : ℕ) → f < 3 → field notes k f ≡ field notes₀ k f

-- a stack that is not empty has a top
pub record Topped (es : List Entry) (notes₀ notes : List (List ℕ)) (height count : ℕ) : Type 0 where
  pub state : List ℕ
  pub below : List (List ℕ)
  pub ordering : Ordering es notes₀ notes height count (state ∷ below)

pub topped : {es : List Entry} {notes₀ notes : List (List ℕ)} {height count : ℕ} (stack : List (List ℕ))
    → Ordering es notes₀ notes height count stack → 0 < height → Topped es notes₀ notes height count
topped [] A h = absurd (omega (arith, A.height_is))
topped (s ∷ below) A h = record { state = s; below = below; ordering = A }

-- the notes keep their number of rows
pub groupable_for : {es : List Entry} {trie : List (List ℕ)} {room now : ℕ} → Groupable es trie room → now ≡ room → Groupable es trie now
groupable_for G e = rw e G

module _ {es : List Entry} {trie : List (List ℕ)} {room : ℕ} (G : Groupable es trie room) where
  bounded : Bounded alphabet most_bytes (is_state es)
  bounded = machine_bounded alphabet most_bytes es G.stands.within

  -- each state has a row of its own, so these have room
  visits_room : {popped stack : List (List ℕ)} → Visits (is_state es) popped stack → length popped + length stack ≤ room
  visits_room W =
      omega (
        arith,
        G.notes_room,
        visits_fit W (names alphabet es)
            (λ s h. let i = index (names alphabet es) s (names_cover alphabet es s h) in
            subst (λ (w : List ℕ). Memᴰ w (names alphabet es)) i.is (get_member (names alphabet es) i.at [] i.inside)),
      )

  -- root alone on the stack
  pub begun : (notes : List (List ℕ)) → field notes 0 4 ≡ 0 → Ordering es notes notes 1 0 ([] ∷ [])
  begun notes e =
      record {
        noted = [];
        popped = [];
        whole = flat_root alphabet most_bytes (is_state es) bounded;
        visits = visits_root (is_state es) bounded.root;
        few = omega arith;
        count_is = refl;
        height_is = refl;
        stack_is = (rw e (root_named es (slots_of trie) G.stands.trie bounded), tt);
        named = λ i h. absurd (omega arith);
        kept = λ k f l. refl;
      }

  module _ {notes₀ notes : List (List ℕ)} {height count : ℕ} where
    -- the stack is empty
    pub ended : (before : List (List ℕ)) → ((k f : ℕ) → f < 3 → field notes₀ k f ≡ field before k f) → length notes ≡ room
        → (stack : List (List ℕ)) → Ordering es notes₀ notes height count stack → height ≤ 0 → Grouped es before notes count
    ended before same long (s ∷ below) A z = absurd (omega (arith, A.height_is))
    ended before same long [] A z =
        record {
          ordered =
              record {
                count_is = A.count_is ∙ ap length all;
                room = omega (arith, A.count_is, A.few, visits_room A.visits);
                named = subst (λ (gs : List Group). (i : ℕ) → i < length gs → Named (names alphabet es) (field notes i 3) (get_or gs i no_group).parent) all A.named;
                bytes = λ i h. (groups_exact alphabet most_bytes (is_state es) bounded (get_or (groups_of es) i no_group)).0 (get_member (groups_of es) i no_group h);
              };
          kept = λ k f l. A.kept k f l ∙ same k f l;
        }
      where
        all : A.noted ≡ groups_of es
        all =
            sym (append-nil A.noted) ∙ ap (λ (l : List Group). A.noted ++ l) (sym (flat_nil alphabet most_bytes (is_state es) bounded)) ∙ A.whole

    module _ (P : Topped es notes₀ notes height count) where
      abbrev A : Ordering es notes₀ notes height count (P.state ∷ P.below)
      A = P.ordering

      abbrev u : List ℕ
      u = P.state

      -- the height of the top
      pub lower : height - 1 ≡ length P.below
      lower = omega (arith, P.ordering.height_is)

      pub height_room : height ≤ room
      height_room = omega (arith, P.ordering.height_is, visits_room P.ordering.visits)

      pub count_room : count < room
      count_room = omega (arith, P.ordering.count_is, P.ordering.few, visits_room P.ordering.visits)

      pub top_named : Named (names alphabet es) (field notes (height - 1) 4) P.state
      top_named = rw lower P.ordering.stack_is.0

      popping : Visits (is_state es) (u ∷ A.popped) (with_kids es u P.below)
      popping = visits_pop alphabet (is_state es) A.popped P.below u A.visits

      module _ (s : ℕ) (s-is : s ≡ field notes (height - 1) 4) where
        pub state_named : Named (names alphabet es) s P.state
        state_named = rw s-is top_named

        walking : Walk es u (kid_bytes alphabet (is_state es) u) ((slots_of trie).first s)
        walking =
            subst (λ (w : List ℕ). Walk es w (kid_bytes alphabet (is_state es) w) ((slots_of trie).first s)) state_named.is
            (walk_begin G.stands s state_named.inside)

        -- a childless state is popped
        module _ (none : (slots_of trie).first s ≡ 0) where
          no_bytes : kid_bytes alphabet (is_state es) u ≡ []
          no_bytes = walk_end G.stands walking none

          bare : with_kids es u P.below ≡ P.below
          unfolding kids
          bare = rw no_bytes

          same_groups : flat alphabet (is_state es) most_bytes (u ∷ P.below) ≡ flat alphabet (is_state es) most_bytes P.below
          same_groups =
              flat_pop alphabet most_bytes (is_state es) bounded u P.below
              ∙ ap (λ (l : List Group). l ++ flat alphabet (is_state es) most_bytes (with_kids es u P.below)) no_group_lem
              ∙ ap (flat alphabet (is_state es) most_bytes) bare
            where
              no_group_lem : own_group alphabet (is_state es) u ≡ []
              no_group_lem = rw no_bytes

          pub leaf : Ordering es notes₀ notes (height - 1) count P.below
          leaf =
              record {
                noted = A.noted;
                popped = u ∷ A.popped;
                whole = ap (λ (l : List Group). A.noted ++ l) (sym same_groups) ∙ A.whole;
                visits = subst (Visits (is_state es) (u ∷ A.popped)) bare popping;
                few = omega (arith, A.few);
                count_is = A.count_is;
                height_is = lower;
                stack_is = A.stack_is.1;
                named = A.named;
                kept = A.kept;
              }

        -- the group of a state with children is noted, and they are pushed
        module _ (long : length notes ≡ room) (some : (slots_of trie).first s ≡ 0 → ⊥) where
          noting : count < length notes
          noting = omega (arith, count_room)

          group : Group
          group = record { parent = u; low = (slots_of trie).label ((slots_of trie).first s); more = rest G.stands walking some }

          own_group_lem : own_group alphabet (is_state es) u ≡ group ∷ []
          unfolding group
          own_group_lem = ap (group_of u) (walk_first G.stands walking some)

          -- whatever state the group was noted for
          pub pushable : (v : ℕ) → Pushable es trie (with_group notes count v) s (height - 1) P.state P.below
          pushable v =
              record {
                stands = G.stands;
                named = state_named;
                height_is = lower;
                stack_is = stack_same (names alphabet es) notes (with_group notes count v) P.below (λ i h. group_stack notes count v noting i) A.stack_is.1;
                room =
                    omega (
                      arith,
                      visits_room popping,
                      length-set notes count (field notes count 0 ∷ field notes count 1 ∷ field notes count 2 ∷ v ∷ field notes count 4 ∷ field notes count 5 ∷ []),
                    );
              }

          module _ (later : List (List ℕ)) (risen : ℕ) (Q : Pushed es (with_group notes count s) later risen P.state P.below) where
            pub risen_room : risen ≤ room
            risen_room = omega (arith, Q.height_is, visits_room popping)

            at_old : (i : ℕ) → i < length A.noted → Named (names alphabet es) (field later i 3) (get_or (A.noted ++ (group ∷ [])) i no_group).parent
            at_old i h =
                rw (get_or-append A.noted (group ∷ []) no_group i h, Q.kept i 3 (omega arith))
                (rw (field_set_other notes count i 3 (field notes count 0 ∷ field notes count 1 ∷ field notes count 2 ∷ s ∷ field notes count 4 ∷ field notes count 5 ∷ []) (λ e. omega (arith, A.count_is))) (A.named i h))

            at_new : (i : ℕ) → i ≡ length A.noted → Named (names alphabet es) (field later i 3) (get_or (A.noted ++ (group ∷ [])) i no_group).parent
            unfolding group
            at_new i e =
                let here : i ≡ count = e ∙ sym A.count_is in
                let seam : get_or (A.noted ++ (group ∷ [])) i no_group ≡ group =
                ap (λ (k : ℕ). get_or (A.noted ++ (group ∷ [])) k no_group) e ∙ get_or-append_seam A.noted group [] no_group in
                let reads : field later i 3 ≡ s =
                Q.kept i 3 (omega arith) ∙ ap (λ (k : ℕ). field (with_group notes count s) k 3) here ∙ field_set_same notes count 3 _ noting in
                rw (reads, seam) state_named

            pub grouped : Ordering es notes₀ later risen (count + 1) (with_kids es u P.below)
            grouped =
                record {
                  noted = A.noted ++ (group ∷ []);
                  popped = u ∷ A.popped;
                  whole =
                      append_assoc A.noted (group ∷ []) (flat alphabet (is_state es) most_bytes (with_kids es u P.below))
                      ∙ ap (λ (l : List Group). A.noted ++ l)
                      (ap (λ (l : List Group). l ++ flat alphabet (is_state es) most_bytes (with_kids es u P.below)) (sym own_group_lem)
                      ∙ sym (flat_pop alphabet most_bytes (is_state es) bounded u P.below))
                      ∙ A.whole;
                  visits = popping;
                  few = omega (arith, A.few, length-append A.noted (group ∷ []));
                  count_is = omega (arith, A.count_is, length-append A.noted (group ∷ []));
                  height_is = Q.height_is;
                  stack_is = Q.stack_is;
                  named = λ i h.
                      elim (dec_lt i (length A.noted)) [
                        | yes l ↦ at_old i l
                        | no l ↦ at_new i (omega (arith, length-append A.noted (group ∷ [])))
                      ];
                  kept = λ k f l. Q.kept k f (omega arith) ∙ group_keeps notes count s noting k f l ∙ A.kept k f l;
                }

-- ---- what falls: the groups to come, and between two of them the height

abbrev pub still : ℕ → ℕ → ℕ → ℕ
still room count height = (room - count) * suc room + height

pub still_falls : (room count height risen : ℕ) → count < room → risen ≤ room → still room (count + 1) risen < still room count height
still_falls room count height risen h l =
    let e : room - count ≡ suc (room - (count + 1)) = omega arith in
    rw e (omega arith)

pub still_pops : (room count height : ℕ) → 0 < height → still room count (height - 1) < still room count height
still_pops room count height h = omega arith
