-- No second answer: an equation has one, and the promise of `build` is a record of equations.
use Rattle.std.specs.Prelude.{Result}
use mathlib.Core.Path.{◌≡◌, sym, ap, ◌∙◌}
use mathlib.Core.List.{List}
use Prim.Native.Nat.{ℕ}
use lib.ListN.{length}
use Rattle.build.proofs.Claims as build
use Rattle.search.proofs.Claims as search
use Rattle.sheet.proofs.Claims as sheet
use Rattle.build.specs.declared.Refusal.{Refusal}
use Rattle.table.specs.declared.Counts.{Counts}
use Rattle.build.specs.Lot.{Lot}
use Rattle.build.specs.Outcome.{answer}
use Rattle.build.specs.Promise.{Promise}
use Rattle.boundary.specs.Boundary.{number_of, beside}
use Rattle.day.specs.OneAnswer.{Only, OneAnswer}

only : {A : Type 0} (a : A) → Only a
only a r r' p q = p ∙ sym q

one_build : (kind : ℕ) (bytes ends values : List ℕ) (entry exit exit' : Lot) (r r' : Result Counts Refusal)
    → Promise kind bytes ends values entry exit r
    → Promise kind bytes ends values entry exit' r'
    → (r ≡ r') × (exit ≡ exit')
one_build kind bytes ends values entry exit exit' r r' p q =
    let C = build.build_claims kind bytes ends values entry in (C.one_answer exit exit' r r' p q, C.one_lot exit exit' r r' p q)

pub one_answer : OneAnswer
one_answer =
    record {
      probe = λ base check cells s c. only _;
      link = λ links depth cells s. only _;
      place = λ output cells s. only _;
      output = λ outs accepted place end. only _;
      column_slots_lem = λ base link output check depth. only _;
      build = one_build;
      refused_list = λ why. only _;
      refused_states = only _;
      refused_cells = only _;
      fresh = only _;
      next = λ w T kind text v. (search.claims w T kind text v).one_answer;
      equal = λ same. only same;
      is_other = λ w kind. only _;
      fill = λ w T kind text v sheet₀ sheet' sheet'' r r' t p t' p'. ((sheet.claims w T kind text v).one_answer (length sheet₀) r r' t t', p ∙ sym p');
      exported_build = λ kind bytes ends values entry exit exit' counts counts' r r' p q.
          let S = one_build kind bytes ends values entry exit exit' p.built q.built p.promised q.promised in
          (p.numbered ∙ ap (λ (x : Result Counts Refusal). number_of (answer x)) S.0 ∙ sym q.numbered, p.beside_is ∙ ap (λ (x : Result Counts Refusal). beside (answer x)) S.0 ∙ sym q.beside_is, S.1);
      exported_search = λ l sheet₀ sheet' sheet'' state pending place moves state' pending' place' moves' count count' r r' p q.
          (p.numbered ∙ sym q.numbered, p.held ∙ sym q.held, p.filled ∙ sym q.filled, p.counted ∙ sym q.counted);
    }
