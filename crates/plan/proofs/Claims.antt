-- All claims hold: each field cites the law that proves it.
use Rattle.paper.specs.Automaton.{machine}
use Rattle.paper.proofs.Machines.{lawful}
use Rattle.plan.specs.Claims.{PlanClaims}
use Rattle.plan.proofs.Breadth.{breadth_exact, breadth_once, breadth_rising}
use Rattle.plan.proofs.Outputs.{output_stored}
use Rattle.plan.proofs.Counts.{stored_count}
use Rattle.plan.proofs.Machines.{machine_bounded, machine_quiet}

pub plan : PlanClaims
plan =
    record {
      bounded = machine_bounded;
      exact = breadth_exact;
      once = breadth_once;
      rising = breadth_rising;
      stored = λ kind es P. output_stored (machine kind es) (lawful kind es P) (machine_quiet kind es P);
      counted = stored_count;
    }
