-- `build` refuses a list before it touches a table, and makes the tables of a sound one.
use Rattle.std.proofs.lemmas.Result.{err_from_is_err_and}
use Rattle.build.proofs.Promising.{promise_unsound}
use Rattle.build.proofs.build.Goals as goal

pub returns-in_err-sound : goal.returns-in_err-sound
returns-in_err-sound c =
    let p = err_from_is_err_and c.from_residual.result c.from_residual.ensures.1 in
    rw (p.1, p.2) (promise_unsound _ c.in_err-sound.ensures.told)
