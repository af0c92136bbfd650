use Rattle.dry_run.proofs.Fronts.{at_err, nothing_written}
use Rattle.dry_run.proofs.play.play.Goals as goal

pub returns-in_err-room-clause-err : goal.returns-in_err-room-clause-err
returns-in_err-room-clause-err g c = at_err _ (nothing_written _ _)

pub returns-in_err-out-clause-err : goal.returns-in_err-out-clause-err
returns-in_err-out-clause-err g c = at_err _ (nothing_written _ _)
