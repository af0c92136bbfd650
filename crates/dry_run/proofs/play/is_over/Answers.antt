use Rattle.std.proofs.Common.{sym, ◌∙◌}
use Rattle.std.proofs.lemmas.Bool.{true≢false}
use Rattle.dry_run.proofs.Phases.{goes_on}
use Rattle.dry_run.proofs.play.is_over.Goals as goal

pub returns-clause-goes_on : goal.returns-clause-goes_on
returns-clause-goes_on c = λ e i o fed. goes_on c.phase.result i o (c.phase.ensures.tells i o fed) (λ over. let w = rw over at c.eq.ensures in true≢false (sym w ∙ e))
