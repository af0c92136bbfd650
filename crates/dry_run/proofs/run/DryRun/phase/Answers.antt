use Rattle.std.proofs.Common.{sym, subst}
use Rattle.dry_run.specs.Fed.{Tells}
use Rattle.dry_run.proofs.Phases.{tells}
use Rattle.dry_run.proofs.run.DryRun.phase.Goals as goal

pub returns-clause-tells : goal.returns-clause-tells
returns-clause-tells c = λ i o fed. subst (λ p. Tells p i o) (sym c.reads_next.ensures) (tells c.args.self.now.progress i o fed)
