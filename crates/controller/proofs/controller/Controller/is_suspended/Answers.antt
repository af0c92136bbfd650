use Rattle.std.proofs.Common.{◌∙◌}
use Rattle.rules.proofs.Law.{suspended_lem}
use Rattle.controller.proofs.controller.Controller.is_suspended.Goals as goal

pub returns-clause-run : goal.returns-clause-run
returns-clause-run g c h run = c.suspends.ensures ∙ suspended_lem run c.args.task
