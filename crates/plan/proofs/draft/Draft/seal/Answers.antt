use Rattle.std.proofs.Common.{arith}
use Rattle.plan.proofs.KeepsLimits.{tables_keep}
use Rattle.plan.proofs.draft.Draft.seal.Goals as goal

pub returns-clause-limits : goal.returns-clause-limits
returns-clause-limits c = tables_keep c.args.tables.now (omega arith) (omega arith) (omega arith)
