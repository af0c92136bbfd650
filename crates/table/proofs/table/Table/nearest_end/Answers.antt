use Rattle.std.proofs.Common.{sym, subst}
use Rattle.plan.specs.Of.{plan_contents}
use Rattle.rules.specs.Holders.{IsNearestEnd}
use Rattle.table.specs.Rows.{tasks_in}
use Rattle.table.proofs.Nearest.{nearest_kept, without_keeps}
use Rattle.table.proofs.Ranks.{records_past}
use Rattle.table.specs.Tables.{records_of}
use Rattle.table.proofs.table.Table.nearest_end.Goals as goal

pub returns-clause-nearest : goal.returns-clause-nearest
returns-clause-nearest c =
    let now = c.args.self.now in
    let p = plan_contents now.plan.now in
    subst (IsNearestEnd p (records_of now)) (sym c.nearest.ensures) (nearest_kept p now.tasks (records_of now) (records_past now.ended now.tasks now.rows.now) (without_keeps p now.ended (tasks_in now.tasks now.rows.now) now.keeps_lengths))
