use Rattle.std.proofs.Common.{None, sym, subst}
use Rattle.plan.specs.Of.{plan_contents}
use Rattle.rules.specs.Holders.{IsNearestEnd}
use Rattle.rules.specs.Jobs.{Snapshot}
use Rattle.rules.proofs.Law.{stands}
use Rattle.table.proofs.Nearest.{nearest_kept}
use Rattle.table.proofs.Ranks.{records_past}
use Rattle.controller.specs.Of.{snapshot_of}
use Rattle.controller.proofs.controller.Controller.nearest_end.Goals as goal

pub returns-clause-nearest : goal.returns-clause-nearest
returns-clause-nearest g c =
    let self = c.args.self.now in
    let p = plan_contents self.plan in
    let tasks = (snapshot_of g.B.Bank self).tasks in
    subst (IsNearestEnd p tasks) (sym c.nearest.ensures) (nearest_kept p self.tasks tasks (records_past None self.tasks self.table.records.rows) self.keeps_lengths)

pub returns-clause-run : goal.returns-clause-run
returns-clause-run g c h run = subst (λ (z : Snapshot). IsNearestEnd (plan_contents c.args.self.now.plan) z.tasks c.nearest.result) (stands run) (returns-clause-nearest g c)
