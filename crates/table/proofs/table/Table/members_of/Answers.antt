use Rattle.std.proofs.Common.{◌∙◌}
use Rattle.table.proofs.Clusters.{part_of}
use Rattle.table.proofs.table.Table.members_of.Goals as goal

pub returns-clause-tasks : goal.returns-clause-tasks
returns-clause-tasks c =
    let now = c.args.self.now in
    c.of_cluster.ensures.tasks ∙ part_of now.plan.now now.members.now.parts c.args.cluster now.keeps_members
