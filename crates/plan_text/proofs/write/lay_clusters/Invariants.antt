use Rattle.std.proofs.Common.{◌+◌, ◌*◌, ◌≤◌, take}
use Rattle.plan.specs.Of.{plan_contents}
use Rattle.text.specs.Memory.{Lays}
use Rattle.plan_text.specs.Texts.{row_text}
use Rattle.plan_text.specs.Writing.{cluster_items}
use Rattle.plan_text.proofs.write.lay_clusters.Given as goal

abbrev pub invariant-loop-cluster : goal.invariant-loop-cluster
invariant-loop-cluster l =
    Lays l.initial.out l.at (row_text (take l.cluster (cluster_items (plan_contents l.plan)))) l.end l.out
    × (l.end ≤ l.at + 35 * l.cluster)
