use Rattle.std.proofs.Common.{◌∙◌, ◌∷◌, [], length, length-append, ap, eq-eqb, arith}
use Rattle.std.proofs.lemmas.Bool.{ne_eqb}
use Rattle.table.proofs.Selected.{one_passes, none_passes}
use Rattle.table.proofs.members.tasks_of.Goals as goal
use Rattle.table.proofs.members.tasks_of.Goals.{then-home-cluster, else-home-cluster}

pub loop-task-preserved : goal.loop-task-preserved
loop-task-preserved c =
    let was = c.loop-task.invariant.0 in
    elim c.if-home-cluster.branch [
      | then-home-cluster w ↦
          let pushed = rw w.unwrap.ensures at w.push.ensures in
          (w.tasks-is ∙ one_passes _ c.loop-task.task c.loop-task.tasks _ was (eq-eqb _ _ w.if-home-cluster.true) pushed.1, omega (arith, ap length w.tasks-is, ap length pushed.1, length-append c.loop-task.tasks (c.loop-task.task ∷ [])))
      | else-home-cluster w ↦ (w.tasks-is ∙ none_passes _ c.loop-task.task c.loop-task.tasks was (ne_eqb _ _ w.if-home-cluster.false), omega (arith, ap length w.tasks-is))
    ]
