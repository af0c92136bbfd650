use Rattle.std.proofs.Common.{◌+◌, ◌*◌, ◌≤◌, take}
use Rattle.plan.specs.Of.{plan_contents}
use Rattle.text.specs.Memory.{Lays}
use Rattle.plan_text.specs.Texts.{row_text}
use Rattle.plan_text.specs.Writing.{task_items}
use Rattle.plan_text.proofs.write.lay_tasks.Given as goal

abbrev pub invariant-loop-task : goal.invariant-loop-task
invariant-loop-task l =
    Lays l.initial.out l.at (row_text (take l.task (task_items (plan_contents l.plan)))) l.end l.out
    × (l.end ≤ l.at + 35 * l.task)
