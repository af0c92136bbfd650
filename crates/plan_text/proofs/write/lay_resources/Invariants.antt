use Rattle.std.proofs.Common.{◌+◌, ◌*◌, ◌≤◌, take}
use Rattle.plan.specs.Of.{plan_contents}
use Rattle.text.specs.Memory.{Lays}
use Rattle.plan_text.specs.Texts.{row_text}
use Rattle.plan_text.specs.Writing.{resource_items}
use Rattle.plan_text.proofs.write.lay_resources.Given as goal

abbrev pub invariant-loop-resource : goal.invariant-loop-resource
invariant-loop-resource l =
    Lays l.initial.out l.at (row_text (take l.resource (resource_items (plan_contents l.plan)))) l.end l.out
    × (l.end ≤ l.at + 35 * l.resource)
