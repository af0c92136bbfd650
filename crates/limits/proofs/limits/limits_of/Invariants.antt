use Rattle.std.proofs.Common.{◌≡◌, ◌*◌, ◌≤◌, length}
use Rattle.plan.specs.Of.{plan_contents}
use Rattle.limits.specs.Lines.{lines_to}
use Rattle.limits.proofs.limits.limits_of.Given as goal

abbrev pub invariant-loop-resource : goal.invariant-loop-resource
invariant-loop-resource g l = (l.text ≡ lines_to (g.B.Bank.told l.bank) (plan_contents l.plan) l.resource) × (length l.text ≤ 65 * l.resource)
