use Rattle.std.proofs.Common.{ℕ, ◌<◌}
use Rattle.std.specs.Prelude.{IsTrue}
use Rattle.plan.specs.Of.{plan_contents}
use Rattle.rules.specs.Questions.{fits_at}
use Rattle.controller.proofs.controller.new.each_fits.Given as goal

abbrev pub invariant-loop-resource : goal.invariant-loop-resource
invariant-loop-resource g l = (r : ℕ) → r < l.resource → IsTrue (fits_at (plan_contents l.plan) (g.B.Bank.told l.bank) (g.B.Bank.active l.bank) r)
