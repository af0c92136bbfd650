use Rattle.std.proofs.Common.{length, ap, arith}
use Rattle.plan.specs.Filled.{length_of_filled}
use Rattle.plan.proofs.Filling.{filled_more}
use Rattle.plan.proofs.resources.Resources.push.Goals as goal

pub invariant_of-self : goal.invariant_of-self
invariant_of-self c =
    let places = c.self.inside.places in
    let len = c.self.inside.len in
    filled_more places len c.args.resource c.self.invariant (omega (arith, length_of_filled places len c.self.invariant, ap length c.self.view_is))
