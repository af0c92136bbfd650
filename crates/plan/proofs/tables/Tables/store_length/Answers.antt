use Rattle.std.proofs.Common.{ap, arith}
use Rattle.plan.specs.Of.{contents_of}
use Rattle.plan.proofs.Grid.{declared_stored}
use Rattle.plan.proofs.tables.Tables.store_length.Goals as goal

pub returns : goal.returns
returns c =
    let t = c.args.self.now in
    ap (λ ds. record (contents_of t) { lengths = ds })
    (declared_stored t.lengths c.args.task c.args.resource c.args.ticks (omega arith) (omega arith) (λ j g. t.lengths_held.2 j (omega arith)) (omega arith))
