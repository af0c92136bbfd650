use Rattle.std.proofs.Common.{◌<◌, length, arith}
use Rattle.plan_text.proofs.Writing.{lays_place}
use Rattle.plan_text.proofs.write.lay_lengths.Goals as goal

pub loop-place-preserved : goal.loop-place-preserved
loop-place-preserved c =
    let xs = c.args.plan.now.tables.lengths in
    let k = c.loop-place.place in
    let l : k < length xs = omega arith in
    (lays_place xs k l c.args.out.now c.args.at c.loop-place.end c.loop-place.out c.loop-place.invariant.0 c.lay_length-end.result c.lay_length-end.new.out c.lay_length-end.ensures.lays, omega (arith, c.lay_length-end.ensures.few))
