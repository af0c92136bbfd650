use Rattle.std.proofs.Common.{◌≡◌, ◌++◌, length, ap, arith, length-append}
use Rattle.limits.specs.Lines.{limit_line}
use Rattle.limits.proofs.Sizes.{line_size}
use Rattle.limits.proofs.limits.push_resource.Goals as goal

pub returns-clause-few : goal.returns-clause-few
returns-clause-few g c =
    let line = limit_line c.args.resource c.unwrap-write.result c.wait_limit-read.result in
    let size : length c.push_line.new.text ≡ length (c.args.text.now ++ line) = ap length (rw c.unwrap.ensures at c.push_line.ensures).1 in
    omega (arith, size, length-append c.args.text.now line, line_size c.args.resource c.unwrap-write.result c.wait_limit-read.result (omega arith) (omega arith) c.wait_limit-read.ensures.few)
