use Rattle.std.proofs.Common.{◌≡◌, ◌++◌, length, decimal, arith}
use Rattle.item.proofs.Sizes.{number_size}
use Rattle.event.proofs.Laying.{laid_more}
use Rattle.event.proofs.write.lay_field.Goals as goal

pub returns-clause-laid : goal.returns-clause-laid
returns-clause-laid c =
    let few = number_size c.args.n (omega arith) in
    laid_more c.args.out.now c.args.at c.args.before.now c.lay_bytes-end.result c.lay_bytes-end.new.out (decimal c.args.n ++ c.args.behind.now) c.lay_bytes.result c.lay_bytes.new.out (omega arith) c.lay_bytes-end.ensures
    (laid_more c.lay_bytes-end.new.out c.lay_bytes-end.result (decimal c.args.n) c.lay_number-end.result c.lay_number-end.new.out c.args.behind.now c.lay_bytes.result c.lay_bytes.new.out (omega (arith, few, c.lay_bytes-end.ensures.0)) c.lay_number-end.ensures c.lay_bytes.ensures)
