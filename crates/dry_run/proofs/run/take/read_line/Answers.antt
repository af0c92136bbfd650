use Rattle.std.proofs.Common.{arith}
use Rattle.dry_run.proofs.Steps.{reads_kept, kept_reserve}
use Rattle.dry_run.proofs.run.take.read_line.Goals as goal

pub returns-clause-reads : goal.returns-clause-reads
returns-clause-reads c =
    reads_kept c.args.kept.now c.args.rest.now c.requires c.keep_front.new.line c.keep_front.ensures c.line_event.result c.line_event.ensures.reads

pub returns-clause-size : goal.returns-clause-size
returns-clause-size c =
    omega (arith, c.line_event.ensures.size, kept_reserve c.args.kept.now c.args.rest.now c.requires c.keep_front.new.line c.keep_front.ensures)
