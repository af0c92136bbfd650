use Rattle.dry_run.proofs.Steps.{event_line}
use Rattle.dry_run.proofs.run.take.take_event_line.Goals as goal

pub returns-clause-takes : goal.returns-clause-takes
returns-clause-takes c =
    let e = c.answer_line.ensures in
    rw c.new.ensures (record {
      printed = e.printed;
      laid = e.laid;
      law = λ i o fed. event_line c.args.controller.now c.args.kept.now i o fed c.answer_line.new.controller e.printed c.args.rest.now c.read_line-event.result c.requires.0 c.read_line-event.ensures.reads e.does;
    })
