use Rattle.plan.specs.Of.{plan_contents}
use Rattle.text.specs.Refusals.{number}
use Rattle.dry_run.specs.Said.{preamble_text, refused_text}
use Rattle.dry_run.proofs.Steps.{plan_accepted, plan_refused}
use Rattle.dry_run.proofs.run.take.behind_plan.Goals as goal

pub returns-in-Ok-clause-takes : goal.returns-in-Ok-clause-takes
returns-in-Ok-clause-takes c =
    let said = plan_contents c.read.new.into in
    record {
      printed = preamble_text said;
      laid = c.accept-controller.ensures.laid;
      law = λ i o fed. plan_accepted c.args.text.now i o fed said c.accept-controller.result.0 c.in-Ok.ensures.reads c.accept-controller.ensures.made;
    }

pub returns-in-Err-clause-takes : goal.returns-in-Err-clause-takes
returns-in-Err-clause-takes c =
    let why = c.in-Err.why in
    record {
      printed = refused_text (number why.refusal) why.line;
      laid = c.lay_refused.ensures.laid;
      law = λ i o fed. plan_refused c.args.text.now i o fed (number why.refusal) why.line c.in-Err.ensures.reads.0;
    }
