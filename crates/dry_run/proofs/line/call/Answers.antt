use Rattle.dry_run.proofs.Steps.{one_call}
use Rattle.dry_run.proofs.line.call.Goals as goal

pub returns-in-Err-clause-runs : goal.returns-in-Err-clause-runs
returns-in-Err-clause-runs c = one_call c.args.controller.now c.release.new.self _ c.in-Err.ensures.follows c.in-Err.ensures.makes

pub returns-in-Err-ask-clause-runs : goal.returns-in-Err-ask-clause-runs
returns-in-Err-ask-clause-runs c = one_call c.args.controller.now c.ask.new.self _ c.in-Err-ask.ensures.follows c.in-Err-ask.ensures.makes

pub returns-in-Err-give-clause-runs : goal.returns-in-Err-give-clause-runs
returns-in-Err-give-clause-runs c = one_call c.args.controller.now c.give.new.self _ c.in-Err-give.ensures.follows c.in-Err-give.ensures.makes

pub returns-in-Err-finish-clause-runs : goal.returns-in-Err-finish-clause-runs
returns-in-Err-finish-clause-runs c = one_call c.args.controller.now c.finish.new.self _ c.in-Err-finish.ensures.follows c.in-Err-finish.ensures.makes

pub returns-in-Err-tick-clause-runs : goal.returns-in-Err-tick-clause-runs
returns-in-Err-tick-clause-runs c = one_call c.args.controller.now c.tick.new.self _ c.in-Err-tick.ensures.follows c.in-Err-tick.ensures.makes
