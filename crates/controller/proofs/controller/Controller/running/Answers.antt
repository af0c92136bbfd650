use Rattle.std.proofs.Common.{◌≡◌, Bool, sym, ap, ◌∙◌}
use Rattle.rules.specs.Jobs.{jobs_in, runs}
use Rattle.controller.specs.Checks.{state_questions}
use Rattle.controller.specs.Of.{setup_of, snapshot_of}
use Rattle.controller.proofs.controller.Controller.running.Goals as goal

pub returns-in-Ask : goal.returns-in-Ask
returns-in-Ask g c =
    let a = setup_of g.B.Bank c.args.self.now in
    let is : c.runs.result ≡ runs a.plan a.tasks (jobs_in (snapshot_of g.B.Bank c.args.self.now)) c.args.t = rw (c.jobs.ensures.ended, c.jobs.ensures.plan, c.jobs.ensures.tasks, c.jobs.ensures.rows) at c.runs.ensures in
    record { so = λ e. sym is ∙ e; same = λ state. ap (λ (b : Bool). state_questions c.args.call b state) is }
