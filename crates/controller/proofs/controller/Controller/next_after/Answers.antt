use Rattle.std.proofs.Common.{◌∙◌, ltb, None}
use Rattle.std.proofs.lemmas.Bool.{cond-true, lt-ltb}
use Rattle.rules.specs.Jobs.{next_issued}
use Rattle.controller.specs.Of.{setup_of, snapshot_of}
use Rattle.controller.proofs.controller.Controller.next_after.Goals as goal

pub returns : goal.returns
returns g c =
    let self = c.args.self.now in
    let a = setup_of g.B.Bank self in
    let s = snapshot_of g.B.Bank self in
    rw (c.jobs.ensures.plan, c.jobs.ensures.tasks, c.jobs.ensures.rows) at c.next_after.ensures ∙ cond-true (ltb c.args.t self.tasks) (next_issued a s c.args.t) None (lt-ltb c.args.t self.tasks c.requires)
