use Rattle.std.proofs.Common.{◌∙◌, ℕ, sym, ap}
use Rattle.std.proofs.lemmas.Bool.{cond-true, lt-ltb}
use Rattle.plan.specs.Of.{plan_contents}
use Rattle.rules.specs.Jobs.{ended, jobs_of, next_of}
use Rattle.table.specs.Rows.{tasks_in}
use Rattle.table.proofs.table.Table.next_after.Goals as goal

pub returns : goal.returns
returns c =
    let now = c.args.self.now in
    let p = plan_contents now.plan.now in
    let after = ended (tasks_in now.tasks now.rows.now) c.args.task in
    c.next_issued.ensures
    ∙ (ap (λ (g : ℕ). next_of p now.tasks (jobs_of after) g) c.cluster_of.ensures
    ∙ sym (cond-true _ _ _ (lt-ltb c.args.task now.tasks c.if-task-self.false)))
