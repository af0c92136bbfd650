use Rattle.std.proofs.Common.{◌≡◌, ◌<◌, sym, refl, ap, ◌∙◌}
use Rattle.std.proofs.lemmas.Bool.{ltb-true}
use Rattle.std.proofs.lemmas.Result.{err_from_is_err_and}
use Rattle.plan.specs.Of.{plan_contents}
use Rattle.rules.specs.Questions.{wanted_by}
use Rattle.rules.specs.States.{wanted_of}
use Rattle.rules.specs.declared.task.Task.{Task}
use Rattle.controller.specs.Of.{setup_of, snapshot_of}
use Rattle.controller.proofs.Answering.{give_refused}
use Rattle.controller.proofs.Checking.{yes_parts}
use Rattle.controller.proofs.Making.{makes}
use Rattle.controller.proofs.Same.{same_controllers, same_setup}
use Rattle.controller.proofs.Tasks.{task_here}
use Rattle.controller.proofs.controller.Controller.do_give.Goals as goal

pub returns-in_err-leave : goal.returns-in_err-leave
returns-in_err-leave g c =
    let self = c.args.self.now in
    let b = g.B.Bank in
    let a = setup_of b self in
    let s = snapshot_of b self in
    let t = c.args.task in
    let e = c.in_err-leave.ensures in
    let own = c.in_ok-state.ensures.0 in
    let lt : t < self.tasks = ltb-true _ _ (yes_parts 1 _ _ own).0 in
    let wanted : c.wanted_of-wanted.result ≡ wanted_by s t = c.wanted_of-wanted.ensures ∙ ap (λ (k : Task). wanted_of k.state) (c.get-job.ensures ∙ sym (task_here self.tasks self.table.records.rows t lt)) in
    let p = err_from_is_err_and c.from_residual-in_err-leave.result c.from_residual-in_err-leave.ensures.1 in
    rw (p.1, p.2) (makes b self _ _ (same_setup (plan_contents self.plan) self.tasks self.resources _ _ e.leaves.tells)
    (record {
      answered = give_refused a s t c.in_err-leave.field-0.0 c.wanted_of-wanted.result _ own wanted e.leaves.lists (ap b.active e.leaves.keeps);
      tasks = λ q. refl;
      clock = refl;
      releases = refl;
    }) e.leaves.keeps (same_controllers _ self refl refl refl refl refl refl refl e.leaves.keeps))
