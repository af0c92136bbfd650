use Rattle.std.proofs.Common.{◌≡◌, ◌<◌, ◌≤◌, get_or, set, sym, refl, ap, ◌∙◌, subst, arith}
use Rattle.std.proofs.lemmas.Bool.{ltb-true}
use Rattle.std.proofs.lemmas.Result.{err_from_is_err_and}
use Rattle.plan.specs.Of.{plan_contents}
use Rattle.rules.specs.States.{idle_task, in_state, asked_state, wanted_of}
use Rattle.rules.specs.declared.answer.Asked.{Asked}
use Rattle.rules.specs.declared.task.State.{State}
use Rattle.rules.specs.declared.task.State.TheVariants.{HeldBack}
use Rattle.rules.specs.declared.task.Task.{Task}
use Rattle.rules.specs.declared.task.Wanted.{Wanted}
use Rattle.table.specs.Rows.{keeps_length, tasks_in}
use Rattle.controller.specs.Of.{setup_of, snapshot_of}
use Rattle.controller.proofs.Answering.{ask_answered, ask_refused}
use Rattle.controller.proofs.Checking.{yes_parts}
use Rattle.controller.proofs.Making.{makes}
use Rattle.controller.proofs.Same.{same_controllers, same_setup}
use Rattle.controller.proofs.Tasks.{each_set, tasks_written, tasks_moved, lengths_one, lengths_asked}
use Rattle.controller.proofs.controller.Controller.do_ask.Goals as goal

-- the record that is written
is_written : (k job x : Task) (back : State) (state : State) (answer : Asked) (w : Wanted) → k ≡ in_state state job → state ≡ asked_state answer (wanted_of back) → back ≡ HeldBack w → job ≡ x → k ≡ in_state (asked_state answer w) x
is_written k job x back state answer w e st held same = e ∙ (ap (λ (s : State). in_state s job) (st ∙ ap (λ (s : State). asked_state answer (wanted_of s)) held) ∙ ap (in_state (asked_state answer w)) same)

pub returns-in_err-answer : goal.returns-in_err-answer
returns-in_err-answer g c =
    let self = c.args.self.now in
    let b = g.B.Bank in
    let a = setup_of b self in
    let s = snapshot_of b self in
    let e = c.in_err-answer.ensures in
    let first = rw (c.jobs.ensures.ended, c.jobs.ensures.plan, c.jobs.ensures.tasks, c.jobs.ensures.rows) at c.is_first-first.ensures in
    let p = err_from_is_err_and c.from_residual-in_err-answer.result c.from_residual-in_err-answer.ensures.1 in
    rw (p.1, p.2) (makes b self _ _ (same_setup (plan_contents self.plan) self.tasks self.resources _ _ e.told)
    (record {
      answered = ask_refused a s c.args.task c.args.resource c.args.mode c.is_first-first.result c.in_err-answer.field-0.0 _ first c.in_ok-back.ensures.0 e.asks;
      tasks = λ q. refl;
      clock = refl;
      releases = refl;
    }) e.keeps (same_controllers _ self refl refl refl refl refl refl refl e.keeps))

pub invariant_of-self-2-clause-blocked_ticks : goal.invariant_of-self-2-clause-blocked_ticks
invariant_of-self-2-clause-blocked_ticks g c =
    let self = c.args.self.now in
    let t = c.args.task in
    let few : Task → Type 0 = λ k. k.blocked ≤ self.clock in
    let lt : t < self.tasks = ltb-true _ _ (yes_parts 1 _ _ c.in_ok-back.ensures.0).0 in
    let here : t < 64 = omega arith in
    let new : few c.in_state-record.result = subst few (sym (c.in_state-record.ensures ∙ ap (in_state c.asked_state-state.result) c.get.ensures)) (self.blocked_ticks t) in
    rw (c.store.ensures.stored here) (each_set few self.table.records.rows t c.in_state-record.result idle_task new self.blocked_ticks)

-- the request is one for which a length is declared
pub invariant_of-self-2-clause-keeps_lengths : goal.invariant_of-self-2-clause-keeps_lengths
invariant_of-self-2-clause-keeps_lengths g c =
    let self = c.args.self.now in
    let p = plan_contents self.plan in
    let t = c.args.task in
    let wanted : Wanted = record { resource = c.args.resource; mode = c.args.mode } in
    let task = yes_parts 1 _ _ c.in_ok-back.ensures.0 in
    let known = yes_parts 4 _ _ (yes_parts 3 _ _ (yes_parts 2 _ _ task.1).1).1 in
    let lt : t < self.tasks = ltb-true _ _ task.0 in
    let here : t < 64 = omega arith in
    let record_is : c.in_state-record.result ≡ in_state (asked_state c.in_ok-answer.answer wanted) (get_or self.table.records.rows t idle_task) = is_written c.in_state-record.result c.get.result (get_or self.table.records.rows t idle_task) c.in_ok-back.back c.asked_state-state.result c.in_ok-answer.answer wanted c.in_state-record.ensures c.asked_state-state.ensures c.in_ok-back.ensures.1 c.get.ensures in
    lengths_one p (tasks_in self.tasks self.table.records.rows) (tasks_in self.tasks c.store.new.self.records.rows) t c.in_state-record.result self.keeps_lengths
    (ap (λ (k : Task). keeps_length p t k.used k.state) record_is ∙ lengths_asked p t c.in_ok-answer.answer wanted known.0)
    (tasks_written self.tasks self.table.records.rows c.store.new.self.records.rows t c.in_state-record.result lt self.few_tasks self.table.all_records (c.store.ensures.stored here))

pub returns : goal.returns
returns g c =
    let self = c.args.self.now in
    let b = g.B.Bank in
    let a = setup_of b self in
    let s = snapshot_of b self in
    let t = c.args.task in
    let e = c.in_ok-answer.ensures in
    let known = c.in_ok-back.ensures.0 in
    let first = rw (c.jobs.ensures.ended, c.jobs.ensures.plan, c.jobs.ensures.tasks, c.jobs.ensures.rows) at c.is_first-first.ensures in
    let lt : t < self.tasks = ltb-true _ _ (yes_parts 1 _ _ known).0 in
    let here : t < 64 = omega arith in
    let wanted : Wanted = record { resource = c.args.resource; mode = c.args.mode } in
    let new : c.store.new.self.records.rows ≡ set self.table.records.rows t (in_state (asked_state c.in_ok-answer.answer wanted) (get_or self.table.records.rows t idle_task)) = c.store.ensures.stored here ∙ ap (set self.table.records.rows t) (is_written c.in_state-record.result c.get.result (get_or self.table.records.rows t idle_task) c.in_ok-back.back c.asked_state-state.result c.in_ok-answer.answer wanted c.in_state-record.ensures c.asked_state-state.ensures c.in_ok-back.ensures.1 c.get.ensures) in
    makes b self _ _ (same_setup (plan_contents self.plan) self.tasks self.resources _ _ e.told)
    (record {
      answered = ask_answered a s t c.args.resource c.args.mode c.is_first-first.result c.in_ok-answer.answer _ first known e.asks;
      tasks = tasks_moved self.tasks self.table.records.rows c.store.new.self.records.rows t (in_state (asked_state c.in_ok-answer.answer wanted)) lt self.few_tasks self.table.all_records new;
      clock = refl;
      releases = refl;
    }) e.changes tt
