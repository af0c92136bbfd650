use Rattle.std.proofs.Common.{◌≡◌, ℕ, ◌<◌, ◌≤◌, cond, true, eqb, get_or, set, is_some, List, Ok, sym, refl, ap, ◌∙◌, subst, arith}
use Rattle.std.proofs.lemmas.Bool.{ltb-true, cond-false}
use Rattle.std.proofs.lemmas.Result.{err_from_is_err_and}
use Rattle.plan.specs.Contents.{length_at}
use Rattle.plan.specs.Of.{plan_contents}
use Rattle.rules.specs.States.{wanted_of, issued_state, in_state, idle_task}
use Rattle.rules.specs.declared.task.State.{State}
use Rattle.rules.specs.declared.task.Task.{Task}
use Rattle.rules.specs.declared.task.Wanted.{Wanted}
use Rattle.table.specs.Rows.{keeps_length, tasks_in}
use Rattle.table.proofs.Rows.{set_row}
use Rattle.controller.specs.Of.{setup_of, snapshot_of}
use Rattle.controller.proofs.Checking.{yes_parts}
use Rattle.controller.proofs.Finishing.{is_next, finish_issued, finish_refused}
use Rattle.controller.proofs.Making.{makes}
use Rattle.controller.proofs.Same.{same_controllers, same_setup}
use Rattle.controller.proofs.Tasks.{each_set, task_here, tasks_written, tasks_moved, lengths_one, length_wanted, lengths_issued}
use Rattle.controller.proofs.controller.Controller.do_finish.Goals as goal

pub returns-in_err-holds : goal.returns-in_err-holds
returns-in_err-holds g c =
    let self = c.args.self.now in
    let b = g.B.Bank in
    let a = setup_of b self in
    let s = snapshot_of b self in
    let t = c.args.task in
    let u = c.in-Some.next in
    let e = c.in_err-holds.ensures in
    let next = is_next a s t u c.in-Some.ensures in
    let wanted : c.wanted_of-wanted.result ≡ wanted_of (s.tasks u).state = c.wanted_of-wanted.ensures ∙ ap (λ (k : Task). wanted_of k.state) (c.get-job.ensures ∙ sym (task_here self.tasks self.table.records.rows u next.known)) in
    let p = err_from_is_err_and c.from_residual-in_err-holds.result c.from_residual-in_err-holds.ensures.1 in
    rw (p.1, p.2) (makes b self _ _ (same_setup (plan_contents self.plan) self.tasks self.resources _ _ e.enters.tells)
    (record {
      answered = finish_refused a s t c.in_ok-state.ensures.0 u c.in_err-holds.field-0.0 c.wanted_of-wanted.result _ c.in-Some.ensures wanted e.enters.lists (ap b.active e.enters.keeps);
      tasks = λ q. refl;
      clock = refl;
      releases = refl;
    }) e.enters.keeps (same_controllers _ self refl refl refl refl refl refl refl e.enters.keeps))

-- the record of a job that ended
ended_is : (rows new : List Task) (t : ℕ) (st : State) (e : State) → new ≡ set rows t (record { state = st; release = 0; used = 0; blocked = 0 }) → st ≡ e → new ≡ set rows t (record { state = e; release = 0; used = 0; blocked = 0 })
ended_is rows new t st e stored same = stored ∙ ap (λ (s : State). set rows t (record { state = s; release = 0; used = 0; blocked = 0 })) same

pub invariant_of-self-2-clause-blocked_ticks : goal.invariant_of-self-2-clause-blocked_ticks
invariant_of-self-2-clause-blocked_ticks g c =
    let self = c.args.self.now in
    let t = c.args.task in
    let u = c.in-Some.next in
    let rows = self.table.records.rows in
    let few : Task → Type 0 = λ k. k.blocked ≤ self.clock in
    let lt : t < self.tasks = ltb-true _ _ (yes_parts 1 _ _ c.in_ok-state.ensures.0).0 in
    let next = is_next (setup_of g.B.Bank self) (snapshot_of g.B.Bank self) t u c.in-Some.ensures in
    let here : t < 64 = omega arith in
    let there : u < 64 = omega (arith, next.known) in
    let ended : (q : ℕ) → few (get_or c.store-2.new.self.records.rows q idle_task) =
    rw (ended_is rows c.store-2.new.self.records.rows t c.in_ok-state.state _ (c.store-2.ensures.stored here) c.in_ok-state.ensures.1) (each_set few rows t idle_task idle_task (omega arith) self.blocked_ticks) in
    let written : few c.in_state.result = subst few (sym (c.in_state.ensures ∙ ap (in_state c.issued_state.result) c.get-job.ensures)) (self.blocked_ticks u) in
    rw (c.store-3.ensures.stored there) (each_set few c.store-2.new.self.records.rows u c.in_state.result idle_task written ended)

-- the request that is issued is the one that was held back
pub invariant_of-self-2-clause-keeps_lengths : goal.invariant_of-self-2-clause-keeps_lengths
invariant_of-self-2-clause-keeps_lengths g c =
    let self = c.args.self.now in
    let p = plan_contents self.plan in
    let t = c.args.task in
    let u = c.in-Some.next in
    let rows = self.table.records.rows in
    let rows2 = c.store-2.new.self.records.rows in
    let rows3 = c.store-3.new.self.records.rows in
    let lt : t < self.tasks = ltb-true _ _ (yes_parts 1 _ _ c.in_ok-state.ensures.0).0 in
    let next = is_next (setup_of g.B.Bank self) (snapshot_of g.B.Bank self) t u c.in-Some.ensures in
    let here : t < 64 = omega arith in
    let there : u < 64 = omega (arith, next.known) in
    let ended = ended_is rows rows2 t c.in_ok-state.state _ (c.store-2.ensures.stored here) c.in_ok-state.ensures.1 in
    let known = lengths_one p (tasks_in self.tasks rows) (tasks_in self.tasks rows2) t idle_task self.keeps_lengths refl (tasks_written self.tasks rows rows2 t idle_task lt self.few_tasks self.table.all_records ended) in
    let job = tasks_in self.tasks rows u in
    let wanted : c.wanted_of-wanted.result ≡ wanted_of job.state = c.wanted_of-wanted.ensures ∙ ap (λ (k : Task). wanted_of k.state) (c.get-job.ensures ∙ sym (task_here self.tasks rows u next.known)) in
    let declared : is_some (length_at p u c.wanted_of-wanted.result.resource) ≡ true = ap (λ (w : Wanted). is_some (length_at p u w.resource)) wanted ∙ length_wanted p u job.used job.state next.held_back (self.keeps_lengths u) in
    let record_is : c.in_state.result ≡ in_state (issued_state c.in_ok-holds.holds c.wanted_of-wanted.result) c.get-job.result = c.in_state.ensures ∙ ap (λ (st : State). in_state st c.get-job.result) c.issued_state.ensures in
    lengths_one p (tasks_in self.tasks rows2) (tasks_in self.tasks rows3) u c.in_state.result known
    (ap (λ (k : Task). keeps_length p u k.used k.state) record_is ∙ lengths_issued p u c.in_ok-holds.holds c.wanted_of-wanted.result declared)
    (tasks_written self.tasks rows2 rows3 u c.in_state.result next.known self.few_tasks c.store-2.new.self.all_records (c.store-3.ensures.stored there))

pub returns : goal.returns
returns g c =
    let self = c.args.self.now in
    let b = g.B.Bank in
    let a = setup_of b self in
    let s = snapshot_of b self in
    let t = c.args.task in
    let u = c.in-Some.next in
    let rows = self.table.records.rows in
    let rows2 = c.store-2.new.self.records.rows in
    let rows3 = c.store-3.new.self.records.rows in
    let own = c.in_ok-state.ensures.0 in
    let lt : t < self.tasks = ltb-true _ _ (yes_parts 1 _ _ own).0 in
    let next = is_next a s t u c.in-Some.ensures in
    let here : t < 64 = omega arith in
    let there : u < 64 = omega (arith, next.known) in
    let ended = ended_is rows rows2 t c.in_ok-state.state _ (c.store-2.ensures.stored here) c.in_ok-state.ensures.1 in
    let issued : Task → Task = λ k. in_state (issued_state c.in_ok-holds.holds (wanted_of k.state)) k in
    let other : get_or rows2 u idle_task ≡ get_or rows u idle_task = ap (λ (ks : List Task). get_or ks u idle_task) ended ∙ (set_row rows t idle_task u idle_task (omega (arith, self.table.all_records)) ∙ cond-false (eqb t u) _ _ next.other) in
    let new : c.in_state.result ≡ issued (get_or rows2 u idle_task) =
    c.in_state.ensures
    ∙ (ap (λ (st : State). in_state st c.get-job.result) (c.issued_state.ensures ∙ ap (issued_state c.in_ok-holds.holds) c.wanted_of-wanted.ensures)
    ∙ ap issued (c.get-job.ensures ∙ sym other)) in
    let wanted : c.wanted_of-wanted.result ≡ wanted_of (s.tasks u).state = c.wanted_of-wanted.ensures ∙ ap (λ (k : Task). wanted_of k.state) (c.get-job.ensures ∙ sym (task_here self.tasks rows u next.known)) in
    makes b self _ _ (same_setup (plan_contents self.plan) self.tasks self.resources _ _ c.in_ok-holds.ensures.enters.tells)
    (record {
      answered = finish_issued a s t own c.get-blocked.result.blocked u c.in_ok-holds.holds c.wanted_of-wanted.result _ c.in-Some.ensures (ap (λ (k : Task). k.blocked) (c.get-blocked.ensures ∙ sym (task_here self.tasks rows t lt))) wanted c.in_ok-holds.ensures.enters.lists;
      tasks = λ q. tasks_moved self.tasks rows2 rows3 u issued next.known self.few_tasks c.store-2.new.self.all_records (c.store-3.ensures.stored there ∙ ap (set rows2 u) new) q
          ∙ ap (λ (k : Task). cond (eqb u q) (issued k) k) (tasks_written self.tasks rows rows2 t idle_task lt self.few_tasks self.table.all_records ended q);
      clock = refl;
      releases = refl;
    })
    (subst (λ (w : Wanted). b.entered w.resource u w.mode (Ok c.in_ok-holds.holds) self.bank c.enter.new.self) wanted c.in_ok-holds.ensures.exact) tt
