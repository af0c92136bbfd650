use Rattle.std.proofs.Common.{◌≤◌, get_or, sym, ap, ◌∙◌, ⊎_elim, arith}
use Rattle.std.proofs.lemmas.Bool.{cases_lt}
use Rattle.rules.specs.Questions.{late, late_in}
use Rattle.rules.specs.declared.task.Task.{Task}
use Rattle.rules.proofs.Counts.{lowest_is, lowest_nothing}
use Rattle.table.proofs.Issued.{none_at, not_late}
use Rattle.controller.specs.Of.{setup_of, snapshot_of}
use Rattle.rules.specs.States.{idle_task}
use Rattle.controller.proofs.Tasks.{can_tick_idle, task_here}
use Rattle.controller.proofs.controller.Controller.late_task.Goals as goal

pub returns-then-is_late-clause-late : goal.returns-then-is_late-clause-late
returns-then-is_late-clause-late g c =
    let self = c.args.self.now in
    sym (lowest_is (late (setup_of g.B.Bank self) (snapshot_of g.B.Bank self)) self.tasks c.loop-t.t (omega arith) (sym c.is_late.ensures.late ∙ c.if-is_late.true) c.loop-t.invariant.on_time)

pub returns-clause-late : goal.returns-clause-late
returns-clause-late g c =
    let self = c.args.self.now in
    let a = setup_of g.B.Bank self in
    let s = snapshot_of g.B.Bank self in
    sym (lowest_nothing (late a s) self.tasks (λ k lt.
    ⊎_elim (c.loop-t.invariant.on_time k)
    (λ (past : c.loop-t.t ≤ k). ap (λ (x : Task). late_in a.plan k x.used x.state) (task_here self.tasks self.table.records.rows k lt) ∙ not_late a.plan k _ _ (none_at c.issued_end.result self.table.records.rows k c.issued_end.ensures.none (omega arith)))
    (cases_lt k c.loop-t.t)))

pub returns-clause-ticks : goal.returns-clause-ticks
returns-clause-ticks g c none k lt =
    let self = c.args.self.now in
    ⊎_elim (c.loop-t.invariant.ticks k)
    (λ (past : c.loop-t.t ≤ k). can_tick_idle (get_or self.table.records.rows k idle_task) (none_at c.issued_end.result self.table.records.rows k c.issued_end.ensures.none (omega arith)) (omega (arith, self.blocked_ticks k, self.clock_ends)))
    (cases_lt k c.loop-t.t)
