use Rattle.std.proofs.Common.{sym, inl, arith}
use Rattle.table.proofs.Ranks.{tasks_past}
use Rattle.table.specs.Rows.{tasks_in}
use Rattle.controller.specs.Of.{setup_of, snapshot_of}
use Rattle.controller.proofs.Tasks.{on_time_all, lengths_all_ticked}
use Rattle.controller.proofs.controller.Controller.do_tick.Goals as goal

pub invariant_of-self-clause-blocked_ticks : goal.invariant_of-self-clause-blocked_ticks
invariant_of-self-clause-blocked_ticks g c q = omega (arith, c.tick_all.ensures.blocked q, c.args.self.now.blocked_ticks q)

pub invariant_of-self-clause-keeps_lengths : goal.invariant_of-self-clause-keeps_lengths
invariant_of-self-clause-keeps_lengths g c =
    let self = c.args.self.now in
    let a = setup_of g.B.Bank self in
    let s = snapshot_of g.B.Bank self in
    lengths_all_ticked a s (tasks_in self.tasks c.tick_all.new.table.records.rows) self.keeps_lengths (on_time_all a s (λ q far. tasks_past self.tasks self.table.records.rows q (inl far)) (sym c.in_default.ensures.late)) c.tick_all.ensures.tasks
