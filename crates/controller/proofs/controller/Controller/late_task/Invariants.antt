use Rattle.std.proofs.Common.{◌≡◌, ℕ, ◌<◌, false, get_or}
use Rattle.rules.specs.Questions.{late}
use Rattle.rules.specs.States.{idle_task}
use Rattle.controller.specs.Of.{setup_of, snapshot_of}
use Rattle.controller.specs.Ticks.{CanTick}
use Rattle.controller.proofs.controller.Controller.late_task.Given as goal

abbrev pub invariant-loop-t : goal.invariant-loop-t
invariant-loop-t g l = record {
  on_time : (k : ℕ) → k < l.t → late (setup_of g.B.Bank l.self) (snapshot_of g.B.Bank l.self) k ≡ false;
  ticks : (k : ℕ) → k < l.t → CanTick (get_or l.self.table.records.rows k idle_task);
}
