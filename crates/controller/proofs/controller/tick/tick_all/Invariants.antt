use Rattle.std.proofs.Common.{◌≡◌, ℕ, ◌+◌, ◌<◌, ◌≤◌, get_or}
use Rattle.rules.specs.Moves.{ticked_task}
use Rattle.rules.specs.States.{idle_task}
use Rattle.controller.proofs.controller.tick.tick_all.Given as goal

abbrev pub invariant-loop-t : goal.invariant-loop-t
invariant-loop-t l = record {
  ticked : (k : ℕ) → k < l.t → get_or l.table.records.rows k idle_task ≡ ticked_task (get_or l.fn.table.records.rows k idle_task);
  left : (k : ℕ) → l.t ≤ k → get_or l.table.records.rows k idle_task ≡ get_or l.fn.table.records.rows k idle_task;
  blocked : (k : ℕ) → (get_or l.table.records.rows k idle_task).blocked ≤ (get_or l.fn.table.records.rows k idle_task).blocked + 1;
}
