-- The records one tick on.
use Rattle.std.specs.Prelude.{◌≡◌, ℕ, ◌+◌, ◌<◌, ◌≤◌, true, List, slice_index_or}
use Rattle.rules.specs.Moves.{ticked_task}
use Rattle.rules.specs.States.{is_holding, idle_task}
use Rattle.rules.specs.declared.task.Task.{Task}
use Rattle.table.specs.Rows.{tasks_in}

-- one tick more can be counted: no length is above 65,535 ticks, and no clock above 100,000,000
pub record CanTick (k : Task) : Type 0 where
  pub used : is_holding k.state ≡ true → k.used < 65536
  pub blocked : k.blocked ≤ 100000000

-- all records one tick on
pub record TicksAll (n : ℕ) (old new : List Task) : Type 0 where
  pub tasks : (q : ℕ) → tasks_in n new q ≡ ticked_task (tasks_in n old q)
  pub blocked : (q : ℕ) →
      (slice_index_or new q idle_task).blocked ≤ (slice_index_or old q idle_task).blocked + 1
