-- The records that a table tells.
use Rattle.std.specs.Prelude.{ℕ}
use Rattle.rules.specs.declared.task.Task.{Task}
use Rattle.table.specs.Rows.{tasks_in, without}
use Rattle.table.specs.declared.table.Table.{Table}

-- of its first tasks; where the job of one is looked at as ended, that of an idle task
abbrev pub records_of : Table → ℕ → Task
records_of t = without t.ended (tasks_in t.tasks t.rows.now)
