use Rattle.std.proofs.Common.{◌≡◌, ◌≤◌, ◌+◌, ◌++◌, take}
use Rattle.std.specs.List.{filter_map}
use Rattle.arrayvec.specs.ArrayVec.{array_vec_len}
use Rattle.table.specs.Rows.{job_at}
use Rattle.table.specs.Tables.{records_of}
use Rattle.table.proofs.table.Table.add_jobs.Given as goal

abbrev pub invariant-loop-task : goal.invariant-loop-task
invariant-loop-task g l = (l.row.items ≡ l.initial.row.items ++ filter_map (job_at (records_of l.self) l.which) (take l.task-index l.tasks)) × (array_vec_len l.row ≤ array_vec_len l.initial.row + l.task-index)
