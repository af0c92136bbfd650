use Rattle.std.proofs.Common.{◌≡◌, ◌≤◌}
use Rattle.std.specs.List.{filter_map, range_with_len}
use Rattle.arrayvec.specs.ArrayVec.{array_vec_len}
use Rattle.plan.specs.Of.{plan_contents}
use Rattle.table.specs.Rows.{holder_at}
use Rattle.table.specs.Tables.{records_of}
use Rattle.table.proofs.table.Table.holder_row.Given as goal

abbrev pub invariant-loop-task : goal.invariant-loop-task
invariant-loop-task l = (l.row.items ≡ filter_map (holder_at (plan_contents l.self.plan.now) (records_of l.self)) (range_with_len 0 l.task)) × (array_vec_len l.row ≤ l.task)
