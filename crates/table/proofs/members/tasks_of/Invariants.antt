use Rattle.std.proofs.Common.{◌≡◌, ◌≤◌, eqb, length, get_or}
use Rattle.std.specs.List.{filter, range_with_len}
use Rattle.table.proofs.members.tasks_of.Given as goal

abbrev pub invariant-loop-task : goal.invariant-loop-task
invariant-loop-task l = (l.tasks ≡ filter (λ t. eqb (get_or l.homes t 0) l.cluster) (range_with_len 0 l.task)) × (length l.tasks ≤ l.task)
