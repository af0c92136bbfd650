use Rattle.std.proofs.Common.{◌≡◌, ◌≤◌, ◌+◌, count_by, length}
use Rattle.std.specs.List.{filter_map}
use Rattle.order.specs.declared.elements.Job.{Job}
use Rattle.table.specs.Rows.{job_at}
use Rattle.table.specs.Tables.{records_of}
use Rattle.table.proofs.Ranks.{job_before}
use Rattle.table.proofs.table.Table.jobs_before.Given as goal

abbrev pub invariant-loop-rest : goal.invariant-loop-rest
invariant-loop-rest l = (count_by (λ (y : Job). job_before y l.job) (filter_map (job_at (records_of l.self) l.which) l.initial.rest) ≡ l.before + count_by (λ (y : Job). job_before y l.job) (filter_map (job_at (records_of l.self) l.which) l.rest)) × (l.before + length l.rest ≤ 64)

abbrev pub decreases-loop-rest : goal.decreases-loop-rest
decreases-loop-rest l = length l.rest
