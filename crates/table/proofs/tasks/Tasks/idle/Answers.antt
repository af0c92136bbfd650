use Rattle.std.proofs.Common.{refl}
use Rattle.table.proofs.Issued.{none_at_first}
use Rattle.table.proofs.tasks.Tasks.idle.Goals as goal

pub invariant_of-result-clause-none_issued : goal.invariant_of-result-clause-none_issued
invariant_of-result-clause-none_issued c = none_at_first 64 _ refl
