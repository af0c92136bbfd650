use Rattle.std.proofs.Common.{◌≡◌, ℕ, ◌<◌, [], length, get_or}
use Rattle.plan.specs.Of.{plan_contents}
use Rattle.table.specs.Members.{members_of}
use Rattle.table.proofs.members.Members.new.Given as goal

abbrev pub invariant-loop-cluster : goal.invariant-loop-cluster
invariant-loop-cluster l = (length l.part-items ≡ 8) × ((k : ℕ) → k < l.cluster → get_or l.part-items k [] ≡ members_of (plan_contents l.plan) k)
