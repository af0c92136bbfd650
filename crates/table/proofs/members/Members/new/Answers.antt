use Rattle.std.proofs.Common.{[], arith}
use Rattle.std.proofs.lemmas.List.FromFn.{fill_by_all}
use Rattle.plan.specs.Of.{plan_contents}
use Rattle.table.specs.Members.{members_of}
use Rattle.table.proofs.members.Members.new.Goals as goal

pub returns : goal.returns
returns c = fill_by_all (members_of (plan_contents c.args.plan.now)) c.loop-cluster.part-items 8 [] c.loop-cluster.invariant.0 (λ k lt. c.loop-cluster.invariant.1 k (omega arith))
