use Rattle.std.proofs.Common.{◌≡◌, unwrap_or}
use Rattle.plan.specs.Contents.{greatest, length_at}
use Rattle.plan.specs.Of.{contents_of}
use Rattle.plan.proofs.plan.ask.longest_length.Given as goal

abbrev pub invariant-loop-task : goal.invariant-loop-task
invariant-loop-task l = l.longest ≡ greatest (λ t. unwrap_or (length_at (contents_of l.tables) t l.resource) 0) l.task
