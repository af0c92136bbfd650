use Rattle.std.proofs.Common.{◌≡◌, List, ℕ, ◌+◌, ◌*◌, ◌≤◌, ◌++◌, length}
use Rattle.dry_run.specs.Fed.{Takes}
use Rattle.dry_run.specs.Steps.{reserve, Waits}
use Rattle.dry_run.proofs.run.DryRun.take_piece.Given as goal

-- the lines in front of the rest were taken
abbrev pub invariant-loop-line : goal.invariant-loop-line
invariant-loop-line l = (done : List ℕ) × (l.initial.rest ≡ done ++ l.rest) × Takes l.initial.self l.self done l.initial.out 0 l.at l.out × (l.at + reserve l.self + 10 * length l.rest ≤ 10 * length l.initial.rest + 1040) × Waits l.self l.at

abbrev pub decreases-loop-line : goal.decreases-loop-line
decreases-loop-line l = length l.rest
