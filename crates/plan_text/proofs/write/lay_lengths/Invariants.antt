use Rattle.std.proofs.Common.{◌+◌, ◌*◌, ◌≤◌}
use Rattle.text.specs.Memory.{Lays}
use Rattle.plan_text.proofs.Writing.{places_text}
use Rattle.plan_text.proofs.write.lay_lengths.Given as goal

abbrev pub invariant-loop-place : goal.invariant-loop-place
invariant-loop-place l = Lays l.initial.out l.at (places_text l.plan.tables.lengths l.place) l.end l.out × (l.end ≤ l.at + 35 * l.place)
