use Rattle.std.proofs.Common.{◌≡◌, ◌++◌, map, take, drop}
use Rattle.readers_writers.specs.Places.{read_held}
use Rattle.readers_writers.proofs.line.reads_hold.Given as goal

abbrev pub invariant-loop-e : goal.invariant-loop-e
invariant-loop-e l = l.e-items ≡ map read_held (take l.e-index l.initial.e-items) ++ drop l.e-index l.initial.e-items
