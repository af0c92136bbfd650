use Rattle.std.proofs.Common.{◌≡◌, ◌≤◌, take, count_by}
use Rattle.readers_writers.specs.Lines.{is_writer}
use Rattle.readers_writers.proofs.line.Line.writers_before.Given as goal

abbrev pub invariant-loop-e : goal.invariant-loop-e
invariant-loop-e l = (l.n ≡ count_by is_writer (take l.e-index l.before)) × (l.n ≤ l.e-index)
