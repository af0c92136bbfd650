use Rattle.std.proofs.Common.{◌≡◌, ◌≤◌, take, count_by}
use Rattle.readers_writers.specs.Lines.{is_holder}
use Rattle.readers_writers.proofs.line.Line.holders.Given as goal

abbrev pub invariant-loop-e : goal.invariant-loop-e
invariant-loop-e l = (l.n ≡ count_by is_holder (take l.e-index l.entries)) × (l.n ≤ l.e-index)
