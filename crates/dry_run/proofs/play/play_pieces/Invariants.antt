use Rattle.std.proofs.Common.{◌≡◌, ℕ, List, length}
use Rattle.std.specs.Io.KnownBytes.{Appends, Consumes}
use Rattle.dry_run.specs.Fed.{Fed}
use Rattle.dry_run.specs.Said.{GoesOn}
use Rattle.dry_run.proofs.play.play_pieces.Given as goal

-- the run stands after what was read, which may go on, and what it printed was appended
abbrev pub invariant-loop : goal.invariant-loop
invariant-loop g l =
    (read : List ℕ) × (printed : List ℕ) × Consumes (g.R.Read.remaining l.initial.reader) (g.R.Read.remaining l.reader) read
    × Appends (g.W.Write.contents l.initial.writer) (g.W.Write.contents l.writer) printed
    × Fed l.run read printed
    × GoesOn read
    × (length l.room ≡ length l.initial.room) × (length l.out ≡ length l.initial.out)
