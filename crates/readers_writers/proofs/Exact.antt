-- Readers and writers leave no choice.
use Rattle.std.proofs.Common.{sym, ap, ◌∙◌}
use mathlib.Core.Path.{fun_ext}
use Rattle.bank.specs.Exact.{SameRows, Exact}
use Rattle.bank.proofs.Rows.{same_rows}
use Rattle.readers_writers.specs.Lines.{requests, admits, entered, left}
use Rattle.readers_writers.specs.ReadersWriters.{told_of, entries_of, writers_ghosts}
use Rattle.readers_writers.specs.declared.lines.ReadersWriters.{ReadersWriters}

abbrev pub SameWriters : ReadersWriters → ReadersWriters → Type 0
SameWriters = SameRows told_of entries_of

pub writers_exact : Exact writers_ghosts SameWriters
writers_exact = record {
  tells = λ a b e. e.tells;
  lists = λ a b e. fun_ext (λ r. ap requests (e.rows r));
  enter = λ r p m h j a b c d e x y. (
    x.holds ∙ (ap (λ es. admits es m) (e.rows r) ∙ sym y.holds),
    same_rows told_of entries_of r (λ es. entered es p m) a b c d e x.entries y.entries,
  );
  leave = λ r p a b c d e x y. same_rows told_of entries_of r (λ es. left es p) a b c d e x y;
}
