-- The line of a refused plan is short.
use Rattle.std.proofs.Common.{ℕ, ◌^◌, ◌<◌, ◌≤◌, length, arith, length-append}
use Rattle.std.proofs.lemmas.Fmt.{length-decimal-le}
use Rattle.dry_run.specs.Said.{refused_text}

pub refused_size : (question line : ℕ) → question < 2 ^ 32 → line < 2 ^ 64 → length (refused_text question line) ≤ 50
refused_size question line q l = simp length-append (omega (arith, length-decimal-le 10 question (omega arith) (omega arith) (omega arith), length-decimal-le 20 line (omega arith) (omega arith) l))
