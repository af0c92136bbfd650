-- How long the line of a resource is.
use Rattle.std.proofs.Common.{ℕ, ◌^◌, ◌<◌, ◌≤◌, length, decimal, Some, None, Option, arith, length-append}
use Rattle.std.specs.Prelude.{IfSome}
use Rattle.std.proofs.lemmas.Fmt.{length-decimal-le}
use Rattle.limits.specs.Lines.{read_field, limit_line}

number_size : (n : ℕ) → n < 2 ^ 64 → length (decimal n) ≤ 20
number_size n h = length-decimal-le 20 n (omega arith) (omega arith) (omega arith)

read_size : (read : Option ℕ) → IfSome read (λ n. n < 2 ^ 64) → length (read_field read) ≤ 21
read_size None h = omega arith
read_size (Some n) h = simp length-append (omega (arith, number_size n h))

pub line_size : (r w : ℕ) (read : Option ℕ) → r < 2 ^ 64 → w < 2 ^ 64 → IfSome read (λ n. n < 2 ^ 64) → length (limit_line r w read) ≤ 65
line_size r w read h i j = simp length-append (omega (arith, number_size r h, number_size w i, read_size read j))
