-- How long a number is.
use Rattle.std.proofs.Common.{ℕ, ◌^◌, ◌<◌, ◌≤◌, length, decimal, arith}
use Rattle.std.proofs.lemmas.Fmt.{length-decimal-le}

pub number_size : (n : ℕ) → n < 2 ^ 32 → length (decimal n) ≤ 10
number_size n h = length-decimal-le 10 n (omega arith) (omega arith) (omega arith)
