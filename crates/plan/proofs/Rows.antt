-- Tables of bytes.
use Rattle.std.proofs.Common.{◌≡◌, ℕ, zero, suc, ◌≤◌, List, length, get_or, replicate, sum, refl, arith}
use Rattle.std.specs.List.{AllByRecursion}
use Rattle.std.proofs.ByRecursion.{All-from_get_or, sum_by_le}
use Rattle.plan.specs.Limits.{Between}

-- a table of zeros
pub zeros : (n k : ℕ) → get_or {A = ℕ} (replicate n 0) k 0 ≡ 0
zeros zero k = refl
zeros (suc n) zero = refl
zeros (suc n) (suc k) = zeros n k

-- eight clusters of at most eight processors
pub processors_few : (xs : List ℕ) → length xs ≤ 8 → Between 1 9 xs → sum xs ≤ 64
processors_few xs few b =
    let each : AllByRecursion (λ x. x ≤ 8) xs = All-from_get_or (λ x. x ≤ 8) xs 0 (λ i l. omega (arith, b i l)) in
    omega (arith, sum_by_le (λ x. x) 8 xs each)
