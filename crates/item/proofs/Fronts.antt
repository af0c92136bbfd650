-- Bytes written in front of others.
use Rattle.std.proofs.Common.{◌≡◌, ℕ, ◌+◌, ◌-◌, ◌<◌, ◌≤◌, List, ◌∷◌, length, drop, set, ap, ◌∙◌, arith}
use Rattle.std.proofs.lemmas.List.{drop-set}

pub put_front : (xs : List ℕ) (end b : ℕ) → 0 < end → end ≤ length xs → drop (end - 1) (set xs (end - 1) b) ≡ b ∷ drop end xs
put_front xs end b some l = let e : (end - 1) + 1 ≡ end = omega arith in drop-set xs (end - 1) b (omega arith) ∙ ap (λ k. b ∷ drop k xs) e
