-- The rows of parties in lines, when the first of the line comes up.
use Rattle.std.specs.Prelude.{◌≡◌, ℕ, zero, suc, ◌<◌, List, [], ◌∷◌, ◌++◌, length, take, drop, refl}
use Rattle.std.proofs.Common.{ap, arith}
use Rattle.std.specs.List.{remove}

-- the first of the line comes up behind the front
take_next : (k : ℕ) (ps : List ℕ) → take (suc k) ps ≡ take k ps ++ take 1 (drop k ps)
take_next zero ps = refl
take_next (suc k) [] = refl
take_next (suc k) (p ∷ ps) = ap (λ qs. p ∷ qs) (take_next k ps)

drop_next : (k : ℕ) (ps : List ℕ) → drop (suc k) ps ≡ drop 1 (drop k ps)
drop_next zero ps = refl
drop_next (suc k) [] = refl
drop_next (suc k) (p ∷ ps) = drop_next k ps

pub front_removed : (k : ℕ) (ps : List ℕ) (i : ℕ) → i < k → i < length ps → (take k (remove ps i) ≡ remove (take k ps) i ++ take 1 (drop k ps)) × (drop k (remove ps i) ≡ drop 1 (drop k ps))
front_removed zero ps i l h = absurd (omega arith)
front_removed (suc k) [] i l h = absurd (omega arith)
front_removed (suc k) (p ∷ ps) zero l h = (take_next k ps, drop_next k ps)
front_removed (suc k) (p ∷ ps) (suc i) l h = let more = front_removed k ps i (omega arith) (omega arith) in (ap (λ qs. p ∷ qs) more.0, more.1)
