-- What is checked, question by question.
use Rattle.std.proofs.Common.{◌≡◌, ℕ, Bool, true, false, cond, Some, None, Option, refl, arith}

-- what is known where all questions are answered yes: the first, and the others
pub yes_parts : (n : ℕ) (b : Bool) (x : Option ℕ) → cond b x (Some n) ≡ None → (b ≡ true) × (x ≡ None)
yes_parts n true x e = (refl, e)
yes_parts n false x e = let z : ◌≡◌ {A = ℕ} 0 1 = cc in absurd (omega arith)
