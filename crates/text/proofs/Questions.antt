-- Where no question is answered no, each is answered yes.
use Rattle.std.proofs.Common.{◌≡◌, ℕ, Bool, true, false, List, ◌∷◌, None, refl, arith}
use Rattle.text.specs.Questions.{Question, ask, first_no}

pub all_yes : (n : ℕ) (a : Bool) (qs : List Question) → first_no (ask n a ∷ qs) ≡ None → (a ≡ true) × (first_no qs ≡ None)
all_yes n true qs e = (refl, e)
all_yes n false qs e = let z : ◌≡◌ {A = ℕ} 0 1 = cc in absurd (omega arith)
