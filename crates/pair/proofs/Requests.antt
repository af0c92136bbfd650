-- A party is active where it has a request.
use Rattle.std.proofs.Common.{◌≡◌, ℕ, true, false, cond, ◌||◌, eqb, List, [], ◌∷◌, is_some, Some, refl}
use Rattle.bank.specs.Lists.{is_active, request_of}
use Rattle.bank.specs.declared.request.Request.{Request}

pub active_found : (p : ℕ) (xs : List Request) → is_active p xs ≡ is_some (request_of p xs)
active_found p [] = refl
active_found p (a ∷ xs) = elim (eqb a.party p) as (λ b. (b || is_active p xs) ≡ is_some (cond b (Some a) (request_of p xs))) [ true ↦ refl | false ↦ active_found p xs ]
