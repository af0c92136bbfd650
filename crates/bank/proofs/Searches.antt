-- What the answer of a search tells, where it is a place if a test holds.
use Rattle.std.proofs.Common.{◌≡◌, ℕ, Bool, true, false, cond, is_some, Some, None, Option, refl}

pub found_by : (b : Bool) (k i : ℕ) → ◌≡◌ {A = Option ℕ} (cond b (Some k) None) (Some i) → (b ≡ true) × (i ≡ k)
found_by true k i e = (refl, cc)
found_by false k i e = (cc, cc)

pub missing_by : (b : Bool) (k : ℕ) → ◌≡◌ {A = Option ℕ} (cond b (Some k) None) None → b ≡ false
missing_by true k e = cc
missing_by false k e = refl

pub some_if : (b : Bool) (k : ℕ) → is_some (cond {A = Option ℕ} b (Some k) None) ≡ b
some_if true k = refl
some_if false k = refl
