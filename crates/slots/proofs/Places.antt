-- What a search for a party tells.
use Rattle.std.proofs.Common.{◌≡◌, ℕ, ◌+◌, ◌<◌, ◌≤◌, cond, List, length, nat_lt, nat_eq, position, is_some, Some, None, refl, sym, ap, ◌∙◌, arith}
use Rattle.std.proofs.lemmas.Bool.{ltb-true, ltb-false}
use Rattle.std.proofs.lemmas.List.Recursion.{is_position_or_len}
use Rattle.std.specs.List.{position_or_len}
use Rattle.bank.proofs.Searches.{found_by, missing_by, some_if}
use Rattle.slots.specs.Rows.{place}

module _ (p : ℕ) where
  place_or_len : (ps : List ℕ) → place p ps ≡ position_or_len (λ q. nat_eq q p) ps
  place_or_len = is_position_or_len (place p) (λ q. nat_eq q p) refl (λ q ps. let k : place p ps + 1 ≡ 1 + place p ps = omega arith in ap (λ k. cond (nat_eq q p) 0 k) k)

  pub position_is : (ps : List ℕ) → position (λ q. nat_eq q p) ps ≡ cond (nat_lt (place p ps) (length ps)) (Some (place p ps)) None
  position_is ps = ap (λ k. cond (nat_lt k (length ps)) (Some k) None) (sym (place_or_len ps))

  -- the place that a search finds, and what it tells if there is none
  pub found : (ps : List ℕ) (i : ℕ) → position (λ q. nat_eq q p) ps ≡ Some i → (place p ps < length ps) × (i ≡ place p ps)
  found ps i e = let f = found_by (nat_lt (place p ps) (length ps)) (place p ps) i (sym (position_is ps) ∙ e) in (ltb-true _ _ f.0, f.1)

  pub missing : (ps : List ℕ) → position (λ q. nat_eq q p) ps ≡ None → length ps ≤ place p ps
  missing ps e = ltb-false _ _ (missing_by (nat_lt (place p ps) (length ps)) (place p ps) (sym (position_is ps) ∙ e))

  pub some_is : (ps : List ℕ) → is_some (position (λ q. nat_eq q p) ps) ≡ nat_lt (place p ps) (length ps)
  some_is ps = ap is_some (position_is ps) ∙ some_if (nat_lt (place p ps) (length ps)) (place p ps)
