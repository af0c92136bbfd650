-- What the search for a party tells of a holder.
use Rattle.std.proofs.Common.{◌≡◌, ℕ, ◌+◌, ◌&&◌, Bool, true, false, List, length, nat_lt, nat_eq, position, is_some, Some, None, refl, sym, ◌∙◌, arith}
use Rattle.std.proofs.lemmas.Bool.Decides.{nat_tests}
use Rattle.std.specs.Bool.{then_some}
use Rattle.std.specs.Option.{IfSome}
use Rattle.bank.specs.Lists.{is_holder}
use Rattle.slots.specs.Lines.{requests}
use Rattle.slots.specs.Rows.{place}
use Rattle.slots.proofs.Requests.{holder_is}
use Rattle.slots.proofs.Places.{found, missing}

some_then : (b : Bool) (i : ℕ) → is_some (then_some b i) ≡ b
some_then true i = refl
some_then false i = refl

-- what holds of a place if it is told
pub if_then : (b : Bool) (i : ℕ) (P : ℕ → Type 0) → (b ≡ true → P i) → IfSome (then_some b i) P
if_then true i P h = h refl
if_then false i P h = tt

module _ (k p : ℕ) (ps : List ℕ) where
  -- who is not found does not hold
  pub none_holds : position (λ q. nat_eq q p) ps ≡ None → is_holder p (requests k ps) ≡ false
  none_holds e =
      let none = missing p ps e in
      let not : (nat_lt (place p ps) (length ps) && nat_lt (0 + place p ps) k) ≡ false = grind (arith, nat_tests) in
      holder_is k 0 p ps ∙ not

  -- who is found holds at one of the first places
  pub some_holds : (i : ℕ) → position (λ q. nat_eq q p) ps ≡ Some i → is_holder p (requests k ps) ≡ is_some (then_some (nat_lt i k) i)
  some_holds i e =
      let lt = (found p ps i e).0 in
      let is = (found p ps i e).1 in
      let both : nat_lt i k ≡ (nat_lt (place p ps) (length ps) && nat_lt (0 + place p ps) k) = grind (arith, nat_tests) in
      holder_is k 0 p ps ∙ (sym both ∙ sym (some_then (nat_lt i k) i))
