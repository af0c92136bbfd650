-- Resources in 16 places of which those behind them hold the same: the resources alone tell all places.
use Rattle.std.specs.Prelude.{◌≡◌, ℕ, ◌-◌, ◌≤◌, List, ◌++◌, length, take, drop, replicate}
use Rattle.std.proofs.Common.{sym, ap, ◌∙◌, arith}
use Rattle.std.proofs.lemmas.List.{take-append-drop, length-take-le}
use Rattle.plan.specs.declared.resource.Resource.{Resource}
use Rattle.plan.specs.declared.resource.Resource.TheVariants.{ReaderWriter}

pub record Filled (places : List Resource) (len : ℕ) : Type 0 where
  pub whole : length places ≡ 16
  pub within : len ≤ 16
  pub behind : drop len places ≡ replicate (16 - len) ReaderWriter

pub length_of_filled : (places : List Resource) (len : ℕ) → Filled places len → length (take len places) ≡ len
length_of_filled places len f = length-take-le len places (omega (arith, f.whole, f.within))

-- whatever is made of the places and the length is made of the resources alone
pub made_again : {T : Type 0} (make : List Resource → ℕ → T) → (places : List Resource) (len : ℕ) → Filled places len → make (take len places ++ replicate (16 - length (take len places)) ReaderWriter) (length (take len places)) ≡ make places len
made_again make places len f =
    let l = length_of_filled places len f in
    let whole : take len places ++ replicate (16 - len) ReaderWriter ≡ places = ap (λ r. take len places ++ r) (sym f.behind) ∙ take-append-drop len places in
    rw l (ap (λ xs. make xs len) whole)
