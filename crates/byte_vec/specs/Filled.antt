-- Bytes in n places of which those behind the bytes are 0: the bytes alone tell all places.
use Rattle.std.specs.Prelude.{◌≡◌, ℕ, ◌-◌, ◌≤◌, List, ◌++◌, length, take, drop, replicate}
use Rattle.std.proofs.Common.{sym, ap, ◌∙◌, arith}
use Rattle.std.proofs.lemmas.List.{take-append-drop, length-take-le}

pub record Filled (n : ℕ) (places : List ℕ) (len : ℕ) : Type 0 where
  pub whole : length places ≡ n
  pub within : len ≤ n
  pub behind : drop len places ≡ replicate (n - len) 0

pub length_of_filled : (n : ℕ) (places : List ℕ) (len : ℕ) → Filled n places len → length (take len places) ≡ len
length_of_filled n places len f = length-take-le len places (omega (arith, f.whole, f.within))

-- whatever is made of the places and the length is made of the bytes alone
pub made_again : {T : Type 0} (make : List ℕ → ℕ → T) → (n : ℕ) (places : List ℕ) (len : ℕ) → Filled n places len → make (take len places ++ replicate (n - length (take len places)) 0) (length (take len places)) ≡ make places len
made_again make n places len f =
    let l = length_of_filled n places len f in
    let whole : take len places ++ replicate (n - len) 0 ≡ places = ap (λ r. take len places ++ r) (sym f.behind) ∙ take-append-drop len places in
    rw l (ap (λ xs. make xs len) whole)
