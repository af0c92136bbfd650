-- Banks that leave no choice: what a maker makes known of enter and leave settles them.
use Rattle.std.specs.Prelude.{◌≡◌, ℕ, Bool, Ok, ◌≢◌}
use Rattle.bank.specs.Questions.{Told}
use Rattle.bank.specs.declared.meaning.Bank.{Ghosts}
use Rattle.bank.specs.declared.request.Mode.{Mode}

-- a bank with a row at each resource, from which its lists follow
module _ {X A : Type 0} (told : X → Told) (row : X → ℕ → A) where
  -- what it tells is the same, one row changes, and all others are as they were
  pub record ChangesRow (r : ℕ) (change : A → A) (old new : X) : Type 0 where
    pub tells : told new ≡ told old
    pub here : row new r ≡ change (row old r)
    pub others : (q : ℕ) → (q ≢ r) → row new q ≡ row old q

  -- two banks that tell the same and have the same rows
  pub record SameRows (a b : X) : Type 0 where
    pub tells : told a ≡ told b
    pub rows : (r : ℕ) → row a r ≡ row b r

-- banks that are alike tell and list the same; and the same call of two that are alike is answered
-- alike, and leaves two that are alike
pub record Exact {X : Type 0} (bank : Ghosts X) (Alike : X → X → Type 0) : Type 0 where
  pub tells : (a b : X) → Alike a b → bank.told a ≡ bank.told b
  pub lists : (a b : X) → Alike a b → bank.active a ≡ bank.active b
  pub enter : (r p : ℕ) (m : Mode) (h j : Bool) (a b c d : X) → Alike a b
      → bank.entered r p m (Ok h) a c → bank.entered r p m (Ok j) b d → (h ≡ j) × Alike c d
  pub leave : (r p : ℕ) (a b c d : X) → Alike a b
      → bank.left r p (Ok tt) a c → bank.left r p (Ok tt) b d → Alike c d
