-- What is known of how a pair changes: its part changes as that makes known, and the other is the
-- same.
use Rattle.std.specs.Prelude.{◌≡◌, ℕ, ◌-◌, ◌<◌, ◌≤◌, Bool, Ok, Result}
use Rattle.bank.specs.Meaning.{ChangesBy}
use Rattle.bank.specs.declared.meaning.Bank.{Ghosts}
use Rattle.bank.specs.declared.refusal.Refusal.{Refusal}
use Rattle.bank.specs.declared.request.Mode.{Mode}
use Rattle.pair.specs.Pairs.{pair_told, pair_active}
use Rattle.pair.specs.declared.pair.Pair.{Pair}

-- two pairs with parts that are alike
pub record SameParts {A B : Type 0} (First : A → A → Type 0) (Second : B → B → Type 0)
    (x y : Pair A B) : Type 0 where
  pub first : First x.first y.first
  pub second : Second x.second y.second

-- one part changed, and the other is the same value
pub record Changed {A B : Type 0} (Change : A → A → Type 0) (old new : A)
    (other_old other_new : B) : Type 0 where
  pub part : Change old new
  pub other : other_new ≡ other_old

module _ {A B : Type 0} (a : Ghosts A) (b : Ghosts B) where
  -- the part that a resource is of changed, by the resource's number there, and each part tells what
  -- it told
  pub record PartChanged (first : ℕ → A → A → Type 0) (second : ℕ → B → B → Type 0) (r : ℕ)
      (old new : Pair A B) : Type 0 where
    pub first_told : a.told new.first ≡ a.told old.first
    pub second_told : b.told new.second ≡ b.told old.second
    pub in_first : r < (a.told old.first).resources
        → Changed (first r) old.first new.first old.second new.second
    pub in_second : (a.told old.first).resources ≤ r
        → Changed (second (r - (a.told old.first).resources))
        old.second new.second old.first new.first

  abbrev pub pair_entered : ℕ → ℕ → Mode → Result Bool Refusal → Pair A B → Pair A B → Type 0
  pair_entered r p m =
      ChangesBy (λ h. PartChanged (λ q. a.entered q p m (Ok h)) (λ q. b.entered q p m (Ok h)) r)

  abbrev pub pair_left : ℕ → ℕ → Result (Unit {0}) Refusal → Pair A B → Pair A B → Type 0
  pair_left r p =
      ChangesBy (λ done. PartChanged (λ q. a.left q p (Ok done)) (λ q. b.left q p (Ok done)) r)

  -- two banks as one
  abbrev pub pair_ghosts : Ghosts (Pair A B)
  pair_ghosts =
      record {
        told = λ s. pair_told (a.told s.first) (b.told s.second);
        active = λ s. pair_active (a.told s.first) (a.active s.first) (b.active s.second);
        entered = λ r p m result old new. pair_entered r p m result old new;
        left = λ r p result old new. pair_left r p result old new;
      }
