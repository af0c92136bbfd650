-- A bank worked by calls at its resource 0, one after another.
use Rattle.std.specs.Prelude.{◌≡◌, ℕ, Bool, List, [], ◌∷◌, None, Ok, Result, ⊤}
use Rattle.text.specs.Questions.{first_no}
use Rattle.bank.specs.Meaning.{EntersBank, LeavesBank}
use Rattle.bank.specs.Questions.{enter_questions, leave_questions}
use Rattle.bank.specs.declared.meaning.Bank.{Ghosts}
use Rattle.bank.specs.declared.refusal.Refusal.{Refusal}
use Rattle.bank.specs.declared.request.Mode.{Mode}
use Rattle.bank.specs.declared.request.Request.{Request}
use Rattle.bank.specs.declared.request.Standing.TheVariants.{Holds as Holding, Waits}

-- a request that holds; one that waits, with so many turns and departures before it
abbrev pub holder : ℕ → Mode → Request
holder p m = record { party = p; mode = m; standing = Holding }

abbrev pub waiter : ℕ → Mode → ℕ → ℕ → Request
waiter p m turns departures = record { party = p; mode = m; standing = Waits turns departures }

-- a call that is accepted, with its answer, and the active requests after it
pub data Step : Type 0 where
  -- a party enters in a mode, and holds, or waits
  enters : (party : ℕ) → Mode → (holds : Bool) → List Request → Step
  -- a party that holds leaves
  leaves : (party : ℕ) → List Request → Step

module _ {X : Type 0} (b : Ghosts X) where
  -- all that is known of a bank after enter or leave: what every bank promises,
  -- and what the maker of this one adds
  abbrev pub EnterGives : ℕ → Mode → Result Bool Refusal → X → X → Type 0
  EnterGives p m answer old new =
      EntersBank b.told b.active 0 p m answer old new
      × b.entered 0 p m answer old new

  abbrev pub LeaveGives : ℕ → Result (Unit {0}) Refusal → X → X → Type 0
  LeaveGives p answer old new =
      LeavesBank b.told b.active 0 p answer old new
      × b.left 0 p answer old new

  -- the bank's questions are all answered yes, as it stands
  abbrev pub MayEnter : X → ℕ → Mode → Type 0
  MayEnter x p m = first_no (enter_questions (b.told x) 0 p m (b.active x 0)) ≡ None

  abbrev pub MayLeave : X → ℕ → Type 0
  MayLeave x p = first_no (leave_questions (b.told x) 0 p (b.active x 0)) ≡ None

  -- each call is taken, and whatever it gives, the answer and the active requests are these
  abbrev pub Works : X → List Step → Type 0
  Works x [] = ⊤
  Works x (enters p m holds xs ∷ steps) =
      MayEnter x p m
      × ((answer : Result Bool Refusal) (y : X) → EnterGives p m answer x y
      → (answer ≡ Ok holds) × (b.active y 0 ≡ xs) × Works y steps)
  Works x (leaves p xs ∷ steps) =
      MayLeave x p
      × ((answer : Result (Unit {0}) Refusal) (y : X) → LeaveGives p answer x y
      → (answer ≡ Ok tt) × (b.active y 0 ≡ xs) × Works y steps)
