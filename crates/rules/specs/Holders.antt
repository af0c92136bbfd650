-- The holders by the ticks that they have left: which is late, and which is nearest its end.
use Rattle.std.specs.Prelude.{◌≡◌, ℕ, ◌+◌, ◌-◌, ◌≤◌, false, Some, None, Ok, Err, Option, Result}
use Rattle.plan.specs.Contents.{Contents, length_at}
use Rattle.rules.specs.Jobs.{Setup, Snapshot, least_below}
use Rattle.rules.specs.Questions.{length_for}
use Rattle.rules.specs.Refusals.{task_named}
use Rattle.rules.specs.States.{is_holding, wanted_of}
use Rattle.rules.specs.declared.refusal.Refusal.{Refusal}
use Rattle.rules.specs.declared.task.State.TheVariants.{Holding}
use Rattle.rules.specs.declared.task.Task.{Task}
use Rattle.rules.specs.declared.task.Wanted.{Wanted}

module _ (p : Contents) (tasks : ℕ → Task) where
  -- t holds, and the length that it declares there is n ticks more than it has used
  pub record HasLeft (t n : ℕ) : Type 0 where
    pub wanted : Wanted
    pub holds : (tasks t).state ≡ Holding wanted
    pub left : length_at p t wanted.resource ≡ Some ((tasks t).used + n)

  -- of the holders with no tick left the lowest is named, and nobody where there is none
  abbrev pub NamesLate : Option ℕ → Type 0
  NamesLate None = (u : ℕ) → HasLeft u 0 → ⊥
  NamesLate (Some t) = HasLeft t 0 × ((u : ℕ) → HasLeft u 0 → t ≤ u)

  -- t holds with n ticks left; no holder has fewer, and none with as many has a lower number
  pub record Nearest (t n : ℕ) : Type 0 where
    pub holder : HasLeft t n
    pub fewest : (u m : ℕ) → HasLeft u m → n ≤ m
    pub lowest : (u : ℕ) → HasLeft u n → t ≤ u

  -- the holder nearest its end with its ticks left, and nothing where nobody holds
  abbrev pub IsNearestEnd : Option (ℕ × ℕ) → Type 0
  IsNearestEnd None = (t : ℕ) → is_holding (tasks t).state ≡ false
  IsNearestEnd (Some x) = Nearest x.0 x.1

-- The same, as it is found.

abbrev pub ticks_left : Contents → (ℕ → Task) → ℕ → ℕ
ticks_left p tasks t = length_for p t (wanted_of (tasks t).state).resource - (tasks t).used

abbrev pub task_and_left : (ℕ → ℕ) → Option ℕ → Option (ℕ × ℕ)
task_and_left left None = None
task_and_left left (Some t) = Some (t, left t)

-- of the first n tasks
abbrev pub nearest_of : Contents → ℕ → (ℕ → Task) → Option (ℕ × ℕ)
nearest_of p n tasks =
    task_and_left (ticks_left p tasks)
    (least_below (λ t. is_holding (tasks t).state) (ticks_left p tasks) n)

abbrev pub nearest_end : Setup → Snapshot → Option (ℕ × ℕ)
nearest_end a s = nearest_of a.plan a.tasks s.tasks
