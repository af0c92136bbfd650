-- What a controller tells of itself.
use Rattle.std.specs.Prelude.{◌≡◌, ℕ, false, Some, None, Ok, Err, Result}
use Rattle.bank.specs.declared.request.Mode.{Mode}
use Rattle.text.specs.Questions.{first_no}
use Rattle.rules.specs.Jobs.{Setup}
use Rattle.rules.specs.Limits.{wait_limit}
use Rattle.rules.specs.Questions.{limit_questions}
use Rattle.rules.specs.Refusals.{number, from_bank, task_named}
use Rattle.rules.specs.declared.refusal.Refusal.{Refusal}

-- the turn limit of a mode at a resource
abbrev pub TellsTurns : Setup → ℕ → Mode → Result ℕ Refusal → Type 0
TellsTurns a r m (Ok n) = (first_no (limit_questions a r m) ≡ None) × (n ≡ a.told.limit r m)
TellsTurns a r m (Err why) =
    (first_no (limit_questions a r m) ≡ Some (number why))
    × (from_bank why ≡ false)
    × (task_named why ≡ None)

-- the wait limit of a mode at a resource
abbrev pub TellsLimit : Setup → ℕ → Mode → Result ℕ Refusal → Type 0
TellsLimit a r m (Ok n) =
    (first_no (limit_questions a r m) ≡ None)
    × (n ≡ wait_limit a.told a.plan r m)
TellsLimit a r m (Err why) =
    (first_no (limit_questions a r m) ≡ Some (number why))
    × (from_bank why ≡ false)
