-- What a call does to the bank.
use Rattle.std.specs.Prelude.{◌≡◌, ℕ, Bool, true, false, cond, List, [], Some, None, Ok, Err}
use Rattle.std.specs.Prelude.{Result, slice_index_or}
use Rattle.bank.specs.Meaning.{Lists, Enters}
use Rattle.bank.specs.Questions.{Told, enter_questions}
use Rattle.bank.specs.declared.refusal.Refusal.{Refusal as BankRefusal}
use Rattle.bank.specs.declared.request.Mode.{Mode}
use Rattle.bank.specs.declared.request.Request.{Request}
use Rattle.text.specs.Questions.{first_no}
use Rattle.rules.specs.Moves.{let_in}
use Rattle.rules.specs.Refusals.{number, from_bank, task_named}
use Rattle.rules.specs.States.{idle_task}
use Rattle.rules.specs.declared.answer.Asked.{Asked}
use Rattle.rules.specs.declared.answer.Asked.TheVariants.{Hold, Wait, Back}
use Rattle.rules.specs.declared.refusal.Refusal.{Refusal}
use Rattle.rules.specs.declared.task.Task.{Task}
use Rattle.table.specs.Rows.{tasks_in}

-- the request of a job among the first enters; another is held back
abbrev pub Asks : Told → Bool → ℕ → ℕ → Mode → Result Asked Refusal → Lists → Lists → Type 0
Asks told first t r m (Ok Hold) old new = (first ≡ true) × Enters told r t m (Ok true) old new
Asks told first t r m (Ok Wait) old new = (first ≡ true) × Enters told r t m (Ok false) old new
Asks told first t r m (Ok Back) old new = (first ≡ false) × (new ≡ old)
Asks told first t r m (Err why) old new =
    (first_no (cond first (enter_questions told r t m (old r)) []) ≡ Some (number why))
    × (from_bank why ≡ true)
    × (task_named why ≡ None)
    × (new ≡ old)

-- the records after a departure from r, where xs are now the requests there
pub record LetsIn (n r : ℕ) (xs : List Request) (old new : List Task) : Type 0 where
  pub tasks : (q : ℕ) → tasks_in n new q ≡ let_in r xs q (tasks_in n old q)
  pub blocked : (q : ℕ)
      → (slice_index_or new q idle_task).blocked ≡ (slice_index_or old q idle_task).blocked

-- what is known of how a bank changes by an ask
abbrev pub AskChanges : {X : Type 0} → (ℕ → ℕ → Mode → Result Bool BankRefusal → X → X → Type 0)
    → ℕ → ℕ → Mode → Result Asked Refusal → X → X → Type 0
AskChanges entered t r m (Ok Hold) old new = entered r t m (Ok true) old new
AskChanges entered t r m (Ok Wait) old new = entered r t m (Ok false) old new
AskChanges entered t r m (Ok Back) old new = new ≡ old
AskChanges entered t r m (Err why) old new = new ≡ old
