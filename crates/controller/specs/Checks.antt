-- A call's own questions, what is checked by them, and where a call moves its task.
use Rattle.std.specs.Prelude.{◌≡◌, ℕ, Bool, false, not, List, [], ◌∷◌, Some, None, Ok, Err, Result}
use Rattle.std.specs.Prelude.{nat_lt}
use Rattle.text.specs.Questions.{Question, ask, first_no}
use Rattle.rules.specs.Jobs.{Setup, Snapshot, jobs_in, runs}
use Rattle.rules.specs.Refusals.{number, from_bank, task_named}
use Rattle.rules.specs.States.{is_idle, is_holding}
use Rattle.rules.specs.declared.call.Call.{Call}
use Rattle.rules.specs.declared.call.Call.TheVariants.{Release, Ask, Give, Finish, Tick}
use Rattle.rules.specs.declared.refusal.Refusal.{Refusal}
use Rattle.rules.specs.declared.task.State.{State}
use Rattle.rules.specs.declared.task.State.TheVariants.{Idle, Going, HeldBack}

-- the first question answered no decides; it is one of the controller's own, and names no task
abbrev pub Checked : List Question → Result (Unit {0}) Refusal → Type 0
Checked questions (Ok done) = first_no questions ≡ None
Checked questions (Err why) =
    (first_no questions ≡ Some (number why))
    × (from_bank why ≡ false)
    × (task_named why ≡ None)

-- the same, answered with the state into which the task moves
abbrev pub Moves : List Question → State → Result State Refusal → Type 0
Moves questions next (Ok state) = (first_no questions ≡ None) × (state ≡ next)
Moves questions next (Err why) =
    (first_no questions ≡ Some (number why))
    × (from_bank why ≡ false)
    × (task_named why ≡ None)

-- the questions on the task's own state
abbrev pub state_questions : Call → Bool → State → List Question
state_questions (Release t) runs st = ask 5 (is_idle st) ∷ []
state_questions (Ask t r m) runs st = ask 7 runs ∷ ask 8 (not (is_holding st)) ∷ []
state_questions (Give t) runs st = ask 9 (is_holding st) ∷ []
state_questions (Finish t) runs st = ask 7 runs ∷ ask 8 (not (is_holding st)) ∷ []
state_questions Tick runs st = []

-- where a call moves its task; an ask is held back until its request is issued
abbrev pub next_state : Call → State → State
next_state (Release t) st = Going
next_state (Ask t r m) st = HeldBack (record { resource = r; mode = m })
next_state (Give t) st = Going
next_state (Finish t) st = Idle
next_state Tick st = st

abbrev pub call_questions : Setup → Snapshot → Call → ℕ → List Question
call_questions a s call t =
    ask 1 (nat_lt t a.tasks)
    ∷ state_questions call (runs a.plan a.tasks (jobs_in s) t) (s.tasks t).state
