-- What is printed of a whole input.
use Rattle.std.specs.Prelude.{◌≡◌, ℕ, List, [], ◌∷◌, ◌++◌, Some, Ok, Err}
use Rattle.controller.specs.declared.controller.Controller.{Controller}
use Rattle.event.specs.Answers.{calls_of, event_call, line_text, unreadable_text}
use Rattle.event.specs.Lines.{read_event, event_questions}
use Rattle.rules.specs.declared.call.Call.{Call}
use Rattle.plan.specs.Contents.{Contents}
use Rattle.plan_text.specs.Texts.{Verdict}
use Rattle.rules.specs.Histories.{History, made, called}
use Rattle.rules.specs.Runs.{LawfulRun}
use Rattle.rules.specs.declared.event.Event.{Event}
use Rattle.text.specs.Lines.{lines_of}
use Rattle.text.specs.Questions.{first_no}
use Rattle.text.specs.Refusals.{number}
use Rattle.text.specs.declared.refusal.Refusal.{Refusal}
use Rattle.dry_run.specs.Banks.{PlanBanks, meaning}
use Rattle.dry_run.specs.Made.{setup, snapshot, MadeFrom, Step}
use Rattle.dry_run.specs.Said.{behind_plan, preamble_text, refused_text, verdict}

-- calls one after another, each a step of the controller and a call of the history
abbrev pub StepsBy : List Event → Controller PlanBanks meaning → History →
    Controller PlanBanks meaning → History → Type 0
StepsBy [] k h last g = (last ≡ k) × (g ≡ h)
StepsBy (call ∷ calls) k h last g =
    (next : Controller PlanBanks meaning)
    × Step k call next
    × StepsBy calls next (called h call (snapshot next).lists) last g

-- the lines so far, the history of their calls, where the controller stands, and what was printed
-- of them. A line that is an event stands for a row of calls, and it is printed with its answer; a
-- line that is none is printed with the number of the question that is answered no, and is no call
pub data Replays (first : Controller PlanBanks meaning) :
    List (List ℕ) → History → Controller PlanBanks meaning → List ℕ → Type 0 where
  none : Replays first [] (made (snapshot first).lists) first []
  unreadable : {lines : List (List ℕ)} {h : History} {k : Controller PlanBanks meaning}
      {out : List ℕ} (line : List ℕ) (why : Refusal)
      → Replays first lines h k out
      → first_no (event_questions line) ≡ Some (number why)
      → Replays first (lines ++ (line ∷ [])) h k (out ++ unreadable_text why)
  answered : {lines : List (List ℕ)} {h g : History} {k next : Controller PlanBanks meaning}
      {out : List ℕ} (line : List ℕ) (e : Call) (answer : Event)
      → Replays first lines h k out
      → read_event line ≡ Some e
      → event_call answer ≡ e
      → StepsBy (calls_of answer) k h next g
      → Replays first (lines ++ (line ∷ [])) g next (out ++ line_text answer)

-- a run of the controller of a plan, whose calls are those of the lines that are events, and what
-- was printed: the lines before the events, and each line with its answer
pub record Plays (c : Contents) (k : Controller PlanBanks meaning) (lines : List (List ℕ))
    (out : List ℕ) : Type 0 where
  pub begins : Controller PlanBanks meaning
  pub controller : MadeFrom c begins
  pub history : History
  pub run : LawfulRun (setup k) (snapshot k) history
  pub answers : List ℕ
  pub replays : Replays begins lines history k answers
  pub printed : out ≡ preamble_text c ++ answers

-- a refused plan prints its line and nothing else
abbrev pub PrintedBy : Verdict → List ℕ → List ℕ → Type 0
PrintedBy (Ok c) input out =
    (k : Controller PlanBanks meaning) × Plays c k (lines_of (behind_plan input)) out
PrintedBy (Err p) input out = out ≡ refused_text p.0 p.1

abbrev pub Printed : List ℕ → List ℕ → Type 0
Printed input out = PrintedBy (verdict input) input out

-- what is printed is settled: whatever comes behind the input, it is this
abbrev pub SettledBy : List ℕ → List ℕ → Type 0
SettledBy input out = (more : List ℕ) → Printed (input ++ more) out
