-- What one line does, and how much may be printed.
use Prim.Native.Char.{code}
use Rattle.std.specs.Prelude.{◌≡◌, ℕ, ◌+◌, ◌*◌, ◌≤◌, List, ◌++◌, length, min, true, false, Some}
use Rattle.std.specs.Prelude.{None}
use Rattle.std.specs.Prelude.{Ok, Err, Option, Result, codes, ◌==◌}
use Rattle.std.specs.List.{AllByRecursion}
use Rattle.controller.specs.declared.controller.Controller.{Controller}
use Rattle.event.specs.Answers.{calls_of, event_call, line_text, unreadable_text}
use Rattle.event.specs.Lines.{event_text}
use Rattle.rules.specs.declared.call.Call.{Call}
use Rattle.rules.specs.Histories.{History}
use Rattle.rules.specs.Runs.{LawfulRun}
use Rattle.rules.specs.declared.event.Event.{Event}
use Rattle.text.specs.declared.refusal.Refusal.{Refusal}
use Rattle.event.specs.Laid.{Laid}
use Rattle.dry_run.specs.Banks.{PlanBanks, meaning}
use Rattle.dry_run.specs.Made.{setup, snapshot}
use Rattle.dry_run.specs.Plays.{StepsBy}
use Rattle.dry_run.specs.declared.run.DryRun.{DryRun}
use Rattle.dry_run.specs.declared.run.Progress.{Progress}
use Rattle.dry_run.specs.declared.run.Progress.TheVariants.{Plan, Events, Over}

-- whatever history led here, with these calls more it is that of a run that keeps the law
abbrev pub RunsOn : Controller PlanBanks meaning → List Event → Controller PlanBanks meaning →
    Type 0
RunsOn k calls next =
    (h : History) → LawfulRun (setup k) (snapshot k) h
    → (g : History) × LawfulRun (setup next) (snapshot next) g × StepsBy calls k h next g

-- a line that is an event is a row of calls, and is printed with its answer; another is printed
-- with the number of its refusal, and nothing changes
abbrev pub LineDone : Controller PlanBanks meaning → Result Call Refusal → List ℕ →
    Controller PlanBanks meaning → Type 0
LineDone k (Err why) printed next = (printed ≡ unreadable_text why) × (next ≡ k)
LineDone k (Ok e) printed next =
    (answer : Event)
    × (event_call answer ≡ e)
    × (printed ≡ line_text answer)
    × RunsOn k (calls_of answer) next

-- bytes with no newline, and a line: some of them and the newline
abbrev pub Plain : List ℕ → Type 0
Plain xs = AllByRecursion (λ b. (b == code "\n") ≡ false) xs

pub record IsLine (line : List ℕ) : Type 0 where
  pub front : List ℕ
  pub plain : Plain front
  pub text : line ≡ front ++ codes "\n"

-- the first line, and what stands behind it, or no newline at all
abbrev pub FirstLine : List ℕ → Option (List ℕ × List ℕ) → Type 0
FirstLine bytes None = Plain bytes
FirstLine bytes (Some p) = IsLine p.0 × (bytes ≡ p.0 ++ p.1)

-- the size of an event's line, and of the shortest that is none
abbrev pub line_size : Result Call Refusal → ℕ
line_size (Err why) = 1
line_size (Ok e) = length (event_text e)

-- a line was answered, and what is printed of it stands at a place, at most ten bytes for each of
-- the line
pub record LineTaken (c c' : Controller PlanBanks meaning) (event : Result Call Refusal)
    (old : List ℕ) (at end : ℕ) (new : List ℕ) : Type 0 where
  pub printed : List ℕ
  pub laid : Laid old at printed end new
  pub few : end ≤ at + 10 * line_size event
  pub does : LineDone c event printed c'

-- how many bytes may still be printed of a line, which is kept up to 16 bytes
abbrev pub line_reserve : List ℕ → ℕ
line_reserve line = 10 * min (length line) 16

-- how many bytes may still be printed of what is kept
abbrev pub reserve_in : Progress → ℕ
reserve_in (Plan text begins) = 1040
reserve_in (Events controller line) = line_reserve line
reserve_in Over = 0

abbrev pub reserve : DryRun → ℕ
reserve d = reserve_in d.progress

-- while the plan is read, nothing has been printed
abbrev pub WaitsIn : Progress → ℕ → Type 0
WaitsIn (Plan text begins) at = at ≡ 0
WaitsIn (Events controller line) at = Unit {0}
WaitsIn Over at = Unit {0}

abbrev pub Waits : DryRun → ℕ → Type 0
Waits d at = WaitsIn d.progress at

-- the plan is read, and a line begins behind its text
abbrev pub AtLineIn : Progress → Type 0
AtLineIn (Plan text begins) = begins ≡ true
AtLineIn _ = ⊥

abbrev pub AtLine : DryRun → Type 0
AtLine d = AtLineIn d.progress
