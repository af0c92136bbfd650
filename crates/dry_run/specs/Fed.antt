-- A dry run in the middle of its input.
use Prim.Native.Char.{code}
use Rattle.std.specs.Prelude.{◌≡◌, ℕ, ◌+◌, ◌*◌, ◌<◌, Bool, true, false, List, [], ◌∷◌, ◌++◌, length}
use Rattle.std.specs.Prelude.{take, Some, None, Ok, Err, Option, Result, ◌==◌, nat_le}
use Rattle.std.specs.List.{AllByRecursion}
use Rattle.controller.specs.declared.controller.Controller.{Controller}
use Rattle.dry_run.specs.Banks.{PlanBanks, meaning}
use Rattle.event.specs.Laid.{Laid}
use Rattle.plan.specs.Contents.{Contents}
use Rattle.plan_text.specs.Texts.{read_text}
use Rattle.text.specs.Lines.{lines_of}
use Rattle.text.specs.Questions.{Question, ask, first_no}
use Rattle.text.specs.Refusals.{number}
use Rattle.text.specs.declared.refusal.Refusal.{Refusal}
use Rattle.dry_run.specs.Plays.{Plays, Printed, SettledBy}
use Rattle.dry_run.specs.Said.{before_empty, behind_plan, enough, plan_part, said, verdict}
use Rattle.dry_run.specs.declared.run.DryRun.{DryRun}
use Rattle.dry_run.specs.declared.run.Phase.{Phase}
use Rattle.dry_run.specs.declared.run.Phase.TheVariants.{Plan as ReadsPlan}
use Rattle.dry_run.specs.declared.run.Phase.TheVariants.{Events as ReadsEvents}
use Rattle.dry_run.specs.declared.run.Phase.TheVariants.{Over as ReadsNothing}
use Rattle.dry_run.specs.declared.run.Progress.{Progress}
use Rattle.dry_run.specs.declared.run.Progress.TheVariants.{Plan, Events, Over}

-- whether a line begins behind these bytes
abbrev pub line_begins : Bool → List ℕ → Bool
line_begins begins [] = begins
line_begins begins (b ∷ bs) = line_begins (b == code "\n") bs

-- the plan has not ended: this text of it is kept, and a line begins behind it or not
pub record Planning (text : List ℕ) (begun : Bool) (input out : List ℕ) : Type 0 where
  pub held : text ≡ input
  pub few : length input < 16384
  pub unended : before_empty true input ≡ None
  pub begins : begun ≡ line_begins true input
  pub nothing : out ≡ []

-- the plan was accepted, and lines of events come behind it: the whole ones were answered, and the
-- last one goes on
pub record Replaying (controller : Controller PlanBanks meaning)
    (kept input out : List ℕ) : Type 0 where
  pub text : List ℕ
  pub contents : Contents
  pub events : List ℕ
  pub lines : List (List ℕ)
  pub line : List ℕ
  pub bytes : input ≡ text ++ (code "\n" ∷ events)
  pub found : (more : List ℕ) → plan_part (text ++ (code "\n" ∷ more)) ≡ Some text
  pub accepted : read_text text ≡ Ok contents
  pub cut : (more : List ℕ) → lines_of (events ++ more) ≡ lines ++ lines_of (line ++ more)
  pub plain : AllByRecursion (λ b. (b == code "\n") ≡ false) line
  pub held : kept ≡ take 16 line
  pub plays : Plays contents controller lines out

abbrev pub FedIn : Progress → List ℕ → List ℕ → Type 0
FedIn (Plan text begins) input out = Planning text begins input out
FedIn (Events controller line) input out = Replaying controller line input out
FedIn Over input out = SettledBy input out

-- d stands after this input, and this was printed
abbrev pub Fed : DryRun → List ℕ → List ℕ → Type 0
Fed d input out = FedIn d.progress input out

-- what is read next
abbrev pub phase_in : Progress → Phase
phase_in (Plan text begins) = ReadsPlan
phase_in (Events controller line) = ReadsEvents
phase_in Over = ReadsNothing

abbrev pub phase_of : DryRun → Phase
phase_of d = phase_in d.progress

-- what this tells of the input, and of what was printed: enough has not come for the plan, and
-- nothing was printed; the plan is accepted, whatever comes behind; or what is printed is settled
abbrev pub Tells : Phase → List ℕ → List ℕ → Type 0
Tells ReadsPlan input out = (enough input ≡ false) × (out ≡ [])
Tells ReadsEvents input out =
    (c : Contents)
    × (enough input ≡ true)
    × ((more : List ℕ) → verdict (input ++ more) ≡ Ok c)
Tells ReadsNothing input out = SettledBy input out

-- the dry run that has this progress
abbrev pub run_in : Progress → DryRun
run_in progress = record { progress = progress }

-- what comes behind a plan: the events of its controller, or nothing where it was refused
abbrev pub progress_behind : Option (Controller PlanBanks meaning) → Progress
progress_behind None = Over
progress_behind (Some controller) = Events controller []

-- a piece of input was taken, and what is printed of it stands at a place
pub record Takes (d d' : DryRun) (piece old : List ℕ) (at end : ℕ) (new : List ℕ) : Type 0 where
  pub printed : List ℕ
  pub laid : Laid old at printed end new
  pub law : (input out : List ℕ) → Fed d input out → Fed d' (input ++ piece) (out ++ printed)

-- is there room for all that a piece may print?
abbrev pub piece_questions : List ℕ → List ℕ → List Question
piece_questions piece old = ask 23 (nat_le (10 * length piece + 1040) (length old)) ∷ []

abbrev pub Feeds : DryRun → List ℕ → List ℕ → Result ℕ Refusal → DryRun → List ℕ → Type 0
Feeds d piece old (Ok n) d' new =
    (first_no (piece_questions piece old) ≡ None)
    × Takes d d' piece old 0 n new
Feeds d piece old (Err why) d' new =
    (first_no (piece_questions piece old) ≡ Some (number why))
    × (d' ≡ d)
    × (new ≡ old)

-- the input is over. Nothing else can be printed of the same bytes; with nothing behind its plan,
-- what the plan says is all that was printed
pub record Ends (d : DryRun) (old : List ℕ) (n : ℕ) (new : List ℕ) : Type 0 where
  pub printed : List ℕ
  pub laid : Laid old 0 printed n new
  pub law : (input out : List ℕ) → Fed d input out → Printed input (out ++ printed)
  pub only : (input out other : List ℕ) → Fed d input out → Printed input other
      → other ≡ out ++ printed
  pub alone : (input out : List ℕ) → Fed d input out → behind_plan input ≡ []
      → out ++ printed ≡ said (verdict input)

-- 64 bytes are enough at the end
abbrev pub end_questions : List ℕ → List Question
end_questions old = ask 23 (nat_le 64 (length old)) ∷ []

abbrev pub EndsIn : DryRun → List ℕ → Result ℕ Refusal → List ℕ → Type 0
EndsIn d old (Ok n) new = (first_no (end_questions old) ≡ None) × Ends d old n new
EndsIn d old (Err why) new = (first_no (end_questions old) ≡ Some (number why)) × (new ≡ old)
