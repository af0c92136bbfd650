-- What a call makes of a controller.
use Rattle.std.specs.Prelude.{◌≡◌, ℕ, Bool, false, ◌||◌, Some, None, Option, ◌==◌, ⊤}
use Rattle.bank.specs.declared.meaning.Bank.{Ghosts}
use Rattle.rules.specs.Jobs.{Snapshot}
use Rattle.rules.specs.Moves.{Does}
use Rattle.rules.specs.Questions.{wanted_by}
use Rattle.rules.specs.Runs.{Follows}
use Rattle.rules.specs.declared.answer.Issued.{Issued}
use Rattle.rules.specs.declared.event.Acceptance.TheVariants.{Release, Ask, Give, Finish, Tick}
use Rattle.rules.specs.declared.event.Event.{Event}
use Rattle.rules.specs.declared.event.Event.TheVariants.{Accepted, Refused}
use Rattle.rules.specs.declared.task.State.{State}
use Rattle.rules.specs.declared.task.State.TheVariants.{Waiting}
use Rattle.rules.specs.declared.task.Task.{Task}
use Rattle.table.specs.Tasks.{has_issued}
use Rattle.controller.specs.Banks.{BankChanges}
use Rattle.controller.specs.Of.{setup_of, snapshot_of}
use Rattle.controller.specs.declared.controller.Controller.{Controller}

abbrev pub waits_at : ℕ → State → Bool
waits_at r (Waiting w) = w.resource == r
waits_at r _ = false

abbrev pub is_issued_to : Option Issued → ℕ → Bool
is_issued_to None q = false
is_issued_to (Some i) q = i.task == q

-- the tasks whose records a call may change: the task that it names; with a give those that waited
-- there, with a finish the one whose request is issued; with a tick those that wait or hold
abbrev pub may_change : Snapshot → Event → ℕ → Bool
may_change s (Refused call why) q = false
may_change s (Accepted (Release t n)) q = t == q
may_change s (Accepted (Ask t r m x)) q = t == q
may_change s (Accepted (Give t n)) q =
    t == q || waits_at (wanted_by s t).resource (s.tasks q).state
may_change s (Accepted (Finish t f)) q = t == q || is_issued_to f.issued q
may_change s (Accepted (Tick n)) q = has_issued (s.tasks q).state

-- no other records change
abbrev pub ChangesOnly : (ℕ → Bool) → (ℕ → Task) → (ℕ → Task) → Type 0
ChangesOnly may old new = (q : ℕ) → may q ≡ false → new q ≡ old q

-- a refusal leaves the same value
abbrev pub KeepsRefused : {S : Type 0} → Event → S → S → Type 0
KeepsRefused (Accepted x) old new = ⊤
KeepsRefused (Refused call why) old new = new ≡ old

-- the plan, what the bank tells, and how many tasks and resources there are, stay; the answer and
-- every record are those of the rule book; the bank changes as its maker makes known
pub record Makes {X : Type 0} (b : Ghosts X) (old : Controller X b) (e : Event)
    (new : Controller X b) : Type 0 where
  pub setup : setup_of b new ≡ setup_of b old
  pub does : Does (setup_of b old) (snapshot_of b old) e (snapshot_of b new)
  pub only : ChangesOnly (may_change (snapshot_of b old) e)
      (snapshot_of b old).tasks (snapshot_of b new).tasks
  pub bank : BankChanges b (snapshot_of b old) e old.bank new.bank
  pub keeps : KeepsRefused e old new

-- the law of runs: whatever calls led here, with this one they keep it
abbrev pub FollowsRuns : {X : Type 0} (b : Ghosts X) → Controller X b → Event →
    Controller X b → Type 0
FollowsRuns b old e new = Follows (setup_of b old) (snapshot_of b old) e (snapshot_of b new)
