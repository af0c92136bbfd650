-- Each refusal by its number and the task that it names, and how a call is refused.
use Rattle.std.specs.Prelude.{◌≡◌, ℕ, Bool, true, false, cond, List, Some, None, Option}
use Rattle.bank.specs.Questions.{number as bank_number}
use Rattle.text.specs.Questions.{Question, first_no}
use Rattle.rules.specs.declared.refusal.Refusal.{Refusal}
use Rattle.rules.specs.declared.refusal.Refusal.TheVariants.{NoTask, NoResource, NoMode, NoLength}
use Rattle.rules.specs.declared.refusal.Refusal.TheVariants.{NotIdle, ManyReleases, NotRunning}
use Rattle.rules.specs.declared.refusal.Refusal.TheVariants.{StillHolding, NotHolding, Late}
use Rattle.rules.specs.declared.refusal.Refusal.TheVariants.{ClockEnds, NoFit, Bank}

abbrev pub number : Refusal → ℕ
number NoTask = 1
number NoResource = 2
number NoMode = 3
number NoLength = 4
number NotIdle = 5
number ManyReleases = 6
number NotRunning = 7
number StillHolding = 8
number NotHolding = 9
number (Late task) = 10
number ClockEnds = 11
number NoFit = 24
number (Bank why) = bank_number why

abbrev pub task_named : Refusal → Option ℕ
task_named NoTask = None
task_named NoResource = None
task_named NoMode = None
task_named NoLength = None
task_named NotIdle = None
task_named ManyReleases = None
task_named NotRunning = None
task_named StillHolding = None
task_named NotHolding = None
task_named (Late task) = Some task
task_named ClockEnds = None
task_named NoFit = None
task_named (Bank why) = None

abbrev pub from_bank : Refusal → Bool
from_bank (Bank why) = true
from_bank _ = false

-- the first question answered no decides: one of the controller's own, or, where those are all
-- answered yes, one of the bank's
pub record RefusedBy (own bank : List Question) (why : Refusal) : Type 0 where
  pub decided : first_no (cond (from_bank why) bank own) ≡ Some (number why)
  pub own_first : from_bank why ≡ true → first_no own ≡ None
