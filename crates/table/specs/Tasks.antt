-- Which of the records of all tasks have an issued request.
use Rattle.std.proofs.Props.{props}
use Rattle.std.specs.Prelude.{◌≡◌, ℕ, ◌≤◌, Bool, true, false, List, slice_index_or}
use Rattle.rules.specs.States.{idle_task}
use Rattle.rules.specs.declared.task.State.{State}
use Rattle.rules.specs.declared.task.State.TheVariants.{Waiting, Holding}
use Rattle.rules.specs.declared.task.Task.{Task}

-- the request of the task is issued: it waits or holds
abbrev pub has_issued : State → Bool
has_issued (Waiting w) = true
has_issued (Holding w) = true
has_issued _ = false

-- no task from this one on has an issued request
unfoldable pub NoneIssuedFrom : ℕ → List Task → Type 0
NoneIssuedFrom end rows =
    (q : ℕ) → end ≤ q → has_issued (slice_index_or rows q idle_task).state ≡ false

pub none_issued_prop : (end : ℕ) (rows : List Task) → IsProp (NoneIssuedFrom end rows)
unfolding NoneIssuedFrom
none_issued_prop end rows = hlevel props
