-- The jobs and holders of a table.
use Rattle.std.specs.Prelude.{◌≡◌, ℕ, Bool, true, false, cond, not, List, Some, None, Option, nat_le, nat_lt, slice_index_or}
use Rattle.order.specs.declared.elements.Holder.{Holder}
use Rattle.order.specs.declared.elements.Job.{Job}
use Rattle.plan.specs.Contents.{Contents, length_at}
use Rattle.rules.specs.Holders.{ticks_left}
use Rattle.rules.specs.Jobs.{ended}
use Rattle.rules.specs.States.{is_idle, is_ready, is_held_back, is_holding, idle_task}
use Rattle.rules.specs.declared.task.State.{State}
use Rattle.rules.specs.declared.task.State.TheVariants.{Idle, Going, HeldBack as Held, Waiting, Holding}
use Rattle.rules.specs.declared.task.Task.{Task}
use Rattle.table.specs.declared.selection.Selection.{Selection}
use Rattle.table.specs.declared.selection.Selection.TheVariants.{Unfinished, Ready, HeldBack}

-- the records of the first n tasks; all others are idle
abbrev pub tasks_in : ℕ → List Task → ℕ → Task
tasks_in n rows q = cond (nat_lt q n) (slice_index_or rows q idle_task) idle_task

-- the same, where the job of one task, if it is named, is looked at as ended
abbrev pub without : Option ℕ → (ℕ → Task) → ℕ → Task
without None tasks = tasks
without (Some t) tasks = ended tasks t

abbrev pub selects : Selection → State → Bool
selects Unfinished st = not (is_idle st)
selects Ready st = is_ready st
selects HeldBack st = is_held_back st

-- the job of a task, if it is selected
abbrev pub job_at : (ℕ → Task) → Selection → ℕ → Option Job
job_at tasks which q =
    cond (selects which (tasks q).state) (Some (record { release = (tasks q).release; task = q }))
    None

-- n ticks are within a length that is declared
abbrev pub is_within : ℕ → Option ℕ → Bool
is_within n None = false
is_within n (Some l) = nat_le n l

-- what a task has asked for has a declared length, and it has held for no more than that
abbrev pub keeps_length : Contents → ℕ → ℕ → State → Bool
keeps_length p t used Idle = true
keeps_length p t used Going = true
keeps_length p t used (Held w) = is_within used (length_at p t w.resource)
keeps_length p t used (Waiting w) = is_within used (length_at p t w.resource)
keeps_length p t used (Holding w) = is_within used (length_at p t w.resource)

abbrev pub KeepsLengths : Contents → (ℕ → Task) → Type 0
KeepsLengths p tasks = (q : ℕ) → keeps_length p q (tasks q).used (tasks q).state ≡ true

-- a holder by the ticks that it has left
abbrev pub holder_at : Contents → (ℕ → Task) → ℕ → Option Holder
holder_at p tasks t =
    cond (is_holding (tasks t).state) (Some (record { left = ticks_left p tasks t; task = t })) None
