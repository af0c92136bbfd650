-- The questions put at each call, in order; the first answered no decides.
use Rattle.std.specs.Prelude.{ℕ, zero, suc, Bool, true, false, cond, not, ◌&&◌, List, [], ◌∷◌}
use Rattle.std.specs.Prelude.{length, is_some, Some, None, Option, ◌==◌, nat_le, nat_lt}
use Rattle.std.specs.Prelude.{slice_index_or}
use Rattle.std.specs.Bool.{beq}
use Rattle.std.specs.Option.{unwrap_or}
use Rattle.bank.specs.Meaning.{Lists}
use Rattle.bank.specs.Questions.{Told, knows, enter_questions, leave_questions}
use Rattle.bank.specs.declared.request.Mode.{Mode}
use Rattle.plan.specs.Contents.{Contents, length_at, processors, resource_count}
use Rattle.plan.specs.Kinds.{holders_of, knows_reads}
use Rattle.plan.specs.declared.resource.Resource.TheVariants.{ReaderWriter}
use Rattle.text.specs.Questions.{Question, ask}
use Rattle.rules.specs.Jobs.{Setup, Snapshot, jobs_in, runs, is_among_first, next_issued}
use Rattle.rules.specs.States.{is_idle, is_holding, wanted_of}
use Rattle.rules.specs.declared.call.Call.{Call}
use Rattle.rules.specs.declared.call.Call.TheVariants.{Release, Ask, Give, Finish, Tick}
use Rattle.rules.specs.declared.task.State.{State}
use Rattle.rules.specs.declared.task.State.TheVariants.{Idle, Going, HeldBack, Waiting, Holding}
use Rattle.rules.specs.declared.task.Wanted.{Wanted}

-- the declared length of a task at a resource, and 0 where none is
abbrev pub length_for : Contents → ℕ → ℕ → ℕ
length_for p t r = unwrap_or (length_at p t r) 0

-- a holder has used all of its declared length
abbrev pub late_in : Contents → ℕ → ℕ → State → Bool
late_in p t used Idle = false
late_in p t used Going = false
late_in p t used (HeldBack w) = false
late_in p t used (Waiting w) = false
late_in p t used (Holding w) = nat_le (length_for p t w.resource) used

abbrev pub late : Setup → Snapshot → ℕ → Bool
late a s t = late_in a.plan t (s.tasks t).used (s.tasks t).state

-- the lowest of the numbers below n that passes a test
abbrev pub lowest_below : (ℕ → Bool) → ℕ → Option ℕ
lowest_below test zero = None
lowest_below test (suc n) =
    cond (is_some (lowest_below test n)) (lowest_below test n) (cond (test n) (Some n) None)

abbrev pub late_task : Setup → Snapshot → Option ℕ
late_task a s = lowest_below (late a s) a.tasks

-- the job runs and holds nothing
abbrev pub work_questions : Setup → Snapshot → ℕ → List Question
work_questions a s t =
    ask 7 (runs a.plan a.tasks (jobs_in s) t)
    ∷ ask 8 (not (is_holding (s.tasks t).state))
    ∷ []

-- the controller's own questions
abbrev pub questions : Setup → Snapshot → Call → List Question
questions a s (Release t) =
    ask 1 (nat_lt t a.tasks)
    ∷ ask 5 (is_idle (s.tasks t).state)
    ∷ ask 6 (nat_lt s.releases 100000000)
    ∷ []
questions a s (Ask t r m) =
    ask 1 (nat_lt t a.tasks)
    ∷ ask 2 (nat_lt r a.resources)
    ∷ ask 3 (knows a.told r m)
    ∷ ask 4 (is_some (length_at a.plan t r))
    ∷ work_questions a s t
questions a s (Give t) =
    ask 1 (nat_lt t a.tasks)
    ∷ ask 9 (is_holding (s.tasks t).state)
    ∷ []
questions a s (Finish t) =
    ask 1 (nat_lt t a.tasks)
    ∷ work_questions a s t
questions a s Tick =
    ask 10 (not (is_some (late_task a s)))
    ∷ ask 11 (nat_lt s.clock 100000000)
    ∷ []

-- what a task has asked for and not given back
abbrev pub wanted_by : Snapshot → ℕ → Wanted
wanted_by s t = wanted_of (s.tasks t).state

-- the questions of the bank where a request is issued, and where it is that of the task that comes
-- among the first
abbrev pub issue_questions : Setup → Snapshot → ℕ → Wanted → List Question
issue_questions a s t w = enter_questions a.told w.resource t w.mode (s.lists w.resource)

abbrev pub next_questions : Setup → Snapshot → Option ℕ → List Question
next_questions a s None = []
next_questions a s (Some u) = issue_questions a s u (wanted_by s u)

-- the questions that the bank puts, where the controller's own are answered yes
abbrev pub bank_questions : Setup → Snapshot → Call → List Question
bank_questions a s (Release t) = []
bank_questions a s (Ask t r m) =
    cond (is_among_first a.plan a.tasks (jobs_in s) t)
    (issue_questions a s t (record { resource = r; mode = m })) []
bank_questions a s (Give t) =
    leave_questions a.told (wanted_by s t).resource t (s.lists (wanted_by s t).resource)
bank_questions a s (Finish t) = next_questions a s (next_issued a s t)
bank_questions a s Tick = []

-- the task that a refusal of the call names, if it names one
abbrev pub named_by : Setup → Snapshot → Call → Option ℕ
named_by a s (Release t) = None
named_by a s (Ask t r m) = None
named_by a s (Give t) = None
named_by a s (Finish t) = None
named_by a s Tick = late_task a s

abbrev pub limit_questions : Setup → ℕ → Mode → List Question
limit_questions a r m =
    ask 2 (nat_lt r a.resources)
    ∷ ask 3 (knows a.told r m)
    ∷ []

-- the most holders in mode W of a plan's resource, and whether mode R is known there
unfoldable pub slots_in : Contents → ℕ → ℕ
slots_in c r = holders_of (slice_index_or c.resources r ReaderWriter)

unfoldable pub reads_in : Contents → ℕ → Bool
reads_in c r = knows_reads (slice_index_or c.resources r ReaderWriter)

abbrev pub fits_at : Contents → Told → Lists → ℕ → Bool
fits_at c t lists r =
    t.slots r == slots_in c r
    && (beq (t.reads r) (reads_in c r)
    && length (lists r) == 0)

abbrev pub all_below : (ℕ → Bool) → ℕ → Bool
all_below test zero = true
all_below test (suc n) = all_below test n && test n

-- whether a bank fits a plan, resource by resource
abbrev pub fits : Contents → Told → Lists → Bool
fits c t lists =
    t.resources == resource_count c
    && (t.seats == processors c
    && all_below (fits_at c t lists) (resource_count c))

abbrev pub fit_questions : Contents → Told → Lists → List Question
fit_questions c t lists = ask 24 (fits c t lists) ∷ []
