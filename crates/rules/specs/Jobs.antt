-- Jobs in their clusters: which are ready, which run, which are among the first, which are blocked,
-- and whose request is issued next.
use Rattle.std.specs.Prelude.{ℕ, zero, suc, ◌+◌, Bool, cond, not, ◌&&◌, Some}
use Rattle.std.specs.Prelude.{None, Option, ◌==◌, nat_lt, slice_index}
use Rattle.bank.specs.Meaning.{Lists}
use Rattle.bank.specs.Questions.{Told}
use Rattle.plan.specs.Contents.{Contents}
use Rattle.rules.specs.States.{is_idle, is_ready, is_held_back, idle_task}
use Rattle.rules.specs.declared.task.State.{State}
use Rattle.rules.specs.declared.task.Task.{Task}

-- what a controller is made from, and never changes: a plan, what its bank tells, and how many
-- tasks and resources it has. Over a bank that fits these are the plan's, and else it has none.
pub record Setup : Type 0 where
  pub plan : Contents
  pub told : Told
  pub tasks : ℕ
  pub resources : ℕ

-- the cluster of a task, and the processors of that cluster
abbrev pub cluster_of : Contents → ℕ → ℕ
cluster_of p t = slice_index p.tasks t

abbrev pub processors_for : Contents → ℕ → ℕ
processors_for p t = slice_index p.clusters (cluster_of p t)

-- how a controller stands: the record of each task, the bank's lists, the clock and the accepted
-- releases
pub record Snapshot : Type 0 where
  pub tasks : ℕ → Task
  pub lists : Lists
  pub clock : ℕ
  pub releases : ℕ

-- the state of each task, and the release number of its unfinished job
pub record Jobs : Type 0 where
  pub state : ℕ → State
  pub number : ℕ → ℕ

abbrev pub jobs_of : (ℕ → Task) → Jobs
jobs_of tasks = record { state = λ t. (tasks t).state; number = λ t. (tasks t).release }

abbrev pub jobs_in : Snapshot → Jobs
jobs_in s = jobs_of s.tasks

-- how many of the numbers below n pass a test
abbrev pub count_below : (ℕ → Bool) → ℕ → ℕ
count_below test zero = 0
count_below test (suc n) = cond (test n) 1 0 + count_below test n

-- of the numbers below n that pass a test, the one with the least value; of equal ones the lowest
abbrev pub lesser : (ℕ → ℕ) → Option ℕ → ℕ → ℕ
lesser value None y = y
lesser value (Some x) y = cond (nat_lt (value y) (value x)) y x

abbrev pub least_below : (ℕ → Bool) → (ℕ → ℕ) → ℕ → Option ℕ
least_below test value zero = None
least_below test value (suc n) =
    cond (test n) (Some (lesser value (least_below test value n) n)) (least_below test value n)

-- has the task an unfinished job? Is it ready?
abbrev pub unfinished : Jobs → ℕ → Bool
unfinished j t = not (is_idle (j.state t))

abbrev pub ready : Jobs → ℕ → Bool
ready j t = is_ready (j.state t)

-- the jobs of the first n tasks of a plan
module _ (p : Contents) (n : ℕ) (j : Jobs) where
  -- how many jobs of t's cluster that pass a test have smaller release numbers
  abbrev pub before : (ℕ → Bool) → ℕ → ℕ
  before test t =
      count_below
      (λ u. test u && (cluster_of p u == cluster_of p t && nat_lt (j.number u) (j.number t)))
      n

  -- it passes a test, and fewer jobs that do come before it than its cluster has processors
  abbrev pub ranks : (ℕ → Bool) → ℕ → Bool
  ranks test t = test t && nat_lt (before test t) (processors_for p t)

  -- it is among the first c of the ready jobs, where the cluster has c processors
  abbrev pub runs : ℕ → Bool
  runs t = ranks (ready j) t

  -- it is among the first c of the unfinished jobs
  abbrev pub is_among_first : ℕ → Bool
  is_among_first t = ranks (unfinished j) t

  abbrev pub blocked : ℕ → Bool
  blocked t = is_among_first t && not (runs t)

  -- the task of the earliest held-back job of a cluster; and the one whose request is to be issued,
  -- which is that task if its job is among the first
  abbrev pub earliest_of : ℕ → Option ℕ
  earliest_of g =
      least_below (λ u. is_held_back (j.state u) && cluster_of p u == g) (λ u. j.number u) n

  abbrev pub if_first : Option ℕ → Option ℕ
  if_first None = None
  if_first (Some u) = cond (is_among_first u) (Some u) None

  abbrev pub next_of : ℕ → Option ℕ
  next_of g = if_first (earliest_of g)

-- the records where the job of a task is ended
abbrev pub ended : (ℕ → Task) → ℕ → ℕ → Task
ended tasks t q = cond (t == q) idle_task (tasks q)

-- the task whose request is issued when the job of t ends
abbrev pub next_after : Contents → ℕ → (ℕ → Task) → ℕ → Option ℕ
next_after p n tasks t = next_of p n (jobs_of (ended tasks t)) (cluster_of p t)

abbrev pub next_issued : Setup → Snapshot → ℕ → Option ℕ
next_issued a s t = next_after a.plan a.tasks s.tasks t
