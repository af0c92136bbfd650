-- One run read by the words of a history: a cluster of two processors, one slot, three tasks.
use Rattle.std.specs.Prelude.{◌≡◌, ℕ, Bool, true, false, List, [], ◌∷◌, take, codes, ⊤}
use Rattle.std.specs.Prelude.{Some, None, Ok, Err, Option}
use Rattle.bank.specs.Questions.{Told}
use Rattle.bank.specs.declared.request.Mode.TheVariants.{Write}
use Rattle.bank.specs.declared.request.Request.{Request}
use Rattle.bank.specs.Limits.{ticks_of_turns}
use Rattle.plan.specs.Contents.{Contents, longest_at}
use Rattle.plan.specs.declared.resource.Resource.TheVariants.{Slots}
use Rattle.rules.specs.Answers.{released, asked, gave, finished, ticked, Answered}
use Rattle.rules.specs.Histories.{History, made, called, lists, job, wanted, issued, holding}
use Rattle.rules.specs.Histories.{waiting, state, used, waited, job_waited, blocked_ticks_of}
use Rattle.rules.specs.Histories.{jobs_after, after}
use Rattle.rules.specs.Jobs.{Setup, runs, is_among_first, blocked, next_issued}
use Rattle.rules.specs.Questions.{late_task, questions}
use Rattle.rules.specs.declared.answer.Asked.TheVariants.{Hold, Wait, Back}
use Rattle.rules.specs.declared.call.Call.{Call}
use Rattle.rules.specs.declared.event.Event.{Event}
use Rattle.rules.specs.declared.refusal.Refusal.TheVariants.{NotRunning, StillHolding, Late}
use Rattle.rules.specs.declared.task.State.{State}
use Rattle.rules.specs.declared.task.State.TheVariants.{Idle, Going, HeldBack, Waiting, Holding}
use Rattle.rules.specs.declared.task.Wanted.{Wanted}
use Rattle.slots.specs.Lines.{turn_limit}
use Rattle.text.specs.Questions.{first_no}
use Rattle.examples.specs.Steps.{Step, enters, leaves, holder, waiter}

abbrev pub text : List ℕ
text = codes "C,2\nS,1\nT,0\nT,0\nT,0\nL,0,0,2\nL,1,0,1\nL,2,0,1\n"

abbrev pub plan : Contents
plan =
    record {
      clusters = 2 ∷ [];
      resources = Slots 1 ∷ [];
      tasks = 0 ∷ 0 ∷ 0 ∷ [];
      lengths =
          record { task = 0; resource = 0; ticks = 2 }
          ∷ record { task = 1; resource = 0; ticks = 1 }
          ∷ record { task = 2; resource = 0; ticks = 1 }
          ∷ [];
    }

abbrev pub told : Told
told =
    record {
      resources = 1;
      seats = 2;
      slots = λ _. 1;
      reads = λ _. false;
      limit = λ _ _. turn_limit 2 1;
    }

abbrev pub setup : Setup
setup = record { plan = plan; told = told; tasks = 3; resources = 1 }

-- what the words of a history say of a task
pub record Words : Type 0 where
  pub state : State
  pub job : Option ℕ
  pub wanted : Option Wanted
  pub issued : Bool
  pub holding : Bool
  pub waiting : Bool
  -- ticks that its request was used, and that it waited
  pub used : ℕ
  pub waited : ℕ
  -- ticks that the job's requests waited, and that it was blocked
  pub job_waited : ℕ
  pub blocked : ℕ

abbrev pub words : ℕ → History → Words
words t h =
    record {
      state = state t h;
      job = job t h;
      wanted = wanted t h;
      issued = issued t h;
      holding = holding t h;
      waiting = waiting t h;
      used = used t h;
      waited = waited t h;
      job_waited = job_waited t h;
      blocked = blocked_ticks_of setup t h;
    }

abbrev pub valve : Wanted
valve = record { resource = 0; mode = Write }

abbrev pub idle : Words
idle =
    record {
      state = Idle;
      job = None;
      wanted = None;
      issued = false;
      holding = false;
      waiting = false;
      used = 0;
      waited = 0;
      job_waited = 0;
      blocked = 0;
    }

-- job n, whose requests have waited so many ticks, which is as long as it was blocked
abbrev pub going : ℕ → ℕ → Words
going n ticks = record idle { state = Going; job = Some n; job_waited = ticks; blocked = ticks }

-- it has asked for the valve, and the request is not issued
abbrev pub held_back : ℕ → ℕ → Words
held_back n ticks = record (going n ticks) { state = HeldBack valve; wanted = Some valve }

-- the request is issued, and waits, or holds and is used
abbrev pub waits : ℕ → ℕ → Words
waits n ticks =
    record (going n ticks) {
      state = Waiting valve;
      wanted = Some valve;
      issued = true;
      waiting = true;
      waited = ticks;
    }

abbrev pub holds : ℕ → ℕ → ℕ → Words
holds n ticks used =
    record (going n ticks) {
      state = Holding valve;
      wanted = Some valve;
      issued = true;
      holding = true;
      waited = ticks;
      used = used;
    }

-- a call with its answer, the bank's list after it, and what is then said of tasks 0, 1 and 2
pub record Row : Type 0 where
  pub event : Event
  pub list : List Request
  pub zero : Words
  pub one : Words
  pub two : Words

abbrev pub row : Event → List Request → Words → Words → Words → Row
row e xs zero one two = record { event = e; list = xs; zero = zero; one = one; two = two }

abbrev pub none : List Request
none = []

-- one holds alone, or before one that waits
abbrev pub alone : ℕ → List Request
alone p = holder p Write ∷ []

abbrev pub before : ℕ → ℕ → List Request
before p q = holder p Write ∷ waiter q Write 1 1 ∷ []

-- 0 ends, and the request of 2 is issued, and waits
abbrev pub ended_for_two : Event
ended_for_two =
    finished 0 (Ok (record { blocked = 0; issued = Some (record { task = 2; holds = false }) }))

-- a job ends after so many blocked ticks, and no request is issued
abbrev pub ended : ℕ → ℕ → Event
ended t ticks = finished t (Ok (record { blocked = ticks; issued = None }))

abbrev pub run : List Row
run =
    row (released 0 (Ok 0)) none (going 0 0) idle idle
    ∷ row (released 1 (Ok 1)) none (going 0 0) (going 1 0) idle
    ∷ row (released 2 (Ok 2)) none (going 0 0) (going 1 0) (going 2 0)
    ∷ row (asked 0 0 Write (Ok Hold)) (alone 0) (holds 0 0 0) (going 1 0) (going 2 0)
    ∷ row (asked 2 0 Write (Err NotRunning)) (alone 0) (holds 0 0 0) (going 1 0) (going 2 0)
    ∷ row (asked 1 0 Write (Ok Wait)) (before 0 1) (holds 0 0 0) (waits 1 0) (going 2 0)
    ∷ row (asked 2 0 Write (Ok Back)) (before 0 1) (holds 0 0 0) (waits 1 0) (held_back 2 0)
    ∷ row (ticked (Ok 1)) (before 0 1) (holds 0 0 1) (waits 1 1) (held_back 2 0)
    ∷ row (ticked (Ok 2)) (before 0 1) (holds 0 0 2) (waits 1 2) (held_back 2 0)
    ∷ row (ticked (Err (Late 0))) (before 0 1) (holds 0 0 2) (waits 1 2) (held_back 2 0)
    ∷ row (gave 0 (Ok 2)) (alone 1) (going 0 0) (holds 1 2 0) (held_back 2 0)
    ∷ row ended_for_two (before 1 2) idle (holds 1 2 0) (waits 2 0)
    ∷ row (ticked (Ok 3)) (before 1 2) idle (holds 1 2 1) (waits 2 1)
    ∷ row (gave 1 (Ok 1)) (alone 2) idle (going 1 2) (holds 2 1 0)
    ∷ row (ended 1 2) (alone 2) idle idle (holds 2 1 0)
    ∷ row (finished 2 (Err StillHolding)) (alone 2) idle idle (holds 2 1 0)
    ∷ row (gave 2 (Ok 0)) none idle idle (going 2 1)
    ∷ row (ended 2 1) none idle idle idle
    ∷ []

-- a history, and it after further calls
abbrev pub start : History
start = made (λ _. none)

abbrev pub then : History → Row → History
then h c = called h c.event (λ _. c.list)

abbrev pub history_from : History → List Row → History
history_from h [] = h
history_from h (c ∷ cs) = history_from (then h c) cs

-- the history of the first n calls
abbrev pub history : ℕ → History
history n = history_from start (take n run)

-- each call is answered by the rules, and after it the words say of each task what stands beside it
abbrev pub Said : History → List Row → Type 0
Said h [] = ⊤
Said h (c ∷ cs) =
    Answered setup (after setup h) c.event (λ _. c.list)
    × (words 0 (then h c) ≡ c.zero)
    × (words 1 (then h c) ≡ c.one)
    × (words 2 (then h c) ≡ c.two)
    × Said (then h c) cs

-- which jobs run, are among the first and are blocked after the seventh call
abbrev pub JobsHold : Type 0
JobsHold =
    (runs plan 3 (jobs_after (history 7)) 0 ≡ true)
    × (is_among_first plan 3 (jobs_after (history 7)) 1 ≡ true)
    × (blocked plan 3 (jobs_after (history 7)) 1 ≡ true)
    × (is_among_first plan 3 (jobs_after (history 7)) 2 ≡ false)
    × (blocked plan 3 (jobs_after (history 7)) 2 ≡ false)

-- who is late at the tick that is refused, whose request the end of 0 issues,
-- and that 1 may not ask while it holds
abbrev pub CallsHold : Type 0
CallsHold =
    (late_task setup (after setup (history 9)) ≡ Some 0)
    × (next_issued setup (after setup (history 11)) 0 ≡ Some 2)
    × (first_no (questions setup (after setup (history 13)) (Call.Ask 1 0 Write)) ≡ Some 8)

-- the requests of the run, as they are issued and given back
abbrev pub valve_steps : List Step
valve_steps =
    enters 0 Write true (alone 0)
    ∷ enters 1 Write false (before 0 1)
    ∷ leaves 0 (alone 1)
    ∷ enters 2 Write false (before 1 2)
    ∷ leaves 1 (alone 2)
    ∷ leaves 2 none
    ∷ []

-- nobody is active at the start, the run goes as told, and the wait limit is two ticks
abbrev pub RunHolds : Type 0
RunHolds =
    (lists start 0 ≡ [])
    × Said start run
    × JobsHold
    × CallsHold
    × (ticks_of_turns (told.limit 0 Write) (longest_at plan 0) ≡ 2)
