-- A history: the calls of a run with their answers and the bank's lists after each, and what can be
-- read off it. Nothing here knows the controller's records.
use Rattle.std.specs.Prelude.{ℕ, Bool, true, false, cond, not, ◌&&◌, ◌||◌}
use Rattle.std.specs.Prelude.{is_some, Some, None, Option, ◌==◌}
use Rattle.std.specs.Option.{unwrap_or, option_or}
use Rattle.bank.specs.Lists.{request_of}
use Rattle.bank.specs.Meaning.{Lists}
use Rattle.bank.specs.declared.request.Request.{Request}
use Rattle.rules.specs.Jobs.{Setup, Snapshot, Jobs, blocked}
use Rattle.rules.specs.Moves.{is_held, is_queued, is_release, is_tick, one_more_if}
use Rattle.rules.specs.declared.answer.Asked.{Asked}
use Rattle.rules.specs.declared.answer.Asked.TheVariants.{Hold, Wait, Back}
use Rattle.rules.specs.declared.answer.Issued.{Issued}
use Rattle.rules.specs.declared.event.Acceptance.TheVariants.{Release, Ask, Give, Finish}
use Rattle.rules.specs.declared.event.Event.{Event}
use Rattle.rules.specs.declared.event.Event.TheVariants.{Accepted}
use Rattle.rules.specs.declared.task.State.{State}
use Rattle.rules.specs.declared.task.State.TheVariants.{Idle, Going, HeldBack, Waiting, Holding}
use Rattle.rules.specs.declared.task.Wanted.{Wanted}

-- the bank's lists when the controller was made, and then each call with its answer and the lists
-- after it
pub data History : Type 0 where
  made : Lists → History
  called : History → Event → Lists → History

-- What a call does for task t.

-- a release that is taken begins the job of its task, and a finish that is taken ends it
abbrev pub begins : ℕ → Event → Bool
begins t (Accepted (Release u n)) = u == t
begins t _ = false

abbrev pub ends : ℕ → Event → Bool
ends t (Accepted (Finish u f)) = u == t
ends t _ = false

-- an ask that is taken makes a request of its task
abbrev pub asks : ℕ → Event → Option Wanted
asks t (Accepted (Ask u r m x)) = cond (u == t) (Some (record { resource = r; mode = m })) None
asks t _ = None

-- the request is issued where ask or finish answers hold or wait for it
abbrev pub is_issued : Asked → Bool
is_issued Hold = true
is_issued Wait = true
is_issued Back = false

abbrev pub is_for : ℕ → Option Issued → Bool
is_for t None = false
is_for t (Some i) = i.task == t

abbrev pub issues : ℕ → Event → Bool
issues t (Accepted (Ask u r m x)) = u == t && is_issued x
issues t (Accepted (Finish u f)) = is_for t f.issued
issues t _ = false

-- an accepted give gives it back
abbrev pub gives : ℕ → Event → Bool
gives t (Accepted (Give u n)) = u == t
gives t _ = false

-- What a history says.

-- the accepted releases, the accepted ticks, and the bank's lists
abbrev pub releases : History → ℕ
releases (made ls) = 0
releases (called h e ls) = one_more_if (is_release e) (releases h)

abbrev pub clock : History → ℕ
clock (made ls) = 0
clock (called h e ls) = one_more_if (is_tick e) (clock h)

abbrev pub lists : History → Lists
lists (made ls) = ls
lists (called h e ls) = ls

-- the unfinished job of t, by its release number: the releases accepted before it
abbrev pub job : ℕ → History → Option ℕ
job t (made ls) = None
job t (called h e ls) = cond (begins t e) (Some (releases h)) (cond (ends t e) None (job t h))

-- the request of t that is not given back, issued or not
abbrev pub wanted : ℕ → History → Option Wanted
wanted t (made ls) = None
wanted t (called h e ls) = cond (gives t e) None (option_or (asks t e) (wanted t h))

-- it is issued
abbrev pub issued : ℕ → History → Bool
issued t (made ls) = false
issued t (called h e ls) = cond (gives t e) false (issues t e || issued t h)

-- the bank's entry of it
abbrev pub entry_of : ℕ → Option Wanted → Lists → Option Request
entry_of t None ls = None
entry_of t (Some w) ls = request_of t (ls w.resource)

-- an issued request holds where the bank lists it as a holder, and else it waits
abbrev pub holding : ℕ → History → Bool
holding t h = issued t h && is_held (entry_of t (wanted t h) (lists h))

abbrev pub waiting : ℕ → History → Bool
waiting t h = issued t h && is_queued (entry_of t (wanted t h) (lists h))

-- a request that is not issued yet is held back
abbrev pub held_back : ℕ → History → Bool
held_back t h = is_some (wanted t h) && not (issued t h)

-- t has a request that does not hold yet
abbrev pub is_suspended_after : ℕ → History → Bool
is_suspended_after t h = waiting t h || held_back t h

-- A task with no job is idle, and one whose job has no request is going; else its request decides.
abbrev pub state_of : Option ℕ → Option Wanted → Bool → Bool → State
state_of None w issued holds = Idle
state_of (Some n) None issued holds = Going
state_of (Some n) (Some w) false holds = HeldBack w
state_of (Some n) (Some w) true true = Holding w
state_of (Some n) (Some w) true false = Waiting w

abbrev pub state : ℕ → History → State
state t h = state_of (job t h) (wanted t h) (issued t h) (holding t h)

-- the jobs after a history
abbrev pub jobs_after : History → Jobs
jobs_after h = record { state = λ t. state t h; number = λ t. unwrap_or (job t h) 0 }

-- The ticks, of those accepted, that found the request of t holding, found it waiting, found a
-- request of its unfinished job waiting, and found that job blocked.

abbrev pub used : ℕ → History → ℕ
used t (made ls) = 0
used t (called h e ls) =
    cond (issues t e || gives t e) 0
    (one_more_if (is_tick e && holding t h) (used t h))

abbrev pub waited : ℕ → History → ℕ
waited t (made ls) = 0
waited t (called h e ls) =
    cond (issues t e || gives t e) 0
    (one_more_if (is_tick e && waiting t h) (waited t h))

abbrev pub job_waited : ℕ → History → ℕ
job_waited t (made ls) = 0
job_waited t (called h e ls) =
    cond (begins t e || ends t e) 0
    (one_more_if (is_tick e && waiting t h) (job_waited t h))

abbrev pub blocked_ticks_of : Setup → ℕ → History → ℕ
blocked_ticks_of a t (made ls) = 0
blocked_ticks_of a t (called h e ls) =
    cond (begins t e || ends t e) 0
    (one_more_if (is_tick e && blocked a.plan a.tasks (jobs_after h) t) (blocked_ticks_of a t h))

-- how everything stands after a history
abbrev pub after : Setup → History → Snapshot
after a h = record {
  tasks = λ t.
      record {
        state = state t h;
        release = unwrap_or (job t h) 0;
        used = used t h;
        blocked = blocked_ticks_of a t h;
      };
  lists = lists h;
  clock = clock h;
  releases = releases h;
}
