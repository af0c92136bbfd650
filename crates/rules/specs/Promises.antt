-- What holds after every call of every run, over any bank, by the words of a history alone.
use Rattle.std.specs.Prelude.{◌≡◌, ℕ, zero, suc, ◌+◌, ◌<◌, ◌≤◌, Bool, true, false, cond, not}
use Rattle.std.specs.Prelude.{◌&&◌, [], length, Some, None, Option, ◌==◌, nat_eq, ⊤}
use Rattle.std.specs.List.{AllByRecursion}
use Rattle.bank.specs.Lists.{count, holds_write, holds_read}
use Rattle.bank.specs.Meaning.{Lists}
use Rattle.bank.specs.declared.request.Mode.{Mode}
use Rattle.plan.specs.Contents.{length_at, processors}
use Rattle.rules.specs.Answers.{Answered, call_of}
use Rattle.rules.specs.Histories.{History, made, called, ends, lists, job, wanted, issued}
use Rattle.rules.specs.Histories.{holding, waiting, held_back, state, jobs_after, used}
use Rattle.rules.specs.Histories.{waited, job_waited, blocked_ticks_of, after}
use Rattle.rules.specs.Holders.{NamesLate}
use Rattle.rules.specs.Jobs.{Setup, Snapshot, Jobs, runs, is_among_first}
use Rattle.rules.specs.Limits.{wait_limit}
use Rattle.rules.specs.Refusals.{from_bank, task_named}
use Rattle.rules.specs.States.{is_held_back}
use Rattle.rules.specs.declared.answer.Issued.{Issued}
use Rattle.rules.specs.declared.call.Call.{Call}
use Rattle.rules.specs.declared.event.Acceptance.TheVariants.{Release, Ask, Give, Finish, Tick}
use Rattle.rules.specs.declared.event.Event.{Event}
use Rattle.rules.specs.declared.event.Event.TheVariants.{Accepted, Refused}
use Rattle.rules.specs.declared.task.Wanted.{Wanted}

-- a request is at resource r; it is in mode m
abbrev pub is_at : ℕ → Option Wanted → Bool
is_at r None = false
is_at r (Some w) = w.resource == r

abbrev pub InMode : Mode → Option Wanted → Type 0
InMode m None = ⊥
InMode m (Some w) = w.mode ≡ m

-- n ticks are at most a length that is declared
abbrev pub AtMost : ℕ → Option ℕ → Type 0
AtMost n None = ⊥
AtMost n (Some l) = n ≤ l

-- n ticks are within the length that t declares where it has a request
abbrev pub WithinLength : Setup → ℕ → ℕ → Option Wanted → Type 0
WithinLength a t n None = ⊥
WithinLength a t n (Some w) = AtMost n (length_at a.plan t w.resource)

-- n ticks are within the wait limit of a request
abbrev pub WithinLimit : Setup → ℕ → Option Wanted → Type 0
WithinLimit a n None = ⊥
WithinLimit a n (Some w) = n ≤ wait_limit a.told a.plan w.resource w.mode

-- how many requests the first n resources have together
abbrev pub requests_to : Lists → ℕ → ℕ
requests_to ls zero = 0
requests_to ls (suc n) = requests_to ls n + length (ls n)

-- What holds after a history.
pub record Kept (a : Setup) (h : History) : Type 0 where
  -- Every request is accounted for: one that is issued and not given back holds or waits, and not
  -- both; of each task the bank lists it, once, at its resource and in its mode, and nothing else.
  pub holds_or_waits : (t : ℕ) → issued t h ≡ true → holding t h ≡ not (waiting t h)
  pub listed_once : (t r : ℕ) → r < a.resources
      → count (λ x. nat_eq x.party t) (lists h r) ≡ cond (issued t h && is_at r (wanted t h)) 1 0
  pub modes : (r : ℕ) → r < a.resources
      → AllByRecursion (λ x. InMode x.mode (wanted x.party h)) (lists h r)
  -- Holders run and keep their lengths, and are within what the resource admits.
  pub holders_run : (t : ℕ) → holding t h ≡ true → runs a.plan a.tasks (jobs_after h) t ≡ true
  pub within_length : (t : ℕ) → holding t h ≡ true → WithinLength a t (used t h) (wanted t h)
  pub few_writers : (r : ℕ) → r < a.resources → count holds_write (lists h r) ≤ a.told.slots r
  pub readers_apart : (r : ℕ) → r < a.resources
      → 1 ≤ count holds_write (lists h r) → count holds_read (lists h r) ≡ 0
  -- Blocked is waited: a job's blocked ticks are the ticks that its issued requests waited.
  pub blocked_is_waited : (t : ℕ) → blocked_ticks_of a t h ≡ job_waited t h
  -- Waits are bounded.
  pub waits_bounded : (t : ℕ) → issued t h ≡ true → WithinLimit a (waited t h) (wanted t h)
  -- A request is issued while its job is among the first, and held back while it is not.
  pub issued_first : (t : ℕ) → issued t h ≡ true
      → is_among_first a.plan a.tasks (jobs_after h) t ≡ true
  pub held_back : (t : ℕ) → is_held_back (state t h) ≡ true
      → is_among_first a.plan a.tasks (jobs_after h) t ≡ false
  -- The bank has no more requests than there are processors.
  pub few_requests : requests_to (lists h) a.resources ≤ processors a.plan
  -- No two unfinished jobs have the same release number.
  pub numbers_apart : (t u n : ℕ) → job t h ≡ Some n → job u h ≡ Some n → t ≡ u

-- In a run the bank never refuses the controller.
abbrev pub BankTakes : Event → Type 0
BankTakes (Accepted x) = ⊤
BankTakes (Refused call why) = from_bank why ≡ false

-- whom the answer to a call names: that to a tick the lowest holder that has used all of its
-- length, and nobody where there is none; that to any other call nobody
abbrev pub Names : Setup → Snapshot → Call → Option ℕ → Type 0
Names a s (Call.Release t) named = named ≡ None
Names a s (Call.Ask t r m) named = named ≡ None
Names a s (Call.Give t) named = named ≡ None
Names a s (Call.Finish t) named = named ≡ None
Names a s Call.Tick named = NamesLate a.plan s.tasks named

abbrev pub LateNamed : Setup → Event → History → Type 0
LateNamed a (Accepted x) h = Names a (after a h) (call_of x) None
LateNamed a (Refused call why) h = Names a (after a h) call (task_named why)

-- of the requests held back after h, the one is issued whose job is then among the first, and none
-- where there is none
abbrev pub IssuesFirst : Setup → History → Jobs → Option Issued → Type 0
IssuesFirst a h jobs None =
    (u : ℕ) → held_back u h ≡ true → is_among_first a.plan a.tasks jobs u ≡ false
IssuesFirst a h jobs (Some i) =
    (held_back i.task h ≡ true)
    × (is_among_first a.plan a.tasks jobs i.task ≡ true)
    × ((u : ℕ)
    → held_back u h ≡ true → is_among_first a.plan a.tasks jobs u ≡ true → u ≡ i.task)

abbrev pub NextIssued : Setup → Event → History → Jobs → Type 0
NextIssued a (Accepted (Release t n)) h jobs = ⊤
NextIssued a (Accepted (Ask t r m x)) h jobs = ⊤
NextIssued a (Accepted (Give t n)) h jobs = ⊤
NextIssued a (Accepted (Finish t f)) h jobs = IssuesFirst a h jobs f.issued
NextIssued a (Accepted (Tick n)) h jobs = ⊤
NextIssued a (Refused call why) h jobs = ⊤

-- What each call keeps, after a history and with the bank's lists after it.
pub record LawfulCall (a : Setup) (h : History) (e : Event) (new : Lists) : Type 0 where
  -- Answered by the rules, as the history before the call says.
  pub answered : Answered a (after a h) e new
  pub bank_takes : BankTakes e
  pub late_named : LateNamed a e h
  pub next_issued : NextIssued a e h (jobs_after (called h e new))
  -- The first stay first: a job among the first stays among them until it finishes.
  pub stays_first : (t : ℕ) → is_among_first a.plan a.tasks (jobs_after h) t ≡ true
      → ends t e ≡ false
      → is_among_first a.plan a.tasks (jobs_after (called h e new)) t ≡ true
  pub kept : Kept a (called h e new)

-- A controller is made over a bank where nobody is active.
pub record LawfulStart (a : Setup) (new : Lists) : Type 0 where
  pub nobody : (r : ℕ) → r < a.resources → new r ≡ []
  pub kept : Kept a (made new)

-- The law: the start of the history and every call keep it.
abbrev pub Lawful : Setup → History → Type 0
Lawful a (made new) = LawfulStart a new
Lawful a (called h e new) = LawfulCall a h e new × Lawful a h
