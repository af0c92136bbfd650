-- What each call is answered, and what it does to the bank's lists.
use Rattle.std.specs.Prelude.{◌≡◌, ℕ, ◌+◌, Bool, true, false, Some, None, Ok, Err, Option, Result}
use Rattle.bank.specs.Meaning.{Lists, Enters, Leaves}
use Rattle.bank.specs.declared.request.Mode.{Mode}
use Rattle.text.specs.Questions.{first_no}
use Rattle.rules.specs.Jobs.{Setup, Snapshot, jobs_in, is_among_first, next_issued}
use Rattle.rules.specs.Questions.{questions, bank_questions, named_by, wanted_by}
use Rattle.rules.specs.Refusals.{RefusedBy, task_named}
use Rattle.rules.specs.declared.answer.Asked.{Asked}
use Rattle.rules.specs.declared.answer.Asked.TheVariants.{Hold, Wait, Back}
use Rattle.rules.specs.declared.answer.Finished.{Finished}
use Rattle.rules.specs.declared.answer.Issued.{Issued}
use Rattle.rules.specs.declared.call.Call.{Call}
use Rattle.rules.specs.declared.event.Acceptance.{Acceptance}
use Rattle.rules.specs.declared.event.Acceptance.TheVariants.{Release, Ask, Give, Finish, Tick}
use Rattle.rules.specs.declared.event.Event.{Event}
use Rattle.rules.specs.declared.event.Event.TheVariants.{Accepted, Refused}
use Rattle.rules.specs.declared.refusal.Refusal.{Refusal}
use Rattle.rules.specs.declared.task.Wanted.{Wanted}

-- the call that was accepted
abbrev pub call_of : Acceptance → Call
call_of (Release t n) = Call.Release t
call_of (Ask t r m x) = Call.Ask t r m
call_of (Give t n) = Call.Give t
call_of (Finish t f) = Call.Finish t
call_of (Tick n) = Call.Tick

-- a call with its answer, accepted or refused
abbrev pub outcome : {A : Type 0} → Call → (A → Acceptance) → Result A Refusal → Event
outcome call accepted (Ok x) = Accepted (accepted x)
outcome call accepted (Err why) = Refused call why

abbrev pub released : ℕ → Result ℕ Refusal → Event
released t = outcome (Call.Release t) (Release t)

abbrev pub asked : ℕ → ℕ → Mode → Result Asked Refusal → Event
asked t r m = outcome (Call.Ask t r m) (Ask t r m)

abbrev pub gave : ℕ → Result ℕ Refusal → Event
gave t = outcome (Call.Give t) (Give t)

abbrev pub finished : ℕ → Result Finished Refusal → Event
finished t = outcome (Call.Finish t) (Finish t)

abbrev pub ticked : Result ℕ Refusal → Event
ticked = outcome Call.Tick Tick

module _ (a : Setup) (s : Snapshot) where
  -- a request enters the bank, holding or waiting
  abbrev pub Issues : ℕ → Wanted → Bool → Lists → Type 0
  Issues t w holds new = Enters a.told w.resource t w.mode (Ok holds) s.lists new

  -- among the first: the request is issued; else the job is held back
  abbrev pub Asks : ℕ → Wanted → Asked → Lists → Type 0
  Asks t w Hold new = (is_among_first a.plan a.tasks (jobs_in s) t ≡ true) × Issues t w true new
  Asks t w Wait new = (is_among_first a.plan a.tasks (jobs_in s) t ≡ true) × Issues t w false new
  Asks t w Back new = (is_among_first a.plan a.tasks (jobs_in s) t ≡ false) × (new ≡ s.lists)

  -- the request of the task that comes among the first is issued
  abbrev pub IssuesNext : Option ℕ → Option Issued → Lists → Type 0
  IssuesNext None None new = new ≡ s.lists
  IssuesNext (Some u) (Some i) new = (i.task ≡ u) × Issues u (wanted_by s u) i.holds new
  IssuesNext _ _ new = ⊥

  -- the answer to an accepted call, and the bank's lists after it: changed by one enter, by one
  -- leave, or not at all
  abbrev pub Gives : Acceptance → Lists → Type 0
  Gives (Release t n) new = (n ≡ s.releases) × (new ≡ s.lists)
  Gives (Ask t r m x) new = Asks t (record { resource = r; mode = m }) x new
  Gives (Give t n) new =
      (n ≡ (s.tasks t).used)
      × Leaves a.told (wanted_by s t).resource t (Ok tt) s.lists new
  Gives (Finish t f) new =
      (f.blocked ≡ (s.tasks t).blocked)
      × IssuesNext (next_issued a s t) f.issued new
  Gives (Tick n) new = (n ≡ s.clock + 1) × (new ≡ s.lists)

  -- a call is accepted where all its questions are answered yes
  pub record Accepts (x : Acceptance) (new : Lists) : Type 0 where
    pub passed : first_no (questions a s (call_of x)) ≡ None
    pub gives : Gives x new

  -- it is refused by the first question answered no, and the bank's lists are what they were
  pub record Refuses (call : Call) (why : Refusal) (new : Lists) : Type 0 where
    pub by : RefusedBy (questions a s call) (bank_questions a s call) why
    pub named : task_named why ≡ named_by a s call
    pub same : new ≡ s.lists

  -- answered by the rules
  abbrev pub Answered : Event → Lists → Type 0
  Answered (Accepted x) new = Accepts x new
  Answered (Refused call why) new = Refuses call why new
