-- What each call does to the controller's records.
use Rattle.std.specs.Prelude.{◌≡◌, ℕ, ◌+◌, Bool, true, false, cond, not}
use Rattle.std.specs.Prelude.{◌&&◌, List, Some, None, Option, ◌==◌}
use Rattle.bank.specs.Lists.{request_of, holds}
use Rattle.bank.specs.Meaning.{Lists}
use Rattle.bank.specs.declared.request.Request.{Request}
use Rattle.rules.specs.Answers.{Answered}
use Rattle.rules.specs.Jobs.{Setup, Snapshot}
use Rattle.rules.specs.Questions.{wanted_by}
use Rattle.rules.specs.States.{asked_state, issued_state, wanted_of}
use Rattle.rules.specs.States.{idle_task, released_task, in_state}
use Rattle.rules.specs.declared.answer.Issued.{Issued}
use Rattle.rules.specs.declared.event.Acceptance.TheVariants.{Release, Ask, Give, Finish, Tick}
use Rattle.rules.specs.declared.event.Event.{Event}
use Rattle.rules.specs.declared.event.Event.TheVariants.{Accepted, Refused}
use Rattle.rules.specs.declared.task.State.{State}
use Rattle.rules.specs.declared.task.State.TheVariants.{Idle, Going, HeldBack, Waiting, Holding}
use Rattle.rules.specs.declared.task.Task.{Task}

-- a bank's entry of a task, as far as there is one: it holds, or it waits
abbrev pub is_held : Option Request → Bool
is_held None = false
is_held (Some x) = holds x

abbrev pub is_queued : Option Request → Bool
is_queued None = false
is_queued (Some x) = not (holds x)

-- a task that waited at r, and that the bank now lists as holding, holds with 0 used
abbrev pub let_in_state : ℕ → Bool → State → Task → Task
let_in_state r held Idle k = k
let_in_state r held Going k = k
let_in_state r held (HeldBack w) k = k
let_in_state r held (Waiting w) k = cond (w.resource == r && held) (in_state (Holding w) k) k
let_in_state r held (Holding w) k = k

abbrev pub let_in : ℕ → List Request → ℕ → Task → Task
let_in r xs t k = let_in_state r (is_held (request_of t xs)) k.state k

-- the request that a finish issues
abbrev pub issued_task : Option Issued → ℕ → Task → Task
issued_task None t k = k
issued_task (Some i) t k =
    cond (i.task == t) (in_state (issued_state i.holds (wanted_of k.state)) k) k

-- one tick more of use for a holder; one tick more for a job that waits, which is a job that is
-- blocked
abbrev pub ticked_state : State → Task → Task
ticked_state Idle k = k
ticked_state Going k = k
ticked_state (HeldBack w) k = k
ticked_state (Waiting w) k = record k { blocked = k.blocked + 1 }
ticked_state (Holding w) k = record k { used = k.used + 1 }

abbrev pub ticked_task : Task → Task
ticked_task k = ticked_state k.state k

-- the record of task q after a call, where `new` are the bank's lists after it
abbrev pub moved_task : Snapshot → Event → Lists → ℕ → Task
moved_task s (Refused call why) new q = s.tasks q
moved_task s (Accepted (Release t n)) new q = cond (t == q) (released_task n) (s.tasks q)
moved_task s (Accepted (Ask t r m x)) new q =
    cond (t == q)
    (in_state (asked_state x (record { resource = r; mode = m })) (s.tasks q))
    (s.tasks q)
moved_task s (Accepted (Give t n)) new q =
    let_in (wanted_by s t).resource (new (wanted_by s t).resource) q
    (cond (t == q) (in_state Going (s.tasks q)) (s.tasks q))
moved_task s (Accepted (Finish t f)) new q =
    issued_task f.issued q (cond (t == q) idle_task (s.tasks q))
moved_task s (Accepted (Tick n)) new q = ticked_task (s.tasks q)

abbrev pub one_more_if : Bool → ℕ → ℕ
one_more_if b n = cond b (n + 1) n

-- an accepted release, and an accepted tick
abbrev pub is_release : Event → Bool
is_release (Accepted (Release t n)) = true
is_release _ = false

abbrev pub is_tick : Event → Bool
is_tick (Accepted (Tick n)) = true
is_tick _ = false

-- The exact effect of a call: its answer with the bank's lists, and every record after it.
pub record Does (a : Setup) (s : Snapshot) (e : Event) (t : Snapshot) : Type 0 where
  pub answered : Answered a s e t.lists
  pub tasks : (q : ℕ) → t.tasks q ≡ moved_task s e t.lists q
  pub clock : t.clock ≡ one_more_if (is_tick e) s.clock
  pub releases : t.releases ≡ one_more_if (is_release e) s.releases
