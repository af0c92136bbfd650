-- What a bank means, over the lists of its active requests.
use Rattle.std.specs.Prelude.{◌≡◌, ℕ, ◌+◌, ◌<◌, ◌≤◌, Bool, true, false, ◌⊎◌, List, [], ◌∷◌, ◌++◌, Some, None, Ok, Err, Result, OnErr, ◌≢◌}
use Rattle.std.specs.List.{AllZip, AllByRecursion}
use Rattle.text.specs.Questions.{first_no}
use Rattle.bank.specs.Lists.{count, holds, turns, departures, holders, holds_write, holds_read, without}
use Rattle.bank.specs.Questions.{number, Told, knows, enter_questions, leave_questions}
use Rattle.bank.specs.declared.size.TheConstants.{PARTIES, RESOURCES, MOST_TURNS}
use Rattle.bank.specs.declared.refusal.Refusal.{Refusal}
use Rattle.bank.specs.declared.request.Mode.{Mode}
use Rattle.bank.specs.declared.request.Request.{Request}

-- the lists of all resources
abbrev pub Lists : Type 0
Lists = ℕ → List Request

-- what is told is in its limits
pub record Small (t : Told) : Type 0 where
  pub resources : t.resources ≤ RESOURCES
  pub some : 1 ≤ t.seats
  pub seats : t.seats ≤ PARTIES
  pub limits : (r : ℕ) (m : Mode) → r < t.resources → knows t r m ≡ true → t.limit r m ≤ MOST_TURNS

-- one active request where h hold. A holder waits for nothing more; whoever waits has a turn and a
-- departure before it at least, no more turns than its mode's limit, and no more departures than
-- there are holders
pub record Lawful (t : Told) (r h : ℕ) (a : Request) : Type 0 where
  pub party : a.party < PARTIES
  pub known : knows t r a.mode ≡ true
  pub holding : holds a ≡ true → (turns a ≡ 0) × (departures a ≡ 0)
  pub waiting : holds a ≡ false
      → (1 ≤ turns a) × (turns a ≤ t.limit r a.mode) × (1 ≤ departures a) × (departures a ≤ h)

-- a resource at any time: each request is lawful, no more than k hold to write, and nobody holds to
-- read beside those
pub record Sound (t : Told) (r : ℕ) (xs : List Request) : Type 0 where
  pub requests : AllByRecursion (Lawful t r (holders xs)) xs
  pub writers : count holds_write xs ≤ t.slots r
  pub apart : 1 ≤ count holds_write xs → count holds_read xs ≡ 0

-- a request of this party and mode is at the end, holding or waiting, and all others are as they
-- were
pub record Added (p : ℕ) (m : Mode) (h : Bool) (old new : List Request) : Type 0 where
  pub request : Request
  pub list : new ≡ old ++ (request ∷ [])
  pub party : request.party ≡ p
  pub mode : request.mode ≡ m
  pub holds : holds request ≡ h

-- a request before and after somebody else left. Who held still holds. Who waited came nearer: it
-- now holds, or one departure of the turn it waits for is done, or it waits for fewer turns
pub record Stays (a b : Request) : Type 0 where
  pub party : b.party ≡ a.party
  pub mode : b.mode ≡ a.mode
  pub holding : holds a ≡ true → holds b ≡ true
  pub waiting : holds a ≡ false
      → (holds b ≡ true)
      ⊎ (((turns b ≡ turns a) × (departures b + 1 ≡ departures a)) ⊎ (turns b < turns a))

-- no other resource changes
abbrev pub Others : Told → ℕ → Lists → Lists → Type 0
Others t r old new = (q : ℕ) → q < t.resources → (q ≢ r) → new q ≡ old q

-- a request that is taken: every question is answered yes, it joins the list of its resource, and
-- no other resource changes
pub record Joins (t : Told) (r p : ℕ) (m : Mode) (h : Bool) (old new : Lists) : Type 0 where
  pub asked : first_no (enter_questions t r p m (old r)) ≡ None
  pub added : Added p m h (old r) (new r)
  pub others : Others t r old new

abbrev pub Enters : Told → ℕ → ℕ → Mode → Result Bool Refusal → Lists → Lists → Type 0
Enters t r p m (Ok h) old new = Joins t r p m h old new
Enters t r p m (Err why) old new = first_no (enter_questions t r p m (old r)) ≡ Some (number why)

-- a departure: every question is answered yes, every other request of the resource stays or comes
-- nearer to holding, and no other resource changes
pub record Departs (t : Told) (r p : ℕ) (old new : Lists) : Type 0 where
  pub asked : first_no (leave_questions t r p (old r)) ≡ None
  pub stay : AllZip Stays (without p (old r)) (new r)
  pub others : Others t r old new

abbrev pub Leaves : Told → ℕ → ℕ → Result (Unit {0}) Refusal → Lists → Lists → Type 0
Leaves t r p (Ok done) old new = Departs t r p old new
Leaves t r p (Err why) old new = first_no (leave_questions t r p (old r)) ≡ Some (number why)

-- enter and leave of a bank, by what it tells and lists: it goes on telling the same, the lists
-- change by the answer, and a refusal leaves it the same value
module _ {X : Type 0} (told : X → Told) (active : X → Lists) (r p : ℕ) where
  pub record EntersBank (m : Mode) (result : Result Bool Refusal) (old new : X) : Type 0 where
    pub tells : told new ≡ told old
    pub lists : Enters (told old) r p m result (active old) (active new)
    pub keeps : OnErr result (new ≡ old)

  pub record LeavesBank (result : Result (Unit {0}) Refusal) (old new : X) : Type 0 where
    pub tells : told new ≡ told old
    pub lists : Leaves (told old) r p result (active old) (active new)
    pub keeps : OnErr result (new ≡ old)

-- a change of a bank that is known where the call is taken; a refusal changes nothing
abbrev pub ChangesBy : {A X : Type 0} → (A → X → X → Type 0) → Result A Refusal → X → X → Type 0
ChangesBy change (Ok a) old new = change a old new
ChangesBy change (Err why) old new = new ≡ old
