-- What a bank of slot resources tells of itself, its active requests, and how it changes.
use Rattle.std.specs.Prelude.{◌≡◌, ℕ, Bool, true, false, not, List, [], ◌∷◌, ◌++◌, length, take, drop, Option, nat_lt, slice_index, slice_index_or}
use Rattle.std.specs.List.{remove}
use Rattle.text.specs.Questions.{first_no}
use Rattle.bank.specs.Exact.{ChangesRow}
use Rattle.bank.specs.Lists.{any, holders, holds}
use Rattle.bank.specs.Meaning.{ChangesBy}
use Rattle.bank.specs.Questions.{Told, enter_questions, leave_questions}
use Rattle.bank.specs.declared.meaning.Bank.{Ghosts}
use Rattle.bank.specs.declared.request.Mode.{Mode}
use Rattle.bank.specs.declared.request.Request.{Request}
use Rattle.plan.specs.Contents.{Contents, processors}
use Rattle.slots.specs.Lines.{holding, line, requests, turn_limit}
use Rattle.slots.specs.Planned.{slots_of}
use Rattle.slots.specs.Rows.{row, bare, place}
use Rattle.slots.specs.declared.slots.Slots.{Slots}

-- what is told with so many seats, by how many resources there are and the k of each
abbrev pub told_with : ℕ → ℕ → (ℕ → ℕ) → Told
told_with seats resources k =
    record {
      resources = resources;
      seats = seats;
      slots = k;
      reads = λ _. false;
      limit = λ r _. turn_limit seats (k r);
    }

-- of a plan its slot resources are taken, with a seat for each processor
abbrev pub told_for : Contents → Told
told_for c =
    let ks = slots_of c.resources in
    told_with (processors c) (length ks) (slice_index ks)

-- k of a resource
abbrev pub holders_of : Slots → ℕ → ℕ
holders_of s r = (slice_index_or s.lines r bare).slots

-- the parties of a resource in order of entry
abbrev pub parties_of : Slots → ℕ → List ℕ
parties_of s r = row (slice_index_or s.lines r bare)

abbrev pub told_of : Slots → Told
told_of s = told_with s.seats s.count (holders_of s)

abbrev pub active_of : Slots → ℕ → List Request
active_of s r = requests (holders_of s r) (parties_of s r)

-- the questions of enter and of leave, as a bank stands, and what number is answered no
abbrev pub EnterAsked : Slots → ℕ → ℕ → Mode → Option ℕ → Type 0
EnterAsked s r p m number =
    first_no (enter_questions (told_of s) r p m (active_of s r)) ≡ number

abbrev pub LeaveAsked : Slots → ℕ → ℕ → Option ℕ → Type 0
LeaveAsked s r p number = first_no (leave_questions (told_of s) r p (active_of s r)) ≡ number

abbrev pub waits : Request → Bool
waits a = not (holds a)

-- something waits only while k hold
abbrev pub Full : Slots → Type 0
Full s = (r : ℕ) → any waits (active_of s r) ≡ true → holders (active_of s r) ≡ holders_of s r

-- the slot resources of a plan, with nobody active
pub record MadeFrom (c : Contents) (s : Slots) : Type 0 where
  pub told : told_of s ≡ told_for c
  pub nobody : (r : ℕ) → parties_of s r ≡ []

-- the parties of one resource change
abbrev pub ChangesParties : ℕ → (List ℕ → List ℕ) → Slots → Slots → Type 0
ChangesParties r change old new = ChangesRow told_of parties_of r change old new

-- a party that enters stands at the end, and holds if fewer than k were active
pub record EntersLast (r p : ℕ) (h : Bool) (old new : Slots) : Type 0 where
  pub holds : h ≡ nat_lt (length (parties_of old r)) (holders_of old r)
  pub parties : ChangesParties r (λ ps. ps ++ p ∷ []) old new

-- where the party at a place leaves, the first of the line holds
pub record NextHolds (k at : ℕ) (old new : List ℕ) : Type 0 where
  pub holding : holding k new ≡ remove (holding k old) at ++ take 1 (line k old)
  pub line : line k new ≡ drop 1 (line k old)

-- a party that leaves is gone from its place
pub record LeavesPlace (r p : ℕ) (old new : Slots) : Type 0 where
  pub parties : ChangesParties r (λ ps. remove ps (place p ps)) old new
  pub next : NextHolds (holders_of old r) (place p (parties_of old r))
      (parties_of old r) (parties_of new r)

-- slots as a bank
abbrev pub slots_ghosts : Ghosts Slots
slots_ghosts =
    record {
      told = told_of;
      active = active_of;
      entered = λ r p m result old new. ChangesBy (EntersLast r p) result old new;
      left = λ r p result old new. ChangesBy (λ done. LeavesPlace r p) result old new;
    }
