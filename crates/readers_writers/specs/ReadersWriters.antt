-- A bank of reader-writer resources: what it tells, its active requests, and how it changes.
use Rattle.std.specs.Prelude.{◌≡◌, ℕ, ◌<◌, Bool, true, List, [], Option}
use Rattle.text.specs.Questions.{first_no}
use Rattle.bank.specs.Exact.{ChangesRow}
use Rattle.bank.specs.Meaning.{ChangesBy}
use Rattle.bank.specs.Questions.{Told, enter_questions, leave_questions}
use Rattle.bank.specs.declared.meaning.Bank.{Ghosts}
use Rattle.bank.specs.declared.request.Mode.{Mode}
use Rattle.bank.specs.declared.request.Request.{Request}
use Rattle.plan.specs.Contents.{Contents}
use Rattle.readers_writers.specs.Kept.{settled}
use Rattle.readers_writers.specs.Limits.{entries_in}
use Rattle.readers_writers.specs.Lines.{admits, entered, left, requests}
use Rattle.readers_writers.specs.Told.{told_with, told_for}
use Rattle.readers_writers.specs.declared.entry.Entry.{Entry}
use Rattle.readers_writers.specs.declared.lines.ReadersWriters.{ReadersWriters}

-- the entries of a resource
abbrev pub entries_of : ReadersWriters → ℕ → List Entry
entries_of b r = entries_in b.lines r

abbrev pub told_of : ReadersWriters → Told
told_of b = told_with b.count b.seats

abbrev pub active_of : ReadersWriters → ℕ → List Request
active_of b r = requests (entries_of b r)

-- nothing waits where it could hold
abbrev pub Settled : ReadersWriters → Type 0
Settled b = (r : ℕ) → r < b.count → settled (entries_of b r) ≡ true

-- the reader-writer resources of a plan, with nobody active
pub record MadeFrom (c : Contents) (b : ReadersWriters) : Type 0 where
  pub told : told_of b ≡ told_for c
  pub nobody : (r : ℕ) → entries_of b r ≡ []

-- the questions of enter and of leave, as a bank stands, and what number is answered no
abbrev pub EnterAsked : ReadersWriters → ℕ → ℕ → Mode → Option ℕ → Type 0
EnterAsked b r p m number =
    first_no (enter_questions (told_of b) r p m (active_of b r)) ≡ number

abbrev pub LeaveAsked : ReadersWriters → ℕ → ℕ → Option ℕ → Type 0
LeaveAsked b r p number = first_no (leave_questions (told_of b) r p (active_of b r)) ≡ number

-- the entries of one resource change
abbrev pub ChangesEntries : ℕ → (List Entry → List Entry) → ReadersWriters → ReadersWriters → Type 0
ChangesEntries r change old new = ChangesRow told_of entries_of r change old new

-- an entry is added at the end, and holds if it may at once
pub record EntersExactly (r p : ℕ) (m : Mode) (h : Bool) (old new : ReadersWriters) : Type 0 where
  pub holds : h ≡ admits (entries_of old r) m
  pub entries : ChangesEntries r (λ es. entered es p m) old new

-- the holder is gone, and who may then hold does
abbrev pub LeavesExactly : ℕ → ℕ → ReadersWriters → ReadersWriters → Type 0
LeavesExactly r p old new = ChangesEntries r (λ es. left es p) old new

-- readers and writers as a bank
abbrev pub writers_ghosts : Ghosts ReadersWriters
writers_ghosts =
    record {
      told = told_of;
      active = active_of;
      entered = λ r p m result old new. ChangesBy (EntersExactly r p m) result old new;
      left = λ r p result old new. ChangesBy (λ done. LeavesExactly r p) result old new;
    }
