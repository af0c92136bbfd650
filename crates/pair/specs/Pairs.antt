-- Two banks as one: the first's resources, and then the second's.
use Rattle.std.specs.Prelude.{◌≡◌, ℕ, ◌+◌, ◌-◌, min, Bool, cond, nat_lt, Ok, Result, IfOk, OnErr}
use Rattle.bank.specs.Meaning.{Lists, Enters}
use Rattle.bank.specs.Questions.{Told}
use Rattle.bank.specs.declared.meaning.Bank.{Ghosts}
use Rattle.bank.specs.declared.refusal.Refusal.{Refusal}
use Rattle.bank.specs.declared.request.Mode.{Mode}
use Rattle.bank.specs.declared.size.TheConstants.{RESOURCES}

-- what is told at a resource: the first n are the first bank's, and the others the second's,
-- counted on from there
abbrev pub part : {A : Type 0} → ℕ → (ℕ → A) → (ℕ → A) → ℕ → A
part n first second r = cond (nat_lt r n) (first r) (second (r - n))

-- the pair has all resources of both, as far as there are sixteen, and the seats of the bank with
-- fewer
abbrev pub pair_told : Told → Told → Told
pair_told a b =
    record {
      resources = min RESOURCES (a.resources + b.resources);
      seats = min a.seats b.seats;
      slots = part a.resources a.slots b.slots;
      reads = part a.resources a.reads b.reads;
      limit = part a.resources a.limit b.limit;
    }

abbrev pub pair_active : Told → Lists → Lists → Lists
pair_active a first second = part a.resources first second

-- an enter of a bank as if it had fewer seats, and what is known of it where it is taken
pub record EntersWithin {X : Type 0} (b : Ghosts X) (seats r p : ℕ) (m : Mode)
    (result : Result Bool Refusal) (old new : X) : Type 0 where
  pub tells : b.told new ≡ b.told old
  pub lists : Enters (record (b.told old) { seats = seats }) r p m result
      (b.active old) (b.active new)
  pub keeps : OnErr result (new ≡ old)
  pub exact : IfOk result (λ h. b.entered r p m (Ok h) old new)
