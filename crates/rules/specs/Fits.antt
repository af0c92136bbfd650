-- Whether a bank fits a plan.
use Rattle.std.specs.Prelude.{◌≡◌, ℕ, ◌<◌, [], Ok, Err, Result}
use Rattle.bank.specs.Meaning.{Lists}
use Rattle.bank.specs.Questions.{Told}
use Rattle.plan.specs.Contents.{Contents, processors, resource_count}
use Rattle.rules.specs.Questions.{slots_in, reads_in}
use Rattle.rules.specs.Refusals.{number}
use Rattle.rules.specs.declared.refusal.Refusal.{Refusal}

-- it has as many resources, and a seat for each processor; at each resource k and the modes are the
-- plan's, and nobody is active
pub record BankFits (c : Contents) (t : Told) (lists : Lists) : Type 0 where
  pub resources : t.resources ≡ resource_count c
  pub seats : t.seats ≡ processors c
  pub slots : (r : ℕ) → r < resource_count c → t.slots r ≡ slots_in c r
  pub modes : (r : ℕ) → r < resource_count c → t.reads r ≡ reads_in c r
  pub nobody : (r : ℕ) → r < resource_count c → lists r ≡ []

-- the answer to whether it fits
abbrev pub TellsFit : Contents → Told → Lists → Result (Unit {0}) Refusal → Type 0
TellsFit c t lists (Ok done) = BankFits c t lists
TellsFit c t lists (Err why) = (number why ≡ 24) × (BankFits c t lists → ⊥)
