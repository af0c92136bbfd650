-- The banks of a plan leave no choice.
use Rattle.std.proofs.Common.{sym, ◌∙◌}
use Rattle.bank.specs.Exact.{Exact}
use Rattle.pair.specs.Known.{SameParts}
use Rattle.pair.proofs.Exact.{pair_exact}
use Rattle.plan.specs.Contents.{Contents}
use Rattle.readers_writers.specs.ReadersWriters.{writers_ghosts}
use Rattle.readers_writers.proofs.Exact.{SameWriters, writers_exact}
use Rattle.slots.specs.Slots.{slots_ghosts}
use Rattle.slots.proofs.Exact.{SameSlots, slots_exact}
use Rattle.dry_run.specs.Banks.{PlanBanks, BanksOf, meaning}

abbrev pub SameBanks : PlanBanks → PlanBanks → Type 0
SameBanks = SameParts SameSlots SameWriters

pub banks_exact : Exact meaning SameBanks
banks_exact = pair_exact slots_ghosts writers_ghosts SameSlots SameWriters slots_exact writers_exact

-- two that were made from one plan are alike
pub same_made : (c : Contents) (b d : PlanBanks) → BanksOf c b → BanksOf c d → SameBanks b d
same_made c b d x y = record {
  first = record { tells = x.slots.told ∙ sym y.slots.told; rows = λ r. x.slots.nobody r ∙ sym (y.slots.nobody r) };
  second = record { tells = x.writers.told ∙ sym y.writers.told; rows = λ r. x.writers.nobody r ∙ sym (y.writers.nobody r) };
}
