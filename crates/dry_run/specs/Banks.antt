-- The banks of a plan: its slots, paired with its readers and writers.
use Rattle.bank.specs.Questions.{Told}
use Rattle.bank.specs.declared.meaning.Bank.{Ghosts}
use Rattle.pair.specs.Known.{pair_ghosts}
use Rattle.pair.specs.Pairs.{pair_told}
use Rattle.pair.specs.declared.pair.Pair.{Pair}
use Rattle.plan.specs.Contents.{Contents}
use Rattle.readers_writers.specs.ReadersWriters.{writers_ghosts, MadeFrom as WritersOf}
use Rattle.readers_writers.specs.Told.{told_for as writers_told}
use Rattle.readers_writers.specs.declared.lines.ReadersWriters.{ReadersWriters}
use Rattle.slots.specs.Slots.{slots_ghosts, told_for as slots_told, MadeFrom as SlotsOf}
use Rattle.slots.specs.declared.slots.Slots.{Slots}

abbrev pub PlanBanks : Type 0
PlanBanks = Pair Slots ReadersWriters

-- what they tell, their active requests, and how they change: each part as its own rules give it by
-- value
abbrev pub meaning : Ghosts PlanBanks
meaning = pair_ghosts slots_ghosts writers_ghosts

-- what the banks of a plan tell
abbrev pub plan_told : Contents → Told
plan_told c = pair_told (slots_told c) (writers_told c)

-- the banks of a plan, with nobody active
pub record BanksOf (c : Contents) (b : PlanBanks) : Type 0 where
  pub slots : SlotsOf c b.first
  pub writers : WritersOf c b.second
