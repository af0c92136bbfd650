-- The controller of a plan, over slots paired with readers and writers.
use Rattle.std.specs.Prelude.{◌≡◌}
use Rattle.controller.specs.Calls.{Makes}
use Rattle.controller.specs.Of.{setup_of, snapshot_of}
use Rattle.controller.specs.declared.controller.Controller.{Controller}
use Rattle.dry_run.specs.Banks.{PlanBanks, BanksOf, meaning}
use Rattle.plan.specs.Contents.{Contents}
use Rattle.rules.specs.Jobs.{Setup, Snapshot}
use Rattle.rules.specs.declared.event.Event.{Event}
use Rattle.rules.specs.Runs.{Begins, Fitting, Starts}

abbrev pub setup : Controller PlanBanks meaning → Setup
setup k = setup_of meaning k

abbrev pub snapshot : Controller PlanBanks meaning → Snapshot
snapshot k = snapshot_of meaning k

-- a controller that was just made from a plan over its banks: it has the plan's tasks and resources
pub record MadeFrom (c : Contents) (k : Controller PlanBanks meaning) : Type 0 where
  pub bank_of : BanksOf c k.bank
  pub plan : (setup k).plan ≡ c
  pub fitting : Fitting (setup k) (snapshot k).lists
  pub begins : Begins (setup k) (snapshot k)
  pub starts : Starts (setup k) (snapshot k)

-- what one call makes of it
abbrev pub Step : Controller PlanBanks meaning → Event → Controller PlanBanks meaning → Type 0
Step k call next = Makes meaning k call next
