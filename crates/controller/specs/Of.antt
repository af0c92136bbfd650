-- What a controller is made from, and how it stands, over any bank.
use Rattle.std.specs.Prelude.{◌≡◌, min, Ok, Err, Result}
use Rattle.bank.specs.declared.meaning.Bank.{Ghosts}
use Rattle.plan.specs.Of.{plan_contents}
use Rattle.rules.specs.Jobs.{Setup, Snapshot}
use Rattle.rules.specs.declared.refusal.Refusal.{Refusal}
pub use Rattle.table.specs.Rows.{tasks_in}
use Rattle.controller.specs.declared.controller.Controller.{Controller}

-- a resource is one of the controller's and of the bank's
abbrev pub setup_of : {X : Type 0} (b : Ghosts X) → Controller X b → Setup
setup_of b c = record {
  plan = plan_contents c.plan;
  told = b.told c.bank;
  tasks = c.tasks;
  resources = min c.resources (b.told c.bank).resources;
}

abbrev pub snapshot_of : {X : Type 0} (b : Ghosts X) → Controller X b → Snapshot
snapshot_of b c = record {
  tasks = tasks_in c.tasks c.table.records.rows;
  lists = b.active c.bank;
  clock = c.clock;
  releases = c.releases;
}

-- a refusal leaves the same value
abbrev pub Unchanged : {A S : Type 0} → Result A Refusal → S → S → Type 0
Unchanged (Ok done) old new = Unit {0}
Unchanged (Err why) old new = new ≡ old
