-- Runs: a controller made once and then worked by calls, and the law that every call keeps.
use Rattle.std.specs.Prelude.{◌≡◌, ℕ, ◌<◌, ◌≤◌, ◌⊎◌, length}
use Rattle.bank.specs.Meaning.{Lists, Small, Sound}
use Rattle.plan.specs.Contents.{resource_count}
use Rattle.rules.specs.Fits.{BankFits}
use Rattle.rules.specs.Histories.{History, made, called, after}
use Rattle.rules.specs.Jobs.{Setup, Snapshot, cluster_of}
use Rattle.rules.specs.Moves.{Does}
use Rattle.rules.specs.Promises.{Lawful}
use Rattle.rules.specs.States.{idle_task}
use Rattle.rules.specs.declared.event.Event.{Event}

-- over a bank that fits, a controller has the plan's tasks and resources; over another it has none
pub record Fitting (a : Setup) (lists : Lists) : Type 0 where
  pub fit : BankFits a.plan a.told lists
  pub tasks : a.tasks ≡ length a.plan.tasks
  pub resources : a.resources ≡ resource_count a.plan

pub record Unfit (a : Setup) (lists : Lists) : Type 0 where
  pub misfit : BankFits a.plan a.told lists → ⊥
  pub tasks : a.tasks ≡ 0
  pub resources : a.resources ≡ 0

-- a controller is made from a sealed plan, whose tasks are at most 64 and each of a cluster, over a
-- bank that has the meaning
pub record SetUp (a : Setup) (lists : Lists) : Type 0 where
  pub small : Small a.told
  pub few : a.tasks ≤ 64
  pub clusters : (t : ℕ) → t < a.tasks → cluster_of a.plan t < length a.plan.clusters
  pub fitting : Fitting a lists ⊎ Unfit a lists

-- every task is idle, at clock 0
pub record Begins (a : Setup) (s : Snapshot) : Type 0 where
  pub set_up : SetUp a s.lists
  pub idle : (q : ℕ) → s.tasks q ≡ idle_task
  pub clock : s.clock ≡ 0
  pub releases : s.releases ≡ 0

-- every list of the bank has what the bank always has
abbrev pub SoundLists : Setup → Snapshot → Type 0
SoundLists a s = (r : ℕ) → r < a.told.resources → Sound a.told r (s.lists r)

-- s stands after the calls of a history
pub data Runs (a : Setup) : Snapshot → History → Type 0 where
  starts : {s : Snapshot} → Begins a s → SoundLists a s → Runs a s (made s.lists)
  goes : {s t : Snapshot} {h : History} {e : Event}
      → Runs a s h → SoundLists a t → Does a s e t → Runs a t (called h e t.lists)

-- A run that keeps the law: every call of its history is lawful, and s stands exactly as the
-- history says.
pub record LawfulRun (a : Setup) (s : Snapshot) (h : History) : Type 0 where
  pub runs : Runs a s h
  pub lawful : Lawful a h
  pub stands : s ≡ after a h

-- a call added to every history that led to where it was made: the whole is a run that keeps the
-- law
abbrev pub Follows : Setup → Snapshot → Event → Snapshot → Type 0
Follows a s e t = (h : History) → Runs a s h → LawfulRun a t (called h e t.lists)

-- the start of every history: a controller is made
abbrev pub Starts : Setup → Snapshot → Type 0
Starts a t = LawfulRun a t (made t.lists)
