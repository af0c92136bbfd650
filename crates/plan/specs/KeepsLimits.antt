-- The limits of a plan, in the words of what it says.
use Rattle.std.specs.Prelude.{◌≡◌, IsTrue, ℕ, ◌<◌, ◌≤◌, ◌≢◌, ◌⊎◌, All, AllPairs, length}
use Rattle.plan.specs.Contents.{Declared, Contents, processors, resource_count}
use Rattle.plan.specs.Kinds.{in_kind_limits, kind_rank}

-- n lies from low to high, both included
abbrev pub From : ℕ → ℕ → ℕ → Type 0
From low high n = (low ≤ n) × (n ≤ high)

-- a length of 1 to 10,000 ticks, of a task and at a resource that exist
abbrev pub IsLengthIn : Contents → Declared → Type 0
IsLengthIn c d = (d.task < length c.tasks) × (d.resource < resource_count c) × From 1 10000 d.ticks

-- by task, and for one task by resource
abbrev pub Rises : Declared → Declared → Type 0
Rises d e = (d.task < e.task) ⊎ ((d.task ≡ e.task) × (d.resource < e.resource))

abbrev pub IsOtherPair : Declared → Declared → Type 0
IsOtherPair d e = d.task ≡ e.task → d.resource ≢ e.resource

pub record KeepsLimits (c : Contents) : Type 0 where
  -- 1 to 8 clusters, each of 1 to 8 processors
  pub clusters : From 1 8 (length c.clusters)
  pub processors_of : All (From 1 8) c.clusters
  -- 1 to 16 resources, each in the limits of its kind; they stand by kind
  pub resources : From 1 16 (resource_count c)
  pub kinds : All (λ r. IsTrue (in_kind_limits (processors c) r)) c.resources
  pub by_kind : AllPairs (λ r s. kind_rank r ≤ kind_rank s) c.resources
  -- 1 to 64 tasks, each of a cluster that exists
  pub tasks : From 1 64 (length c.tasks)
  pub cluster_of : All (λ g. g < length c.clusters) c.tasks
  pub lengths : All (IsLengthIn c) c.lengths
  -- each length stands behind those of a lower task, or of its task and a lower resource
  pub rising : AllPairs Rises c.lengths
  -- so a task has at most one length at a resource
  pub once : AllPairs IsOtherPair c.lengths
