-- What a plan says.
use Rattle.std.specs.Prelude.{ℕ, zero, suc, ◌+◌, max, cond, ◌&&◌, List, [], ◌∷◌}
use Rattle.std.specs.Prelude.{◌++◌, map, length, Some, None, sum, Option, ◌==◌, nat_lt}
use Rattle.std.specs.List.{slice_get}
use Rattle.std.specs.Option.{unwrap_or}
use Rattle.item.specs.declared.item.Item.{Item}
use Rattle.item.specs.declared.item.Item.TheVariants.{Cluster, Slots, ReaderWriter, Task, Length}
use Rattle.plan.specs.Kinds.{resource_item}
use Rattle.plan.specs.declared.entry.Entry.{Entry}
use Rattle.plan.specs.declared.entry.Entry.TheVariants.{Cluster as ClusterEntry, Resource as ResourceEntry}
use Rattle.plan.specs.declared.entry.Entry.TheVariants.{Task as TaskEntry, Length as LengthEntry}
use Rattle.plan.specs.declared.resource.Resource.{Resource}
use Rattle.plan.specs.declared.resource.Resource.TheVariants.{Slots as SlotsFor, ReaderWriter as OneWriter}

-- a task's length at a resource, in ticks
pub record Declared : Type 0 where
  pub task : ℕ
  pub resource : ℕ
  pub ticks : ℕ

pub record Contents : Type 0 where
  -- the processors of each cluster
  pub clusters : List ℕ
  -- the resources, by kind
  pub resources : List Resource
  -- the cluster of each task
  pub tasks : List ℕ
  pub lengths : List Declared

-- `C,1` `S,1` `T,0`: what a place for a plan holds at first
abbrev pub smallest : Contents
smallest =
    record { clusters = 1 ∷ []; resources = SlotsFor 1 ∷ []; tasks = 0 ∷ []; lengths = [] }

-- m, the processors of all clusters
abbrev pub processors : Contents → ℕ
processors c = sum c.clusters

abbrev pub resource_count : Contents → ℕ
resource_count c = length c.resources

-- a resource, if it exists
abbrev pub resource_at : Contents → ℕ → Option Resource
resource_at c r = slice_get c.resources r

-- the length of a task at a resource, if one is declared
abbrev pub length_in : List Declared → ℕ → ℕ → Option ℕ
length_in [] t r = None
length_in (d ∷ ds) t r = cond (d.task == t && d.resource == r) (Some d.ticks) (length_in ds t r)

abbrev pub length_at : Contents → ℕ → ℕ → Option ℕ
length_at c t r = length_in c.lengths t r

-- the greatest of the first n values of f, or 0
abbrev pub greatest : (ℕ → ℕ) → ℕ → ℕ
greatest f zero = 0
greatest f (suc n) = max (greatest f n) (f n)

-- the longest length declared for a resource, or 0
abbrev pub longest_at : Contents → ℕ → ℕ
longest_at c r = greatest (λ t. unwrap_or (length_at c t r) 0) (length c.tasks)

-- the same, if the resource exists
abbrev pub longest_of : Contents → ℕ → Option ℕ
longest_of c r = cond (nat_lt r (resource_count c)) (Some (longest_at c r)) None

abbrev pub length_item : Declared → Item
length_item d = Length d.task d.resource d.ticks

-- the items of a plan in the order of their lines
abbrev pub items_of : Contents → List Item
items_of c =
    map Cluster c.clusters
    ++ (map resource_item c.resources
    ++ (map Task c.tasks
    ++ map length_item c.lengths))

-- what an item puts into the tables
abbrev pub entry_of : Item → Entry
entry_of (Cluster n) = ClusterEntry n
entry_of (Slots k) = ResourceEntry (SlotsFor k)
entry_of ReaderWriter = ResourceEntry OneWriter
entry_of (Task g) = TaskEntry g
entry_of (Length t r n) = LengthEntry t r n
