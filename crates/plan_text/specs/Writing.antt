-- The items of a plan, table by table, as the writer lays them.
use Rattle.std.specs.Prelude.{ℕ, ◌/◌, ◌%◌, List, [], map, Some, None, Option}
use Rattle.item.specs.Lines.{item_text}
use Rattle.item.specs.declared.item.Item.{Item}
use Rattle.item.specs.declared.item.Item.TheVariants.{Cluster, Task, Length}
use Rattle.plan.specs.Contents.{Contents, length_at, length_item}
use Rattle.plan.specs.Kinds.{resource_item}

abbrev pub cluster_items : Contents → List Item
cluster_items c = map Cluster c.clusters

abbrev pub resource_items : Contents → List Item
resource_items c = map resource_item c.resources

abbrev pub task_items : Contents → List Item
task_items c = map Task c.tasks

abbrev pub length_items : Contents → List Item
length_items c = map length_item c.lengths

-- the line of the length at place 16 t + r, if one is declared
abbrev pub place_text : ℕ → Option ℕ → List ℕ
place_text k None = []
place_text k (Some n) = item_text (Length (k / 16) (k % 16) n)

abbrev pub length_text : Contents → ℕ → List ℕ
length_text c k = place_text k (length_at c (k / 16) (k % 16))
