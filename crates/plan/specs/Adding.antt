-- What a line adds to a plan, and the questions put to a line and to sealing.
use Rattle.std.specs.Prelude.{◌≡◌, ℕ, Bool, true, ◌&&◌, ◌||◌, List, []}
use Rattle.std.specs.Prelude.{◌∷◌, ◌++◌, length, Some, None, Option, ◌==◌, nat_le, nat_lt}
use Rattle.item.specs.declared.item.Item.{Item}
use Rattle.item.specs.Lines.{form_questions}
use Rattle.text.specs.Questions.{Question, ask}
use Rattle.plan.specs.Contents.{Declared, Contents, entry_of, processors, resource_count}
use Rattle.plan.specs.Kinds.{in_kind_limits, none_later, within}
use Rattle.plan.specs.declared.entry.Entry.{Entry}
use Rattle.plan.specs.declared.entry.Entry.TheVariants.{Cluster, Resource, Task, Length}

-- nothing is there yet
abbrev pub empty : Contents
empty = record { clusters = []; resources = []; tasks = []; lengths = [] }

abbrev pub none : {A : Type 0} → List A → Bool
none xs = length xs == 0

-- a length stands below task t and resource r: by task, then by resource
abbrev pub below : Declared → ℕ → ℕ → Bool
below d t r = nat_lt d.task t || (d.task == t && nat_lt d.resource r)

-- every length before stands below
abbrev pub above : List Declared → ℕ → ℕ → Bool
above [] t r = true
above (d ∷ ds) t r = below d t r && above ds t r

-- no line of a later kind was taken: clusters, resources by their kinds, tasks, lengths;
-- and a length stands above those before it, by its numbers as written
abbrev pub in_order : Contents → Entry → Bool
in_order c (Cluster n) = none c.resources && (none c.tasks && none c.lengths)
in_order c (Resource r) = none_later c.resources r && (none c.tasks && none c.lengths)
in_order c (Task g) = none c.lengths
in_order c (Length t r n) = above c.lengths t r

-- the numbers are in their limits and name what exists
abbrev pub in_limits : Contents → Entry → Bool
in_limits c (Cluster n) = within 1 8 n
in_limits c (Resource r) = in_kind_limits (processors c) r
in_limits c (Task g) = nat_lt g (length c.clusters)
in_limits c (Length t r n) =
    nat_lt t (length c.tasks) && (nat_lt r (resource_count c) && within 1 10000 n)

-- the table is not full; a length in its limits has a place of its own
abbrev pub has_room : Contents → Entry → Bool
has_room c (Cluster n) = nat_lt (length c.clusters) 8
has_room c (Resource r) = nat_lt (resource_count c) 16
has_room c (Task g) = nat_lt (length c.tasks) 64
has_room c (Length t r n) = true

-- the questions put to an entry, and to a line that is an item or none
abbrev pub entry_questions : Contents → Entry → List Question
entry_questions c e = ask 17 (in_order c e) ∷ ask 18 (in_limits c e) ∷ ask 19 (has_room c e) ∷ []

abbrev pub item_questions : Contents → Item → List Question
item_questions c i = entry_questions c (entry_of i)

abbrev pub line_questions : Contents → Option Item → List Question
line_questions c None = form_questions None
line_questions c (Some i) = form_questions (Some i) ++ item_questions c i

-- there is a cluster, a resource and a task
abbrev pub complete : Contents → Bool
complete c =
    nat_lt 0 (length c.clusters) && (nat_lt 0 (resource_count c) && nat_lt 0 (length c.tasks))

abbrev pub seal_questions : Contents → List Question
seal_questions c = ask 20 (complete c) ∷ []

-- an entry is put at the end of its own table, and nothing else changes
abbrev pub entered : Contents → Entry → Contents
entered c (Cluster n) = record c { clusters = c.clusters ++ n ∷ [] }
entered c (Resource r) = record c { resources = c.resources ++ r ∷ [] }
entered c (Task g) = record c { tasks = c.tasks ++ g ∷ [] }
entered c (Length t r n) =
    record c { lengths = c.lengths ++ record { task = t; resource = r; ticks = n } ∷ [] }

-- what an item adds
abbrev pub added : Contents → Item → Contents
added c i = entered c (entry_of i)

-- what a taken line adds
abbrev pub Adds : Contents → Option Item → Contents → Type 0
Adds c None new = ⊥
Adds c (Some i) new = new ≡ added c i
