-- What the tables of a draft, and of a plan, say.
use Rattle.std.specs.Prelude.{ℕ, ◌+◌, ◌/◌, ◌%◌, cond, List, [], ◌∷◌, ◌==◌}
use Rattle.plan.specs.Contents.{Declared, Contents}
use Rattle.plan.specs.declared.plan.Plan.{Plan}
use Rattle.plan.specs.declared.tables.Tables.{Tables}

-- the length of n ticks at a place of the table
abbrev pub placed : ℕ → ℕ → Declared
placed k n = record { task = k / 16; resource = k % 16; ticks = n }

-- the lengths declared in a table, from place k on
abbrev pub declared : ℕ → List ℕ → List Declared
declared k [] = []
declared k (n ∷ ns) = cond (n == 0) (declared (k + 1) ns) (placed k n ∷ declared (k + 1) ns)

abbrev pub contents_of : Tables → Contents
contents_of t =
    record {
      clusters = t.clusters;
      resources = t.resources;
      tasks = t.tasks;
      lengths = declared 0 t.lengths;
    }

abbrev pub plan_contents : Plan → Contents
plan_contents p = contents_of p.tables
