-- What a bank of reader-writer resources always keeps.
use Rattle.std.specs.Prelude.{◌≡◌, ℕ, ◌<◌, ◌≤◌, true, List, [], length, slice_index_or}
use Rattle.readers_writers.specs.Kept.{good, named}
use Rattle.readers_writers.specs.declared.entry.Entry.{Entry}
use Rattle.readers_writers.specs.declared.line.Line.{Line}

-- the entries of a line, and the line with none
abbrev pub list_of : Line → List Entry
list_of l = l.entries.items

abbrev pub bare : Line
bare = record { entries = record { items = [] } }

-- the entries of a resource
abbrev pub entries_in : List Line → ℕ → List Entry
entries_in lines r = list_of (slice_index_or lines r bare)

-- each of the resources has m seats, and its entries are good and name parties
abbrev pub Keeping : ℕ → Line → Type 0
Keeping m l = (length (list_of l) ≤ m) × (named (list_of l) ≡ true) × (good (list_of l) ≡ true)

abbrev pub AllKeep : List Line → ℕ → ℕ → Type 0
AllKeep lines count m = (r : ℕ) → r < count → Keeping m (slice_index_or lines r bare)
