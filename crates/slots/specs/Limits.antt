-- What a bank of slot resources always keeps.
use Rattle.std.specs.Prelude.{◌≡◌, ℕ, ◌<◌, ◌≤◌, List, length, slice_index, slice_index_or}
use Rattle.bank.specs.declared.size.TheConstants.{PARTIES, RESOURCES}
use Rattle.slots.specs.Rows.{row, bare}
use Rattle.slots.specs.declared.line.Line.{Line}

-- a line for each of the most resources
abbrev pub Held : List Line → Type 0
Held lines = length lines ≡ RESOURCES

-- a line has as many parties as there are seats at most, and each party is one of those that may be
abbrev pub Keeping : ℕ → Line → Type 0
Keeping seats l =
    (length (row l) ≤ seats)
    × ((i : ℕ) → i < length (row l) → slice_index (row l) i < PARTIES)

abbrev pub Kept : ℕ → List Line → Type 0
Kept seats lines = (r : ℕ) → r < RESOURCES → Keeping seats (slice_index_or lines r bare)

-- no more than the most resources, each with at least one slot
abbrev pub Sized : List Line → ℕ → Type 0
Sized lines n = (n ≤ RESOURCES) × ((r : ℕ) → r < n → 1 ≤ (slice_index_or lines r bare).slots)

abbrev pub Seated : ℕ → Type 0
Seated seats = (1 ≤ seats) × (seats ≤ PARTIES)
