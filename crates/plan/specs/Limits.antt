-- What the tables of a plan always keep.
use Rattle.std.specs.Prelude.{◌≡◌, ℕ, ◌-◌, ◌/◌, ◌%◌, ◌<◌, ◌≤◌, List, length, slice_index}

-- a table with places for `size` entries, n of them used
abbrev pub Holds : ℕ → List ℕ → ℕ → Type 0
Holds size xs n = (length xs ≡ size) × (n ≤ size) × ((k : ℕ) → n ≤ k → slice_index xs k ≡ 0)

-- each entry lies from `low` to below `high`
abbrev pub Between : ℕ → ℕ → List ℕ → Type 0
Between low high xs = (k : ℕ) → k < length xs → (low ≤ slice_index xs k) × (slice_index xs k < high)

-- the lengths lie in a table with place 16 t + r for task t at resource r, where 0 is none
-- declared: each is at most 10,000 ticks, and at a task and a resource that exist
abbrev pub Declares : ℕ → ℕ → List ℕ → Type 0
Declares tasks resources xs = (k : ℕ) →
    (slice_index xs k ≤ 10000) × (0 < slice_index xs k → (k / 16 < tasks) × (k % 16 < resources))

-- the last of the n used places is that of a declared length
abbrev pub EndsDeclared : List ℕ → ℕ → Type 0
EndsDeclared xs n = 0 < n → 0 < slice_index xs (n - 1)
