-- The places of entries that are looked for.
use Rattle.std.specs.Prelude.{ℕ, ◌+◌, Bool, true, false, cond, List, [], ◌∷◌, remove, slice_index_or}
use Rattle.bank.specs.declared.request.Mode.TheVariants.{Write}
use Rattle.readers_writers.specs.Lines.{is_writer, passed}
use Rattle.readers_writers.specs.declared.entry.Entry.{Entry}

-- what stands past the end of a list
abbrev pub blank : Entry
blank = record { party = 0; mode = Write; holds = false }

-- the place of the first entry that passes a test, or the length if none does
abbrev pub place_of : (Entry → Bool) → List Entry → ℕ
place_of test [] = 0
place_of test (e ∷ es) = cond (test e) 0 (place_of test es + 1)

-- an entry with its read holding
abbrev pub read_held : Entry → Entry
read_held e = cond (is_writer e) e (record e { holds = true })

-- the entries once the one at a place is gone
abbrev pub parted : List Entry → ℕ → List Entry
parted es at = passed (slice_index_or es at blank).mode (remove es at)
