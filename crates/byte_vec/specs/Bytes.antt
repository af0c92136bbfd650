-- A list of at most n bytes, and what a change that may find no room does to it.
use Rattle.std.specs.Prelude.{◌≡◌, ℕ, ◌+◌, List, ◌++◌, length, cond, nat_le}
use Rattle.std.specs.Prelude.{Ok, Err, Some, None, Option, Result}
use Rattle.std.specs.List.{remove, slice_get}
use Rattle.byte_vec.specs.declared.byte_vec.Full.{Full}

-- the number of the refusal
abbrev pub number : Full → ℕ
number full = 23

-- is there room for bytes more? where there is none, the number of the refusal
abbrev pub no_room : ℕ → List ℕ → List ℕ → Option ℕ
no_room n old bytes = cond (nat_le (length old + length bytes) n) None (Some 23)

-- bytes more stand behind those that were there, or there is no room for them and nothing changed
abbrev pub Appends : ℕ → List ℕ → List ℕ → Result (Unit {0}) Full → List ℕ → Type 0
Appends n old bytes (Ok done) new = (no_room n old bytes ≡ None) × (new ≡ old ++ bytes)
Appends n old bytes (Err full) new = (no_room n old bytes ≡ Some (number full)) × (new ≡ old)

-- the byte at a place is gone and answered, or there is none
abbrev pub Removes : List ℕ → ℕ → Option ℕ → List ℕ → Type 0
Removes old place (Some b) new = (slice_get old place ≡ Some b) × (new ≡ remove old place)
Removes old place None new = (slice_get old place ≡ None) × (new ≡ old)
