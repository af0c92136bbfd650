-- Whether there is room for bytes more, as a comparison.
use Rattle.std.proofs.Common.{◌≡◌, ℕ, ◌+◌, ◌<◌, ◌≤◌, List, length, None, Some, arith}
use Rattle.byte_vec.specs.Bytes.{no_room}

pub has_room : (n : ℕ) (old bytes : List ℕ) → no_room n old bytes ≡ None → length old + length bytes ≤ n
has_room n old bytes e = grind arith

pub lacks_room : (n : ℕ) (old bytes : List ℕ) (k : ℕ) → no_room n old bytes ≡ Some k → n < length old + length bytes
lacks_room n old bytes k e = grind arith
