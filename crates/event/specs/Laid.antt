-- Bytes laid into memory at a place where they fit.
use Rattle.std.specs.Prelude.{◌≡◌, ℕ, ◌+◌, List, length}
use Rattle.text.specs.Memory.{overlay}

-- bytes stand at a place, the end is the place behind them, and nothing else changed
abbrev pub Laid : List ℕ → ℕ → List ℕ → ℕ → List ℕ → Type 0
Laid old at bytes end new = (end ≡ at + length bytes) × (new ≡ overlay old at bytes)
