-- Turns in ticks.
use Rattle.std.specs.Prelude.{ℕ, ◌*◌}

-- a turn takes the longest length at most
abbrev pub ticks_of_turns : ℕ → ℕ → ℕ
ticks_of_turns turns longest = turns * longest
