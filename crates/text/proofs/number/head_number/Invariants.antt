use Rattle.std.proofs.Common.{◌≡◌, ◌+◌, ◌-◌, ◌^◌, ◌<◌, ◌≤◌, length, take, drop}
use Rattle.text.specs.Numbers.{value_of, digits_in}
use Rattle.text.specs.declared.number.TheConstants.{DIGITS}
use Rattle.text.proofs.number.head_number.Given as goal

abbrev pub invariant-loop-n : goal.invariant-loop-n
invariant-loop-n l = (l.v ≡ value_of (take l.n l.s)) × (l.v < 10 ^ l.n) × (digits_in l.s ≡ l.n + digits_in (drop l.n l.s)) × (l.n ≤ DIGITS) × (l.n ≤ length l.s)

abbrev pub decreases-loop-n : goal.decreases-loop-n
decreases-loop-n l = length l.s - l.n
