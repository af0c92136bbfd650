use Rattle.std.proofs.Common.{◌≡◌, ℕ, ◌<◌, ◌≤◌, [], length, get_or, take}
use Rattle.plan.specs.Of.{plan_contents}
use Rattle.bank.specs.declared.size.TheConstants.{RESOURCES}
use Rattle.slots.specs.Planned.{slots_of}
use Rattle.slots.specs.Rows.{row, bare}
use Rattle.slots.proofs.slots.make.lines_of.Given as goal

abbrev pub invariant-loop-place : goal.invariant-loop-place
invariant-loop-place l =
    let taken = slots_of (take l.place (plan_contents l.plan).resources) in
    (length l.lines ≡ RESOURCES)
    × (l.count ≡ length taken)
    × (l.count ≤ l.place)
    × ((j : ℕ) → (get_or l.lines j bare).slots ≡ get_or taken j 0)
    × ((j : ℕ) → row (get_or l.lines j bare) ≡ [])
