use Rattle.std.proofs.Common.{◌≡◌, ℕ, ◌<◌, ◌≤◌, length, get_or}
use Rattle.rules.specs.Moves.{let_in}
use Rattle.rules.specs.States.{idle_task}
use Rattle.controller.proofs.controller.give.let_in_all.Given as goal

abbrev pub invariant-loop-t : goal.invariant-loop-t
invariant-loop-t g l =
    (length l.table.records.rows ≡ 64)
    × ((k : ℕ) → k < l.t → get_or l.table.records.rows k idle_task ≡ let_in l.resource (g.B.Bank.active l.bank l.resource) k (get_or l.fn.table.records.rows k idle_task))
    × ((k : ℕ) → l.t ≤ k → get_or l.table.records.rows k idle_task ≡ get_or l.fn.table.records.rows k idle_task)
    × ((k : ℕ) → (get_or l.table.records.rows k idle_task).blocked ≡ (get_or l.fn.table.records.rows k idle_task).blocked)
