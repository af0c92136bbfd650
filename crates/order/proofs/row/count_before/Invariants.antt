use Rattle.std.proofs.Common.{◌≡◌, ◌≤◌, take, count_by}
use Rattle.std.specs.Ordering.{is_lt}
use Rattle.order.proofs.row.count_before.Given as goal

abbrev pub invariant-loop-y : goal.invariant-loop-y
invariant-loop-y g l = (l.n ≡ count_by (λ y. is_lt (g.T.Ord.cmp y l.x)) (take l.y-index l.row)) × (l.n ≤ l.y-index)
