use Rattle.std.proofs.Common.{◌≡◌, get_or, Some, None}
use Rattle.std.specs.List.{IsFirstBest}
use Rattle.std.specs.Ordering.{is_lt}
use Rattle.order.proofs.row.first_of.Given as goal

abbrev pub invariant-loop-i : goal.invariant-loop-i
invariant-loop-i g l = elim l.best [ None ↦ l.i ≡ 0 | Some p ↦ IsFirstBest (λ x y. is_lt (g.T.Ord.cmp x y)) l.row l.i p.0 × (p.1.now ≡ get_or l.row p.0 p.1.now) ]
