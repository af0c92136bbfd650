-- The order of what may be absent is a total order.
use Rattle.std.specs.Prelude.{◌≡◌, Bool, Some, None, Option}
use Rattle.std.specs.Cmp.{IsTotalOrder}
use Rattle.std.specs.Option.{option_eq}
use Rattle.std.specs.Ordering.{eq_by_cmp, is_gt, is_lt, ordering_reverse}
use Rattle.std.specs.declared.cmp.Ordering.TheVariants.{Less, Equal}
use Rattle.std.specs.declared.cmp.Ordering.{Ordering}
use Rattle.std.proofs.Common.{refl, sym, ap}
use Rattle.std.proofs.lemmas.Bool.{true≢false}
use Rattle.order.specs.Orders.{absent_last}

pub absent_last_total : {A : Type 0} {order : A → A → Ordering} → IsTotalOrder order
    → IsTotalOrder (absent_last order)
absent_last_total {A} {order} o = record { antisymm = antisymm; trans = trans; congr = congr }
  where
    antisymm : (x y : Option A) → absent_last order x y ≡ ordering_reverse (absent_last order y x)
    antisymm (Some x) (Some y) = o.antisymm x y
    antisymm (Some x) None = refl
    antisymm None (Some y) = refl
    antisymm None None = refl

    trans : (x y z : Option A) → absent_last order x y ≡ Less → absent_last order y z ≡ Less
        → absent_last order x z ≡ Less
    trans (Some x) (Some y) (Some z) p q = o.trans x y z p q
    trans (Some x) (Some y) None p q = refl
    trans (Some x) None (Some z) p q = absurd (true≢false (sym (ap is_lt q)))
    trans (Some x) None None p q = refl
    trans None (Some y) (Some z) p q = absurd (true≢false (sym (ap is_lt p)))
    trans None (Some y) None p q = absurd (true≢false (sym (ap is_lt p)))
    trans None None (Some z) p q = absurd (true≢false (sym (ap is_lt p)))
    trans None None None p q = p

    congr : (x y z : Option A) → absent_last order x y ≡ Equal
        → absent_last order x z ≡ absent_last order y z
    congr (Some x) (Some y) (Some z) p = o.congr x y z p
    congr (Some x) (Some y) None p = refl
    congr (Some x) None z p = absurd (true≢false (ap is_lt p))
    congr None (Some y) z p = absurd (true≢false (ap is_gt p))
    congr None None z p = refl

-- It calls equal what `==` does.
pub absent_last_ties : {A : Type 0} {equal : A → A → Bool} (order : A → A → Ordering)
    → ((x y : A) → equal x y ≡ eq_by_cmp order x y)
    → (x y : Option A) → option_eq equal x y ≡ eq_by_cmp (absent_last order) x y
absent_last_ties order same (Some x) (Some y) = same x y
absent_last_ties order same (Some x) None = refl
absent_last_ties order same None (Some y) = refl
absent_last_ties order same None None = refl
