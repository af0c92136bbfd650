-- Orders of elements, and what tells that they tell elements apart.
use Rattle.std.specs.Prelude.{◌≡◌, Bool, false, Some, None, Option}
use Rattle.std.specs.Ordering.{is_lt}
use Rattle.std.specs.declared.cmp.Ordering.{Ordering}
use Rattle.std.specs.declared.cmp.Ordering.TheVariants.{Less, Equal, Greater}

-- What is there comes before what is absent.
abbrev pub absent_last : {A : Type 0} → (A → A → Ordering) → Option A → Option A → Ordering
absent_last order (Some x) (Some y) = order x y
absent_last order (Some x) None = Less
absent_last order None (Some y) = Greater
absent_last order None None = Equal

-- Elements that an order calls equal are the same value.
abbrev pub SameIfEqual : {A : Type 0} → (A → A → Ordering) → Type 0
SameIfEqual {A} order = (x y : A) → order x y ≡ Equal → x ≡ y

-- The answer is whether x comes before y. Where neither comes before the other, they are the same
-- value.
abbrev pub SameIfNeither : {A : Type 0} → (A → A → Ordering) → Bool → A → A → Type 0
SameIfNeither order answer x y = answer ≡ false → is_lt (order y x) ≡ false → x ≡ y
