-- Elements that their order does not tell apart are the same value.
use Rattle.std.specs.Prelude.{◌≡◌, Some, None}
use Rattle.std.specs.Ordering.{is_gt, is_lt, nat_cmp, ordering_then}
use Rattle.std.specs.declared.cmp.Ordering.{Ordering}
use Rattle.std.specs.declared.cmp.Ordering.TheVariants.{Less, Equal, Greater}
use Rattle.std.proofs.Common.{refl, ap}
use Rattle.std.proofs.lemmas.Bool.{true≢false}
use Rattle.std.proofs.lemmas.Cmp.{ranked}
use Rattle.order.specs.Orders.{SameIfEqual, absent_last}
use Rattle.order.specs.contracts.elements.HolderOrd.TheImpl as holder_ord
use Rattle.order.specs.contracts.elements.JobOrd.TheImpl as job_ord

nat_apart : SameIfEqual nat_cmp
nat_apart a b e = by_answer (nat_cmp a b) refl e
  where
    by_answer : (r : Ordering) → r ≡ nat_cmp a b → r ≡ Equal → a ≡ b
    by_answer Less is e = absurd (true≢false (ap is_lt e))
    by_answer Equal is e = ranked a b Equal is
    by_answer Greater is e = absurd (true≢false (ap is_gt e))

both_equal : (o p : Ordering) → ordering_then o p ≡ Equal → (o ≡ Equal) × (p ≡ Equal)
both_equal Less p e = absurd (true≢false (ap is_lt e))
both_equal Equal p e = (refl, e)
both_equal Greater p e = absurd (true≢false (ap is_gt e))

pub job_apart : SameIfEqual (job_ord.ghosts).cmp
job_apart x y e =
    let both = both_equal (nat_cmp x.release y.release) (nat_cmp x.task y.task) e in
    let release = nat_apart x.release y.release both.0 in
    let task = nat_apart x.task y.task both.1 in
    λ i. record { release = release i; task = task i }

pub holder_apart : SameIfEqual (holder_ord.ghosts).cmp
holder_apart x y e =
    let both = both_equal (nat_cmp x.left y.left) (nat_cmp x.task y.task) e in
    let left = nat_apart x.left y.left both.0 in
    let task = nat_apart x.task y.task both.1 in
    λ i. record { left = left i; task = task i }

pub absent_last_apart : {A : Type 0} {order : A → A → Ordering} → SameIfEqual order → SameIfEqual (absent_last order)
absent_last_apart apart (Some x) (Some y) e = ap Some (apart x y e)
absent_last_apart apart (Some x) None e = absurd (true≢false (ap is_lt e))
absent_last_apart apart None (Some y) e = absurd (true≢false (ap is_gt e))
absent_last_apart apart None None e = refl
