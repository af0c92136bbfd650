-- The holder nearest its end, where what each task has asked for keeps its declared length.
use Rattle.std.proofs.Common.{◌≡◌, ℕ, ◌+◌, ◌-◌, ◌≤◌, true, false, Bool, cond, eqb, Some, None, Option, unwrap_or, sym, refl, ap, ◌∙◌, arith}
use Rattle.std.proofs.lemmas.Bool.{leb-true, false≢true}
use Rattle.plan.specs.Contents.{Contents, length_at}
use Rattle.rules.specs.Holders.{HasLeft, IsNearestEnd, nearest_of, ticks_left}
use Rattle.rules.specs.Questions.{length_for}
use Rattle.rules.specs.States.{is_holding, wanted_of, idle_task}
use Rattle.rules.specs.declared.task.State.{State}
use Rattle.rules.specs.declared.task.State.TheVariants.{Holding}
use Rattle.rules.specs.declared.task.Task.{Task}
use Rattle.rules.proofs.Holders.{is_nearest}
use Rattle.table.specs.Rows.{without, is_within, keeps_length, KeepsLengths}
use Rattle.table.proofs.Firsts.{below_end}

-- a declared length that is not passed is what was used and the rest
rest_of : (o : Option ℕ) (n : ℕ) → is_within n o ≡ true → o ≡ Some (n + (unwrap_or o 0 - n))
rest_of None n e = absurd (false≢true e)
rest_of (Some l) n e =
    let le = leb-true n l e in
    let same : l ≡ n + (l - n) = omega arith in
    ap (λ (k : ℕ). Some k) same

-- a holder has ticks left, or none
holder_left : (p : Contents) (tasks : ℕ → Task) (t : ℕ) (st : State) → (tasks t).state ≡ st → keeps_length p t (tasks t).used st ≡ true → is_holding st ≡ true → HasLeft p tasks t (ticks_left p tasks t)
holder_left p tasks t (Holding w) is kept e = record {
  wanted = w;
  holds = is;
  left = rest_of (length_at p t w.resource) (tasks t).used kept
      ∙ ap (λ (st : State). Some ((tasks t).used + (length_for p t (wanted_of st).resource - (tasks t).used))) (sym is);
}
holder_left p tasks t _ is kept e = absurd (false≢true e)

-- a task without a job keeps every length
pub without_keeps : (p : Contents) (ended : Option ℕ) (tasks : ℕ → Task) → KeepsLengths p tasks → KeepsLengths p (without ended tasks)
without_keeps p None tasks kept q = kept q
without_keeps p (Some t) tasks kept q = go (eqb t q)
  where
    go : (b : Bool) → keeps_length p q (cond b idle_task (tasks q)).used (cond b idle_task (tasks q)).state ≡ true
    go true = refl
    go false = kept q

pub nearest_kept : (p : Contents) (n : ℕ) (tasks : ℕ → Task) → ((q : ℕ) → n ≤ q → tasks q ≡ idle_task) → KeepsLengths p tasks → IsNearestEnd p tasks (nearest_of p n tasks)
nearest_kept p n tasks idle kept = is_nearest p n tasks (below_end n tasks (λ t. is_holding t.state) idle refl) (λ t e. holder_left p tasks t (tasks t).state refl (kept t) e)
