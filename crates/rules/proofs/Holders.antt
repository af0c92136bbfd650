-- Holders and the ticks that they have left, in a run.
use Rattle.std.proofs.Common.{◌≡◌, ℕ, ◌+◌, ◌-◌, ◌<◌, ◌≤◌, Bool, true, false, not, ◌&&◌, ◌||◌, is_some, Some, None, Ok, Err, Option, Result, unwrap_or, sym, refl, ap, ◌∙◌, subst, ⊎_elim, arith}
use Rattle.std.proofs.lemmas.Bool.{le-leb, leb-true, false≢true, both_ways, cases_Bool, cases_lt}
use Rattle.plan.specs.Contents.{Contents, length_at}
use Rattle.rules.specs.Answers.{ticked}
use Rattle.rules.specs.Histories.{History, lists, job, wanted, issued, waiting, is_suspended_after, used, state, state_of, entry_of, after}
use Rattle.rules.specs.Holders.{HasLeft, NamesLate, IsNearestEnd, ticks_left, task_and_left, nearest_of}
use Rattle.rules.specs.Jobs.{Setup, least_below}
use Rattle.rules.specs.Moves.{is_queued}
use Rattle.rules.specs.Promises.{LateNamed}
use Rattle.rules.specs.Questions.{length_for, late, late_in, late_task}
use Rattle.rules.specs.States.{is_holding, is_suspended, wanted_of}
use Rattle.rules.specs.declared.refusal.Refusal.{Refusal}
use Rattle.rules.specs.declared.task.State.{State}
use Rattle.rules.specs.declared.task.State.TheVariants.{Idle, Going, HeldBack, Waiting, Holding}
use Rattle.rules.specs.declared.task.Task.{Task}
use Rattle.rules.specs.declared.task.Wanted.{Wanted}
use Rattle.rules.proofs.Counts.{least_some, least_first, least_none, lowest_some, lowest_none}
use Rattle.rules.proofs.Lift.{InvOf}
use Rattle.rules.proofs.LiftGive.{Holds, holding_shape}
use Rattle.rules.proofs.Ticks.{held_or_waits}
use Rattle.rules.proofs.Words.{words_of, held_in, TaskKept}

-- a declared length that is not passed is what was used and the rest
rest_of : (o : Option ℕ) (n : ℕ) → is_some o ≡ true → n ≤ unwrap_or o 0 → o ≡ Some (n + (unwrap_or o 0 - n))
rest_of None n e le = absurd (false≢true e)
rest_of (Some l) n e le = let same : l ≡ n + (l - n) = omega arith in ap (λ (k : ℕ). Some k) same

-- who has ticks left holds, and has as many left as are found
module _ (p : Contents) (tasks : ℕ → Task) (t n : ℕ) (has : HasLeft p tasks t n) where
  pub left_holds : is_holding (tasks t).state ≡ true
  left_holds = ap is_holding has.holds

  pub left_length : length_for p t has.wanted.resource ≡ (tasks t).used + n
  left_length = ap (λ (o : Option ℕ). unwrap_or o 0) has.left

  pub left_is : ticks_left p tasks t ≡ n
  left_is =
      let there : length_for p t (wanted_of (tasks t).state).resource ≡ length_for p t has.wanted.resource = ap (λ (st : State). length_for p t (wanted_of st).resource) has.holds in
      omega (arith, there, left_length)

  pub none_left : n ≡ 0 → late_in p t (tasks t).used (tasks t).state ≡ true
  none_left e = ap (late_in p t (tasks t).used) has.holds ∙ le-leb (length_for p t has.wanted.resource) (tasks t).used (omega (arith, left_length, e))

not_less : (m n : ℕ) → (n < m → ⊥) → m ≤ n
not_less m n f = ⊎_elim (λ (l : n < m). absurd (f l)) (λ (g : m ≤ n). g) (cases_lt n m)

-- the holder that is found is the nearest its end, where each holder is a task and has ticks left or none
module _ (p : Contents) (m : ℕ) (tasks : ℕ → Task) (known : (t : ℕ) → is_holding (tasks t).state ≡ true → t < m) (left : (t : ℕ) → is_holding (tasks t).state ≡ true → HasLeft p tasks t (ticks_left p tasks t)) where
  pub is_nearest : IsNearestEnd p tasks (nearest_of p m tasks)
  is_nearest = go (least_below test value m) refl
    where
      test : ℕ → Bool
      test t = is_holding (tasks t).state

      value : ℕ → ℕ
      value t = ticks_left p tasks t

      less_same : {m n : ℕ} → m < n → n ≡ m → ⊥
      less_same l e = omega arith

      go : (o : Option ℕ) → least_below test value m ≡ o → IsNearestEnd p tasks (task_and_left value o)
      go None e = λ t. ⊎_elim (λ f. absurd (both_ways (test t) (least_none test value m e t (known t f)) f)) (λ f. f) (cases_Bool (test t))
      go (Some t) e =
          let found = least_some test value m t e in
          record {
            holder = left t found.0;
            fewest = λ u k has. let holds = left_holds p tasks u k has in omega (arith, found.2 u (known u holds) holds, left_is p tasks u k has);
            lowest = λ u has. not_less t u (λ lt. less_same (least_first test value m t e u lt (left_holds p tasks u (value t) has)) (left_is p tasks u (value t) has));
          }

late_holds : (p : Contents) (t u : ℕ) (st : State) → late_in p t u st ≡ true → is_holding st ≡ true
late_holds a t u Idle e = absurd (false≢true e)
late_holds a t u Going e = absurd (false≢true e)
late_holds a t u (HeldBack w) e = absurd (false≢true e)
late_holds a t u (Waiting w) e = absurd (false≢true e)
late_holds a t u (Holding w) e = refl

module _ (a : Setup) (h : History) (i : InvOf a h) where
  shape : (t : ℕ) → is_holding (state t h) ≡ true → Holds (job t h) (wanted t h) (issued t h) (held_in t (words_of a h t) (lists h))
  shape t e = holding_shape (job t h) (wanted t h) (issued t h) (held_in t (words_of a h t) (lists h)) e

  holder_known : (t : ℕ) → is_holding (state t h) ≡ true → t < a.tasks
  holder_known t e = (i.tasks t).known (shape t e).job

  -- a holder has ticks left, or none
  pub holder_left : (t : ℕ) → is_holding (state t h) ≡ true → HasLeft a.plan (after a h).tasks t (ticks_left a.plan (after a h).tasks t)
  holder_left t e =
      let x = shape t e in
      let l = length_for a.plan t x.wanted.resource in
      let there : length_for a.plan t (wanted_of (state t h)).resource ≡ l = ap (λ (st : State). length_for a.plan t (wanted_of st).resource) x.state in
      record {
        wanted = x.wanted;
        holds = x.state;
        left = rest_of (length_at a.plan t x.wanted.resource) (used t h) ((i.tasks t).placed x.wanted x.is).declared ((i.tasks t).in_time x.wanted x.is x.held)
            ∙ ap (λ (k : ℕ). Some (used t h + (k - used t h))) (sym there);
      }

  late_left : (t : ℕ) → late a (after a h) t ≡ true → HasLeft a.plan (after a h).tasks t 0
  late_left t e =
      let holds = late_holds a.plan t (used t h) (state t h) e in
      let has = holder_left t holds in
      let passed : length_for a.plan t has.wanted.resource ≤ used t h = leb-true (length_for a.plan t has.wanted.resource) (used t h) (sym (ap (late_in a.plan t (used t h)) has.holds) ∙ e) in
      let zero : ticks_left a.plan (after a h).tasks t ≡ 0 = omega (arith, left_length a.plan (after a h).tasks t (ticks_left a.plan (after a h).tasks t) has, passed) in
      subst (HasLeft a.plan (after a h).tasks t) zero has

  -- the task that the questions name is the lowest late one
  pub names_late : NamesLate a.plan (after a h).tasks (late_task a (after a h))
  names_late = go (late_task a (after a h)) refl
    where
      go : (o : Option ℕ) → late_task a (after a h) ≡ o → NamesLate a.plan (after a h).tasks o
      go None e = λ u has. both_ways (late a (after a h) u) (lowest_none (late a (after a h)) a.tasks e u (holder_known u (left_holds a.plan (after a h).tasks u 0 has))) (none_left a.plan (after a h).tasks u 0 has refl)
      go (Some t) e =
          let found = lowest_some (late a (after a h)) a.tasks t e in
          (late_left t found.0, λ u has. not_below u (none_left a.plan (after a h).tasks u 0 has refl) found.2)
        where
          not_below : (u : ℕ) → late a (after a h) u ≡ true → ((k : ℕ) → k < t → late a (after a h) k ≡ false) → t ≤ u
          not_below u f low = not_less t u (λ lt. both_ways (late a (after a h) u) (low u lt) f)

-- a task waits or is held back, by its record and by its words
pub suspended_words : (a : Setup) (n : ℕ) (h : History) (t : ℕ) → TaskKept a n (lists h) t (words_of a h t) → is_suspended (state t h) ≡ is_suspended_after t h
suspended_words a n h t k = go (job t h) (wanted t h) (issued t h) (held_in t (words_of a h t) (lists h)) (waiting t h) k.no_job k.no_request (λ e. held_or_waits a n (lists h) t (words_of a h t) k e) (λ e. ap (λ (b : Bool). b && is_queued (entry_of t (wanted t h) (lists h))) e)
  where
    go : (j : Option ℕ) (o : Option Wanted) (b x y : Bool) → (j ≡ None → o ≡ None) → (o ≡ None → b ≡ false) → (b ≡ true → x ≡ not y) → (b ≡ false → y ≡ false) → is_suspended (state_of j o b x) ≡ (y || (is_some o && not b))
    go None o b x y f g s z = rw (f refl, z (g (f refl))) refl
    go (Some m) None b x y f g s z = rw (z (g refl)) refl
    go (Some m) (Some w) false x y f g s z = rw (z refl) refl
    go (Some m) (Some w) true true true f g s z = absurd (false≢true (sym (s refl)))
    go (Some m) (Some w) true true false f g s z = refl
    go (Some m) (Some w) true false true f g s z = refl
    go (Some m) (Some w) true false false f g s z = absurd (false≢true (s refl))
