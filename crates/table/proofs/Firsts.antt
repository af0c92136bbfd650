-- The first of the jobs and of the holders, as the least among their tasks.
use Rattle.std.proofs.Common.{◌≡◌, ℕ, ◌<◌, ◌≤◌, Bool, true, false, cond, ◌&&◌, eqb, List, length, get_or, Some, None, sym, refl, ap, ◌∙◌, ⊎_elim, subst, arith}
use Rattle.std.proofs.lemmas.Bool.{cases_lt, both_ways, and_parts}
use Rattle.std.specs.List.{IsFirstBest, filter_map, range_with_len}
use Rattle.std.specs.Ordering.{is_lt, nat_cmp, ordering_then}
use Rattle.order.specs.declared.elements.Holder.{Holder}
use Rattle.order.specs.declared.elements.Job.{Job}
use Rattle.plan.specs.Contents.{Contents}
use Rattle.rules.specs.Holders.{nearest_of, task_and_left, ticks_left}
use Rattle.rules.specs.Jobs.{earliest_of, jobs_of}
use Rattle.rules.specs.States.{is_held_back, is_holding, idle_task}
use Rattle.rules.specs.declared.task.Task.{Task}
use Rattle.table.specs.Members.{members_of}
use Rattle.table.specs.Rows.{job_at}
use Rattle.table.specs.declared.selection.Selection.TheVariants.{HeldBack}
use Rattle.table.proofs.Ranks.{job_before}
use Rattle.table.proofs.Selected.{of_filter, row, first_found, first_none}

-- where something is there
pub present : {E : Type 0} (b : Bool) (x y : E) → cond b (Some x) None ≡ Some y → (b ≡ true) × (x ≡ y)
present true x y e = (refl, cc)
present false x y e = absurd cc

abbrev pub holder_before : Holder → Holder → Bool
holder_before x y = is_lt (ordering_then (nat_cmp x.left y.left) (nat_cmp x.task y.task))

-- what is not told of a task without a job is told only of the first n
pub below_end : (n : ℕ) (tasks : ℕ → Task) (test : Task → Bool) → ((q : ℕ) → n ≤ q → tasks q ≡ idle_task) → test idle_task ≡ false → (k : ℕ) → test (tasks k) ≡ true → k < n
below_end n tasks test idle fails k e = ⊎_elim (λ (l : k < n). l) (λ (far : n ≤ k). absurd (both_ways (test (tasks k)) (ap test (idle k far) ∙ fails) e)) (cases_lt k n)

-- the earliest held-back job of a cluster
module _ (p : Contents) (n : ℕ) (tasks : ℕ → Task) (g : ℕ) (known : n ≤ length p.tasks) (idle : (q : ℕ) → n ≤ q → tasks q ≡ idle_task) where
  abbrev held : ℕ → Bool
  held u = is_held_back (tasks u).state

  abbrev inside : ℕ → Bool
  inside u = eqb (get_or p.tasks u 0) g

  abbrev job_of : ℕ → Job
  job_of u = record { release = (tasks u).release; task = u }

  same_row : filter_map (job_at tasks HeldBack) (members_of p g) ≡ row (λ u. held u && inside u) job_of (length p.tasks)
  same_row = of_filter held inside job_of (range_with_len 0 (length p.tasks))

  held_known : (k : ℕ) → (held k && inside k) ≡ true → k < n
  held_known k e = below_end n tasks (λ t. is_held_back t.state) idle refl k (and_parts (held k) (inside k) e).0

  pub earliest_some : (jobs : List Job) (b : ℕ) (d : Job) → jobs ≡ filter_map (job_at tasks HeldBack) (members_of p g) → IsFirstBest job_before jobs (length jobs) b → Some (get_or jobs b d).task ≡ earliest_of p n (jobs_of tasks) g
  earliest_some jobs b d are best =
      let same = are ∙ same_row in
      let found = first_found (λ u. held u && inside u) job_of (λ y z. ordering_then (nat_cmp y.release z.release) (nat_cmp y.task z.task)) (λ u. (tasks u).release) (length p.tasks) n known held_known (λ j k. refl) b d (subst (λ xs. IsFirstBest job_before xs (length xs) b) same best) in
      ap (λ (y : Job). Some y.task) (ap (λ xs. get_or xs b d) same ∙ found.2) ∙ sym found.1

  pub earliest_none : (jobs : List Job) → jobs ≡ filter_map (job_at tasks HeldBack) (members_of p g) → length jobs ≡ 0 → None ≡ earliest_of p n (jobs_of tasks) g
  earliest_none jobs are none = sym (first_none (λ u. held u && inside u) job_of (λ y z. ordering_then (nat_cmp y.release z.release) (nat_cmp y.task z.task)) (λ u. (tasks u).release) (length p.tasks) n known held_known (λ j k. refl) (sym (ap length (are ∙ same_row)) ∙ none))

-- the holder nearest its end
module _ (p : Contents) (n : ℕ) (tasks : ℕ → Task) (idle : (q : ℕ) → n ≤ q → tasks q ≡ idle_task) where
  abbrev holds : ℕ → Bool
  holds t = is_holding (tasks t).state

  abbrev holder_of : ℕ → Holder
  holder_of t = record { left = ticks_left p tasks t; task = t }

  holds_known : (k : ℕ) → holds k ≡ true → k < n
  holds_known k e = below_end n tasks (λ t. is_holding t.state) idle refl k e

  pub nearest_some : (holders : List Holder) (b : ℕ) (d : Holder) → holders ≡ row holds holder_of n → IsFirstBest holder_before holders (length holders) b → Some ((get_or holders b d).task, (get_or holders b d).left) ≡ nearest_of p n tasks
  nearest_some holders b d are best =
      let found = first_found holds holder_of (λ y z. ordering_then (nat_cmp y.left z.left) (nat_cmp y.task z.task)) (ticks_left p tasks) n n (omega arith) holds_known (λ j k. refl) b d (subst (λ xs. IsFirstBest holder_before xs (length xs) b) are best) in
      ap (λ (y : Holder). Some (y.task, y.left)) (ap (λ xs. get_or xs b d) are ∙ found.2) ∙ sym (ap (task_and_left (ticks_left p tasks)) found.1)

  pub nearest_none : (holders : List Holder) → holders ≡ row holds holder_of n → length holders ≡ 0 → None ≡ nearest_of p n tasks
  nearest_none holders are none = sym (ap (task_and_left (ticks_left p tasks)) (first_none holds holder_of (λ y z. ordering_then (nat_cmp y.left z.left) (nat_cmp y.task z.task)) (ticks_left p tasks) n n (omega arith) holds_known (λ j k. refl) (sym (ap length are) ∙ none)))
