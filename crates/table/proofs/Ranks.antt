-- The jobs before one, counted in a row and over all tasks.
use Rattle.std.proofs.Common.{◌≡◌, ℕ, zero, suc, ◌+◌, ◌≤◌, Bool, true, false, cond, ◌&&◌, eqb, ltb, ◌⊎◌, List, [], ◌∷◌, length, take, drop, Some, None, Option, count_by, sym, refl, ap, ◌∙◌, inl, inr, ⊎_elim, arith}
use Rattle.std.proofs.lemmas.Bool.{cases_eq, and_left, cond-false, le-ltb}
use Rattle.std.proofs.lemmas.Bool.Decides.{nat_tests}
use Rattle.std.proofs.lemmas.List.{take-append-drop}
use Rattle.std.proofs.lemmas.List.Elements.{filter_map-append}
use Rattle.std.proofs.lemmas.List.Sums.{sum_by-append}
use Rattle.std.specs.List.{filter_map, range_with_len}
use Rattle.std.specs.Ordering.{is_lt, nat_cmp, ordering_then}
use Rattle.order.specs.declared.elements.Job.{Job}
use Rattle.plan.specs.Contents.{Contents}
use Rattle.rules.specs.Jobs.{before, cluster_of, count_below, jobs_of}
use Rattle.rules.specs.States.{idle_task}
use Rattle.rules.specs.declared.task.State.TheVariants.{Idle}
use Rattle.rules.specs.declared.task.Task.{Task}
use Rattle.rules.proofs.Counts.{count_same}
use Rattle.table.specs.Members.{members_of}
use Rattle.table.specs.Rows.{tasks_in, without, selects, job_at}
use Rattle.table.specs.declared.selection.Selection.{Selection}
use Rattle.table.specs.declared.selection.Selection.TheVariants.{Unfinished, Ready, HeldBack}
use Rattle.table.proofs.Rows.{past_end}
use Rattle.table.proofs.Selected.{of_filter, count_row}

-- tasks behind the counted ones, and behind the records, are idle
pub tasks_past : (n : ℕ) (rows : List Task) (q : ℕ) → (n ≤ q) ⊎ (length rows ≤ q) → tasks_in n rows q ≡ idle_task
tasks_past n rows q (inl h) = cond-false (ltb q n) _ _ (le-ltb q n h)
tasks_past n rows q (inr h) = ap (λ x. cond (ltb q n) x idle_task) (past_end rows q idle_task h) ∙ same (ltb q n)
  where
    same : (b : Bool) → cond b idle_task idle_task ≡ idle_task
    same true = refl
    same false = refl

-- so are they where the job of one is looked at as ended
pub records_past : (ended : Option ℕ) (n : ℕ) (rows : List Task) (q : ℕ) → n ≤ q → without ended (tasks_in n rows) q ≡ idle_task
records_past None n rows q h = tasks_past n rows q (inl h)
records_past (Some t) n rows q h = ap (λ x. cond (eqb t q) idle_task x) (tasks_past n rows q (inl h)) ∙ same (eqb t q)
  where
    same : (b : Bool) → cond b idle_task idle_task ≡ idle_task
    same true = refl
    same false = refl

pub idle_unselected : (which : Selection) → selects which Idle ≡ false
idle_unselected Unfinished = refl
idle_unselected Ready = refl
idle_unselected HeldBack = refl

-- where nothing passes from m on
pub count_past : (test : ℕ → Bool) (m n : ℕ) → m ≤ n → ((k : ℕ) → m ≤ k → test k ≡ false) → count_below test n ≡ count_below test m
count_past test m zero h none = let e : 0 ≡ m = omega arith in ap (count_below test) e
count_past test m (suc n) h none =
    ⊎_elim
    (λ (e : m ≡ suc n). ap (count_below test) (sym e))
    (λ (ne : m ≡ suc n → ⊥). rw (none n (omega arith)) (omega (arith, count_past test m n (omega arith) none)))
    (cases_eq m (suc n))

abbrev pub job_before : Job → Job → Bool
job_before x y = is_lt (ordering_then (nat_cmp x.release y.release) (nat_cmp x.task y.task))

before_number : (a b : Bool) (x t n : ℕ) → ((a && b) && is_lt (ordering_then (nat_cmp x n) (nat_cmp t 0))) ≡ (a && (b && ltb x n))
before_number true true x t n = grind (arith, nat_tests)
before_number true false x t n = refl
before_number false b x t n = refl

pub jobs_counted : (p : Contents) (n : ℕ) (tasks : ℕ → Task) (which : Selection) (t : ℕ) → n ≤ length p.tasks → ((q : ℕ) → n ≤ q → tasks q ≡ idle_task)
    → count_by (λ y. job_before y (record { release = (tasks t).release; task = 0 })) (filter_map (job_at tasks which) (members_of p (cluster_of p t))) ≡ before p n (jobs_of tasks) (λ u. selects which (tasks u).state) t
jobs_counted p n tasks which t known idle =
    let chosen : ℕ → Bool = λ u. selects which (tasks u).state in
    let inside : ℕ → Bool = λ u. eqb (cluster_of p u) (cluster_of p t) in
    let job : ℕ → Job = λ u. record { release = (tasks u).release; task = u } in
    let first : Job → Bool = λ y. job_before y (record { release = (tasks t).release; task = 0 }) in
    let test : ℕ → Bool = λ u. chosen u && (inside u && ltb (tasks u).release (tasks t).release) in
    ap (count_by first) (of_filter chosen inside job (range_with_len 0 (length p.tasks)))
    ∙ (count_row (λ u. chosen u && inside u) job first (length p.tasks)
    ∙ (count_same _ test (length p.tasks) (λ u lt. before_number (chosen u) (inside u) (tasks u).release u (tasks t).release)
    ∙ count_past test n (length p.tasks) known (λ k far. and_left (chosen k) _ (ap (λ (x : Task). selects which x.state) (idle k far) ∙ idle_unselected which))))

-- the jobs of a list of tasks, counted in two parts
pub counted_parts : (P : Job → Bool) (h : ℕ → Option Job) (k : ℕ) (ts : List ℕ) (n before here rest : ℕ) → n ≡ before + count_by P (filter_map h ts) → here ≡ count_by P (filter_map h (take k ts)) → rest ≡ count_by P (filter_map h (drop k ts)) → n ≡ (before + here) + rest
counted_parts P h k ts n before here rest all front back =
    let cut = ap (λ xs. count_by P (filter_map h xs)) (sym (take-append-drop k ts)) ∙ ap (count_by P) (filter_map-append h (take k ts) (drop k ts)) in
    omega (arith, all, front, back, cut, sum_by-append (λ y. cond (P y) 1 0) (filter_map h (take k ts)) (filter_map h (drop k ts)))

pub counted_all : (P : Job → Bool) (h : ℕ → Option Job) (ts : List ℕ) (n before : ℕ) → n ≡ before + count_by P (filter_map h ts) → length ts ≡ 0 → before ≡ n
counted_all P h [] n before all none = omega arith
counted_all P h (t ∷ ts) n before all none = absurd (omega arith)
