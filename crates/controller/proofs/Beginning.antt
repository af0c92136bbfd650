-- How a controller begins, over a bank that fits and over one that does not.
use Rattle.std.proofs.Common.{◌≡◌, ℕ, ◌<◌, ◌≤◌, Bool, true, false, cond, ◌&&◌, eqb, ltb, ◌⊎◌, length, get_or, replicate, sym, refl, ap, ◌∙◌, subst, inl, inr, arith}
use Rattle.std.proofs.ByRecursion.{All-get_or}
use Rattle.std.proofs.lemmas.Bool.{ltb-true, eq-eqb}
use Rattle.bank.specs.Meaning.{Lists, Small}
use Rattle.bank.specs.Questions.{Told}
use Rattle.plan.specs.Contents.{Contents, resource_count, processors}
use Rattle.plan.specs.Of.{plan_contents}
use Rattle.plan.specs.declared.plan.Plan.{Plan}
use Rattle.plan.proofs.Lawful.{lawful}
use Rattle.rules.specs.Jobs.{Setup, Snapshot}
use Rattle.rules.specs.Questions.{all_below, fits, fits_at}
use Rattle.rules.specs.Runs.{Fitting, Unfit, Begins}
use Rattle.rules.specs.States.{idle_task}
use Rattle.rules.specs.declared.task.Task.{Task}
use Rattle.rules.proofs.Counts.{all_below_lem, all_below_from}
use Rattle.rules.proofs.Fits.{fits_true, fits_false}
use Rattle.table.specs.Rows.{tasks_in}
use Rattle.table.proofs.Rows.{same_all}

-- whether all pass, by each
pub all_by_each : (test : ℕ → Bool) (n : ℕ) (b : Bool) → (b ≡ true → (k : ℕ) → k < n → test k ≡ true) → (((k : ℕ) → k < n → test k ≡ true) → b ≡ true) → b ≡ all_below test n
all_by_each test n b all only = same b (all_below test n) (λ e. all_below_from test n (all e)) (λ e. only (all_below_lem test n e))
  where
    same : (b x : Bool) → (b ≡ true → x ≡ true) → (x ≡ true → b ≡ true) → b ≡ x
    same true x f g = sym (f refl)
    same false true f g = g refl
    same false false f g = refl

-- a bank fits by its resources where their number and the seats are the plan's
pub fits_by : (c : Contents) (t : Told) (lists : Lists) (n : ℕ) (b : Bool) → t.resources ≡ resource_count c → t.seats ≡ processors c → n ≡ resource_count c → b ≡ all_below (fits_at c t lists) n → b ≡ fits c t lists
fits_by c t lists n b e s m all =
    let whole = all_below (fits_at c t lists) (resource_count c) in
    all ∙ (ap (all_below (fits_at c t lists)) m ∙ sym (ap (λ x. x && (eqb t.seats (processors c) && whole)) (eq-eqb _ _ e) ∙ ap (λ x. x && whole) (eq-eqb _ _ s)))

-- what was found: the bank fits, and there are the plan's tasks and resources, or it does not, and there are none
abbrev Found : Setup → Lists → Type 0
Found a lists =
    ((fits a.plan a.told lists ≡ true) × (a.tasks ≡ length a.plan.tasks) × (a.resources ≡ resource_count a.plan))
    ⊎ ((fits a.plan a.told lists ≡ false) × (a.tasks ≡ 0) × (a.resources ≡ 0))

fitting_of : (a : Setup) (lists : Lists) → Found a lists → Fitting a lists ⊎ Unfit a lists
fitting_of a lists (inl f) = inl (record { fit = fits_true a.plan a.told lists f.0; tasks = f.1; resources = f.2 })
fitting_of a lists (inr f) = inr (record { misfit = fits_false a.plan a.told lists f.0; tasks = f.1; resources = f.2 })

begun_few : (p : Plan) (a : Setup) (lists : Lists) → a.plan ≡ plan_contents p → Found a lists → a.tasks ≤ length (plan_contents p).tasks
begun_few p a lists e (inl f) = let h = f.1 ∙ ap (λ (x : Contents). length x.tasks) e in omega arith
begun_few p a lists e (inr f) = let h = f.1 in omega arith

pub begun : (p : Plan) (a : Setup) (s : Snapshot) → a.plan ≡ plan_contents p → Small a.told → Found a s.lists → ((q : ℕ) → s.tasks q ≡ idle_task) → s.clock ≡ 0 → s.releases ≡ 0 → Begins a s
begun p a s e small found idle clock releases =
    let l = lawful p.tables in
    let known = begun_few p a s.lists e found in
    record {
      set_up =
          record {
            small = small;
            few = omega (arith, l.few_tasks);
            clusters = λ t lt. subst (λ (x : Contents). get_or x.tasks t 0 < length x.clusters) (sym e) (ltb-true _ _ (All-get_or (λ g. ltb g (length (plan_contents p).clusters) ≡ true) (plan_contents p).tasks t 0 (omega arith) l.tasks));
            fitting = fitting_of a s.lists found;
          };
      idle = idle;
      clock = clock;
      releases = releases;
    }

pub idle_all : (n q : ℕ) → tasks_in n (replicate 64 idle_task) q ≡ idle_task
idle_all n q = ap (λ (k : Task). cond (ltb q n) k idle_task) (same_all 64 idle_task q) ∙ both (ltb q n)
  where
    both : (b : Bool) → cond b idle_task idle_task ≡ idle_task
    both true = refl
    both false = refl
