-- What a history says of one task, and what every run keeps of it.
use Rattle.std.proofs.Common.{◌≡◌, ℕ, ◌<◌, ◌≤◌, Bool, true, false, cond, not, ◌&&◌, eqb, is_some, Some, None, Option, unwrap_or, sym, refl, ap, ◌∙◌, subst, arith}
use Rattle.std.proofs.lemmas.Bool.{eqb-true}
use Rattle.bank.specs.Lists.{request_of}
use Rattle.bank.specs.Meaning.{Lists, Sound}
use Rattle.bank.specs.Questions.{knows}
use Rattle.bank.specs.declared.request.Request.{Request}
use Rattle.plan.specs.Contents.{length_at, longest_at}
use Rattle.rules.specs.Histories.{History, job, wanted, issued, used, waited, job_waited, blocked_ticks_of, entry_of, state_of}
use Rattle.rules.specs.Jobs.{Setup, Jobs, unfinished, is_among_first}
use Rattle.rules.specs.Moves.{is_held, is_queued}
use Rattle.rules.specs.Promises.{is_at, WithinLimit}
use Rattle.rules.specs.Questions.{length_for}
use Rattle.rules.specs.States.{is_idle}
use Rattle.rules.specs.declared.task.State.{State}
use Rattle.rules.specs.declared.task.Wanted.{Wanted}
use Rattle.rules.proofs.Entries.{listed}
use Rattle.rules.proofs.Places.{Numbered, first_same}
use Rattle.rules.proofs.Waiting.{OwedAll}

pub record TaskWords : Type 0 where
  pub job : Option ℕ
  pub wanted : Option Wanted
  pub issued : Bool
  pub used : ℕ
  pub waited : ℕ
  pub job_waited : ℕ
  pub blocked : ℕ

abbrev pub words_of : Setup → History → ℕ → TaskWords
words_of a h q = record { job = job q h; wanted = wanted q h; issued = issued q h; used = used q h; waited = waited q h; job_waited = job_waited q h; blocked = blocked_ticks_of a q h }

abbrev pub held_in : ℕ → TaskWords → Lists → Bool
held_in q k ls = k.issued && is_held (entry_of q k.wanted ls)

abbrev pub waits_in : ℕ → TaskWords → Lists → Bool
waits_in q k ls = k.issued && is_queued (entry_of q k.wanted ls)

abbrev pub state_in : ℕ → TaskWords → Lists → State
state_in q k ls = state_of k.job k.wanted k.issued (held_in q k ls)

abbrev pub word_jobs : (ℕ → TaskWords) → Lists → Jobs
word_jobs ks ls = record { state = λ q. state_in q (ks q) ls; number = λ q. unwrap_or (ks q).job 0 }

-- what a task asked for exists, and a length is declared for it
pub record Placed (a : Setup) (q : ℕ) (w : Wanted) : Type 0 where
  pub there : w.resource < a.resources
  pub known : knows a.told w.resource w.mode ≡ true
  pub declared : is_some (length_at a.plan q w.resource) ≡ true

-- what is kept of one task
pub record TaskKept (a : Setup) (n : ℕ) (ls : Lists) (q : ℕ) (k : TaskWords) : Type 0 where
  pub no_job : k.job ≡ None → k.wanted ≡ None
  pub no_request : k.wanted ≡ None → k.issued ≡ false
  pub known : is_some k.job ≡ true → q < a.tasks
  pub below : is_some k.job ≡ true → unwrap_or k.job 0 < n
  pub placed : (w : Wanted) → k.wanted ≡ Some w → Placed a q w
  pub unused : held_in q k ls ≡ false → k.used ≡ 0
  pub in_time : (w : Wanted) → k.wanted ≡ Some w → held_in q k ls ≡ true → k.used ≤ length_for a.plan q w.resource
  pub blocked : k.blocked ≡ k.job_waited
  pub bounded : k.issued ≡ true → WithinLimit a k.waited k.wanted
  pub once : (r : ℕ) → r < a.resources → listed q (ls r) ≡ cond (k.issued && is_at r k.wanted) 1 0
  pub mode : (w : Wanted) → k.wanted ≡ Some w → (x : Request) → request_of q (ls w.resource) ≡ Some x → x.mode ≡ w.mode

-- what every run keeps, where n releases were accepted; in the midst of a call, one task may be exempt from being issued where it is first
pub record Inv (a : Setup) (exempt : ℕ → Bool) (ks : ℕ → TaskWords) (ls : Lists) (n : ℕ) : Type 0 where
  pub tasks : (q : ℕ) → TaskKept a n ls q (ks q)
  pub apart : (t u : ℕ) → is_some (ks t).job ≡ true → is_some (ks u).job ≡ true → unwrap_or (ks t).job 0 ≡ unwrap_or (ks u).job 0 → t ≡ u
  -- a request is issued exactly where its job is among the first
  pub firsts : (t : ℕ) → exempt t ≡ false → is_some (ks t).wanted ≡ true → is_among_first a.plan a.tasks (word_jobs ks ls) t ≡ (ks t).issued
  pub owed : (r : ℕ) → r < a.resources → OwedAll a.told r (longest_at a.plan r) (λ q. (ks q).used) (λ q. (ks q).waited) (ls r)
  pub sound : (r : ℕ) → r < a.resources → Sound a.told r (ls r)

abbrev pub nobody : ℕ → Bool
nobody t = false

-- one task's words are new, and all others are as they were
pub record Changed (ks ks' : ℕ → TaskWords) (p : ℕ) (new : TaskWords) : Type 0 where
  pub self : ks' p ≡ new
  pub others : (q : ℕ) → eqb p q ≡ false → ks' q ≡ ks q

pub each_task : (ks ks' : ℕ → TaskWords) (p : ℕ) (new : TaskWords) → Changed ks ks' p new → (P : ℕ → TaskWords → Type 0) → P p new → ((q : ℕ) → eqb p q ≡ false → P q (ks q)) → (q : ℕ) → P q (ks' q)
each_task ks ks' p new c P x y q = go (eqb p q) refl
  where
    go : (b : Bool) → eqb p q ≡ b → P q (ks' q)
    go true e = subst (λ (z : ℕ). P z (ks' z)) (eqb-true p q e) (subst (P p) (sym c.self) x)
    go false e = subst (P q) (sym (c.others q e)) (y q e)

-- a task is unfinished where it has a job
pub unfinished_is : (j : Option ℕ) (w : Option Wanted) (i b : Bool) → not (is_idle (state_of j w i b)) ≡ is_some j
unfinished_is None w i b = refl
unfinished_is (Some n) None i b = refl
unfinished_is (Some n) (Some w) false b = refl
unfinished_is (Some n) (Some w) true true = refl
unfinished_is (Some n) (Some w) true false = refl

pub unfinished_job : (a : Setup) (ks : ℕ → TaskWords) (ls : Lists) (q : ℕ) → unfinished (word_jobs ks ls) q ≡ is_some (ks q).job
unfinished_job a ks ls q = unfinished_is (ks q).job (ks q).wanted (ks q).issued (held_in q (ks q) ls)

pub numbered : (a : Setup) (x : ℕ → Bool) (ks : ℕ → TaskWords) (ls : Lists) (n : ℕ) → Inv a x ks ls n → Numbered a (word_jobs ks ls) n
numbered a x ks ls n i = record {
  known = λ t e. (i.tasks t).known (sym (unfinished_job a ks ls t) ∙ e);
  below = λ t e. (i.tasks t).below (sym (unfinished_job a ks ls t) ∙ e);
  apart = λ t u e f same. i.apart t u (sym (unfinished_job a ks ls t) ∙ e) (sym (unfinished_job a ks ls u) ∙ f) same;
}

-- where no job begins or ends, the same jobs are among the first
pub first_jobs : (a : Setup) (ks ks' : ℕ → TaskWords) (ls ls' : Lists) → ((q : ℕ) → (ks' q).job ≡ (ks q).job) → (t : ℕ) → is_among_first a.plan a.tasks (word_jobs ks' ls') t ≡ is_among_first a.plan a.tasks (word_jobs ks ls) t
first_jobs a ks ks' ls ls' same =
    first_same a (word_jobs ks ls) (word_jobs ks' ls')
    (λ t. unfinished_job a ks' ls' t ∙ ap is_some (same t) ∙ sym (unfinished_job a ks ls t))
    (λ t e. ap (λ (j : Option ℕ). unwrap_or j 0) (same t))

-- the lists say the same of a task
abbrev pub SameEntries : Setup → ℕ → Lists → Lists → Type 0
SameEntries a q ls ls' = (r : ℕ) → r < a.resources → (listed q (ls' r) ≡ listed q (ls r)) × (request_of q (ls' r) ≡ request_of q (ls r))

entry_same : (a : Setup) (q : ℕ) (w : Option Wanted) (ls ls' : Lists) → ((v : Wanted) → w ≡ Some v → Placed a q v) → SameEntries a q ls ls' → entry_of q w ls' ≡ entry_of q w ls
entry_same a q None ls ls' placed same = refl
entry_same a q (Some v) ls ls' placed same = (same v.resource (placed v refl).there).1

pub held_same : (a : Setup) (q : ℕ) (k : TaskWords) (ls ls' : Lists) → ((v : Wanted) → k.wanted ≡ Some v → Placed a q v) → SameEntries a q ls ls' → held_in q k ls' ≡ held_in q k ls
held_same a q k ls ls' placed same = ap (λ (o : Option Request). k.issued && is_held o) (entry_same a q k.wanted ls ls' placed same)

pub state_same : (a : Setup) (n : ℕ) (q : ℕ) (k : TaskWords) (ls ls' : Lists) → TaskKept a n ls q k → SameEntries a q ls ls' → state_in q k ls' ≡ state_in q k ls
state_same a n q k ls ls' t same = ap (λ (b : Bool). state_of k.job k.wanted k.issued b) (held_same a q k ls ls' t.placed same)

-- what is kept of a task of which the lists say the same
pub task_same : (a : Setup) (n n' : ℕ) (q : ℕ) (k : TaskWords) (ls ls' : Lists) → n ≤ n' → SameEntries a q ls ls' → TaskKept a n ls q k → TaskKept a n' ls' q k
task_same a n n' q k ls ls' le same t = record {
  no_job = t.no_job;
  no_request = t.no_request;
  known = t.known;
  below = λ e. omega (arith, t.below e);
  placed = t.placed;
  unused = λ e. t.unused (sym (held_same a q k ls ls' t.placed same) ∙ e);
  in_time = λ w e f. t.in_time w e (sym (held_same a q k ls ls' t.placed same) ∙ f);
  blocked = t.blocked;
  bounded = t.bounded;
  once = λ r lt. (same r lt).0 ∙ t.once r lt;
  mode = λ w e x f. t.mode w e x (sym (same w.resource (t.placed w e).there).1 ∙ f);
}
