-- What every run keeps is kept when a job begins, when it asks, when a request is issued and when a job ends.
use Rattle.std.proofs.Common.{◌≡◌, ℕ, ◌+◌, ◌<◌, ◌≤◌, Bool, true, false, cond, ◌&&◌, eqb, ◌⊎◌, List, [], ◌∷◌, ◌++◌, is_some, Some, None, Option, unwrap_or, sym, refl, ap, ◌∙◌, subst, inl, inr, ⊎_elim, arith}
use Rattle.std.proofs.lemmas.Option.{none-some, same_Some}
use Rattle.std.proofs.lemmas.Bool.{eqb-true, eq-eqb, ne_eqb, false≢true, cases_eq, cond-true, cond-false}
use Rattle.std.specs.List.{AllByRecursion}
use Rattle.bank.specs.Lists.{request_of}
use Rattle.bank.specs.Meaning.{Lists, Sound, Added}
use Rattle.bank.specs.declared.request.Request.{Request}
use Rattle.plan.specs.Contents.{longest_at}
use Rattle.rules.specs.Jobs.{Setup, is_among_first}
use Rattle.rules.specs.Promises.{is_at}
use Rattle.rules.specs.declared.task.Wanted.{Wanted}
use Rattle.rules.proofs.Entries.{listed, count_push, request_push_other, request_push_new, request_none}
use Rattle.rules.proofs.Places.{first_released}
use Rattle.rules.proofs.Waiting.{OwedAll, owed_same, owed_enter}
use Rattle.rules.proofs.Words.{TaskWords, state_in, word_jobs, Placed, TaskKept, Inv, nobody, Changed, each_task, unfinished_job, numbered, first_jobs, SameEntries, task_same}

pub none_some : {A : Type 0} {o : Option A} → o ≡ None → is_some o ≡ true → ⊥
none_some p q = false≢true (rw p at (ap (λ (b : Bool). b) q))

-- what holds of every listed task holds of each entry's
pub all_listed : (P : ℕ → Type 0) (xs : List Request) → ((q : ℕ) → 1 ≤ listed q xs → P q) → AllByRecursion (λ x. P x.party) xs
all_listed P [] h = tt
all_listed P (y ∷ xs) h = (h y.party (rw (eq-eqb y.party y.party refl) (omega arith)), all_listed P xs (λ q l. h q (omega (arith, l))))

module _ (a : Setup) (ks ks' : ℕ → TaskWords) (p : ℕ) (new : TaskWords) (c : Changed ks ks' p new) where
  -- what is owed to others is owed still
  pub owed_others : (r l : ℕ) (xs : List Request) → listed p xs ≡ 0 → OwedAll a.told r l (λ q. (ks q).used) (λ q. (ks q).waited) xs → OwedAll a.told r l (λ q. (ks' q).used) (λ q. (ks' q).waited) xs
  owed_others r l xs none =
      owed_same a.told r l xs (λ q. (ks q).used) (λ q. (ks q).waited) (λ q. (ks' q).used) (λ q. (ks' q).waited)
      (all_listed (λ q. ((ks' q).used ≡ (ks q).used) × ((ks' q).waited ≡ (ks q).waited)) xs (λ q l. go q l (eqb p q) refl))
    where
      go : (q : ℕ) → 1 ≤ listed q xs → (b : Bool) → eqb p q ≡ b → ((ks' q).used ≡ (ks q).used) × ((ks' q).waited ≡ (ks q).waited)
      go q l true e = absurd (clash (rw (← (eqb-true p q e)) at l) none)
        where
          clash : 1 ≤ listed p xs → listed p xs ≡ 0 → ⊥
          clash x y = omega arith
      go q l false e = (ap (λ (k : TaskWords). k.used) (c.others q e), ap (λ (k : TaskWords). k.waited) (c.others q e))

-- a task without an issued request is not listed
pub unlisted : (a : Setup) (n : ℕ) (ls : Lists) (q : ℕ) (k : TaskWords) → TaskKept a n ls q k → k.issued ≡ false → (r : ℕ) → r < a.resources → listed q (ls r) ≡ 0
unlisted a n ls q k t e r lt = t.once r lt ∙ ap (λ (b : Bool). cond (b && is_at r k.wanted) 1 0) e

-- a task without a request has none that is issued, and used nothing
pub at_rest : (a : Setup) (n : ℕ) (ls : Lists) (q : ℕ) (k : TaskWords) → TaskKept a n ls q k → k.wanted ≡ None → (k.issued ≡ false) × (k.used ≡ 0)
at_rest a n ls q k t free = let quiet = t.no_request free in (quiet, t.unused (rw quiet refl))

same_lists : (a : Setup) (q : ℕ) (ls : Lists) → SameEntries a q ls ls
same_lists a q ls r lt = (refl, refl)

-- a job has a number where its task has a request
pub has_job : (a : Setup) (n : ℕ) (ls : Lists) (q : ℕ) (k : TaskWords) → TaskKept a n ls q k → is_some k.wanted ≡ true → is_some k.job ≡ true
has_job a n ls q k t e = go k.job refl
  where
    go : (o : Option ℕ) → k.job ≡ o → is_some o ≡ true
    go None f = absurd (none_some (t.no_job f) e)
    go (Some m) f = refl

-- a job begins
abbrev pub begun_words : ℕ → TaskWords → TaskWords
begun_words n k = record k { job = Some n; wanted = None; issued = false; used = 0; job_waited = 0; blocked = 0 }

module _ (a : Setup) (ks ks' : ℕ → TaskWords) (ls : Lists) (n p : ℕ) (i : Inv a nobody ks ls n) (lt : p < a.tasks) (idle : (ks p).job ≡ None)
    (c : Changed ks ks' p (begun_words n (ks p))) where
  unissued : (ks p).issued ≡ false
  unissued = (i.tasks p).no_request ((i.tasks p).no_job idle)

  begun : TaskKept a (n + 1) ls p (begun_words n (ks p))
  begun = record {
    no_job = λ e. absurd (none-some _ (sym e));
    no_request = λ e. refl;
    known = λ e. lt;
    below = λ e. omega arith;
    placed = λ w e. absurd (none-some _ e);
    unused = λ e. refl;
    in_time = λ w e. absurd (none-some _ e);
    blocked = refl;
    bounded = λ e. absurd (false≢true e);
    once = λ r lr. unlisted a n ls p (ks p) (i.tasks p) unissued r lr;
    mode = λ w e. absurd (none-some _ e);
  }

  kept : (q : ℕ) → TaskKept a (n + 1) ls q (ks' q)
  kept = each_task ks ks' p _ c (TaskKept a (n + 1) ls) begun (λ q e. task_same a n (n + 1) q (ks q) ls ls (omega arith) (same_lists a q ls) (i.tasks q))

  numbers : (t : ℕ) → is_some (ks' t).job ≡ true → ((p ≡ t) × (unwrap_or (ks' t).job 0 ≡ n)) ⊎ ((eqb p t ≡ false) × (unwrap_or (ks' t).job 0 < n))
  numbers = each_task ks ks' p _ c (λ t k. is_some k.job ≡ true → ((p ≡ t) × (unwrap_or k.job 0 ≡ n)) ⊎ ((eqb p t ≡ false) × (unwrap_or k.job 0 < n)))
      (λ e. inl (refl, refl)) (λ q e f. inr (e, (i.tasks q).below f))

  apart' : (t u : ℕ) → is_some (ks' t).job ≡ true → is_some (ks' u).job ≡ true → unwrap_or (ks' t).job 0 ≡ unwrap_or (ks' u).job 0 → t ≡ u
  apart' t u et eu same = ⊎_elim
      (λ (x : (p ≡ t) × (unwrap_or (ks' t).job 0 ≡ n)). ⊎_elim
      (λ (y : (p ≡ u) × (unwrap_or (ks' u).job 0 ≡ n)). sym x.0 ∙ y.0)
      (λ (y : (eqb p u ≡ false) × (unwrap_or (ks' u).job 0 < n)). absurd (omega (arith, x.1, y.1, same))) (numbers u eu))
      (λ (x : (eqb p t ≡ false) × (unwrap_or (ks' t).job 0 < n)). ⊎_elim
      (λ (y : (p ≡ u) × (unwrap_or (ks' u).job 0 ≡ n)). absurd (omega (arith, x.1, y.1, same)))
      (λ (y : (eqb p u ≡ false) × (unwrap_or (ks' u).job 0 < n)). i.apart t u (old t x.0 et) (old u y.0 eu) (sym (job_is t x.0) ∙ same ∙ job_is u y.0)) (numbers u eu))
      (numbers t et)
    where
      job_is : (q : ℕ) → eqb p q ≡ false → unwrap_or (ks' q).job 0 ≡ unwrap_or (ks q).job 0
      job_is q e = ap (λ (k : TaskWords). unwrap_or k.job 0) (c.others q e)

      old : (q : ℕ) → eqb p q ≡ false → is_some (ks' q).job ≡ true → is_some (ks q).job ≡ true
      old q e f = sym (ap (λ (k : TaskWords). is_some k.job) (c.others q e)) ∙ f

  pub first_begun : (t : ℕ) → is_some (ks t).job ≡ true → is_among_first a.plan a.tasks (word_jobs ks' ls) t ≡ is_among_first a.plan a.tasks (word_jobs ks ls) t
  first_begun t e =
      first_released a (word_jobs ks ls) (word_jobs ks' ls) p
      (λ q ne. let e = c.others q (ne_eqb p q (λ k. ne (sym k))) in (ap (λ (k : TaskWords). state_in q k ls) e, ap (λ (k : TaskWords). unwrap_or k.job 0) e))
      n (numbered a nobody ks ls n i) (unfinished_job a ks ls p ∙ ap is_some idle)
      (ap (λ (k : TaskWords). unwrap_or k.job 0) c.self) t (unfinished_job a ks ls t ∙ e)

  pub release_step : Inv a nobody ks' ls (n + 1)
  release_step = record {
    tasks = kept;
    apart = apart';
    firsts = λ t x. each_task ks ks' p _ c (λ t k. is_some k.wanted ≡ true → is_among_first a.plan a.tasks (word_jobs ks' ls) t ≡ k.issued)
        (λ e. absurd (false≢true e)) (λ q e f. first_begun q (has_job a n ls q (ks q) (i.tasks q) f) ∙ i.firsts q refl f) t;
    owed = λ r lr. owed_others a ks ks' p _ c r (longest_at a.plan r) (ls r) (unlisted a n ls p (ks p) (i.tasks p) unissued r lr) (i.owed r lr);
    sound = i.sound;
  }

-- a task's job is what it was
pub same_job : (ks ks' : ℕ → TaskWords) (p : ℕ) (new : TaskWords) → Changed ks ks' p new → new.job ≡ (ks p).job → (q : ℕ) → (ks' q).job ≡ (ks q).job
same_job ks ks' p new c e = each_task ks ks' p new c (λ q k. k.job ≡ (ks q).job) e (λ q f. refl)

pub same_apart : (ks ks' : ℕ → TaskWords) → ((q : ℕ) → (ks' q).job ≡ (ks q).job)
    → ((t u : ℕ) → is_some (ks t).job ≡ true → is_some (ks u).job ≡ true → unwrap_or (ks t).job 0 ≡ unwrap_or (ks u).job 0 → t ≡ u)
    → (t u : ℕ) → is_some (ks' t).job ≡ true → is_some (ks' u).job ≡ true → unwrap_or (ks' t).job 0 ≡ unwrap_or (ks' u).job 0 → t ≡ u
same_apart ks ks' same apart t u x y e =
    apart t u (sym (ap is_some (same t)) ∙ x) (sym (ap is_some (same u)) ∙ y) (sym (ap (λ (o : Option ℕ). unwrap_or o 0) (same t)) ∙ e ∙ ap (λ (o : Option ℕ). unwrap_or o 0) (same u))

-- a job asks
module _ (a : Setup) (ks ks' : ℕ → TaskWords) (ls : Lists) (n p : ℕ) (w : Wanted) (i : Inv a nobody ks ls n) (has : is_some (ks p).job ≡ true) (free : (ks p).wanted ≡ None) (place : Placed a p w)
    (c : Changed ks ks' p (record { job = (ks p).job; wanted = Some w; issued = false; used = 0; waited = (ks p).waited; job_waited = (ks p).job_waited; blocked = (ks p).blocked })) where
  unasked : (ks p).issued ≡ false
  unasked = (i.tasks p).no_request free

  asking : TaskKept a n ls p (record { job = (ks p).job; wanted = Some w; issued = false; used = 0; waited = (ks p).waited; job_waited = (ks p).job_waited; blocked = (ks p).blocked })
  asking = record {
    no_job = λ e. absurd (none_some e has);
    no_request = λ e. absurd (none-some _ (sym e));
    known = (i.tasks p).known;
    below = (i.tasks p).below;
    placed = λ v e. subst (Placed a p) (same_Some _ _ e) place;
    unused = λ e. refl;
    in_time = λ v e f. absurd (false≢true f);
    blocked = (i.tasks p).blocked;
    bounded = λ e. absurd (false≢true e);
    once = λ r lr. unlisted a n ls p (ks p) (i.tasks p) unasked r lr;
    mode = λ v e x f. absurd (none-some _ (sym (request_none p (ls v.resource) (unlisted a n ls p (ks p) (i.tasks p) unasked v.resource (subst (Placed a p) (same_Some _ _ e) place).there)) ∙ f));
  }

  pub ask_step : Inv a (λ t. eqb p t) ks' ls n
  ask_step = record {
    tasks = each_task ks ks' p _ c (TaskKept a n ls) asking (λ q e. i.tasks q);
    apart = same_apart ks ks' (same_job ks ks' p _ c refl) i.apart;
    firsts = λ t e f. first_jobs a ks ks' ls ls (same_job ks ks' p _ c refl) t ∙ i.firsts t refl (sym (ap (λ (k : TaskWords). is_some k.wanted) (c.others t e)) ∙ f) ∙ sym (ap (λ (k : TaskWords). k.issued) (c.others t e));
    owed = λ r lr. owed_others a ks ks' p _ c r (longest_at a.plan r) (ls r) (unlisted a n ls p (ks p) (i.tasks p) unasked r lr) (i.owed r lr);
    sound = i.sound;
  }

-- a request enters the bank
module _ (a : Setup) (p r : ℕ) (ls ls' : Lists) (x : Request) (list : ls' r ≡ ls r ++ (x ∷ [])) (party : x.party ≡ p) (others : (q : ℕ) → q < a.resources → (q ≡ r → ⊥) → ls' q ≡ ls q) where
  pub entered_others : (q : ℕ) → eqb p q ≡ false → SameEntries a q ls ls'
  entered_others q e r' lt = go (cases_eq r' r)
    where
      apart : eqb x.party q ≡ false
      apart = ap (λ (z : ℕ). eqb z q) party ∙ e

      go : (r' ≡ r) ⊎ (r' ≡ r → ⊥) → (listed q (ls' r') ≡ listed q (ls r')) × (request_of q (ls' r') ≡ request_of q (ls r'))
      go (inl same) = rw (same, list) (count_push (λ z. eqb z.party q) (ls r) x ∙ rw apart (omega arith), request_push_other q (ls r) x apart)
      go (inr ne) = (ap (listed q) (others r' lt ne), ap (request_of q) (others r' lt ne))

module _ (a : Setup) (ks ks' : ℕ → TaskWords) (ls ls' : Lists) (n p : ℕ) (w : Wanted) (h : Bool) (i : Inv a (λ t. eqb p t) ks ls n) (wants : (ks p).wanted ≡ Some w) (not_yet : (ks p).issued ≡ false)
    (early : is_among_first a.plan a.tasks (word_jobs ks ls) p ≡ true) (added : Added p w.mode h (ls w.resource) (ls' w.resource))
    (others : (q : ℕ) → q < a.resources → (q ≡ w.resource → ⊥) → ls' q ≡ ls q)
    (sound' : (r : ℕ) → r < a.resources → Sound a.told r (ls' r))
    (c : Changed ks ks' p (record { job = (ks p).job; wanted = Some w; issued = true; used = 0; waited = 0; job_waited = (ks p).job_waited; blocked = (ks p).blocked })) where
  place_of : Placed a p w
  place_of = (i.tasks p).placed w wants

  free_of : (r : ℕ) → r < a.resources → listed p (ls r) ≡ 0
  free_of = unlisted a n ls p (ks p) (i.tasks p) not_yet

  -- the entry of the new request
  pub entry_new : request_of p (ls' w.resource) ≡ Some added.request
  entry_new = ap (request_of p) added.list ∙ request_push_new p (ls w.resource) added.request (free_of w.resource place_of.there) added.party

  once_new : (r : ℕ) → r < a.resources → listed p (ls' r) ≡ cond (eqb w.resource r) 1 0
  once_new r lr = go (cases_eq r w.resource)
    where
      go : (r ≡ w.resource) ⊎ (r ≡ w.resource → ⊥) → listed p (ls' r) ≡ cond (eqb w.resource r) 1 0
      go (inl same) =
          let one : listed p (ls' w.resource) ≡ 1 = ap (listed p) added.list ∙ count_push (λ z. eqb z.party p) (ls w.resource) added.request ∙ rw (eq-eqb added.request.party p added.party) (omega (arith, free_of w.resource place_of.there)) in
          ap (λ (z : ℕ). listed p (ls' z)) same ∙ one ∙ sym (cond-true (eqb w.resource r) 1 0 (eq-eqb w.resource r (sym same)))
      go (inr ne) = ap (listed p) (others r lr ne) ∙ free_of r lr ∙ sym (cond-false (eqb w.resource r) 1 0 (ne_eqb w.resource r (λ e. ne (sym e))))

  entering : TaskKept a n ls' p (record { job = (ks p).job; wanted = Some w; issued = true; used = 0; waited = 0; job_waited = (ks p).job_waited; blocked = (ks p).blocked })
  entering = record {
    no_job = λ e. absurd (none-some _ (sym ((i.tasks p).no_job e) ∙ wants));
    no_request = λ e. absurd (none-some _ (sym e));
    known = (i.tasks p).known;
    below = (i.tasks p).below;
    placed = λ v e. subst (Placed a p) (same_Some _ _ e) place_of;
    unused = λ e. refl;
    in_time = λ v e f. omega arith;
    blocked = (i.tasks p).blocked;
    bounded = λ e. omega arith;
    once = once_new;
    mode = λ v e y f.
        let same : w ≡ v = same_Some _ _ e in
        let g : request_of p (ls' w.resource) ≡ Some y = ap (λ (z : Wanted). request_of p (ls' z.resource)) same ∙ f in
        ap (λ (z : Request). z.mode) (same_Some _ _ (sym g ∙ entry_new)) ∙ added.mode ∙ ap (λ (z : Wanted). z.mode) same;
  }

  first_new : (t : ℕ) → is_among_first a.plan a.tasks (word_jobs ks' ls') t ≡ is_among_first a.plan a.tasks (word_jobs ks ls) t
  first_new = first_jobs a ks ks' ls ls' (same_job ks ks' p _ c refl)

  owed_new : (r : ℕ) → r < a.resources → OwedAll a.told r (longest_at a.plan r) (λ q. (ks' q).used) (λ q. (ks' q).waited) (ls' r)
  owed_new r lr = go (cases_eq r w.resource) (owed_others a ks ks' p _ c r (longest_at a.plan r) (ls r) (free_of r lr) (i.owed r lr))
    where
      go : (r ≡ w.resource) ⊎ (r ≡ w.resource → ⊥) → OwedAll a.told r (longest_at a.plan r) (λ q. (ks' q).used) (λ q. (ks' q).waited) (ls r) → OwedAll a.told r (longest_at a.plan r) (λ q. (ks' q).used) (λ q. (ks' q).waited) (ls' r)
      go (inl same) o =
          let list : ls' r ≡ ls r ++ (added.request ∷ []) = ap ls' same ∙ added.list ∙ ap (λ (z : ℕ). ls z ++ (added.request ∷ [])) (sym same) in
          let s : Sound a.told r (ls r ++ (added.request ∷ [])) = subst (Sound a.told r) list (sound' r lr) in
          let zero : (ks' added.request.party).waited ≡ 0 = ap (λ (z : ℕ). (ks' z).waited) added.party ∙ ap (λ (k : TaskWords). k.waited) c.self in
          rw list (owed_enter a.told r (longest_at a.plan r) (ls r) (λ q. (ks' q).used) (λ q. (ks' q).waited) added.request s zero o)
      go (inr ne) o = rw (others r lr ne) o

  pub issue_step : Inv a nobody ks' ls' n
  issue_step = record {
    tasks = each_task ks ks' p _ c (TaskKept a n ls') entering (λ q e. task_same a n n q (ks q) ls ls' (omega arith) (entered_others a p w.resource ls ls' added.request added.list added.party others q e) (i.tasks q));
    apart = same_apart ks ks' (same_job ks ks' p _ c refl) i.apart;
    firsts = λ t z. each_task ks ks' p _ c (λ t k. is_some k.wanted ≡ true → is_among_first a.plan a.tasks (word_jobs ks' ls') t ≡ k.issued) (λ e. first_new p ∙ early) (λ q e f. first_new q ∙ i.firsts q e f) t;
    owed = owed_new;
    sound = sound';
  }
