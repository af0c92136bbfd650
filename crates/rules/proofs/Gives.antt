-- What every run keeps is kept when a holder gives back.
use Rattle.std.proofs.Common.{◌≡◌, ℕ, zero, suc, ◌<◌, ◌≤◌, max, Bool, true, false, cond, not, ◌&&◌, eqb, ◌⊎◌, length, is_some, Some, None, Option, unwrap_or, sym, refl, ap, ◌∙◌, subst, inl, inr, ⊎_elim, arith}
use Rattle.std.proofs.lemmas.Option.{none-some, same_Some}
use Rattle.std.proofs.lemmas.Bool.{eqb-true, eqb-false, eq-eqb, ne_eqb, and_parts, false≢true, both_ways, cases_eq, cases_Bool, cond-true, cond-false}
use Rattle.std.specs.List.{AllZip, AllByRecursion}
use Rattle.bank.specs.Lists.{request_of, is_holder, without, holds}
use Rattle.bank.specs.Meaning.{Lists, Sound, Stays}
use Rattle.bank.specs.declared.request.Request.{Request}
use Rattle.plan.specs.Contents.{length_at, longest_at, greatest}
use Rattle.rules.specs.Histories.{entry_of}
use Rattle.rules.specs.Jobs.{Setup, is_among_first}
use Rattle.rules.specs.Moves.{is_held, is_queued}
use Rattle.rules.specs.Promises.{is_at}
use Rattle.rules.specs.Questions.{length_for}
use Rattle.rules.specs.declared.task.Wanted.{Wanted}
use Rattle.rules.proofs.Entries.{listed, listed_without, request_without, listed_gone, listed_stays, request_stays, request_some, request_party, holder_held, all_entries}
use Rattle.rules.proofs.Steps.{has_job, same_job, same_apart, owed_others}
use Rattle.rules.proofs.Waiting.{OwedAll, Within, owed_leave}
use Rattle.rules.proofs.Words.{TaskWords, held_in, waits_in, word_jobs, TaskKept, Inv, nobody, Changed, each_task, first_jobs}

greatest_least : (f : ℕ → ℕ) (n k : ℕ) → k < n → f k ≤ greatest f n
greatest_least f zero k lt = absurd (omega arith)
greatest_least f (suc n) k lt = go (greatest_least f n k) (cases_eq k n)
  where
    go : (k < n → f k ≤ greatest f n) → (k ≡ n) ⊎ (k ≡ n → ⊥) → f k ≤ max (greatest f n) (f n)
    go ih (inl e) = rw e (omega arith)
    go ih (inr ne) = omega (arith, ih (omega arith))

-- no declared length is above the longest
pub length_longest : (a : Setup) (q r : ℕ) → q < length a.plan.tasks → length_for a.plan q r ≤ longest_at a.plan r
length_longest a q r lt = greatest_least (λ t. unwrap_or (length_at a.plan t r) 0) (length a.plan.tasks) q lt

pub record At (k : TaskWords) (r : ℕ) : Type 0 where
  pub wanted : Wanted
  pub is : k.wanted ≡ Some wanted
  pub there : wanted.resource ≡ r
  pub issued : k.issued ≡ true

at_of : (k : TaskWords) (r : ℕ) (o : Option Wanted) (b : Bool) → k.wanted ≡ o → k.issued ≡ b → 1 ≤ cond (b && is_at r o) 1 0 → At k r
at_of k r None true e f l = absurd (omega arith)
at_of k r None false e f l = absurd (omega arith)
at_of k r (Some w) false e f l = absurd (omega arith)
at_of k r (Some w) true e f l = go (eqb w.resource r) refl l
  where
    go : (b : Bool) → eqb w.resource r ≡ b → 1 ≤ cond b 1 0 → At k r
    go true s l = record { wanted = w; is = e; there = eqb-true w.resource r s; issued = f }
    go false s l = absurd (omega arith)

-- a task that is listed has an issued request there
pub listed_at : (a : Setup) (n : ℕ) (ls : Lists) (q : ℕ) (k : TaskWords) → TaskKept a n ls q k → (r : ℕ) → r < a.resources → 1 ≤ listed q (ls r) → At k r
listed_at a n ls q k t r lr l = at_of k r k.wanted k.issued refl refl (subst (λ (m : ℕ). 1 ≤ m) (t.once r lr) l)

-- its entry tells whether it holds
pub held_entry : (q r : ℕ) (k : TaskWords) (ls : Lists) (x : Request) → At k r → request_of q (ls r) ≡ Some x → held_in q k ls ≡ holds x
held_entry q r k ls x at e =
    ap (λ (b : Bool). b && is_held (entry_of q k.wanted ls)) at.issued ∙ ap (λ (o : Option Wanted). is_held (entry_of q o ls)) at.is ∙ ap (λ (z : ℕ). is_held (request_of q (ls z))) at.there ∙ ap is_held e

pub waits_entry : (q r : ℕ) (k : TaskWords) (ls : Lists) (x : Request) → At k r → request_of q (ls r) ≡ Some x → waits_in q k ls ≡ not (holds x)
waits_entry q r k ls x at e =
    ap (λ (b : Bool). b && is_queued (entry_of q k.wanted ls)) at.issued ∙ ap (λ (o : Option Wanted). is_queued (entry_of q o ls)) at.is ∙ ap (λ (z : ℕ). is_queued (request_of q (ls z))) at.there ∙ ap is_queued e

module _ (a : Setup) (known : a.tasks ≤ length a.plan.tasks) (e : ℕ → Bool) (ks : ℕ → TaskWords) (ls : Lists) (n : ℕ) (i : Inv a e ks ls n) where
  pub listed_once_lem : (r : ℕ) → r < a.resources → (q : ℕ) → listed q (ls r) ≤ 1
  listed_once_lem r lr q = subst (λ (m : ℕ). m ≤ 1) (sym ((i.tasks q).once r lr)) (go ((ks q).issued && is_at r (ks q).wanted))
    where
      go : (b : Bool) → cond b 1 0 ≤ 1
      go true = omega arith
      go false = omega arith

  -- what holds of each listed task's entry holds of the whole list
  pub entries : (r : ℕ) → r < a.resources → (P : Request → Type 0) → ((q : ℕ) (x : Request) → x.party ≡ q → request_of q (ls r) ≡ Some x → At (ks q) r → P x) → AllByRecursion P (ls r)
  entries r lr P h = all_entries P (ls r) (listed_once_lem r lr) (λ q x f. let g = request_party q (ls r) x f in h q x g.0 f (listed_at a n ls q (ks q) (i.tasks q) r lr g.1))

  -- the task of a request exists
  pub exists : (q r : ℕ) → At (ks q) r → q < a.tasks
  exists q r at = (i.tasks q).known (has_job a n ls q (ks q) (i.tasks q) (rw at.is))

  -- where each holder is within its own length, none has used more than the longest
  pub within : (used : ℕ → ℕ) → ((q : ℕ) (w : Wanted) → (ks q).wanted ≡ Some w → held_in q (ks q) ls ≡ true → used q ≤ length_for a.plan q w.resource) → (r : ℕ) → r < a.resources → Within (longest_at a.plan r) used (ls r)
  within used in_time r lr = entries r lr (λ x. holds x ≡ true → used x.party ≤ longest_at a.plan r) (λ q x p f at h.
      let l = in_time q at.wanted at.is (held_entry q r (ks q) ls x at f ∙ h) in
      let m : length_for a.plan q at.wanted.resource ≡ length_for a.plan q r = ap (length_for a.plan q) at.there in
      let u : used x.party ≡ used q = ap used p in
      omega (arith, l, m, u, length_longest a q r (omega (arith, exists q r at, known))))

-- a holder gives back
module _ (a : Setup) (known : a.tasks ≤ length a.plan.tasks) (ks ks' : ℕ → TaskWords) (ls ls' : Lists) (n p r : ℕ) (i : Inv a nobody ks ls n) (lr : r < a.resources) (at : At (ks p) r) (held : held_in p (ks p) ls ≡ true)
    (stays : AllZip Stays (without p (ls r)) (ls' r))
    (others : (q : ℕ) → q < a.resources → (q ≡ r → ⊥) → ls' q ≡ ls q)
    (sound' : (r : ℕ) → r < a.resources → Sound a.told r (ls' r))
    (c : Changed ks ks' p (record { job = (ks p).job; wanted = None; issued = false; used = 0; waited = 0; job_waited = (ks p).job_waited; blocked = (ks p).blocked })) where
  holder : is_holder p (ls r) ≡ true
  holder = holder_held p (ls r) (sym (ap (λ (b : Bool). b && is_held (entry_of p (ks p).wanted ls)) at.issued ∙ ap (λ (o : Option Wanted). is_held (entry_of p o ls)) at.is ∙ ap (λ (z : ℕ). is_held (request_of p (ls z))) at.there) ∙ held)

  here : (r' : ℕ) → r' < a.resources → listed p (ls r') ≡ cond (eqb r r') 1 0
  here r' l = (i.tasks p).once r' l ∙ ap (λ (b : Bool). cond (b && is_at r' (ks p).wanted) 1 0) at.issued ∙ ap (λ (o : Option Wanted). cond (is_at r' o) 1 0) at.is ∙ ap (λ (z : ℕ). cond (eqb z r') 1 0) at.there

  gone : (r' : ℕ) → r' < a.resources → listed p (ls' r') ≡ 0
  gone r' l = go (cases_eq r' r)
    where
      go : (r' ≡ r) ⊎ (r' ≡ r → ⊥) → listed p (ls' r') ≡ 0
      go (inl e) =
          ap (λ (z : ℕ). listed p (ls' z)) e ∙ listed_stays p (without p (ls r)) (ls' r) stays
          ∙ listed_gone p (ls r) holder (here r lr ∙ cond-true (eqb r r) 1 0 (eq-eqb r r refl))
      go (inr ne) = ap (listed p) (others r' l ne) ∙ here r' l ∙ cond-false (eqb r r') 1 0 (ne_eqb r r' (λ e. ne (sym e)))

  module _ (q : ℕ) (ne : eqb p q ≡ false) where
    pub left_listed : (r' : ℕ) → r' < a.resources → listed q (ls' r') ≡ listed q (ls r')
    left_listed r' l = go (cases_eq r' r)
      where
        go : (r' ≡ r) ⊎ (r' ≡ r → ⊥) → listed q (ls' r') ≡ listed q (ls r')
        go (inl e) = rw e (listed_stays q (without p (ls r)) (ls' r) stays ∙ listed_without p q (eqb-false p q ne) (ls r))
        go (inr off) = ap (listed q) (others r' l off)

    -- another's entry stays, at whatever resource
    pub left_entry : (r' : ℕ) → r' < a.resources → (x : Request) → request_of q (ls r') ≡ Some x → (y : Request) × (request_of q (ls' r') ≡ Some y) × (y.mode ≡ x.mode) × (holds x ≡ true → holds y ≡ true)
    left_entry r' l x e = go (cases_eq r' r)
      where
        go : (r' ≡ r) ⊎ (r' ≡ r → ⊥) → (y : Request) × (request_of q (ls' r') ≡ Some y) × (y.mode ≡ x.mode) × (holds x ≡ true → holds y ≡ true)
        go (inl f) =
            let at-r : request_of q (ls r) ≡ Some x = ap (λ (z : ℕ). request_of q (ls z)) (sym f) ∙ e in
            let s = request_stays q (without p (ls r)) (ls' r) stays x (request_without p q (eqb-false p q ne) (ls r) ∙ at-r) in
            (s.0, ap (λ (z : ℕ). request_of q (ls' z)) f ∙ s.1, s.2.mode, s.2.holding)
        go (inr off) = (x, ap (request_of q) (others r' l off) ∙ e, refl, λ h. h)

    pub left_held : held_in q (ks q) ls ≡ true → held_in q (ks q) ls' ≡ true
    left_held h = go (ks q).wanted refl parts.1
      where
        parts : ((ks q).issued ≡ true) × (is_held (entry_of q (ks q).wanted ls) ≡ true)
        parts = and_parts (ks q).issued (is_held (entry_of q (ks q).wanted ls)) h

        go : (o : Option Wanted) → (ks q).wanted ≡ o → is_held (entry_of q o ls) ≡ true → held_in q (ks q) ls' ≡ true
        go None e f = absurd (false≢true f)
        go (Some w) e f = entry (request_of q (ls w.resource)) refl f
          where
            entry : (o : Option Request) → request_of q (ls w.resource) ≡ o → is_held o ≡ true → held_in q (ks q) ls' ≡ true
            entry None g k = absurd (false≢true k)
            entry (Some x) g k =
                let s = left_entry w.resource ((i.tasks q).placed w e).there x g in
                held_entry q w.resource (ks q) ls' s.0 (record { wanted = w; is = e; there = refl; issued = parts.0 }) s.1 ∙ s.3 k

    staying : TaskKept a n ls' q (ks q)
    staying = record {
      no_job = (i.tasks q).no_job;
      no_request = (i.tasks q).no_request;
      known = (i.tasks q).known;
      below = (i.tasks q).below;
      placed = (i.tasks q).placed;
      unused = λ e. (i.tasks q).unused (⊎_elim (λ h. absurd (both_ways (held_in q (ks q) ls') e (left_held h))) (λ h. h) (cases_Bool (held_in q (ks q) ls)));
      in_time = λ w e f. ⊎_elim (λ h. (i.tasks q).in_time w e h) (λ h. omega (arith, (i.tasks q).unused h)) (cases_Bool (held_in q (ks q) ls));
      blocked = (i.tasks q).blocked;
      bounded = (i.tasks q).bounded;
      once = λ r' l. left_listed r' l ∙ (i.tasks q).once r' l;
      mode = λ w e y f.
          let l = ((i.tasks q).placed w e).there in
          let g = request_party q (ls' w.resource) y f in
          let x = request_some q (ls w.resource) (omega (arith, g.1, left_listed w.resource l)) in
          let s = left_entry w.resource l x.0 x.1 in
          ap (λ (z : Request). z.mode) (same_Some _ _ (sym f ∙ s.1)) ∙ s.2 ∙ (i.tasks q).mode w e x.0 x.1;
    }

  giving : TaskKept a n ls' p (record { job = (ks p).job; wanted = None; issued = false; used = 0; waited = 0; job_waited = (ks p).job_waited; blocked = (ks p).blocked })
  giving = record {
    no_job = λ e. refl;
    no_request = λ e. refl;
    known = (i.tasks p).known;
    below = (i.tasks p).below;
    placed = λ v e. absurd (none-some _ e);
    unused = λ e. refl;
    in_time = λ v e. absurd (none-some _ e);
    blocked = (i.tasks p).blocked;
    bounded = λ e. absurd (false≢true e);
    once = gone;
    mode = λ v e. absurd (none-some _ e);
  }

  owed_left : (r' : ℕ) → r' < a.resources → OwedAll a.told r' (longest_at a.plan r') (λ q. (ks q).used) (λ q. (ks q).waited) (ls' r')
  owed_left r' l = go (cases_eq r' r)
    where
      go : (r' ≡ r) ⊎ (r' ≡ r → ⊥) → OwedAll a.told r' (longest_at a.plan r') (λ q. (ks q).used) (λ q. (ks q).waited) (ls' r')
      go (inl e) = rw e (owed_leave a.told r (longest_at a.plan r) p (ls r) (ls' r) (λ q. (ks q).used) (λ q. (ks q).waited) (within a known nobody ks ls n i (λ q. (ks q).used) (λ q. (i.tasks q).in_time) r lr) (i.sound r lr) (sound' r lr) stays (i.owed r lr))
      go (inr ne) = rw (others r' l ne) (i.owed r' l)

  pub give_step : Inv a nobody ks' ls' n
  give_step = record {
    tasks = each_task ks ks' p _ c (TaskKept a n ls') giving (λ q e. staying q e);
    apart = same_apart ks ks' (same_job ks ks' p _ c refl) i.apart;
    firsts = λ t z. each_task ks ks' p _ c (λ t k. is_some k.wanted ≡ true → is_among_first a.plan a.tasks (word_jobs ks' ls') t ≡ k.issued)
        (λ e. absurd (false≢true e)) (λ q e f. first_jobs a ks ks' ls ls' (same_job ks ks' p _ c refl) q ∙ i.firsts q refl f) t;
    owed = λ r' l. owed_others a ks ks' p _ c r' (longest_at a.plan r') (ls' r') (gone r' l) (owed_left r' l);
    sound = sound';
  }
