-- From the words of a history to the words after a finish more.
use Rattle.std.proofs.Common.{◌≡◌, ℕ, ◌<◌, Bool, true, false, cond, eqb, is_some, Some, None, Ok, Option, unwrap_or, sym, refl, ap, ◌∙◌, subst, arith}
use mathlib.Core.Path.{fun_ext}
use Rattle.std.proofs.lemmas.Bool.{eqb-true, eqb-false, eq-eqb, ne_eqb, false≢true}
use Rattle.bank.specs.Meaning.{Lists}
use Rattle.rules.specs.Answers.{finished, Answered, IssuesNext, Issues}
use Rattle.rules.specs.Histories.{History, called, lists, releases, job, wanted, issued, used, state_of, jobs_after, after}
use Rattle.rules.specs.Jobs.{Setup, Jobs, jobs_of, is_among_first, cluster_of, ended, next_of, next_issued}
use Rattle.rules.specs.Moves.{is_held, issued_task}
use Rattle.rules.specs.Questions.{wanted_by}
use Rattle.rules.specs.States.{issued_state, wanted_of, idle_task}
use Rattle.rules.specs.declared.answer.Finished.{Finished}
use Rattle.rules.specs.declared.answer.Issued.{Issued}
use Rattle.rules.specs.declared.task.State.{State}
use Rattle.rules.specs.declared.task.State.TheVariants.{HeldBack}
use Rattle.rules.specs.declared.task.Task.{Task}
use Rattle.rules.specs.declared.task.Wanted.{Wanted}
use Rattle.rules.proofs.Accepted.{accepted_finish}
use Rattle.rules.proofs.Ends.{only, ended_words, end_step, stays_first_lem, next_back}
use Rattle.rules.proofs.Lift.{Setting, InvOf, SoundOf, Stepped, task_of, going}
use Rattle.rules.proofs.LiftAsk.{update, updated, back_state, issued_state_lem, issued_words}
use Rattle.rules.proofs.Steps.{at_rest, same_job, issue_step, entry_new, entered_others}
use Rattle.rules.proofs.Words.{TaskWords, words_of, held_in, state_in, word_jobs, Inv, Changed, each_task, first_jobs, state_same}

-- the request of a held-back task
pub some_of : {A : Type 0} (o : Option A) → is_some o ≡ true → (x : A) × (o ≡ Some x)
some_of None e = absurd (false≢true e)
some_of (Some x) e = (x, refl)

module _ (a : Setup) (h : History) (i : InvOf a h) (p : ℕ) (free : wanted p h ≡ None) where
  abbrev pub ks₁ : ℕ → TaskWords
  ks₁ = update (words_of a h) p (ended_words (words_of a h p))

  first_change : Changed (words_of a h) ks₁ p (ended_words (words_of a h p))
  first_change = updated (words_of a h) p (ended_words (words_of a h p))

  -- the jobs when that of p has ended
  same_state : (q : ℕ) → (jobs_of (ended (after a h).tasks p)).state q ≡ (word_jobs ks₁ (lists h)).state q
  same_state q = go (eqb p q)
    where
      go : (b : Bool) → (cond {A = Task} b idle_task ((after a h).tasks q)).state ≡ state_in q (cond b (ended_words (words_of a h p)) (words_of a h q)) (lists h)
      go true = refl
      go false = refl

  same_number : (q : ℕ) → (jobs_of (ended (after a h).tasks p)).number q ≡ (word_jobs ks₁ (lists h)).number q
  same_number q = go (eqb p q)
    where
      go : (b : Bool) → (cond {A = Task} b idle_task ((after a h).tasks q)).release ≡ unwrap_or (cond {A = TaskWords} b (ended_words (words_of a h p)) (words_of a h q)).job 0
      go true = refl
      go false = refl

  pub ended_jobs : jobs_of (ended (after a h).tasks p) ≡ word_jobs ks₁ (lists h)
  ended_jobs = λ j. record { state = fun_ext same_state j; number = fun_ext same_number j }

  pub next_same : next_issued a (after a h) p ≡ next_of a.plan a.tasks (word_jobs ks₁ (lists h)) (cluster_of a.plan p)
  next_same = ap (λ (j : Jobs). next_of a.plan a.tasks j (cluster_of a.plan p)) ended_jobs

  rest : (issued p h ≡ false) × (used p h ≡ 0)
  rest = at_rest a (releases h) (lists h) p (words_of a h p) (i.tasks p) free

  -- what is known of the task that comes among the first
  pub record Next (u : ℕ) : Type 0 where
    pub other : eqb p u ≡ false
    pub wanted : Wanted
    pub is : (words_of a h u).wanted ≡ Some wanted
    pub unissued : (words_of a h u).issued ≡ false
    pub job : is_some (words_of a h u).job ≡ true
    pub early : is_among_first a.plan a.tasks (word_jobs ks₁ (lists h)) u ≡ true
    pub words : ks₁ u ≡ words_of a h u
    pub state : ((after a h).tasks u).state ≡ HeldBack wanted

  pub next_known : (u : ℕ) → next_issued a (after a h) p ≡ Some u → Next u
  next_known u e =
      let k = next_back a (words_of a h) ks₁ (lists h) (releases h) p i free first_change u (sym next_same ∙ e) in
      let w = some_of (wanted u h) k.0.wanted in
      record {
        other = k.0.other;
        wanted = w.0;
        is = w.1;
        unissued = k.0.unissued;
        job = k.0.job;
        early = k.1;
        words = first_change.others u k.0.other;
        state = back (job u h) (wanted u h) (issued u h) (held_in u (words_of a h u) (lists h)) k.0.job w.0 w.1 k.0.unissued;
      }
    where
      back : (j : Option ℕ) (o : Option Wanted) (b x : Bool) → is_some j ≡ true → (w : Wanted) → o ≡ Some w → b ≡ false → state_of j o b x ≡ HeldBack w
      back j o b x e w f g = rw (f, g) (back_state j w x e)

  pub ended_inv : Inv a (only (next_issued a (after a h) p)) ks₁ (lists h) (releases h)
  ended_inv = rw next_same (end_step a (words_of a h) ks₁ (lists h) (releases h) p i free first_change)

  ends_first : (t : ℕ) → eqb p t ≡ false → is_among_first a.plan a.tasks (jobs_after h) t ≡ true → is_among_first a.plan a.tasks (word_jobs ks₁ (lists h)) t ≡ true
  ends_first = stays_first_lem a (words_of a h) ks₁ (lists h) (releases h) p i free first_change

  -- no request is issued
  module _ (f : ℕ) (new : Lists) (none : next_issued a (after a h) p ≡ None) (same : new ≡ lists h) where
    abbrev e₀ : Finished
    e₀ = record { blocked = f; issued = None }

    changed : Changed (words_of a h) (words_of a (called h (finished p (Ok e₀)) new)) p (ended_words (words_of a h p))
    changed = record {
      self = rw (eq-eqb p p refl) (λ j. record (words_of a h p) { job = None; wanted = free j; issued = rest.0 j; used = rest.1 j; job_waited = 0; blocked = 0 });
      others = λ q e. rw e refl;
    }

    all_same : (q : ℕ) → words_of a (called h (finished p (Ok e₀)) new) q ≡ ks₁ q
    all_same q = go (eqb p q) refl
      where
        go : (b : Bool) → eqb p q ≡ b → words_of a (called h (finished p (Ok e₀)) new) q ≡ ks₁ q
        go true e = subst (λ (z : ℕ). words_of a (called h (finished p (Ok e₀)) new) z ≡ ks₁ z) (eqb-true p q e) (changed.self ∙ sym first_change.self)
        go false e = changed.others q e ∙ sym (first_change.others q e)

    pub nothing_stepped : Stepped a (finished p (Ok e₀)) new h
    nothing_stepped = record {
      inv = rw (same, fun_ext all_same) (rw none at ended_inv);
      agrees = each_task (words_of a h) (words_of a (called h (finished p (Ok e₀)) new)) p _ changed (λ q k. task_of q k new ≡ cond (eqb p q) idle_task (task_of q (words_of a h q) (lists h)))
          (rw (eq-eqb p p refl) refl) (λ q e. rw (e, same) refl);
      stays = λ t g e. first_jobs a ks₁ (words_of a (called h (finished p (Ok e₀)) new)) (lists h) new (λ q. ap (λ (k : TaskWords). k.job) (all_same q)) t ∙ ends_first t e g;
    }

  -- the next request is issued
  module _ (set : Setting a) (lt : p < a.tasks) (f : ℕ) (x : Issued) (new : Lists) (sound : SoundOf a new) (next : next_issued a (after a h) p ≡ Some x.task)
      (enter : Issues a (after a h) x.task (wanted_by (after a h) x.task) x.holds new) where
    abbrev e₁ : Finished
    e₁ = record { blocked = f; issued = Some x }

    abbrev u : ℕ
    u = x.task

    n : Next u
    n = next_known u next

    abbrev w : Wanted
    w = n.wanted

    wanted_is : wanted_by (after a h) u ≡ w
    wanted_is = ap wanted_of n.state

    entered : Issues a (after a h) u w x.holds new
    entered = subst (λ (v : Wanted). Issues a (after a h) u v x.holds new) wanted_is enter

    abbrev ks' : ℕ → TaskWords
    ks' = words_of a (called h (finished p (Ok e₁)) new)

    off : eqb u p ≡ false
    off = ne_eqb u p (λ e. eqb-false p u n.other (sym e))

    issue_change : Changed ks₁ ks' u (issued_words (ks₁ u) w)
    issue_change = record {
      self = rw (n.other, eq-eqb u u refl) (λ j. record (words_of a h u) { wanted = n.is j; issued = true; used = 0; waited = 0 });
      others = λ q e. go q e (eqb p q) refl;
    }
      where
        go : (q : ℕ) → eqb u q ≡ false → (b : Bool) → eqb p q ≡ b → ks' q ≡ ks₁ q
        go q e true g = subst (λ (z : ℕ). ks' z ≡ ks₁ z) (eqb-true p q g)
            (rw (eq-eqb p p refl, off) (λ j. record (words_of a h p) { job = None; wanted = free j; issued = rest.0 j; used = rest.1 j; job_waited = 0; blocked = 0 }))
        go q e false g = rw (e, g) refl

    others : (q : ℕ) → q < a.resources → (q ≡ w.resource → ⊥) → new q ≡ lists h q
    others q l ne = entered.others q (subst (λ (z : ℕ). q < z) (sym (set.resources (omega arith))) l) ne

    exempt_inv : Inv a (λ t. eqb u t) ks₁ (lists h) (releases h)
    exempt_inv = rw next at ended_inv

    wants : (ks₁ u).wanted ≡ Some w
    wants = ap (λ (k : TaskWords). k.wanted) n.words ∙ n.is

    unissued : (ks₁ u).issued ≡ false
    unissued = ap (λ (k : TaskWords). k.issued) n.words ∙ n.unissued

    held_now : held_in u (issued_words (ks₁ u) w) new ≡ x.holds
    held_now = ap is_held (entry_new a ks₁ ks' (lists h) new (releases h) u w x.holds exempt_inv wants unissued n.early entered.added others sound issue_change) ∙ entered.added.holds

    jobs : (q : ℕ) → (ks' q).job ≡ (ks₁ q).job
    jobs = same_job ks₁ ks' u _ issue_change refl

    -- the record of the task whose request is issued
    self_agrees : task_of u (issued_words (ks₁ u) w) new ≡ issued_task (Some x) u (cond (eqb p u) idle_task ((after a h).tasks u))
    self_agrees =
        rw (n.other, eq-eqb u u refl, wanted_is)
        (ap (λ (s : State). record { state = s; release = unwrap_or (job u h) 0; used = 0; blocked = (words_of a h u).blocked })
        (issued_state_lem (job u h) w _ n.job ∙ ap (λ (b : Bool). issued_state b w) (ap (λ (k : TaskWords). held_in u (issued_words k w) new) (sym n.words) ∙ held_now)))

    other_agrees : (q : ℕ) → eqb u q ≡ false → task_of q (ks₁ q) new ≡ issued_task (Some x) q (cond (eqb p q) idle_task ((after a h).tasks q))
    other_agrees q e = go (eqb p q) refl
      where
        go : (b : Bool) → eqb p q ≡ b → task_of q (ks₁ q) new ≡ issued_task (Some x) q (cond (eqb p q) idle_task ((after a h).tasks q))
        go true g = rw (g, e) refl
        go false g =
            rw (g, e) (ap (λ (s : State). record { state = s; release = unwrap_or (job q h) 0; used = used q h; blocked = (words_of a h q).blocked })
            (state_same a (releases h) q (words_of a h q) (lists h) new (i.tasks q) (entered_others a u w.resource (lists h) new entered.added.request entered.added.list entered.added.party others q e)))

    pub next_stepped : Stepped a (finished p (Ok e₁)) new h
    next_stepped = record {
      inv = issue_step a ks₁ ks' (lists h) new (releases h) u w x.holds exempt_inv wants unissued n.early entered.added others sound issue_change;
      agrees = each_task ks₁ ks' u _ issue_change (λ q k. task_of q k new ≡ issued_task (Some x) q (cond (eqb p q) idle_task ((after a h).tasks q))) self_agrees other_agrees;
      stays = λ t g e. first_jobs a ks₁ ks' (lists h) new jobs t ∙ ends_first t e g;
    }

module _ (a : Setup) (set : Setting a) (h : History) (i : InvOf a h) (new : Lists) (sound : SoundOf a new) (p : ℕ) where
  pub finished_stepped : (f : Finished) → Answered a (after a h) (finished p (Ok f)) new → Stepped a (finished p (Ok f)) new h
  finished_stepped f d = go (next_issued a (after a h) p) refl f.issued refl d.gives.1
    where
      ok : (p < a.tasks) × (wanted p h ≡ None)
      ok = let x = accepted_finish a (after a h) p d.passed in (x.0, (going a h p x.1).1)

      go : (o : Option ℕ) → next_issued a (after a h) p ≡ o → (s : Option Issued) → f.issued ≡ s → IssuesNext a (after a h) o s new → Stepped a (finished p (Ok (record { blocked = f.blocked; issued = s }))) new h
      go None e None g k = nothing_stepped a h i p ok.1 f.blocked new e k
      go None e (Some x) g k = absurd k
      go (Some u) e None g k = absurd k
      go (Some u) e (Some x) g k =
          next_stepped a h i p ok.1 set ok.0 f.blocked x new sound (e ∙ ap (λ (z : ℕ). Some z) (sym k.0))
          (subst (λ (z : ℕ). Issues a (after a h) z (wanted_by (after a h) z) x.holds new) (sym k.0) k.1)
