-- What every run keeps is kept when a job ends: of the jobs held back, one at most is then among the first.
use Rattle.std.proofs.Common.{◌≡◌, ℕ, ◌<◌, ◌≤◌, Bool, true, false, cond, ◌&&◌, eqb, is_some, Some, None, Option, unwrap_or, sym, refl, ap, ◌∙◌, subst, ⊎_elim}
use Rattle.std.proofs.lemmas.Option.{none-some}
use Rattle.std.proofs.lemmas.Bool.{eqb-true, eqb-false, eq-eqb, ne_eqb, and_parts, and_from, false≢true, both_ways, cases_eq, cases_Bool}
use Rattle.bank.specs.Meaning.{Lists}
use Rattle.plan.specs.Contents.{longest_at}
use Rattle.rules.specs.Histories.{state_of}
use Rattle.rules.specs.Jobs.{Setup, unfinished, is_among_first, cluster_of, least_below, if_first, next_of}
use Rattle.rules.specs.States.{is_held_back}
use Rattle.rules.specs.declared.task.Wanted.{Wanted}
use Rattle.rules.proofs.Counts.{least_some, least_none}
use Rattle.rules.proofs.Places.{first_ended, ended_other_cluster, ended_one, later_not_first}
use Rattle.rules.proofs.Steps.{has_job, unlisted, owed_others}
use Rattle.rules.proofs.Words.{TaskWords, held_in, state_in, word_jobs, TaskKept, Inv, nobody, Changed, each_task, unfinished_job, numbered}

-- the shape of a held-back task
held_shape : (j : Option ℕ) (o : Option Wanted) (b h : Bool) → is_held_back (state_of j o b h) ≡ true → (is_some j ≡ true) × (is_some o ≡ true) × (b ≡ false)
held_shape None o b h e = absurd (false≢true e)
held_shape (Some m) None b h e = absurd (false≢true e)
held_shape (Some m) (Some w) false h e = (refl, refl, refl)
held_shape (Some m) (Some w) true true e = absurd (false≢true e)
held_shape (Some m) (Some w) true false e = absurd (false≢true e)

shape_held : (j : Option ℕ) (o : Option Wanted) (b h : Bool) → is_some j ≡ true → is_some o ≡ true → b ≡ false → is_held_back (state_of j o b h) ≡ true
shape_held None o b h x y z = absurd (false≢true x)
shape_held (Some m) None b h x y z = absurd (false≢true y)
shape_held (Some m) (Some w) false h x y z = refl
shape_held (Some m) (Some w) true h x y z = absurd (false≢true (sym z))

pub held_back_lem : (q : ℕ) (k : TaskWords) (ls : Lists) → is_held_back (state_in q k ls) ≡ true → (is_some k.job ≡ true) × (is_some k.wanted ≡ true) × (k.issued ≡ false)
held_back_lem q k ls e = held_shape k.job k.wanted k.issued (held_in q k ls) e

-- the task that is exempt until its request is issued
abbrev pub only : Option ℕ → ℕ → Bool
only None t = false
only (Some u) t = eqb u t

abbrev pub ended_words : TaskWords → TaskWords
ended_words k = record k { job = None; wanted = None; issued = false; used = 0; job_waited = 0; blocked = 0 }

module _ (a : Setup) (ks ks' : ℕ → TaskWords) (ls : Lists) (n p : ℕ) (i : Inv a nobody ks ls n) (free : (ks p).wanted ≡ None) (c : Changed ks ks' p (ended_words (ks p))) where
  unissued : (ks p).issued ≡ false
  unissued = (i.tasks p).no_request free

  others_jobs : (q : ℕ) → (q ≡ p → ⊥) → ((word_jobs ks' ls).state q ≡ (word_jobs ks ls).state q) × ((word_jobs ks' ls).number q ≡ (word_jobs ks ls).number q)
  others_jobs q ne = let e = c.others q (ne_eqb p q (λ k. ne (sym k))) in (ap (λ (k : TaskWords). state_in q k ls) e, ap (λ (k : TaskWords). unwrap_or k.job 0) e)

  over : unfinished (word_jobs ks' ls) p ≡ false
  over = unfinished_job a ks' ls p ∙ ap (λ (k : TaskWords). is_some k.job) c.self

  pub stays_first_lem : (t : ℕ) → eqb p t ≡ false → is_among_first a.plan a.tasks (word_jobs ks ls) t ≡ true → is_among_first a.plan a.tasks (word_jobs ks' ls) t ≡ true
  stays_first_lem t e = first_ended a (word_jobs ks ls) (word_jobs ks' ls) p others_jobs over t (λ k. eqb-false p t e (sym k))

  abbrev back_test : ℕ → Bool
  back_test u = is_held_back ((word_jobs ks' ls).state u) && eqb (cluster_of a.plan u) (cluster_of a.plan p)

  -- a task that passes is another one, held back before too
  pub record Back (u : ℕ) : Type 0 where
    pub other : eqb p u ≡ false
    pub job : is_some (ks u).job ≡ true
    pub wanted : is_some (ks u).wanted ≡ true
    pub unissued : (ks u).issued ≡ false
    pub cluster : cluster_of a.plan u ≡ cluster_of a.plan p

  back_of : (u : ℕ) → back_test u ≡ true → Back u
  back_of u e = go (eqb p u) refl
    where
      parts : (is_held_back ((word_jobs ks' ls).state u) ≡ true) × (eqb (cluster_of a.plan u) (cluster_of a.plan p) ≡ true)
      parts = and_parts (is_held_back ((word_jobs ks' ls).state u)) (eqb (cluster_of a.plan u) (cluster_of a.plan p)) e

      go : (b : Bool) → eqb p u ≡ b → Back u
      go true f =
          let here : is_some (ks' p).job ≡ true = subst (λ (z : ℕ). is_some (ks' z).job ≡ true) (sym (eqb-true p u f)) (held_back_lem u (ks' u) ls parts.0).0 in
          absurd (false≢true (sym (ap (λ (k : TaskWords). is_some k.job) c.self) ∙ here))
      go false f =
          let h = held_back_lem u (ks u) ls (sym (ap (λ (k : TaskWords). is_held_back (state_in u k ls)) (c.others u f)) ∙ parts.0) in
          record { other = f; job = h.0; wanted = h.1; unissued = h.2; cluster = eqb-true (cluster_of a.plan u) (cluster_of a.plan p) parts.1 }

  unfinished_before : (u : ℕ) → is_some (ks u).job ≡ true → unfinished (word_jobs ks ls) u ≡ true
  unfinished_before u e = unfinished_job a ks ls u ∙ e

  unfinished_after : (u : ℕ) → eqb p u ≡ false → is_some (ks u).job ≡ true → unfinished (word_jobs ks' ls) u ≡ true
  unfinished_after u f e = unfinished_job a ks' ls u ∙ ap (λ (k : TaskWords). is_some k.job) (c.others u f) ∙ e

  -- a job that is held back still is not among the first, but for the next
  stays_back : (t : ℕ) → eqb p t ≡ false → is_some (ks t).wanted ≡ true → (ks t).issued ≡ false → (o : Option ℕ) → least_below back_test (λ u. (word_jobs ks' ls).number u) a.tasks ≡ o → only (if_first a.plan a.tasks (word_jobs ks' ls) o) t ≡ false → is_among_first a.plan a.tasks (word_jobs ks' ls) t ≡ false
  stays_back t f w e o least out = ⊎_elim (λ same. near o least out same) (λ far. ended_other_cluster a (word_jobs ks ls) (word_jobs ks' ls) p others_jobs over t far apart ∙ before) (cases_eq (cluster_of a.plan t) (cluster_of a.plan p))
    where
      apart : t ≡ p → ⊥
      apart k = eqb-false p t f (sym k)

      has : is_some (ks t).job ≡ true
      has = has_job a n ls t (ks t) (i.tasks t) w

      before : is_among_first a.plan a.tasks (word_jobs ks ls) t ≡ false
      before = i.firsts t refl w ∙ e

      passes : cluster_of a.plan t ≡ cluster_of a.plan p → back_test t ≡ true
      passes same = and_from (is_held_back ((word_jobs ks' ls).state t)) (eqb (cluster_of a.plan t) (cluster_of a.plan p))
          (ap (λ (k : TaskWords). is_held_back (state_in t k ls)) (c.others t f) ∙ shape_held (ks t).job (ks t).wanted (ks t).issued (held_in t (ks t) ls) has w e)
          (eq-eqb (cluster_of a.plan t) (cluster_of a.plan p) same)

      near : (o : Option ℕ) → least_below back_test (λ u. (word_jobs ks' ls).number u) a.tasks ≡ o → only (if_first a.plan a.tasks (word_jobs ks' ls) o) t ≡ false → cluster_of a.plan t ≡ cluster_of a.plan p → is_among_first a.plan a.tasks (word_jobs ks' ls) t ≡ false
      near None least out same = absurd (both_ways (back_test t) (least_none back_test (λ u. (word_jobs ks' ls).number u) a.tasks least t ((i.tasks t).known has)) (passes same))
      near (Some u) least out same = go (is_among_first a.plan a.tasks (word_jobs ks' ls) u) refl out
        where
          found : (back_test u ≡ true) × (u < a.tasks) × ((k : ℕ) → k < a.tasks → back_test k ≡ true → (word_jobs ks' ls).number u ≤ (word_jobs ks' ls).number k)
          found = least_some back_test (λ u. (word_jobs ks' ls).number u) a.tasks u least

          back : Back u
          back = back_of u found.0

          least_number : (word_jobs ks' ls).number u ≤ (word_jobs ks' ls).number t
          least_number = found.2 t ((i.tasks t).known has) (passes same)

          go : (b : Bool) → is_among_first a.plan a.tasks (word_jobs ks' ls) u ≡ b → only (cond b (Some u) None) t ≡ false → is_among_first a.plan a.tasks (word_jobs ks' ls) t ≡ false
          go false g out = later_not_first a (word_jobs ks' ls) u t (unfinished_after u back.other back.job) (back.cluster ∙ sym same) least_number g
          go true g out =
              ended_one a (word_jobs ks ls) (word_jobs ks' ls) p others_jobs over n u t (numbered a nobody ks ls n i) (unfinished_before u back.job) (unfinished_before t has) apart (eqb-false u t out) (back.cluster ∙ sym same)
              (subst (λ (m : ℕ). m ≤ (word_jobs ks ls).number t) (others_jobs u (λ k. eqb-false p u back.other (sym k))).1 (subst (λ (m : ℕ). (word_jobs ks' ls).number u ≤ m) (others_jobs t apart).1 least_number))
              (i.firsts u refl back.wanted ∙ back.unissued)

  ending : TaskKept a n ls p (ended_words (ks p))
  ending = record {
    no_job = λ e. refl;
    no_request = λ e. refl;
    known = λ e. absurd (false≢true e);
    below = λ e. absurd (false≢true e);
    placed = λ v e. absurd (none-some _ e);
    unused = λ e. refl;
    in_time = λ v e. absurd (none-some _ e);
    blocked = refl;
    bounded = λ e. absurd (false≢true e);
    once = unlisted a n ls p (ks p) (i.tasks p) unissued;
    mode = λ v e. absurd (none-some _ e);
  }

  apart' : (t u : ℕ) → is_some (ks' t).job ≡ true → is_some (ks' u).job ≡ true → unwrap_or (ks' t).job 0 ≡ unwrap_or (ks' u).job 0 → t ≡ u
  apart' t u x y e =
      let ft = old t x in
      let fu = old u y in
      i.apart t u (sym (ap (λ (k : TaskWords). is_some k.job) (c.others t ft)) ∙ x) (sym (ap (λ (k : TaskWords). is_some k.job) (c.others u fu)) ∙ y)
      (sym (ap (λ (k : TaskWords). unwrap_or k.job 0) (c.others t ft)) ∙ e ∙ ap (λ (k : TaskWords). unwrap_or k.job 0) (c.others u fu))
    where
      old : (q : ℕ) → is_some (ks' q).job ≡ true → eqb p q ≡ false
      old = each_task ks ks' p _ c (λ q k. is_some k.job ≡ true → eqb p q ≡ false) (λ e. absurd (false≢true e)) (λ q f e. f)

  pub end_step : Inv a (only (next_of a.plan a.tasks (word_jobs ks' ls) (cluster_of a.plan p))) ks' ls n
  end_step = record {
    tasks = each_task ks ks' p _ c (TaskKept a n ls) ending (λ q e. i.tasks q);
    apart = apart';
    firsts = λ t out. each_task ks ks' p _ c (λ t k. only (next_of a.plan a.tasks (word_jobs ks' ls) (cluster_of a.plan p)) t ≡ false → is_some k.wanted ≡ true → is_among_first a.plan a.tasks (word_jobs ks' ls) t ≡ k.issued)
        (λ z e. absurd (false≢true e))
        (λ t f out w. ⊎_elim
        (λ e. stays_first_lem t f (i.firsts t refl w ∙ e) ∙ sym e)
        (λ e. stays_back t f w e (least_below back_test (λ u. (word_jobs ks' ls).number u) a.tasks) refl out ∙ sym e)
        (cases_Bool (ks t).issued)) t out;
    owed = λ r lr. owed_others a ks ks' p _ c r (longest_at a.plan r) (ls r) (unlisted a n ls p (ks p) (i.tasks p) unissued r lr) (i.owed r lr);
    sound = i.sound;
  }

  -- the next task is held back, and now among the first
  pub next_back : (u : ℕ) → next_of a.plan a.tasks (word_jobs ks' ls) (cluster_of a.plan p) ≡ Some u → Back u × (is_among_first a.plan a.tasks (word_jobs ks' ls) u ≡ true)
  next_back u = go (least_below back_test (λ u. (word_jobs ks' ls).number u) a.tasks) refl
    where
      go : (o : Option ℕ) → least_below back_test (λ u. (word_jobs ks' ls).number u) a.tasks ≡ o → if_first a.plan a.tasks (word_jobs ks' ls) o ≡ Some u → Back u × (is_among_first a.plan a.tasks (word_jobs ks' ls) u ≡ true)
      go None least e = absurd (none-some _ e)
      go (Some v) least e = at (is_among_first a.plan a.tasks (word_jobs ks' ls) v) refl e
        where
          at : (b : Bool) → is_among_first a.plan a.tasks (word_jobs ks' ls) v ≡ b → cond b (Some v) None ≡ Some u → Back u × (is_among_first a.plan a.tasks (word_jobs ks' ls) u ≡ true)
          at true g e = let same : v ≡ u = cc in subst (λ (z : ℕ). Back z × (is_among_first a.plan a.tasks (word_jobs ks' ls) z ≡ true)) same (back_of v (least_some back_test (λ u. (word_jobs ks' ls).number u) a.tasks v least).0, g)
          at false g e = absurd (none-some _ e)
