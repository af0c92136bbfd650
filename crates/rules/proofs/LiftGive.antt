-- From the words of a history to the words after a give more, and after a tick more.
use Rattle.std.proofs.Common.{◌≡◌, ℕ, ◌<◌, Bool, true, false, cond, not, ◌&&◌, eqb, ◌⊎◌, List, is_some, Some, None, Ok, Option, unwrap_or, sym, refl, ap, ◌∙◌, subst, inl, inr, arith}
use Rattle.std.proofs.lemmas.Option.{none-some}
use Rattle.std.proofs.lemmas.Bool.{eq-eqb, ne_eqb, and_parts, leb-false, false≢true, cases_eq}
use Rattle.bank.specs.Lists.{request_of}
use Rattle.bank.specs.Meaning.{Lists}
use Rattle.bank.specs.declared.request.Request.{Request}
use Rattle.rules.specs.Answers.{gave, ticked, Answered}
use Rattle.rules.specs.Histories.{History, called, lists, releases, job, wanted, issued, used, state_of, entry_of, after}
use Rattle.rules.specs.Jobs.{Setup}
use Rattle.rules.specs.Moves.{is_held, let_in, let_in_state, ticked_task, one_more_if}
use Rattle.rules.specs.Questions.{late_task, late, late_in, length_for}
use Rattle.rules.specs.States.{is_holding, in_state, wanted_of}
use Rattle.rules.specs.declared.task.State.{State}
use Rattle.rules.specs.declared.task.State.TheVariants.{Going, Waiting, Holding}
use Rattle.rules.specs.declared.task.Task.{Task}
use Rattle.rules.specs.declared.task.Wanted.{Wanted}
use Rattle.rules.proofs.Accepted.{accepted_give, accepted_tick}
use Rattle.rules.proofs.Counts.{lowest_none}
use Rattle.rules.proofs.Gives.{At, give_step, left_held}
use Rattle.rules.proofs.Lift.{Setting, InvOf, SoundOf, Stepped, task_of}
use Rattle.rules.proofs.Steps.{has_job, same_job}
use Rattle.rules.proofs.Ticks.{tick_step, blocked_waits, held_or_waits}
use Rattle.rules.proofs.Words.{TaskWords, words_of, held_in, waits_in, Placed, Changed, each_task, first_jobs}

-- the shape of a holder
pub record Holds (j : Option ℕ) (o : Option Wanted) (b h : Bool) : Type 0 where
  pub wanted : Wanted
  pub is : o ≡ Some wanted
  pub issued : b ≡ true
  pub held : h ≡ true
  pub job : is_some j ≡ true
  pub state : state_of j o b h ≡ Holding wanted

pub holding_shape : (j : Option ℕ) (o : Option Wanted) (b h : Bool) → is_holding (state_of j o b h) ≡ true → Holds j o b h
holding_shape None o b h e = absurd (false≢true e)
holding_shape (Some m) None b h e = absurd (false≢true e)
holding_shape (Some m) (Some w) false h e = absurd (false≢true e)
holding_shape (Some m) (Some w) true true e = record { wanted = w; is = refl; issued = refl; held = refl; job = refl; state = refl }
holding_shape (Some m) (Some w) true false e = absurd (false≢true e)

abbrev pub given_words : TaskWords → TaskWords
given_words k = record k { wanted = None; issued = false; used = 0; waited = 0 }

-- another task's record after a give at r, where `new` tells whether it holds then
module _ (r : ℕ) (q : ℕ) (new : Lists) (n u b : ℕ) where
  abbrev task_in : State → Task
  task_in st = record { state = st; release = n; used = u; blocked = b }

  let_in_other : (j : Option ℕ) (o : Option Wanted) (i h h' : Bool)
      → (i ≡ true → h ≡ true → h' ≡ true)
      → (h ≡ false → u ≡ 0)
      → ((w : Wanted) → o ≡ Some w → i ≡ true → w.resource ≡ r → h' ≡ is_held (request_of q (new r)))
      → ((w : Wanted) → o ≡ Some w → i ≡ true → (w.resource ≡ r → ⊥) → h' ≡ h)
      → task_in (state_of j o i h') ≡ let_in_state r (is_held (request_of q (new r))) (state_of j o i h) (task_in (state_of j o i h))
  let_in_other None o i h h' stays zero here there = refl
  let_in_other (Some m) None i h h' stays zero here there = refl
  let_in_other (Some m) (Some w) false h h' stays zero here there = refl
  let_in_other (Some m) (Some w) true true h' stays zero here there = rw (stays refl refl) refl
  let_in_other (Some m) (Some w) true false h' stays zero here there = go (cases_eq w.resource r)
    where
      shown : (x : Bool) → task_in (state_of (Some m) (Some w) true x) ≡ cond (true && x) (in_state (Holding w) (task_in (Waiting w))) (task_in (Waiting w))
      shown true = ap (λ (z : ℕ). record { state = Holding w; release = n; used = z; blocked = b }) (zero refl)
      shown false = refl

      go : (w.resource ≡ r) ⊎ (w.resource ≡ r → ⊥) → task_in (state_of (Some m) (Some w) true h') ≡ cond (eqb w.resource r && is_held (request_of q (new r))) (in_state (Holding w) (task_in (Waiting w))) (task_in (Waiting w))
      go (inl e) = ap (λ (x : Bool). task_in (state_of (Some m) (Some w) true x)) (here w refl refl e) ∙ shown (is_held (request_of q (new r))) ∙ ap (λ (x : Bool). cond (x && is_held (request_of q (new r))) (in_state (Holding w) (task_in (Waiting w))) (task_in (Waiting w))) (sym (eq-eqb w.resource r e))
      go (inr ne) = ap (λ (x : Bool). task_in (state_of (Some m) (Some w) true x)) (there w refl refl ne) ∙ ap (λ (x : Bool). cond (x && is_held (request_of q (new r))) (in_state (Holding w) (task_in (Waiting w))) (task_in (Waiting w))) (sym (ne_eqb w.resource r ne))

module _ (a : Setup) (set : Setting a) (h : History) (i : InvOf a h) (new : Lists) (sound : SoundOf a new) (p m : ℕ) (d : Answered a (after a h) (gave p (Ok m)) new) where
  accepted : (p < a.tasks) × (is_holding ((after a h).tasks p).state ≡ true)
  accepted = accepted_give a (after a h) p d.passed

  shape : Holds (job p h) (wanted p h) (issued p h) (held_in p (words_of a h p) (lists h))
  shape = holding_shape (job p h) (wanted p h) (issued p h) (held_in p (words_of a h p) (lists h)) accepted.1

  abbrev r : ℕ
  r = (wanted_of ((after a h).tasks p).state).resource

  there : shape.wanted.resource ≡ r
  there = ap (λ (st : State). (wanted_of st).resource) (sym shape.state)

  place : Placed a p shape.wanted
  place = (i.tasks p).placed shape.wanted shape.is

  lr : r < a.resources
  lr = subst (λ (z : ℕ). z < a.resources) there place.there

  at : At (words_of a h p) r
  at = record { wanted = shape.wanted; is = shape.is; there = there; issued = shape.issued }

  others : (q : ℕ) → q < a.resources → (q ≡ r → ⊥) → new q ≡ lists h q
  others q l ne = d.gives.1.others q (subst (λ (z : ℕ). q < z) (sym (set.resources (omega (arith, accepted.0)))) l) ne

  abbrev ks' : ℕ → TaskWords
  ks' = words_of a (called h (gave p (Ok m)) new)

  changed : Changed (words_of a h) ks' p (given_words (words_of a h p))
  changed = record { self = rw (eq-eqb p p refl) refl; others = λ q e. rw e refl }

  entry_at : (q : ℕ) (w : Wanted) (ls : Lists) → wanted q h ≡ Some w → issued q h ≡ true → held_in q (words_of a h q) ls ≡ is_held (request_of q (ls w.resource))
  entry_at q w ls e f = ap (λ (b : Bool). b && is_held (entry_of q (wanted q h) ls)) f ∙ ap (λ (o : Option Wanted). is_held (entry_of q o ls)) e

  other : (q : ℕ) → eqb p q ≡ false → task_of q (words_of a h q) new ≡ let_in r (new r) q (task_of q (words_of a h q) (lists h))
  other q e =
      let_in_other r q new (unwrap_or (job q h) 0) (used q h) (words_of a h q).blocked (job q h) (wanted q h) (issued q h) (held_in q (words_of a h q) (lists h)) (held_in q (words_of a h q) new)
      (λ f g. left_held a set.known (words_of a h) ks' (lists h) new (releases h) p r i lr at shape.held d.gives.1.stay others sound changed q e g)
      (λ f. (i.tasks q).unused f)
      (λ w x y z. entry_at q w new x y ∙ ap (λ (k : ℕ). is_held (request_of q (new k))) z)
      (λ w x y ne. entry_at q w new x y ∙ ap (λ (xs : List Request). is_held (request_of q xs)) (others w.resource ((i.tasks q).placed w x).there ne) ∙ sym (entry_at q w (lists h) x y))

  pub gave_stepped : Stepped a (gave p (Ok m)) new h
  gave_stepped = record {
    inv = give_step a set.known (words_of a h) ks' (lists h) new (releases h) p r i lr at shape.held d.gives.1.stay others sound changed;
    agrees = each_task (words_of a h) ks' p _ changed (λ q k. task_of q k new ≡ let_in r (new r) q (cond (eqb p q) (in_state Going (task_of q (words_of a h q) (lists h))) (task_of q (words_of a h q) (lists h))))
        (rw (eq-eqb p p refl) (ap (λ (st : State). record { state = st; release = unwrap_or (job p h) 0; used = 0; blocked = (words_of a h p).blocked }) (going_state (job p h) shape.job)))
        (λ q e. rw e (other q e));
    stays = λ t f e. first_jobs a (words_of a h) ks' (lists h) new (same_job (words_of a h) ks' p _ changed refl) t ∙ f;
  }
    where
      going_state : (j : Option ℕ) → is_some j ≡ true → state_of j None false false ≡ Going
      going_state None e = absurd (false≢true e)
      going_state (Some n) e = refl

-- a tick
module _ (a : Setup) (set : Setting a) (h : History) (i : InvOf a h) (new : Lists) (m : ℕ) (d : Answered a (after a h) (ticked (Ok m)) new) where
  nobody_late : late_task a (after a h) ≡ None
  nobody_late = accepted_tick a (after a h) d.passed

  in_time_lem : (j : Option ℕ) (o : Option Wanted) (b x : Bool) (q u : ℕ) → late_in a.plan q u (state_of j o b x) ≡ false → is_some j ≡ true → b ≡ true → x ≡ true → (w : Wanted) → o ≡ Some w → u < length_for a.plan q w.resource
  in_time_lem None o b x q u l ej eb ex w e = absurd (false≢true ej)
  in_time_lem (Some n) None b x q u l ej eb ex w e = absurd (none-some _ e)
  in_time_lem (Some n) (Some v) false x q u l ej eb ex w e = absurd (false≢true eb)
  in_time_lem (Some n) (Some v) true false q u l ej eb ex w e = absurd (false≢true ex)
  in_time_lem (Some n) (Some v) true true q u l ej eb ex w e = let same : v ≡ w = cc in subst (λ (z : Wanted). u < length_for a.plan q z.resource) same (leb-false (length_for a.plan q v.resource) u l)

  early : (q : ℕ) (w : Wanted) → wanted q h ≡ Some w → held_in q (words_of a h q) (lists h) ≡ true → used q h < length_for a.plan q w.resource
  early q w e f =
      let has = has_job a (releases h) (lists h) q (words_of a h q) (i.tasks q) (ap is_some e) in
      in_time_lem (job q h) (wanted q h) (issued q h) (held_in q (words_of a h q) (lists h)) q (used q h) (lowest_none (late a (after a h)) a.tasks nobody_late q ((i.tasks q).known has)) has
      (and_parts (issued q h) (is_held (entry_of q (wanted q h) (lists h))) f).0 f w e

  tick_task : (n u k : ℕ) (j : Option ℕ) (o : Option Wanted) (b x y : Bool) → (j ≡ None → o ≡ None) → (o ≡ None → b ≡ false) → (b ≡ true → x ≡ not y) → (b ≡ false → (x ≡ false) × (y ≡ false))
      → record { state = state_of j o b x; release = n; used = one_more_if x u; blocked = one_more_if y k } ≡ ticked_task (record { state = state_of j o b x; release = n; used = u; blocked = k })
  tick_task n u k None o b x y f g s z = let e = z (g (f refl)) in rw (e.0, e.1) refl
  tick_task n u k (Some c) None b x y f g s z = let e = z (g refl) in rw (e.0, e.1) refl
  tick_task n u k (Some c) (Some w) false x y f g s z = let e = z refl in rw (e.0, e.1) refl
  tick_task n u k (Some c) (Some w) true true true f g s z = absurd (false≢true (sym (s refl)))
  tick_task n u k (Some c) (Some w) true true false f g s z = refl
  tick_task n u k (Some c) (Some w) true false true f g s z = refl
  tick_task n u k (Some c) (Some w) true false false f g s z = absurd (false≢true (s refl))

  pub ticked_stepped : Stepped a (ticked (Ok m)) new h
  ticked_stepped = record {
    inv = rw d.gives.1 (tick_step a set.known (words_of a h) (lists h) (releases h) i early);
    agrees = λ q. rw (d.gives.1, blocked_waits a (words_of a h) (lists h) (releases h) i q)
        (tick_task (unwrap_or (job q h) 0) (used q h) (words_of a h q).blocked (job q h) (wanted q h) (issued q h) (held_in q (words_of a h q) (lists h)) (waits_in q (words_of a h q) (lists h))
        (i.tasks q).no_job (i.tasks q).no_request (held_or_waits a (releases h) (lists h) q (words_of a h q) (i.tasks q)) (λ e. (rw e refl, rw e refl)));
    stays = λ t f e. rw d.gives.1 (first_jobs a (words_of a h) (words_of a (called h (ticked (Ok m)) new)) (lists h) (lists h) (λ q. refl) t ∙ f);
  }
