-- From the words of a history to the words after an ask more.
use Rattle.std.proofs.Common.{◌≡◌, ℕ, ◌<◌, Bool, true, false, cond, eqb, is_some, Some, None, Ok, Option, unwrap_or, sym, refl, ap, ◌∙◌, subst, arith}
use Rattle.std.proofs.lemmas.Bool.{eqb-true, eq-eqb, false≢true}
use Rattle.bank.specs.Meaning.{Lists}
use Rattle.bank.specs.Questions.{knows}
use Rattle.bank.specs.declared.request.Mode.{Mode}
use Rattle.plan.specs.Contents.{length_at}
use Rattle.text.specs.Questions.{first_no}
use Rattle.rules.specs.Questions.{work_questions}
use Rattle.rules.specs.Answers.{asked, Answered, Asks, Issues}
use Rattle.rules.specs.Histories.{History, called, lists, releases, job, wanted, issued, used, state_of, jobs_after, after, is_issued}
use Rattle.rules.specs.Jobs.{Setup, is_among_first}
use Rattle.rules.specs.Moves.{is_held}
use Rattle.rules.specs.States.{asked_state, issued_state, in_state}
use Rattle.rules.specs.declared.answer.Asked.{Asked}
use Rattle.rules.specs.declared.answer.Asked.TheVariants.{Hold, Wait, Back}
use Rattle.rules.specs.declared.task.State.{State}
use Rattle.rules.specs.declared.task.State.TheVariants.{HeldBack}
use Rattle.rules.specs.declared.task.Wanted.{Wanted}
use Rattle.rules.proofs.Accepted.{accepted_ask}
use Rattle.rules.proofs.Lift.{Setting, InvOf, SoundOf, Stepped, task_of, going}
use Rattle.rules.proofs.Steps.{at_rest, same_job, ask_step, issue_step, entry_new, entered_others}
use Rattle.rules.proofs.Words.{TaskWords, words_of, held_in, word_jobs, Placed, Inv, nobody, Changed, each_task, first_jobs, state_same}

-- a task that was exempt no longer is
pub close : (a : Setup) (x : ℕ → Bool) (ks : ℕ → TaskWords) (ls : Lists) (n : ℕ) → Inv a x ks ls n → ((t : ℕ) → x t ≡ true → is_some (ks t).wanted ≡ true → is_among_first a.plan a.tasks (word_jobs ks ls) t ≡ (ks t).issued) → Inv a nobody ks ls n
close a x ks ls n i done = record { tasks = i.tasks; apart = i.apart; firsts = λ t z e. go t e (x t) refl; owed = i.owed; sound = i.sound }
  where
    go : (t : ℕ) → is_some (ks t).wanted ≡ true → (b : Bool) → x t ≡ b → is_among_first a.plan a.tasks (word_jobs ks ls) t ≡ (ks t).issued
    go t e true f = done t f e
    go t e false f = i.firsts t f e

abbrev pub update : (ℕ → TaskWords) → ℕ → TaskWords → ℕ → TaskWords
update ks p new q = cond (eqb p q) new (ks q)

pub updated : (ks : ℕ → TaskWords) (p : ℕ) (new : TaskWords) → Changed ks (update ks p new) p new
updated ks p new = record { self = rw (eq-eqb p p refl) refl; others = λ q e. rw e refl }

-- the state of a job with a request
pub back_state : (j : Option ℕ) (w : Wanted) (h : Bool) → is_some j ≡ true → state_of j (Some w) false h ≡ HeldBack w
back_state None w h e = absurd (false≢true e)
back_state (Some m) w h e = refl

pub issued_state_lem : (j : Option ℕ) (w : Wanted) (h : Bool) → is_some j ≡ true → state_of j (Some w) true h ≡ issued_state h w
issued_state_lem None w h e = absurd (false≢true e)
issued_state_lem (Some m) w true e = refl
issued_state_lem (Some m) w false e = refl

abbrev pub asking_words : TaskWords → Wanted → TaskWords
asking_words k w = record k { wanted = Some w; issued = false; used = 0 }

abbrev pub issued_words : TaskWords → Wanted → TaskWords
issued_words k w = record k { wanted = Some w; issued = true; used = 0; waited = 0 }

module _ (a : Setup) (set : Setting a) (h : History) (i : InvOf a h) (new : Lists) (p r : ℕ) (m : Mode) where
  abbrev w : Wanted
  w = record { resource = r; mode = m }

  module _ (g : (is_some (job p h) ≡ true) × (wanted p h ≡ None)) (place : Placed a p w) where
    rest : (issued p h ≡ false) × (used p h ≡ 0)
    rest = at_rest a (releases h) (lists h) p (words_of a h p) (i.tasks p) g.1

    back_changed : Changed (words_of a h) (words_of a (called h (asked p r m (Ok Back)) new)) p (asking_words (words_of a h p) w)
    back_changed = record {
      self = rw (eq-eqb p p refl) (λ j. record (words_of a h p) { wanted = Some w; issued = rest.0 j; used = rest.1 j });
      others = λ q e. rw e refl;
    }

    -- a job is held back
    pub back_stepped : is_among_first a.plan a.tasks (jobs_after h) p ≡ false → new ≡ lists h → Stepped a (asked p r m (Ok Back)) new h
    back_stepped late same = record {
      inv = rw same (close a (λ t. eqb p t) ks' (lists h) (releases h) (ask_step a (words_of a h) ks' (lists h) (releases h) p w i g.0 g.1 place back_changed)
          (λ t e f. subst (λ (z : ℕ). is_among_first a.plan a.tasks (word_jobs ks' (lists h)) z ≡ (ks' z).issued) (eqb-true p t e) (first_jobs a (words_of a h) ks' (lists h) (lists h) jobs p ∙ late ∙ sym (ap (λ (k : TaskWords). k.issued) back_changed.self))));
      agrees = each_task (words_of a h) ks' p _ back_changed (λ q k. task_of q k new ≡ cond (eqb p q) (in_state (asked_state Back w) (task_of q (words_of a h q) (lists h))) (task_of q (words_of a h q) (lists h)))
          (rw (eq-eqb p p refl) (ap (λ (st : State). record { state = st; release = unwrap_or (job p h) 0; used = 0; blocked = (words_of a h p).blocked }) (back_state (job p h) w _ g.0)))
          (λ q e. rw (e, same) refl);
      stays = λ t f e. rw same (first_jobs a (words_of a h) ks' (lists h) (lists h) jobs t ∙ f);
    }
      where
        ks' : ℕ → TaskWords
        ks' = words_of a (called h (asked p r m (Ok Back)) new)

        jobs : (q : ℕ) → (ks' q).job ≡ (words_of a h q).job
        jobs = same_job (words_of a h) ks' p _ back_changed refl

    -- a request is issued by an ask
    module _ (x : Asked) (holds : Bool) (is : is_issued x ≡ true) (st : asked_state x w ≡ issued_state holds w) (early : is_among_first a.plan a.tasks (jobs_after h) p ≡ true) (enter : Issues a (after a h) p w holds new) (sound : SoundOf a new) (lt : p < a.tasks) where
      abbrev ks' : ℕ → TaskWords
      ks' = words_of a (called h (asked p r m (Ok x)) new)

      abbrev ks₁ : ℕ → TaskWords
      ks₁ = update (words_of a h) p (asking_words (words_of a h p) w)

      first_change : Changed (words_of a h) ks₁ p (asking_words (words_of a h p) w)
      first_change = updated (words_of a h) p (asking_words (words_of a h p) w)

      second_change : Changed ks₁ ks' p (issued_words (words_of a h p) w)
      second_change = record { self = rw (eq-eqb p p refl, is) refl; others = λ q e. rw e refl }

      whole_change : Changed (words_of a h) ks' p (issued_words (words_of a h p) w)
      whole_change = record { self = second_change.self; others = λ q e. rw e refl }

      waiting_inv : Inv a (λ t. eqb p t) ks₁ (lists h) (releases h)
      waiting_inv = ask_step a (words_of a h) ks₁ (lists h) (releases h) p w i g.0 g.1 place first_change

      -- the same change, from the words in between
      third_change : Changed ks₁ ks' p (issued_words (ks₁ p) w)
      third_change = record { self = second_change.self ∙ ap (λ (k : TaskWords). issued_words k w) (sym first_change.self); others = second_change.others }

      others : (q : ℕ) → q < a.resources → (q ≡ r → ⊥) → new q ≡ lists h q
      others q l ne = enter.others q (subst (λ (z : ℕ). q < z) (sym (set.resources (omega arith))) l) ne

      jobs : (q : ℕ) → (ks' q).job ≡ (words_of a h q).job
      jobs = same_job (words_of a h) ks' p _ whole_change refl

      early_now : is_among_first a.plan a.tasks (word_jobs ks₁ (lists h)) p ≡ true
      early_now = first_jobs a (words_of a h) ks₁ (lists h) (lists h) (same_job (words_of a h) ks₁ p _ first_change refl) p ∙ early

      wants : (ks₁ p).wanted ≡ Some w
      wants = ap (λ (k : TaskWords). k.wanted) first_change.self

      unissued : (ks₁ p).issued ≡ false
      unissued = ap (λ (k : TaskWords). k.issued) first_change.self

      inv_after : Inv a nobody ks' new (releases h)
      inv_after = issue_step a ks₁ ks' (lists h) new (releases h) p w holds waiting_inv wants unissued early_now enter.added others sound third_change

      held_now : held_in p (issued_words (words_of a h p) w) new ≡ holds
      held_now = ap is_held (entry_new a ks₁ ks' (lists h) new (releases h) p w holds waiting_inv wants unissued early_now enter.added others sound third_change) ∙ enter.added.holds

      pub issued_stepped : Stepped a (asked p r m (Ok x)) new h
      issued_stepped = record {
        inv = inv_after;
        agrees = each_task (words_of a h) ks' p _ whole_change (λ q k. task_of q k new ≡ cond (eqb p q) (in_state (asked_state x w) (task_of q (words_of a h q) (lists h))) (task_of q (words_of a h q) (lists h)))
            (rw (eq-eqb p p refl) (ap (λ (s : State). record { state = s; release = unwrap_or (job p h) 0; used = 0; blocked = (words_of a h p).blocked })
            (issued_state_lem (job p h) w (held_in p (issued_words (words_of a h p) w) new) g.0 ∙ ap (λ (b : Bool). issued_state b w) held_now ∙ sym st)))
            (λ q e. rw e (ap (λ (s : State). record { state = s; release = unwrap_or (job q h) 0; used = used q h; blocked = (words_of a h q).blocked })
            (state_same a (releases h) q (words_of a h q) (lists h) new (i.tasks q) (entered_others a p r (lists h) new enter.added.request enter.added.list enter.added.party others q e))));
        stays = λ t f e. first_jobs a (words_of a h) ks' (lists h) new jobs t ∙ f;
      }

  pub asked_stepped : (x : Asked) → SoundOf a new → Answered a (after a h) (asked p r m (Ok x)) new → Stepped a (asked p r m (Ok x)) new h
  asked_stepped x sound d = go x d.gives
    where
      ok : (p < a.tasks) × (r < a.resources) × (knows a.told r m ≡ true) × (is_some (length_at a.plan p r) ≡ true) × (first_no (work_questions a (after a h) p) ≡ None)
      ok = accepted_ask a (after a h) p r m d.passed

      g : (is_some (job p h) ≡ true) × (wanted p h ≡ None)
      g = going a h p ok.4

      place : Placed a p w
      place = record { there = ok.1; known = ok.2; declared = ok.3 }

      go : (x : Asked) → Asks a (after a h) p w x new → Stepped a (asked p r m (Ok x)) new h
      go Hold k = issued_stepped g place Hold true refl refl k.0 k.1 sound ok.0
      go Wait k = issued_stepped g place Wait false refl refl k.0 k.1 sound ok.0
      go Back k = back_stepped g place k.0 k.1
