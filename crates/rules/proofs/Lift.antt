-- From the words of a history to the words after one call more: release and ask.
use Rattle.std.proofs.Common.{◌≡◌, ℕ, ◌<◌, ◌≤◌, Bool, true, false, cond, not, eqb, length, is_some, Some, None, Ok, Option, unwrap_or, sym, refl, ◌∙◌}
use Rattle.std.proofs.lemmas.Bool.{eq-eqb, false≢true}
use Rattle.text.specs.Questions.{first_no}
use Rattle.bank.specs.Meaning.{Lists, Sound}
use Rattle.plan.specs.Contents.{processors}
use Rattle.rules.specs.Answers.{released, Answered}
use Rattle.rules.specs.Histories.{History, called, lists, releases, job, wanted, issued, state_of, jobs_after, after, ends}
use Rattle.rules.specs.Jobs.{Setup, is_among_first, cluster_of}
use Rattle.rules.specs.Moves.{moved_task}
use Rattle.rules.specs.Questions.{work_questions}
use Rattle.rules.specs.States.{is_idle, is_ready, is_holding, released_task}
use Rattle.rules.specs.declared.event.Event.{Event}
use Rattle.rules.specs.declared.task.Task.{Task}
use Rattle.rules.specs.declared.task.Wanted.{Wanted}
use Rattle.rules.proofs.Accepted.{accepted_release, accepted_work, first_unfinished}
use Rattle.rules.proofs.Steps.{begun_words, at_rest, release_step, first_begun}
use Rattle.rules.proofs.Words.{TaskWords, words_of, held_in, state_in, Inv, nobody, Changed, each_task, unfinished_job}

-- what never changes in a run
pub record Setting (a : Setup) : Type 0 where
  pub few : a.tasks ≤ 64
  pub clusters : (t : ℕ) → t < a.tasks → cluster_of a.plan t < length a.plan.clusters
  pub known : a.tasks ≤ length a.plan.tasks
  pub there : a.resources ≤ a.told.resources
  pub resources : 0 < a.tasks → a.told.resources ≡ a.resources
  pub seats : 0 < a.tasks → a.told.seats ≡ processors a.plan

abbrev pub InvOf : Setup → History → Type 0
InvOf a h = Inv a nobody (words_of a h) (lists h) (releases h)

abbrev pub SoundOf : Setup → Lists → Type 0
SoundOf a ls = (r : ℕ) → r < a.resources → Sound a.told r (ls r)

-- what a call leaves
pub record Stepped (a : Setup) (e : Event) (new : Lists) (h : History) : Type 0 where
  pub inv : InvOf a (called h e new)
  pub agrees : (q : ℕ) → (after a (called h e new)).tasks q ≡ moved_task (after a h) e new q
  pub stays : (t : ℕ) → is_among_first a.plan a.tasks (jobs_after h) t ≡ true → ends t e ≡ false → is_among_first a.plan a.tasks (jobs_after (called h e new)) t ≡ true

-- the record of a task, by its words
abbrev pub task_of : ℕ → TaskWords → Lists → Task
task_of q k ls = record { state = state_in q k ls; release = unwrap_or k.job 0; used = k.used; blocked = k.blocked }

pub idle_shape : (j : Option ℕ) (o : Option Wanted) (b h : Bool) → is_idle (state_of j o b h) ≡ true → j ≡ None
idle_shape None o b h e = refl
idle_shape (Some m) None b h e = absurd (false≢true e)
idle_shape (Some m) (Some w) false h e = absurd (false≢true e)
idle_shape (Some m) (Some w) true true e = absurd (false≢true e)
idle_shape (Some m) (Some w) true false e = absurd (false≢true e)

pub going_shape : (j : Option ℕ) (o : Option Wanted) (b h : Bool) → is_ready (state_of j o b h) ≡ true → not (is_holding (state_of j o b h)) ≡ true → (is_some j ≡ true) × (o ≡ None)
going_shape None o b h e f = absurd (false≢true e)
going_shape (Some m) None b h e f = (refl, refl)
going_shape (Some m) (Some w) false h e f = absurd (false≢true e)
going_shape (Some m) (Some w) true true e f = absurd (false≢true f)
going_shape (Some m) (Some w) true false e f = absurd (false≢true e)

-- a job that may ask or finish is going
pub going : (a : Setup) (h : History) (p : ℕ) → first_no (work_questions a (after a h) p) ≡ None → (is_some (job p h) ≡ true) × (wanted p h ≡ None)
going a h p e = let y = accepted_work a (after a h) p e in going_shape (job p h) (wanted p h) (issued p h) (held_in p (words_of a h p) (lists h)) y.0 y.1

module _ (a : Setup) (h : History) (i : InvOf a h) (new : Lists) where
  module _ (p m : ℕ) (d : Answered a (after a h) (released p (Ok m)) new) where
    idle : job p h ≡ None
    idle = idle_shape (job p h) (wanted p h) (issued p h) (held_in p (words_of a h p) (lists h)) (accepted_release a (after a h) p d.passed).1

    free : wanted p h ≡ None
    free = (i.tasks p).no_job idle

    changed : Changed (words_of a h) (words_of a (called h (released p (Ok m)) new)) p (begun_words (releases h) (words_of a h p))
    changed = record {
      self = let rest = at_rest a (releases h) (lists h) p (words_of a h p) (i.tasks p) free in
          rw (eq-eqb p p refl) (λ j. record (words_of a h p) { job = Some (releases h); wanted = free j; issued = rest.0 j; used = rest.1 j; job_waited = 0; blocked = 0 });
      others = λ q e. rw e refl;
    }

    lt : p < a.tasks
    lt = (accepted_release a (after a h) p d.passed).0

    pub released_stepped : Stepped a (released p (Ok m)) new h
    released_stepped = record {
      inv = rw d.gives.1 (release_step a (words_of a h) (words_of a (called h (released p (Ok m)) new)) (lists h) (releases h) p i lt idle changed);
      agrees = each_task (words_of a h) (words_of a (called h (released p (Ok m)) new)) p _ changed (λ q k. task_of q k new ≡ cond (eqb p q) (released_task m) (task_of q (words_of a h q) (lists h)))
          (rw (eq-eqb p p refl, d.gives.0) refl) (λ q e. rw (e, d.gives.1) refl);
      stays = λ t f g. rw d.gives.1 (first_begun a (words_of a h) (words_of a (called h (released p (Ok m)) new)) (lists h) (releases h) p i lt idle changed t (sym (unfinished_job a (words_of a h) (lists h) t) ∙ first_unfinished a (jobs_after h) t f) ∙ f);
    }
