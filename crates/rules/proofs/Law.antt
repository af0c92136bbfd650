-- The law over every run: what is kept after each call gives the promises.
use Rattle.std.proofs.Common.{◌≡◌, ℕ, ◌<◌, ◌≤◌, Bool, true, false, [], is_some, Some, None, Option, unwrap_or, sym, refl, ap, ◌∙◌, subst, ⊎_elim, arith}
use Rattle.std.proofs.lemmas.Option.{none-some}
use mathlib.Core.Path.{fun_ext}
use Rattle.std.proofs.lemmas.Bool.{and_parts, false≢true, both_ways}
use Rattle.std.specs.List.{AllByRecursion}
use Rattle.bank.specs.Lists.{request_of}
use Rattle.bank.specs.Meaning.{Lists}
use Rattle.plan.specs.Contents.{length_at}
use Rattle.rules.specs.Answers.{Answered}
use Rattle.rules.specs.Histories.{History, made, called, lists, releases, job, wanted, issued, used, holding, is_suspended_after, state_of, jobs_after, after}
use Rattle.rules.specs.Jobs.{Setup, Snapshot, runs}
use Rattle.rules.specs.Moves.{Does}
use Rattle.rules.specs.Promises.{Kept, InMode, AtMost, WithinLength, Lawful}
use Rattle.rules.specs.Runs.{SetUp, Begins, SoundLists, Runs, starts, goes, LawfulRun, Follows, Starts}
use Rattle.rules.specs.States.{is_ready, is_suspended}
use Rattle.rules.specs.declared.event.Acceptance.TheVariants.{Release, Ask, Give, Finish, Tick}
use Rattle.rules.specs.declared.event.Event.{Event}
use Rattle.rules.specs.declared.event.Event.TheVariants.{Accepted, Refused}
use Rattle.rules.specs.declared.task.Wanted.{Wanted}
use Rattle.rules.proofs.Ends.{held_back_lem}
use Rattle.rules.proofs.Gives.{entries}
use Rattle.rules.proofs.Holders.{suspended_words}
use Rattle.rules.proofs.Lift.{Setting, InvOf, SoundOf, Stepped, released_stepped}
use Rattle.rules.proofs.LiftAsk.{asked_stepped}
use Rattle.rules.proofs.LiftFinish.{finished_stepped}
use Rattle.rules.proofs.LiftGive.{gave_stepped, ticked_stepped}
use Rattle.rules.proofs.Places.{first_ready_runs}
use Rattle.rules.proofs.Promised.{late_named, next_lem, issued_first, few_requests, numbers_apart}
use Rattle.rules.proofs.Steps.{has_job}
use Rattle.rules.proofs.Takes.{bank_takes_lem}
use Rattle.rules.proofs.Ticks.{held_or_waits}
use Rattle.rules.proofs.Words.{words_of, held_in, TaskKept, nobody}

-- each call leaves what every run keeps; a refusal leaves all as it was
pub stepped : (a : Setup) (set : Setting a) (h : History) (i : InvOf a h) (new : Lists) → SoundOf a new → (e : Event) → Answered a (after a h) e new → Stepped a e new h
stepped a set h i new sound (Accepted (Release t n)) d = released_stepped a h i new t n d
stepped a set h i new sound (Accepted (Ask t r m x)) d = asked_stepped a set h i new t r m x sound d
stepped a set h i new sound (Accepted (Give t n)) d = gave_stepped a set h i new sound t n d
stepped a set h i new sound (Accepted (Finish t f)) d = finished_stepped a set h i new sound t f d
stepped a set h i new sound (Accepted (Tick n)) d = ticked_stepped a set h i new n d
stepped a set h i new sound (Refused call why) d = record { inv = rw d.same i; agrees = λ q. rw d.same refl; stays = λ t f e. rw d.same f }

-- the promises after a history
module _ (a : Setup) (set : Setting a) (h : History) (i : InvOf a h) where
  ready_shape : (j : Option ℕ) (o : Option Wanted) (b x : Bool) → is_some j ≡ true → b ≡ true → x ≡ true → (o ≡ None → b ≡ false) → (is_ready (state_of j o b x) ≡ true) × (is_some o ≡ true)
  ready_shape None o b x ej eb ex off = absurd (false≢true ej)
  ready_shape (Some n) None b x ej eb ex off = absurd (both_ways b (off refl) eb)
  ready_shape (Some n) (Some w) false x ej eb ex off = absurd (false≢true eb)
  ready_shape (Some n) (Some w) true true ej eb ex off = (refl, refl)
  ready_shape (Some n) (Some w) true false ej eb ex off = absurd (false≢true ex)

  job_of : (t : ℕ) → issued t h ≡ true → is_some (job t h) ≡ true
  job_of t e = has_job a (releases h) (lists h) t (words_of a h t) (i.tasks t) (go (wanted t h) refl)
    where
      go : (o : Option Wanted) → wanted t h ≡ o → is_some o ≡ true
      go None f = absurd (both_ways (issued t h) ((i.tasks t).no_request f) e)
      go (Some w) f = refl

  holder_runs : (t : ℕ) → holding t h ≡ true → runs a.plan a.tasks (jobs_after h) t ≡ true
  holder_runs t e =
      let out = (and_parts (issued t h) _ e).0 in
      let s = ready_shape (job t h) (wanted t h) (issued t h) (held_in t (words_of a h t) (lists h)) (job_of t out) out e (i.tasks t).no_request in
      first_ready_runs a (jobs_after h) t (i.firsts t refl s.1 ∙ out) s.0

  within_length_lem : (t : ℕ) → holding t h ≡ true → WithinLength a t (used t h) (wanted t h)
  within_length_lem t e = go (wanted t h) refl
    where
      go : (o : Option Wanted) → wanted t h ≡ o → WithinLength a t (used t h) o
      go None f = absurd (both_ways (issued t h) ((i.tasks t).no_request f) (and_parts (issued t h) _ e).0)
      go (Some w) f = at (length_at a.plan t w.resource) ((i.tasks t).placed w f).declared ((i.tasks t).in_time w f e)
        where
          at : (o : Option ℕ) → is_some o ≡ true → used t h ≤ unwrap_or o 0 → AtMost (used t h) o
          at None x y = absurd (false≢true x)
          at (Some l) x y = y

  modes_kept : (r : ℕ) → r < a.resources → AllByRecursion (λ x. InMode x.mode (wanted x.party h)) (lists h r)
  modes_kept r lr = entries a set.known nobody (words_of a h) (lists h) (releases h) i r lr (λ x. InMode x.mode (wanted x.party h)) (λ q x p f at.
      let m : at.wanted.mode ≡ x.mode = sym ((i.tasks q).mode at.wanted at.is x (ap (λ (z : ℕ). request_of q (lists h z)) at.there ∙ f)) in
      rw (p, at.is) m)

  pub kept : Kept a h
  kept = record {
    holds_or_waits = λ t e. held_or_waits a (releases h) (lists h) t (words_of a h t) (i.tasks t) e;
    listed_once = λ t r lr. (i.tasks t).once r lr;
    modes = modes_kept;
    holders_run = holder_runs;
    within_length = within_length_lem;
    few_writers = λ r lr. (i.sound r lr).writers;
    readers_apart = λ r lr. (i.sound r lr).apart;
    blocked_is_waited = λ t. (i.tasks t).blocked;
    waits_bounded = λ t e. (i.tasks t).bounded e;
    issued_first = issued_first a set h i;
    held_back = λ t e. let s = held_back_lem t (words_of a h t) (lists h) e in i.firsts t refl s.1 ∙ s.2;
    few_requests = few_requests a set h i;
    numbers_apart = numbers_apart a set h i;
  }

-- what a controller is made from
module _ (a : Setup) (ls : Lists) (u : SetUp a ls) where
  pub setting : Setting a
  setting = record {
    few = u.few;
    clusters = u.clusters;
    known = ⊎_elim (λ f. omega (arith, f.tasks)) (λ n. omega (arith, n.tasks)) u.fitting;
    there = ⊎_elim (λ f. omega (arith, f.resources, f.fit.resources)) (λ n. omega (arith, n.resources)) u.fitting;
    resources = λ l. ⊎_elim (λ f. f.fit.resources ∙ sym f.resources) (λ n. absurd (none n.tasks l)) u.fitting;
    seats = λ l. ⊎_elim (λ f. f.fit.seats) (λ n. absurd (none n.tasks l)) u.fitting;
  }
    where
      none : {m : ℕ} → m ≡ 0 → 0 < m → ⊥
      none e l = omega arith

  pub nobody_active : (r : ℕ) → r < a.resources → ls r ≡ []
  nobody_active r lr = ⊎_elim (λ f. f.fit.nobody r (omega (arith, f.resources, lr))) (λ n. absurd (omega (arith, n.resources, lr))) u.fitting

-- what is known at the end of a run
pub record End (a : Setup) (s : Snapshot) (h : History) : Type 0 where
  pub setting : Setting a
  pub same : s ≡ after a h
  pub inv : InvOf a h
  pub lawful : Lawful a h

same_snapshot : (s t : Snapshot) → ((q : ℕ) → s.tasks q ≡ t.tasks q) → s.lists ≡ t.lists → s.clock ≡ t.clock → s.releases ≡ t.releases → s ≡ t
same_snapshot s t e f g k = λ j. record { tasks = fun_ext e j; lists = f j; clock = g j; releases = k j }

module _ (a : Setup) (s : Snapshot) (b : Begins a s) (sound : SoundLists a s) where
  abbrev h₀ : History
  h₀ = made s.lists

  set₀ : Setting a
  set₀ = setting a s.lists b.set_up

  empty : (r : ℕ) → r < a.resources → s.lists r ≡ []
  empty = nobody_active a s.lists b.set_up

  fresh : (q : ℕ) → TaskKept a 0 s.lists q (words_of a h₀ q)
  fresh q = record {
    no_job = λ e. refl;
    no_request = λ e. refl;
    known = λ e. absurd (false≢true e);
    below = λ e. absurd (false≢true e);
    placed = λ w e. absurd (none-some _ e);
    unused = λ e. refl;
    in_time = λ w e. absurd (none-some _ e);
    blocked = refl;
    bounded = λ e. absurd (false≢true e);
    once = λ r lr. rw (empty r lr) refl;
    mode = λ w e. absurd (none-some _ e);
  }

  inv₀ : InvOf a h₀
  inv₀ = record {
    tasks = fresh;
    apart = λ t u e. absurd (false≢true e);
    firsts = λ t x e. absurd (false≢true e);
    owed = λ r lr. rw (empty r lr) tt;
    sound = λ r lr. sound r (omega (arith, set₀.there, lr));
  }

  pub start_end : End a s h₀
  start_end = record {
    setting = set₀;
    same = same_snapshot s (after a h₀) b.idle refl b.clock b.releases;
    inv = inv₀;
    lawful = record { nobody = empty; kept = kept a set₀ h₀ inv₀ };
  }

pub run_end : {a : Setup} {s : Snapshot} {h : History} → Runs a s h → End a s h
run_end {a} (starts {s} b sound) = start_end a s b sound
run_end {a} (goes {s} {t} {h} {e} run sound does) =
    let before = run_end run in
    let d : Does a (after a h) e t = subst (λ (z : Snapshot). Does a z e t) before.same does in
    let sound' : SoundOf a t.lists = λ r lr. sound r (omega (arith, before.setting.there, lr)) in
    let next = stepped a before.setting h before.inv t.lists sound' e d.answered in
    record {
      setting = before.setting;
      same = same_snapshot t (after a (called h e t.lists)) (λ q. d.tasks q ∙ sym (next.agrees q)) refl d.clock d.releases;
      inv = next.inv;
      lawful = (record { answered = d.answered; bank_takes = bank_takes_lem a before.setting h before.inv e t.lists d.answered; late_named = late_named a h before.inv t.lists e d.answered; next_issued = next_lem a h before.inv t.lists e d.answered next.inv; stays_first = next.stays; kept = kept a before.setting (called h e t.lists) next.inv }, before.lawful);
    }

-- a run keeps the law, and where it led to stands as its history says
pub lawful_run : {a : Setup} {s : Snapshot} {h : History} → Runs a s h → LawfulRun a s h
lawful_run run = let end = run_end run in record { runs = run; lawful = end.lawful; stands = end.same }

pub stands : {a : Setup} {s : Snapshot} {h : History} → Runs a s h → s ≡ after a h
stands run = (run_end run).same

-- a call that does what it says follows every run
pub follows : (a : Setup) (s t : Snapshot) (e : Event) → SoundLists a t → Does a s e t → Follows a s e t
follows a s t e sound does h run = lawful_run (goes run sound does)

pub begins : (a : Setup) (s : Snapshot) → Begins a s → SoundLists a s → Starts a s
begins a s b sound = lawful_run (starts b sound)

-- In a run, by the words of its history.

-- a task waits or is held back
pub suspended_lem : {a : Setup} {s : Snapshot} {h : History} → Runs a s h → (t : ℕ) → is_suspended (s.tasks t).state ≡ is_suspended_after t h
suspended_lem {a} {s} {h} run t = let end = run_end run in ap (λ (z : Snapshot). is_suspended (z.tasks t).state) end.same ∙ suspended_words a (releases h) h t (end.inv.tasks t)
