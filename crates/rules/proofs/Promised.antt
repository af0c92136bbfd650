-- What a call keeps beyond its answer: who is named late, whose request a finish issues, and that the
-- bank has no more requests than there are processors.
use Rattle.std.proofs.Common.{◌≡◌, ℕ, zero, suc, ◌<◌, ◌≤◌, Bool, true, false, not, ltb, leb, ◌&&◌, ◌||◌, arith, length, is_some, Some, None, Ok, Option, unwrap_or, sym, refl, ap, ◌∙◌, subst}
use Rattle.std.proofs.lemmas.Bool.{and_parts, and_from, eqb-true, eq-eqb, ne_eqb, ltb-true, lt-ltb, leb-true, not-true, false≢true, both_ways}
use Rattle.bank.specs.Meaning.{Lists}
use Rattle.plan.specs.Contents.{processors}
use Rattle.rules.specs.Answers.{finished, Answered, IssuesNext}
use Rattle.rules.specs.Histories.{History, called, lists, releases, job, wanted, issued, held_back, jobs_after, after, is_for}
use Rattle.rules.specs.Holders.{NamesLate}
use Rattle.rules.specs.Jobs.{Setup, count_below, is_among_first, next_issued}
use Rattle.rules.specs.Promises.{is_at, LateNamed, NextIssued, IssuesFirst, requests_to}
use Rattle.rules.specs.declared.answer.Finished.{Finished}
use Rattle.rules.specs.declared.answer.Issued.{Issued}
use Rattle.rules.specs.declared.call.Call.{Call}
use Rattle.rules.specs.declared.event.Acceptance.{Acceptance}
use Rattle.rules.specs.declared.event.Event.{Event}
use Rattle.rules.specs.declared.event.Event.TheVariants.{Accepted, Refused}
use Rattle.rules.specs.declared.task.Wanted.{Wanted}
use Rattle.rules.proofs.Accepted.{accepted_finish, accepted_tick}
use Rattle.rules.proofs.Counts.{count_join, count_mono}
use Rattle.rules.proofs.Entries.{listed}
use Rattle.rules.proofs.Gives.{At, exists, listed_at, listed_once_lem}
use Rattle.rules.proofs.Holders.{names_late}
use Rattle.rules.proofs.Lift.{Setting, InvOf, going}
use Rattle.rules.proofs.LiftFinish.{Next, next_known}
use Rattle.rules.proofs.Places.{seats, listed_length}
use Rattle.rules.proofs.Words.{words_of, nobody, numbered}

-- the lowest late task is named
pub late_named : (a : Setup) (h : History) (i : InvOf a h) (new : Lists) (e : Event) → Answered a (after a h) e new → LateNamed a e h
late_named a h i new (Accepted (Acceptance.Tick n)) d = subst (NamesLate a.plan (after a h).tasks) (accepted_tick a (after a h) d.passed) (names_late a h i)
late_named a h i new (Refused Call.Tick why) d = subst (NamesLate a.plan (after a h).tasks) (sym d.named) (names_late a h i)
late_named a h i new (Accepted _) d = refl
late_named a h i new (Refused _ why) d = d.named

-- whose request is not given back and not issued, is held back
back_words : (t : ℕ) (h : History) → is_some (wanted t h) ≡ true → issued t h ≡ false → held_back t h ≡ true
back_words t h e f = rw (e, f)

back_parts : (t : ℕ) (h : History) → held_back t h ≡ true → (is_some (wanted t h) ≡ true) × (issued t h ≡ false)
back_parts t h e = let x = and_parts (is_some (wanted t h)) (not (issued t h)) e in (x.0, not-true (issued t h) x.1)

-- a held-back request is issued by a finish exactly where its job is then among the first
module _ (a : Setup) (h : History) (i : InvOf a h) (new : Lists) (t : ℕ) (f : Finished) (next : InvOf a (called h (finished t (Ok f)) new)) where
  abbrev then_first : ℕ → Bool
  then_first u = is_among_first a.plan a.tasks (jobs_after (called h (finished t (Ok f)) new)) u

  comes_first : (u : ℕ) → held_back u h ≡ true → then_first u ≡ is_for u f.issued
  comes_first u e =
      let x = back_parts u h e in
      next.firsts u refl x.0 ∙ last (is_for u f.issued) (issued u h) x.1
    where
      last : (b c : Bool) → c ≡ false → (b || c) ≡ b
      last true c e = refl
      last false c e = e

  issues_first : wanted t h ≡ None → (o : Option ℕ) (x : Option Issued) → next_issued a (after a h) t ≡ o → f.issued ≡ x → IssuesNext a (after a h) o x new → IssuesFirst a h (jobs_after (called h (finished t (Ok f)) new)) x
  issues_first free None None e g d = λ u back. comes_first u back ∙ ap (is_for u) g
  issues_first free None (Some x) e g d = absurd d
  issues_first free (Some u) None e g d = absurd d
  issues_first free (Some u) (Some x) e g d =
      let k : Next a h i t free u = next_known a h i t free u e in
      let back : held_back x.task h ≡ true = subst (λ (z : ℕ). held_back z h ≡ true) (sym d.0) (back_words u h (ap is_some k.is) k.unissued) in (
        back,
        comes_first x.task back ∙ (ap (is_for x.task) g ∙ eq-eqb x.task x.task refl),
        λ v other here. sym (eqb-true x.task v (sym (comes_first v other ∙ ap (is_for v) g) ∙ here)),
      )

pub next_lem : (a : Setup) (h : History) (i : InvOf a h) (new : Lists) (e : Event) → Answered a (after a h) e new → InvOf a (called h e new) → NextIssued a e h (jobs_after (called h e new))
next_lem a h i new (Accepted (Acceptance.Finish t f)) d next = issues_first a h i new t f next (going a h t (accepted_finish a (after a h) t d.passed).1).1 (next_issued a (after a h) t) f.issued refl refl d.gives.1
next_lem a h i new _ d next = tt

module _ (a : Setup) (set : Setting a) (h : History) (i : InvOf a h) where
  pub issued_first : (t : ℕ) → issued t h ≡ true → is_among_first a.plan a.tasks (jobs_after h) t ≡ true
  issued_first t e = i.firsts t refl (some (wanted t h) (i.tasks t).no_request) ∙ e
    where
      some : (o : Option Wanted) → (o ≡ None → issued t h ≡ false) → is_some o ≡ true
      some None f = absurd (both_ways (issued t h) (f refl) e)
      some (Some w) f = refl

  few_issued : count_below (λ t. issued t h) a.tasks ≤ processors a.plan
  few_issued = seats a (jobs_after h) (releases h) (numbered a nobody (words_of a h) (lists h) (releases h) i) set.clusters (λ t. issued t h) issued_first

  -- a task has an issued request at resource r, or at one below n
  abbrev at : ℕ → ℕ → Bool
  at r t = issued t h && is_at r (wanted t h)

  abbrev below : ℕ → Option Wanted → Bool
  below n None = false
  below n (Some w) = ltb w.resource n

  abbrev under : ℕ → ℕ → Bool
  under n t = issued t h && below n (wanted t h)

  -- each request of a list is a task's
  listed_few : (r : ℕ) → r < a.resources → length (lists h r) ≤ count_below (at r) a.tasks
  listed_few r lr =
      let one = listed_once_lem a set.known nobody (words_of a h) (lists h) (releases h) i r lr in
      let of : (q : ℕ) → 1 ≤ listed q (lists h r) → At (words_of a h q) r = λ q l. listed_at a (releases h) (lists h) q (words_of a h q) (i.tasks q) r lr l in
      omega (
        arith,
        listed_length a.tasks (lists h r) one (λ q l. exists a set.known nobody (words_of a h) (lists h) (releases h) i q r (of q l)),
        count_mono (λ q. leb 1 (listed q (lists h r))) (at r) a.tasks (λ q l e. at_from q r (of q (leb-true 1 (listed q (lists h r)) e))),
      )
    where
      at_from : (q r : ℕ) → At (words_of a h q) r → at r q ≡ true
      at_from q r x = and_from (issued q h) (is_at r (wanted q h)) x.issued (ap (is_at r) x.is ∙ eq-eqb x.wanted.resource r x.there)

  -- at one resource more
  next_under : (n t : ℕ) → (under n t ≡ true → (at n t ≡ false) × (under (suc n) t ≡ true)) × (at n t ≡ true → under (suc n) t ≡ true)
  next_under n t = go (issued t h) (wanted t h)
    where
      go : (b : Bool) (o : Option Wanted) → ((b && below n o) ≡ true → ((b && is_at n o) ≡ false) × ((b && below (suc n) o) ≡ true)) × ((b && is_at n o) ≡ true → (b && below (suc n) o) ≡ true)
      go false o = (λ e. absurd (false≢true e), λ e. absurd (false≢true e))
      go true None = (λ e. absurd (false≢true e), λ e. absurd (false≢true e))
      go true (Some w) = (
        λ e. let l = ltb-true w.resource n e in (ne_eqb w.resource n (λ z. omega arith), lt-ltb w.resource (suc n) (omega arith)),
        λ e. let z = eqb-true w.resource n e in lt-ltb w.resource (suc n) (omega arith),
      )

  requests_under : (n : ℕ) → n ≤ a.resources → requests_to (lists h) n ≤ count_below (under n) a.tasks
  requests_under zero le = omega arith
  requests_under (suc n) le =
      omega (
        arith,
        requests_under n (omega arith),
        listed_few n (omega arith),
        count_join (under n) (at n) (under (suc n)) a.tasks (λ t. (next_under n t).0) (λ t. (next_under n t).1),
      )

  -- all requests are issued ones, of as many tasks
  pub few_requests : requests_to (lists h) a.resources ≤ processors a.plan
  few_requests =
      omega (
        arith,
        requests_under a.resources (omega arith),
        count_mono (under a.resources) (λ t. issued t h) a.tasks (λ t l e. (and_parts (issued t h) (below a.resources (wanted t h)) e).0),
        few_issued,
      )

  pub numbers_apart : (t u n : ℕ) → job t h ≡ Some n → job u h ≡ Some n → t ≡ u
  numbers_apart t u n e f = i.apart t u (ap is_some e) (ap is_some f) (ap (λ (o : Option ℕ). unwrap_or o 0) (e ∙ sym f))
