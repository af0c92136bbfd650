-- What is known where every question is answered yes.
use Rattle.std.proofs.Common.{◌≡◌, ℕ, ◌<◌, Bool, true, false, cond, not, ltb, is_some, Some, None, Option, sym, refl}
use Rattle.std.proofs.lemmas.Bool.{and_parts, ltb-true, false≢true}
use Rattle.std.proofs.lemmas.Option.{none-some}
use Rattle.text.specs.Questions.{first_no}
use Rattle.bank.specs.Questions.{knows}
use Rattle.bank.specs.declared.request.Mode.{Mode}
use Rattle.plan.specs.Contents.{length_at}
use Rattle.rules.specs.Jobs.{Setup, Snapshot, Jobs, jobs_in, ready, unfinished, is_among_first, before, processors_for}
use Rattle.rules.specs.Questions.{questions, work_questions, late_task}
use Rattle.rules.specs.States.{is_idle, is_holding}
use Rattle.rules.specs.declared.call.Call.TheVariants.{Release, Ask, Give, Finish, Tick}

-- where all questions are answered yes, the first is, and so are the others
yes : (b : Bool) (n : ℕ) (o : Option ℕ) → cond b o (Some n) ≡ None → (b ≡ true) × (o ≡ None)
yes true n o e = (refl, e)
yes false n o e = absurd (none-some n (sym e))

module _ (a : Setup) (s : Snapshot) where
  pub accepted_release : (t : ℕ) → first_no (questions a s (Release t)) ≡ None → (t < a.tasks) × (is_idle (s.tasks t).state ≡ true)
  accepted_release t e = let x = yes _ _ _ e in (ltb-true t a.tasks x.0, (yes _ _ _ x.1).0)

  pub accepted_work : (t : ℕ) → first_no (work_questions a s t) ≡ None → (ready (jobs_in s) t ≡ true) × (not (is_holding (s.tasks t).state) ≡ true)
  accepted_work t e = let x = yes _ _ _ e in ((and_parts (ready (jobs_in s) t) _ x.0).0, (yes _ _ _ x.1).0)

  pub accepted_ask : (t r : ℕ) (m : Mode) → first_no (questions a s (Ask t r m)) ≡ None → (t < a.tasks) × (r < a.resources) × (knows a.told r m ≡ true) × (is_some (length_at a.plan t r) ≡ true) × (first_no (work_questions a s t) ≡ None)
  accepted_ask t r m e =
      let x = yes _ _ _ e in
      let y = yes _ _ _ x.1 in
      let z = yes _ _ _ y.1 in
      let w = yes _ _ _ z.1 in
      (ltb-true t a.tasks x.0, ltb-true r a.resources y.0, z.0, w.0, w.1)

  pub accepted_give : (t : ℕ) → first_no (questions a s (Give t)) ≡ None → (t < a.tasks) × (is_holding (s.tasks t).state ≡ true)
  accepted_give t e = let x = yes _ _ _ e in (ltb-true t a.tasks x.0, (yes _ _ _ x.1).0)

  pub accepted_finish : (t : ℕ) → first_no (questions a s (Finish t)) ≡ None → (t < a.tasks) × (first_no (work_questions a s t) ≡ None)
  accepted_finish t e = let x = yes _ _ _ e in (ltb-true t a.tasks x.0, x.1)

  pub accepted_tick : first_no (questions a s Tick) ≡ None → late_task a s ≡ None
  accepted_tick e = nothing (late_task a s) (yes _ _ _ e).0
    where
      nothing : (o : Option ℕ) → not (is_some o) ≡ true → o ≡ None
      nothing None e = refl
      nothing (Some x) e = absurd (false≢true e)

pub first_unfinished : (a : Setup) (j : Jobs) (t : ℕ) → is_among_first a.plan a.tasks j t ≡ true → unfinished j t ≡ true
first_unfinished a j t e = (and_parts (unfinished j t) (ltb (before a.plan a.tasks j (unfinished j) t) (processors_for a.plan t)) e).0
