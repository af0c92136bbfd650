-- The request that a finish issues, and the answer.
use Rattle.std.proofs.Common.{◌≡◌, ℕ, ◌<◌, Bool, true, false, cond, ◌&&◌, eqb, Some, None, Ok, Err, Option, sym, refl, ap, ◌∙◌, subst, arith}
use Rattle.std.proofs.lemmas.Bool.{and_parts, false≢true}
use Rattle.bank.specs.Meaning.{Lists, Enters}
use Rattle.bank.specs.Questions.{number as bank_number}
use Rattle.bank.specs.declared.refusal.Refusal.{Refusal as BankRefusal}
use Rattle.text.specs.Questions.{first_no}
use Rattle.rules.specs.Answers.{finished, Answered, Issues, IssuesNext}
use Rattle.rules.specs.Jobs.{Setup, Snapshot, cluster_of, ended, is_among_first, jobs_of, least_below, if_first, next_issued}
use Rattle.rules.specs.Questions.{questions, issue_questions, next_questions, wanted_by}
use Rattle.rules.specs.States.{is_held_back, idle_task}
use Rattle.rules.specs.declared.call.Call.TheVariants.{Finish}
use Rattle.rules.specs.declared.refusal.Refusal.TheVariants.{Bank}
use Rattle.rules.specs.declared.task.Wanted.{Wanted}
use Rattle.rules.proofs.Counts.{least_some}
use Rattle.table.proofs.Firsts.{present}

-- the task whose request is issued exists, is held back, and is another than the one whose job ends
pub record IsNext (a : Setup) (s : Snapshot) (t u : ℕ) : Type 0 where
  pub known : u < a.tasks
  pub other : eqb t u ≡ false
  pub held_back : is_held_back (s.tasks u).state ≡ true

pub is_next : (a : Setup) (s : Snapshot) (t u : ℕ) → Some u ≡ next_issued a s t → IsNext a s t u
is_next a s t u e = go (least_below test value a.tasks) refl (sym e)
  where
    test : ℕ → Bool
    test v = is_held_back (ended s.tasks t v).state && eqb (cluster_of a.plan v) (cluster_of a.plan t)

    value : ℕ → ℕ
    value v = (ended s.tasks t v).release

    of : (v : ℕ) → v < a.tasks → is_held_back (ended s.tasks t v).state ≡ true → (b : Bool) → eqb t v ≡ b → IsNext a s t v
    of v lt h true f = absurd (false≢true (ap (λ (b : Bool). is_held_back (cond b idle_task (s.tasks v)).state) (sym f) ∙ h))
    of v lt h false f = record { known = lt; other = f; held_back = ap (λ (b : Bool). is_held_back (cond b idle_task (s.tasks v)).state) (sym f) ∙ h }

    go : (x : Option ℕ) → least_below test value a.tasks ≡ x → if_first a.plan a.tasks (jobs_of (ended s.tasks t)) x ≡ Some u → IsNext a s t u
    go None f h = let z : ◌≡◌ {A = ℕ} 0 1 = cc in absurd (omega arith)
    go (Some v) f h =
        let same = present (is_among_first a.plan a.tasks (jobs_of (ended s.tasks t)) v) v u h in
        let found = least_some test value a.tasks v f in
        subst (IsNext a s t) same.1 (of v found.1 (and_parts _ _ found.0).0 (eqb t v) refl)

module _ (a : Setup) (s : Snapshot) (t : ℕ) (own : first_no (questions a s (Finish t)) ≡ None) where
  pub finish_issued : (blocked u : ℕ) (holds : Bool) (w : Wanted) (new : Lists) → Some u ≡ next_issued a s t → blocked ≡ (s.tasks t).blocked → w ≡ wanted_by s u → Enters a.told w.resource u w.mode (Ok holds) s.lists new → Answered a s (finished t (Ok (record { blocked = blocked; issued = Some (record { task = u; holds = holds }) }))) new
  finish_issued blocked u holds w new e same wanted entered =
      record { passed = own; gives = (same, subst (λ (o : Option ℕ). IssuesNext a s o (Some (record { task = u; holds = holds })) new) e (refl, subst (λ (x : Wanted). Issues a s u x holds new) wanted entered)) }

  pub finish_refused : (u : ℕ) (why : BankRefusal) (w : Wanted) (new : Lists) → Some u ≡ next_issued a s t → w ≡ wanted_by s u → first_no (issue_questions a s u w) ≡ Some (bank_number why) → new ≡ s.lists → Answered a s (finished t (Err (Bank why))) new
  finish_refused u why w new e wanted refusal same =
      record {
        by =
            record {
              decided = subst (λ (o : Option ℕ). first_no (next_questions a s o) ≡ Some (bank_number why)) e (subst (λ (x : Wanted). first_no (issue_questions a s u x) ≡ Some (bank_number why)) wanted refusal);
              own_first = λ f. own;
            };
        named = refl;
        same = same;
      }
