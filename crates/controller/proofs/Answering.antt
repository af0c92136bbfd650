-- The answers of the calls, from what was done to the bank.
use Rattle.std.proofs.Common.{Some, subst, refl, ◌≡◌, ℕ, Bool, cond, [], None, Ok, Err, sym, ap, ◌∙◌}
use Rattle.bank.specs.Meaning.{Lists}
use Rattle.bank.specs.Questions.{leave_questions, number as bank_number}
use Rattle.bank.specs.declared.refusal.Refusal.{Refusal as BankRefusal}
use Rattle.rules.specs.declared.refusal.Refusal.TheVariants.{Bank}
use Rattle.rules.specs.declared.task.Wanted.{Wanted}
use Rattle.bank.specs.declared.request.Mode.{Mode}
use Rattle.text.specs.Questions.{first_no}
use Rattle.rules.specs.Answers.{asked, gave, Answered}
use Rattle.rules.specs.Jobs.{Setup, Snapshot, jobs_in, is_among_first}
use Rattle.rules.specs.Questions.{wanted_by, questions, bank_questions, issue_questions}
use Rattle.rules.specs.declared.answer.Asked.{Asked}
use Rattle.rules.specs.declared.answer.Asked.TheVariants.{Hold, Wait, Back}
use Rattle.rules.specs.declared.call.Call.TheVariants.{Ask, Give}
use Rattle.rules.specs.declared.refusal.Refusal.{Refusal}
use Rattle.controller.specs.Issues.{Asks}

pub ask_answered : (a : Setup) (s : Snapshot) (t r : ℕ) (m : Mode) (is_first : Bool) (x : Asked) (new : Lists) → is_first ≡ is_among_first a.plan a.tasks (jobs_in s) t → first_no (questions a s (Ask t r m)) ≡ None → Asks a.told is_first t r m (Ok x) s.lists new → Answered a s (asked t r m (Ok x)) new
ask_answered a s t r m is_first Hold new e own done = record { passed = own; gives = (sym e ∙ done.0, done.1) }
ask_answered a s t r m is_first Wait new e own done = record { passed = own; gives = (sym e ∙ done.0, done.1) }
ask_answered a s t r m is_first Back new e own done = record { passed = own; gives = (sym e ∙ done.0, done.1) }

pub ask_refused : (a : Setup) (s : Snapshot) (t r : ℕ) (m : Mode) (is_first : Bool) (why : Refusal) (new : Lists) → is_first ≡ is_among_first a.plan a.tasks (jobs_in s) t → first_no (questions a s (Ask t r m)) ≡ None → Asks a.told is_first t r m (Err why) s.lists new → Answered a s (asked t r m (Err why)) new
ask_refused a s t r m is_first why new e own done =
    record {
      by =
          record {
            decided = ap (λ (b : Bool). first_no (cond b (bank_questions a s (Ask t r m)) (questions a s (Ask t r m)))) done.1 ∙ (ap (λ (b : Bool). first_no (cond b (issue_questions a s t (record { resource = r; mode = m })) [])) (sym e) ∙ done.0);
            own_first = λ f. own;
          };
      named = done.2;
      same = done.3;
    }

pub give_refused : (a : Setup) (s : Snapshot) (t : ℕ) (why : BankRefusal) (w : Wanted) (new : Lists) → first_no (questions a s (Give t)) ≡ None → w ≡ wanted_by s t → first_no (leave_questions a.told w.resource t (s.lists w.resource)) ≡ Some (bank_number why) → new ≡ s.lists → Answered a s (gave t (Err (Bank why))) new
give_refused a s t why w new own wanted refusal same =
    record {
      by =
          record {
            decided = subst (λ (x : Wanted). first_no (leave_questions a.told x.resource t (s.lists x.resource)) ≡ Some (bank_number why)) wanted refusal;
            own_first = λ f. own;
          };
      named = refl;
      same = same;
    }
