-- In a run the bank takes every request that is issued, and lets every holder leave.
use Rattle.std.proofs.Common.{◌≡◌, ℕ, ◌<◌, ◌≤◌, Bool, true, false, cond, ◌&&◌, eqb, List, [], length, is_some, Some, None, Option, sym, refl, ap, ◌∙◌, subst, arith}
use Rattle.std.proofs.lemmas.Option.{none-some}
use Rattle.std.proofs.lemmas.Bool.{eqb-true, lt-ltb, false≢true}
use Rattle.text.specs.Questions.{Question, first_no}
use Rattle.bank.specs.Lists.{is_active, is_holder, request_of}
use Rattle.bank.specs.Meaning.{Lists}
use Rattle.bank.specs.Questions.{Told, knows, enter_questions, leave_questions}
use Rattle.bank.specs.declared.request.Mode.{Mode}
use Rattle.bank.specs.declared.request.Request.{Request}
use Rattle.rules.specs.Answers.{Answered}
use Rattle.rules.specs.Histories.{History, lists, releases, job, wanted, issued, jobs_after, after, entry_of}
use Rattle.rules.specs.Jobs.{Setup, is_among_first, next_issued}
use Rattle.rules.specs.Moves.{is_held}
use Rattle.rules.specs.Promises.{BankTakes}
use Rattle.rules.specs.Questions.{questions, bank_questions, issue_questions, next_questions}
use Rattle.rules.specs.Refusals.{RefusedBy, from_bank, number}
use Rattle.rules.specs.States.{wanted_of}
use Rattle.rules.specs.declared.call.Call.{Call}
use Rattle.rules.specs.declared.call.Call.TheVariants.{Release, Ask, Give, Finish, Tick}
use Rattle.rules.specs.declared.event.Event.{Event}
use Rattle.rules.specs.declared.event.Event.TheVariants.{Accepted, Refused}
use Rattle.rules.specs.declared.refusal.Refusal.{Refusal}
use Rattle.rules.specs.declared.task.State.{State}
use Rattle.rules.specs.declared.task.Wanted.{Wanted}
use Rattle.rules.proofs.Accepted.{accepted_ask, accepted_give, accepted_finish}
use Rattle.rules.proofs.Entries.{listed, not_active, holder_held}
use Rattle.rules.proofs.Gives.{listed_at, listed_once_lem}
use Rattle.rules.proofs.Lift.{Setting, InvOf, going}
use Rattle.rules.proofs.LiftFinish.{next_known, ended_inv, ks₁}
use Rattle.rules.proofs.LiftGive.{Holds, holding_shape}
use Rattle.rules.proofs.Places.{seat_left}
use Rattle.rules.proofs.Steps.{unlisted}
use Rattle.rules.proofs.Words.{TaskWords, words_of, held_in, word_jobs, Inv, nobody, numbered}

-- all of a bank's questions are answered yes
enters : (t : Told) (r p : ℕ) (m : Mode) (xs : List Request) → r < t.resources → knows t r m ≡ true → p < 64 → is_active p xs ≡ false → length xs < t.seats → first_no (enter_questions t r p m xs) ≡ None
enters t r p m xs lr k lp no_one seat = rw (lt-ltb r t.resources lr, k, lt-ltb p 64 lp, no_one, lt-ltb (length xs) t.seats seat) refl

leaves : (t : Told) (r p : ℕ) (xs : List Request) → r < t.resources → p < 64 → is_holder p xs ≡ true → first_no (leave_questions t r p xs) ≡ None
leaves t r p xs lr lp h = rw (lt-ltb r t.resources lr, lt-ltb p 64 lp, h) refl

-- a request whose job is among the first has a seat
pub enter_taken : (a : Setup) (set : Setting a) (x : ℕ → Bool) (ks : ℕ → TaskWords) (ls : Lists) (n : ℕ) → Inv a x ks ls n → (t r : ℕ) (m : Mode) → t < a.tasks → r < a.resources → knows a.told r m ≡ true
    → is_among_first a.plan a.tasks (word_jobs ks ls) t ≡ true → listed t (ls r) ≡ 0 → ((q : ℕ) → x q ≡ true → listed q (ls r) ≡ 0) → first_no (enter_questions a.told r t m (ls r)) ≡ None
enter_taken a set x ks ls n i t r m lt lr k early none exempt =
    enters a.told r t m (ls r) (omega (arith, set.there, lr)) k (omega (arith, set.few, lt)) (not_active t (ls r) none)
    (subst (λ (s : ℕ). length (ls r) < s) (sym (set.seats (omega (arith, lt))))
    (seat_left a (word_jobs ks ls) n (numbered a x ks ls n i) set.clusters (is_among_first a.plan a.tasks (word_jobs ks ls)) (λ q e. e) (ls r) (listed_once_lem a set.known x ks ls n i r lr) (λ q l. early_of q l (x q) refl) t early none))
  where
    early_of : (q : ℕ) → 1 ≤ listed q (ls r) → (b : Bool) → x q ≡ b → is_among_first a.plan a.tasks (word_jobs ks ls) q ≡ true
    early_of q l true e = absurd (clash l (exempt q e))
      where
        clash : 1 ≤ listed q (ls r) → listed q (ls r) ≡ 0 → ⊥
        clash y z = omega arith
    early_of q l false e = let at = listed_at a n ls q (ks q) (i.tasks q) r lr l in i.firsts q e (ap is_some at.is) ∙ at.issued

-- a refusal with no question of the bank's answered no is the controller's own
own_of : (own bank : List Question) (why : Refusal) → RefusedBy own bank why → (first_no own ≡ None → first_no bank ≡ None) → from_bank why ≡ false
own_of own bank why d takes = go (from_bank why) refl d.decided
  where
    go : (b : Bool) → from_bank why ≡ b → first_no (cond b bank own) ≡ Some (number why) → from_bank why ≡ false
    go true e f = absurd (none-some _ (sym (takes (d.own_first e)) ∙ f))
    go false e f = e

module _ (a : Setup) (set : Setting a) (h : History) (i : InvOf a h) where
  ask_taken : (p r : ℕ) (m : Mode) → (b : Bool) → is_among_first a.plan a.tasks (jobs_after h) p ≡ b → (p < a.tasks) × (r < a.resources) × (knows a.told r m ≡ true) × (wanted p h ≡ None) → first_no (cond b (issue_questions a (after a h) p (record { resource = r; mode = m })) []) ≡ None
  ask_taken p r m true e k =
      enter_taken a set nobody (words_of a h) (lists h) (releases h) i p r m k.0 k.1 k.2 e
      (unlisted a (releases h) (lists h) p (words_of a h p) (i.tasks p) ((i.tasks p).no_request k.3) r k.1) (λ q z. absurd (false≢true z))
  ask_taken p r m false e k = refl

  give_taken : (p : ℕ) → Holds (job p h) (wanted p h) (issued p h) (held_in p (words_of a h p) (lists h)) → p < a.tasks → (st : State) → ((after a h).tasks p).state ≡ st → first_no (leave_questions a.told (wanted_of st).resource p (lists h (wanted_of st).resource)) ≡ None
  give_taken p s lt st e =
      let there : (wanted_of st).resource ≡ s.wanted.resource = ap (λ (z : State). (wanted_of z).resource) (sym e ∙ s.state) in
      let lr = ((i.tasks p).placed s.wanted s.is).there in
      let held : is_held (request_of p (lists h s.wanted.resource)) ≡ true = sym (ap (λ (b : Bool). b && is_held (entry_of p (wanted p h) (lists h))) s.issued ∙ ap (λ (o : Option Wanted). is_held (entry_of p o (lists h))) s.is) ∙ s.held in
      rw there (leaves a.told s.wanted.resource p (lists h s.wanted.resource) (omega (arith, set.there, lr)) (omega (arith, set.few, lt)) (holder_held p (lists h s.wanted.resource) held))

  finish_taken : (p : ℕ) → p < a.tasks → wanted p h ≡ None → (o : Option ℕ) → next_issued a (after a h) p ≡ o → first_no (next_questions a (after a h) o) ≡ None
  finish_taken p lt free None e = refl
  finish_taken p lt free (Some u) e =
      let n = next_known a h i p free u e in
      let w = n.wanted in
      let inv : Inv a (λ t. eqb u t) (ks₁ a h i p free) (lists h) (releases h) = rw e at (ended_inv a h i p free) in
      let place = (i.tasks u).placed w n.is in
      let none : listed u (lists h w.resource) ≡ 0 = unlisted a (releases h) (lists h) u (words_of a h u) (i.tasks u) n.unissued w.resource place.there in
      subst (λ (v : Wanted). first_no (issue_questions a (after a h) u v) ≡ None) (sym (ap wanted_of n.state))
      (enter_taken a set (λ t. eqb u t) (ks₁ a h i p free) (lists h) (releases h) inv u w.resource w.mode ((i.tasks u).known n.job) place.there place.known n.early none
      (λ q z. subst (λ (t : ℕ). listed t (lists h w.resource) ≡ 0) (eqb-true u q z) none))

  -- the bank's questions are answered yes wherever the controller's own are
  call_taken : (call : Call) → first_no (questions a (after a h) call) ≡ None → first_no (bank_questions a (after a h) call) ≡ None
  call_taken (Release t) e = refl
  call_taken (Ask t r m) e = let k = accepted_ask a (after a h) t r m e in ask_taken t r m (is_among_first a.plan a.tasks (jobs_after h) t) refl (k.0, k.1, k.2, (going a h t k.4).1)
  call_taken (Give t) e = let k = accepted_give a (after a h) t e in give_taken t (holding_shape (job t h) (wanted t h) (issued t h) (held_in t (words_of a h t) (lists h)) k.1) k.0 ((after a h).tasks t).state refl
  call_taken (Finish t) e = let k = accepted_finish a (after a h) t e in finish_taken t k.0 (going a h t k.1).1 (next_issued a (after a h) t) refl
  call_taken Tick e = refl

  pub bank_takes_lem : (e : Event) (new : Lists) → Answered a (after a h) e new → BankTakes e
  bank_takes_lem (Accepted x) new d = tt
  bank_takes_lem (Refused call why) new d = own_of _ _ why d.by (call_taken call)
