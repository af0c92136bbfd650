-- Two runs of one call, from the same standing over the same banks: the same is answered and printed, and they stand the same again.
use Rattle.std.proofs.Common.{◌≡◌, ℕ, Bool, true, false, ◌∷◌, Some, None, Ok, Option, sym, refl, ap, ◌∙◌, subst, arith}
use Rattle.std.proofs.lemmas.Bool.{true≢false}
use Rattle.std.proofs.lemmas.Option.{none-some, same_Some}
use Rattle.bank.specs.Meaning.{Lists}
use Rattle.bank.specs.declared.request.Mode.{Mode}
use Rattle.controller.specs.Banks.{BankChanges, IssuedChanges}
use Rattle.event.specs.Answers.{event_call, line_text, refused_text}
use Rattle.event.specs.Lines.{event_then}
use Rattle.rules.specs.Answers.{call_of, Gives, IssuesNext, Answered}
use Rattle.rules.specs.Jobs.{Setup, Snapshot, next_issued}
use Rattle.rules.specs.Moves.{moved_task, is_release, is_tick}
use Rattle.rules.specs.Questions.{questions, bank_questions, next_questions, wanted_by}
use Rattle.rules.specs.declared.answer.Asked.{Asked}
use Rattle.rules.specs.declared.answer.Asked.TheVariants.{Hold, Wait, Back}
use Rattle.rules.specs.declared.answer.Finished.{Finished}
use Rattle.rules.specs.declared.answer.Issued.{Issued}
use Rattle.rules.specs.declared.call.Call.{Call}
use Rattle.rules.specs.declared.event.Acceptance.{Acceptance}
use Rattle.rules.specs.declared.event.Acceptance.TheVariants.{Release, Ask, Give, Finish, Tick}
use Rattle.rules.specs.declared.event.Event.{Event}
use Rattle.rules.specs.declared.event.Event.TheVariants.{Accepted, Refused}
use Rattle.rules.specs.declared.refusal.Refusal.{Refusal}
use Rattle.text.specs.Questions.{first_no}
use Rattle.dry_run.specs.Banks.{PlanBanks, meaning}
use Rattle.dry_run.proofs.SameAnswers.{same_refused_text, refused_number, refused_by_bank}
use Rattle.dry_run.proofs.SameBanks.{SameBanks, banks_exact}

kept : (b d u v : PlanBanks) → SameBanks b d → u ≡ b → v ≡ d → SameBanks u v
kept b d u v e x y = subst (λ s. SameBanks s v) (sym x) (subst (SameBanks b) (sym y) e)

module _ (a : Setup) (s : Snapshot) where
  -- the bank would not refuse what is accepted
  free_next : (o : Option ℕ) (i : Option Issued) (new : Lists) → IssuesNext a s o i new → first_no (next_questions a s o) ≡ None
  free_next None i new p = refl
  free_next (Some w) None new p = absurd p
  free_next (Some w) (Some i) new p = p.1.asked

  granted : (x : Acceptance) (new : Lists) → Gives a s x new → first_no (bank_questions a s (call_of x)) ≡ None
  granted (Release t n) new p = refl
  granted (Ask t r m Hold) new p = rw p.0 p.1.asked
  granted (Ask t r m Wait) new p = rw p.0 p.1.asked
  granted (Ask t r m Back) new p = rw p.0 refl
  granted (Give t n) new p = p.1.asked
  granted (Finish t f) new p = free_next (next_issued a s t) f.issued new p.1
  granted (Tick n) new p = refl

  -- an accepted call is not refused
  not_both : (x : Acceptance) (call : Call) (w : Refusal) (ls ms : Lists) → call_of x ≡ call → Answered a s (Accepted x) ls → Answered a s (Refused call w) ms → ⊥
  not_both x call w ls ms e p q = none-some _ (sym free ∙ refused_by_bank _ _ w passed q.by)
    where
      free : first_no (bank_questions a s call) ≡ None
      free = subst (λ c. first_no (bank_questions a s c) ≡ None) e (granted x ls p.gives)

      passed : first_no (questions a s call) ≡ None
      passed = subst (λ c. first_no (questions a s c) ≡ None) e p.passed

module _ (a : Setup) (s : Snapshot) (b d u v : PlanBanks) (same : SameBanks b d) (ls ms : Lists) where
  -- the bank's own rules say whether a request holds
  ask_same : (t r : ℕ) (m : Mode) (x y : Asked) → Gives a s (Ask t r m x) ls → Gives a s (Ask t r m y) ms → BankChanges meaning s (Accepted (Ask t r m x)) b u → BankChanges meaning s (Accepted (Ask t r m y)) d v → (x ≡ y) × SameBanks u v
  ask_same t r m Hold Hold p q c e = (refl, (banks_exact.enter r t m true true b d u v same c e).1)
  ask_same t r m Wait Wait p q c e = (refl, (banks_exact.enter r t m false false b d u v same c e).1)
  ask_same t r m Back Back p q c e = (refl, kept b d u v same c e)
  ask_same t r m Hold Wait p q c e = absurd (true≢false (banks_exact.enter r t m true false b d u v same c e).0)
  ask_same t r m Wait Hold p q c e = absurd (true≢false (sym (banks_exact.enter r t m false true b d u v same c e).0))
  ask_same t r m Back _ p q c e = absurd (true≢false (sym q.0 ∙ p.0))
  ask_same t r m _ Back p q c e = absurd (true≢false (sym p.0 ∙ q.0))

  issued_same : (o : Option ℕ) (i j : Option Issued) → IssuesNext a s o i ls → IssuesNext a s o j ms → IssuedChanges meaning s i b u → IssuedChanges meaning s j d v → (i ≡ j) × SameBanks u v
  issued_same None None None p q c e = (refl, kept b d u v same c e)
  issued_same None None (Some j) p q c e = absurd q
  issued_same None (Some i) j p q c e = absurd p
  issued_same (Some w) None j p q c e = absurd p
  issued_same (Some w) (Some i) None p q c e = absurd q
  issued_same (Some w) (Some i) (Some j) p q c e =
      let task : i.task ≡ j.task = p.0 ∙ sym q.0 in
      let moved = subst (λ k. meaning.entered (wanted_by s k).resource k (wanted_by s k).mode (Ok j.holds) d v) (sym task) e in
      let h = banks_exact.enter (wanted_by s i.task).resource i.task (wanted_by s i.task).mode i.holds j.holds b d u v same c moved in
      (ap (λ k. Some (issue k i.holds)) task ∙ ap (λ k. Some (issue j.task k)) h.0, h.1)
    where
      issue : ℕ → Bool → Issued
      issue t k = record { task = t; holds = k }

  -- one answer to a call that is accepted
  accepted_same : (x y : Acceptance) → call_of x ≡ call_of y → Gives a s x ls → Gives a s y ms → BankChanges meaning s (Accepted x) b u → BankChanges meaning s (Accepted y) d v → (x ≡ y) × SameBanks u v
  accepted_same (Release t n) (Release i k) f p q c e =
      let task : t ≡ i = cc in
      let number : n ≡ k = p.0 ∙ sym q.0 in
      (cc, kept b d u v same c e)
  accepted_same (Ask t r m x) (Ask i j k y) f p q c e =
      let task : t ≡ i = cc in
      let resource : r ≡ j = cc in
      let mode : m ≡ k = cc in
      let back = λ (P : ℕ → ℕ → Mode → Type 0) (h : P i j k). subst (λ z. P z r m) (sym task) (subst (λ z. P i z m) (sym resource) (subst (P i j) (sym mode) h)) in
      let one = ask_same t r m x y p (back (λ z w n. Gives a s (Ask z w n y) ms) q) c (back (λ z w n. BankChanges meaning s (Accepted (Ask z w n y)) d v) e) in
      let answer : x ≡ y = one.0 in
      (cc, one.1)
  accepted_same (Give t n) (Give i k) f p q c e =
      let task : t ≡ i = cc in
      let used : n ≡ k = p.0 ∙ ap (λ z. (s.tasks z).used) task ∙ sym q.0 in
      (cc, banks_exact.leave (wanted_by s t).resource t b d u v same c (subst (λ z. meaning.left (wanted_by s z).resource z (Ok tt) d v) (sym task) e))
  accepted_same (Finish t g) (Finish i k) f p q c e =
      let task : t ≡ i = cc in
      let one = issued_same (next_issued a s t) g.issued k.issued p.1 (subst (λ z. IssuesNext a s (next_issued a s z) k.issued ms) (sym task) q.1) c e in
      let blocked : g.blocked ≡ k.blocked = p.0 ∙ ap (λ z. (s.tasks z).blocked) task ∙ sym q.0 in
      (ap (λ z. Finish z g) task ∙ ap (λ z. Finish i (ended z g.issued)) blocked ∙ ap (λ z. Finish i (ended k.blocked z)) one.0, one.1)
    where
      ended : ℕ → Option Issued → Finished
      ended n o = record { blocked = n; issued = o }
  accepted_same (Tick n) (Tick k) f p q c e = (ap Tick (p.0 ∙ sym q.0), kept b d u v same c e)
  accepted_same _ _ f p q c e = let z : ◌≡◌ {A = ℕ} 0 1 = cc in absurd (omega arith)

-- what is printed of a call, and what it makes of the records, the clock and the releases
pub record SameCall (s : Snapshot) (x y : Event) : Type 0 where
  pub text : line_text x ≡ line_text y
  pub moved : (ls : Lists) (q : ℕ) → moved_task s x ls q ≡ moved_task s y ls q
  pub tick : is_tick x ≡ is_tick y
  pub release : is_release x ≡ is_release y

module _ (a : Setup) (s : Snapshot) (b d u v : PlanBanks) (same : SameBanks b d) (ls ms : Lists) where
  abbrev pub Both : Event → Event → Type 0
  Both x y = Answered a s x ls → Answered a s y ms → BankChanges meaning s x b u → BankChanges meaning s y d v → SameCall s x y × SameBanks u v

  pub call_same : (x y : Event) → event_call x ≡ event_call y → Both x y
  call_same (Accepted x) (Accepted y) f p q c k =
      let one = accepted_same a s b d u v same ls ms x y f p.gives q.gives c k in
      let same : x ≡ y = one.0 in (
        record {
          text = ap (λ z. line_text (Accepted z)) same;
          moved = λ l i. ap (λ z. moved_task s (Accepted z) l i) same;
          tick = ap (λ z. is_tick (Accepted z)) same;
          release = ap (λ z. is_release (Accepted z)) same;
        },
        one.1,
      )
  call_same (Accepted x) (Refused call w) f p q c k = absurd (not_both a s x call w ls ms f p q)
  call_same (Refused call w) (Accepted y) f p q c k = absurd (not_both a s y call w ms ls (sym f) q p)
  call_same (Refused call w) (Refused other z) form p q c k =
      let q' = subst (λ i. Answered a s (Refused i z) ms) (sym form) q in (
        record {
          text = ap (λ i. event_then i (44 ∷ refused_text w)) form ∙ ap (λ i. event_then other (44 ∷ i)) (same_refused_text w z (refused_number _ _ w z p.by q'.by) (p.named ∙ sym q'.named));
          moved = λ l i. refl;
          tick = refl;
          release = refl;
        },
        kept b d u v same c k,
      )
