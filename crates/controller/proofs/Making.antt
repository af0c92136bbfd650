-- What a call makes of a controller, from its exact effect.
use Rattle.std.proofs.Common.{◌≡◌, ℕ, Bool, true, false, cond, ◌&&◌, ◌||◌, eqb, Some, None, Option, sym, refl, ap, ◌∙◌}
use Rattle.std.proofs.lemmas.Bool.{false≢true, cond-false}
use Rattle.bank.specs.Meaning.{Lists}
use Rattle.bank.specs.Lists.{request_of}
use Rattle.bank.specs.declared.meaning.Bank.{Ghosts}
use Rattle.rules.specs.Jobs.{Snapshot}
use Rattle.rules.specs.Moves.{Does, moved_task, is_held, let_in, let_in_state, issued_task}
use Rattle.rules.specs.Questions.{wanted_by}
use Rattle.rules.specs.States.{in_state}
use Rattle.rules.specs.declared.answer.Issued.{Issued}
use Rattle.rules.specs.declared.event.Acceptance.TheVariants.{Release, Ask, Give, Finish, Tick}
use Rattle.rules.specs.declared.event.Event.{Event}
use Rattle.rules.specs.declared.event.Event.TheVariants.{Accepted, Refused}
use Rattle.rules.specs.declared.task.State.{State}
use Rattle.rules.specs.declared.task.State.TheVariants.{Idle, Going, HeldBack, Waiting, Holding}
use Rattle.rules.specs.declared.task.Task.{Task}
use Rattle.table.proofs.Issued.{ticked_rests}
use Rattle.controller.specs.Banks.{BankChanges}
use Rattle.controller.specs.Calls.{waits_at, is_issued_to, may_change, KeepsRefused, Makes}
use Rattle.controller.specs.Of.{setup_of, snapshot_of}
use Rattle.controller.specs.declared.controller.Controller.{Controller}

neither : (a b : Bool) → (a || b) ≡ false → (a ≡ false) × (b ≡ false)
neither false false e = (refl, refl)
neither false true e = absurd (false≢true (sym e))
neither true b e = absurd (false≢true (sym e))

not_let_in : (r : ℕ) (held : Bool) (st : State) (k : Task) → waits_at r st ≡ false → let_in_state r held st k ≡ k
not_let_in r held Idle k e = refl
not_let_in r held Going k e = refl
not_let_in r held (HeldBack w) k e = refl
not_let_in r held (Waiting w) k e = ap (λ (b : Bool). cond (b && held) (in_state (Holding w) k) k) e
not_let_in r held (Holding w) k e = refl

not_issued : (o : Option Issued) (q : ℕ) (k : Task) → is_issued_to o q ≡ false → issued_task o q k ≡ k
not_issued None q k e = refl
not_issued (Some i) q k e = cond-false (eqb i.task q) _ _ e

same_record : (s : Snapshot) (e : Event) (new : Lists) (q : ℕ) → may_change s e q ≡ false → moved_task s e new q ≡ s.tasks q
same_record s (Refused call why) new q h = refl
same_record s (Accepted (Release t n)) new q h = cond-false (eqb t q) _ _ h
same_record s (Accepted (Ask t r m x)) new q h = cond-false (eqb t q) _ _ h
same_record s (Accepted (Give t n)) new q h =
    let r = (wanted_by s t).resource in
    let no = neither (eqb t q) (waits_at r (s.tasks q).state) h in
    ap (let_in r (new r) q) (cond-false (eqb t q) _ _ no.0) ∙ not_let_in r (is_held (request_of q (new r))) (s.tasks q).state (s.tasks q) no.1
same_record s (Accepted (Finish t f)) new q h =
    let no = neither (eqb t q) (is_issued_to f.issued q) h in
    ap (issued_task f.issued q) (cond-false (eqb t q) _ _ no.0) ∙ not_issued f.issued q (s.tasks q) no.1
same_record s (Accepted (Tick n)) new q h = ticked_rests (s.tasks q) h

pub makes : {X : Type 0} (b : Ghosts X) (old new : Controller X b) (e : Event) → setup_of b new ≡ setup_of b old → Does (setup_of b old) (snapshot_of b old) e (snapshot_of b new) → BankChanges b (snapshot_of b old) e old.bank new.bank → KeepsRefused e old new → Makes b old e new
makes b old new e setup does bank keeps = record {
  setup = setup;
  does = does;
  only = λ q h. does.tasks q ∙ same_record (snapshot_of b old) e (snapshot_of b new).lists q h;
  bank = bank;
  keeps = keeps;
}
