-- How a call changes the bank, as far as its maker makes known.
use Rattle.std.specs.Prelude.{◌≡◌, Some, None, Ok, Option}
use Rattle.bank.specs.declared.meaning.Bank.{Ghosts}
use Rattle.rules.specs.Jobs.{Snapshot}
use Rattle.rules.specs.Questions.{wanted_by}
use Rattle.rules.specs.declared.answer.Issued.{Issued}
use Rattle.rules.specs.declared.event.Acceptance.TheVariants.{Release, Ask, Give, Finish, Tick}
use Rattle.rules.specs.declared.event.Event.{Event}
use Rattle.rules.specs.declared.event.Event.TheVariants.{Accepted, Refused}
use Rattle.controller.specs.Issues.{AskChanges}

module _ {X : Type 0} (b : Ghosts X) (s : Snapshot) where
  abbrev pub IssuedChanges : Option Issued → X → X → Type 0
  IssuedChanges None old new = new ≡ old
  IssuedChanges (Some i) old new =
      b.entered (wanted_by s i.task).resource i.task (wanted_by s i.task).mode (Ok i.holds) old new

  -- an issued request enters it, a give leaves it, and else it is the same
  abbrev pub BankChanges : Event → X → X → Type 0
  BankChanges (Accepted (Release t n)) old new = new ≡ old
  BankChanges (Accepted (Ask t r m x)) old new = AskChanges b.entered t r m (Ok x) old new
  BankChanges (Accepted (Give t n)) old new = b.left (wanted_by s t).resource t (Ok tt) old new
  BankChanges (Accepted (Finish t f)) old new = IssuedChanges f.issued old new
  BankChanges (Accepted (Tick n)) old new = new ≡ old
  BankChanges (Refused call why) old new = new ≡ old
