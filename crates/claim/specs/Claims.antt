-- Claims: an ask and a give by a claim are the calls of the claim's task.
use Rattle.std.specs.Prelude.{◌≡◌, ℕ, ◌<◌, Bool, true, false, Ok, Err, Result, ⊤}
use Rattle.bank.specs.declared.meaning.Bank.{Ghosts}
use Rattle.bank.specs.declared.request.Mode.{Mode}
use Rattle.controller.specs.Calls.{FollowsRuns, Makes}
use Rattle.controller.specs.Of.{setup_of, snapshot_of}
use Rattle.controller.specs.declared.controller.Controller.{Controller}
use Rattle.rules.specs.Answers.{asked, gave}
use Rattle.rules.specs.Histories.{History, is_suspended_after}
use Rattle.rules.specs.Refusals.{number}
use Rattle.rules.specs.Runs.{Runs}
use Rattle.rules.specs.States.{is_suspended}
use Rattle.rules.specs.declared.answer.Asked.{Asked}
use Rattle.rules.specs.declared.refusal.Refusal.{Refusal}
use Rattle.claim.specs.declared.claim.Claim.{Claim}

-- the answer without the claim
abbrev pub asked_of : Result (Asked × Claim) Refusal → Result Asked Refusal
asked_of (Ok p) = Ok p.0
asked_of (Err why) = Err why

-- the claim is for the task that asked, one of the tasks that a plan may have
abbrev pub ClaimFor : ℕ → Result (Asked × Claim) Refusal → Type 0
ClaimFor t (Ok p) = (p.1.task ≡ t) × (p.1.task < 64)
ClaimFor t (Err why) = ⊤

-- the answer of give, whether the claim is spent or handed back
abbrev pub gave_of : Result (Result ℕ Refusal) (Claim × Refusal) → Result ℕ Refusal
gave_of (Ok x) = x
gave_of (Err back) = Err back.1

-- the same claim is handed back with 9 where its task waits or is held back, and only there
abbrev pub HandedBack : Claim → Bool → Result (Result ℕ Refusal) (Claim × Refusal) → Type 0
HandedBack claim suspended (Ok x) = suspended ≡ false
HandedBack claim suspended (Err back) = (suspended ≡ true) × (back.0 ≡ claim) × (number back.1 ≡ 9)

module _ {X : Type 0} (b : Ghosts X) (old : Controller X b) where
  -- an ask with a claim is an ask; the claim is for the task that asked
  pub record AsksWithClaim (t r : ℕ) (m : Mode) (result : Result (Asked × Claim) Refusal)
      (new : Controller X b) : Type 0 where
    pub makes : Makes b old (asked t r m (asked_of result)) new
    pub claim : ClaimFor t result

  -- a give with a claim is a give of its task; whether the claim comes back is known by the record
  pub record GivesWithClaim (claim : Claim)
      (result : Result (Result ℕ Refusal) (Claim × Refusal)) (new : Controller X b) : Type 0 where
    pub makes : Makes b old (gave claim.task (gave_of result)) new
    pub back : HandedBack claim (is_suspended ((snapshot_of b old).tasks claim.task).state) result

  -- the law of runs, and whether the claim comes back by the history that led here
  pub record FollowsWithClaim (claim : Claim)
      (result : Result (Result ℕ Refusal) (Claim × Refusal)) (new : Controller X b) : Type 0 where
    pub follows : FollowsRuns b old (gave claim.task (gave_of result)) new
    pub back : (h : History) → Runs (setup_of b old) (snapshot_of b old) h →
        HandedBack claim (is_suspended_after claim.task h) result
