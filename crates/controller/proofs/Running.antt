-- The lists of the bank are sound, whatever the call.
use Rattle.std.proofs.Common.{◌≡◌, ℕ, ◌<◌, subst}
use Rattle.bank.specs.Meaning.{Sound}
use Rattle.bank.specs.declared.meaning.Bank.{Ghosts}
use Rattle.rules.specs.Jobs.{Setup}
use Rattle.rules.specs.declared.event.Event.{Event}
use Rattle.rules.specs.Runs.{SoundLists}
use Rattle.rules.proofs.Law.{follows}
use Rattle.controller.specs.Calls.{FollowsRuns, Makes}
use Rattle.controller.specs.Of.{setup_of, snapshot_of}
use Rattle.controller.specs.declared.controller.Controller.{Controller}

-- the setup is what it was, so the bank's law speaks of the setup before the call
pub sound_after : {X : Type 0} (b : Ghosts X) → ((x : X) (r : ℕ) → r < (b.told x).resources → Sound (b.told x) r (b.active x r)) → (c d : Controller X b) → setup_of b d ≡ setup_of b c → SoundLists (setup_of b c) (snapshot_of b d)
sound_after b law c d same = subst (λ (a : Setup). SoundLists a (snapshot_of b d)) same (law d.bank)

-- what a call does follows the law of runs
pub follows_after : {X : Type 0} (b : Ghosts X) (c d : Controller X b) (e : Event) → ((x : X) (r : ℕ) → r < (b.told x).resources → Sound (b.told x) r (b.active x r)) → Makes b c e d → FollowsRuns b c e d
follows_after b c d e law made = follows (setup_of b c) (snapshot_of b c) (snapshot_of b d) e (sound_after b law c d made.setup) made.does
