use Rattle.std.proofs.Common.{Bool, subst}
use Rattle.rules.proofs.Law.{suspended_lem}
use Rattle.controller.proofs.Running.{follows_after}
use Rattle.claim.specs.Claims.{HandedBack}
use Rattle.claim.proofs.calls.give.Goals as goal

pub returns-clause-follows : goal.returns-clause-follows
returns-clause-follows g c =
    let e = c.give_back.ensures in
    record {
      follows = follows_after g.B.Bank c.args.controller.now c.give_back.new.controller _ g.met.B.Bank.sound e.makes;
      back = λ h run. subst (λ (b : Bool). HandedBack c.args.claim b c.give_back.result) (suspended_lem run c.args.claim.task) e.back;
    }
