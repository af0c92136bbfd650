use Rattle.rules.proofs.Law.{begins}
use Rattle.controller.proofs.controller.Controller.new.Goals as goal

pub returns-clause-starts : goal.returns-clause-starts
returns-clause-starts g c = begins _ _ c.start.ensures.begins (g.met.B.Bank.sound c.start.result.bank)
