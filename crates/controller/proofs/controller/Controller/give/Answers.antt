use Rattle.controller.proofs.Running.{follows_after}
use Rattle.controller.proofs.controller.Controller.give.Goals as goal

pub returns-clause-follows : goal.returns-clause-follows
returns-clause-follows g c = follows_after g.B.Bank c.args.self.now c.do_give.new.self _ g.met.B.Bank.sound c.do_give.ensures
