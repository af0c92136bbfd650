use Rattle.bank.specs.declared.size.TheConstants.{PARTIES}
use Rattle.slots.proofs.Changes.{filled_pushed}
use Rattle.slots.proofs.line.Line.push.Goals as goal

pub invariant_of-self : goal.invariant_of-self
invariant_of-self c =
    let l = c.args.self.now in
    record { filled = filled_pushed PARTIES l.parties l.size l.filled c.args.party c.requires }
