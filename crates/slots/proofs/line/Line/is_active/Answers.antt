use Rattle.std.proofs.Common.{sym, ap, is_some, ◌∙◌}
use Rattle.slots.specs.Rows.{row}
use Rattle.slots.proofs.Requests.{active_is}
use Rattle.slots.proofs.Places.{some_is}
use Rattle.slots.proofs.line.Line.is_active.Goals as goal

pub returns : goal.returns
returns c =
    let l = c.args.self.now in
    c.is_some.ensures ∙ (ap is_some c.find.ensures.place ∙ (some_is c.args.party (row l) ∙ sym (active_is l.slots 0 c.args.party (row l))))
