use Rattle.std.proofs.Common.{◌↔◌, IfOk, IsTrue, subst}
use Rattle.dry_run.specs.Plays.{Printed}
use Rattle.listings.proofs.gives_in_pieces.Goals as goal

pub returns : goal.returns
returns c = subst (λ i. IfOk c.gives.result (λ same. IsTrue same ↔ Printed i c.args.wanted.now)) c.reader_of.ensures c.gives.ensures
