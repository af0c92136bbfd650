use Rattle.std.proofs.Common.{[], ◌∷◌, ◌++◌, ap, is_some, arith}
use Rattle.std.proofs.lemmas.List.{length_push}
use Rattle.byte_vec.proofs.Room.{lacks_room}
use Rattle.event.proofs.Lines.{long_none}
use Rattle.text.specs.Questions.{ask, first_no}
use Rattle.dry_run.proofs.run.take.line_event.Goals as goal

pub returns-in-Err-clause-reads : goal.returns-in-Err-clause-reads
returns-in-Err-clause-reads c =
    let many = lacks_room 16 c.args.line (10 ∷ []) 23 c.in-Err.ensures.0 in
    ap (λ o. first_no (ask 21 (is_some o) ∷ [])) (long_none (c.args.line ++ (10 ∷ [])) (omega (arith, length_push c.args.line 10, many)))
