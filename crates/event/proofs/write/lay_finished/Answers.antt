use Rattle.std.proofs.Common.{◌≡◌, [], ◌∷◌, ◌++◌, length, decimal, append_assoc, arith, length-append}
use Rattle.event.specs.Answers.{issued_text}
use Rattle.event.proofs.Laying.{laid_as, laid_more}
use Rattle.event.proofs.write.lay_finished.Goals as goal

pub returns-clause-laid : goal.returns-clause-laid
returns-clause-laid c =
    let digits = decimal c.args.finished.blocked in
    let last = issued_text c.args.finished.issued in
    laid_as c.args.out.now c.args.at ((digits ++ (44 ∷ [])) ++ last) (digits ++ (44 ∷ last)) c.lay_issued.result c.lay_issued.new.out (append_assoc digits (44 ∷ []) last)
    (laid_more c.args.out.now c.args.at (digits ++ (44 ∷ [])) c.lay_field-end.result c.lay_field-end.new.out last c.lay_issued.result c.lay_issued.new.out (omega (arith, c.lay_field-end.ensures.few, length-append digits (44 ∷ []))) c.lay_field-end.ensures.laid c.lay_issued.ensures.laid)
