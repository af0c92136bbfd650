use Rattle.std.proofs.Common.{◌≡◌, [], ◌∷◌, ◌++◌, length, decimal, ap, arith, length-append}
use Rattle.rules.specs.declared.call.Call.TheVariants.{Ask}
use Rattle.event.specs.Lines.{event_then, mode_letter}
use Rattle.event.proofs.Laying.{ask_text, laid_as, laid_more}
use Rattle.event.proofs.write.lay_ask.Goals as goal

pub returns-in-Write-clause-laid : goal.returns-in-Write-clause-laid
returns-in-Write-clause-laid c =
    let task = 65 ∷ 44 ∷ (decimal c.args.task ++ (44 ∷ [])) in
    let behind = decimal c.args.resource ++ (44 ∷ 87 ∷ 44 ∷ []) in
    laid_as c.args.out.now c.args.at (task ++ behind) (event_then (Ask c.args.task c.args.resource c.args.mode) (44 ∷ [])) c.lay_field.result c.lay_field.new.out (ask_text c.args.task c.args.resource c.args.mode 87 (ap mode_letter c.in-Write.is))
    (laid_more c.args.out.now c.args.at task c.lay_field-end.result c.lay_field-end.new.out behind c.lay_field.result c.lay_field.new.out (omega (arith, c.lay_field-end.ensures.few, length-append (decimal c.args.task) (44 ∷ []))) c.lay_field-end.ensures.laid c.lay_field.ensures.laid)

pub returns-in-Read-clause-laid : goal.returns-in-Read-clause-laid
returns-in-Read-clause-laid c =
    let task = 65 ∷ 44 ∷ (decimal c.args.task ++ (44 ∷ [])) in
    let behind = decimal c.args.resource ++ (44 ∷ 82 ∷ 44 ∷ []) in
    laid_as c.args.out.now c.args.at (task ++ behind) (event_then (Ask c.args.task c.args.resource c.args.mode) (44 ∷ [])) c.lay_field-in-Read.result c.lay_field-in-Read.new.out (ask_text c.args.task c.args.resource c.args.mode 82 (ap mode_letter c.in-Read.is))
    (laid_more c.args.out.now c.args.at task c.lay_field-end.result c.lay_field-end.new.out behind c.lay_field-in-Read.result c.lay_field-in-Read.new.out (omega (arith, c.lay_field-end.ensures.few, length-append (decimal c.args.task) (44 ∷ []))) c.lay_field-end.ensures.laid c.lay_field-in-Read.ensures.laid)
