use Rattle.std.proofs.Common.{◌≡◌, [], ◌∷◌, ◌++◌, length, decimal, sym, ap, ◌∙◌, append_assoc, arith, length-append}
use Rattle.rules.specs.Refusals.{number, task_named}
use Rattle.event.specs.Answers.{named_text, refused_text}
use Rattle.event.proofs.Laying.{laid_as, laid_more}
use Rattle.event.proofs.write.lay_refused.Goals as goal

pub returns-in-Late-clause-laid : goal.returns-in-Late-clause-laid
returns-in-Late-clause-laid c =
    let why = c.args.why in
    let digits = decimal c.number.result in
    let first = 110 ∷ 111 ∷ 44 ∷ (digits ++ (44 ∷ [])) in
    let last = decimal c.in-Late.task ++ (10 ∷ []) in
    let ten : c.number.result ≡ number why = c.number.ensures ∙ sym (ap number c.in-Late.is) in
    let text : first ++ last ≡ refused_text why = ap (λ ds. 110 ∷ 111 ∷ 44 ∷ ds) (append_assoc digits (44 ∷ []) last ∙ (ap (λ n. decimal n ++ (44 ∷ last)) ten ∙ ap (λ r. decimal (number why) ++ r) (sym (ap (λ w. named_text (task_named w)) c.in-Late.is)))) in
    laid_as c.args.out.now c.args.at (first ++ last) (refused_text why) c.lay_field.result c.lay_field.new.out text
    (laid_more c.args.out.now c.args.at first c.lay_field-end.result c.lay_field-end.new.out last c.lay_field.result c.lay_field.new.out (omega (arith, c.lay_field-end.ensures.few, length-append digits (44 ∷ []))) c.lay_field-end.ensures.laid c.lay_field.ensures.laid)
