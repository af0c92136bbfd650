use Rattle.std.proofs.Common.{◌≡◌, [], ◌∷◌, ◌++◌, length, sym, ap, ◌∙◌, arith}
use Rattle.event.specs.Answers.{accepted_text, refused_text, line_text}
use Rattle.event.specs.Lines.{event_then}
use Rattle.event.proofs.Laying.{event_append, event_size_then, laid_as, laid_more}
use Rattle.event.proofs.write.lay_line.Goals as goal

pub returns-in-Accepted-clause-laid : goal.returns-in-Accepted-clause-laid
returns-in-Accepted-clause-laid c =
    let call = c.accepted_call.result in
    let last = accepted_text c.in-Accepted.accepted in
    laid_as c.args.out.now c.args.at (event_then call (44 ∷ []) ++ last) (line_text c.args.event) c.lay_accepted.result c.lay_accepted.new.out
    (event_append call (44 ∷ []) last ∙ (ap (λ k. event_then k (44 ∷ last)) c.accepted_call.ensures ∙ sym (ap line_text c.in-Accepted.is)))
    (laid_more c.args.out.now c.args.at (event_then call (44 ∷ [])) c.lay_call-end.result c.lay_call-end.new.out last c.lay_accepted.result c.lay_accepted.new.out (omega (arith, c.lay_call-end.ensures.few, event_size_then call 44)) c.lay_call-end.ensures.laid c.lay_accepted.ensures.laid)

pub returns-in-Refused-clause-laid : goal.returns-in-Refused-clause-laid
returns-in-Refused-clause-laid c =
    let call = c.in-Refused.call in
    let last = refused_text c.in-Refused.why in
    laid_as c.args.out.now c.args.at (event_then call (44 ∷ []) ++ last) (line_text c.args.event) c.lay_refused.result c.lay_refused.new.out
    (event_append call (44 ∷ []) last ∙ sym (ap line_text c.in-Refused.is))
    (laid_more c.args.out.now c.args.at (event_then call (44 ∷ [])) c.lay_call-end-in-Refused.result c.lay_call-end-in-Refused.new.out last c.lay_refused.result c.lay_refused.new.out (omega (arith, c.lay_call-end-in-Refused.ensures.few, event_size_then call 44)) c.lay_call-end-in-Refused.ensures.laid c.lay_refused.ensures.laid)
