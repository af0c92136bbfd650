use Rattle.std.proofs.Common.{◌≡◌, ◌+◌, ◌<◌, length, slice_index_or, Some, sym, ap, ◌∙◌, arith}
use Rattle.std.proofs.lemmas.Bool.{ltb-true, ltb-false}
use Rattle.std.proofs.lemmas.List.{get_or_default}
use Rattle.std.proofs.lemmas.Option.{slice_get_past}
use Rattle.bank.specs.declared.size.TheConstants.{PARTIES}
use Rattle.byte_vec.specs.Filled.{length_of_filled}
use Rattle.slots.specs.Lines.{request_at, requests}
use Rattle.slots.specs.Rows.{row}
use Rattle.slots.proofs.Requests.{nth_requests, length_requests}
use Rattle.slots.proofs.line.Line.request_at.Goals as goal

pub returns-in_err-party : goal.returns-in_err-party
returns-in_err-party c =
    let l = c.args.self.now in
    let n = length_of_filled PARTIES l.parties l.size l.filled in
    let past = ltb-false _ _ (sym c.in_err-party.ensures.lookup.0) in
    let m : length (requests l.slots (row l)) ≡ length (row l) = length_requests l.slots 0 (row l) in
    c.from_residual.ensures ∙ sym (slice_get_past (requests l.slots (row l)) c.args.place (omega arith))

pub returns : goal.returns
returns c =
    let l = c.args.self.now in
    let ps = row l in
    let j = c.args.place in
    let p = c.in_ok-party.field-0.now in
    let n = length_of_filled PARTIES l.parties l.size l.filled in
    let lt = ltb-true _ _ (sym c.in_ok-party.ensures.lookup.0) in
    let within : j < length ps = omega arith in
    let is : p ≡ slice_index_or ps j 0 = c.in_ok-party.ensures.lookup.1 ∙ get_or_default ps j p 0 within in
    let z : j ≡ 0 + j = omega arith in
    ap Some (c.request.ensures ∙ (ap (λ p. request_at l.slots j p) is ∙ ap (λ n. request_at l.slots n (slice_index_or ps j 0)) z)) ∙ sym (nth_requests l.slots 0 ps j within)
