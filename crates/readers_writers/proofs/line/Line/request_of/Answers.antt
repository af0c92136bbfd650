use Rattle.std.proofs.Common.{◌≡◌, length, sym, ◌∙◌, arith}
use Rattle.std.proofs.lemmas.Option.{slice_get_past}
use Rattle.readers_writers.specs.Lines.{requests}
use Rattle.readers_writers.specs.Limits.{list_of}
use Rattle.readers_writers.proofs.PlacesLemmas.{request_of_lem, length_requests}
use Rattle.readers_writers.proofs.Positions.{missing, place_past}
use Rattle.readers_writers.proofs.line.Line.request_of.Goals as goal

pub returns-in_err-place : goal.returns-in_err-place
returns-in_err-place c =
    let es = list_of c.args.self.now in
    let past = place_past _ es (missing _ es (sym c.place.ensures ∙ c.in_err-place.was)) in
    let m : length (requests es) ≡ length es = length_requests _ _ 0 es in
    c.from_residual.ensures ∙ sym (request_of_lem c.args.party _ _ 0 es ∙ slice_get_past (requests es) _ (omega arith))
