use Rattle.std.proofs.Common.{◌≡◌, length, get_or, slice_set, sym, ap, ◌∙◌}
use Rattle.std.proofs.lemmas.List.{length-set, set_past}
use Rattle.readers_writers.specs.Lines.{is_writer}
use Rattle.readers_writers.specs.Limits.{list_of}
use Rattle.readers_writers.specs.Places.{blank}
use Rattle.readers_writers.proofs.PlacesLemmas.{writer_at}
use Rattle.readers_writers.proofs.Pushed.{held}
use Rattle.readers_writers.proofs.Positions.{found, missing, place_past, refilled}
use Rattle.readers_writers.proofs.line.Line.writer_holds.Goals as goal

pub returns-in-Some : goal.returns-in-Some
returns-in-Some c =
    let es = list_of c.args.self.now in
    let i = c.in-Some.at in
    let w = found is_writer es i (sym c.writer.ensures ∙ c.in-Some.is) in
    let now = c.deref_mut.result.now in
    let same : now ≡ es = c.deref_mut.ensures.value in
    let one : slice_set now i (held (get_or now i blank)) ≡ slice_set es i (held (get_or es i blank)) = ap (λ ys. slice_set ys i (held (get_or ys i blank))) same in
    refilled es _ (length-set now i _ ∙ ap length same) ∙ (one ∙ (ap (λ j. slice_set es j (held (get_or es j blank))) w.1 ∙ sym (writer_at es blank)))

pub returns-in_default : goal.returns-in_default
returns-in_default c =
    let es = list_of c.args.self.now in
    let none = missing is_writer es (sym c.writer.ensures ∙ c.in_default.is) in
    sym (writer_at es blank ∙ set_past es _ _ (place_past is_writer es none))
