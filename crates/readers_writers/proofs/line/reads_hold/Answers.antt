use Rattle.std.proofs.Common.{◌≡◌, get_or, set, sym, ap, ◌∙◌, arith}
use Rattle.std.proofs.lemmas.Bool.{cond-true, cond-false}
use Rattle.std.proofs.lemmas.List.Edits.{map_over_more}
use Rattle.std.proofs.lemmas.List.{get_or_default}
use Rattle.readers_writers.specs.Lines.{is_writer}
use Rattle.readers_writers.specs.Places.{blank, read_held}
use Rattle.readers_writers.proofs.Pushed.{held}
use Rattle.readers_writers.proofs.line.reads_hold.Goals as goal
use Rattle.readers_writers.proofs.line.reads_hold.Goals.{then-not-is_writer, else-not-is_writer}

pub loop-e-preserved : goal.loop-e-preserved
loop-e-preserved c =
    let ys = c.loop-e.e-items in
    let i = c.loop-e.e-index in
    let x = get_or ys i blank in
    let more : set ys i (read_held x) ≡ _ = map_over_more read_held c.args.es.now ys i x c.loop-e-test.true c.loop-e.invariant (get_or_default ys i blank x (omega arith)) in
    elim c.if-not-is_writer.branch [
      | then-not-is_writer w ↦ w.e-items-is ∙ (ap (set ys i) (sym (cond-false (is_writer x) x (held x) (sym c.is_writer.ensures ∙ w.if-not-is_writer.true))) ∙ more)
      | else-not-is_writer w ↦ w.e-items-is ∙ (ap (set ys i) (sym (cond-true (is_writer x) x (held x) (sym c.is_writer.ensures ∙ w.if-not-is_writer.false))) ∙ more)
    ]
