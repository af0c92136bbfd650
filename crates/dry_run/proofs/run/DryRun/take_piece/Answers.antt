use Rattle.std.proofs.Common.{◌≡◌, ◌++◌, length, sym, ap, ◌∙◌, subst, append_assoc, arith, length-append}
use Rattle.dry_run.specs.Fed.{Takes}
use Rattle.dry_run.specs.Steps.{IsLine}
use Rattle.dry_run.proofs.Steps.{takes_more}
use Rattle.dry_run.proofs.run.DryRun.take_piece.Goals as goal

pub loop-line-preserved : goal.loop-line-preserved
loop-line-preserved c =
    let (done, split, taken, room, waits) = c.loop-line.invariant in
    let line = c.in-Some.line.now in
    let behind = c.in-Some.behind.now in
    let w : IsLine line × (c.loop-line.rest.now ≡ line ++ behind) = c.in-Some.ensures in
    let more = takes_more c.args.self.now c.loop-line.self c.take_line-at.new.self done line c.args.out.now c.loop-line.at c.loop-line.out c.take_line-at.result c.take_line-at.new.out (omega (arith, room)) taken c.take_line-at.ensures.takes in (
      done ++ line,
      split ∙ (ap (λ xs. done ++ xs) w.1 ∙ sym (append_assoc done line behind)),
      more,
      omega (arith, room, c.take_line-at.ensures.few, ap length w.1, length-append line behind),
      c.take_line-at.ensures.waits,
    )

pub returns-clause-takes : goal.returns-clause-takes
returns-clause-takes c =
    let (done, split, taken, room, waits) = c.loop-line.invariant in
    subst (λ p. Takes c.args.self.now c.take_open.new.self p c.args.out.now 0 c.take_open.result c.take_open.new.out) (sym split)
    (takes_more c.args.self.now c.loop-line.self c.take_open.new.self done c.loop-line.rest.now c.args.out.now c.loop-line.at c.loop-line.out c.take_open.result c.take_open.new.out (omega (arith, room)) taken c.take_open.ensures.takes)
