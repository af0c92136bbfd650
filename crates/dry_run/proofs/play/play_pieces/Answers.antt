use Rattle.std.proofs.Common.{◌++◌, rules, take, ap, ◌∙◌, subst, append-nil, arith}
use Rattle.std.proofs.lemmas.List.{length-take}
use Rattle.std.proofs.lemmas.Result.{on_ok_weaker, on_err_weaker}
use Rattle.std.proofs.KnownBytes.{Appends-trans, Consumes-kept, Consumes-trans}
use Rattle.std.specs.Io.KnownBytes.{Consumes}
use Rattle.dry_run.proofs.Fronts.{stops, front_all, front_more, finishes, breaks, settles, needed_all, needed_piece, at_err}
use Rattle.dry_run.proofs.play.play_pieces.Goals as goal

-- the read failed
pub returns-in_err-n-clause-err : goal.returns-in_err-n-clause-err
returns-in_err-n-clause-err g c =
    let (read, printed, consumed, appended, fed, on, _, _) = c.loop.invariant in
    at_err _ (stops _ _ _ _ c.loop.run read printed (Consumes-kept _ _ _ _ consumed c.in_err-n.ensures.err) fed (needed_all read on) printed (front_all printed) appended)

-- the input is over
pub returns-then-is_end-clause-ok : goal.returns-then-is_end-clause-ok
returns-then-is_end-clause-ok g c =
    let (read, printed, consumed, appended, fed, on, room, _) = c.loop.invariant in
    let none = c.if-is_end.ensures.0 (search rules) in
    let all = subst (Consumes _ _) (ap (λ k. read ++ take k c.read_piece.new.piece) none ∙ append-nil read) (Consumes-trans _ _ _ _ _ consumed c.in_ok-n.ensures.ok) in
    let ended = c.in_ok-n.ensures.end none (omega (arith, room, c.requires.0)) in
    on_ok_weaker c.play_end.result (λ e.
    finishes _ _ _ _ c.loop.run read printed all fed (needed_all read on) e.printed (e.answers read printed fed) (λ other p. e.only read printed other fed p) ended (Appends-trans _ _ _ _ _ appended e.appended)) c.play_end.ensures.ok

pub returns-then-is_end-clause-err : goal.returns-then-is_end-clause-err
returns-then-is_end-clause-err g c =
    let (read, printed, consumed, appended, fed, on, room, _) = c.loop.invariant in
    let none = c.if-is_end.ensures.0 (search rules) in
    let all = subst (Consumes _ _) (ap (λ k. read ++ take k c.read_piece.new.piece) none ∙ append-nil read) (Consumes-trans _ _ _ _ _ consumed c.in_ok-n.ensures.ok) in
    let ended = c.in_ok-n.ensures.end none (omega (arith, room, c.requires.0)) in
    on_err_weaker c.play_end.result (λ e.
    let (written, begins, more) = e.appended in
    breaks _ _ _ _ c.loop.run read printed all fed (needed_all read on) e.printed written (λ other p. e.only read printed other fed p) ended begins (Appends-trans _ _ _ _ _ appended more)) c.play_end.ensures.err

-- a write failed
pub returns-in_err-play_piece-clause-err : goal.returns-in_err-play_piece-clause-err
returns-in_err-play_piece-clause-err g c =
    let (read, printed, consumed, appended, fed, on, room, _) = c.loop.invariant in
    let e = c.in_err-play_piece.ensures.err in
    let (written, begins, more) = e.appended in
    let needed = needed_piece read (take c.in_ok-n.n c.read_piece.new.piece) on (omega (arith, length-take c.in_ok-n.n c.read_piece.new.piece, room, c.requires)) in
    at_err _ (stops _ _ _ _ c.play_piece.new.run _ (printed ++ e.printed) (Consumes-trans _ _ _ _ _ consumed c.in_ok-n.ensures.ok) (e.law read printed fed) needed (printed ++ written) (front_more printed written e.printed begins) (Appends-trans _ _ _ _ _ appended more))

-- nothing more can be printed
pub returns-then-is_over-clause-ok : goal.returns-then-is_over-clause-ok
returns-then-is_over-clause-ok g c =
    let (read, printed, consumed, appended, fed, on, room, _) = c.loop.invariant in
    let e = c.in_ok-play_piece.ensures.ok in
    let fed_more = e.law read printed fed in
    let needed = needed_piece read (take c.in_ok-n.n c.read_piece.new.piece) on (omega (arith, length-take c.in_ok-n.n c.read_piece.new.piece, room, c.requires)) in
    settles _ _ _ _ c.play_piece.new.run _ (printed ++ e.printed) (Consumes-trans _ _ _ _ _ consumed c.in_ok-n.ensures.ok) fed_more needed (c.if-is_over.ensures.over (search rules) _ _ fed_more) (Appends-trans _ _ _ _ _ appended e.appended)

pub loop-preserved : goal.loop-preserved
loop-preserved g c =
    let (read, printed, consumed, appended, fed, _, room, out) = c.loop.invariant in
    let e = c.in_ok-play_piece.ensures.ok in
    let fed_more = e.law read printed fed in
    (_, printed ++ e.printed, Consumes-trans _ _ _ _ _ consumed c.in_ok-n.ensures.ok, Appends-trans _ _ _ _ _ appended e.appended, fed_more, c.if-is_over.ensures.goes_on (search rules) _ _ fed_more, search rules, search rules)

-- the tries ran out
pub returns-clause-err : goal.returns-clause-err
returns-clause-err g c =
    let (read, printed, consumed, appended, fed, on, _, _) = c.loop.invariant in
    at_err _ (stops _ _ _ _ c.loop.run read printed consumed fed (needed_all read on) printed (front_all printed) appended)
