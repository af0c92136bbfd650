use Rattle.std.proofs.lemmas.Result.{err_from_is_err_and}
use Rattle.claim.proofs.calls.ask.Goals as goal

pub returns-in_err-answer-clause-follows : goal.returns-in_err-answer-clause-follows
returns-in_err-answer-clause-follows g c =
    let p = err_from_is_err_and c.from_residual.result c.from_residual.ensures.1 in
    rw (p.1, p.2) c.in_err-answer.ensures.follows
