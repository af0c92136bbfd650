use Rattle.std.proofs.Common.{subst}
use Rattle.std.proofs.lemmas.Result.{on_ok_weaker, on_err_weaker}
use Rattle.std.specs.Io.KnownBytes.{Appends}
use Rattle.dry_run.specs.Played.{AppendsFront}
use Rattle.dry_run.proofs.Fronts.{laid_front}
use Rattle.dry_run.proofs.play.play_end.Goals as goal

pub returns-clause-ok : goal.returns-clause-ok
returns-clause-ok g c =
    let e = c.take_end-size.ensures.ends in
    on_ok_weaker c.write_front.result (λ w. record {
      printed = e.printed;
      appended = subst (Appends _ _) (laid_front _ _ _ _ e.laid) w;
      answers = e.law;
      only = e.only;
    }) c.write_front.ensures.ok

pub returns-clause-err : goal.returns-clause-err
returns-clause-err g c =
    let e = c.take_end-size.ensures.ends in
    on_err_weaker c.write_front.result (λ w. record {
      printed = e.printed;
      appended = subst (AppendsFront _ _) (laid_front _ _ _ _ e.laid) w;
      only = e.only;
    }) c.write_front.ensures.err
