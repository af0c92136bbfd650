use Rattle.std.proofs.Common.{sym, ap, subst}
use Rattle.plan.specs.Of.{plan_contents}
use Rattle.dry_run.specs.Banks.{BanksOf, meaning}
use Rattle.dry_run.specs.Made.{setup, snapshot}
use Rattle.dry_run.proofs.Fits.{made_fitting}
use Rattle.dry_run.proofs.run.take.accept.Goals as goal

pub returns-clause-made : goal.returns-clause-made
returns-clause-made c =
    let banks = c.banks_of-banks.result in
    let of = c.banks_of-banks.ensures in
    let made = c.new.ensures in
    record {
      bank_of = subst (BanksOf (plan_contents c.args.plan.now)) (sym made.bank) of;
      plan = made.plan;
      fitting = made_fitting c.args.plan.now banks of (setup c.new.result) (snapshot c.new.result).lists made.plan (ap meaning.told made.bank) (ap meaning.active made.bank) made.begins.set_up.fitting;
      begins = made.begins;
      starts = made.starts;
    }
