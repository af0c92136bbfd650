use Rattle.std.proofs.Common.{◌≡◌, sym, ◌∙◌, arith}
use Rattle.std.proofs.lemmas.Bool.{eqb-true}
use Rattle.plan.specs.Contents.{resource_count, processors}
use Rattle.plan.specs.Of.{plan_contents}
use Rattle.rules.specs.Questions.{fits_at}
use Rattle.controller.proofs.Beginning.{all_by_each, fits_by}
use Rattle.controller.proofs.controller.new.fits_all.Goals as goal
use Rattle.controller.proofs.controller.new.fits_all.Goals.{then-resources, else-resources}

pub returns-then-seats-all_processors : goal.returns-then-seats-all_processors
returns-then-seats-all_processors g c =
    let p = plan_contents c.args.plan.now in
    let bank = c.args.bank.now in
    let n = c.resources-resources.result in
    let each = c.each_fits.ensures in
    elim c.if-resources.branch [
      | then-resources w ↦
          let same : n ≡ resource_count p = omega arith in
          let seats : (g.B.Bank.told bank).seats ≡ processors p = sym w.seats.ensures ∙ (eqb-true _ _ (sym w.value-is ∙ c.if-seats-all_processors.true) ∙ w.all_processors.ensures) in
          fits_by p (g.B.Bank.told bank) (g.B.Bank.active bank) n c.each_fits.result (sym c.resources-resources.ensures ∙ same) seats same (all_by_each (fits_at p (g.B.Bank.told bank) (g.B.Bank.active bank)) n c.each_fits.result each.0 each.1)
      | else-resources w ↦ let same : n ≡ c.resources.result = eqb-true _ _ (sym w.value-is ∙ c.if-seats-all_processors.true) in absurd (omega arith)
    ]
