use Rattle.std.proofs.Common.{◌≡◌, true, false, length, sym, ap, ◌∙◌, inl, inr, arith}
use Rattle.plan.specs.Contents.{resource_count}
use Rattle.plan.specs.Of.{plan_contents}
use Rattle.rules.specs.Questions.{fits}
use Rattle.rules.proofs.Fits.{fits_true}
use Rattle.controller.specs.Of.{setup_of, snapshot_of}
use Rattle.controller.proofs.Beginning.{begun}
use Rattle.controller.proofs.controller.Controller.start.Goals as goal

pub returns-then-fits_all-clause-begins : goal.returns-then-fits_all-clause-begins
returns-then-fits_all-clause-begins g c =
    let new = c.with_tasks.result in
    let made = c.with_tasks.ensures in
    let fit : fits (plan_contents new.plan) (g.B.Bank.told new.bank) (g.B.Bank.active new.bank) ≡ true = rw (made.plan, made.bank) (sym c.fits_all.ensures ∙ c.if-fits_all.true) in
    let same = (fits_true (plan_contents new.plan) (g.B.Bank.told new.bank) (g.B.Bank.active new.bank) fit).resources in
    let count : resource_count (plan_contents new.plan) ≡ resource_count (plan_contents c.args.plan.now) = ap (λ p. resource_count (plan_contents p)) made.plan in
    let tasks : new.tasks ≡ length (plan_contents new.plan).tasks = rw made.plan (made.tasks ∙ c.tasks.ensures) in
    begun c.args.plan.now (setup_of g.B.Bank new) (snapshot_of g.B.Bank new) (ap plan_contents made.plan) (g.met.B.Bank.small new.bank)
    (inl (fit, tasks, omega (arith, same, count, made.resources, c.resources.ensures)))
    made.idle made.clock made.releases

pub returns-else-fits_all-clause-begins : goal.returns-else-fits_all-clause-begins
returns-else-fits_all-clause-begins g c =
    let new = c.with_tasks-else-fits_all.result in
    let made = c.with_tasks-else-fits_all.ensures in
    let misfit : fits (plan_contents new.plan) (g.B.Bank.told new.bank) (g.B.Bank.active new.bank) ≡ false = rw (made.plan, made.bank) (sym c.fits_all.ensures ∙ c.if-fits_all.false) in
    begun c.args.plan.now (setup_of g.B.Bank new) (snapshot_of g.B.Bank new) (ap plan_contents made.plan) (g.met.B.Bank.small new.bank)
    (inr (misfit, made.tasks, omega (arith, made.resources)))
    made.idle made.clock made.releases
