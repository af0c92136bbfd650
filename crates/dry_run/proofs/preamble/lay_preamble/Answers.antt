use Rattle.std.proofs.Common.{◌≡◌, ◌+◌, length, ap, ◌∙◌}
use Rattle.limits.specs.Lines.{limits_text}
use Rattle.plan.specs.Of.{plan_contents}
use Rattle.text.specs.Memory.{overlay}
use Rattle.dry_run.specs.Banks.{meaning}
use Rattle.dry_run.specs.Said.{preamble_text}
use Rattle.dry_run.proofs.Fits.{banks_told}
use Rattle.dry_run.proofs.preamble.lay_preamble.Goals as goal

pub returns-clause-laid : goal.returns-clause-laid
returns-clause-laid c =
    let said = plan_contents c.args.plan.now in
    let text : limits_text (meaning.told c.args.banks.now) said ≡ preamble_text said = ap (λ t. limits_text t said) (banks_told said c.args.banks.now c.requires.0) in
    let w = rw c.unwrap.ensures at c.write_limits.ensures.writes in
    (w.1 ∙ ap (λ t. 0 + length t) text, w.2 ∙ ap (overlay c.args.out.now 0) text)
