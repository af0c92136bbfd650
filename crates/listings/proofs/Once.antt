-- What is printed of an input that is fed at once.
use Rattle.std.proofs.Common.{◌≡◌, ℕ, List, [], ◌++◌, take, sym, ap, ◌∙◌, subst}
use Rattle.dry_run.proofs.Fronts.{laid_front}
use Rattle.dry_run.specs.Fed.{Fed, Ends, Takes}
use Rattle.dry_run.specs.Plays.{Printed}
use Rattle.dry_run.specs.declared.run.DryRun.{DryRun}

pub prints_once : (first d e : DryRun) (input old new : List ℕ) (size : ℕ) (before after : List ℕ) (end : ℕ) → Fed first [] [] → d ≡ first → Takes d e input old 0 size new → Ends e before end after → (wanted : List ℕ) → (Printed input (take size new ++ take end after)) × (Printed input wanted → wanted ≡ take size new ++ take end after)
prints_once first d e input old new size before after end began same takes ends wanted =
    let fed : Fed e input takes.printed = takes.law [] [] (subst (λ x. Fed x [] []) (sym same) began) in
    let text : takes.printed ++ ends.printed ≡ take size new ++ take end after = ap (λ x. x ++ ends.printed) (sym (laid_front _ _ _ _ takes.laid)) ∙ ap (λ x. take size new ++ x) (sym (laid_front _ _ _ _ ends.laid)) in
    (subst (Printed input) text (ends.law input takes.printed fed), λ p. ends.only input takes.printed wanted fed p ∙ text)
