use Rattle.std.proofs.Common.{◌≡◌, ℕ, sym, subst, ◌∙◌}
use Rattle.std.specs.Option.{IfSome}
use Rattle.slots.specs.Rows.{row, place}
use Rattle.slots.proofs.Holders.{if_then}
use Rattle.slots.proofs.Places.{found}
use Rattle.slots.proofs.line.Line.holder.Goals as goal

pub returns-clause-place : goal.returns-clause-place
returns-clause-place c =
    let p = c.args.party in
    let ps = row c.args.self.now in
    let P : ℕ → Type 0 = λ i. i ≡ place p ps in
    let f = found p ps c.in_ok-place.place (sym c.find.ensures.place ∙ c.in_ok-place.was) in
    subst (λ o. IfSome o P) (sym c.then_some.ensures) (if_then _ c.in_ok-place.place P (λ z. f.1))
