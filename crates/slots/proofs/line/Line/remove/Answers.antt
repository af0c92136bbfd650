use Rattle.std.proofs.Common.{◌≡◌, ℕ, ◌+◌, ◌-◌, ◌<◌, ◌≤◌, get_or, ap, ◌∙◌, arith}
use Rattle.bank.specs.declared.size.TheConstants.{PARTIES}
use Rattle.byte_vec.specs.Filled.{length_of_filled}
use Rattle.byte_vec.proofs.Filling.{taken_remove}
use Rattle.slots.proofs.Changes.{filled_removed}
use Rattle.slots.proofs.line.Line.remove.Goals as goal

pub invariant_of-self : goal.invariant_of-self
invariant_of-self c =
    let l = c.args.self.now in
    let o = c.copy_within.ensures in
    record { filled = filled_removed PARTIES l.parties l.size l.filled c.args.place c.requires _ o.len o.after }

pub returns-clause-row : goal.returns-clause-row
returns-clause-row c =
    let l = c.args.self.now in
    let ps = l.parties in
    let n = l.size in
    let m = length_of_filled PARTIES ps n l.filled in
    let i = c.args.place in
    let qs = c.copy_within.new.self in
    let o = c.copy_within.ensures in
    let copied : (k : ℕ) → i ≤ k → k + 1 < n → get_or qs k 0 ≡ get_or ps (k + 1) 0 = λ k f h. let e : (i + 1) + (k - i) ≡ k + 1 = omega arith in o.by_index.0 k 0 f (omega arith) ∙ ap (λ j. get_or ps j 0) e in
    taken_remove PARTIES ps qs n i l.filled (omega arith) o.len copied (λ k f. o.by_index.1 k 0 f)
