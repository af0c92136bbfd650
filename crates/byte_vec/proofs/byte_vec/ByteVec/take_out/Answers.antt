use Rattle.std.proofs.Common.{◌+◌, ◌-◌, ◌≤◌, ◌<◌, ◌≡◌, ℕ, ap, ◌∙◌, arith, get_or, take, Some}
use Rattle.std.specs.List.{remove}
use Rattle.std.proofs.lemmas.List.{get_or-take}
use Rattle.std.proofs.lemmas.Option.{slice_get-get_or}
use Rattle.byte_vec.specs.Filled.{length_of_filled}
use Rattle.byte_vec.proofs.Filling.{taken_remove}
use Rattle.byte_vec.proofs.byte_vec.ByteVec.take_out.Goals as goal

pub returns : goal.returns
returns g c =
    let n = g.row.N in
    let ps = c.self.inside.places in
    let len = c.self.inside.len in
    let i = c.args.place in
    let qs = c.copy_within.new.self in
    let o = c.copy_within.ensures in
    let lt : i < len = c.if-place-self.false in
    let copied : (k : ℕ) → i ≤ k → k + 1 < len → get_or qs k 0 ≡ get_or ps (k + 1) 0 = λ k f h. let e : (i + 1) + (k - i) ≡ k + 1 = omega arith in o.by_index.0 k 0 f (omega arith) ∙ ap (λ j. get_or ps j 0) e in
    let below : (k : ℕ) → k < i → get_or qs k 0 ≡ get_or ps k 0 = λ k f. o.by_index.1 k 0 f in
    (rw (← c.self.view_is) (slice_get-get_or (take len ps) i 0 (omega (arith, length_of_filled n ps len c.self.invariant)) ∙ ap (λ b. Some b) (get_or-take len ps i 0 lt)), taken_remove n ps qs len i c.self.invariant lt o.len copied below ∙ ap (λ xs. remove xs i) c.self.view_is)
