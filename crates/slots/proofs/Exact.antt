-- Slots leave no choice.
use Rattle.std.proofs.Common.{◌≡◌, ℕ, ◌++◌, List, [], ◌∷◌, length, nat_lt, sym, ap, ◌∙◌}
use mathlib.Core.Path.{fun_ext}
use Rattle.std.specs.List.{remove}
use Rattle.bank.specs.Exact.{SameRows, Exact}
use Rattle.bank.specs.Questions.{Told}
use Rattle.bank.proofs.Rows.{same_rows}
use Rattle.slots.specs.Lines.{requests}
use Rattle.slots.specs.Rows.{place}
use Rattle.slots.specs.Slots.{told_of, parties_of, holders_of, slots_ghosts}
use Rattle.slots.specs.declared.slots.Slots.{Slots}

abbrev pub SameSlots : Slots → Slots → Type 0
SameSlots = SameRows told_of parties_of

same_holders : (a b : Slots) (r : ℕ) → SameSlots a b → holders_of a r ≡ holders_of b r
same_holders a b r e = ap (λ (t : Told). t.slots r) e.tells

pub slots_exact : Exact slots_ghosts SameSlots
slots_exact = record {
  tells = λ a b e. e.tells;
  lists = λ a b e. fun_ext (λ r. ap (λ k. requests k (parties_of a r)) (same_holders a b r e) ∙ ap (requests (holders_of b r)) (e.rows r));
  enter = λ r p m h j a b c d e x y. (
    x.holds ∙ (ap (λ (ps : List ℕ). nat_lt (length ps) (holders_of a r)) (e.rows r) ∙ (ap (nat_lt (length (parties_of b r))) (same_holders a b r e) ∙ sym y.holds)),
    same_rows told_of parties_of r (λ ps. ps ++ p ∷ []) a b c d e x.parties y.parties,
  );
  leave = λ r p a b c d e x y. same_rows told_of parties_of r (λ ps. remove ps (place p ps)) a b c d e x.parties y.parties;
}
