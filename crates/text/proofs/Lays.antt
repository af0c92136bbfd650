-- Bytes laid one after another.
use Rattle.std.proofs.Common.{◌≡◌, ℕ, List, [], ◌++◌, sym, refl, ap, ◌∙◌, add-zero, arith, length-append}
use Rattle.text.specs.Memory.{overlay, Lays}
use Rattle.text.proofs.Writes.{overlay_none, overlay_more}

pub lays_none : (old : List ℕ) (at : ℕ) → Lays old at [] at old
lays_none old at = record { place = sym (add-zero at); size = refl; text = λ h. sym (overlay_none old at) }

pub lays_more : (old : List ℕ) (at : ℕ) (a : List ℕ) (middle : ℕ) (mid b : List ℕ) (end : ℕ) (new : List ℕ) → Lays old at a middle mid → Lays mid middle b end new → Lays old at (a ++ b) end new
lays_more old at a middle mid b end new f g =
    let size = length-append a b in
    record {
      place = omega (arith, f.place, g.place);
      size = g.size ∙ f.size;
      text = λ h.
          let here : mid ≡ overlay old at a = f.text (omega arith) in
          let more : new ≡ overlay mid middle b = g.text (omega (arith, f.size, f.place)) in
          more ∙ (ap (λ m. overlay m middle b) here ∙ (ap (λ k. overlay (overlay old at a) k b) f.place ∙ overlay_more old at a b (omega arith)));
    }
