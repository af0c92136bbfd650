-- Lines that say the same are the same value.
use Rattle.std.proofs.Common.{◌≡◌, ℕ, ◌-◌, List, ◌++◌, length, replicate, sym, ap, ◌∙◌}
use mathlib.Core.HLevel.{is_prop→PathP}
use denote.Struct.Props.{props}
use Rattle.bank.specs.declared.size.TheConstants.{PARTIES}
use Rattle.byte_vec.specs.Filled.{Filled, length_of_filled, made_again}
use Rattle.slots.specs.Rows.{row}
use Rattle.slots.specs.declared.line.Line.{Line}

filled_prop : (n : ℕ) (ps : List ℕ) (len : ℕ) → IsProp (Filled n ps len)
filled_prop n ps len = hlevel props

pub same_lines : (a b : Line) → a.slots ≡ b.slots → row a ≡ row b → a ≡ b
same_lines a b k r =
    let size : (l : Line) → length (row l) ≡ l.size = λ l. length_of_filled PARTIES l.parties l.size l.filled in
    let places : (l : Line) → row l ++ replicate (PARTIES - length (row l)) 0 ≡ l.parties = λ l. made_again (λ ps n. ps) PARTIES l.parties l.size l.filled in
    let n : a.size ≡ b.size = sym (size a) ∙ (ap length r ∙ size b) in
    let ps : a.parties ≡ b.parties = sym (places a) ∙ (ap (λ (xs : List ℕ). xs ++ replicate (PARTIES - length xs) 0) r ∙ places b) in
    λ i. record {
      slots = k i;
      parties = ps i;
      size = n i;
      filled = is_prop→PathP (λ j. Filled PARTIES (ps j) (n j)) (λ j. filled_prop PARTIES (ps j) (n j)) a.filled b.filled i;
    }
