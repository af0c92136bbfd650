-- One line after another.
use Rattle.std.proofs.Common.{◌≡◌, ℕ, ◌+◌, ◌<◌, List, [], ◌∷◌, map, length, Some, None, Err, Option, sym, ap, ◌∙◌, arith, length-append}
use Rattle.item.specs.Lines.{read_item}
use Rattle.item.specs.declared.item.Item.{Item}
use Rattle.plan.specs.Adding.{Adds, line_questions}
use Rattle.plan.specs.Contents.{Contents}
use Rattle.text.specs.Lines.{lines_of, CutsLine}
use Rattle.text.specs.Questions.{first_no}
use Rattle.plan_text.specs.Texts.{decide, grown, judge}

pub cut_lines : (s line more : List ℕ) → 0 < length s → CutsLine s line more → (lines_of s ≡ line ∷ lines_of more) × (length more < length s)
cut_lines [] line more some cut = absurd (omega arith)
cut_lines (b ∷ bs) line more some cut = (cut.2, omega (arith, ap length cut.0, length-append line more))

adds_grown : (c new : Contents) (o : Option Item) → Adds c o new → new ≡ grown c o
adds_grown c new None a = absurd a
adds_grown c new (Some i) a = a

module _ (c : Contents) (n : ℕ) (s line more : List ℕ) (some : 0 < length s) (cut : CutsLine s line more) where
  first_line : judge c n (map read_item (lines_of s)) ≡ decide (first_no (line_questions c (read_item line))) n (judge (grown c (read_item line)) (n + 1) (map read_item (lines_of more)))
  first_line = ap (λ ls. judge c n (map read_item ls)) (cut_lines s line more some cut).0

  pub line_taken : (new : Contents) → first_no (line_questions c (read_item line)) ≡ None → Adds c (read_item line) new → judge c n (map read_item (lines_of s)) ≡ judge new (n + 1) (map read_item (lines_of more))
  line_taken new e a =
      first_line
      ∙ (ap (λ o. decide o n (judge (grown c (read_item line)) (n + 1) (map read_item (lines_of more)))) e
      ∙ ap (λ x. judge x (n + 1) (map read_item (lines_of more))) (sym (adds_grown c new (read_item line) a)))

  pub line_refused : (q : ℕ) → first_no (line_questions c (read_item line)) ≡ Some q → judge c n (map read_item (lines_of s)) ≡ Err (q, n)
  line_refused q e = first_line ∙ ap (λ o. decide o n (judge (grown c (read_item line)) (n + 1) (map read_item (lines_of more)))) e
