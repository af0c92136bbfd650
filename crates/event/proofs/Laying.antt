-- Bytes laid one part after another.
use Rattle.std.proofs.Common.{◌≡◌, ℕ, ◌+◌, ◌/◌, ◌%◌, ◌^◌, ◌<◌, ◌≤◌, List, [], ◌∷◌, ◌++◌, length, decimal, sym, refl, ap, ◌∙◌, subst, append_assoc, arith, length-append}
use Rattle.std.proofs.lemmas.Fmt.{decimal_digit, decimal_step}
use Rattle.text.specs.Memory.{overlay}
use Rattle.text.proofs.Writes.{overlay_more}
use Rattle.text.specs.Fields.{fields_then}
use Rattle.text.specs.declared.field.Field.{Field}
use Rattle.text.specs.declared.field.Field.TheVariants.{Number, Letter}
use Rattle.bank.specs.declared.request.Mode.{Mode}
use Rattle.rules.specs.declared.call.Call.{Call}
use Rattle.rules.specs.declared.call.Call.TheVariants.{Ask}
use Rattle.event.specs.Laid.{Laid}
use Rattle.event.specs.Lines.{event_fields, event_text, event_then, mode_letter}

pub laid_as : (old : List ℕ) (at : ℕ) (xs ys : List ℕ) (end : ℕ) (new : List ℕ) → xs ≡ ys → Laid old at xs end new → Laid old at ys end new
laid_as old at xs ys end new e x = subst (λ zs. Laid old at zs end new) e x

pub laid_more : (old : List ℕ) (at : ℕ) (xs : List ℕ) (middle : ℕ) (mid ys : List ℕ) (end : ℕ) (new : List ℕ) → at + length xs ≤ length old → Laid old at xs middle mid → Laid mid middle ys end new → Laid old at (xs ++ ys) end new
laid_more old at xs middle mid ys end new room x y = (
  omega (arith, x.0, y.0, length-append xs ys),
  y.1 ∙ (ap (λ m. overlay m middle ys) x.1 ∙ (ap (λ k. overlay (overlay old at xs) k ys) x.0 ∙ overlay_more old at xs ys room)),
)

-- fields with more behind them
fields_append : (fs : List Field) (xs ys : List ℕ) → fields_then fs xs ++ ys ≡ fields_then fs (xs ++ ys)
fields_append [] xs ys = refl
fields_append (Number n ∷ fs) xs ys = ap (λ r. 44 ∷ r) (append_assoc (decimal n) (fields_then fs xs) ys ∙ ap (λ r. decimal n ++ r) (fields_append fs xs ys))
fields_append (Letter b ∷ fs) xs ys = ap (λ r. 44 ∷ b ∷ r) (fields_append fs xs ys)

pub event_append : (c : Call) (xs ys : List ℕ) → event_then c xs ++ ys ≡ event_then c (xs ++ ys)
event_append c xs ys = ap (λ r. (event_fields c).0 ∷ r) (fields_append (event_fields c).1 xs ys)

pub event_size_then : (c : Call) (b : ℕ) → length (event_then c (b ∷ [])) ≡ length (event_text c)
event_size_then c b =
    omega (arith, ap length (event_append c [] (b ∷ [])), ap length (event_append c [] (10 ∷ [])), length-append (event_then c []) (b ∷ []), length-append (event_then c []) (10 ∷ []))

pub ask_text : (t r : ℕ) (m : Mode) (b : ℕ) → mode_letter m ≡ b → (65 ∷ 44 ∷ (decimal t ++ (44 ∷ []))) ++ (decimal r ++ (44 ∷ b ∷ 44 ∷ [])) ≡ event_then (Ask t r m) (44 ∷ [])
ask_text t r m b e =
    ap (λ ds. 65 ∷ 44 ∷ ds) (append_assoc (decimal t) (44 ∷ []) (decimal r ++ (44 ∷ b ∷ 44 ∷ [])) ∙ ap (λ l. decimal t ++ (44 ∷ (decimal r ++ (44 ∷ l ∷ 44 ∷ [])))) (sym e))

-- the digits of a number of two digits, and of one of more, by its tenth
pub two_digits : (n : ℕ) → 10 ≤ n → n / 10 < 10 → decimal n ≡ (48 + n / 10) ∷ (48 + n % 10) ∷ []
two_digits n some few = decimal_step n some (omega arith) ∙ ap (λ ds. ds ++ ((48 + n % 10) ∷ [])) (decimal_digit (n / 10) few)

pub more_digits : (n : ℕ) → n < 2 ^ 64 → 10 ≤ n / 10 → decimal n ≡ decimal (n / 10 / 10) ++ ((48 + n / 10 % 10) ∷ (48 + n % 10) ∷ [])
more_digits n small many =
    decimal_step n (omega arith) small
    ∙ (ap (λ ds. ds ++ ((48 + n % 10) ∷ [])) (decimal_step (n / 10) many (omega arith)) ∙ append_assoc (decimal (n / 10 / 10)) ((48 + n / 10 % 10) ∷ []) ((48 + n % 10) ∷ []))
