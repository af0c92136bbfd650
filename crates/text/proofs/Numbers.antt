-- Numbers read and written are each other's image.
use Rattle.std.proofs.Common.{◌≡◌, ℕ, ◌+◌, ◌-◌, ◌*◌, ◌^◌, ◌<◌, ◌≤◌, true, false, cond, not, ◌||◌, eqb, ltb, leb, List, [], ◌∷◌, ◌++◌, length, get_or, take, drop, Some, None, decimal, fold, Option, sym, refl, ap, ◌∙◌, ⊎_elim, one-add, arith, rules}
use Rattle.std.specs.Char.{is_ascii_digit}
use Rattle.std.specs.List.{prefix_len}
use Rattle.std.specs.Str.{all_ascii_digits}
use Rattle.std.proofs.lemmas.Fmt.{decimal-digits_value, digits_decimal, digits_value-decimal, decimal_nonempty, length-decimal-le, first_decimal, decimal_digit}
use Rattle.std.proofs.lemmas.List.{take-append-drop, length-take-le, get_or-take, take_at, drop_at, get_or_append_left}
use Rattle.std.proofs.lemmas.Str.Parse.{IsNumeralModel, numerals_by_fold, tells_all_ascii_digits, digits_value_short}
use Rattle.std.proofs.lemmas.List.Sums.{prefix_len-le-length}
use Rattle.std.proofs.lemmas.Bool.{and_parts, or_cases, not-true, ltb-true, leb-true, eqb-true, eqb-false, lt-ltb, le-leb, eq-eqb, ne_eqb, cond_both, cond-true, cond-false, cases_eq, and_from, or_left, or_right, not_from_false}
use Rattle.text.specs.Numbers.{value_of, is_number, read_number, no_digit, IsWritten, ReadsBack}

own : IsNumeralModel (λ ds. all_ascii_digits ds ≡ true) value_of
own = numerals_by_fold (λ ds. all_ascii_digits ds ≡ true) tells_all_ascii_digits (λ n ds. fold (λ m c. 10 * m + (c - 48)) n ds) (search rules)

-- the digits at the head are digits, and none follows
head_digits : (xs : List ℕ) → all_ascii_digits (take (prefix_len is_ascii_digit xs) xs) ≡ true
head_digits [] = refl
head_digits (x ∷ xs) =
    elim (is_ascii_digit x) as (λ b. is_ascii_digit x ≡ b → all_ascii_digits (take (cond b (1 + prefix_len is_ascii_digit xs) 0) (x ∷ xs)) ≡ true) [
      | true ↦ λ e. rw one-add (and_from (is_ascii_digit x) _ e (head_digits xs))
      | false ↦ λ e. refl
    ] refl

rest_no_digit : (xs : List ℕ) → no_digit (drop (prefix_len is_ascii_digit xs) xs) ≡ true
rest_no_digit [] = refl
rest_no_digit (x ∷ xs) =
    elim (is_ascii_digit x) as (λ b. is_ascii_digit x ≡ b → no_digit (drop (cond b (1 + prefix_len is_ascii_digit xs) 0) (x ∷ xs)) ≡ true) [
      | true ↦ λ e. rw one-add (rest_no_digit xs)
      | false ↦ λ e. not_from_false _ e
    ] refl

leading_front : (ds rest : List ℕ) → all_ascii_digits ds ≡ true → no_digit rest ≡ true → prefix_len is_ascii_digit (ds ++ rest) ≡ length ds
leading_front [] [] d e = refl
leading_front [] (r ∷ rest) d e = cond-false _ _ _ (not-true _ e)
leading_front (x ∷ xs) rest d e = let p = and_parts (is_ascii_digit x) (all_ascii_digits xs) d in cond-true _ _ _ p.0 ∙ (ap (λ n. 1 + n) (leading_front xs rest p.1 e) ∙ one-add (length xs))

module _ (xs : List ℕ) where
  written_number : is_number xs (prefix_len is_ascii_digit xs) ≡ true → IsWritten xs (Some (value_of (take (prefix_len is_ascii_digit xs) xs), drop (prefix_len is_ascii_digit xs) xs))
  written_number e =
      let n : ℕ = prefix_len is_ascii_digit xs in
      let ds : List ℕ = take n xs in
      let a = and_parts (ltb 0 n) _ e in
      let b = and_parts (leb n 5) _ a.1 in
      let some : 0 < n = ltb-true 0 n a.0 in
      let few : n ≤ 5 = leb-true n 5 b.0 in
      let long : length ds ≡ n = length-take-le n xs (prefix_len-le-length is_ascii_digit xs) in
      let first : get_or ds 0 0 ≡ get_or xs 0 0 = get_or-take n xs 0 0 some in
      let alone : get_or ds 0 0 ≡ 48 → length ds ≡ 1 = λ z. ⊎_elim (λ t. absurd (eqb-false (get_or xs 0 0) 48 (not-true _ t) (sym first ∙ z))) (λ t. long ∙ eqb-true n 1 t) (or_cases _ _ b.1) in
      let small : value_of ds < 100000 = digits_value_short own ds 5 (head_digits xs) (omega arith) in
      let text : decimal (value_of ds) ≡ ds = decimal-digits_value own ds (head_digits xs) (omega arith) alone (omega arith) in
      (sym (take-append-drop n xs) ∙ ap (λ ys. ys ++ drop n xs) (sym text), small, rest_no_digit xs)

pub is_written : (xs : List ℕ) → IsWritten xs (read_number xs)
is_written xs = cond_both (is_number xs (prefix_len is_ascii_digit xs)) _ _ (IsWritten xs) (written_number xs) (λ e. tt)

-- a number's first digit is 0 only in 0
zero_alone : (n : ℕ) (rest : List ℕ) → n < 100000 → (not (eqb (get_or (decimal n ++ rest) 0 0) 48) || eqb (length (decimal n)) 1) ≡ true
zero_alone n rest small =
    ⊎_elim
    (λ z. or_right _ _ (eq-eqb _ 1 (ap length (decimal_digit n (omega arith)))))
    (λ nz.
    let far : n < 2 ^ 64 = omega arith in
    let first : get_or (decimal n ++ rest) 0 0 ≡ get_or (decimal n) 0 0 = get_or_append_left (decimal n) rest 0 0 (decimal_nonempty n far) in
    let big : 48 < get_or (decimal n) 0 0 = first_decimal n (omega arith) far in
    or_left _ _ (not_from_false _ (ne_eqb (get_or (decimal n ++ rest) 0 0) 48 (λ e. omega arith))))
    (cases_eq n 0)

pub reads_back : (n : ℕ) → ReadsBack n
reads_back n small rest e =
    let far : n < 2 ^ 64 = omega arith in
    let d : List ℕ = decimal n in
    let front : prefix_len is_ascii_digit (d ++ rest) ≡ length d = leading_front d rest (digits_decimal own n far) e in
    let some : 0 < length d = decimal_nonempty n far in
    let few : length d ≤ 5 = length-decimal-le 5 n (omega arith) (omega arith) far in
    let number : is_number (d ++ rest) (length d) ≡ true = and_from _ _ (lt-ltb 0 (length d) some) (and_from _ _ (le-leb (length d) 5 few) (zero_alone n rest small)) in
    let head : take (length d) (d ++ rest) ≡ d = take_at d rest (length d) refl in
    let tail : drop (length d) (d ++ rest) ≡ rest = drop_at d rest (length d) refl in
    let at : ℕ → Option (ℕ × List ℕ) = λ k. cond (is_number (d ++ rest) k) (Some (value_of (take k (d ++ rest)), drop k (d ++ rest))) None in
    ap at front ∙ (cond-true _ _ _ number ∙ (ap (λ ys. Some (value_of ys, drop (length d) (d ++ rest))) head ∙ (ap (λ ys. Some (value_of d, ys)) tail ∙ ap (λ k. Some (k, rest)) (digits_value-decimal own n far))))
