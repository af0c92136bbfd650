-- A line and its letter and fields are each other's image.
use Rattle.std.proofs.Common.{◌≡◌, ℕ, zero, suc, ◌+◌, ◌%◌, ◌<◌, ◌≤◌, true, false, eqb, leb, List, [], ◌∷◌, ◌++◌, length, Some, None, decimal, Option, option_map, sym, refl, ap, ◌∙◌, subst, cond, append_assoc, arith, length-append}
use Rattle.std.proofs.lemmas.Fmt.{decimal_by_steps, length-decimal-le}
use Rattle.std.proofs.lemmas.Bool.{false≢true, and_right, lt-leb, and_parts, eqb-true, ne_eqb, cond_both, cond-true, cond-false, leb-true}
use Rattle.std.specs.Char.{is_ascii_digit, is_ascii_uppercase}
use Rattle.std.specs.Option.{option_and_then, option_or}
use Rattle.text.specs.Lines.{join_first, lines_of}
use Rattle.text.specs.Numbers.{read_number, no_digit, IsWritten}
use Rattle.text.specs.declared.field.Field.{Field}
use Rattle.text.specs.declared.field.Field.TheVariants.{Number, Letter}
use Rattle.text.specs.declared.field.TheConstants.{FIELDS}
use Rattle.text.specs.declared.number.TheConstants.{NUMBER_END}
use Rattle.text.specs.Fields.{fields_then, line_text, AreFields, IsImage, letter_field, read_field, is_newline, fields_in, fields_of, HasFields, of_none, of_number, of_three}
use Rattle.text.proofs.Numbers.{is_written, reads_back}

-- WHAT IS WRITTEN IS READ

plain_end : (fs : List Field) → no_digit (fields_then fs (10 ∷ [])) ≡ true
plain_end [] = refl
plain_end (Number n ∷ fs) = refl
plain_end (Letter b ∷ fs) = refl

-- a letter is no digit
no_number : (b : ℕ) (bs : List ℕ) → is_ascii_uppercase b ≡ true → read_number (b ∷ bs) ≡ None
no_number b bs e =
    let big : 65 ≤ b = leb-true 65 b (and_parts _ _ e).0 in
    let plain : is_ascii_digit b ≡ false = and_right (leb 48 b) (leb b 57) (lt-leb b 57 (omega arith)) in
    rw plain refl

back : (k : ℕ) (fs : List Field) → AreFields k fs → fields_in k (fields_then fs (10 ∷ [])) ≡ Some fs
back zero [] fit = refl
back (suc k) [] fit = refl
back zero (f ∷ fs) fit = absurd fit
back (suc k) (Number n ∷ fs) fit =
    let rest : List ℕ = fields_then fs (10 ∷ []) in
    ap (λ o. option_and_then (λ p. option_map (λ xs. p.0 ∷ xs) (fields_in k p.1)) (option_or (option_map (λ p. (Number p.0, p.1)) o) (letter_field (decimal n ++ rest)))) (reads_back n fit.0 rest (plain_end fs))
    ∙ ap (option_map (λ xs. Number n ∷ xs)) (back k fs fit.1)
back (suc k) (Letter b ∷ fs) fit =
    let rest : List ℕ = fields_then fs (10 ∷ []) in
    ap (λ o. option_and_then (λ p. option_map (λ xs. p.0 ∷ xs) (fields_in k p.1)) (option_or (option_map (λ p. (Number p.0, p.1)) o) (letter_field (b ∷ rest)))) (no_number b rest fit.0)
    ∙ (ap (option_and_then (λ p. option_map (λ xs. p.0 ∷ xs) (fields_in k p.1))) (cond-true _ _ _ fit.0)
    ∙ ap (option_map (λ xs. Letter b ∷ xs)) (back k fs fit.1))

abbrev of_letter : ℕ → Option (List Field) → Option (ℕ × List Field)
of_letter b o = option_map (λ fs. (b, fs)) o

fields_back : (l : ℕ × List Field) → AreFields FIELDS l.1 → fields_of (line_text l) ≡ Some l
fields_back l fit = ap (of_letter l.0) (back FIELDS l.1 fit)

-- WHAT IS READ WAS WRITTEN

abbrev FieldOf : List ℕ → Option (Field × List ℕ) → Type 0
FieldOf bs None = Unit {0}
FieldOf bs (Some p) = AreFields 1 (p.0 ∷ []) × (bs ≡ fields_then (p.0 ∷ []) p.1)

letter_of : (b : ℕ) (bs : List ℕ) → b ≡ 44 → FieldOf (b ∷ bs) (letter_field bs)
letter_of b [] e = tt
letter_of b (c ∷ bs) e = cond_both (is_ascii_uppercase c) _ None (FieldOf (b ∷ c ∷ bs)) (λ u. ((u, tt), ap (λ x. x ∷ c ∷ bs) e)) (λ _. tt)

number_of : (b : ℕ) (bs : List ℕ) (o : Option (ℕ × List ℕ)) → b ≡ 44 → IsWritten bs o → FieldOf (b ∷ bs) (option_or (option_map (λ p. (Number p.0, p.1)) o) (letter_field bs))
number_of b bs None e w = letter_of b bs e
number_of b bs (Some p) e w = let text = w.0 in ((w.1, tt), (cc))

field_of : (bs : List ℕ) → FieldOf bs (read_field bs)
field_of [] = tt
field_of (b ∷ bs) = cond_both (eqb b 44) _ None (FieldOf (b ∷ bs)) (λ e. number_of b bs (read_number bs) (eqb-true b 44 e) (is_written bs)) (λ _. tt)

newline_alone : (bs : List ℕ) → is_newline bs ≡ true → bs ≡ 10 ∷ []
newline_alone [] e = absurd (false≢true e)
newline_alone (b ∷ []) e = ap (λ c. c ∷ []) (eqb-true b 10 (and_parts _ _ e).0)
newline_alone (b ∷ c ∷ bs) e = let z : suc (length bs) ≡ 0 = eqb-true _ 0 (and_parts (eqb b 10) _ e).1 in absurd (omega arith)

abbrev FieldsOf : ℕ → List ℕ → Option (List Field) → Type 0
FieldsOf k bs None = Unit {0}
FieldsOf k bs (Some fs) = AreFields k fs × (bs ≡ fields_then fs (10 ∷ []))

one_more : (k : ℕ) (bs : List ℕ) (f : Field) (rest : List ℕ) → FieldOf bs (Some (f, rest)) → (o : Option (List Field)) → FieldsOf k rest o → FieldsOf (suc k) bs (option_map (λ fs. f ∷ fs) o)
one_more k bs f rest w None v = tt
one_more k bs (Number n) rest w (Some fs) v = ((w.0.0, v.0), w.1 ∙ ap (λ xs. 44 ∷ (decimal n ++ xs)) v.1)
one_more k bs (Letter b) rest w (Some fs) v = ((w.0.0, v.0), w.1 ∙ ap (λ xs. 44 ∷ b ∷ xs) v.1)

more_fields : (k : ℕ) (bs : List ℕ) → ((rest : List ℕ) → FieldsOf k rest (fields_in k rest)) → (o : Option (Field × List ℕ)) → FieldOf bs o → FieldsOf (suc k) bs (option_and_then (λ p. option_map (λ fs. p.0 ∷ fs) (fields_in k p.1)) o)
more_fields k bs rests None w = tt
more_fields k bs rests (Some p) w = one_more k bs p.0 p.1 w (fields_in k p.1) (rests p.1)

fields_read : (k : ℕ) (bs : List ℕ) → FieldsOf k bs (fields_in k bs)
fields_read zero bs = cond_both (is_newline bs) _ None (FieldsOf 0 bs) (λ e. (tt, newline_alone bs e)) (λ _. tt)
fields_read (suc k) bs = cond_both (is_newline bs) _ _ (FieldsOf (suc k) bs) (λ e. (tt, newline_alone bs e)) (λ _. more_fields k bs (fields_read k) (read_field bs) (field_of bs))

pub has_fields : (line : List ℕ) → HasFields line (fields_of line)
has_fields [] = λ l fit e. let z : 0 ≡ suc (length (fields_then l.1 (10 ∷ []))) = ap length e in omega arith
has_fields (b ∷ bs) = from (fields_in FIELDS bs) refl (fields_read FIELDS bs)
  where
    from : (o : Option (List Field)) → fields_in FIELDS bs ≡ o → FieldsOf FIELDS bs o → HasFields (b ∷ bs) (of_letter b o)
    from (Some fs) e w = (w.0, ap (λ xs. b ∷ xs) w.1)
    from None e w = λ l fit text.
        let z : None ≡ Some l = sym (ap (of_letter b) e) ∙ (ap fields_of text ∙ fields_back l fit) in
        let n : ◌≡◌ {A = ℕ} 0 1 = cc in
        omega arith

-- A TABLE OF FORMS

-- the letter and the fields that each thing is written as
module _ {A : Type 0} (form : A → ℕ × List Field) where
  -- what was made of a letter and fields is written as these
  abbrev pub Made : ℕ × List Field → Option A → Type 0
  Made l None = Unit {0}
  Made l (Some x) = form x ≡ l

  pub made_none : (b : ℕ) (x : A) → form x ≡ (b, []) → (fs : List Field) → Made (b, fs) (of_none x fs)
  made_none b x text [] = text
  made_none b x text (f ∷ fs) = tt

  pub made_number : (b : ℕ) (make : ℕ → A) → ((n : ℕ) → form (make n) ≡ (b, Number n ∷ [])) → (fs : List Field) → Made (b, fs) (of_number make fs)
  made_number b make text [] = tt
  made_number b make text (Number n ∷ []) = text n
  made_number b make text (Number n ∷ f ∷ fs) = tt
  made_number b make text (Letter a ∷ fs) = tt

  pub made_three : (b : ℕ) (make : ℕ → ℕ → ℕ → A) → ((m n k : ℕ) → form (make m n k) ≡ (b, Number m ∷ Number n ∷ Number k ∷ [])) → (fs : List Field) → Made (b, fs) (of_three make fs)
  made_three b make text [] = tt
  made_three b make text (Letter a ∷ fs) = tt
  made_three b make text (Number m ∷ []) = tt
  made_three b make text (Number m ∷ Letter a ∷ fs) = tt
  made_three b make text (Number m ∷ Number n ∷ []) = tt
  made_three b make text (Number m ∷ Number n ∷ Letter a ∷ fs) = tt
  made_three b make text (Number m ∷ Number n ∷ Number k ∷ []) = text m n k
  made_three b make text (Number m ∷ Number n ∷ Number k ∷ f ∷ fs) = tt

  -- a case of the table, and the cases behind it
  pub made_case : (l : ℕ × List Field) (b : ℕ) (o rest : Option A) → Made (b, l.1) o → Made l rest → Made l (cond (eqb l.0 b) o rest)
  made_case l b o rest here behind = cond_both (eqb l.0 b) o rest (Made l) (λ e. subst (λ a. Made (a, l.1) o) (sym (eqb-true l.0 b e)) here) (λ _. behind)

  -- what a table makes, and its line, are each other's image
  module _ (make : ℕ × List Field → Option A) (of_form : (x : A) → make (form x) ≡ Some x) where
    pub reads_form : (x : A) → AreFields FIELDS (form x).1 → option_and_then make (fields_of (line_text (form x))) ≡ Some x
    reads_form x fit = ap (option_and_then make) (fields_back (form x) fit) ∙ of_form x

    pub is_image : ((l : ℕ × List Field) → Made l (make l)) → (line : List ℕ) → IsImage form line (option_and_then make (fields_of line))
    is_image made line = from (fields_of line) (has_fields line)
      where
        found : (l : ℕ × List Field) → HasFields line (Some l) → (o : Option A) → make l ≡ o → Made l o → IsImage form line o
        found l w (Some x) e f = rw f w
        found l w None e f = λ x fit text.
            let z : None ≡ Some x = sym e ∙ (ap (option_and_then make) (sym (fields_back l w.0) ∙ ap fields_of (sym w.1 ∙ text)) ∙ reads_form x fit) in
            let n : ◌≡◌ {A = ℕ} 0 1 = cc in
            omega arith

        from : (o : Option (ℕ × List Field)) → HasFields line o → IsImage form line (option_and_then make o)
        from None w = λ x fit text. w (form x) fit text
        from (Some l) w = found l w (make l) refl (made l)

-- A LINE OF A TEXT

-- a number keeps to its line
number_line : (n : ℕ) (tail rest : List ℕ) → n < NUMBER_END → lines_of (tail ++ rest) ≡ tail ∷ lines_of rest → lines_of ((decimal n ++ tail) ++ rest) ≡ (decimal n ++ tail) ∷ lines_of rest
number_line n tail rest small =
    decimal_by_steps (λ n ds. (tail : List ℕ) → lines_of (tail ++ rest) ≡ tail ∷ lines_of rest → lines_of ((ds ++ tail) ++ rest) ≡ (ds ++ tail) ∷ lines_of rest)
    (λ n h tail e. digit_line n tail e)
    (λ n ds h before tail e. rw (append_assoc ds ((48 + n % 10) ∷ []) tail) (before ((48 + n % 10) ∷ tail) (digit_line (n % 10) tail e)))
    n (omega arith) tail
  where
    digit_line : (d : ℕ) (tail : List ℕ) → lines_of (tail ++ rest) ≡ tail ∷ lines_of rest → lines_of ((48 + d) ∷ (tail ++ rest)) ≡ ((48 + d) ∷ tail) ∷ lines_of rest
    digit_line d tail e = cond-false _ _ _ (ne_eqb (48 + d) 10 (λ z. omega arith)) ∙ ap (join_first (48 + d)) e

fields_line : (k : ℕ) (fs : List Field) (rest : List ℕ) → AreFields k fs → lines_of (fields_then fs (10 ∷ []) ++ rest) ≡ fields_then fs (10 ∷ []) ∷ lines_of rest
fields_line k [] rest fit = refl
fields_line zero (f ∷ fs) rest fit = absurd fit
fields_line (suc k) (Number n ∷ fs) rest fit = ap (join_first 44) (number_line n _ rest fit.0 (fields_line k fs rest fit.1))
fields_line (suc k) (Letter b ∷ fs) rest fit =
    let plain : eqb b 10 ≡ false = ne_eqb b 10 (λ z. omega (arith, leb-true 65 b (and_parts _ _ fit.0).0)) in
    ap (join_first 44) (cond-false _ _ _ plain ∙ ap (join_first b) (fields_line k fs rest fit.1))

-- the text of a letter and fields is one line
pub one_line : (l : ℕ × List Field) (rest : List ℕ) → eqb l.0 10 ≡ false → AreFields FIELDS l.1 → lines_of (line_text l ++ rest) ≡ line_text l ∷ lines_of rest
one_line l rest plain fit = cond-false _ _ _ plain ∙ ap (join_first l.0) (fields_line FIELDS l.1 rest fit)

-- HOW LONG A LINE IS

abbrev pub most_bytes : List Field → ℕ
most_bytes [] = 0
most_bytes (Number n ∷ fs) = 6 + most_bytes fs
most_bytes (Letter b ∷ fs) = 2 + most_bytes fs

pub number_bytes : (n : ℕ) → n < NUMBER_END → length (decimal n) ≤ 5
number_bytes n small = length-decimal-le 5 n (omega arith) (omega arith) (omega arith)

fields_bytes : (k : ℕ) (fs : List Field) (rest : List ℕ) → AreFields k fs → length (fields_then fs rest) ≤ most_bytes fs + length rest
fields_bytes k [] rest fit = omega arith
fields_bytes zero (f ∷ fs) rest fit = absurd fit
fields_bytes (suc k) (Number n ∷ fs) rest fit = omega (arith, number_bytes n fit.0, length-append (decimal n) (fields_then fs rest), fields_bytes k fs rest fit.1)
fields_bytes (suc k) (Letter b ∷ fs) rest fit = omega (arith, fields_bytes k fs rest fit.1)

pub line_bytes : (l : ℕ × List Field) → AreFields FIELDS l.1 → length (line_text l) ≤ 2 + most_bytes l.1
line_bytes l fit = omega (arith, fields_bytes FIELDS l.1 (10 ∷ []) fit)
