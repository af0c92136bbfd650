-- A line of a letter and fields: each field behind its comma, and then the newline.
use Rattle.std.specs.Prelude.{◌≡◌, ℕ, zero, suc, ◌<◌, Bool, true, false, cond, ◌&&◌, ⊤}
use Rattle.std.specs.Prelude.{List, [], ◌∷◌, ◌++◌}
use Rattle.std.specs.Prelude.{length, Some, None, Option, option_map, codes, decimal, ◌==◌, ◌≢◌}
use Prim.Native.Char.{code}
use Rattle.std.specs.Char.{is_ascii_uppercase}
use Rattle.std.specs.Option.{option_and_then, option_or}
use Rattle.text.specs.Numbers.{read_number}
use Rattle.text.specs.declared.field.Field.{Field}
use Rattle.text.specs.declared.field.Field.TheVariants.{Number, Letter}
use Rattle.text.specs.declared.field.TheConstants.{FIELDS}
use Rattle.text.specs.declared.number.TheConstants.{NUMBER_END}

-- fields as they are written, and what stands behind them
abbrev pub fields_then : List Field → List ℕ → List ℕ
fields_then [] rest = rest
fields_then (Number n ∷ fs) rest = code "," ∷ (decimal n ++ fields_then fs rest)
fields_then (Letter b ∷ fs) rest = code "," ∷ b ∷ fields_then fs rest

-- the line of a letter and fields, with its newline
abbrev pub line_text : ℕ × List Field → List ℕ
line_text l = l.0 ∷ fields_then l.1 (codes "\n")

-- at most k fields; a number has at most five digits, and a letter is one from A to Z
abbrev pub AreFields : ℕ → List Field → Type 0
AreFields k [] = ⊤
AreFields zero (f ∷ fs) = ⊥
AreFields (suc k) (Number n ∷ fs) = (n < NUMBER_END) × AreFields k fs
AreFields (suc k) (Letter b ∷ fs) = (is_ascii_uppercase b ≡ true) × AreFields k fs

-- a field at the head of a text, with the rest
abbrev pub number_field : List ℕ → Option (Field × List ℕ)
number_field bs = option_map (λ p. (Number p.0, p.1)) (read_number bs)

abbrev pub letter_field : List ℕ → Option (Field × List ℕ)
letter_field [] = None
letter_field (b ∷ bs) = cond (is_ascii_uppercase b) (Some (Letter b, bs)) None

-- a comma, and the field behind it with the rest
abbrev pub read_field : List ℕ → Option (Field × List ℕ)
read_field [] = None
read_field (b ∷ bs) = cond (b == code ",") (option_or (number_field bs) (letter_field bs)) None

-- a newline and nothing else
abbrev pub is_newline : List ℕ → Bool
is_newline [] = false
is_newline (b ∷ bs) = b == code "\n" && length bs == 0

-- at most k fields and the newline
abbrev pub fields_in : ℕ → List ℕ → Option (List Field)
fields_in zero bs = cond (is_newline bs) (Some []) None
fields_in (suc k) bs =
    cond (is_newline bs) (Some [])
    (option_and_then (λ p. option_map (λ fs. p.0 ∷ fs) (fields_in k p.1)) (read_field bs))

-- the letter and the fields of a line
abbrev pub fields_of : List ℕ → Option (ℕ × List Field)
fields_of [] = None
fields_of (b ∷ bs) = option_map (λ fs. (b, fs)) (fields_in FIELDS bs)

-- a line and what was read of it are each other's image, where `form` gives the letter and the fields
-- of a thing: what was read is written as the line, and where nothing was read, nothing is
abbrev pub IsImage : {A : Type 0} → (A → ℕ × List Field) → List ℕ → Option A → Type 0
IsImage {A} form line None = (x : A) → AreFields FIELDS (form x).1 → line ≢ line_text (form x)
IsImage form line (Some x) = AreFields FIELDS (form x).1 × (line ≡ line_text (form x))

-- the same of the letter and the fields themselves
abbrev pub HasFields : List ℕ → Option (ℕ × List Field) → Type 0
HasFields line o = IsImage (λ l. l) line o

-- what is made of no field, of a number, and of three numbers; nothing of other fields
abbrev pub of_none : {A : Type 0} → A → List Field → Option A
of_none x [] = Some x
of_none x (f ∷ fs) = None

abbrev pub of_number : {A : Type 0} → (ℕ → A) → List Field → Option A
of_number make (Number a ∷ []) = Some (make a)
of_number make fs = None

abbrev pub of_three : {A : Type 0} → (ℕ → ℕ → ℕ → A) → List Field → Option A
of_three make (Number a ∷ Number b ∷ Number c ∷ []) = Some (make a b c)
of_three make fs = None
