-- An item of a plan and its line: the five forms.
use Rattle.std.specs.Prelude.{◌≡◌, ℕ, cond, List, [], ◌∷◌, ◌==◌}
use Rattle.std.specs.Prelude.{Some, None, Ok, Err, Option, Result, is_some}
use Prim.Native.Char.{code}
use Rattle.std.specs.Option.{option_and_then}
use Rattle.text.specs.Fields.{AreFields, IsImage, fields_of, line_text, of_none, of_number, of_three}
use Rattle.text.specs.Questions.{Question, ask, first_no}
use Rattle.text.specs.Refusals.{number}
use Rattle.text.specs.declared.field.Field.{Field}
use Rattle.text.specs.declared.field.Field.TheVariants.{Number}
use Rattle.text.specs.declared.field.TheConstants.{FIELDS}
use Rattle.text.specs.declared.refusal.Refusal.{Refusal}
use Rattle.item.specs.declared.item.Item.{Item}
use Rattle.item.specs.declared.item.Item.TheVariants.{Cluster, Slots, ReaderWriter, Task, Length}

-- the letter and the fields that an item is written as
abbrev pub item_fields : Item → ℕ × List Field
item_fields (Cluster c) = (code "C", Number c ∷ [])
item_fields (Slots k) = (code "S", Number k ∷ [])
item_fields ReaderWriter = (code "W", [])
item_fields (Task g) = (code "T", Number g ∷ [])
item_fields (Length t r n) = (code "L", Number t ∷ Number r ∷ Number n ∷ [])

-- the line that an item is written as
abbrev pub item_text : Item → List ℕ
item_text i = line_text (item_fields i)

-- the item that a letter and fields are; the letter decides the form
abbrev pub item_of : ℕ × List Field → Option Item
item_of l =
    cond (l.0 == code "C") (of_number Cluster l.1)
    (cond (l.0 == code "S") (of_number Slots l.1)
    (cond (l.0 == code "W") (of_none ReaderWriter l.1)
    (cond (l.0 == code "T") (of_number Task l.1)
    (cond (l.0 == code "L") (of_three Length l.1) None))))

-- the item that a line is
abbrev pub read_item : List ℕ → Option Item
read_item line = option_and_then item_of (fields_of line)

-- has the line one of the five forms?
abbrev pub form_questions : Option Item → List Question
form_questions item = ask 16 (is_some item) ∷ []

-- every number of an item has at most five digits
abbrev pub Writable : Item → Type 0
Writable i = AreFields FIELDS (item_fields i).1

-- a line and the item that was read of it are each other's image: the item is written as the line,
-- and where none was read, no item is
abbrev pub IsLineOf : List ℕ → Option Item → Type 0
IsLineOf line item = IsImage item_fields line item

-- the line that an item is written as is read as that item
abbrev pub ReadsBack : Item → Type 0
ReadsBack i = Writable i → read_item (item_text i) ≡ Some i

-- a line is taken for its item, or refused by its question
abbrev pub ReadsItem : List ℕ → Result Item Refusal → Type 0
ReadsItem line (Ok i) =
    (first_no (form_questions (read_item line)) ≡ None)
    × (read_item line ≡ Some i)
    × IsLineOf line (Some i)
ReadsItem line (Err why) =
    (first_no (form_questions (read_item line)) ≡ Some (number why))
    × (read_item line ≡ None)
    × IsLineOf line None
