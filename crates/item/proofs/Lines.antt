-- An item and its line are each other's image.
use Rattle.std.proofs.Common.{◌≡◌, ℕ, List, ◌∷◌, ◌++◌, Some, None, refl}
use Rattle.text.specs.Lines.{lines_of}
use Rattle.text.specs.declared.field.Field.{Field}
use Rattle.text.proofs.Images.{Made, made_none, made_number, made_three, made_case, reads_form, is_image, one_line}
use Rattle.item.specs.declared.item.Item.{Item}
use Rattle.item.specs.declared.item.Item.TheVariants.{Cluster, Slots, ReaderWriter, Task, Length}
use Rattle.item.specs.Lines.{item_fields, item_text, item_of, read_item, Writable, IsLineOf, ReadsBack}

item_of_fields : (i : Item) → item_of (item_fields i) ≡ Some i
item_of_fields (Cluster c) = refl
item_of_fields (Slots k) = refl
item_of_fields ReaderWriter = refl
item_of_fields (Task g) = refl
item_of_fields (Length t r n) = refl

pub read_back : (i : Item) → ReadsBack i
read_back i small = reads_form item_fields item_of item_of_fields i small

made : (l : ℕ × List Field) → Made item_fields l (item_of l)
made l =
    made_case item_fields l 67 _ _ (made_number item_fields 67 Cluster (λ n. refl) l.1)
    (made_case item_fields l 83 _ _ (made_number item_fields 83 Slots (λ n. refl) l.1)
    (made_case item_fields l 87 _ _ (made_none item_fields 87 ReaderWriter refl l.1)
    (made_case item_fields l 84 _ _ (made_number item_fields 84 Task (λ n. refl) l.1)
    (made_case item_fields l 76 _ None (made_three item_fields 76 Length (λ m n k. refl) l.1) tt))))

pub is_line_of : (line : List ℕ) → IsLineOf line (read_item line)
is_line_of line = is_image item_fields item_of item_of_fields made line

-- an item's text is one line
pub item_line : (i : Item) (rest : List ℕ) → Writable i → lines_of (item_text i ++ rest) ≡ item_text i ∷ lines_of rest
item_line (Cluster c) rest small = one_line (item_fields (Cluster c)) rest refl small
item_line (Slots k) rest small = one_line (item_fields (Slots k)) rest refl small
item_line ReaderWriter rest small = one_line (item_fields ReaderWriter) rest refl small
item_line (Task g) rest small = one_line (item_fields (Task g)) rest refl small
item_line (Length t r n) rest small = one_line (item_fields (Length t r n)) rest refl small
