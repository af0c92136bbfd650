-- What the questions put to an item tell.
use Rattle.std.proofs.Common.{◌≡◌, ℕ, true, [], ◌∷◌, Some, None, Option}
use Rattle.item.specs.Lines.{form_questions}
use Rattle.item.specs.declared.item.Item.{Item}
use Rattle.text.specs.Questions.{ask, first_no}
use Rattle.text.proofs.Questions.{all_yes}
use Rattle.plan.specs.Adding.{in_order, in_limits, has_room, entry_questions, line_questions}
use Rattle.plan.specs.Contents.{Contents}
use Rattle.plan.specs.declared.entry.Entry.{Entry}

-- an entry that is taken is in order, in its limits, and has room
pub passes : (c : Contents) (e : Entry) → first_no (entry_questions c e) ≡ None → (in_order c e ≡ true) × (in_limits c e ≡ true) × (has_room c e ≡ true)
passes c e h =
    let a = all_yes 17 (in_order c e) (ask 18 (in_limits c e) ∷ ask 19 (has_room c e) ∷ []) h in
    let b = all_yes 18 (in_limits c e) (ask 19 (has_room c e) ∷ []) a.1 in
    (a.0, b.0, (all_yes 19 (has_room c e) [] b.1).0)

-- a line that is refused by its form is so by all questions put to it
pub form_refused : (c : Contents) (item : Option Item) (q : ℕ) → first_no (form_questions item) ≡ Some q → first_no (line_questions c item) ≡ Some q
form_refused c None q e = e
form_refused c (Some i) q e = absurd (cc)
