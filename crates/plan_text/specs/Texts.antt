-- Whole texts: what they are read as, and the text of a plan.
use Rattle.std.specs.Prelude.{◌≡◌, ℕ, ◌+◌, List, [], ◌∷◌, map}
use Rattle.std.specs.Prelude.{Some, None, Ok, Err, Option, Result, ◌≢◌}
use Rattle.std.specs.List.{flat_map}
use Rattle.item.specs.Lines.{item_text, read_item}
use Rattle.item.specs.declared.item.Item.{Item}
use Rattle.plan.specs.Adding.{empty, added, line_questions, seal_questions}
use Rattle.plan.specs.Contents.{Contents, items_of}
use Rattle.plan.specs.Of.{plan_contents}
use Rattle.plan.specs.declared.draft.Refused.{Refused}
use Rattle.plan.specs.declared.plan.Plan.{Plan}
use Rattle.text.specs.Lines.{lines_of}
use Rattle.text.specs.Questions.{first_no}
use Rattle.text.specs.Refusals.{number}

-- the lines of a row of items
abbrev pub row_text : List Item → List ℕ
row_text is = flat_map item_text is

-- the text of a plan: the lines of its items, in order
abbrev pub plan_text : Contents → List ℕ
plan_text c = row_text (items_of c)

-- what a text is read as: what it says, or the number of the question answered no with its line
abbrev pub Verdict : Type 0
Verdict = Result Contents (ℕ × ℕ)

-- where a question is answered no, that decides at this line; else the rest does
abbrev pub decide : Option ℕ → ℕ → Verdict → Verdict
decide None line rest = rest
decide (Some question) line rest = Err (question, line)

-- contents after a line
abbrev pub grown : Contents → Option Item → Contents
grown c None = c
grown c (Some i) = added c i

-- lines are taken one by one, and then the draft is sealed
abbrev pub judge : Contents → ℕ → List (Option Item) → Verdict
judge c line [] = decide (first_no (seal_questions c)) line (Ok c)
judge c line (i ∷ is) =
    decide (first_no (line_questions c i)) line (judge (grown c i) (line + 1) is)

abbrev pub read_text : List ℕ → Verdict
read_text text = judge empty 1 (map read_item (lines_of text))

-- the place of a plan holds what the text says, or it is as it was and the answer is the refusal
abbrev pub ReadsText : List ℕ → Plan → Result (Unit {0}) Refused → Plan → Type 0
ReadsText text old (Ok done) new = read_text text ≡ Ok (plan_contents new)
ReadsText text old (Err why) new =
    (read_text text ≡ Err (number why.refusal, why.line)) × (new ≡ old)

-- an accepted text is exactly the text of the plan that it became, and of no other plan;
-- a refused text is no plan's text
abbrev pub IsTextOf : List ℕ → Result (Unit {0}) Refused → Plan → Type 0
IsTextOf text (Ok done) new =
    (text ≡ plan_text (plan_contents new))
    × ((p : Plan) → text ≡ plan_text (plan_contents p) → p ≡ new)
IsTextOf text (Err why) new = (p : Plan) → text ≢ plan_text (plan_contents p)

-- the text of a plan is accepted and says what the plan says
abbrev pub ReadsBack : Plan → Type 0
ReadsBack p = read_text (plan_text (plan_contents p)) ≡ Ok (plan_contents p)
