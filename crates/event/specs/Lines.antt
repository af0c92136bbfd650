-- A call and its event line: the five forms.
use Rattle.std.specs.Prelude.{◌≡◌, ℕ, cond, List, [], ◌∷◌, ◌==◌}
use Rattle.std.specs.Prelude.{is_some, Some, None, Ok, Err, Option, Result, option_map}
use Prim.Native.Char.{code}
use Rattle.std.specs.Option.{option_and_then}
use Rattle.text.specs.Fields.{AreFields, IsImage, fields_of, fields_then, line_text, of_none, of_number}
use Rattle.text.specs.Questions.{Question, ask, first_no}
use Rattle.text.specs.Refusals.{number}
use Rattle.text.specs.declared.field.Field.{Field}
use Rattle.text.specs.declared.field.Field.TheVariants.{Number, Letter}
use Rattle.text.specs.declared.field.TheConstants.{FIELDS}
use Rattle.text.specs.declared.refusal.Refusal.{Refusal}
use Rattle.bank.specs.declared.request.Mode.{Mode}
use Rattle.bank.specs.declared.request.Mode.TheVariants.{Write, Read}
use Rattle.rules.specs.declared.call.Call.{Call}
use Rattle.rules.specs.declared.call.Call.TheVariants.{Release, Ask, Give, Finish, Tick}

-- the letter of a mode
abbrev pub mode_letter : Mode → ℕ
mode_letter Write = code "W"
mode_letter Read = code "R"

-- the letter and the fields that a call is written as
abbrev pub event_fields : Call → ℕ × List Field
event_fields (Release t) = (code "N", Number t ∷ [])
event_fields (Ask t r m) = (code "A", Number t ∷ Number r ∷ Letter (mode_letter m) ∷ [])
event_fields (Give t) = (code "G", Number t ∷ [])
event_fields (Finish t) = (code "F", Number t ∷ [])
event_fields Tick = (code "K", [])

-- a call as it is written, and what stands behind it
abbrev pub event_then : Call → List ℕ → List ℕ
event_then c rest = (event_fields c).0 ∷ fields_then (event_fields c).1 rest

-- the line that a call is written as, with its newline
abbrev pub event_text : Call → List ℕ
event_text c = line_text (event_fields c)

-- the mode that a letter is
abbrev pub mode_of : ℕ → Option Mode
mode_of b = cond (b == code "W") (Some Write) (cond (b == code "R") (Some Read) None)

-- the ask that two numbers and the letter of a mode are
abbrev pub of_ask : List Field → Option Call
of_ask (Number t ∷ Number r ∷ Letter b ∷ []) = option_map (Ask t r) (mode_of b)
of_ask fs = None

-- the call that a letter and fields are; the letter decides the form
abbrev pub event_of_fields : ℕ × List Field → Option Call
event_of_fields l =
    cond (l.0 == code "N") (of_number Release l.1)
    (cond (l.0 == code "A") (of_ask l.1)
    (cond (l.0 == code "G") (of_number Give l.1)
    (cond (l.0 == code "F") (of_number Finish l.1)
    (cond (l.0 == code "K") (of_none Tick l.1) None))))

-- the call that a line is
abbrev pub read_event : List ℕ → Option Call
read_event line = option_and_then event_of_fields (fields_of line)

-- every number of a call has at most five digits
abbrev pub Writable : Call → Type 0
Writable c = AreFields FIELDS (event_fields c).1

-- a line and the call that was read of it are each other's image: the call is written as the line,
-- and where none was read, no call is
abbrev pub IsLineOf : List ℕ → Option Call → Type 0
IsLineOf line call = IsImage event_fields line call

-- is the line an event?
abbrev pub event_questions : List ℕ → List Question
event_questions line = ask 21 (is_some (read_event line)) ∷ []

-- the call of a line was read, or the line is refused
abbrev pub ReadsEvent : List ℕ → Result Call Refusal → Type 0
ReadsEvent line (Ok c) = (first_no (event_questions line) ≡ None) × (read_event line ≡ Some c)
ReadsEvent line (Err why) = first_no (event_questions line) ≡ Some (number why)
