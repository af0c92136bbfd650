-- An event, that is a call with its answer, and the line that is printed of it.
use Rattle.std.specs.Prelude.{ℕ, Bool, true, false, List, [], ◌∷◌, ◌++◌, length}
use Rattle.std.specs.Prelude.{Some, None, Option, codes, decimal}
use Prim.Native.Char.{code}
use Rattle.rules.specs.Answers.{call_of}
use Rattle.rules.specs.Refusals.{number, task_named}
use Rattle.rules.specs.declared.answer.Asked.{Asked}
use Rattle.rules.specs.declared.answer.Asked.TheVariants.{Hold, Wait, Back}
use Rattle.rules.specs.declared.answer.Finished.{Finished}
use Rattle.rules.specs.declared.answer.Issued.{Issued}
use Rattle.rules.specs.declared.call.Call.{Call}
use Rattle.rules.specs.declared.event.Acceptance.{Acceptance}
use Rattle.rules.specs.declared.event.Acceptance.TheVariants.{Release, Ask, Give, Finish, Tick}
use Rattle.rules.specs.declared.event.Event.{Event}
use Rattle.rules.specs.declared.event.Event.TheVariants.{Accepted, Refused}
use Rattle.rules.specs.declared.refusal.Refusal.{Refusal}
use Rattle.text.specs.Refusals.{number as number_of}
use Rattle.text.specs.declared.refusal.Refusal.{Refusal as Unread}
use Rattle.event.specs.Lines.{event_then, event_text}

-- the call of an event
abbrev pub event_call : Event → Call
event_call (Accepted x) = call_of x
event_call (Refused call why) = call

-- the task that a refusal names, if it names one, and the newline
abbrev pub named_text : Option ℕ → List ℕ
named_text None = codes "\n"
named_text (Some t) = code "," ∷ (decimal t ++ codes "\n")

-- a refusal: `no,` and its number, with `,` the task that it names
abbrev pub refused_text : Refusal → List ℕ
refused_text why = codes "no," ++ (decimal (number why) ++ named_text (task_named why))

abbrev pub number_text : ℕ → List ℕ
number_text n = decimal n ++ codes "\n"

abbrev pub asked_text : Asked → List ℕ
asked_text Hold = codes "hold\n"
asked_text Wait = codes "wait\n"
asked_text Back = codes "back\n"

-- whether a request holds or waits
abbrev pub holds_text : Bool → List ℕ
holds_text true = codes ",hold\n"
holds_text false = codes ",wait\n"

-- the request that a finish issued: its task `,` `hold` or `wait`, or `-`
abbrev pub issued_text : Option Issued → List ℕ
issued_text None = codes "-\n"
issued_text (Some i) = decimal i.task ++ holds_text i.holds

abbrev pub finished_text : Finished → List ℕ
finished_text f = decimal f.blocked ++ (code "," ∷ issued_text f.issued)

-- the answer to an accepted call
abbrev pub accepted_text : Acceptance → List ℕ
accepted_text (Release t n) = number_text n
accepted_text (Ask t r m x) = asked_text x
accepted_text (Give t n) = number_text n
accepted_text (Finish t f) = finished_text f
accepted_text (Tick n) = number_text n

-- the printed line: the call, a comma and the answer
abbrev pub line_text : Event → List ℕ
line_text (Accepted x) = event_then (call_of x) (code "," ∷ accepted_text x)
line_text (Refused call why) = event_then call (code "," ∷ refused_text why)

-- the calls that a line with its answer stands for, one after another: today one
abbrev pub calls_of : Event → List Event
calls_of answer = answer ∷ []

-- what is printed of a line that is no event: `?,no,` and the number of its refusal
abbrev pub unreadable_text : Unread → List ℕ
unreadable_text why = codes "?,no," ++ (decimal (number_of why) ++ codes "\n")

-- the size of the line of an event's call
abbrev pub event_size : Event → ℕ
event_size e = length (event_text (event_call e))
