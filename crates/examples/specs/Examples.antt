-- What it means that each worked example holds.
use Rattle.std.specs.Prelude.{◌≡◌, ℕ, List, [], ◌∷◌, ◌++◌, true, false, Some, None, Err, codes}
use Rattle.std.specs.Prelude.{Option}
use Rattle.std.specs.List.{AllByRecursion, Contains}
use Rattle.bank.specs.declared.request.Mode.TheVariants.{Write, Read}
use Rattle.bank.specs.declared.request.Request.{Request}
use Rattle.item.specs.Lines.{read_item}
use Rattle.plan.specs.Adding.{empty, line_questions}
use Rattle.plan.specs.Contents.{Contents}
use Rattle.plan.specs.declared.resource.Resource.TheVariants.{Slots, ReaderWriter}
use Rattle.plan_text.specs.Texts.{read_text}
use Rattle.text.specs.Questions.{first_no}
use Rattle.examples.specs.Banks.{SlotsWork, WritersWork}
use Rattle.examples.specs.Run.{text as run_text, plan as run_plan, valve_steps}
use Rattle.examples.specs.Steps.{Step, enters, leaves, holder, waiter}
use Rattle.examples.specs.declared.example.Example.{Example}
use Rattle.examples.specs.declared.example.Example.TheVariants.{NoLines, NoNewline}
use Rattle.examples.specs.declared.example.Example.TheVariants.{EightProcessors, NineProcessors}
use Rattle.examples.specs.declared.example.Example.TheVariants.{LeadingZero}
use Rattle.examples.specs.declared.example.Example.TheVariants.{SlotsEntered, SlotsLeft}
use Rattle.examples.specs.declared.example.Example.TheVariants.{ReadsAndWrite, ReadLeft}
use Rattle.examples.specs.declared.example.Example.TheVariants.{ThreeWrites, WorkedRun}

-- a whole text is refused, by a question and at a line
abbrev pub IsRefused : List ℕ → ℕ → ℕ → Type 0
IsRefused text question line = read_text text ≡ Err (question, line)

-- a line, without its newline, put to an empty draft, and the question that refuses it, if any
abbrev pub IsAnswered : List ℕ → Option ℕ → Type 0
IsAnswered line question =
    first_no (line_questions empty (read_item (line ++ 10 ∷ []))) ≡ question

-- slots for two with five seats
abbrev pub slots_text : List ℕ
slots_text = codes "C,5\nS,2\nT,0\n"

abbrev pub slots_plan : Contents
slots_plan =
    record { clusters = 5 ∷ []; resources = Slots 2 ∷ []; tasks = 0 ∷ []; lengths = [] }

abbrev pub two_hold : List Request
two_hold = holder 0 Write ∷ holder 1 Write ∷ []

abbrev pub two_wait : List Request
two_wait = waiter 2 Write 1 1 ∷ waiter 3 Write 1 2 ∷ []

-- parties 0 to 4 enter
abbrev pub five : List Step
five =
    enters 0 Write true (holder 0 Write ∷ [])
    ∷ enters 1 Write true two_hold
    ∷ enters 2 Write false (two_hold ++ waiter 2 Write 1 1 ∷ [])
    ∷ enters 3 Write false (two_hold ++ two_wait)
    ∷ enters 4 Write false (two_hold ++ two_wait ++ waiter 4 Write 2 1 ∷ [])
    ∷ []

-- and then 0 leaves
abbrev pub one_left : List Request
one_left = holder 1 Write ∷ holder 2 Write ∷ waiter 3 Write 1 1 ∷ waiter 4 Write 1 2 ∷ []

abbrev pub five_and_leave : List Step
five_and_leave = five ++ leaves 0 one_left ∷ []

-- a reader-writer resource with three seats
abbrev pub writers_text : List ℕ
writers_text = codes "C,3\nW\nT,0\n"

abbrev pub writers_plan : Contents
writers_plan =
    record { clusters = 3 ∷ []; resources = ReaderWriter ∷ []; tasks = 0 ∷ []; lengths = [] }

-- 0 reads, 1 writes, 2 reads
abbrev pub mixed : List Step
mixed =
    enters 0 Read true (holder 0 Read ∷ [])
    ∷ enters 1 Write false (holder 0 Read ∷ waiter 1 Write 1 1 ∷ [])
    ∷ enters 2 Read false (holder 0 Read ∷ waiter 1 Write 1 1 ∷ waiter 2 Read 2 1 ∷ [])
    ∷ []

-- and then 0 leaves
abbrev pub mixed_and_leave : List Step
mixed_and_leave = mixed ++ leaves 0 (holder 1 Write ∷ waiter 2 Read 1 1 ∷ []) ∷ []

-- 0, 1 and 2 write
abbrev pub writes : List Step
writes =
    enters 0 Write true (holder 0 Write ∷ [])
    ∷ enters 1 Write false (holder 0 Write ∷ waiter 1 Write 2 1 ∷ [])
    ∷ enters 2 Write false (holder 0 Write ∷ waiter 1 Write 2 1 ∷ waiter 2 Write 4 1 ∷ [])
    ∷ []

abbrev pub Holds : Example → Type 0
Holds NoLines = IsRefused (codes "") 20 1
Holds NoNewline = IsRefused (codes "C,1") 16 1
Holds EightProcessors = IsAnswered (codes "C,8") None
Holds NineProcessors = IsAnswered (codes "C,9") (Some 18)
Holds LeadingZero = IsAnswered (codes "C,08") (Some 16)
Holds SlotsEntered = SlotsWork slots_text slots_plan 5 2 2 five
Holds SlotsLeft = SlotsWork slots_text slots_plan 5 2 2 five_and_leave
Holds ReadsAndWrite = WritersWork writers_text writers_plan 3 4 2 mixed
Holds ReadLeft = WritersWork writers_text writers_plan 3 4 2 mixed_and_leave
Holds ThreeWrites = WritersWork writers_text writers_plan 3 4 2 writes
Holds WorkedRun = SlotsWork run_text run_plan 2 1 1 valve_steps

unfoldable pub AllHold : List Example → Type 0
AllHold examples = AllByRecursion Holds examples

-- none is left out
unfoldable pub EachIsIn : List Example → Type 0
EachIsIn examples = (example : Example) → Contains examples example
