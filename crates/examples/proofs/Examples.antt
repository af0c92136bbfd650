-- Each example holds, and none is left out.
use Rattle.std.proofs.Common.{List, [], ◌∷◌, refl, arith}
use Rattle.examples.specs.Examples.{Holds, AllHold, EachIsIn, five, five_and_leave, mixed, mixed_and_leave, writes, slots_text, slots_plan, writers_text, writers_plan}
use Rattle.examples.specs.declared.example.Example.{Example}
use Rattle.examples.specs.declared.example.Example.TheVariants.{NoLines, NoNewline, EightProcessors, NineProcessors, LeadingZero, SlotsEntered, SlotsLeft, ReadsAndWrite, ReadLeft, ThreeWrites, WorkedRun}
use Rattle.examples.specs.Run.{text, plan, valve_steps}
use Rattle.examples.proofs.SlotsSteps.{slots_work}
use Rattle.examples.proofs.WritersSteps.{writers_work}

pub holds : (example : Example) → Holds example
holds NoLines = refl
holds NoNewline = refl
holds EightProcessors = refl
holds NineProcessors = refl
holds LeadingZero = refl
holds SlotsEntered =
    slots_work slots_text slots_plan 5 2 2 five refl refl refl refl
    (refl, refl, refl, (refl, refl, refl, (refl, refl, refl, (refl, refl, refl, (refl, refl, refl, tt)))))
holds SlotsLeft =
    slots_work slots_text slots_plan 5 2 2 five_and_leave refl refl refl refl
    (refl, refl, refl, (refl, refl, refl, (refl, refl, refl, (refl, refl, refl, (refl, refl, refl, (refl, refl, tt))))))
holds ReadsAndWrite =
    writers_work writers_text writers_plan 3 4 2 mixed refl refl refl refl refl (refl, refl, refl, (refl, refl, refl, (refl, refl, refl, tt)))
holds ReadLeft =
    writers_work writers_text writers_plan 3 4 2 mixed_and_leave refl refl refl refl refl
    (refl, refl, refl, (refl, refl, refl, (refl, refl, refl, (refl, refl, tt))))
holds ThreeWrites =
    writers_work writers_text writers_plan 3 4 2 writes refl refl refl refl refl (refl, refl, refl, (refl, refl, refl, (refl, refl, refl, tt)))
holds WorkedRun =
    slots_work text plan 2 1 1 valve_steps refl refl refl refl
    (refl, refl, refl, (refl, refl, refl, (refl, refl, (refl, refl, refl, (refl, refl, (refl, refl, tt))))))

pub all_hold : (examples : List Example) → AllHold examples
unfolding AllHold
all_hold [] = tt
all_hold (example ∷ examples) = (holds example, all_hold examples)

pub each_is_in : EachIsIn (NoLines ∷ NoNewline ∷ EightProcessors ∷ NineProcessors ∷ LeadingZero ∷ SlotsEntered ∷ SlotsLeft ∷ ReadsAndWrite ∷ ReadLeft ∷ ThreeWrites ∷ WorkedRun ∷ [])
unfolding EachIsIn
each_is_in NoLines = (0, omega arith, refl)
each_is_in NoNewline = (1, omega arith, refl)
each_is_in EightProcessors = (2, omega arith, refl)
each_is_in NineProcessors = (3, omega arith, refl)
each_is_in LeadingZero = (4, omega arith, refl)
each_is_in SlotsEntered = (5, omega arith, refl)
each_is_in SlotsLeft = (6, omega arith, refl)
each_is_in ReadsAndWrite = (7, omega arith, refl)
each_is_in ReadLeft = (8, omega arith, refl)
each_is_in ThreeWrites = (9, omega arith, refl)
each_is_in WorkedRun = (10, omega arith, refl)
