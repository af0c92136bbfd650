-- Our banks, made from a plan and worked by calls at their first resource.
use Rattle.std.specs.Prelude.{◌≡◌, ℕ, List, Ok}
use Rattle.bank.specs.Questions.{Told}
use Rattle.bank.specs.declared.request.Mode.TheVariants.{Write, Read}
use Rattle.plan.specs.Contents.{Contents}
use Rattle.plan_text.specs.Texts.{read_text}
use Rattle.readers_writers.specs.ReadersWriters.{told_of as writers_told, writers_ghosts}
use Rattle.readers_writers.specs.ReadersWriters.{MadeFrom as WritersOf}
use Rattle.readers_writers.specs.declared.lines.ReadersWriters.{ReadersWriters}
use Rattle.slots.specs.Slots.{told_of as slots_told, slots_ghosts, MadeFrom as SlotsOf}
use Rattle.slots.specs.declared.slots.Slots.{Slots}
use Rattle.examples.specs.Steps.{Step, Works}

-- what slots for k with m seats tell, with the turn limit for W
pub record SlotsTell (m k turns : ℕ) (t : Told) : Type 0 where
  pub seats : t.seats ≡ m
  pub slots : t.slots 0 ≡ k
  pub limit : t.limit 0 Write ≡ turns

-- the text of a plan is accepted, and every bank of slots made from the plan tells and works so
abbrev pub SlotsWork : List ℕ → Contents → ℕ → ℕ → ℕ → List Step → Type 0
SlotsWork text c m k turns steps =
    (read_text text ≡ Ok c)
    × ((s : Slots) → SlotsOf c s → SlotsTell m k turns (slots_told s) × Works slots_ghosts s steps)

-- the same of a reader-writer resource, with the turn limits for W and for R
pub record WritersTell (m write_turns read_turns : ℕ) (t : Told) : Type 0 where
  pub seats : t.seats ≡ m
  pub slots : t.slots 0 ≡ 1
  pub write_limit : t.limit 0 Write ≡ write_turns
  pub read_limit : t.limit 0 Read ≡ read_turns

abbrev pub WritersWork : List ℕ → Contents → ℕ → ℕ → ℕ → List Step → Type 0
WritersWork text c m write_turns read_turns steps =
    (read_text text ≡ Ok c)
    × ((b : ReadersWriters) → WritersOf c b
    → WritersTell m write_turns read_turns (writers_told b) × Works writers_ghosts b steps)
