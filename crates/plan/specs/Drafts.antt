-- What a draft answers to a line and to sealing.
use Rattle.std.specs.Prelude.{◌≡◌, ℕ, ◌+◌, ◌-◌, ◌^◌, min, List, Some, None, Ok, Err, Result}
use Rattle.item.specs.Lines.{read_item}
use Rattle.text.specs.Questions.{first_no}
use Rattle.text.specs.Refusals.{number}
use Rattle.text.specs.declared.refusal.Refusal.{Refusal}
use Rattle.plan.specs.Adding.{Adds, line_questions, seal_questions}
use Rattle.plan.specs.Of.{contents_of}
use Rattle.plan.specs.declared.draft.Draft.{Draft}
use Rattle.plan.specs.declared.draft.Refused.{Refused}
use Rattle.plan.specs.declared.plan.Plan.{Plan}
use Rattle.plan.specs.declared.tables.Tables.{Tables}

-- line numbers count from 1 as far as a machine word goes
abbrev pub next_line : ℕ → ℕ
next_line n = min (n + 1) (2 ^ 64 - 1)

-- how many lines a draft has taken: those before its next one
abbrev pub lines_taken : Draft → ℕ
lines_taken d = d.next - 1

-- a line is taken and adds its item to the tables, or it is refused and nothing changes
abbrev pub TakesLine : List ℕ → Tables → Result (Unit {0}) Refusal → Tables → Type 0
TakesLine line old (Ok done) new =
    (first_no (line_questions (contents_of old) (read_item line)) ≡ None)
    × Adds (contents_of old) (read_item line) (contents_of new)
TakesLine line old (Err why) new =
    (first_no (line_questions (contents_of old) (read_item line)) ≡ Some (number why))
    × (new ≡ old)

-- the same of a draft, which goes on to the next line if it took this one, and is handed back if
-- not
abbrev pub AddsLine : Draft → List ℕ → Tables → Result Draft (Draft × Refused) → Tables → Type 0
AddsLine d line old (Ok e) new = TakesLine line old (Ok tt) new × (e.next ≡ next_line d.next)
AddsLine d line old (Err p) new =
    TakesLine line old (Err p.1.refusal) new
    × (p.1.line ≡ d.next)
    × (p.0 ≡ d)

-- the plan takes over the tables, or sealing is refused and nothing changes
abbrev pub Seals : Draft → Tables → Plan → Result (Unit {0}) (Draft × Refused) → Plan → Type 0
Seals d tables old (Ok done) new =
    (first_no (seal_questions (contents_of tables)) ≡ None)
    × (new.tables ≡ tables)
Seals d tables old (Err p) new =
    (first_no (seal_questions (contents_of tables)) ≡ Some (number p.1.refusal))
    × (p.1.line ≡ d.next)
    × (p.0 ≡ d)
    × (new ≡ old)
