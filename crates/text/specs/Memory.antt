-- Bytes written into memory that the caller hands in, or appended to a list of bounded size.
use Rattle.std.specs.Prelude.{◌≡◌, ℕ, ◌+◌, ◌≤◌, List, [], ◌∷◌, ◌++◌, length, take, drop}
use Rattle.std.specs.Prelude.{Some, None, Ok, Err, Result, nat_le}
use Rattle.text.specs.Questions.{Question, ask, first_no}
use Rattle.text.specs.Refusals.{number}
use Rattle.text.specs.declared.refusal.Refusal.{Refusal}

-- memory after bytes were put at a place: what stands before and behind them is as it was
abbrev pub overlay : List ℕ → ℕ → List ℕ → List ℕ
overlay old at bytes = (take at old ++ bytes) ++ drop (at + length bytes) old

-- does the text fit the memory handed in?
abbrev pub fit_questions : List ℕ → ℕ → List ℕ → List Question
fit_questions old at bytes = ask 23 (nat_le (at + length bytes) (length old)) ∷ []

-- the bytes stand at the place and the answer is the place behind them, or nothing was written
abbrev pub Writes : List ℕ → ℕ → List ℕ → Result ℕ Refusal → List ℕ → Type 0
Writes old at bytes (Ok end) new = (first_no (fit_questions old at bytes) ≡ None) × (end ≡ at + length bytes) × (new ≡ overlay old at bytes)
Writes old at bytes (Err why) new = (first_no (fit_questions old at bytes) ≡ Some (number why)) × (new ≡ old)

-- is there room for bytes more in a list of at most n?
abbrev pub room_questions : ℕ → List ℕ → List ℕ → List Question
room_questions n old bytes = ask 23 (nat_le (length old + length bytes) n) ∷ []

-- the bytes stand behind those that were there, or nothing changed
abbrev pub Appends : ℕ → List ℕ → List ℕ → Result (Unit {0}) Refusal → List ℕ → Type 0
Appends n old bytes (Ok done) new =
    (first_no (room_questions n old bytes) ≡ None) × (new ≡ old ++ bytes)
Appends n old bytes (Err why) new =
    (first_no (room_questions n old bytes) ≡ Some (number why)) × (new ≡ old)

-- the same where bytes are appended one part after another: a refusal may leave some of them there
abbrev pub Pushes : ℕ → List ℕ → List ℕ → Result (Unit {0}) Refusal → List ℕ → Type 0
Pushes n old bytes (Ok done) new =
    (first_no (room_questions n old bytes) ≡ None) × (new ≡ old ++ bytes)
Pushes n old bytes (Err why) new = first_no (room_questions n old bytes) ≡ Some (number why)

-- bytes laid one after another into memory that need not be there:
-- the answer is the place behind the bytes; where they fit, they are written and nothing else changes
pub record Lays (old : List ℕ) (at : ℕ) (bytes : List ℕ) (end : ℕ) (new : List ℕ) : Type 0 where
  pub place : end ≡ at + length bytes
  pub size : length new ≡ length old
  pub text : at + length bytes ≤ length old → new ≡ overlay old at bytes
