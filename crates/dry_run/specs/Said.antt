-- What the program reads of its input, and what it prints.
use Rattle.std.specs.Prelude.{◌≡◌, ℕ, ◌+◌, Bool, true, false, cond, ◌||◌, ◌⊎◌, nat_le, List, [], ◌∷◌, ◌++◌, length, take}
use Rattle.std.specs.Prelude.{drop, is_some, Some, None, Ok, Err, codes, decimal, Option, ◌==◌}
use Rattle.std.specs.Option.{unwrap_or, option_map}
use Prim.Native.Char.{code}
use Rattle.limits.specs.Lines.{limits_text}
use Rattle.plan.specs.Contents.{Contents}
use Rattle.plan_text.specs.Texts.{Verdict, decide, read_text}
use Rattle.text.specs.Questions.{Question, ask, first_no}
use Rattle.dry_run.specs.Banks.{plan_told}

-- the bytes before the first empty line, if there is one: a newline where a line begins
abbrev pub before_empty : Bool → List ℕ → Option (List ℕ)
before_empty begins [] = None
before_empty begins (b ∷ bs) =
    cond (b == code "\n")
    (cond begins (Some []) (option_map (λ rest. b ∷ rest) (before_empty true bs)))
    (option_map (λ rest. b ∷ rest) (before_empty false bs))

-- the plan's text in an input: an empty line ends it within the first 16,384 bytes
abbrev pub plan_part : List ℕ → Option (List ℕ)
plan_part input = before_empty true (take 16384 input)

-- the bytes behind its empty line
abbrev pub behind_plan : List ℕ → List ℕ
behind_plan input = drop (length (unwrap_or (plan_part input) []) + 1) input

-- is there such a plan? It is put before any line, as line 0
abbrev pub part_questions : Option (List ℕ) → List Question
part_questions part = ask 22 (is_some part) ∷ []

-- what a plan's part of an input is read as, and what an input is
abbrev pub part_verdict : Option (List ℕ) → Verdict
part_verdict part = decide (first_no (part_questions part)) 0 (read_text (unwrap_or part []))

abbrev pub verdict : List ℕ → Verdict
verdict input = part_verdict (plan_part input)

-- enough of an input has come for its plan: what comes behind changes nothing of that
abbrev pub enough : List ℕ → Bool
enough input = is_some (plan_part input) || nat_le 16384 (length input)

-- more may be printed of an input that goes on: enough has not come for its plan, or that was
-- accepted
abbrev pub GoesOn : List ℕ → Type 0
GoesOn input = (enough input ≡ false) ⊎ ((c : Contents) × (verdict input ≡ Ok c))

abbrev pub refused_text : ℕ → ℕ → List ℕ
refused_text question line =
    codes "plan,no," ++ (decimal question ++ (code "," ∷ (decimal line ++ codes "\n")))

-- the lines before those of the events: the wait limits of each resource
abbrev pub preamble_text : Contents → List ℕ
preamble_text c = limits_text (plan_told c) c

-- what is printed of a plan: the lines before the events, or the refusal
abbrev pub said : Verdict → List ℕ
said (Ok c) = preamble_text c
said (Err p) = refused_text p.0 p.1
