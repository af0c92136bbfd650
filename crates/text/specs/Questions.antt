-- Every call puts its questions in order, and the first one answered no decides.
use Rattle.std.specs.Prelude.{ℕ, Bool, cond, List, [], ◌∷◌, Some, None, Option}

-- a question by its number, and whether it is answered yes
pub record Question : Type 0 where
  pub number : ℕ
  pub answer : Bool

abbrev pub ask : ℕ → Bool → Question
ask n a = record { number = n; answer = a }

-- the number of the first question answered no; none where all are answered yes
abbrev pub first_no : List Question → Option ℕ
first_no [] = None
first_no (q ∷ qs) = cond q.answer (first_no qs) (Some q.number)
