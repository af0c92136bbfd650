-- Which of two banks a resource of their pair is of.
use Rattle.std.specs.Prelude.{◌≡◌, ℕ, ◌+◌, ◌<◌, Some, Ok, Err, Result}
use Rattle.text.specs.Questions.{first_no}
use Rattle.bank.specs.Questions.{Told, number, resource_questions}
use Rattle.bank.specs.declared.size.TheConstants.{RESOURCES}
use Rattle.bank.specs.declared.refusal.Refusal.{Refusal}
use Rattle.pair.specs.Pairs.{pair_told}
use Rattle.pair.specs.declared.pair.Half.{Half}
use Rattle.pair.specs.declared.pair.Half.TheVariants.{First, Second}

-- the first's resources keep their numbers, and the second's are counted after them
abbrev pub IsHalf : Told → Told → ℕ → Result Half Refusal → Type 0
IsHalf a b r (Ok (First q)) = (r < RESOURCES) × (q < a.resources) × (q ≡ r)
IsHalf a b r (Ok (Second q)) = (r < RESOURCES) × (q < b.resources) × (a.resources + q ≡ r)
IsHalf a b r (Err why) = first_no (resource_questions (pair_told a b) r) ≡ Some (number why)
