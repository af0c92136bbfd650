-- How long a refusal is that names a task, and the line of what is no event.
use Rattle.std.proofs.Common.{ℕ, ◌^◌, ◌<◌, ◌≤◌, length, arith, length-append}
use Rattle.std.proofs.lemmas.Fmt.{length-decimal-le}
use Rattle.item.proofs.Sizes.{number_size}
use Rattle.rules.specs.declared.refusal.Refusal.TheVariants.{Late}
use Rattle.text.specs.Refusals.{number}
use Rattle.text.specs.declared.refusal.Refusal.{Refusal}
use Rattle.text.specs.declared.refusal.Refusal.TheVariants.{Form, Order, Limits, Full, Incomplete, NotEvent, NoEnd, Memory}
use Rattle.event.specs.Answers.{refused_text, unreadable_text}

pub late_size : (t : ℕ) → t < 2 ^ 32 → length (refused_text (Late t)) ≤ 17
late_size t h = simp length-append (omega (arith, number_size t h, length-decimal-le 2 10 (omega arith) (omega arith) (omega arith)))

two_digits : (why : Refusal) → number why < 100
two_digits Form = omega arith
two_digits Order = omega arith
two_digits Limits = omega arith
two_digits Full = omega arith
two_digits Incomplete = omega arith
two_digits NotEvent = omega arith
two_digits NoEnd = omega arith
two_digits Memory = omega arith

pub unreadable_size : (why : Refusal) → length (unreadable_text why) ≤ 8
unreadable_size why = simp length-append (omega (arith, length-decimal-le 2 (number why) (omega arith) (omega (arith, two_digits why)) (omega (arith, two_digits why))))
