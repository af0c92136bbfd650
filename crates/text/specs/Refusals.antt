-- The number of each refusal of a text: the question that was answered no.
use Rattle.std.specs.Prelude.{ℕ}
use Rattle.text.specs.declared.refusal.Refusal.{Refusal}
use Rattle.text.specs.declared.refusal.Refusal.TheVariants.{Form, Order, Limits, Full}
use Rattle.text.specs.declared.refusal.Refusal.TheVariants.{Incomplete, NotEvent, NoEnd, Memory}

abbrev pub number : Refusal → ℕ
number Form = 16
number Order = 17
number Limits = 18
number Full = 19
number Incomplete = 20
number NotEvent = 21
number NoEnd = 22
number Memory = 23
