-- Which resources of a plan are slots.
use Rattle.std.specs.Prelude.{ℕ, List, [], ◌∷◌}
use Rattle.plan.specs.declared.resource.Resource.{Resource}
use Rattle.plan.specs.declared.resource.Resource.TheVariants.{Slots}

-- k of each slot resource
abbrev pub slots_of : List Resource → List ℕ
slots_of [] = []
slots_of (Slots k ∷ rs) = k ∷ slots_of rs
slots_of (_ ∷ rs) = slots_of rs
