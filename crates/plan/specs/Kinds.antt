-- The kinds of resources: what is said of each.
use Rattle.std.specs.Prelude.{ℕ, Bool, true, false, ◌&&◌, List, [], ◌∷◌, nat_le}
use Rattle.std.specs.List.{list_all}
use Rattle.item.specs.declared.item.Item.{Item}
use Rattle.item.specs.declared.item.Item.TheVariants.{Slots as SlotsItem, ReaderWriter as ReaderWriterItem}
use Rattle.plan.specs.declared.resource.Resource.{Resource}
use Rattle.plan.specs.declared.resource.Resource.TheVariants.{Slots, ReaderWriter}

-- n lies from low to high, both included
abbrev pub within : ℕ → ℕ → ℕ → Bool
within low high n = nat_le low n && nat_le n high

-- the item of its line
abbrev pub resource_item : Resource → Item
resource_item (Slots k) = SlotsItem k
resource_item ReaderWriter = ReaderWriterItem

-- the place of its kind in the order of the lines
abbrev pub kind_rank : Resource → ℕ
kind_rank (Slots k) = 0
kind_rank ReaderWriter = 1

-- its numbers are in the limits of its kind, in a plan of m processors
abbrev pub in_kind_limits : ℕ → Resource → Bool
in_kind_limits m (Slots k) = within 1 m k
in_kind_limits m ReaderWriter = true

-- the most that hold it at once in mode W
abbrev pub holders_of : Resource → ℕ
holders_of (Slots k) = k
holders_of ReaderWriter = 1

-- mode R is known there
abbrev pub knows_reads : Resource → Bool
knows_reads (Slots k) = false
knows_reads ReaderWriter = true

-- none of these resources is of a later kind
abbrev pub none_later : List Resource → Resource → Bool
none_later rs r = list_all (λ s. nat_le (kind_rank s) (kind_rank r)) rs

-- the resources stand by kind
abbrev pub by_kind : List Resource → Bool
by_kind [] = true
by_kind (r ∷ rs) = list_all (λ s. nat_le (kind_rank r) (kind_rank s)) rs && by_kind rs
