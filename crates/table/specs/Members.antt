-- Which tasks of a plan are in each cluster.
use Rattle.std.specs.Prelude.{◌≡◌, ℕ, List, map, length, ◌==◌, slice_index}
use Rattle.std.specs.List.{filter, range_with_len}
use Rattle.plan.specs.Contents.{Contents}
use Rattle.table.specs.declared.members.Members.{Members}

-- the tasks of a cluster, lower ones first
abbrev pub members_of : Contents → ℕ → List ℕ
members_of p g = filter (λ t. slice_index p.tasks t == g) (range_with_len 0 (length p.tasks))

-- each part lists the tasks of its cluster
abbrev pub KeepsMembers : Contents → Members → Type 0
KeepsMembers p m = m.parts ≡ map (members_of p) (range_with_len 0 8)
