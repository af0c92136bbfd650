-- The part of a cluster, found among the parts of all.
use Rattle.std.proofs.Common.{◌≡◌, ℕ, ◌<◌, ◌≤◌, ◌∙◌, List, [], map, length, get_or, sym, ap, ⊎_elim, arith}
use Rattle.std.specs.List.{range_with_len}
use Rattle.std.proofs.lemmas.Bool.{cases_lt, ne_eqb}
use Rattle.std.proofs.lemmas.List.FromFn.{get_or-map-range_with_len}
use Rattle.plan.specs.Of.{plan_contents}
use Rattle.plan.specs.declared.plan.Plan.{Plan}
use Rattle.table.specs.Members.{members_of}
use Rattle.table.proofs.Rows.{cluster_there, past_end}
use Rattle.table.proofs.Selected.{numbers_none}

nobody : (p : Plan) (g : ℕ) → 8 ≤ g → members_of (plan_contents p) g ≡ []
nobody p g far = numbers_none _ (length (plan_contents p).tasks) (λ k lt. ne_eqb _ g (λ e. let there = cluster_there p k lt in let few = p.tables.few_clusters in absurd (omega arith)))

pub part_of : (p : Plan) (parts : List (List ℕ)) (g : ℕ) → parts ≡ map (members_of (plan_contents p)) (range_with_len 0 8) → get_or parts g [] ≡ members_of (plan_contents p) g
part_of p parts g are =
    ⊎_elim
    (λ (l : g < 8). ap (λ xs. get_or xs g []) are ∙ get_or-map-range_with_len (members_of (plan_contents p)) 0 8 g g [] l (omega arith))
    (λ (far : 8 ≤ g).
    let eight : length parts ≡ 8 = ap length are in
    past_end parts g [] (omega arith) ∙ sym (nobody p g far))
    (cases_lt g 8)
