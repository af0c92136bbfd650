use Rattle.std.proofs.Common.{◌≡◌, ℕ, length, get_or, sym, ap, subst, arith}
use Rattle.std.proofs.Common.{sum}
use Rattle.std.specs.List.{list_all}
use Rattle.plan.specs.Kinds.{by_kind, in_kind_limits}
use Rattle.plan.proofs.Rows.{zeros}
use Rattle.plan.proofs.tables.Tables.bare.Goals as goal

pub invariant_of-result : goal.invariant_of-result
invariant_of-result c =
    let e = c.requires in
    let z : (k : ℕ) → get_or c.args.lengths k 0 ≡ 0 = subst (λ xs. (k : ℕ) → get_or xs k 0 ≡ 0) (sym e) (zeros 1024) in record {
      few_clusters = omega (arith, ap length c.new.ensures);
      clusters_sized = λ k l. absurd (omega (arith, ap length c.new.ensures));
      kinds_in_limits = ap (list_all (in_kind_limits (sum c.new.result))) c.new-2.ensures;
      resources_by_kind = ap by_kind c.new-2.ensures;
      few_resources = omega (arith, ap length c.new-2.ensures);
      few_tasks = omega (arith, ap length c.new-3.ensures);
      tasks_placed = λ k l. absurd (omega (arith, ap length c.new-3.ensures));
      lengths_held = (ap length e, omega arith, λ k l. z k);
      lengths_declared = λ k. (omega (arith, z k), λ p. absurd (omega (arith, z k)));
      lengths_ended = λ p. absurd (omega arith);
    }
