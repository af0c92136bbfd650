use Rattle.std.proofs.Common.{length, sum, ap, arith}
use Rattle.std.proofs.lemmas.List.Sums.{get_or-le-sum_by}
use Rattle.plan.proofs.Rows.{processors_few}
use Rattle.slots.proofs.SlotsOf.{slots_few, slots_in_limits}
use Rattle.slots.proofs.slots.Slots.new.Goals as goal

pub invariant_of-result : goal.invariant_of-result
invariant_of-result c =
    let t = c.args.plan.now.tables in
    let o = c.lines_of-count.ensures in
    let m = c.all_processors.ensures in
    let one = c.args.plan.now.has_cluster in
    let first = get_or-le-sum_by (λ x. x) t.clusters 0 0 one in
    record {
      seated = (omega (arith, t.clusters_sized 0 one), omega (arith, processors_few t.clusters t.few_clusters t.clusters_sized));
      held = o.long;
      sized = (omega (arith, slots_few t.resources), λ r l. omega (arith, o.each r, (slots_in_limits (sum t.clusters) t.resources t.kinds_in_limits r (omega arith)).0));
      kept = λ r l. let none = ap length (o.nobody r) in (omega arith, λ i h. absurd (omega arith));
    }
