use Rattle.std.proofs.Common.{[], ◌∷◌, length, sum, sym, subst, arith, ap, length-append}
use Rattle.std.specs.Prelude.{IsTrue}
use Rattle.std.specs.List.{list_all}
use Rattle.plan.specs.Kinds.{by_kind, in_kind_limits}
use Rattle.plan.proofs.ByKind.{limits_push, by_kind_push}
use Rattle.plan.proofs.tables.Tables.store_resource.Goals as goal

pub invariant_of-self : goal.invariant_of-self
invariant_of-self c =
    let t = c.args.self.now in
    let e = c.push.ensures in
    let n = ap length e in record {
      few_clusters = t.few_clusters;
      clusters_sized = t.clusters_sized;
      kinds_in_limits = subst (λ rs. IsTrue (list_all (in_kind_limits (sum t.clusters)) rs)) (sym e) (limits_push (sum t.clusters) t.resources c.args.resource t.kinds_in_limits c.requires.1);
      resources_by_kind = subst (λ rs. IsTrue (by_kind rs)) (sym e) (by_kind_push t.resources c.args.resource t.resources_by_kind c.requires.2);
      few_resources = omega (arith, n, length-append t.resources (c.args.resource ∷ []));
      few_tasks = t.few_tasks;
      tasks_placed = t.tasks_placed;
      lengths_held = t.lengths_held;
      lengths_declared = λ k. let o = t.lengths_declared k in (o.0, λ some. ((o.1 some).0, omega (arith, (o.1 some).1, n, length-append t.resources (c.args.resource ∷ []))));
      lengths_ended = t.lengths_ended;
    }
