use Rattle.std.proofs.Common.{◌≡◌, ◌<◌, length, get_or, ap, ◌∙◌, arith}
use Rattle.std.proofs.lemmas.List.{length-map}
use Rattle.item.specs.declared.item.Item.TheVariants.{Cluster, ReaderWriter}
use Rattle.plan.specs.Of.{plan_contents}
use Rattle.plan_text.specs.Writing.{cluster_items}
use Rattle.plan_text.proofs.Writing.{lays_next, entry_item}
use Rattle.plan_text.proofs.write.lay_clusters.Goals as goal

pub loop-cluster-preserved : goal.loop-cluster-preserved
loop-cluster-preserved c =
    let said = plan_contents c.args.plan.now in
    let items = cluster_items said in
    let i = c.loop-cluster.cluster in
    let l : i < length said.clusters = omega arith in
    let item = Cluster (get_or c.cluster_processors.result.now i 0) in
    let here : item ≡ get_or items i ReaderWriter = ap (λ xs. Cluster (get_or xs i 0)) c.cluster_processors.ensures.value ∙ entry_item Cluster said.clusters i 0 l in (
      lays_next items i item (omega (arith, length-map said.clusters Cluster)) here c.args.out.now c.args.at c.loop-cluster.end c.loop-cluster.out c.loop-cluster.invariant.0 c.lay_item-end.result c.lay_item-end.new.out c.lay_item-end.ensures.lays,
      omega (arith, c.lay_item-end.ensures.few, c.loop-cluster.invariant.1),
    )
