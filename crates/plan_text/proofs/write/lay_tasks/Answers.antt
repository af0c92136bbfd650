use Rattle.std.proofs.Common.{◌≡◌, ◌<◌, length, get_or, ap, ◌∙◌, arith}
use Rattle.std.proofs.lemmas.List.{length-map}
use Rattle.item.specs.declared.item.Item.TheVariants.{Task, ReaderWriter}
use Rattle.plan.specs.Of.{plan_contents}
use Rattle.plan_text.specs.Writing.{task_items}
use Rattle.plan_text.proofs.Writing.{lays_next, entry_item}
use Rattle.plan_text.proofs.write.lay_tasks.Goals as goal

pub loop-task-preserved : goal.loop-task-preserved
loop-task-preserved c =
    let said = plan_contents c.args.plan.now in
    let items = task_items said in
    let i = c.loop-task.task in
    let l : i < length said.tasks = omega arith in
    let item = Task (get_or c.task_clusters.result.now i 0) in
    let here : item ≡ get_or items i ReaderWriter = ap (λ xs. Task (get_or xs i 0)) c.task_clusters.ensures.value ∙ entry_item Task said.tasks i 0 l in (
      lays_next items i item (omega (arith, length-map said.tasks Task)) here c.args.out.now c.args.at c.loop-task.end c.loop-task.out c.loop-task.invariant.0 c.lay_item-end.result c.lay_item-end.new.out c.lay_item-end.ensures.lays,
      omega (arith, c.lay_item-end.ensures.few, c.loop-task.invariant.1),
    )
