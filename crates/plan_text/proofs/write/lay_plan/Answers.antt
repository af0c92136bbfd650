use Rattle.plan.specs.Of.{plan_contents}
use Rattle.plan_text.specs.Texts.{row_text}
use Rattle.plan_text.specs.Writing.{cluster_items, resource_items, task_items, length_items}
use Rattle.plan_text.proofs.Writing.{plan_parts}
use Rattle.text.proofs.Lays.{lays_more}
use Rattle.plan_text.proofs.write.lay_plan.Goals as goal

pub returns : goal.returns
returns c =
    let said = plan_contents c.args.plan.now in
    rw (plan_parts said)
    (lays_more _ _ (row_text (cluster_items said)) _ _ _ _ _ c.lay_clusters-resources.ensures.lays
    (lays_more _ _ (row_text (resource_items said)) _ _ _ _ _ c.lay_resources-tasks.ensures.lays
    (lays_more _ _ (row_text (task_items said)) _ _ (row_text (length_items said)) _ _ c.lay_tasks-lengths.ensures.lays c.lay_lengths.ensures)))
