use Rattle.std.proofs.Common.{◌≡◌, ◌<◌, length, get_or, ap, ◌∙◌, arith}
use Rattle.std.proofs.lemmas.List.{length-map}
use Rattle.item.specs.declared.item.Item.TheVariants.{ReaderWriter}
use Rattle.plan.specs.Kinds.{resource_item}
use Rattle.plan.specs.Of.{plan_contents}
use Rattle.plan.specs.declared.resource.Resource.TheVariants.{Slots as SlotsFor}
use Rattle.plan_text.specs.Writing.{resource_items}
use Rattle.plan_text.proofs.Writing.{lays_next, entry_item}
use Rattle.plan_text.proofs.write.lay_resources.Goals as goal

pub loop-resource-preserved : goal.loop-resource-preserved
loop-resource-preserved c =
    let said = plan_contents c.args.plan.now in
    let items = resource_items said in
    let i = c.loop-resource.resource in
    let l : i < length said.resources = omega arith in
    let item = c.item-line.result in
    let here : item ≡ get_or items i ReaderWriter = c.item-line.ensures ∙ (ap (λ rs. resource_item (get_or rs i (SlotsFor 0))) c.resource_row.ensures.value ∙ entry_item resource_item said.resources i (SlotsFor 0) l) in (
      lays_next items i item (omega (arith, length-map said.resources resource_item)) here c.args.out.now c.args.at c.loop-resource.end c.loop-resource.out c.loop-resource.invariant.0 c.lay_item-end.result c.lay_item-end.new.out c.lay_item-end.ensures.lays,
      omega (arith, c.lay_item-end.ensures.few, c.loop-resource.invariant.1),
    )
