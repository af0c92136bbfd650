use Rattle.std.proofs.Common.{◌∙◌}
use Rattle.plan.specs.Of.{plan_contents}
use Rattle.table.proofs.Firsts.{nearest_some, nearest_none}
use Rattle.table.proofs.Ranks.{records_past}
use Rattle.table.specs.Tables.{records_of}
use Rattle.table.proofs.table.Table.nearest.Goals as goal

pub returns-in_err-holder : goal.returns-in_err-holder
returns-in_err-holder c =
    let now = c.args.self.now in
    c.from_residual.ensures ∙ nearest_none (plan_contents now.plan.now) now.tasks (records_of now) (records_past now.ended now.tasks now.rows.now) c.as_slice-holders.result.now (c.as_slice-holders.ensures.value ∙ c.holder_row-row.ensures) c.in_err-holder.ensures

pub returns : goal.returns
returns c =
    let now = c.args.self.now in
    nearest_some (plan_contents now.plan.now) now.tasks (records_of now) (records_past now.ended now.tasks now.rows.now) c.as_slice-holders.result.now c.in_ok-holder.field-0 _ (c.as_slice-holders.ensures.value ∙ c.holder_row-row.ensures) c.in_ok-holder.ensures
