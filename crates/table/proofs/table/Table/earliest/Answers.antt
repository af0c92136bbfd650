use Rattle.std.proofs.Common.{◌∙◌, ◌++◌, List, ap}
use Rattle.std.specs.List.{filter_map}
use Rattle.order.specs.declared.elements.Job.{Job}
use Rattle.plan.specs.Of.{plan_contents}
use Rattle.table.specs.Rows.{job_at}
use Rattle.table.specs.Tables.{records_of}
use Rattle.table.specs.declared.selection.Selection.TheVariants.{HeldBack}
use Rattle.table.proofs.Firsts.{earliest_some, earliest_none}
use Rattle.table.proofs.Ranks.{records_past}
use Rattle.table.proofs.table.Table.earliest.Goals as goal

pub returns-in_err-place : goal.returns-in_err-place
returns-in_err-place c =
    let now = c.args.self.now in
    let start = ap (λ (xs : List Job). xs ++ filter_map (job_at (records_of now) HeldBack) c.members_of.result.now) c.new-row.ensures ∙ ap (filter_map (job_at (records_of now) HeldBack)) c.members_of.ensures.tasks in
    c.from_residual.ensures ∙ earliest_none (plan_contents now.plan.now) now.tasks (records_of now) c.args.cluster now.known_tasks (records_past now.ended now.tasks now.rows.now) c.as_slice-held_back.result.now (c.as_slice-held_back.ensures.value ∙ (c.add_jobs.ensures.items ∙ start)) c.in_err-place.ensures

pub returns : goal.returns
returns c =
    let now = c.args.self.now in
    let start = ap (λ (xs : List Job). xs ++ filter_map (job_at (records_of now) HeldBack) c.members_of.result.now) c.new-row.ensures ∙ ap (filter_map (job_at (records_of now) HeldBack)) c.members_of.ensures.tasks in
    earliest_some (plan_contents now.plan.now) now.tasks (records_of now) c.args.cluster now.known_tasks (records_past now.ended now.tasks now.rows.now) c.as_slice-held_back.result.now c.in_ok-place.place _ (c.as_slice-held_back.ensures.value ∙ (c.add_jobs.ensures.items ∙ start)) c.in_ok-place.ensures
