use Rattle.std.proofs.Common.{◌∙◌, ◌++◌, ℕ, Bool, List, length, ap, sym, count_by, arith}
use Rattle.std.proofs.lemmas.Bool.{eqb-true}
use Rattle.std.proofs.lemmas.List.Sums.{count_by-le-length}
use Rattle.std.specs.List.{filter_map}
use Rattle.order.specs.declared.elements.Job.{Job}
use Rattle.plan.specs.Of.{plan_contents}
use Rattle.rules.specs.Jobs.{cluster_of}
use Rattle.rules.specs.declared.task.Task.{Task}
use Rattle.table.specs.Members.{members_of}
use Rattle.table.specs.Rows.{job_at}
use Rattle.table.specs.Tables.{records_of}
use Rattle.table.proofs.Ranks.{job_before, jobs_counted, counted_parts, counted_all, records_past}
use Rattle.table.proofs.table.Table.jobs_before.Goals as goal

pub loop-rest-preserved : goal.loop-rest-preserved
loop-rest-preserved c =
    let h = job_at (records_of c.args.self.now) c.args.which in
    let P : Job → Bool = λ y. job_before y (record { release = c.task-release.result.release; task = 0 }) in
    let row = c.as_slice.ensures.value ∙ (c.add_jobs.ensures.items ∙ (ap (λ (xs : List Job). xs ++ filter_map h c.split_at.result.0.now) c.new-row.ensures ∙ ap (filter_map h) c.split_at.ensures.front)) in (
      counted_parts P h c.min.result c.loop-rest.rest.now _ c.loop-rest.before c.count_before-before.result _ c.loop-rest.invariant.0 (c.count_before-before.ensures ∙ ap (count_by P) row) (ap (λ xs. count_by P (filter_map h xs)) c.split_at.ensures.back),
      omega (arith, c.loop-rest.invariant.1, c.count_before-before.ensures, count_by-le-length P c.as_slice.result.now, ap length c.as_slice.ensures.value, c.add_jobs.ensures.few, ap length c.new-row.ensures, c.split_at.ensures.front_len, c.split_at.ensures.back_len),
    )

pub returns : goal.returns
returns c =
    let now = c.args.self.now in
    let p = plan_contents now.plan.now in
    let h = job_at (records_of now) c.args.which in
    let before : ℕ → Job → Bool = λ n y. job_before y (record { release = n; task = 0 }) in
    counted_all (before c.task-release.result.release) h c.loop-rest.rest.now _ c.loop-rest.before c.loop-rest.invariant.0 (eqb-true _ 0 (sym c.loop-rest-test.ensures))
    ∙ (ap (λ ts. count_by (before c.task-release.result.release) (filter_map h ts)) (c.members_of-rest.ensures.tasks ∙ ap (members_of p) c.cluster_of.ensures)
    ∙ (ap (λ (k : Task). count_by (before k.release) (filter_map h (members_of p (cluster_of p c.args.task)))) c.task-release.ensures
    ∙ jobs_counted p now.tasks (records_of now) c.args.which c.args.task now.known_tasks (records_past now.ended now.tasks now.rows.now)))
