use Rattle.std.proofs.Common.{sym, ap, ◌∙◌}
use Rattle.rules.specs.declared.task.Task.{Task}
use Rattle.table.specs.Rows.{selects}
use Rattle.table.specs.Tables.{records_of}
use Rattle.table.proofs.Firsts.{below_end}
use Rattle.table.proofs.Ranks.{idle_unselected, records_past}
use Rattle.table.proofs.table.Table.ranks.Goals as goal

pub processors_for-requires : goal.processors_for-requires
processors_for-requires c =
    let now = c.args.self.now in
    let chosen = λ (k : Task). selects c.args.which k.state in
    below_end now.tasks (records_of now) chosen (records_past now.ended now.tasks now.rows.now) (idle_unselected c.args.which) c.args.task (sym (c.has.ensures ∙ ap chosen c.task-state.ensures) ∙ c.if-has.true)
