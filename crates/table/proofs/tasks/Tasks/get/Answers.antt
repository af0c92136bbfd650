use Rattle.std.proofs.Common.{sym, subst, ◌≤◌}
use Rattle.rules.specs.States.{idle_task}
use Rattle.table.proofs.Rows.{past_end}
use Rattle.table.proofs.tasks.Tasks.get.Goals as goal

pub returns-else-t-lt64 : goal.returns-else-t-lt64
returns-else-t-lt64 c = let self = c.args.self.now in sym (past_end self.records.rows c.args.t idle_task (subst (λ n. n ≤ c.args.t) (sym self.all_records) c.if-t-lt64.false))
