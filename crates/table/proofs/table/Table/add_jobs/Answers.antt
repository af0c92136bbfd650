use Rattle.std.proofs.Common.{arith}
use Rattle.std.proofs.lemmas.Grind.{common_steps}
use Rattle.std.proofs.lemmas.List.Elements.{filter_map-append}
use Rattle.table.proofs.table.Table.add_jobs.Goals as goal

pub loop-task-preserved : goal.loop-task-preserved
loop-task-preserved g c = grind (arith, common_steps, filter_map-append)
