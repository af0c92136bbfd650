use Rattle.std.proofs.Common.{ℕ, refl, sym, subst, ◌∙◌, arith}
use Rattle.rules.specs.Moves.{ticked_task}
use Rattle.rules.specs.declared.task.Task.{Task}
use Rattle.table.proofs.Issued.{ticked_rests, to_the_end}
use Rattle.controller.specs.Ticks.{CanTick}
use Rattle.controller.proofs.Tasks.{changed_tasks}
use Rattle.controller.proofs.controller.tick.tick_all.Goals as goal

pub ticked-next-requires : goal.ticked-next-requires
ticked-next-requires c = subst CanTick (sym (c.get.ensures ∙ c.loop-t.invariant.left c.loop-t.t (omega arith))) (c.requires.1 c.loop-t.t (omega arith))

pub returns : goal.returns
returns c =
    let inv = c.loop-t.invariant in
    let old = c.args.table.now.records.rows in
    let new = c.loop-t.table.records.rows in record {
      tasks = changed_tasks (λ (q : ℕ) (k : Task). ticked_task k) c.args.tasks old new (λ q. refl) (to_the_end (λ (q : ℕ) (k : Task). ticked_task k) c.args.tasks c.loop-t.t c.issued_end.result old new (λ q k e. ticked_rests k e) c.issued_end.ensures.none (λ q lt past. omega arith) inv.ticked inv.left);
      blocked = inv.blocked;
    }
