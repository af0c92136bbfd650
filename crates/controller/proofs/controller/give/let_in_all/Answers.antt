use Rattle.std.proofs.Common.{refl, arith}
use Rattle.rules.specs.Moves.{let_in}
use Rattle.table.proofs.Issued.{let_in_rests, to_the_end}
use Rattle.controller.proofs.Tasks.{changed_tasks}
use Rattle.controller.proofs.controller.give.let_in_all.Goals as goal

pub returns : goal.returns
returns g c =
    let inv = c.loop-t.invariant in
    let r = c.args.resource in
    let xs = g.B.Bank.active c.args.bank.now r in
    let old = c.args.table.now.records.rows in
    let new = c.loop-t.table.records.rows in record {
      tasks = changed_tasks (λ q k. let_in r xs q k) c.args.tasks old new (λ q. refl) (to_the_end (λ q k. let_in r xs q k) c.args.tasks c.loop-t.t c.issued_end.result old new (let_in_rests r xs) c.issued_end.ensures.none (λ q lt past. omega arith) inv.1 inv.2);
      blocked = inv.3;
    }
