use Rattle.std.proofs.Common.{List, refl, sym, subst}
use Rattle.rules.specs.declared.task.Task.{Task}
use Rattle.table.specs.Tasks.{NoneIssuedFrom}
use Rattle.table.proofs.Issued.{none_still}
use Rattle.table.proofs.tasks.Tasks.set_ticks.Goals as goal

pub invariant_of-self-clause-none_issued : goal.invariant_of-self-clause-none_issued
invariant_of-self-clause-none_issued c =
    let self = c.args.self.now in
    subst (λ (rows : List Task). NoneIssuedFrom self.issued_end rows) (sym c.set_ticks.ensures) (none_still self.issued_end self.records.rows c.args.t _ refl self.none_issued)
