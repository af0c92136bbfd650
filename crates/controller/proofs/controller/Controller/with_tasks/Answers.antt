use Rattle.std.proofs.Common.{◌≡◌, ℕ, ◌≤◌, List, get_or, replicate, sym, ap, ◌∙◌, subst, arith}
use Rattle.plan.proofs.Lawful.{lawful}
use Rattle.rules.specs.States.{idle_task}
use Rattle.rules.specs.declared.task.Task.{Task}
use Rattle.plan.specs.Of.{plan_contents}
use Rattle.table.specs.Rows.{keeps_length, tasks_in}
use Rattle.table.proofs.Rows.{same_all}
use Rattle.controller.proofs.Beginning.{idle_all}
use Rattle.controller.proofs.controller.Controller.with_tasks.Goals as goal

never_blocked : (q : ℕ) → (get_or (replicate 64 idle_task) q idle_task).blocked ≤ 0
never_blocked q = subst (λ (k : Task). k.blocked ≤ 0) (sym (same_all 64 idle_task q)) (omega arith)

idle_rows : (n : ℕ) (rows : List Task) (q : ℕ) → rows ≡ replicate 64 idle_task → tasks_in n rows q ≡ idle_task
idle_rows n rows q e = ap (λ (ks : List Task). tasks_in n ks q) e ∙ idle_all n q

pub invariant_of-result : goal.invariant_of-result
invariant_of-result g c =
    let few = (lawful c.args.plan.now.tables).few_tasks in
    let pre = c.requires in record {
      known_tasks = pre.0;
      few_tasks = omega (arith, pre.0);
      keeps_members = c.new.ensures;
      few_resources = pre.1;
      clock_ends = omega arith;
      releases_end = omega arith;
      blocked_ticks = λ q. subst (λ (ks : List Task). (get_or ks q idle_task).blocked ≤ 0) (sym c.idle.ensures) (never_blocked q);
      keeps_lengths = λ q. ap (λ (k : Task). keeps_length (plan_contents c.args.plan.now) q k.used k.state) (idle_rows c.args.tasks c.idle.result.records.rows q c.idle.ensures);
    }

pub returns-clause-idle : goal.returns-clause-idle
returns-clause-idle g c q = idle_rows c.args.tasks c.idle.result.records.rows q c.idle.ensures
