-- Controllers with equal fields are the same value.
use Rattle.std.proofs.Common.{◌≡◌, ℕ, ◌≤◌, min, List, length, get_or, ap}
use mathlib.Core.HLevel.{is_prop→PathP}
use denote.Struct.Props.{props}
use Rattle.bank.specs.Questions.{Told}
use Rattle.bank.specs.declared.meaning.Bank.{Ghosts}
use Rattle.plan.specs.Contents.{Contents, resource_count}
use Rattle.plan.specs.Of.{plan_contents}
use Rattle.rules.specs.Jobs.{Setup}
use Rattle.rules.specs.States.{idle_task}
use Rattle.rules.specs.declared.task.Task.{Task}
use Rattle.table.specs.Members.{KeepsMembers}
use Rattle.table.specs.Rows.{KeepsLengths, tasks_in}
use Rattle.table.specs.declared.members.Members.{Members}
use Rattle.controller.specs.declared.controller.Controller.{Controller}

-- each fact that the type keeps has one proof
le_prop : (m n : ℕ) → IsProp (m ≤ n)
le_prop m n = hlevel props

members_prop : (p : Contents) (m : Members) → IsProp (KeepsMembers p m)
members_prop p m = hlevel props

lengths_prop : (p : Contents) (n : ℕ) (rows : List Task) → IsProp (KeepsLengths p (tasks_in n rows))
lengths_prop p n rows = hlevel props

few_prop : (rows : List Task) (n : ℕ) → IsProp ((q : ℕ) → (get_or rows q idle_task).blocked ≤ n)
few_prop rows n = hlevel props

pub same_controllers : {X : Type 0} {b : Ghosts X} (c d : Controller X b) → c.plan ≡ d.plan → c.members ≡ d.members → c.tasks ≡ d.tasks → c.resources ≡ d.resources → c.table ≡ d.table → c.clock ≡ d.clock → c.releases ≡ d.releases → c.bank ≡ d.bank → c ≡ d
same_controllers c d p m t r k w n b =
    λ i. record {
      plan = p i;
      members = m i;
      tasks = t i;
      resources = r i;
      table = k i;
      clock = w i;
      releases = n i;
      bank = b i;
      known_tasks = is_prop→PathP (λ j. t j ≤ length (plan_contents (p j)).tasks) (λ j. le_prop (t j) (length (plan_contents (p j)).tasks)) c.known_tasks d.known_tasks i;
      few_tasks = is_prop→PathP (λ j. t j ≤ 64) (λ j. le_prop (t j) 64) c.few_tasks d.few_tasks i;
      keeps_members = is_prop→PathP (λ j. KeepsMembers (plan_contents (p j)) (m j)) (λ j. members_prop (plan_contents (p j)) (m j)) c.keeps_members d.keeps_members i;
      few_resources = is_prop→PathP (λ j. r j ≤ resource_count (plan_contents (p j))) (λ j. le_prop (r j) (resource_count (plan_contents (p j)))) c.few_resources d.few_resources i;
      clock_ends = is_prop→PathP (λ j. w j ≤ 100000000) (λ j. le_prop (w j) 100000000) c.clock_ends d.clock_ends i;
      releases_end = is_prop→PathP (λ j. n j ≤ 100000000) (λ j. le_prop (n j) 100000000) c.releases_end d.releases_end i;
      blocked_ticks = is_prop→PathP (λ j. (q : ℕ) → (get_or (k j).records.rows q idle_task).blocked ≤ w j) (λ j. few_prop (k j).records.rows (w j)) c.blocked_ticks d.blocked_ticks i;
      keeps_lengths = is_prop→PathP (λ j. KeepsLengths (plan_contents (p j)) (tasks_in (t j) (k j).records.rows)) (λ j. lengths_prop (plan_contents (p j)) (t j) (k j).records.rows) c.keeps_lengths d.keeps_lengths i;
    }

-- a bank that tells the same
pub same_setup : (p : Contents) (n r : ℕ) (t u : Told) → t ≡ u → ◌≡◌ {A = Setup} (record { plan = p; told = t; tasks = n; resources = min r t.resources }) (record { plan = p; told = u; tasks = n; resources = min r u.resources })
same_setup p n r t u e = ap (λ (x : Told). record { plan = p; told = x; tasks = n; resources = min r x.resources }) e
