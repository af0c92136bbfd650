-- How long a request may wait.
use Rattle.std.specs.Prelude.{ℕ}
use Rattle.bank.specs.Limits.{ticks_of_turns}
use Rattle.bank.specs.Questions.{Told}
use Rattle.bank.specs.declared.request.Mode.{Mode}
use Rattle.plan.specs.Contents.{Contents, longest_at}

-- the wait limit of a mode at a resource, in ticks: its turn limit, each turn as long as the
-- longest length declared there
abbrev pub wait_limit : Told → Contents → ℕ → Mode → ℕ
wait_limit t c r m = ticks_of_turns (t.limit r m) (longest_at c r)
