-- The states of a task, and its record.
use Rattle.std.specs.Prelude.{ℕ, Bool, true, false}
use Rattle.bank.specs.declared.request.Mode.TheVariants.{Write}
use Rattle.rules.specs.declared.answer.Asked.{Asked}
use Rattle.rules.specs.declared.answer.Asked.TheVariants.{Hold, Wait, Back}
use Rattle.rules.specs.declared.task.State.{State}
use Rattle.rules.specs.declared.task.State.TheVariants.{Idle, Going, HeldBack, Waiting, Holding}
use Rattle.rules.specs.declared.task.Task.{Task}
use Rattle.rules.specs.declared.task.Wanted.{Wanted}

abbrev pub is_idle : State → Bool
is_idle Idle = true
is_idle _ = false

abbrev pub is_held_back : State → Bool
is_held_back (HeldBack w) = true
is_held_back _ = false

-- it waits or is held back
abbrev pub is_suspended : State → Bool
is_suspended (HeldBack w) = true
is_suspended (Waiting w) = true
is_suspended _ = false

abbrev pub is_holding : State → Bool
is_holding (Holding w) = true
is_holding _ = false

-- its job could use a processor: it waits for nothing
abbrev pub is_ready : State → Bool
is_ready Going = true
is_ready (Holding w) = true
is_ready _ = false

abbrev pub nothing : Wanted
nothing = record { resource = 0; mode = Write }

-- what a task in this state has asked for and not given back
abbrev pub wanted_of : State → Wanted
wanted_of (HeldBack w) = w
wanted_of (Waiting w) = w
wanted_of (Holding w) = w
wanted_of _ = nothing

-- the state after a request entered the bank, and after an ask
abbrev pub issued_state : Bool → Wanted → State
issued_state true w = Holding w
issued_state false w = Waiting w

abbrev pub asked_state : Asked → Wanted → State
asked_state Hold w = Holding w
asked_state Wait w = Waiting w
asked_state Back w = HeldBack w

-- the record of a task without a job, and of a job that was just released
abbrev pub idle_task : Task
idle_task = record { state = Idle; release = 0; used = 0; blocked = 0 }

abbrev pub released_task : ℕ → Task
released_task n = record idle_task { state = Going; release = n }

-- the same job in another state, with 0 ticks used
abbrev pub in_state : State → Task → Task
in_state st k = record k { state = st; used = 0 }
