-- A reader-writer resource: its entries in order of entry, each with its mode and whether it holds.
use Rattle.std.specs.Prelude.{ℕ, ◌+◌, ◌-◌, ◌*◌, min, Bool, true, cond, not, ◌&&◌, List, [], ◌∷◌, ◌++◌, ◌==◌}
use Rattle.std.specs.List.{list_any}
use Rattle.bank.specs.Lists.{is_write}
use Rattle.bank.specs.declared.request.Mode.{Mode}
use Rattle.bank.specs.declared.request.Mode.TheVariants.{Write, Read}
use Rattle.bank.specs.declared.request.Request.{Request}
use Rattle.readers_writers.specs.declared.entry.Entry.{Entry}
use Rattle.bank.specs.declared.request.Standing.TheVariants.{Holds, Waits}

abbrev pub some : (Entry → Bool) → List Entry → Bool
some test es = list_any test es

abbrev pub count_of : (Entry → Bool) → List Entry → ℕ
count_of test [] = 0
count_of test (e ∷ es) = cond (test e) 1 0 + count_of test es

abbrev pub is_holder : Entry → Bool
is_holder e = e.holds

abbrev pub is_writer : Entry → Bool
is_writer e = is_write e.mode

-- a writer that holds; a read that is collected
abbrev pub holding_writer : Entry → Bool
holding_writer e = e.holds && is_write e.mode

abbrev pub collected : Entry → Bool
collected e = not e.holds && not (is_write e.mode)

-- who holds at once: a read unless some writer is in the list, a write only where the list is empty
abbrev pub admits : List Entry → Mode → Bool
admits es Read = not (some is_writer es)
admits es Write = not (some (λ e. true) es)

abbrev pub entered : List Entry → ℕ → Mode → List Entry
entered es p m = es ++ (record { party = p; mode = m; holds = admits es m } ∷ [])

-- the list without the first holder of a party, and that holder's mode
abbrev pub holder_of : ℕ → Entry → Bool
holder_of p e = e.party == p && e.holds

abbrev pub removed : ℕ → List Entry → List Entry
removed p [] = []
removed p (e ∷ es) = cond (holder_of p e) es (e ∷ removed p es)

abbrev pub mode_of : ℕ → List Entry → Mode
mode_of p [] = Read
mode_of p (e ∷ es) = cond (holder_of p e) e.mode (mode_of p es)

-- all reads hold together; the first writer holds
abbrev pub reads_hold : List Entry → List Entry
reads_hold [] = []
reads_hold (e ∷ es) = cond (is_writer e) e (record e { holds = true }) ∷ reads_hold es

abbrev pub writer_holds : List Entry → List Entry
writer_holds [] = []
writer_holds (e ∷ es) =
    cond (is_writer e) (record e { holds = true } ∷ es) (e ∷ writer_holds es)

-- what the others become when a holder of this mode has left: while one of them holds, they stay as
-- they are. Behind a writer all reads that were collected go first, in one group; without any, or
-- behind a read, the first writer goes
abbrev pub passed : Mode → List Entry → List Entry
passed m es =
    cond (some is_holder es) es
    (cond (is_write m && some collected es) (reads_hold es) (writer_holds es))

abbrev pub left : List Entry → ℕ → List Entry
left es p = passed (mode_of p es) (removed p es)

-- the turns of a waiting entry with n active writers before it, while a writer holds or reads hold
abbrev pub turns : Bool → ℕ → Mode → ℕ
turns writing n Write = cond writing (2 * n) (2 * n + 1)
turns writing n Read = cond writing 1 2

-- the entries as requests: whether a writer holds, how many hold, how many writers came before
abbrev pub request_of : Bool → ℕ → ℕ → Entry → Request
request_of writing h n e =
    cond e.holds (record { party = e.party; mode = e.mode; standing = Holds })
    (record { party = e.party; mode = e.mode; standing = Waits (turns writing n e.mode) h })

abbrev pub requests_from : Bool → ℕ → ℕ → List Entry → List Request
requests_from writing h n [] = []
requests_from writing h n (e ∷ es) =
    request_of writing h n e ∷ requests_from writing h (n + cond (is_writer e) 1 0) es

-- the active requests
abbrev pub requests : List Entry → List Request
requests es = requests_from (some holding_writer es) (count_of is_holder es) 0 es

-- the turn limits with m seats
abbrev pub turn_limit : ℕ → Mode → ℕ
turn_limit m Write = 2 * m - 2
turn_limit m Read = min 2 (m - 1)
