-- What the entries of a resource always keep.
use Rattle.std.specs.Prelude.{Bool, true, cond, not, ◌&&◌, ◌||◌, List, [], ◌∷◌, nat_lt}
use Rattle.bank.specs.declared.size.TheConstants.{PARTIES}
use Rattle.readers_writers.specs.Lines.{some, is_holder, is_writer, holding_writer, collected}
use Rattle.readers_writers.specs.declared.entry.Entry.{Entry}

-- every entry before the first writer holds
abbrev pub ordered : List Entry → Bool
ordered [] = true
ordered (e ∷ es) = is_writer e || (e.holds && ordered es)

-- nobody is active; or a writer holds alone, first of the list; or reads hold, no writer does, and
-- every entry before the first writer holds
abbrev pub good : List Entry → Bool
good [] = true
good (e ∷ es) =
    cond (holding_writer e) (not (some is_holder es))
    (some is_holder (e ∷ es) && (not (some holding_writer (e ∷ es)) && ordered (e ∷ es)))

-- every party is one of those that may be
abbrev pub named : List Entry → Bool
named [] = true
named (e ∷ es) = nat_lt e.party PARTIES && named es

abbrev pub waits : Entry → Bool
waits e = not e.holds

-- nothing waits where it could hold: something waits only while something holds, and a read only
-- while a writer is active
abbrev pub settled : List Entry → Bool
settled es =
    (not (some waits es) || some is_holder es) && (not (some collected es) || some is_writer es)
