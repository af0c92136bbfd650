-- The parties of a resource, in order of entry.
use Rattle.std.specs.Prelude.{ℕ, ◌+◌, cond, List, [], ◌∷◌, ◌==◌, take, replicate, refl}
use Rattle.std.proofs.Common.{arith}
use Rattle.bank.specs.declared.size.TheConstants.{PARTIES}
use Rattle.byte_vec.specs.Filled.{Filled}
use Rattle.slots.specs.declared.line.Line.{Line}

abbrev pub row : Line → List ℕ
row l = take l.size l.parties

-- places that are all 0, and nobody in them
pub all_free : Filled PARTIES (replicate PARTIES 0) 0
all_free = record { whole = refl; within = omega arith; behind = refl }

-- a line with no slots and nobody in it
abbrev pub bare : Line
bare = record { slots = 0; parties = replicate PARTIES 0; size = 0; filled = all_free }

-- the first place of a party, or the length of the row if it is not there
abbrev pub place : ℕ → List ℕ → ℕ
place p [] = 0
place p (q ∷ ps) = cond (q == p) 0 (place p ps + 1)
