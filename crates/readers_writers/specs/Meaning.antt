-- The laws of a bank hold of readers and writers.
use Rattle.std.specs.Prelude.{ℕ, ◌<◌, ◌≤◌}
use Rattle.std.proofs.Common.{arith}
use Rattle.bank.specs.Meaning.{Small, Sound}
use Rattle.bank.specs.declared.request.Mode.{Mode}
use Rattle.bank.specs.declared.size.TheConstants.{PARTIES, MOST_TURNS}
use Rattle.bank.specs.declared.request.Mode.TheVariants.{Write, Read}
use Rattle.readers_writers.specs.ReadersWriters.{told_of, active_of, entries_of}
use Rattle.readers_writers.specs.Lines.{turn_limit}
use Rattle.readers_writers.specs.Sound.{sound}
use Rattle.readers_writers.specs.declared.lines.ReadersWriters.{ReadersWriters}

low : (s : ℕ) (m : Mode) → s ≤ PARTIES → turn_limit s m ≤ MOST_TURNS
low s Write l = omega arith
low s Read l = omega arith

pub is_small : (b : ReadersWriters) → Small (told_of b)
is_small b = record { resources = b.few; some = b.seated; seats = b.most; limits = λ r m l k. low b.seats m b.most }

pub is_sound : (b : ReadersWriters) (r : ℕ) → r < b.count → Sound (told_of b) r (active_of b r)
is_sound b r l =
    let k = b.kept r l in
    sound b.count b.seats r (entries_of b r) k.2 k.1 k.0
