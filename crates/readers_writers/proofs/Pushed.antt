-- Tests over the entries of a list with one entry more.
use Rattle.std.specs.Prelude.{◌≡◌, ◌+◌, Bool, true, cond, ◌||◌, List, [], ◌∷◌, ◌++◌}
use Rattle.std.proofs.Common.{arith}
use Rattle.std.proofs.lemmas.Bool.Decides.{nat_tests}
use Rattle.readers_writers.specs.Lines.{some, count_of}
use Rattle.readers_writers.specs.declared.entry.Entry.{Entry}

-- an entry that holds
abbrev pub held : Entry → Entry
held e = record e { holds = true }

module _ (f : Entry → Bool) where
  pub some_push : (es : List Entry) (x : Entry) → some f (es ++ (x ∷ [])) ≡ (some f es || f x)
  some_push [] x = grind (arith, nat_tests)
  some_push (e ∷ es) x = let more = some_push es x in grind (arith, nat_tests)

  pub count_push : (es : List Entry) (x : Entry) → count_of f (es ++ (x ∷ [])) ≡ count_of f es + cond (f x) 1 0
  count_push [] x = omega arith
  count_push (e ∷ es) x = omega (arith, count_push es x)
