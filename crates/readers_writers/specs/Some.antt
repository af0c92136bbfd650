-- Tests over the entries of a list.
use Rattle.std.specs.Prelude.{◌≡◌, ℕ, ◌+◌, ◌≤◌, Bool, true, false, cond, List, [], ◌∷◌, length, refl}
use Rattle.std.proofs.Common.{arith}
use Rattle.std.proofs.lemmas.Bool.{or_parts, or_from, cond-false}
use Rattle.std.proofs.lemmas.Bool.Decides.{nat_tests}
use Rattle.readers_writers.specs.Lines.{some, count_of, is_holder}
use Rattle.readers_writers.specs.Kept.{waits}
use Rattle.readers_writers.specs.declared.entry.Entry.{Entry}

module _ (f : Entry → Bool) where
  pub some_count : (es : List Entry) → some f es ≡ false → count_of f es ≡ 0
  some_count [] z = refl
  some_count (e ∷ es) z =
      let p = or_parts (f e) (some f es) z in
      let a : ◌≡◌ {A = ℕ} (cond (f e) 1 0) 0 = cond-false (f e) 1 0 p.0 in
      omega (arith, some_count es p.1)

  pub some_least : (es : List Entry) → some f es ≡ true → 1 ≤ count_of f es
  some_least [] z = absurd (grind (arith, nat_tests))
  some_least (e ∷ es) z = let more : some f es ≡ true → 1 ≤ count_of f es = some_least es in grind (arith, nat_tests)

pub some_fewer : (f g : Entry → Bool) → ((e : Entry) → f e ≡ false → g e ≡ false) → (es : List Entry) → some f es ≡ false → some g es ≡ false
some_fewer f g h [] z = refl
some_fewer f g h (e ∷ es) z = let p = or_parts (f e) (some f es) z in or_from (g e) (some g es) (h e p.0) (some_fewer f g h es p.1)

-- an entry holds or waits
pub waits_or_holds : (es : List Entry) → count_of is_holder es + count_of waits es ≡ length es
waits_or_holds [] = refl
waits_or_holds (e ∷ es) = let more = waits_or_holds es in grind (arith, nat_tests)
