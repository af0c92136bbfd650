-- That a bank fits, by the questions and in words.
use Rattle.std.proofs.Common.{◌≡◌, ℕ, ◌<◌, Bool, true, false, eqb, List, [], ◌∷◌, length, sym, refl, ap, arith}
use Rattle.std.proofs.lemmas.Bool.{and_parts, and_from, eqb-true, eq-eqb, both_ways, false≢true}
use Rattle.std.specs.Bool.{beq}
use Rattle.bank.specs.Meaning.{Lists}
use Rattle.bank.specs.Questions.{Told}
use Rattle.bank.specs.declared.request.Request.{Request}
use Rattle.plan.specs.Contents.{Contents, processors, resource_count}
use Rattle.rules.specs.Fits.{BankFits}
use Rattle.rules.specs.Questions.{fits_at, fits, slots_in, reads_in}
use Rattle.rules.proofs.Counts.{all_below_lem, all_below_from}

empty_list : (xs : List Request) → length xs ≡ 0 → xs ≡ []
empty_list [] e = refl
empty_list (x ∷ xs) e = absurd (omega arith)

same_bool : (b c : Bool) → beq b c ≡ true → b ≡ c
same_bool true true e = refl
same_bool true false e = absurd (false≢true e)
same_bool false true e = absurd (false≢true e)
same_bool false false e = refl

equal_self : (b c : Bool) → b ≡ c → beq b c ≡ true
equal_self true true e = refl
equal_self true false e = absurd (false≢true (sym e))
equal_self false true e = absurd (false≢true e)
equal_self false false e = refl

module _ (c : Contents) (t : Told) (lists : Lists) where
  abbrev Each : ℕ → Type 0
  Each r = (t.slots r ≡ slots_in c r) × (t.reads r ≡ reads_in c r) × (lists r ≡ [])

  at_parts : (r : ℕ) → fits_at c t lists r ≡ true → Each r
  at_parts r e =
      let x = and_parts (eqb (t.slots r) (slots_in c r)) _ e in
      let y = and_parts (beq (t.reads r) (reads_in c r)) _ x.1 in
      (eqb-true (t.slots r) (slots_in c r) x.0, same_bool _ _ y.0, empty_list (lists r) (eqb-true (length (lists r)) 0 y.1))

  at_from : (r : ℕ) → Each r → fits_at c t lists r ≡ true
  at_from r e =
      and_from (eqb (t.slots r) (slots_in c r)) _ (eq-eqb (t.slots r) (slots_in c r) e.0)
      (and_from (beq (t.reads r) (reads_in c r)) _ (equal_self _ _ e.1) (eq-eqb (length (lists r)) 0 (ap length e.2)))

  pub fits_true : fits c t lists ≡ true → BankFits c t lists
  fits_true e =
      let x = and_parts (eqb t.resources (resource_count c)) _ e in
      let y = and_parts (eqb t.seats (processors c)) _ x.1 in
      let each : (r : ℕ) → r < resource_count c → Each r = λ r lt. at_parts r (all_below_lem (fits_at c t lists) (resource_count c) y.1 r lt) in
      record {
        resources = eqb-true t.resources (resource_count c) x.0;
        seats = eqb-true t.seats (processors c) y.0;
        slots = λ r lt. (each r lt).0;
        modes = λ r lt. (each r lt).1;
        nobody = λ r lt. (each r lt).2;
      }

  pub fits_from : BankFits c t lists → fits c t lists ≡ true
  fits_from f =
      and_from (eqb t.resources (resource_count c)) _ (eq-eqb t.resources (resource_count c) f.resources)
      (and_from (eqb t.seats (processors c)) _ (eq-eqb t.seats (processors c) f.seats)
      (all_below_from (fits_at c t lists) (resource_count c) (λ r lt. at_from r (f.slots r lt, f.modes r lt, f.nobody r lt))))

  pub fits_false : fits c t lists ≡ false → BankFits c t lists → ⊥
  fits_false e f = both_ways (fits c t lists) e (fits_from f)
