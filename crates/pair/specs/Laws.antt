-- A pair of banks keeps the laws of a bank.
use Rattle.std.specs.Prelude.{◌≡◌, ℕ, ◌+◌, ◌-◌, ◌<◌, ◌≤◌, min, Bool, true, false, List, nat_lt, refl}
use Rattle.std.proofs.Common.{sym, ap, ◌∙◌, arith}
use Rattle.std.proofs.ByRecursion.{All-weaker}
use Rattle.std.proofs.lemmas.Bool.{cond-true, cond-false, ltb-true, ltb-false}
use Rattle.bank.specs.Lists.{holders}
use Rattle.bank.specs.Meaning.{Lists, Small, Lawful, Sound}
use Rattle.bank.specs.Questions.{Told, knows}
use Rattle.bank.specs.declared.size.TheConstants.{RESOURCES, MOST_TURNS}
use Rattle.bank.specs.declared.request.Mode.{Mode}
use Rattle.bank.specs.declared.request.Mode.TheVariants.{Write, Read}
use Rattle.bank.specs.declared.request.Request.{Request}
use Rattle.pair.specs.Pairs.{part, pair_told, pair_active}

-- the law of a resource speaks only of what is told there
module _ (s t : Told) (q r : ℕ) (slots : t.slots r ≡ s.slots q) (reads : t.reads r ≡ s.reads q) (limit : t.limit r ≡ s.limit q) where
  pub same_knows : (m : Mode) → knows t r m ≡ knows s q m
  same_knows Write = refl
  same_knows Read = reads

  pub same_limit : (m : Mode) → t.limit r m ≡ s.limit q m
  same_limit m = ap (λ f. f m) limit

  same_lawful : (h : ℕ) (a : Request) → Lawful s q h a → Lawful t r h a
  same_lawful h a l = record {
    party = l.party;
    known = same_knows a.mode ∙ l.known;
    holding = l.holding;
    waiting = λ w. let k = l.waiting w in (k.0, rw (same_limit a.mode) k.1, k.2, k.3);
  }

  pub same_sound : (xs : List Request) → Sound s q xs → Sound t r xs
  same_sound xs e = record { requests = All-weaker (Lawful s q (holders xs)) (Lawful t r (holders xs)) (same_lawful (holders xs)) xs e.requests; writers = rw slots e.writers; apart = e.apart }

module _ (a b : Told) (r : ℕ) where
  pub in_first : {A : Type 0} (f g : ℕ → A) → nat_lt r a.resources ≡ true → part a.resources f g r ≡ f r
  in_first f g e = cond-true (nat_lt r a.resources) (f r) (g (r - a.resources)) e

  pub in_second : {A : Type 0} (f g : ℕ → A) → nat_lt r a.resources ≡ false → part a.resources f g r ≡ g (r - a.resources)
  in_second f g e = cond-false (nat_lt r a.resources) (f r) (g (r - a.resources)) e

  limit_first : (m : Mode) → nat_lt r a.resources ≡ true → Small a → knows (pair_told a b) r m ≡ true → (pair_told a b).limit r m ≤ MOST_TURNS
  limit_first m e small known =
      let l : (pair_told a b).limit r m ≡ a.limit r m = same_limit a (pair_told a b) r r (in_first a.slots b.slots e) (in_first a.reads b.reads e) (in_first a.limit b.limit e) m in
      let k : knows a r m ≡ true = sym (same_knows a (pair_told a b) r r (in_first a.slots b.slots e) (in_first a.reads b.reads e) (in_first a.limit b.limit e) m) ∙ known in
      omega (arith, small.limits r m (ltb-true r a.resources e) k)

  limit_second : (m : Mode) → nat_lt r a.resources ≡ false → r < min RESOURCES (a.resources + b.resources) → Small b → knows (pair_told a b) r m ≡ true → (pair_told a b).limit r m ≤ MOST_TURNS
  limit_second m e lt small known =
      let q : ℕ = r - a.resources in
      let l : (pair_told a b).limit r m ≡ b.limit q m = same_limit b (pair_told a b) q r (in_second a.slots b.slots e) (in_second a.reads b.reads e) (in_second a.limit b.limit e) m in
      let k : knows b q m ≡ true = sym (same_knows b (pair_told a b) q r (in_second a.slots b.slots e) (in_second a.reads b.reads e) (in_second a.limit b.limit e) m) ∙ known in
      let there : q < b.resources = omega (arith, ltb-false r a.resources e) in
      omega (arith, small.limits q m there k)

  sound_at : (first second : Lists) (c : Bool) → nat_lt r a.resources ≡ c → r < min RESOURCES (a.resources + b.resources) → ((q : ℕ) → q < a.resources → Sound a q (first q)) → ((q : ℕ) → q < b.resources → Sound b q (second q)) → Sound (pair_told a b) r (pair_active a first second r)
  sound_at first second true e lt sa sb =
      rw (in_first first second e)
      (same_sound a (pair_told a b) r r (in_first a.slots b.slots e) (in_first a.reads b.reads e) (in_first a.limit b.limit e) (first r) (sa r (ltb-true r a.resources e)))
  sound_at first second false e lt sa sb =
      let there : r - a.resources < b.resources = omega (arith, ltb-false r a.resources e) in
      rw (in_second first second e)
      (same_sound b (pair_told a b) (r - a.resources) r (in_second a.slots b.slots e) (in_second a.reads b.reads e) (in_second a.limit b.limit e) (second (r - a.resources)) (sb (r - a.resources) there))

limits_at : (a b : Told) (r : ℕ) (m : Mode) (c : Bool) → nat_lt r a.resources ≡ c → r < min RESOURCES (a.resources + b.resources) → Small a → Small b → knows (pair_told a b) r m ≡ true → (pair_told a b).limit r m ≤ MOST_TURNS
limits_at a b r m true e lt sa sb known = limit_first a b r m e sa known
limits_at a b r m false e lt sa sb known = limit_second a b r m e lt sb known

pub pair_small : (a b : Told) → Small a → Small b → Small (pair_told a b)
pair_small a b sa sb = record {
  resources = omega arith;
  some = omega (arith, sa.some, sb.some);
  seats = omega (arith, sa.seats);
  limits = λ r m lt known. limits_at a b r m (nat_lt r a.resources) refl lt sa sb known;
}

pub pair_sound : (a b : Told) (first second : Lists) → ((q : ℕ) → q < a.resources → Sound a q (first q)) → ((q : ℕ) → q < b.resources → Sound b q (second q)) → (r : ℕ) → r < min RESOURCES (a.resources + b.resources) → Sound (pair_told a b) r (pair_active a first second r)
pair_sound a b first second sa sb r lt = sound_at a b r first second (nat_lt r a.resources) refl lt sa sb
