-- A pair of banks that leave no choice leaves none.
use Rattle.std.proofs.Common.{◌≡◌, ℕ, ◌-◌, ◌<◌, ◌≤◌, Ok, sym, ap, ◌∙◌, subst, ⊎_elim, arith}
use Rattle.std.specs.Prelude.{⊤}
use Rattle.std.proofs.lemmas.Bool.{cases_lt}
use Rattle.bank.specs.Exact.{Exact}
use Rattle.bank.specs.Meaning.{Lists}
use Rattle.bank.specs.Questions.{Told}
use Rattle.bank.specs.declared.meaning.Bank.{Ghosts}
use Rattle.pair.specs.Known.{SameParts, PartChanged, pair_ghosts}
use Rattle.pair.specs.Pairs.{pair_told, pair_active}
use Rattle.pair.specs.declared.pair.Pair.{Pair}

module _ {A B : Type 0} (a : Ghosts A) (b : Ghosts B) (First : A → A → Type 0) (Second : B → B → Type 0) (f : Exact a First) (s : Exact b Second) where
  abbrev Alike : Pair A B → Pair A B → Type 0
  Alike = SameParts First Second

  tells : (x y : Pair A B) → Alike x y → (pair_ghosts a b).told x ≡ (pair_ghosts a b).told y
  tells x y e = ap (λ t. pair_told t (b.told x.second)) (f.tells _ _ e.first) ∙ ap (pair_told (a.told y.first)) (s.tells _ _ e.second)

  lists : (x y : Pair A B) → Alike x y → (pair_ghosts a b).active x ≡ (pair_ghosts a b).active y
  lists x y e =
      ap (λ t. pair_active t (a.active x.first) (b.active x.second)) (f.tells _ _ e.first)
      ∙ (ap (λ (l : Lists). pair_active (a.told y.first) l (b.active x.second)) (f.lists _ _ e.first)
      ∙ ap (pair_active (a.told y.first) (a.active y.first)) (s.lists _ _ e.second))

  -- where the part of a resource changes alike, so does the pair
  module _ (P : Type 0) (r : ℕ) (g g' : ℕ → A → A → Type 0) (h h' : ℕ → B → B → Type 0) (x y u v : Pair A B) (e : Alike x y) where
    parts : ((q : ℕ) → g q x.first u.first → g' q y.first v.first → P × First u.first v.first)
        → ((q : ℕ) → h q x.second u.second → h' q y.second v.second → P × Second u.second v.second)
        → PartChanged a b g h r x u → PartChanged a b g' h' r y v → P × Alike u v
    parts one other c d =
        let n : (a.told x.first).resources ≡ (a.told y.first).resources = ap (λ (t : Told). t.resources) (f.tells _ _ e.first) in
        ⊎_elim
        (λ (lt : r < (a.told x.first).resources).
        let i = c.in_first lt in
        let j = d.in_first (omega (arith, n, lt)) in
        let k = one r i.part j.part in
        (k.0, record { first = k.1; second = subst (λ z. Second z v.second) (sym i.other) (subst (Second x.second) (sym j.other) e.second) }))
        (λ (le : (a.told x.first).resources ≤ r).
        let i = c.in_second le in
        let j = d.in_second (omega (arith, n, le)) in
        let k = other (r - (a.told x.first).resources) i.part (subst (λ m. h' (r - m) y.second v.second) (sym n) j.part) in
        (k.0, record { first = subst (λ z. First z v.first) (sym i.other) (subst (First x.first) (sym j.other) e.first); second = k.1 }))
        (cases_lt r (a.told x.first).resources)

  pub pair_exact : Exact (pair_ghosts a b) Alike
  pair_exact = record {
    tells = tells;
    lists = lists;
    enter = λ r p m h j x y u v e c d.
        parts (h ≡ j) r (λ q. a.entered q p m (Ok h)) (λ q. a.entered q p m (Ok j)) (λ q. b.entered q p m (Ok h)) (λ q. b.entered q p m (Ok j)) x y u v e
        (λ q i k. f.enter q p m h j _ _ _ _ e.first i k) (λ q i k. s.enter q p m h j _ _ _ _ e.second i k) c d;
    leave = λ r p x y u v e c d.
        (parts ⊤ r (λ q. a.left q p (Ok tt)) (λ q. a.left q p (Ok tt)) (λ q. b.left q p (Ok tt)) (λ q. b.left q p (Ok tt)) x y u v e
        (λ q i k. (tt, f.leave q p _ _ _ _ e.first i k)) (λ q i k. (tt, s.leave q p _ _ _ _ e.second i k)) c d).1;
  }
