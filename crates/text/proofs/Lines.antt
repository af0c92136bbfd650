-- A text cut behind its first newline.
use Rattle.std.proofs.Common.{◌≡◌, ℕ, suc, ◌+◌, min, true, false, eqb, List, [], ◌∷◌, length, take, drop, sym, refl, ap, ◌∙◌, subst, ⊎_elim, arith}
use Rattle.std.proofs.lemmas.List.{take_all, drop_all}
use Rattle.std.proofs.lemmas.Bool.{cases_Bool, cases_lt}
use Rattle.text.specs.Lines.{before_newline, join_first, CutsLine}

cuts_behind : (s : List ℕ) → CutsLine s (take (before_newline s + 1) s) (drop (before_newline s + 1) s)
cuts_behind [] = (refl, refl)
cuts_behind (b ∷ []) = ⊎_elim (λ (e : eqb b 10 ≡ true). rw e (refl, omega arith, refl)) (λ (e : eqb b 10 ≡ false). rw e (refl, omega arith, refl)) (cases_Bool (eqb b 10))
cuts_behind (b ∷ c ∷ cs) =
    let p : ℕ = before_newline (c ∷ cs) in
    let k : (1 + p) + 1 ≡ suc (p + 1) = omega arith in
    let r = cuts_behind (c ∷ cs) in
    ⊎_elim
    (λ (e : eqb b 10 ≡ true). rw e (refl, omega arith, refl))
    (λ (e : eqb b 10 ≡ false). rw (e, k) (ap (λ ys. b ∷ ys) r.0, omega arith, ap (join_first b) r.2))
    (cases_Bool (eqb b 10))

-- the same where the cut is held within the text
pub cuts_line : (s : List ℕ) (n : ℕ) → n ≡ min (before_newline s + 1) (length s) → CutsLine s (take n s) (drop n s)
cuts_line s n e =
    ⊎_elim
    (λ lt. let m : n ≡ before_newline s + 1 = omega arith in subst (λ k. CutsLine s (take k s) (drop k s)) (sym m) (cuts_behind s))
    (λ le.
    let m : n ≡ length s = omega arith in
    let t : take (before_newline s + 1) s ≡ take n s = take_all _ s (omega arith) ∙ sym (take_all n s (omega arith)) in
    let d : drop (before_newline s + 1) s ≡ drop n s = drop_all _ s (omega arith) ∙ sym (drop_all n s (omega arith)) in
    subst (λ y. CutsLine s (take n s) y) d (subst (λ x. CutsLine s x (drop (before_newline s + 1) s)) t (cuts_behind s)))
    (cases_lt (before_newline s + 1) (length s))
