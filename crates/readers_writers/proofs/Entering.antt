-- What an enter does to the entries, and to the requests.
use Rattle.std.specs.Prelude.{◌≡◌, ℕ, ◌+◌, ◌<◌, Bool, true, false, cond, not, ◌||◌, ◌⊎◌, List, [], ◌∷◌, ◌++◌, refl}
use Rattle.std.proofs.Common.{sym, ap, ◌∙◌, inl, inr, ⊎_elim, arith, add-zero}
use Rattle.std.proofs.lemmas.Bool.{true≢false, and_parts, and_from, or_parts, or_from, or_left, or_right, not_from_true, not_from_false, cond-true, cases_Bool}
use Rattle.std.proofs.lemmas.Bool.Decides.{nat_tests}
use Rattle.bank.specs.Meaning.{Added}
use Rattle.bank.specs.declared.request.Mode.{Mode}
use Rattle.bank.specs.declared.request.Mode.TheVariants.{Write, Read}
use Rattle.bank.specs.declared.request.Request.{Request}
use Rattle.bank.specs.declared.size.TheConstants.{PARTIES}
use Rattle.readers_writers.specs.Lines.{some, count_of, is_holder, is_writer, holding_writer, collected, admits, entered, request_of, requests_from, requests}
use Rattle.readers_writers.specs.Kept.{ordered, good, named, waits, settled}
use Rattle.readers_writers.specs.declared.entry.Entry.{Entry}
use Rattle.readers_writers.proofs.Pushed.{some_push, count_push}
use Rattle.readers_writers.proofs.Leaving.{good_reading}
use Rattle.readers_writers.specs.Sound.{ways, request_party, request_mode, request_holds}
use Rattle.bank.specs.declared.request.Standing.TheVariants.{Holds}

ordered_push : (es : List Entry) (x : Entry) → ordered es ≡ true → (some is_writer es || (is_writer x || x.holds)) ≡ true → ordered (es ++ (x ∷ [])) ≡ true
ordered_push [] x o h = grind (arith, nat_tests)
ordered_push (e ∷ es) x o h =
    let more : ordered es ≡ true → (some is_writer es || (is_writer x || x.holds)) ≡ true → ordered (es ++ (x ∷ [])) ≡ true = ordered_push es x in
    grind (arith, nat_tests)

pub named_push : (es : List Entry) (x : Entry) → named es ≡ true → x.party < PARTIES → named (es ++ (x ∷ [])) ≡ true
named_push [] x n l = grind (arith, nat_tests)
named_push (e ∷ es) x n l = let more : named es ≡ true → named (es ++ (x ∷ [])) ≡ true = λ h. named_push es x h l in grind (arith, nat_tests)

-- one who waits at the end
good_wait : (e : Entry) (es : List Entry) (x : Entry) → x.holds ≡ false → good (e ∷ es) ≡ true → (some is_writer (e ∷ es) || (is_writer x || x.holds)) ≡ true → good ((e ∷ es) ++ (x ∷ [])) ≡ true
good_wait e es x z g h =
    ⊎_elim
    (λ w. cond-true (holding_writer e) _ _ w.0 ∙ not_from_false _ (some_push is_holder es x ∙ or_from _ _ w.1 z))
    (λ w. good_reading ((e ∷ es) ++ (x ∷ [])) (some_push is_holder (e ∷ es) x ∙ or_left _ _ w.0) (some_push holding_writer (e ∷ es) x ∙ or_from _ _ w.1 (grind (arith, nat_tests))) (ordered_push (e ∷ es) x w.2 h))
    (ways e es g)

-- a read that joins the reads
good_join : (es : List Entry) (x : Entry) → x.holds ≡ true → is_writer x ≡ false → some is_writer es ≡ false → good es ≡ true → good (es ++ (x ∷ [])) ≡ true
good_join [] x z r n g = good_reading (x ∷ []) (grind (arith, nat_tests)) (grind (arith, nat_tests)) (grind (arith, nat_tests))
good_join (e ∷ es) x z r n g =
    ⊎_elim
    (λ w. absurd (true≢false (sym (and_parts e.holds (is_writer e) w.0).1 ∙ (or_parts _ _ n).0)))
    (λ w. good_reading ((e ∷ es) ++ (x ∷ [])) (some_push is_holder (e ∷ es) x ∙ or_left _ _ w.0) (some_push holding_writer (e ∷ es) x ∙ or_from _ _ w.1 (grind (arith, nat_tests))) (ordered_push (e ∷ es) x w.2 (grind (arith, nat_tests))))
    (ways e es g)

pub good_entered : (es : List Entry) (p : ℕ) (m : Mode) → good es ≡ true → good (entered es p m) ≡ true
good_entered [] p Write g = refl
good_entered [] p Read g = refl
good_entered (e ∷ es) p Write g = good_wait e es (record { party = p; mode = Write; holds = false }) refl g (grind (arith, nat_tests))
good_entered (e ∷ es) p Read g =
    ⊎_elim
    (λ (t : some is_writer (e ∷ es) ≡ true). good_wait e es (record { party = p; mode = Read; holds = not (some is_writer (e ∷ es)) }) (not_from_true _ t) g (or_left _ _ t))
    (λ (t : some is_writer (e ∷ es) ≡ false). good_join (e ∷ es) (record { party = p; mode = Read; holds = not (some is_writer (e ∷ es)) }) (not_from_false _ t) refl t g)
    (cases_Bool (some is_writer (e ∷ es)))

requests_push : (b : Bool) (h n : ℕ) (es : List Entry) (x : Entry) → requests_from b h n (es ++ (x ∷ [])) ≡ requests_from b h n es ++ (request_of b h (n + count_of is_writer es) x ∷ [])
requests_push b h n [] x = ap (λ k. request_of b h k x ∷ []) (sym (add-zero n))
requests_push b h n (e ∷ es) x =
    let i : (n + cond (is_writer e) 1 0) + count_of is_writer es ≡ n + count_of is_writer (e ∷ es) = omega arith in
    ap (λ ys. request_of b h n e ∷ ys) (requests_push b h (n + cond (is_writer e) 1 0) es x ∙ ap (λ k. requests_from b h (n + cond (is_writer e) 1 0) es ++ (request_of b h k x ∷ [])) i)

-- with no writer active everyone holds
all_hold : (b : Bool) (h k n : ℕ) (es : List Entry) → ordered es ≡ true → some is_writer es ≡ false → requests_from b h n es ≡ requests_from b k n es
all_hold b h k n [] o w = refl
all_hold b h k n (e ∷ es) o w =
    let p = or_parts (is_writer e) (some is_writer es) w in
    let a = p.0 in
    let t : e.holds ≡ true = grind (arith, nat_tests) in
    let more = all_hold b h k (n + cond (is_writer e) 1 0) es (grind (arith, nat_tests)) p.1 in
    let a : Request = record { party = e.party; mode = e.mode; standing = Holds } in
    let one : request_of b h n e ≡ request_of b k n e = cond-true e.holds a _ t ∙ sym (cond-true e.holds a _ t) in
    ap (λ a. a ∷ requests_from b h (n + cond (is_writer e) 1 0) es) one ∙ ap (λ ys. request_of b k n e ∷ ys) more

good_ordered : (es : List Entry) → good es ≡ true → ordered es ≡ true
good_ordered [] g = refl
good_ordered (e ∷ es) g = ⊎_elim (λ w. or_left _ _ (and_parts e.holds (is_writer e) w.0).1) (λ w. w.2) (ways e es g)

-- the requests before are as they were
same_requests : (es : List Entry) (x : Entry) → good es ≡ true → (x.holds ≡ false) ⊎ ((some is_writer es ≡ false) × (is_writer x ≡ false)) → requests_from (some holding_writer (es ++ (x ∷ []))) (count_of is_holder (es ++ (x ∷ []))) 0 es ≡ requests es
same_requests es x g how =
    let b : some holding_writer (es ++ (x ∷ [])) ≡ some holding_writer es = some_push holding_writer es x ∙ ⊎_elim (λ z. grind (arith, nat_tests)) (λ z. let y = z.1 in grind (arith, nat_tests)) how in
    ap (λ v. requests_from v (count_of is_holder (es ++ (x ∷ []))) 0 es) b
    ∙ ⊎_elim (λ z. ap (λ k. requests_from (some holding_writer es) k 0 es) (count_push is_holder es x ∙ grind (arith, nat_tests))) (λ z. all_hold _ _ _ 0 es (good_ordered es g) z.0) how

added_by : (es : List Entry) (x : Entry) → good es ≡ true → (x.holds ≡ false) ⊎ ((some is_writer es ≡ false) × (is_writer x ≡ false)) → Added x.party x.mode x.holds (requests es) (requests (es ++ (x ∷ [])))
added_by es x g how =
    let b = some holding_writer (es ++ (x ∷ [])) in
    let h = count_of is_holder (es ++ (x ∷ [])) in
    let a = request_of b h (0 + count_of is_writer es) x in
    record { request = a; list = requests_push b h 0 es x ∙ ap (λ ys. ys ++ (a ∷ [])) (same_requests es x g how); party = request_party b h (0 + count_of is_writer es) x; mode = request_mode b h (0 + count_of is_writer es) x; holds = request_holds b h (0 + count_of is_writer es) x }

pub added : (es : List Entry) (p : ℕ) (m : Mode) → good es ≡ true → Added p m (admits es m) (requests es) (requests (entered es p m))
added [] p Write g = record { request = record { party = p; mode = Write; standing = Holds }; list = refl; party = refl; mode = refl; holds = refl }
added (e ∷ es) p Write g = added_by (e ∷ es) (record { party = p; mode = Write; holds = false }) g (inl refl)
added es p Read g = added_by es (record { party = p; mode = Read; holds = not (some is_writer es) }) g (⊎_elim (λ t. inl (not_from_true _ t)) (λ t. inr (t, refl)) (cases_Bool (some is_writer es)))

-- nothing waits where it could hold
no_wait : (es : List Entry) → ordered es ≡ true → some is_writer es ≡ false → some collected es ≡ false
no_wait [] o w = refl
no_wait (e ∷ es) o w = let more : ordered es ≡ true → some is_writer es ≡ false → some collected es ≡ false = no_wait es in grind (arith, nat_tests)

pub good_settled : (es : List Entry) → good es ≡ true → settled es ≡ true
good_settled [] g = refl
good_settled (e ∷ es) g =
    let o = good_ordered (e ∷ es) g in
    let h : some is_holder (e ∷ es) ≡ true = ⊎_elim (λ w. or_left _ _ (and_parts e.holds (is_writer e) w.0).0) (λ w. w.0) (ways e es g) in
    let c : some is_writer (e ∷ es) ≡ false → some collected (e ∷ es) ≡ false = no_wait (e ∷ es) o in
    and_from (not (some waits (e ∷ es)) || some is_holder (e ∷ es)) (not (some collected (e ∷ es)) || some is_writer (e ∷ es)) (or_right (not (some waits (e ∷ es))) (some is_holder (e ∷ es)) h) (reads_behind (some collected (e ∷ es)) (some is_writer (e ∷ es)) c)
  where
    reads_behind : (x y : Bool) → (y ≡ false → x ≡ false) → (not x || y) ≡ true
    reads_behind true true f = refl
    reads_behind true false f = sym (f refl)
    reads_behind false y f = refl
