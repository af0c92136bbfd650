-- The places of the entries that are looked for.
use Rattle.std.specs.Prelude.{◌≡◌, ℕ, zero, suc, ◌+◌, ◌<◌, Bool, true, false, cond, not, List, [], ◌∷◌, ◌++◌, map, length, get_or, take, drop, set, Some, ◌==◌, nat_eq, nat_lt, slice_index_or, slice_set, refl}
use Rattle.std.proofs.Common.{sym, ap, ◌∙◌, ⊎_elim, add-one, add-zero, arith}
use Rattle.std.specs.List.{slice_get}
use Rattle.std.proofs.lemmas.List.{take_more, drop_more}
use Rattle.std.proofs.lemmas.Bool.{false≢true, cond-true, cond-false, cases_Bool, ltb-true}
use Rattle.std.proofs.lemmas.Bool.Decides.{nat_tests}
use Rattle.bank.specs.Lists.{request_of as request_in}
use Rattle.readers_writers.specs.Lines.{some, count_of, is_writer, holder_of, removed, mode_of, reads_hold, writer_holds, request_of, requests_from}
use Rattle.readers_writers.specs.Places.{place_of, read_held}
use Rattle.readers_writers.specs.declared.entry.Entry.{Entry}
use Rattle.readers_writers.proofs.Pushed.{held, count_push}
use Rattle.readers_writers.specs.Sound.{request_party}

module _ (f : Entry → Bool) where
  pub count_more : (es : List Entry) (i : ℕ) (d : Entry) → i < length es → count_of f (take (i + 1) es) ≡ count_of f (take i es) + cond (f (slice_index_or es i d)) 1 0
  count_more es i d l = ap (count_of f) (take_more es i d l) ∙ count_push f (take i es) (slice_index_or es i d)

  pub place_more : (es : List Entry) (i : ℕ) (d : Entry) → i < length es → place_of f (drop i es) ≡ cond (f (slice_index_or es i d)) 0 (place_of f (drop (i + 1) es) + 1)
  place_more es i d l = ap (place_of f) (drop_more es i d l)

  place_here : (e : Entry) (es : List Entry) → f e ≡ true → place_of f (e ∷ es) ≡ 0
  place_here e es t = cond-true (f e) 0 (place_of f es + 1) t

  place_there : (e : Entry) (es : List Entry) → f e ≡ false → place_of f (e ∷ es) ≡ suc (place_of f es)
  place_there e es t = cond-false (f e) 0 (place_of f es + 1) t ∙ add-one (place_of f es)

  pub place_some : (es : List Entry) → nat_lt (place_of f es) (length es) ≡ some f es
  place_some [] = refl
  place_some (e ∷ es) = let more = place_some es in ⊎_elim (λ t. let k = place_here e es t in grind (arith, nat_tests)) (λ t. let k = place_there e es t in grind (arith, nat_tests)) (cases_Bool (f e))

pub removed_at : (p : ℕ) (es : List Entry) → some (holder_of p) es ≡ true → removed p es ≡ take (place_of (holder_of p) es) es ++ drop (suc (place_of (holder_of p) es)) es
removed_at p [] z = refl
removed_at p (e ∷ es) z =
    ⊎_elim
    (λ (t : holder_of p e ≡ true). cond-true (holder_of p e) es (e ∷ removed p es) t ∙ ap (λ k. take k (e ∷ es) ++ drop (suc k) (e ∷ es)) (sym (place_here (holder_of p) e es t)))
    (λ (t : holder_of p e ≡ false). cond-false (holder_of p e) es (e ∷ removed p es) t ∙ (ap (λ ys. e ∷ ys) (removed_at p es (grind (arith, nat_tests))) ∙ ap (λ k. take k (e ∷ es) ++ drop (suc k) (e ∷ es)) (sym (place_there (holder_of p) e es t))))
    (cases_Bool (holder_of p e))

pub mode_at : (p : ℕ) (es : List Entry) (d : Entry) → some (holder_of p) es ≡ true → mode_of p es ≡ (get_or es (place_of (holder_of p) es) d).mode
mode_at p [] d z = absurd (false≢true z)
mode_at p (e ∷ es) d z =
    ⊎_elim
    (λ (t : holder_of p e ≡ true). cond-true (holder_of p e) e.mode (mode_of p es) t ∙ ap (λ k. (get_or (e ∷ es) k d).mode) (sym (place_here (holder_of p) e es t)))
    (λ (t : holder_of p e ≡ false). cond-false (holder_of p e) e.mode (mode_of p es) t ∙ (mode_at p es d (grind (arith, nat_tests)) ∙ ap (λ k. (get_or (e ∷ es) k d).mode) (sym (place_there (holder_of p) e es t))))
    (cases_Bool (holder_of p e))

-- the first writer holds, if there is one: past the end nothing is set
pub writer_at : (es : List Entry) (d : Entry) → writer_holds es ≡ slice_set es (place_of is_writer es) (held (slice_index_or es (place_of is_writer es) d))
writer_at [] d = refl
writer_at (e ∷ es) d =
    ⊎_elim
    (λ (t : is_writer e ≡ true). cond-true (is_writer e) (held e ∷ es) (e ∷ writer_holds es) t ∙ ap (λ k. set (e ∷ es) k (held (slice_index_or (e ∷ es) k d))) (sym (place_here is_writer e es t)))
    (λ (t : is_writer e ≡ false). cond-false (is_writer e) (held e ∷ es) (e ∷ writer_holds es) t ∙ (ap (λ ys. e ∷ ys) (writer_at es d) ∙ ap (λ k. set (e ∷ es) k (held (slice_index_or (e ∷ es) k d))) (sym (place_there is_writer e es t))))
    (cases_Bool (is_writer e))

-- reads hold one by one
pub reads_map : (es : List Entry) → reads_hold es ≡ map read_held es
reads_map [] = refl
reads_map (e ∷ es) = ap (λ ys. read_held e ∷ ys) (reads_map es)

-- the request at a place, and that of a party
pub request_at_lem : (b : Bool) (h n : ℕ) (es : List Entry) (i : ℕ) (d : Entry) → i < length es → slice_get (requests_from b h n es) i ≡ Some (request_of b h (n + count_of is_writer (take i es)) (slice_index_or es i d))
request_at_lem b h n [] i d l = absurd (omega arith)
request_at_lem b h n (e ∷ es) zero d l = ap (λ k. Some (request_of b h k e)) (sym (add-zero n))
request_at_lem b h n (e ∷ es) (suc i) d l =
    let k : (n + cond (is_writer e) 1 0) + count_of is_writer (take i es) ≡ n + count_of is_writer (take (suc i) (e ∷ es)) = omega arith in
    request_at_lem b h (n + cond (is_writer e) 1 0) es i d (omega arith) ∙ ap (λ k. Some (request_of b h k (slice_index_or es i d))) k

pub length_requests : (b : Bool) (h n : ℕ) (es : List Entry) → length (requests_from b h n es) ≡ length es
length_requests b h n [] = refl
length_requests b h n (e ∷ es) = ap suc (length_requests b h (n + cond (is_writer e) 1 0) es)

pub request_of_lem : (p : ℕ) (b : Bool) (h n : ℕ) (es : List Entry) → request_in p (requests_from b h n es) ≡ slice_get (requests_from b h n es) (place_of (λ e. nat_eq e.party p) es)
request_of_lem p b h n [] = refl
request_of_lem p b h n (e ∷ es) =
    let f : Entry → Bool = λ x. nat_eq x.party p in
    let a = request_of b h n e in
    let xs = requests_from b h (n + cond (is_writer e) 1 0) es in
    let s : nat_eq a.party p ≡ f e = ap (λ q. nat_eq q p) (request_party b h n e) in
    ⊎_elim
    (λ (t : f e ≡ true). cond-true (a.party == p) (Some a) (request_in p xs) (s ∙ t) ∙ ap (slice_get (a ∷ xs)) (sym (place_here f e es t)))
    (λ (t : f e ≡ false). cond-false (a.party == p) (Some a) (request_in p xs) (s ∙ t) ∙ (request_of_lem p b h (n + cond (is_writer e) 1 0) es ∙ ap (slice_get (a ∷ xs)) (sym (place_there f e es t))))
    (cases_Bool (f e))

pub nobody : (es : List Entry) → not (some (λ e. true) es) ≡ (length es == 0)
nobody [] = refl
nobody (e ∷ es) = grind (arith, nat_tests)
