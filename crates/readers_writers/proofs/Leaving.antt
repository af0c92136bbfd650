-- What a leave does to the entries, and to the requests.
use Rattle.std.specs.Prelude.{◌≡◌, ℕ, suc, ◌+◌, Bool, true, false, cond, not, ◌&&◌, ◌||◌, List, [], ◌∷◌, length, nat_lt, refl}
use Rattle.std.proofs.Common.{sym, ap, subst, ◌∙◌, inl, inr, ⊎_elim, arith}
use Rattle.std.specs.List.{AllZip}
use Rattle.std.proofs.lemmas.Bool.{true≢false, false≢true, and_parts, and_from, or_parts, or_from, or_left, not_from_false, cond-true, cond-false, cond_both, cases_Bool}
use Rattle.std.proofs.lemmas.Bool.Decides.{nat_tests}
use Rattle.bank.specs.Lists.{without, is_write, holds_by}
use Rattle.bank.specs.Meaning.{Stays}
use Rattle.bank.specs.declared.request.Mode.{Mode}
use Rattle.bank.specs.declared.request.Mode.TheVariants.{Write, Read}
use Rattle.bank.specs.declared.size.TheConstants.{PARTIES}
use Rattle.readers_writers.specs.Lines.{some, count_of, is_holder, is_writer, holding_writer, collected, holder_of, removed, mode_of, reads_hold, writer_holds, passed, left, request_of, requests_from, requests}
use Rattle.readers_writers.specs.Kept.{ordered, good, named}
use Rattle.readers_writers.specs.declared.entry.Entry.{Entry}
use Rattle.readers_writers.specs.Some.{some_fewer}
use Rattle.readers_writers.proofs.Pushed.{held}
use Rattle.readers_writers.specs.Sound.{ways, writing, reading, request_party, request_mode}
use Rattle.readers_writers.proofs.Requests.{holder_same}

-- entries that change nothing but their turns and departures
module _ (b d : Bool) (h k gap : ℕ) (test : Entry → Bool) (step : (i j : ℕ) (e : Entry) → i ≡ j + gap → test e ≡ false → Stays (request_of b h i e) (request_of d k j e)) where
  each_stays : (i j : ℕ) → i ≡ j + gap → (es : List Entry) → some test es ≡ false → AllZip Stays (requests_from b h i es) (requests_from d k j es)
  each_stays i j g [] z = tt
  each_stays i j g (e ∷ es) z = let p = or_parts (test e) (some test es) z in (step i j e g p.0, each_stays (i + cond (is_writer e) 1 0) (j + cond (is_writer e) 1 0) (omega arith) es p.1)

-- another read leaves
one_fewer : (k i p : ℕ) (m : Mode) (g : Bool) → Stays (request_of false (k + 1) i (record { party = p; mode = m; holds = g })) (request_of false k i (record { party = p; mode = m; holds = g }))
one_fewer k i p m true = record { party = refl; mode = refl; holding = λ z. refl; waiting = λ z. absurd (true≢false z) }
one_fewer k i p m false = record { party = refl; mode = refl; holding = λ z. absurd (false≢true z); waiting = λ z. inr (inl (refl, refl)) }

-- the last read leaves, and a writer before holds
turn_taken : (h i p : ℕ) (m : Mode) (g : Bool) → g ≡ false → Stays (request_of false h i (record { party = p; mode = m; holds = g })) (request_of true 1 i (record { party = p; mode = m; holds = g }))
turn_taken h i p m true y = absurd (true≢false y)
turn_taken h i p Write false y = record { party = refl; mode = refl; holding = λ z. absurd (false≢true z); waiting = λ z. inr (inr (omega arith)) }
turn_taken h i p Read false y = record { party = refl; mode = refl; holding = λ z. absurd (false≢true z); waiting = λ z. inr (inr (omega arith)) }

-- a writer leaves, and the next holds
abbrev no_writer : Entry → Bool
no_writer e = e.holds || not (is_write e.mode)

writer_taken : (i j p : ℕ) (m : Mode) (g : Bool) → i ≡ j + 1 → (g || not (is_write m)) ≡ false → Stays (request_of true 1 i (record { party = p; mode = m; holds = g })) (request_of true 1 j (record { party = p; mode = m; holds = g }))
writer_taken i j p m true e y = absurd (true≢false y)
writer_taken i j p Write false e y = record { party = refl; mode = refl; holding = λ z. absurd (false≢true z); waiting = λ z. inr (inr (omega arith)) }
writer_taken i j p Read false e y = absurd (true≢false y)

-- a writer leaves, and the reads hold
reads_taken : (k i j p : ℕ) (m : Mode) (g : Bool) → i ≡ j + 1 → g ≡ false → Stays (request_of true 1 i (record { party = p; mode = m; holds = g })) (request_of false k j (cond (is_write m) (record { party = p; mode = m; holds = g }) (record { party = p; mode = m; holds = true })))
reads_taken k i j p m true e y = absurd (true≢false y)
reads_taken k i j p Write false e y = record { party = refl; mode = refl; holding = λ z. absurd (false≢true z); waiting = λ z. inr (inr (omega arith)) }
reads_taken k i j p Read false e y = record { party = refl; mode = refl; holding = λ z. refl; waiting = λ z. inl refl }

kept_mode : (p : ℕ) (m : Mode) (g : Bool) → is_writer (cond (is_write m) (record { party = p; mode = m; holds = g }) (record { party = p; mode = m; holds = true })) ≡ is_write m
kept_mode p Write g = refl
kept_mode p Read g = refl

stays_reads : (k i j : ℕ) → i ≡ j + 1 → (es : List Entry) → some is_holder es ≡ false → AllZip Stays (requests_from true 1 i es) (requests_from false k j (reads_hold es))
stays_reads k i j g [] z = tt
stays_reads k i j g (e ∷ es) z =
    let p = or_parts e.holds (some is_holder es) z in
    let m = kept_mode e.party e.mode e.holds in (
      reads_taken k i j e.party e.mode e.holds g p.0,
      rw m (stays_reads k (i + cond (is_writer e) 1 0) (j + cond (is_writer e) 1 0) (omega arith) es p.1),
    )

-- the first entry is a writer, and holds
first_holds : (b : Bool) (h i : ℕ) (e : Entry) (es : List Entry) → is_writer e ≡ true → some is_holder es ≡ false → AllZip Stays (requests_from b h (i + 1) es) (requests_from true 1 1 es) → AllZip Stays (requests_from b h i (e ∷ es)) (requests (writer_holds (e ∷ es)))
first_holds b h i e es w z more =
    let a = writing (held e) es w z in
    let n : i + cond (is_writer e) 1 0 ≡ i + 1 = omega (arith, cond-true {A = ℕ} (is_writer e) 1 0 w) in
    let s : Stays (request_of b h i e) (request_of true 1 0 (held e)) = record { party = sym (request_party b h i e); mode = sym (request_mode b h i e); holding = λ _. refl; waiting = λ _. inl refl } in
    subst (λ x. AllZip Stays (requests_from b h i (e ∷ es)) (requests x)) (sym (cond-true (is_writer e) (held e ∷ es) (e ∷ writer_holds es) w)) (subst (AllZip Stays (requests_from b h i (e ∷ es))) (sym a) (s, subst (λ x. AllZip Stays (requests_from b h x es) (requests_from true 1 1 es)) (sym n) more))

-- where nobody holds, an entry before the first writer would: the first entry is a writer
first_writes : (e : Entry) (es : List Entry) → some is_holder (e ∷ es) ≡ false → ordered (e ∷ es) ≡ true → is_writer e ≡ true
first_writes e es z o = grind (arith, nat_tests)

no_reads : (e : Entry) (es : List Entry) → some is_holder (e ∷ es) ≡ false → some collected (e ∷ es) ≡ false → is_writer e ≡ true
no_reads e es z o = grind (arith, nat_tests)

all_write : (es : List Entry) → some is_holder es ≡ false → some collected es ≡ false → some no_writer es ≡ false
all_write [] z c = refl
all_write (e ∷ es) z c =
    let p = or_parts e.holds (some is_holder es) z in
    let q = or_parts (collected e) (some collected es) c in
    or_from (no_writer e) (some no_writer es) (let a = p.0 in let d = q.0 in grind (arith, nat_tests)) (all_write es p.1 q.1)

some_never : (es : List Entry) → some (λ e. false) es ≡ false
some_never [] = refl
some_never (e ∷ es) = some_never es

-- after the last read, and after a writer with no reads collected
last_read : (h : ℕ) (es : List Entry) → some is_holder es ≡ false → ordered es ≡ true → AllZip Stays (requests_from false h 0 es) (requests (writer_holds es))
last_read h [] z o = tt
last_read h (e ∷ es) z o =
    let p = or_parts e.holds (some is_holder es) z in
    first_holds false h 0 e es (first_writes e es z o) p.1 (each_stays false true h 1 0 is_holder (λ i j x g y. let q : i ≡ j = omega arith in subst (λ n. Stays (request_of false h i x) (request_of true 1 n x)) q (turn_taken h i x.party x.mode x.holds y)) 1 1 (omega arith) es p.1)

last_writer : (es : List Entry) → some is_holder es ≡ false → some collected es ≡ false → AllZip Stays (requests_from true 1 1 es) (requests (writer_holds es))
last_writer [] z c = tt
last_writer (e ∷ es) z c =
    let p = or_parts e.holds (some is_holder es) z in
    let q = or_parts (collected e) (some collected es) c in
    first_holds true 1 1 e es (no_reads e es z c) p.1 (each_stays true true 1 1 1 no_writer (λ i j x g y. writer_taken i j x.party x.mode x.holds g y) 2 1 (omega arith) es (all_write es p.1 q.1))

-- once the reads hold
reads_hold_lem : (es : List Entry) → some is_holder es ≡ false → some holding_writer (reads_hold es) ≡ false
reads_hold_lem [] z = refl
reads_hold_lem (e ∷ es) z =
    let p = or_parts e.holds (some is_holder es) z in
    or_from _ _ (one e.mode e.holds p.0) (reads_hold_lem es p.1)
  where
    one : (m : Mode) (g : Bool) → g ≡ false → holding_writer (cond (is_write m) (record { party = e.party; mode = m; holds = g }) (record { party = e.party; mode = m; holds = true })) ≡ false
    one m true y = absurd (true≢false y)
    one Write false y = refl
    one Read false y = refl

reads_some : (es : List Entry) → some collected es ≡ true → some is_holder (reads_hold es) ≡ true
reads_some [] z = absurd (false≢true z)
reads_some (e ∷ es) z = let more : some collected es ≡ true → some is_holder (reads_hold es) ≡ true = reads_some es in grind (arith, nat_tests)

reads_ordered : (es : List Entry) → ordered (reads_hold es) ≡ true
reads_ordered [] = refl
reads_ordered (e ∷ es) = let more = reads_ordered es in grind (arith, nat_tests)

writes_ordered : (es : List Entry) → some is_holder es ≡ false → some collected es ≡ false → ordered es ≡ true
writes_ordered [] z c = refl
writes_ordered (e ∷ es) z c = let w = no_reads e es z c in or_left _ _ w

pub good_reading : (es : List Entry) → some is_holder es ≡ true → some holding_writer es ≡ false → ordered es ≡ true → good es ≡ true
good_reading [] z n o = refl
good_reading (e ∷ es) z n o = cond-false (holding_writer e) _ _ (or_parts _ _ n).0 ∙ and_from _ _ z (and_from _ _ (not_from_false _ n) o)

good_writing : (es : List Entry) → some is_holder es ≡ false → ordered es ≡ true → good (writer_holds es) ≡ true
good_writing [] z o = refl
good_writing (e ∷ es) z o =
    let w = first_writes e es z o in
    subst (λ x. good x ≡ true) (sym (cond-true (is_writer e) (held e ∷ es) (e ∷ writer_holds es) w)) (cond-true (is_write e.mode) _ _ w ∙ not_from_false _ (or_parts _ _ z).1)

-- parties and length stay when others hold
named_reads : (es : List Entry) → named es ≡ true → named (reads_hold es) ≡ true
named_reads [] z = refl
named_reads (e ∷ es) z = let p = and_parts (nat_lt e.party PARTIES) (named es) z in let more = named_reads es p.1 in let l = p.0 in grind (arith, nat_tests)

writers_kept : (es : List Entry) → (length (writer_holds es) ≡ length es) × (named es ≡ true → named (writer_holds es) ≡ true)
writers_kept [] = (refl, λ z. refl)
writers_kept (e ∷ es) =
    let more = writers_kept es in
    cond_both (is_writer e) (held e ∷ es) (e ∷ writer_holds es) (λ xs. (length xs ≡ length (e ∷ es)) × (named (e ∷ es) ≡ true → named xs ≡ true)) (λ t. (refl, λ z. z)) (λ t. (omega arith, λ z. let p = and_parts (nat_lt e.party PARTIES) (named es) z in and_from (nat_lt e.party PARTIES) (named (writer_holds es)) p.0 (more.1 p.1)))

pub length_reads : (es : List Entry) → length (reads_hold es) ≡ length es
length_reads [] = refl
length_reads (e ∷ es) = ap suc (length_reads es)

passed_kept : (m : Mode) (es : List Entry) → (length (passed m es) ≡ length es) × (named es ≡ true → named (passed m es) ≡ true)
passed_kept m es =
    let P : List Entry → Type 0 = λ xs. (length xs ≡ length es) × (named es ≡ true → named xs ≡ true) in
    let rest = cond (is_write m && some collected es) (reads_hold es) (writer_holds es) in
    cond_both (some is_holder es) es rest P (λ t. (refl, λ z. z)) (λ t. cond_both (is_write m && some collected es) (reads_hold es) (writer_holds es) P (λ u. (length_reads es, named_reads es)) (λ u. writers_kept es))

-- removing an entry that holds
module _ (p : ℕ) where
  removed_here : (e : Entry) (es : List Entry) → holder_of p e ≡ true → removed p (e ∷ es) ≡ es
  removed_here e es z = cond-true (holder_of p e) es (e ∷ removed p es) z

  removed_there : (e : Entry) (es : List Entry) → holder_of p e ≡ false → removed p (e ∷ es) ≡ e ∷ removed p es
  removed_there e es z = cond-false (holder_of p e) es (e ∷ removed p es) z

  -- a fact of every entry stays
  some_removed : (f : Entry → Bool) (es : List Entry) → some f es ≡ false → some f (removed p es) ≡ false
  some_removed f [] z = refl
  some_removed f (e ∷ es) z =
      let q = or_parts (f e) (some f es) z in
      ⊎_elim (λ t. rw (removed_here e es t) q.1) (λ t. rw (removed_there e es t) (or_from (f e) (some f (removed p es)) q.0 (some_removed f es q.1))) (cases_Bool (holder_of p e))

  named_removed : (es : List Entry) → named es ≡ true → named (removed p es) ≡ true
  named_removed [] z = refl
  named_removed (e ∷ es) z =
      let q = and_parts (nat_lt e.party PARTIES) (named es) z in
      ⊎_elim (λ t. rw (removed_here e es t) q.1) (λ t. rw (removed_there e es t) (and_from (nat_lt e.party PARTIES) (named (removed p es)) q.0 (named_removed es q.1))) (cases_Bool (holder_of p e))

  ordered_removed : (es : List Entry) → some holding_writer es ≡ false → ordered es ≡ true → ordered (removed p es) ≡ true
  ordered_removed [] z o = refl
  ordered_removed (e ∷ es) z o =
      let q = or_parts (holding_writer e) (some holding_writer es) z in
      let a = q.0 in
      let more : ordered es ≡ true → ordered (removed p es) ≡ true = ordered_removed es q.1 in
      ⊎_elim (λ t. rw (removed_here e es t) (grind (arith, nat_tests))) (λ t. rw (removed_there e es t) (grind (arith, nat_tests))) (cases_Bool (holder_of p e))

  count_removed : (es : List Entry) → some (holder_of p) es ≡ true → count_of is_holder es ≡ count_of is_holder (removed p es) + 1
  count_removed [] z = absurd (false≢true z)
  count_removed (e ∷ es) z =
      let more : some (holder_of p) es ≡ true → count_of is_holder es ≡ count_of is_holder (removed p es) + 1 = count_removed es in
      ⊎_elim (λ t. rw (removed_here e es t) (omega (arith, cond-true {A = ℕ} e.holds 1 0 (and_parts _ _ t).1))) (λ t. rw (removed_there e es t) (omega (arith, more (grind (arith, nat_tests))))) (cases_Bool (holder_of p e))

  length_removed : (es : List Entry) → some (holder_of p) es ≡ true → length (removed p es) + 1 ≡ length es
  length_removed [] z = absurd (false≢true z)
  length_removed (e ∷ es) z =
      let more : some (holder_of p) es ≡ true → length (removed p es) + 1 ≡ length es = length_removed es in
      ⊎_elim (λ t. rw (removed_here e es t) (omega arith)) (λ t. rw (removed_there e es t) (omega (arith, more (grind (arith, nat_tests))))) (cases_Bool (holder_of p e))

  read_mode_lem : (m : Mode) → is_write m ≡ false → m ≡ Read
  read_mode_lem Write z = absurd (true≢false z)
  read_mode_lem Read z = refl

  reads_leave : (es : List Entry) → some holding_writer es ≡ false → mode_of p es ≡ Read
  reads_leave [] z = refl
  reads_leave (e ∷ es) z =
      let q = or_parts (holding_writer e) (some holding_writer es) z in
      ⊎_elim (λ t. cond-true (holder_of p e) e.mode (mode_of p es) t ∙ read_mode_lem e.mode (let a = q.0 in grind (arith, nat_tests))) (λ t. cond-false (holder_of p e) e.mode (mode_of p es) t ∙ reads_leave es q.1) (cases_Bool (holder_of p e))

  without_removed : (h n : ℕ) (es : List Entry) → some holding_writer es ≡ false → without p (requests_from false h n es) ≡ requests_from false h n (removed p es)
  without_removed h n [] z = refl
  without_removed h n (e ∷ es) z =
      let q = or_parts (holding_writer e) (some holding_writer es) z in
      let s = holder_same p false h n e in
      let a = request_of false h n e in
      let xs = requests_from false h (n + cond (is_writer e) 1 0) es in
      ⊎_elim
      (λ t.
      let w : is_writer e ≡ false = (let d = q.0 in grind (arith, nat_tests)) in
      let i : n + cond (is_writer e) 1 0 ≡ n = omega (arith, cond-false {A = ℕ} (is_writer e) 1 0 w) in
      cond-true (holds_by p a) xs (a ∷ without p xs) (s ∙ t) ∙ (ap (λ x. requests_from false h x es) i ∙ ap (requests_from false h n) (sym (removed_here e es t))))
      (λ t. cond-false (holds_by p a) xs (a ∷ without p xs) (s ∙ t) ∙ (ap (λ ys. a ∷ ys) (without_removed h (n + cond (is_writer e) 1 0) es q.1) ∙ ap (requests_from false h n) (sym (removed_there e es t))))
      (cases_Bool (holder_of p e))

  -- what a writer that holds alone leaves, and what a read leaves
  writer_left : (e : Entry) (es : List Entry) → holder_of p e ≡ true → is_writer e ≡ true → some is_holder es ≡ false → left (e ∷ es) p ≡ cond (some collected es) (reads_hold es) (writer_holds es)
  writer_left e es t w z =
      ap (λ x. passed x (removed p (e ∷ es))) (cond-true (holder_of p e) e.mode (mode_of p es) t)
      ∙ (ap (passed e.mode) (removed_here e es t)
      ∙ (cond-false (some is_holder es) es (cond (is_write e.mode && some collected es) (reads_hold es) (writer_holds es)) z ∙ ap (λ (x : Bool). cond (x && some collected es) (reads_hold es) (writer_holds es)) w))

  read_left : (es : List Entry) → some holding_writer es ≡ false → left es p ≡ cond (some is_holder (removed p es)) (removed p es) (writer_holds (removed p es))
  read_left es z = ap (λ x. passed x (removed p es)) (reads_leave es z)

  -- the party that holds beside a holding writer is the writer
  its_own : (e : Entry) (es : List Entry) → some is_holder es ≡ false → some (holder_of p) (e ∷ es) ≡ true → holder_of p e ≡ true
  its_own e es z s = let none = some_fewer is_holder (holder_of p) (λ x f. grind (arith, nat_tests)) es z in grind (arith, nat_tests)

  pub stays_left : (es : List Entry) → good es ≡ true → some (holder_of p) es ≡ true → AllZip Stays (without p (requests es)) (requests (left es p))
  stays_left [] g s = tt
  stays_left (e ∷ es) g s =
      ⊎_elim
      (λ w.
      let t = its_own e es w.1 s in
      let r = requests_from true 1 1 es in
      let gone : without p (requests (e ∷ es)) ≡ r = ap (without p) (writing e es w.0 w.1) ∙ cond-true (holds_by p (request_of true 1 0 e)) r (request_of true 1 0 e ∷ without p r) (holder_same p true 1 0 e ∙ t) in
      subst (λ x. AllZip Stays x (requests (left (e ∷ es) p))) (sym gone) (subst (λ x. AllZip Stays r (requests x)) (sym (writer_left e es t (and_parts _ _ w.0).1 w.1)) (
      ⊎_elim
      (λ (c : some collected es ≡ true).
      let n = reads_hold es in
      subst (λ x. AllZip Stays r (requests x)) (sym (cond-true (some collected es) n (writer_holds es) c)) (subst (AllZip Stays r) (sym (reading n (reads_hold_lem es w.1))) (stays_reads (count_of is_holder n) 1 0 (omega arith) es w.1)))
      (λ (c : some collected es ≡ false). subst (λ x. AllZip Stays r (requests x)) (sym (cond-false (some collected es) (reads_hold es) (writer_holds es) c)) (last_writer es w.1 c))
      (cases_Bool (some collected es))
      )))
      (λ w.
      let k = count_of is_holder (e ∷ es) in
      let xs = removed p (e ∷ es) in
      let none = some_removed holding_writer (e ∷ es) w.1 in
      let r = requests_from false k 0 xs in
      let gone : without p (requests (e ∷ es)) ≡ r = ap (without p) (reading (e ∷ es) w.1) ∙ without_removed k 0 (e ∷ es) w.1 in
      subst (λ x. AllZip Stays x (requests (left (e ∷ es) p))) (sym gone) (subst (λ x. AllZip Stays r (requests x)) (sym (read_left (e ∷ es) w.1)) (
      ⊎_elim
      (λ (c : some is_holder xs ≡ true).
      subst (λ x. AllZip Stays r (requests x)) (sym (cond-true (some is_holder xs) xs (writer_holds xs) c)) (subst (AllZip Stays r) (sym (reading xs none)) (subst (λ n. AllZip Stays (requests_from false n 0 xs) (requests_from false (count_of is_holder xs) 0 xs)) (sym (count_removed (e ∷ es) s)) (each_stays false false (count_of is_holder xs + 1) (count_of is_holder xs) 0 (λ _. false) (λ i j x g y. let q : i ≡ j = omega arith in subst (λ n. Stays (request_of false (count_of is_holder xs + 1) i x) (request_of false (count_of is_holder xs) n x)) q (one_fewer (count_of is_holder xs) i x.party x.mode x.holds)) 0 0 (omega arith) xs (some_never xs)))))
      (λ (c : some is_holder xs ≡ false). subst (λ x. AllZip Stays r (requests x)) (sym (cond-false (some is_holder xs) xs (writer_holds xs) c)) (last_read k xs c (ordered_removed (e ∷ es) w.1 w.2)))
      (cases_Bool (some is_holder xs))
      )))
      (ways e es g)

  pub good_left : (es : List Entry) → good es ≡ true → some (holder_of p) es ≡ true → good (left es p) ≡ true
  good_left [] g s = refl
  good_left (e ∷ es) g s =
      ⊎_elim
      (λ w.
      let t = its_own e es w.1 s in
      subst (λ x. good x ≡ true) (sym (writer_left e es t (and_parts _ _ w.0).1 w.1)) (
      ⊎_elim
      (λ (c : some collected es ≡ true). subst (λ x. good x ≡ true) (sym (cond-true (some collected es) (reads_hold es) (writer_holds es) c)) (good_reading (reads_hold es) (reads_some es c) (reads_hold_lem es w.1) (reads_ordered es)))
      (λ (c : some collected es ≡ false). subst (λ x. good x ≡ true) (sym (cond-false (some collected es) (reads_hold es) (writer_holds es) c)) (good_writing es w.1 (writes_ordered es w.1 c)))
      (cases_Bool (some collected es))
      ))
      (λ w.
      let xs = removed p (e ∷ es) in
      let none = some_removed holding_writer (e ∷ es) w.1 in
      let o = ordered_removed (e ∷ es) w.1 w.2 in
      subst (λ x. good x ≡ true) (sym (read_left (e ∷ es) w.1)) (
      ⊎_elim
      (λ (c : some is_holder xs ≡ true). subst (λ x. good x ≡ true) (sym (cond-true (some is_holder xs) xs (writer_holds xs) c)) (good_reading xs c none o))
      (λ (c : some is_holder xs ≡ false). subst (λ x. good x ≡ true) (sym (cond-false (some is_holder xs) xs (writer_holds xs) c)) (good_writing xs c o))
      (cases_Bool (some is_holder xs))
      ))
      (ways e es g)

  pub kept_left : (es : List Entry) → named es ≡ true → some (holder_of p) es ≡ true → (length (left es p) + 1 ≡ length es) × (named (left es p) ≡ true)
  kept_left es n s =
      let q = passed_kept (mode_of p es) (removed p es) in
      let l = length_removed es s in
      (omega arith, q.1 (named_removed es n))
