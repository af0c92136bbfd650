-- The plan's end, and the lines behind it, byte by byte.
use Rattle.std.proofs.Common.{◌≡◌, ℕ, zero, suc, ◌+◌, ◌-◌, ◌<◌, ◌≤◌, min, Bool, true, false, ◌&&◌, eqb, List, [], ◌∷◌, ◌++◌, length, take, drop, Some, None, Err, decimal, Option, sym, refl, ap, ◌∙◌, subst, ⊎_elim, arith, length-append}
use Rattle.std.specs.Option.{option_map}
use Rattle.std.proofs.lemmas.List.{take_all, take_at, take_min, take-append-le, length-take-le, length_push}
use Rattle.std.proofs.Math.Seq.{take-append-add}
use Rattle.std.proofs.lemmas.Bool.{true≢false, eqb-true, cond-true, cond-false, cases_Bool, cases_lt}
use Rattle.bank.specs.declared.request.Mode.TheVariants.{Write, Read}
use Rattle.event.specs.Lines.{read_event, event_text, IsLineOf}
use Rattle.rules.specs.declared.call.Call.{Call}
use Rattle.rules.specs.declared.call.Call.TheVariants.{Release, Ask, Give, Finish, Tick}
use Rattle.event.proofs.Lines.{is_line_of, long_none}
use Rattle.text.specs.Lines.{before_newline, join_first, lines_of}
use Rattle.dry_run.specs.Fed.{line_begins}
use Rattle.dry_run.specs.Said.{before_empty, plan_part, part_verdict, verdict}
use Rattle.dry_run.specs.Steps.{FirstLine, IsLine, Plain}

-- THE EMPTY LINE

mapped_none : (f : List ℕ → List ℕ) (o : Option (List ℕ)) → option_map f o ≡ None → o ≡ None
mapped_none f None e = refl
mapped_none f (Some x) e = let z : ◌≡◌ {A = ℕ} 0 1 = cc in absurd (omega arith)

module _ (x : ℕ) (xs : List ℕ) where
  -- a byte that ends no empty line
  ahead : (v w : Bool) → eqb x 10 ≡ w → (w && v) ≡ false → before_empty v (x ∷ xs) ≡ option_map (λ rest. x ∷ rest) (before_empty w xs)
  ahead v false e n = cond-false _ _ _ e
  ahead false true e n = cond-true _ _ _ e
  ahead true true e n = absurd (true≢false n)

  ahead_none : (v w : Bool) → eqb x 10 ≡ w → before_empty v (x ∷ xs) ≡ None → ((w && v) ≡ false) × (before_empty w xs ≡ None)
  ahead_none v false e n = (refl, mapped_none (λ rest. x ∷ rest) (before_empty false xs) (sym (cond-false _ _ _ e) ∙ n))
  ahead_none false true e n = (refl, mapped_none (λ rest. x ∷ rest) (before_empty true xs) (sym (cond-true _ _ _ e) ∙ n))
  ahead_none true true e n = let s : Some [] ≡ None = sym (cond-true (eqb x 10) (Some []) _ e) ∙ n in let z : ◌≡◌ {A = ℕ} 0 1 = cc in absurd (omega arith)

found_after : (v : Bool) (xs more : List ℕ) → before_empty v xs ≡ None → line_begins v xs ≡ true → before_empty v (xs ++ (10 ∷ more)) ≡ Some xs
found_after v [] more n b = cond-true v _ _ b
found_after v (x ∷ xs) more n b =
    let h = ahead_none x xs v (eqb x 10) refl n in
    ahead x (xs ++ (10 ∷ more)) v (eqb x 10) refl h.0 ∙ ap (option_map (λ rest. x ∷ rest)) (found_after (eqb x 10) xs more h.1 b)

pub begins_more : (v : Bool) (xs ys : List ℕ) → line_begins v (xs ++ ys) ≡ line_begins (line_begins v xs) ys
begins_more v [] ys = refl
begins_more v (x ∷ xs) ys = begins_more (eqb x 10) xs ys

-- no empty line in bytes, nor behind them
pub found_none : (v : Bool) (xs ys : List ℕ) → before_empty v xs ≡ None → before_empty (line_begins v xs) ys ≡ None → before_empty v (xs ++ ys) ≡ None
found_none v [] ys n m = m
found_none v (x ∷ xs) ys n m =
    let h = ahead_none x xs v (eqb x 10) refl n in
    ahead x (xs ++ ys) v (eqb x 10) refl h.0 ∙ ap (option_map (λ rest. x ∷ rest)) (found_none (eqb x 10) xs ys h.1 m)

none_front : (v : Bool) (n : ℕ) (xs : List ℕ) → before_empty v xs ≡ None → before_empty v (take n xs) ≡ None
none_front v zero xs e = refl
none_front v (suc n) [] e = refl
none_front v (suc n) (x ∷ xs) e =
    let h = ahead_none x xs v (eqb x 10) refl e in
    ahead x (take n xs) v (eqb x 10) refl h.0 ∙ ap (option_map (λ rest. x ∷ rest)) (none_front (eqb x 10) n xs h.1)

pub none_plain : (v : Bool) (xs : List ℕ) → Plain xs → before_empty v xs ≡ None
none_plain v [] p = refl
none_plain v (x ∷ xs) p = ahead x xs v false p.0 refl ∙ ap (option_map (λ rest. x ∷ rest)) (none_plain false xs p.1)

begins_false : (v : Bool) (x : ℕ) (xs : List ℕ) → Plain (x ∷ xs) → line_begins v (x ∷ xs) ≡ false
begins_false v x [] p = p.0
begins_false v x (y ∷ ys) p = begins_false (eqb x 10) y ys p.1

pub begins_some : (v : Bool) (xs : List ℕ) → Plain xs → 0 < length xs → line_begins v xs ≡ false
begins_some v [] p some = absurd (omega arith)
begins_some v (x ∷ xs) p some = begins_false v x xs p

-- a line that is not empty
none_newline : (v : Bool) (front : List ℕ) → Plain front → (front ≡ [] → v ≡ false) → before_empty v (front ++ (10 ∷ [])) ≡ None
none_newline v [] p some = ap (λ w. before_empty w (10 ∷ [])) (some refl)
none_newline v (x ∷ xs) p some = found_none v (x ∷ xs) (10 ∷ []) (none_plain v (x ∷ xs) p) (ap (λ w. before_empty w (10 ∷ [])) (begins_false v x xs p))

pub none_line : (v : Bool) (line : List ℕ) → IsLine line → (length line ≡ 1 → v ≡ false) → before_empty v line ≡ None
none_line v line w some = subst (λ l. before_empty v l ≡ None) (sym w.text) (none_newline v w.front w.plain (λ e. some (ap length w.text ∙ ap (λ xs. length (xs ++ (10 ∷ []))) e)))

pub line_ends : (v : Bool) (line : List ℕ) → IsLine line → line_begins v line ≡ true
line_ends v line w = ap (line_begins v) w.text ∙ begins_more v w.front (10 ∷ [])

-- the plan's part, where its empty line has come
pub part_found : (text more : List ℕ) → length text < 16384 → before_empty true text ≡ None → line_begins true text ≡ true → plan_part (text ++ (10 ∷ more)) ≡ Some text
part_found text more few n b =
    let k : ℕ = 16383 - length text in
    let e : 16384 ≡ length text + suc k = omega arith in
    ap (λ j. before_empty true (take j (text ++ (10 ∷ more)))) e ∙ (ap (before_empty true) (take-append-add text (10 ∷ more) (suc k)) ∙ found_after true text (take k more) n b)

-- no empty line has come in time, or at all
pub part_none : (input more : List ℕ) → 16384 ≤ length input → before_empty true input ≡ None → verdict (input ++ more) ≡ Err (22, 0)
part_none input more full n = ap part_verdict (ap (before_empty true) (take-append-le 16384 input more full) ∙ none_front true 16384 input n)

pub part_short : (input : List ℕ) → length input < 16384 → before_empty true input ≡ None → verdict input ≡ Err (22, 0)
part_short input few n = ap part_verdict (ap (before_empty true) (take_all 16384 input (omega arith)) ∙ n)

-- LINES

pub plain_append : (xs ys : List ℕ) → Plain xs → Plain ys → Plain (xs ++ ys)
plain_append [] ys p q = q
plain_append (x ∷ xs) ys p q = (p.0, plain_append xs ys p.1 q)

-- the first line of some bytes
first_some : (b : ℕ) (bs : List ℕ) (n : ℕ) → eqb b 10 ≡ false → n < length bs → FirstLine bs (Some (take (n + 1) bs, drop (n + 1) bs)) → FirstLine (b ∷ bs) (Some (take ((1 + n) + 1) (b ∷ bs), drop ((1 + n) + 1) (b ∷ bs)))
first_some b bs n e small (w, cut) =
    let k : (1 + n) + 1 ≡ suc (n + 1) = omega arith in
    rw k (record { front = b ∷ w.front; plain = (e, w.plain); text = ap (λ xs. b ∷ xs) w.text }, ap (λ xs. b ∷ xs) cut)

pub first_line : (s : List ℕ) (n : ℕ) → n ≡ before_newline s → n < length s → FirstLine s (Some (take (n + 1) s, drop (n + 1) s))
first_line [] n e small = absurd (omega arith)
first_line (b ∷ bs) n e small =
    ⊎_elim
    (λ (here : eqb b 10 ≡ true).
    let k : n ≡ 0 = e ∙ rw here refl in
    let text : b ∷ [] ≡ 10 ∷ [] = ap (λ x. x ∷ []) (eqb-true b 10 here) in
    rw k (record { front = []; plain = tt; text = text }, refl))
    (λ (there : eqb b 10 ≡ false).
    let k : n ≡ 1 + before_newline bs = e ∙ rw there refl in
    rw k (first_some b bs (before_newline bs) there (omega arith) (first_line bs (before_newline bs) refl (omega arith))))
    (cases_Bool (eqb b 10))

pub no_line : (s : List ℕ) → before_newline s ≡ length s → Plain s
no_line [] e = tt
no_line (b ∷ bs) e =
    ⊎_elim
    (λ (here : eqb b 10 ≡ true). let k : before_newline (b ∷ bs) ≡ 0 = rw here refl in absurd (omega arith))
    (λ (there : eqb b 10 ≡ false). let k : before_newline (b ∷ bs) ≡ 1 + before_newline bs = rw there refl in (there, no_line bs (omega arith)))
    (cases_Bool (eqb b 10))

plain_right : (xs ys : List ℕ) → Plain (xs ++ ys) → Plain ys
plain_right [] ys p = p
plain_right (x ∷ xs) ys p = plain_right xs ys p.1

-- a line that a newline ends, and a last one that none ends
pub plain_line : (line more : List ℕ) → Plain line → lines_of (line ++ (10 ∷ more)) ≡ (line ++ (10 ∷ [])) ∷ lines_of more
plain_line [] more p = refl
plain_line (b ∷ bs) more p = cond-false _ _ _ p.0 ∙ ap (join_first b) (plain_line bs more p.1)

pub plain_last : (b : ℕ) (bs : List ℕ) → Plain (b ∷ bs) → lines_of (b ∷ bs) ≡ (b ∷ bs) ∷ []
plain_last b [] p = cond-false _ _ _ p.0
plain_last b (c ∷ cs) p = cond-false _ _ _ p.0 ∙ ap (join_first b) (plain_last c cs p.1)

-- an event's line has its newline
newline_in : (e : Call) → Plain (event_text e) → ⊥
newline_in (Release t) p = true≢false (plain_right (decimal t) (10 ∷ []) p.1.1).0
newline_in (Ask t r Write) p = true≢false (plain_right (decimal r) _ (plain_right (decimal t) _ p.1.1).1).1.1.0
newline_in (Ask t r Read) p = true≢false (plain_right (decimal r) _ (plain_right (decimal t) _ p.1.1).1).1.1.0
newline_in (Give t) p = true≢false (plain_right (decimal t) (10 ∷ []) p.1.1).0
newline_in (Finish t) p = true≢false (plain_right (decimal t) (10 ∷ []) p.1.1).0
newline_in Tick p = true≢false p.1.0

pub plain_unread : (line : List ℕ) → Plain line → read_event line ≡ None
plain_unread line p = from (read_event line) (is_line_of line)
  where
    from : (o : Option Call) → IsLineOf line o → o ≡ None
    from None w = refl
    from (Some e) w = absurd (newline_in e (subst Plain w.1 p))

-- a line of which the front was kept up to 16 bytes reads as the whole line does
pub reads_front : (line rest : List ℕ) → read_event (take 16 line ++ (rest ++ (10 ∷ []))) ≡ read_event (line ++ (rest ++ (10 ∷ [])))
reads_front line rest =
    ⊎_elim
    (λ (few : length line < 16). ap (λ xs. read_event (xs ++ (rest ++ (10 ∷ [])))) (take_all 16 line (omega arith)))
    (λ (many : 16 ≤ length line).
    let size = length_push rest 10 in
    long_none (take 16 line ++ (rest ++ (10 ∷ []))) (omega (arith, length-take-le 16 line many, length-append (take 16 line) (rest ++ (10 ∷ []))))
    ∙ sym (long_none (line ++ (rest ++ (10 ∷ []))) (omega (arith, length-append line (rest ++ (10 ∷ []))))))
    (cases_lt (length line) 16)

-- more is kept of a line
pub front_more : (line bytes : List ℕ) → take 16 (take 16 line ++ bytes) ≡ take 16 (line ++ bytes)
front_more line bytes =
    ⊎_elim
    (λ (few : length line < 16). ap (λ xs. take 16 (xs ++ bytes)) (take_all 16 line (omega arith)))
    (λ (many : 16 ≤ length line).
    let size : length (take 16 line) ≡ 16 = length-take-le 16 line many in
    take_at (take 16 line) bytes 16 size ∙ sym (take-append-le 16 line bytes many))
    (cases_lt (length line) 16)

pub kept_more : (xs ys : List ℕ) (n : ℕ) → length xs ≤ 16 → n ≡ min (16 - length xs) (length ys) → xs ++ take n ys ≡ take 16 (xs ++ ys)
kept_more xs ys n few e =
    let room : ℕ = 16 - length xs in
    let all : length xs + room ≡ 16 = omega arith in
    ap (λ k. xs ++ take k ys) e ∙ (ap (λ zs. xs ++ zs) (take_min room ys) ∙ (sym (take-append-add xs ys room) ∙ ap (λ k. take k (xs ++ ys)) all))
