-- What stays where no request is issued.
use Rattle.std.proofs.Common.{◌≡◌, ℕ, zero, suc, ◌<◌, ◌≤◌, false, List, [], ◌∷◌, get_or, replicate, set, refl, sym, ap, ◌∙◌, ⊎_elim}
use Rattle.std.proofs.lemmas.Bool.{cases_lt, false≢true}
use Rattle.bank.specs.declared.request.Request.{Request}
use Rattle.plan.specs.Contents.{Contents}
use Rattle.rules.specs.Moves.{let_in, let_in_state, is_held, ticked_state, ticked_task}
use Rattle.bank.specs.Lists.{request_of}
use Rattle.rules.specs.Questions.{late_in}
use Rattle.rules.specs.States.{idle_task}
use Rattle.rules.specs.declared.task.State.{State}
use Rattle.rules.specs.declared.task.State.TheVariants.{Idle, Going, HeldBack, Waiting, Holding}
use Rattle.rules.specs.declared.task.Task.{Task}
use Rattle.table.specs.Tasks.{has_issued, NoneIssuedFrom}

pub none_at : (end : ℕ) (rows : List Task) (q : ℕ) → NoneIssuedFrom end rows → end ≤ q → has_issued (get_or rows q idle_task).state ≡ false
unfolding NoneIssuedFrom
none_at end rows q none past = none q past

-- records that are all the same, with no issued request
pub none_at_first : (n : ℕ) (k : Task) → has_issued k.state ≡ false → NoneIssuedFrom 0 (replicate n k)
unfolding NoneIssuedFrom
none_at_first n k none q past = go n q
  where
    go : (n q : ℕ) → has_issued (get_or (replicate n k) q idle_task).state ≡ false
    go zero q = refl
    go (suc n) zero = none
    go (suc n) (suc q) = go n q

-- the state of one record is what it was
pub none_still : (end : ℕ) (rows : List Task) (t : ℕ) (k : Task) → k.state ≡ (get_or rows t idle_task).state → NoneIssuedFrom end rows → NoneIssuedFrom end (set rows t k)
unfolding NoneIssuedFrom
none_still end rows t k same none q past = go rows t q same (none q past)
  where
    go : (rows : List Task) (t q : ℕ) → k.state ≡ (get_or rows t idle_task).state → has_issued (get_or rows q idle_task).state ≡ false → has_issued (get_or (set rows t k) q idle_task).state ≡ false
    go [] t q same e = e
    go (x ∷ xs) zero zero same e = ap has_issued same ∙ e
    go (x ∷ xs) zero (suc q) same e = e
    go (x ∷ xs) (suc t) zero same e = e
    go (x ∷ xs) (suc t) (suc q) same e = go xs t q same e

-- a change of records that leaves those with no issued request, made to where these end
pub to_the_end : (f : ℕ → Task → Task) (n t end : ℕ) (old new : List Task) → ((q : ℕ) (k : Task) → has_issued k.state ≡ false → f q k ≡ k) → NoneIssuedFrom end old → ((q : ℕ) → q < n → t ≤ q → end ≤ q) → ((q : ℕ) → q < t → get_or new q idle_task ≡ f q (get_or old q idle_task)) → ((q : ℕ) → t ≤ q → get_or new q idle_task ≡ get_or old q idle_task) → (q : ℕ) → q < n → get_or new q idle_task ≡ f q (get_or old q idle_task)
to_the_end f n t end old new rests none ends made left q lt =
    ⊎_elim (made q) (λ (past : t ≤ q). left q past ∙ sym (rests q (get_or old q idle_task) (none_at end old q none (ends q lt past)))) (cases_lt q t)

pub ticked_rests : (k : Task) → has_issued k.state ≡ false → ticked_task k ≡ k
ticked_rests k none = go k.state none
  where
    go : (st : State) → has_issued st ≡ false → ticked_state st k ≡ k
    go Idle e = refl
    go Going e = refl
    go (HeldBack w) e = refl
    go (Waiting w) e = absurd (false≢true (sym e))
    go (Holding w) e = absurd (false≢true (sym e))

pub let_in_rests : (r : ℕ) (xs : List Request) (q : ℕ) (k : Task) → has_issued k.state ≡ false → let_in r xs q k ≡ k
let_in_rests r xs q k none = go k.state none
  where
    go : (st : State) → has_issued st ≡ false → let_in_state r (is_held (request_of q xs)) st k ≡ k
    go Idle e = refl
    go Going e = refl
    go (HeldBack w) e = refl
    go (Waiting w) e = absurd (false≢true (sym e))
    go (Holding w) e = refl

pub not_late : (p : Contents) (q used : ℕ) (st : State) → has_issued st ≡ false → late_in p q used st ≡ false
not_late p q used (Holding w) e = absurd (false≢true (sym e))
not_late p q used _ e = refl
