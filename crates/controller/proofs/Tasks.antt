-- The records of the first n tasks, by their places.
use Rattle.std.proofs.Common.{◌≡◌, ℕ, zero, suc, ◌+◌, ◌<◌, ◌≤◌, Bool, true, false, cond, eqb, leb, ltb, List, [], ◌∷◌, length, get_or, set, is_some, Some, None, Option, unwrap_or, sym, refl, ap, ◌∙◌, subst, inl, ⊎_elim, arith}
use Rattle.std.proofs.lemmas.Bool.{false≢true, le-leb, leb-false, cases_lt, cond-true, cond-false, lt-ltb, le-ltb, ne_eqb, eqb-true}
use Rattle.plan.specs.Contents.{Contents, length_at}
use Rattle.rules.specs.Jobs.{Setup, Snapshot}
use Rattle.rules.specs.Moves.{ticked_state, ticked_task}
use Rattle.rules.specs.Questions.{late_in, late, late_task}
use Rattle.rules.specs.States.{is_held_back, is_holding, wanted_of, asked_state, issued_state, idle_task}
use Rattle.rules.specs.declared.answer.Asked.{Asked}
use Rattle.rules.specs.declared.answer.Asked.TheVariants.{Hold, Wait, Back}
use Rattle.rules.specs.declared.task.State.{State}
use Rattle.rules.specs.declared.task.State.TheVariants.{Idle, Going, HeldBack, Waiting, Holding}
use Rattle.rules.specs.declared.task.Task.{Task}
use Rattle.rules.specs.declared.task.Wanted.{Wanted}
use Rattle.rules.proofs.Counts.{lowest_none}
use Rattle.table.specs.Tasks.{has_issued}
use Rattle.controller.specs.Ticks.{CanTick}
use Rattle.table.specs.Rows.{is_within, keeps_length, KeepsLengths, tasks_in}
use Rattle.table.proofs.Ranks.{tasks_past}
use Rattle.table.proofs.Rows.{set_row}

pub task_here : (n : ℕ) (rows : List Task) (q : ℕ) → q < n → tasks_in n rows q ≡ get_or rows q idle_task
task_here n rows q lt = cond-true (ltb q n) _ _ (lt-ltb q n lt)

-- one record is written
pub tasks_set : (n : ℕ) (rows : List Task) (t : ℕ) (k : Task) → t < n → t < length rows → (q : ℕ) → tasks_in n (set rows t k) q ≡ cond (eqb t q) k (tasks_in n rows q)
tasks_set n rows t k lt here q =
    ⊎_elim
    (λ (l : q < n). task_here n (set rows t k) q l ∙ (set_row rows t k q idle_task here ∙ ap (cond (eqb t q) k) (sym (task_here n rows q l))))
    (λ (g : n ≤ q).
    let ne : t ≡ q → ⊥ = λ e. omega arith in
    cond-false (ltb q n) _ _ (le-ltb q n g) ∙ sym (cond-false (eqb t q) k _ (ne_eqb t q ne) ∙ cond-false (ltb q n) _ _ (le-ltb q n g)))
    (cases_lt q n)

-- what holds of each record holds of each after one is written
pub each_set : {X : Type 0} (P : X → Type 0) (xs : List X) (i : ℕ) (x d : X) → P x → ((q : ℕ) → P (get_or xs q d)) → (q : ℕ) → P (get_or (set xs i x) q d)
each_set P [] i x d px all q = all q
each_set P (y ∷ xs) zero x d px all zero = px
each_set P (y ∷ xs) zero x d px all (suc q) = all (suc q)
each_set P (y ∷ xs) (suc i) x d px all zero = all zero
each_set P (y ∷ xs) (suc i) x d px all (suc q) = each_set P xs i x d px (λ k. all (suc k)) q

pub tasks_written : (n : ℕ) (rows new : List Task) (t : ℕ) (k : Task) → t < n → n ≤ 64 → length rows ≡ 64 → new ≡ set rows t k → (q : ℕ) → tasks_in n new q ≡ cond (eqb t q) k (tasks_in n rows q)
tasks_written n rows new t k lt few all e q = ap (λ (ks : List Task). tasks_in n ks q) e ∙ tasks_set n rows t k lt (omega arith) q

-- the same, by a change of the record
pub tasks_moved : (n : ℕ) (rows new : List Task) (t : ℕ) (f : Task → Task) → t < n → n ≤ 64 → length rows ≡ 64 → new ≡ set rows t (f (get_or rows t idle_task)) → (q : ℕ) → tasks_in n new q ≡ cond (eqb t q) (f (tasks_in n rows q)) (tasks_in n rows q)
tasks_moved n rows new t f lt few all e q = tasks_written n rows new t (f (get_or rows t idle_task)) lt few all e q ∙ place (eqb t q) refl
  where
    place : (b : Bool) → eqb t q ≡ b → cond b (f (get_or rows t idle_task)) (tasks_in n rows q) ≡ cond b (f (tasks_in n rows q)) (tasks_in n rows q)
    place true h = ap f (sym (task_here n rows t lt) ∙ ap (tasks_in n rows) (eqb-true t q h))
    place false h = refl

-- What each task has asked for keeps its declared length after each change.

-- one record is another
pub lengths_one : (p : Contents) (old new : ℕ → Task) (t : ℕ) (k : Task) → KeepsLengths p old → keeps_length p t k.used k.state ≡ true → ((q : ℕ) → new q ≡ cond (eqb t q) k (old q)) → KeepsLengths p new
lengths_one p old new t k known here written q = ap (λ (x : Task). keeps_length p q x.used x.state) (written q) ∙ place (eqb t q) refl
  where
    place : (b : Bool) → eqb t q ≡ b → keeps_length p q (cond b k (old q)).used (cond b k (old q)).state ≡ true
    place true e = subst (λ u. keeps_length p u k.used k.state ≡ true) (eqb-true t q e) here
    place false e = known q

-- a request that has not held yet, at a declared length
within_none : (o : Option ℕ) → is_some o ≡ true → is_within 0 o ≡ true
within_none None e = absurd (false≢true e)
within_none (Some l) e = le-leb 0 l (omega arith)

pub lengths_asked : (p : Contents) (q : ℕ) (x : Asked) (w : Wanted) → is_some (length_at p q w.resource) ≡ true → keeps_length p q 0 (asked_state x w) ≡ true
lengths_asked p q Hold w e = within_none (length_at p q w.resource) e
lengths_asked p q Wait w e = within_none (length_at p q w.resource) e
lengths_asked p q Back w e = within_none (length_at p q w.resource) e

pub lengths_issued : (p : Contents) (q : ℕ) (holds : Bool) (w : Wanted) → is_some (length_at p q w.resource) ≡ true → keeps_length p q 0 (issued_state holds w) ≡ true
lengths_issued p q true w e = within_none (length_at p q w.resource) e
lengths_issued p q false w e = within_none (length_at p q w.resource) e

-- what is held back is at a declared length
declared : (n : ℕ) (o : Option ℕ) → is_within n o ≡ true → is_some o ≡ true
declared n None e = absurd (false≢true e)
declared n (Some l) e = refl

pub length_wanted : (p : Contents) (q used : ℕ) (st : State) → is_held_back st ≡ true → keeps_length p q used st ≡ true → is_some (length_at p q (wanted_of st).resource) ≡ true
length_wanted p q used Idle e k = absurd (false≢true e)
length_wanted p q used Going e k = absurd (false≢true e)
length_wanted p q used (HeldBack w) e k = declared used (length_at p q w.resource) k
length_wanted p q used (Waiting w) e k = absurd (false≢true e)
length_wanted p q used (Holding w) e k = absurd (false≢true e)

-- one tick on, where the task is not late
ticked_within : (n : ℕ) (o : Option ℕ) → leb (unwrap_or o 0) n ≡ false → is_within n o ≡ true → is_within (n + 1) o ≡ true
ticked_within n None e k = absurd (false≢true k)
ticked_within n (Some l) e k = le-leb (n + 1) l (omega (arith, leb-false l n e))

lengths_ticked : (a : Setup) (t : ℕ) (st : State) (k : Task) → k.state ≡ st → late_in a.plan t k.used st ≡ false → keeps_length a.plan t k.used st ≡ true → keeps_length a.plan t (ticked_state st k).used (ticked_state st k).state ≡ true
lengths_ticked a t Idle k e late kept = rw e refl
lengths_ticked a t Going k e late kept = rw e refl
lengths_ticked a t (HeldBack w) k e late kept = ap (keeps_length a.plan t k.used) e ∙ kept
lengths_ticked a t (Waiting w) k e late kept = ap (keeps_length a.plan t k.used) e ∙ kept
lengths_ticked a t (Holding w) k e late kept = ap (keeps_length a.plan t (k.used + 1)) e ∙ ticked_within k.used (length_at a.plan t w.resource) late kept

pub lengths_all_ticked : (a : Setup) (s : Snapshot) (new : ℕ → Task) → KeepsLengths a.plan s.tasks → ((q : ℕ) → late a s q ≡ false) → ((q : ℕ) → new q ≡ ticked_task (s.tasks q)) → KeepsLengths a.plan new
lengths_all_ticked a s new known on_time each q = ap (λ (k : Task). keeps_length a.plan q k.used k.state) (each q) ∙ lengths_ticked a q (s.tasks q).state (s.tasks q) refl (on_time q) (known q)

-- each record is changed, and an idle one stays
pub changed_tasks : (f : ℕ → Task → Task) (n : ℕ) (rows new : List Task) → ((q : ℕ) → f q idle_task ≡ idle_task) → ((k : ℕ) → k < n → get_or new k idle_task ≡ f k (get_or rows k idle_task)) → (q : ℕ) → tasks_in n new q ≡ f q (tasks_in n rows q)
changed_tasks f n rows new idle h q =
    ⊎_elim
    (λ (l : q < n). task_here n new q l ∙ (h q l ∙ ap (f q) (sym (task_here n rows q l))))
    (λ (far : n ≤ q). tasks_past n new q (inl far) ∙ (sym (idle q) ∙ ap (f q) (sym (tasks_past n rows q (inl far)))))
    (cases_lt q n)

-- where no task is late, none is past them either
pub on_time_all : (a : Setup) (s : Snapshot) → ((q : ℕ) → a.tasks ≤ q → s.tasks q ≡ idle_task) → late_task a s ≡ None → (q : ℕ) → late a s q ≡ false
on_time_all a s idle none q =
    ⊎_elim
    (λ (l : q < a.tasks). lowest_none (late a s) a.tasks none q l)
    (λ (far : a.tasks ≤ q). ap (λ (k : Task). late_in a.plan q k.used k.state) (idle q far))
    (cases_lt q a.tasks)

-- a tick changes nothing of a record but its ticks
pub ticked_fields : (k : Task) → record k { used = (ticked_task k).used; blocked = (ticked_task k).blocked } ≡ ticked_task k
ticked_fields k = go k.state
  where
    go : (st : State) → record k { used = (ticked_state st k).used; blocked = (ticked_state st k).blocked } ≡ ticked_state st k
    go Idle = refl
    go Going = refl
    go (HeldBack w) = refl
    go (Waiting w) = refl
    go (Holding w) = refl

-- a record with no issued request has no tick to count
pub can_tick_idle : (k : Task) → has_issued k.state ≡ false → k.blocked ≤ 100000000 → CanTick k
can_tick_idle k none few = record { used = λ e. absurd (false≢true (sym (holds k.state none) ∙ e)); blocked = few }
  where
    holds : (st : State) → has_issued st ≡ false → is_holding st ≡ false
    holds Idle e = refl
    holds Going e = refl
    holds (HeldBack w) e = refl
    holds (Waiting w) e = refl
    holds (Holding w) e = e
