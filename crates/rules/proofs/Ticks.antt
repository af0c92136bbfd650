-- What every run keeps is kept on a tick, and a job is blocked exactly where its request waits.
use Rattle.std.proofs.Common.{◌≡◌, ℕ, ◌+◌, ◌*◌, ◌<◌, ◌≤◌, Bool, true, false, cond, not, ◌&&◌, eqb, List, [], ◌∷◌, length, is_some, Some, None, Option, sym, refl, ap, ◌∙◌, subst, arith}
use Rattle.std.proofs.lemmas.Option.{none-some}
use Rattle.std.proofs.lemmas.Bool.{eq-eqb, false≢true, both_ways, cond-true, not-true}
use Rattle.std.specs.List.{AllByRecursion}
use Rattle.bank.specs.Lists.{request_of, holds}
use Rattle.bank.specs.Meaning.{Lists}
use Rattle.bank.specs.declared.request.Request.{Request}
use Rattle.plan.specs.Contents.{longest_at}
use Rattle.rules.specs.Histories.{entry_of, state_of}
use Rattle.rules.specs.Jobs.{Setup, unfinished, ready, is_among_first, blocked}
use Rattle.rules.specs.Moves.{is_queued, one_more_if}
use Rattle.rules.specs.Promises.{is_at, WithinLimit}
use Rattle.rules.specs.Questions.{length_for}
use Rattle.rules.specs.States.{is_ready}
use Rattle.rules.specs.declared.task.Wanted.{Wanted}
use Rattle.rules.proofs.Entries.{listed, request_some, request_party}
use Rattle.rules.proofs.Gives.{At, held_entry, waits_entry, entries, within}
use Rattle.rules.proofs.Places.{blocked_is, not_blocked_later, not_blocked_ready}
use Rattle.rules.proofs.Waiting.{OwedAll, owed_tick, owed_bound}
use Rattle.rules.proofs.Words.{TaskWords, held_in, waits_in, word_jobs, TaskKept, Inv, nobody, unfinished_job, first_jobs}

-- the entry of a task is one of the list
all_at : (P : Request → Type 0) (q : ℕ) (xs : List Request) (x : Request) → AllByRecursion P xs → request_of q xs ≡ Some x → P x
all_at P q [] x h e = absurd (none-some _ e)
all_at P q (y ∷ xs) x h e = go (all_at P q xs x h.1) (eqb y.party q) e
  where
    go : (request_of q xs ≡ Some x → P x) → (b : Bool) → cond b (Some y) (request_of q xs) ≡ Some x → P x
    go ih true f = let same : y ≡ x = cc in subst P same h.0
    go ih false f = ih f

-- an issued request has an entry
pub entry_of_lem : (a : Setup) (n : ℕ) (ls : Lists) (q : ℕ) (k : TaskWords) → TaskKept a n ls q k → (w : Wanted) → k.wanted ≡ Some w → k.issued ≡ true → (x : Request) × (request_of q (ls w.resource) ≡ Some x)
entry_of_lem a n ls q k t w e f = request_some q (ls w.resource) (subst (λ (m : ℕ). 1 ≤ m) (sym one) (omega arith))
  where
    one : listed q (ls w.resource) ≡ 1
    one = t.once w.resource (t.placed w e).there ∙ ap (λ (b : Bool). cond (b && is_at w.resource k.wanted) 1 0) f ∙ ap (λ (o : Option Wanted). cond (is_at w.resource o) 1 0) e ∙ cond-true (eqb w.resource w.resource) 1 0 (eq-eqb w.resource w.resource refl)

-- an issued request holds or waits, and not both
pub held_or_waits : (a : Setup) (n : ℕ) (ls : Lists) (q : ℕ) (k : TaskWords) → TaskKept a n ls q k → k.issued ≡ true → held_in q k ls ≡ not (waits_in q k ls)
held_or_waits a n ls q k t f = go k.wanted refl
  where
    go : (o : Option Wanted) → k.wanted ≡ o → held_in q k ls ≡ not (waits_in q k ls)
    go None e = absurd (both_ways k.issued (t.no_request e) f)
    go (Some w) e =
        let x = entry_of_lem a n ls q k t w e f in
        let at : At k w.resource = record { wanted = w; is = e; there = refl; issued = f } in
        held_entry q w.resource k ls x.0 at x.1 ∙ twice (holds x.0) ∙ ap not (sym (waits_entry q w.resource k ls x.0 at x.1))
      where
        twice : (b : Bool) → b ≡ not (not b)
        twice true = refl
        twice false = refl

-- a job is blocked exactly where its request waits
module _ (a : Setup) (ks : ℕ → TaskWords) (ls : Lists) (n : ℕ) (i : Inv a nobody ks ls n) (q : ℕ) where
  ready_is : (j : Option ℕ) (o : Option Wanted) (b h : Bool) → (ks q).job ≡ j → (ks q).wanted ≡ o → (ks q).issued ≡ b → held_in q (ks q) ls ≡ h → ready (word_jobs ks ls) q ≡ is_ready (state_of j o b h)
  ready_is j o b h ej eo eb eh = rw (← ej, ← eo, ← eb, ← eh) refl

  pub blocked_waits : blocked a.plan a.tasks (word_jobs ks ls) q ≡ waits_in q (ks q) ls
  blocked_waits = go (ks q).job (ks q).wanted (ks q).issued (held_in q (ks q) ls) refl refl refl refl
    where
      t : TaskKept a n ls q (ks q)
      t = i.tasks q

      waits_not : (ks q).issued ≡ false → waits_in q (ks q) ls ≡ false
      waits_not e = ap (λ (b : Bool). b && is_queued (entry_of q (ks q).wanted ls)) e

      go : (j : Option ℕ) (o : Option Wanted) (b h : Bool) → (ks q).job ≡ j → (ks q).wanted ≡ o → (ks q).issued ≡ b → held_in q (ks q) ls ≡ h → blocked a.plan a.tasks (word_jobs ks ls) q ≡ waits_in q (ks q) ls
      go None o b h ej eo eb eh =
          let idle : unfinished (word_jobs ks ls) q ≡ false = unfinished_job a ks ls q ∙ ap is_some ej in
          let f : is_among_first a.plan a.tasks (word_jobs ks ls) q ≡ false = rw idle refl in
          not_blocked_later a (word_jobs ks ls) q f ∙ sym (waits_not (t.no_request (t.no_job ej)))
      go (Some m) None b h ej eo eb eh = not_blocked_ready a (word_jobs ks ls) q (ready_is (Some m) None b h ej eo eb eh) ∙ sym (waits_not (t.no_request eo))
      go (Some m) (Some w) false h ej eo eb eh = not_blocked_later a (word_jobs ks ls) q (i.firsts q refl (ap is_some eo) ∙ eb) ∙ sym (waits_not eb)
      go (Some m) (Some w) true true ej eo eb eh = not_blocked_ready a (word_jobs ks ls) q (ready_is (Some m) (Some w) true true ej eo eb eh) ∙ sym (not-true (waits_in q (ks q) ls) (sym (held_or_waits a n ls q (ks q) t eb) ∙ eh))
      go (Some m) (Some w) true false ej eo eb eh =
          blocked_is a (word_jobs ks ls) q (i.firsts q refl (ap is_some eo) ∙ eb) (ready_is (Some m) (Some w) true false ej eo eb eh) ∙ sym (waits_so (waits_in q (ks q) ls) (sym (held_or_waits a n ls q (ks q) t eb) ∙ eh))
        where
          waits_so : (b : Bool) → not b ≡ false → b ≡ true
          waits_so true e = refl
          waits_so false e = absurd (false≢true (sym e))

module _ (a : Setup) (known : a.tasks ≤ length a.plan.tasks) (ks : ℕ → TaskWords) (ls : Lists) (n : ℕ) (i : Inv a nobody ks ls n)
    (early : (q : ℕ) (w : Wanted) → (ks q).wanted ≡ Some w → held_in q (ks q) ls ≡ true → (ks q).used < length_for a.plan q w.resource) where
  abbrev ticking : ℕ → TaskWords
  ticking q = record (ks q) {
    used = one_more_if (held_in q (ks q) ls) (ks q).used;
    waited = one_more_if (waits_in q (ks q) ls) (ks q).waited;
    job_waited = one_more_if (waits_in q (ks q) ls) (ks q).job_waited;
    blocked = one_more_if (blocked a.plan a.tasks (word_jobs ks ls) q) (ks q).blocked;
  }

  in_time_lem : (q : ℕ) (w : Wanted) → (ks q).wanted ≡ Some w → held_in q (ks q) ls ≡ true → (ticking q).used ≤ length_for a.plan q w.resource
  in_time_lem q w e f = rw f (omega (arith, early q w e f))

  owed_ticking : (r : ℕ) → r < a.resources → OwedAll a.told r (longest_at a.plan r) (λ q. (ticking q).used) (λ q. (ticking q).waited) (ls r)
  owed_ticking r lr =
      owed_tick a.told r (longest_at a.plan r) (ls r) (λ q. (ks q).used) (λ q. (ks q).waited) (λ q. (ticking q).used) (λ q. (ticking q).waited)
      (entries a known nobody ks ls n i r lr (λ x. holds x ≡ true → (ticking x.party).used ≡ (ks x.party).used + 1) (λ q x p f at h. subst (λ (z : ℕ). (ticking z).used ≡ (ks z).used + 1) (sym p) (rw (held_entry q r (ks q) ls x at f ∙ h) refl)))
      (entries a known nobody ks ls n i r lr (λ x. (ticking x.party).waited ≤ (ks x.party).waited + 1) (λ q x p f at. bit (waits_in x.party (ks x.party) ls) (ks x.party).waited))
      (i.owed r lr)
    where
      bit : (b : Bool) (m : ℕ) → one_more_if b m ≤ m + 1
      bit true m = omega arith
      bit false m = omega arith

  bounded_tick : (q : ℕ) → (ks q).issued ≡ true → WithinLimit a (ticking q).waited (ks q).wanted
  bounded_tick q f = go (waits_in q (ks q) ls) refl
    where
      waits : waits_in q (ks q) ls ≡ true → (o : Option Wanted) → (ks q).wanted ≡ o → WithinLimit a (ticking q).waited o
      waits h None e = absurd (both_ways (ks q).issued ((i.tasks q).no_request e) f)
      waits h (Some w) e =
          let lr = ((i.tasks q).placed w e).there in
          let x = entry_of_lem a n ls q (ks q) (i.tasks q) w e f in
          let at : At (ks q) w.resource = record { wanted = w; is = e; there = refl; issued = f } in
          let b = all_at (λ x. holds x ≡ false → (ticking x.party).waited ≤ a.told.limit w.resource x.mode * longest_at a.plan w.resource) q (ls w.resource) x.0
          (owed_bound a.told w.resource (longest_at a.plan w.resource) (ls w.resource) (λ q. (ticking q).used) (λ q. (ticking q).waited) (within a known nobody ks ls n i (λ q. (ticking q).used) in_time_lem w.resource lr) (i.sound w.resource lr) (owed_ticking w.resource lr)) x.1 in
          let off : holds x.0 ≡ false = not-true (holds x.0) (sym (waits_entry q w.resource (ks q) ls x.0 at x.1) ∙ h) in
          let party : x.0.party ≡ q = (request_party q (ls w.resource) x.0 x.1).0 in
          let mode : x.0.mode ≡ w.mode = (i.tasks q).mode w e x.0 x.1 in
          let b2 = b off in
          rw (party, mode) at b2

      go : (b : Bool) → waits_in q (ks q) ls ≡ b → WithinLimit a (one_more_if b (ks q).waited) (ks q).wanted
      go true h = subst (λ (b : Bool). WithinLimit a (one_more_if b (ks q).waited) (ks q).wanted) h (waits h (ks q).wanted refl)
      go false h = (i.tasks q).bounded f

  kept_tick : (q : ℕ) → TaskKept a n ls q (ticking q)
  kept_tick q = record {
    no_job = (i.tasks q).no_job;
    no_request = (i.tasks q).no_request;
    known = (i.tasks q).known;
    below = (i.tasks q).below;
    placed = (i.tasks q).placed;
    unused = λ e. rw e ((i.tasks q).unused e);
    in_time = in_time_lem q;
    blocked = ap (λ (b : Bool). one_more_if b (ks q).blocked) (blocked_waits a ks ls n i q) ∙ ap (one_more_if (waits_in q (ks q) ls)) (i.tasks q).blocked;
    bounded = bounded_tick q;
    once = (i.tasks q).once;
    mode = (i.tasks q).mode;
  }

  pub tick_step : Inv a nobody ticking ls n
  tick_step = record {
    tasks = kept_tick;
    apart = i.apart;
    firsts = λ t z f. first_jobs a ks ticking ls ls (λ q. refl) t ∙ i.firsts t refl f;
    owed = owed_ticking;
    sound = i.sound;
  }
