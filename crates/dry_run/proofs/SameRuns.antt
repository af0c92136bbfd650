-- Of one input one output: two dry runs that read the same lines from the same plan stand the same and have printed the same.
use Rattle.std.proofs.Common.{◌≡◌, ℕ, List, [], ◌∷◌, ◌++◌, length, get_or, drop, is_some, Some, Ok, Err, sym, refl, ap, ◌∙◌, subst, arith}
use mathlib.Core.Path.{fun_ext}
use Rattle.std.proofs.lemmas.List.{length_push}
use Rattle.std.proofs.lemmas.Option.{none-some, same_Some}
use Rattle.bank.specs.Meaning.{Lists}
use Rattle.controller.specs.Banks.{BankChanges}
use Rattle.controller.specs.declared.controller.Controller.{Controller}
use Rattle.event.specs.Answers.{calls_of, event_call, line_text, unreadable_text}
use Rattle.event.specs.Lines.{read_event, event_questions}
use Rattle.rules.specs.declared.call.Call.{Call}
use Rattle.bank.specs.Questions.{Told}
use Rattle.plan.specs.Contents.{Contents, resource_count}
use Rattle.plan_text.specs.Texts.{Verdict}
use Rattle.rules.specs.declared.event.Event.{Event}
use Rattle.rules.specs.Histories.{History}
use Rattle.rules.specs.Jobs.{Setup, Snapshot}
use Rattle.rules.specs.Moves.{Does, moved_task, one_more_if}
use Rattle.rules.specs.declared.task.Task.{Task}
use Rattle.text.specs.Questions.{ask, first_no}
use Rattle.text.specs.Refusals.{number}
use Rattle.text.specs.declared.refusal.Refusal.{Refusal}
use Rattle.dry_run.specs.Banks.{PlanBanks, meaning}
use Rattle.dry_run.specs.Made.{setup, snapshot, MadeFrom, Step}
use Rattle.dry_run.specs.Plays.{Replays, StepsBy, none, unreadable, answered, PrintedBy, Printed}
use Rattle.dry_run.specs.Said.{preamble_text, verdict}
use Rattle.dry_run.proofs.SameBanks.{SameBanks, banks_exact, same_made}
use Rattle.dry_run.proofs.SameCalls.{call_same}

-- two controllers of one plan that stand the same
pub record Same (k j : Controller PlanBanks meaning) : Type 0 where
  pub set_up : setup k ≡ setup j
  pub stands : snapshot k ≡ snapshot j
  pub banks : SameBanks k.bank j.bank

abbrev standing : (ℕ → Task) → Lists → ℕ → ℕ → Snapshot
standing tasks lists clock releases = record { tasks = tasks; lists = lists; clock = clock; releases = releases }

stands_same : (s t : Snapshot) → ((q : ℕ) → s.tasks q ≡ t.tasks q) → s.lists ≡ t.lists → s.clock ≡ t.clock → s.releases ≡ t.releases → s ≡ t
stands_same s t tasks lists clock releases =
    ap (λ f. standing f s.lists s.clock s.releases) (fun_ext tasks)
    ∙ (ap (λ l. standing t.tasks l s.clock s.releases) lists ∙ (ap (λ n. standing t.tasks t.lists n s.releases) clock ∙ ap (standing t.tasks t.lists t.clock) releases))

-- A START

abbrev made : Contents → Told → ℕ → ℕ → Setup
made plan told tasks resources = record { plan = plan; told = told; tasks = tasks; resources = resources }

pub starts_same : (c : Contents) (k j : Controller PlanBanks meaning) → MadeFrom c k → MadeFrom c j → Same k j
starts_same c k j x y =
    let banks = same_made c k.bank j.bank x.bank_of y.bank_of in
    let told = banks_exact.tells _ _ banks in
    let plan = x.plan ∙ sym y.plan in
    record {
      set_up = setups (setup k) (setup j) plan told (x.fitting.tasks ∙ (ap (λ (p : Contents). length p.tasks) plan ∙ sym y.fitting.tasks)) (x.fitting.resources ∙ (ap resource_count plan ∙ sym y.fitting.resources));
      stands = stands_same (snapshot k) (snapshot j) (λ q. x.begins.idle q ∙ sym (y.begins.idle q)) (banks_exact.lists _ _ banks) (x.begins.clock ∙ sym y.begins.clock) (x.begins.releases ∙ sym y.begins.releases);
      banks = banks;
    }
  where
    setups : (a b : Setup) → a.plan ≡ b.plan → a.told ≡ b.told → a.tasks ≡ b.tasks → a.resources ≡ b.resources → a ≡ b
    setups a b plan told tasks resources =
        ap (λ p. made p a.told a.tasks a.resources) plan ∙ (ap (λ t. made b.plan t a.tasks a.resources) told ∙ (ap (λ n. made b.plan b.told n a.resources) tasks ∙ ap (made b.plan b.told b.tasks) resources))

-- A STEP

step_same : (k j : Controller PlanBanks meaning) → Same k j → (x y : Event) → event_call x ≡ event_call y → (p q : Controller PlanBanks meaning) → Step k x p → Step j y q → Same p q × (line_text x ≡ line_text y)
step_same k j same x y f p q a b =
    let does : Does (setup k) (snapshot k) y (snapshot q) = subst (λ v. Does v (snapshot k) y (snapshot q)) (sym same.set_up) (subst (λ s. Does (setup j) s y (snapshot q)) (sym same.stands) b.does) in
    let banks : BankChanges meaning (snapshot k) y j.bank q.bank = subst (λ s. BankChanges meaning s y j.bank q.bank) (sym same.stands) b.bank in
    let both = call_same (setup k) (snapshot k) k.bank j.bank p.bank q.bank same.banks (snapshot p).lists (snapshot q).lists x y f a.does.answered does.answered a.bank banks in
    let lists = banks_exact.lists _ _ both.1 in (
      record {
        set_up = a.setup ∙ (same.set_up ∙ sym b.setup);
        stands =
            stands_same (snapshot p) (snapshot q)
            (λ n. a.does.tasks n ∙ (ap (λ l. moved_task (snapshot k) x l n) lists ∙ (both.0.moved (snapshot q).lists n ∙ sym (does.tasks n))))
            lists
            (a.does.clock ∙ (ap (λ v. one_more_if v (snapshot k).clock) both.0.tick ∙ sym does.clock))
            (a.does.releases ∙ (ap (λ v. one_more_if v (snapshot k).releases) both.0.release ∙ sym does.releases));
        banks = both.1;
      },
      both.0.text,
    )

-- A ROW OF CALLS

-- the same is called, and the same is printed
abbrev SameAsked : List Event → List Event → Type 0
SameAsked [] [] = Unit {0}
SameAsked (x ∷ xs) (y ∷ ys) = (event_call x ≡ event_call y) × SameAsked xs ys
SameAsked _ _ = ⊥

abbrev SameTexts : List Event → List Event → Type 0
SameTexts [] [] = Unit {0}
SameTexts (x ∷ xs) (y ∷ ys) = (line_text x ≡ line_text y) × SameTexts xs ys
SameTexts _ _ = ⊥

steps_same : (xs ys : List Event) (k j : Controller PlanBanks meaning) → Same k j → SameAsked xs ys → (h i g f : History) (p q : Controller PlanBanks meaning) → StepsBy xs k h p g → StepsBy ys j i q f → Same p q × SameTexts xs ys
steps_same [] [] k j same asked h i g f p q a b = (subst (λ x. Same x q) (sym a.0) (subst (Same k) (sym b.0) same), tt)
steps_same [] (y ∷ ys) k j same asked h i g f p q a b = absurd asked
steps_same (x ∷ xs) [] k j same asked h i g f p q a b = absurd asked
steps_same (x ∷ xs) (y ∷ ys) k j same (form, asked) h i g f p q (next, step, steps) (next2, step2, steps2) =
    let one = step_same k j same x y form next next2 step step2 in
    let rest = steps_same xs ys next next2 one.0 asked _ _ g f p q steps steps2 in
    (rest.0, (one.1, rest.1))

-- those of one event with its answer
calls_asked : (x y : Event) → event_call x ≡ event_call y → SameAsked (calls_of x) (calls_of y)
calls_asked x y f = (f, tt)

text_same : (x y : Event) → SameTexts (calls_of x) (calls_of y) → line_text x ≡ line_text y
text_same x y same = same.0

-- THE LINES

pub snoc_same : (xs ys : List (List ℕ)) (x y : List ℕ) → xs ++ (x ∷ []) ≡ ys ++ (y ∷ []) → (xs ≡ ys) × (x ≡ y)
snoc_same [] [] x y e = (refl, ap (λ l. get_or l 0 []) e)
snoc_same [] (b ∷ bs) x y e = absurd (omega (arith, length_push bs y, ap length e))
snoc_same (a ∷ more) [] x y e = absurd (omega (arith, length_push more x, ap length e))
snoc_same (a ∷ more) (b ∷ bs) x y e =
    let rest = snoc_same more bs x y (ap (drop 1) e) in
    (ap (λ v. v ∷ more) (ap (λ l. get_or l 0 []) e) ∙ ap (λ vs. b ∷ vs) rest.0, rest.1)

-- one number, one text
unreadable_same : (a b : Refusal) → number a ≡ number b → unreadable_text a ≡ unreadable_text b
unreadable_same a b e = cc

-- a line of which an event is read is refused by no number
event_read : (line : List ℕ) (event : Call) (why : Refusal) → read_event line ≡ Some event → first_no (event_questions line) ≡ Some (number why) → ⊥
event_read line event why r u = none-some (number why) (sym (ap (λ o. first_no (ask 21 (is_some o) ∷ [])) r) ∙ u)

pub replays_same : (c : Contents) (f g : Controller PlanBanks meaning) → Same f g → (ls ms : List (List ℕ)) (h i : History) (k j : Controller PlanBanks meaning) (o q : List ℕ) → Replays f ls h k o → Replays g ms i j q → ls ≡ ms → Same k j × (o ≡ q)
replays_same c f g same _ _ _ _ _ _ _ _ none none e = (same, refl)
replays_same c f g same _ _ _ _ _ _ _ _ none (unreadable {lines} line why r u) e = absurd (omega (arith, length_push lines line, ap length e))
replays_same c f g same _ _ _ _ _ _ _ _ none (answered {lines} line event answer r u of steps) e = absurd (omega (arith, length_push lines line, ap length e))
replays_same c f g same _ _ _ _ _ _ _ _ (unreadable {lines} line why r u) none e = absurd (omega (arith, length_push lines line, ap length e))
replays_same c f g same _ _ _ _ _ _ _ _ (answered {lines} line event answer r u of steps) none e = absurd (omega (arith, length_push lines line, ap length e))
replays_same c f g same _ _ _ _ _ _ _ _ (unreadable line why r u) (unreadable {out = q} other why2 s w) e =
    let parts = snoc_same _ _ line other e in
    let before = replays_same c f g same _ _ _ _ _ _ _ _ r s parts.0 in
    let one : number why ≡ number why2 = same_Some _ _ (sym u ∙ (ap (λ l. first_no (event_questions l)) parts.1 ∙ w)) in
    (before.0, ap (λ x. x ++ unreadable_text why) before.1 ∙ ap (λ x. q ++ x) (unreadable_same why why2 one))
replays_same c f g same _ _ _ _ _ _ _ _ (unreadable line why r u) (answered other event answer s w of steps) e =
    let parts = snoc_same _ _ line other e in absurd (event_read line event why (ap read_event parts.1 ∙ w) u)
replays_same c f g same _ _ _ _ _ _ _ _ (answered line event answer r u of steps) (unreadable other why s w) e =
    let parts = snoc_same _ _ line other e in absurd (event_read other event why (ap read_event (sym parts.1) ∙ u) w)
replays_same c f g same _ _ _ _ _ _ _ _ (answered {k = k} line event answer r u of steps) (answered {k = j} {out = q} other event2 answer2 s w of2 steps2) e =
    let parts = snoc_same _ _ line other e in
    let before = replays_same c f g same _ _ _ _ _ _ _ _ r s parts.0 in
    let one : event2 ≡ event = same_Some _ _ (sym w ∙ (ap read_event (sym parts.1) ∙ u)) in
    let after = steps_same (calls_of answer) (calls_of answer2) k j before.0 (calls_asked answer answer2 (of ∙ sym (of2 ∙ one))) _ _ _ _ _ _ steps steps2 in
    (after.0, ap (λ x. x ++ line_text answer) before.1 ∙ ap (λ x. q ++ x) (text_same answer answer2 after.1))

-- WHOLE INPUTS

prints_same : (v : Verdict) (input o q : List ℕ) → PrintedBy v input o → PrintedBy v input q → o ≡ q
prints_same (Ok c) input o q (k, x) (j, y) =
    x.printed ∙ (ap (λ t. preamble_text c ++ t) (replays_same c x.begins y.begins (starts_same c x.begins y.begins x.controller y.controller) _ _ _ _ _ _ _ _ x.replays y.replays refl).1 ∙ sym y.printed)
prints_same (Err why) input o q x y = x ∙ sym y

pub one_print : (input o q : List ℕ) → Printed input o → Printed input q → o ≡ q
one_print input o q x y = prints_same (verdict input) input o q x y
