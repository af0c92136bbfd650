-- A slot resource worked by calls, from its parties alone.
use Rattle.std.proofs.Common.{◌≡◌, ℕ, Bool, false, List, [], ◌∷◌, ◌++◌, length, None, Ok, Err, Option, Result, nat_lt, sym, refl, ap, ◌∙◌, slice_index}
use Rattle.std.specs.Prelude.{⊤}
use Rattle.std.specs.List.{remove}
use Rattle.std.proofs.lemmas.Option.{none-some}
use Rattle.text.specs.Questions.{first_no}
use Rattle.bank.specs.Questions.{number, Told, enter_questions, leave_questions}
use Rattle.bank.specs.declared.refusal.Refusal.{Refusal}
use Rattle.bank.specs.declared.request.Mode.{Mode}
use Rattle.plan.specs.Contents.{Contents, processors}
use Rattle.plan_text.specs.Texts.{read_text}
use Rattle.slots.specs.Lines.{requests, turn_limit}
use Rattle.slots.specs.Slots.{holders_of, parties_of, told_of, active_of, slots_ghosts, MadeFrom}
use Rattle.slots.specs.Planned.{slots_of}
use Rattle.slots.specs.Rows.{place}
use Rattle.slots.specs.declared.slots.Slots.{Slots}
use Rattle.examples.specs.Banks.{SlotsWork}
use Rattle.examples.specs.Steps.{Step, enters, leaves, EnterGives, LeaveGives, Works}

-- one resource for k with m seats, and who is active there
pub record Stands (m k : ℕ) (ps : List ℕ) (s : Slots) : Type 0 where
  pub resources : (told_of s).resources ≡ 1
  pub seats : (told_of s).seats ≡ m
  pub slots : (told_of s).slots 0 ≡ k
  pub parties : parties_of s 0 ≡ ps

abbrev told : ℕ → ℕ → ℕ → Told
told n m k = record { resources = n; seats = m; slots = λ _. k; reads = λ _. false; limit = λ _ _. 0 }

abbrev enter_asks : ℕ → ℕ → ℕ → List ℕ → ℕ → Mode → Option ℕ
enter_asks n m k ps p w = first_no (enter_questions (told n m k) 0 p w (requests k ps))

abbrev leave_asks : ℕ → ℕ → List ℕ → ℕ → Option ℕ
leave_asks n k ps p = first_no (leave_questions (told n 0 k) 0 p (requests k ps))

-- each call is taken, with this answer, and these requests are active then
abbrev pub Goes : ℕ → ℕ → List ℕ → List Step → Type 0
Goes m k ps [] = ⊤
Goes m k ps (enters p w holds xs ∷ steps) =
    (enter_asks 1 m k ps p w ≡ None)
    × (nat_lt (length ps) k ≡ holds)
    × (requests k (ps ++ p ∷ []) ≡ xs)
    × Goes m k (ps ++ p ∷ []) steps
Goes m k ps (leaves p xs ∷ steps) =
    (leave_asks 1 k ps p ≡ None)
    × (requests k (remove ps (place p ps)) ≡ xs)
    × Goes m k (remove ps (place p ps)) steps

module _ (m k : ℕ) (ps : List ℕ) (s : Slots) (st : Stands m k ps s) where
  active : active_of s 0 ≡ requests k ps
  active = ap (λ n. requests n (parties_of s 0)) st.slots ∙ ap (λ qs. requests k qs) st.parties

  enter_asked : (p : ℕ) (w : Mode) → first_no (enter_questions (told_of s) 0 p w (active_of s 0)) ≡ enter_asks 1 m k ps p w
  enter_asked p w =
      ap (λ n. enter_asks n s.seats (holders_of s 0) (parties_of s 0) p w) st.resources
      ∙ (ap (λ n. enter_asks 1 n (holders_of s 0) (parties_of s 0) p w) st.seats
      ∙ (ap (λ n. enter_asks 1 m n (parties_of s 0) p w) st.slots
      ∙ ap (λ qs. enter_asks 1 m k qs p w) st.parties))

  leave_asked : (p : ℕ) → first_no (leave_questions (told_of s) 0 p (active_of s 0)) ≡ leave_asks 1 k ps p
  leave_asked p =
      ap (λ n. leave_asks n (holders_of s 0) (parties_of s 0) p) st.resources
      ∙ (ap (λ n. leave_asks 1 n (parties_of s 0) p) st.slots
      ∙ ap (λ qs. leave_asks 1 k qs p) st.parties)

  stands : (t : Slots) → told_of t ≡ told_of s → (qs : List ℕ) → parties_of t 0 ≡ qs → Stands m k qs t
  stands t same qs e =
      record {
        resources = ap (λ (x : Told). x.resources) same ∙ st.resources;
        seats = ap (λ (x : Told). x.seats) same ∙ st.seats;
        slots = ap (λ (x : Told). x.slots 0) same ∙ st.slots;
        parties = e;
      }

  entered : (t : Slots) (p : ℕ) (w : Mode) (a : Result Bool Refusal) → enter_asks 1 m k ps p w ≡ None → EnterGives slots_ghosts p w a s t → (a ≡ Ok (nat_lt (length ps) k)) × Stands m k (ps ++ p ∷ []) t
  entered t p w (Err why) asks g = absurd (none-some (number why) (sym asks ∙ (sym (enter_asked p w) ∙ g.0.lists)))
  entered t p w (Ok h) asks g = (
    ap Ok (g.1.holds ∙ (ap (λ n. nat_lt (length (parties_of s 0)) n) st.slots ∙ ap (λ (qs : List ℕ). nat_lt (length qs) k) st.parties)),
    stands t g.0.tells (ps ++ p ∷ []) (g.1.parties.here ∙ ap (λ (qs : List ℕ). qs ++ p ∷ []) st.parties),
  )

  left : (t : Slots) (p : ℕ) (a : Result (Unit {0}) Refusal) → leave_asks 1 k ps p ≡ None → LeaveGives slots_ghosts p a s t → (a ≡ Ok tt) × Stands m k (remove ps (place p ps)) t
  left t p (Err why) asks g = absurd (none-some (number why) (sym asks ∙ (sym (leave_asked p) ∙ g.0.lists)))
  left t p (Ok done) asks g =
      (refl, stands t g.0.tells (remove ps (place p ps)) (g.1.parties.here ∙ ap (λ (qs : List ℕ). remove qs (place p qs)) st.parties))

pub works : (m k : ℕ) (ps : List ℕ) (s : Slots) (steps : List Step) → Stands m k ps s → Goes m k ps steps → Works slots_ghosts s steps
works m k ps s [] st g = tt
works m k ps s (enters p w holds xs ∷ steps) st g = (
  enter_asked m k ps s st p w ∙ g.0,
  λ a t e. let r = entered m k ps s st t p w a g.0 e in (r.0 ∙ ap Ok g.1, active m k (ps ++ p ∷ []) t r.1 ∙ g.2, works m k (ps ++ p ∷ []) t steps r.1 g.3),
)
works m k ps s (leaves p xs ∷ steps) st g = (
  leave_asked m k ps s st p ∙ g.0,
  λ a t e. let r = left m k ps s st t p a g.0 e in (r.0, active m k (remove ps (place p ps)) t r.1 ∙ g.1, works m k (remove ps (place p ps)) t steps r.1 g.2),
)

-- a bank just made from a plan with one slot resource
made : (c : Contents) (m k : ℕ) (s : Slots) → processors c ≡ m → slots_of c.resources ≡ k ∷ [] → MadeFrom c s → Stands m k [] s
made c m k s seats slots d =
    record {
      resources = ap (λ (x : Told). x.resources) d.told ∙ ap length slots;
      seats = ap (λ (x : Told). x.seats) d.told ∙ seats;
      slots = ap (λ (x : Told). x.slots 0) d.told ∙ ap (λ (xs : List ℕ). slice_index xs 0) slots;
      parties = d.nobody 0;
    }

pub slots_work : (text : List ℕ) (c : Contents) (m k turns : ℕ) (steps : List Step) → read_text text ≡ Ok c → processors c ≡ m → slots_of c.resources ≡ k ∷ [] → turn_limit m k ≡ turns → Goes m k [] steps → SlotsWork text c m k turns steps
slots_work text c m k turns steps accepted seats slots e g = (
  accepted,
  λ s d.
      let st = made c m k s seats slots d in (
        record {
          seats = st.seats;
          slots = st.slots;
          limit = ap (λ n. turn_limit n (holders_of s 0)) st.seats ∙ (ap (λ n. turn_limit m n) st.slots ∙ e);
        },
        works m k [] s steps st g,
      ),
)
