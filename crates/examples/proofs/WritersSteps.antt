-- A reader-writer resource worked by calls, from its entries alone.
use Rattle.std.proofs.Common.{◌≡◌, ℕ, Bool, List, [], ◌∷◌, None, Ok, Err, Option, Result, sym, refl, ap, ◌∙◌}
use Rattle.std.specs.Prelude.{⊤}
use Rattle.std.proofs.lemmas.Option.{none-some}
use Rattle.text.specs.Questions.{first_no}
use Rattle.bank.specs.Questions.{number, Told, enter_questions, leave_questions}
use Rattle.bank.specs.declared.refusal.Refusal.{Refusal}
use Rattle.bank.specs.declared.request.Mode.{Mode}
use Rattle.bank.specs.declared.request.Mode.TheVariants.{Write, Read}
use Rattle.plan.specs.Contents.{Contents, processors}
use Rattle.plan_text.specs.Texts.{read_text}
use Rattle.readers_writers.specs.ReadersWriters.{told_of, active_of, entries_of, writers_ghosts}
use Rattle.readers_writers.specs.Lines.{admits, entered as entered_list, left as left_list, requests, turn_limit}
use Rattle.readers_writers.specs.Told.{reader_writers_of, told_with}
use Rattle.readers_writers.specs.declared.entry.Entry.{Entry}
use Rattle.readers_writers.specs.declared.lines.ReadersWriters.{ReadersWriters}
use Rattle.examples.specs.Banks.{WritersWork}
use Rattle.examples.specs.Steps.{Step, enters, leaves, EnterGives, LeaveGives, Works}

-- one resource with m seats, and its entries
pub record Stands (m : ℕ) (es : List Entry) (b : ReadersWriters) : Type 0 where
  pub resources : (told_of b).resources ≡ 1
  pub seats : (told_of b).seats ≡ m
  pub entries : entries_of b 0 ≡ es

abbrev enter_asks : ℕ → ℕ → List Entry → ℕ → Mode → Option ℕ
enter_asks n m es p w = first_no (enter_questions (told_with n m) 0 p w (requests es))

abbrev leave_asks : ℕ → List Entry → ℕ → Option ℕ
leave_asks n es p = first_no (leave_questions (told_with n 0) 0 p (requests es))

-- each call is taken, with this answer, and these requests are active then
abbrev pub Goes : ℕ → List Entry → List Step → Type 0
Goes m es [] = ⊤
Goes m es (enters p w holds xs ∷ steps) =
    (enter_asks 1 m es p w ≡ None)
    × (admits es w ≡ holds)
    × (requests (entered_list es p w) ≡ xs)
    × Goes m (entered_list es p w) steps
Goes m es (leaves p xs ∷ steps) =
    (leave_asks 1 es p ≡ None)
    × (requests (left_list es p) ≡ xs)
    × Goes m (left_list es p) steps

module _ (m : ℕ) (es : List Entry) (b : ReadersWriters) (st : Stands m es b) where
  active : active_of b 0 ≡ requests es
  active = ap requests st.entries

  enter_asked : (p : ℕ) (w : Mode) → first_no (enter_questions (told_of b) 0 p w (active_of b 0)) ≡ enter_asks 1 m es p w
  enter_asked p w =
      ap (λ n. enter_asks n b.seats (entries_of b 0) p w) st.resources
      ∙ (ap (λ n. enter_asks 1 n (entries_of b 0) p w) st.seats
      ∙ ap (λ ds. enter_asks 1 m ds p w) st.entries)

  leave_asked : (p : ℕ) → first_no (leave_questions (told_of b) 0 p (active_of b 0)) ≡ leave_asks 1 es p
  leave_asked p =
      ap (λ n. leave_asks n (entries_of b 0) p) st.resources
      ∙ ap (λ ds. leave_asks 1 ds p) st.entries

  stands : (d : ReadersWriters) → told_of d ≡ told_of b → (ds : List Entry) → entries_of d 0 ≡ ds → Stands m ds d
  stands d same ds e =
      record {
        resources = ap (λ (x : Told). x.resources) same ∙ st.resources;
        seats = ap (λ (x : Told). x.seats) same ∙ st.seats;
        entries = e;
      }

  entered : (d : ReadersWriters) (p : ℕ) (w : Mode) (a : Result Bool Refusal) → enter_asks 1 m es p w ≡ None → EnterGives writers_ghosts p w a b d → (a ≡ Ok (admits es w)) × Stands m (entered_list es p w) d
  entered d p w (Err why) asks g = absurd (none-some (number why) (sym asks ∙ (sym (enter_asked p w) ∙ g.0.lists)))
  entered d p w (Ok h) asks g = (
    ap Ok (g.1.holds ∙ ap (λ ds. admits ds w) st.entries),
    stands d g.0.tells (entered_list es p w) (g.1.entries.here ∙ ap (λ ds. entered_list ds p w) st.entries),
  )

  left : (d : ReadersWriters) (p : ℕ) (a : Result (Unit {0}) Refusal) → leave_asks 1 es p ≡ None → LeaveGives writers_ghosts p a b d → (a ≡ Ok tt) × Stands m (left_list es p) d
  left d p (Err why) asks g = absurd (none-some (number why) (sym asks ∙ (sym (leave_asked p) ∙ g.0.lists)))
  left d p (Ok done) asks g = (refl, stands d g.0.tells (left_list es p) (g.1.here ∙ ap (λ ds. left_list ds p) st.entries))

pub works : (m : ℕ) (es : List Entry) (b : ReadersWriters) (steps : List Step) → Stands m es b → Goes m es steps → Works writers_ghosts b steps
works m es b [] st g = tt
works m es b (enters p w holds xs ∷ steps) st g = (
  enter_asked m es b st p w ∙ g.0,
  λ a d e. let r = entered m es b st d p w a g.0 e in (r.0 ∙ ap Ok g.1, active m (entered_list es p w) d r.1 ∙ g.2, works m (entered_list es p w) d steps r.1 g.3),
)
works m es b (leaves p xs ∷ steps) st g = (
  leave_asked m es b st p ∙ g.0,
  λ a d e. let r = left m es b st d p a g.0 e in (r.0, active m (left_list es p) d r.1 ∙ g.1, works m (left_list es p) d steps r.1 g.2),
)

pub writers_work : (text : List ℕ) (c : Contents) (m w r : ℕ) (steps : List Step) → read_text text ≡ Ok c → processors c ≡ m → reader_writers_of c.resources ≡ 1 → turn_limit m Write ≡ w → turn_limit m Read ≡ r → Goes m [] steps → WritersWork text c m w r steps
writers_work text c m w r steps accepted e one write_turns read_turns g = (
  accepted,
  λ b made.
      let seats : (told_of b).seats ≡ m = ap (λ (x : Told). x.seats) made.told ∙ e in
      let st : Stands m [] b = record { resources = ap (λ (x : Told). x.resources) made.told ∙ one; seats = seats; entries = made.nobody 0 } in (
        record {
          seats = seats;
          slots = refl;
          write_limit = ap (λ n. turn_limit n Write) seats ∙ write_turns;
          read_limit = ap (λ n. turn_limit n Read) seats ∙ read_turns;
        },
        works m [] b steps st g,
      ),
)
