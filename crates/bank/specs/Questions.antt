-- The questions that a bank puts, in order; the first answered no decides.
use Rattle.std.specs.Prelude.{◌≡◌, ℕ, Bool, true, not, List, [], ◌∷◌, length}
use Rattle.std.specs.Prelude.{Some, None, Ok, Err, Option, Result, nat_lt}
use Rattle.text.specs.Questions.{Question, ask, first_no}
use Rattle.bank.specs.declared.size.TheConstants.{PARTIES}
use Rattle.bank.specs.Lists.{is_active, is_holder, request_of}
use Rattle.bank.specs.declared.refusal.Refusal.{Refusal}
use Rattle.bank.specs.declared.refusal.Refusal.TheVariants.{NoResource, NoMode, NoParty, AlreadyActive, NoSeat, NotHolding}
use Rattle.bank.specs.declared.request.Mode.{Mode}
use Rattle.bank.specs.declared.request.Mode.TheVariants.{Write, Read}
use Rattle.bank.specs.declared.request.Request.{Request}

abbrev pub number : Refusal → ℕ
number NoResource = 2
number NoMode = 3
number NoParty = 12
number AlreadyActive = 13
number NoSeat = 14
number NotHolding = 15

-- the number of a refusal
abbrev pub refused_by : {A : Type 0} → Result A Refusal → Option ℕ
refused_by (Ok done) = None
refused_by (Err why) = Some (number why)

-- what a bank tells of itself; none of it ever changes
pub record Told : Type 0 where
  pub resources : ℕ
  pub seats : ℕ
  -- k, the most holders in mode W at a resource
  pub slots : ℕ → ℕ
  -- whether a resource knows the mode R; it always knows W
  pub reads : ℕ → Bool
  -- the turn limit of a mode at a resource
  pub limit : ℕ → Mode → ℕ

abbrev pub knows : Told → ℕ → Mode → Bool
knows t r Write = true
knows t r Read = t.reads r

-- is there a resource of this number among so many?
abbrev pub index_questions : ℕ → ℕ → List Question
index_questions count r = ask 2 (nat_lt r count) ∷ []

-- is there a party of this number?
abbrev pub check_party_questions : ℕ → List Question
check_party_questions p = ask 12 (nat_lt p PARTIES) ∷ []

abbrev pub resource_questions : Told → ℕ → List Question
resource_questions t r = index_questions t.resources r

abbrev pub limit_questions : Told → ℕ → Mode → List Question
limit_questions t r m =
    ask 2 (nat_lt r t.resources)
    ∷ ask 3 (knows t r m)
    ∷ []

abbrev pub party_questions : Told → ℕ → ℕ → List Question
party_questions t r p =
    ask 2 (nat_lt r t.resources)
    ∷ ask 12 (nat_lt p PARTIES)
    ∷ []

abbrev pub enter_questions : Told → ℕ → ℕ → Mode → List Request → List Question
enter_questions t r p m xs =
    ask 2 (nat_lt r t.resources)
    ∷ ask 3 (knows t r m)
    ∷ ask 12 (nat_lt p PARTIES)
    ∷ ask 13 (not (is_active p xs))
    ∷ ask 14 (nat_lt (length xs) t.seats)
    ∷ []

abbrev pub leave_questions : Told → ℕ → ℕ → List Request → List Question
leave_questions t r p xs =
    ask 2 (nat_lt r t.resources)
    ∷ ask 12 (nat_lt p PARTIES)
    ∷ ask 15 (is_holder p xs)
    ∷ []

-- a question to a bank is answered with the value, or refused
abbrev pub Tells : {A : Type 0} → List Question → A → Result A Refusal → Type 0
Tells questions value (Ok x) = (first_no questions ≡ None) × (x ≡ value)
Tells questions value (Err why) = first_no questions ≡ Some (number why)

-- a question of a resource, of a mode's turn limit there, and of a party's request there
abbrev pub TellsAt : {A : Type 0} → Told → ℕ → A → Result A Refusal → Type 0
TellsAt t r value result = Tells (resource_questions t r) value result

abbrev pub TellsTurnLimit : Told → ℕ → Mode → Result ℕ Refusal → Type 0
TellsTurnLimit t r m result = Tells (limit_questions t r m) (t.limit r m) result

abbrev pub TellsRequest : Told → ℕ → ℕ → List Request → Result (Option Request) Refusal → Type 0
TellsRequest t r p xs result = Tells (party_questions t r p) (request_of p xs) result

-- a party is one of those that may be, or refused
abbrev pub IsParty : ℕ → Result (Unit {0}) Refusal → Type 0
IsParty p result = Tells (check_party_questions p) tt result

-- the place of a resource among so many, or the refusal where there is none
abbrev pub IsIndex : ℕ → ℕ → Result ℕ Refusal → Type 0
IsIndex count r result = Tells (index_questions count r) r result
