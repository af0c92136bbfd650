-- What was printed so far is the front of whatever is printed in the end.
use Rattle.std.proofs.Common.{◌≡◌, ℕ, ◌⊎◌, ◌+◌, ◌≤◌, List, [], ◌∷◌, ◌++◌, length, take, drop, Some, None, Ok, Err, Option, OnErr, Result, sym, refl, ap, ◌∙◌, subst, inl, inr, ⊎_elim, append_assoc, append-nil, arith, length-append}
use Rattle.std.proofs.lemmas.List.{length_push, take_at}
use Rattle.std.proofs.Math.Seq.{take-append_seam}
use Rattle.std.proofs.KnownBytes.{Appends-nil, Consumes-nil, starts_with_rest}
use Rattle.std.specs.Io.{StartsWith}
use Rattle.std.specs.Io.KnownBytes.{Appends, Consumes, IsAtEnd}
use Rattle.controller.specs.declared.controller.Controller.{Controller}
use Rattle.event.specs.Answers.{line_text, unreadable_text}
use Rattle.plan.specs.Contents.{Contents}
use Rattle.plan_text.specs.Texts.{Verdict}
use Rattle.rules.specs.Histories.{History}
use Rattle.text.specs.Lines.{lines_of}
use Rattle.dry_run.specs.Banks.{PlanBanks, meaning}
use Rattle.event.specs.Laid.{Laid}
use Rattle.dry_run.specs.Fed.{FedIn, Fed}
use Rattle.dry_run.specs.Played.{Has, Played, PlayedInPart, ReadsAsNeeded}
use Rattle.dry_run.specs.Plays.{Replays, none, unreadable, answered, Plays, PrintedBy, Printed, SettledBy}
use Rattle.dry_run.specs.Said.{GoesOn, part_verdict, verdict, behind_plan, preamble_text}
use Rattle.dry_run.specs.declared.run.DryRun.{DryRun}
use Rattle.dry_run.specs.declared.run.Progress.{Progress}
use Rattle.dry_run.specs.declared.run.Progress.TheVariants.{Plan, Events, Over}
use Rattle.dry_run.proofs.SameRuns.{one_print, replays_same, snoc_same, starts_same}
use Rattle.dry_run.proofs.Steps.{part_of, behind_of}

-- bytes with more behind them
abbrev Front : List ℕ → List ℕ → Type 0
Front front whole = (rest : List ℕ) × (whole ≡ front ++ rest)

starts : (front whole : List ℕ) → Front front whole → StartsWith whole front
starts front whole (rest, e) = ap (take (length front)) e ∙ take-append_seam front rest

front_trans : (a b c : List ℕ) → Front a b → Front b c → Front a c
front_trans a b c (xs, e) (ys, f) = (xs ++ ys, f ∙ (ap (λ zs. zs ++ ys) e ∙ append_assoc a xs ys))

front_of : (front whole : List ℕ) → StartsWith whole front → Front front whole
front_of front whole h = (_, starts_with_rest whole front h)

-- behind the same bytes
front_behind : (xs front whole : List ℕ) → Front front whole → Front (xs ++ front) (xs ++ whole)
front_behind xs front whole (rest, e) = (rest, ap (λ zs. xs ++ zs) e ∙ sym (append_assoc xs front rest))

-- THE LINES

-- no lines, or a last one
last_of : (xs : List (List ℕ)) → (xs ≡ []) ⊎ ((ys : List (List ℕ)) × (y : List ℕ) × (xs ≡ ys ++ (y ∷ [])))
last_of [] = inl refl
last_of (x ∷ xs) = ⊎_elim (λ e. inr ([], x, ap (λ zs. x ∷ zs) e)) (λ (ys, y, e). inr (x ∷ ys, y, ap (λ zs. x ∷ zs) e)) (last_of xs)

-- a run up to some of the lines
record Upto (first : Controller PlanBanks meaning) (lines : List (List ℕ)) (out : List ℕ) : Type 0 where
  pub history : History
  pub stands : Controller PlanBanks meaning
  pub printed : List ℕ
  pub replays : Replays first lines history stands printed
  pub front : Front printed out

all_lines : (first : Controller PlanBanks meaning) (all lines more : List (List ℕ)) (h : History) (k : Controller PlanBanks meaning) (out : List ℕ) → Replays first all h k out → all ≡ lines ++ more → more ≡ [] → Upto first lines out
all_lines first all lines more h k out r e empty =
    record {
      history = h;
      stands = k;
      printed = out;
      replays = subst (λ ls. Replays first ls h k out) (e ∙ (ap (λ ms. lines ++ ms) empty ∙ append-nil lines)) r;
      front = ([], sym (append-nil out));
    }

longer : (first : Controller PlanBanks meaning) (lines : List (List ℕ)) (out more : List ℕ) → Upto first lines out → Upto first lines (out ++ more)
longer first lines out more u =
    record { history = u.history; stands = u.stands; printed = u.printed; replays = u.replays; front = front_trans u.printed out (out ++ more) u.front (more, refl) }

one_less : (all lines more less : List (List ℕ)) (line last : List ℕ) → all ++ (line ∷ []) ≡ lines ++ more → more ≡ less ++ (last ∷ []) → all ≡ lines ++ less
one_less all lines more less line last e f =
    (snoc_same all (lines ++ less) line last (e ∙ (ap (λ ms. lines ++ ms) f ∙ sym (append_assoc lines less (last ∷ []))))).0

upto : (first : Controller PlanBanks meaning) (all lines more : List (List ℕ)) (h : History) (k : Controller PlanBanks meaning) (out : List ℕ) → Replays first all h k out → all ≡ lines ++ more → Upto first lines out
upto first _ lines more _ _ _ none e =
    ⊎_elim
    (λ (empty : more ≡ []). all_lines first [] lines more _ _ _ none e empty)
    (λ (less, last, f). absurd (omega (arith, ap length (e ∙ (ap (λ ms. lines ++ ms) f ∙ sym (append_assoc lines less (last ∷ [])))), length_push (lines ++ less) last)))
    (last_of more)
upto first _ lines more _ _ _ (unreadable {lines = all} {h = h} {k = k} {out = out} line why r u) e =
    ⊎_elim
    (λ (empty : more ≡ []). all_lines first _ lines more _ _ _ (unreadable line why r u) e empty)
    (λ (less, last, f). longer first lines out (unreadable_text why) (upto first all lines less h k out r (one_less all lines more less line last e f)))
    (last_of more)
upto first _ lines more _ _ _ (answered {lines = all} {h = h} {k = k} {out = out} line event answer r u of steps) e =
    ⊎_elim
    (λ (empty : more ≡ []). all_lines first _ lines more _ _ _ (answered line event answer r u of steps) e empty)
    (λ (less, last, f). longer first lines out (line_text answer) (upto first all lines less h k out r (one_less all lines more less line last e f)))
    (last_of more)

-- two runs of one plan, one of them over more lines
front_plays : (c : Contents) (k j : Controller PlanBanks meaning) (lines more : List (List ℕ)) (out whole : List ℕ) → Plays c k lines out → Plays c j (lines ++ more) whole → Front out whole
front_plays c k j lines more out whole p q =
    let u = upto q.begins (lines ++ more) lines more q.history j q.answers q.replays refl in
    let same : u.printed ≡ p.answers = (replays_same c q.begins p.begins (starts_same c q.begins p.begins q.controller p.controller) lines lines u.history p.history u.stands k u.printed p.answers u.replays p.replays refl).1 in
    let text = preamble_text c in
    subst (λ x. Front x whole) (sym p.printed) (subst (λ x. Front (text ++ p.answers) x) (sym q.printed) (front_behind text p.answers q.answers (subst (λ x. Front x q.answers) same u.front)))

-- THE INPUT

front_accepted : (v : Verdict) (c : Contents) (input out whole : List ℕ) (k : Controller PlanBanks meaning) (lines more : List (List ℕ)) → v ≡ Ok c → lines_of (behind_plan input) ≡ lines ++ more → Plays c k lines out → PrintedBy v input whole → Front out whole
front_accepted v c input out whole k lines more e f p q =
    let (j, plays) = subst (λ w. PrintedBy w input whole) e q in
    front_plays c k j lines more out whole p (subst (λ ls. Plays c j ls whole) f plays)

front_in : (p : Progress) (input out more whole : List ℕ) → FedIn p input out → Printed (input ++ more) whole → Front out whole
front_in (Plan text begins) input out more whole fed q = (whole, ap (λ o. o ++ whole) (sym fed.nothing))
front_in (Events k kept) input out more whole fed q =
    let behind = fed.events ++ more in
    let all : input ++ more ≡ fed.text ++ (10 ∷ behind) = ap (λ xs. xs ++ more) fed.bytes ∙ append_assoc fed.text (10 ∷ fed.events) more in
    front_accepted (verdict (input ++ more)) fed.contents (input ++ more) out whole k fed.lines (lines_of (fed.line ++ more))
    (ap part_verdict (part_of k kept input out fed (input ++ more) behind all) ∙ fed.accepted)
    (ap lines_of (behind_of k kept input out fed (input ++ more) behind all) ∙ fed.cut more)
    fed.plays q
front_in Over input out more whole fed q = ([], one_print (input ++ more) whole out q (fed more) ∙ sym (append-nil out))

-- A READER AND A WRITER

abbrev known : Option (List ℕ) → List ℕ
known None = []
known (Some bytes) = bytes

-- what a reader had is what was read and what is left
has_rest : (before after : Option (List ℕ)) (read : List ℕ) → Consumes before after read → Has before (read ++ known after)
has_rest None after read c = tt
has_rest (Some xs) None read c = absurd c
has_rest (Some xs) (Some ys) read c = c

has_all : (before after : Option (List ℕ)) (read : List ℕ) → Consumes before after read → IsAtEnd after → Has before read
has_all None after read c e = tt
has_all (Some xs) None read c e = absurd c
has_all (Some xs) (Some ys) read c e = c ∙ (ap (λ zs. read ++ zs) e ∙ append-nil read)

-- as much was read as more might be printed behind, or one piece more
pub needed_all : (read : List ℕ) → GoesOn read → ReadsAsNeeded read
needed_all read on = record { ahead = read; front = starts read read ([], sym (append-nil read)); goes_on = on; piece = omega arith }

pub needed_piece : (read piece : List ℕ) → GoesOn read → length piece ≤ 4096 → ReadsAsNeeded (read ++ piece)
needed_piece read piece on few = record {
  ahead = read;
  front = starts read (read ++ piece) (piece, refl);
  goes_on = on;
  piece = omega (arith, few, length-append read piece);
}

module _ (before after old new : Option (List ℕ)) (d : DryRun) (read out : List ℕ) (consumed : Consumes before after read) (fed : Fed d read out) (needed : ReadsAsNeeded read) where
  -- it stops where a dry run has taken what was read, and the front of what it printed was written
  pub stops : (written : List ℕ) → StartsWith out written → Appends old new written → PlayedInPart before after old new
  stops written begins appended = record {
    input = read ++ known after;
    has = has_rest before after read consumed;
    read = read;
    consumed = consumed;
    needed = needed;
    written = written;
    appended = appended;
    front = λ whole q. starts written whole (front_trans written out whole (front_of written out begins) (front_in d.progress read out (known after) whole fed q));
  }

  -- the input is over, and what is then printed was written, or its front
  pub finishes : (last : List ℕ) → Printed read (out ++ last) → ((other : List ℕ) → Printed read other → other ≡ out ++ last) → IsAtEnd after → Appends old new (out ++ last) → Played before after old new
  finishes last says only ended appended = record {
    input = read;
    has = has_all before after read consumed ended;
    read = read;
    front = starts read read ([], sym (append-nil read));
    consumed = consumed;
    needed = needed;
    printed = out ++ last;
    ended = inl (ended, refl);
    appended = appended;
    answers = says;
    only = only;
  }

  pub breaks : (last written : List ℕ) → ((other : List ℕ) → Printed read other → other ≡ out ++ last) → IsAtEnd after → StartsWith last written → Appends old new (out ++ written) → PlayedInPart before after old new
  breaks last written only ended begins appended = record {
    input = read;
    has = has_all before after read consumed ended;
    read = read;
    consumed = consumed;
    needed = needed;
    written = out ++ written;
    appended = appended;
    front = λ whole q. starts (out ++ written) whole (subst (λ x. Front (out ++ written) x) (sym (only whole q)) (front_behind out written last (front_of written last begins)));
  }

  -- nothing more can be printed
  pub settles : SettledBy read out → Appends old new out → Played before after old new
  settles settled appended = record {
    input = read ++ known after;
    has = has_rest before after read consumed;
    read = read;
    front = starts read (read ++ known after) (known after, refl);
    consumed = consumed;
    needed = needed;
    printed = out;
    ended = inr settled;
    appended = appended;
    answers = settled (known after);
    only = λ other q. one_print (read ++ known after) other out q (settled (known after));
  }

-- WHAT A CALL LAID

-- the bytes that were laid at the start of memory
pub laid_front : (old printed : List ℕ) (n : ℕ) (new : List ℕ) → Laid old 0 printed n new → take n new ≡ printed
laid_front old printed n new (size, text) = ap (take n) text ∙ take_at printed (drop (0 + length printed) old) n (omega (arith, size))

-- FRONTS OF WHAT WAS PRINTED

pub front_all : (xs : List ℕ) → StartsWith xs xs
front_all xs = starts xs xs ([], sym (append-nil xs))

pub front_more : (xs front whole : List ℕ) → StartsWith whole front → StartsWith (xs ++ whole) (xs ++ front)
front_more xs front whole h = starts (xs ++ front) (xs ++ whole) (front_behind xs front whole (front_of front whole h))

-- nothing was read and nothing written
pub nothing_written : (before old : Option (List ℕ)) → PlayedInPart before before old old
nothing_written before old = record {
  input = known before;
  has = has_rest before before [] (Consumes-nil before);
  read = [];
  consumed = Consumes-nil before;
  needed = needed_all [] (inl refl);
  written = [];
  appended = Appends-nil old;
  front = λ whole q. refl;
}

pub at_err : {T E P : Type 0} (r : Result T E) → P → OnErr r P
at_err (Ok x) p = tt
at_err (Err e) p = p
