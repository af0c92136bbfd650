-- What each byte makes of a dry run.
use Rattle.std.proofs.Common.{◌≡◌, ℕ, ◌+◌, ◌-◌, ◌*◌, ◌<◌, ◌≤◌, Bool, true, List, [], ◌∷◌, ◌++◌, length, take, drop, Some, None, Ok, Err, Result, unwrap_or, is_some, sym, refl, ap, ◌∙◌, subst, append_assoc, append-nil, add-zero, arith, length-append}
use Rattle.std.proofs.lemmas.List.{length_push, length-take, drop_at, take_at}
use Rattle.controller.specs.declared.controller.Controller.{Controller}
use Rattle.dry_run.specs.Banks.{PlanBanks, meaning}
use Rattle.event.specs.Answers.{unreadable_text}
use Rattle.event.specs.Lines.{read_event, event_questions, ReadsEvent}
use Rattle.rules.specs.declared.call.Call.{Call}
use Rattle.plan.specs.Contents.{Contents}
use Rattle.plan_text.specs.Texts.{Verdict, read_text}
use Rattle.rules.specs.Histories.{History, made, called}
use Rattle.rules.specs.Runs.{LawfulRun, Follows}
use Rattle.rules.specs.declared.event.Event.{Event}
use Rattle.text.specs.Lines.{lines_of}
use Rattle.text.specs.Memory.{overlay}
use Rattle.text.specs.Questions.{ask, first_no}
use Rattle.text.specs.declared.refusal.Refusal.{Refusal}
use Rattle.text.specs.declared.refusal.Refusal.TheVariants.{NotEvent}
use Rattle.text.proofs.Writes.{overlay_none, overlay_more}
use Rattle.event.specs.Laid.{Laid}
use Rattle.dry_run.specs.Fed.{line_begins, Planning, Replaying, FedIn, Fed, Takes, Ends}
use Rattle.dry_run.specs.Steps.{line_reserve, IsLine, LineDone, Plain, RunsOn}
use Rattle.dry_run.specs.Made.{setup, snapshot, MadeFrom, Step}
use Rattle.dry_run.specs.Plays.{Replays, none, unreadable, answered, Plays, PrintedBy, Printed}
use Rattle.dry_run.specs.Said.{before_empty, plan_part, part_verdict, verdict, refused_text, preamble_text, behind_plan, said}
use Rattle.dry_run.specs.declared.run.DryRun.{DryRun}
use Rattle.dry_run.specs.declared.run.Progress.{Progress}
use Rattle.dry_run.specs.declared.run.Progress.TheVariants.{Over}
use Rattle.dry_run.proofs.SameRuns.{one_print}
use Rattle.dry_run.proofs.Bytes.{begins_more, found_none, front_more, part_found, part_none, part_short, plain_append, plain_line, plain_last, plain_unread, reads_front}

pub into : (p q : Progress) → p ≡ q → (i o : List ℕ) → FedIn p i o → FedIn q i o
into p q e i o fed = subst (λ x. FedIn x i o) e fed

pub laid_none : (old : List ℕ) (at : ℕ) → Laid old at [] at old
laid_none old at = (sym (add-zero at), sym (overlay_none old at))

-- THE PLAN

module _ (text : List ℕ) (begun : Bool) (i o : List ℕ) (planning : Planning text begun i o) where
  size_of : length i ≡ length text
  size_of = ap length (sym planning.held)

  unended_more : (bytes : List ℕ) → before_empty begun bytes ≡ None → before_empty true (i ++ bytes) ≡ None
  unended_more bytes more = found_none true i bytes planning.unended (subst (λ v. before_empty v bytes ≡ None) planning.begins more)

  -- bytes more
  pub plan_keeps : (bytes : List ℕ) (begins : Bool) → length text + length bytes ≤ 16383 → before_empty begun bytes ≡ None → line_begins begun bytes ≡ begins → Planning (text ++ bytes) begins (i ++ bytes) (o ++ [])
  plan_keeps bytes begins room more e = record {
    held = ap (λ xs. xs ++ bytes) planning.held;
    few = omega (arith, length-append i bytes, size_of);
    unended = unended_more bytes more;
    begins = sym e ∙ (ap (λ v. line_begins v bytes) planning.begins ∙ sym (begins_more true i bytes));
    nothing = append-nil o ∙ planning.nothing;
  }

  -- the line of a refusal is all that is printed, whatever follows
  refused : (bytes : List ℕ) (question line : ℕ) → ((more : List ℕ) → verdict ((i ++ bytes) ++ more) ≡ Err (question, line)) → FedIn Over (i ++ bytes) (o ++ refused_text question line)
  refused bytes question line e = λ more. subst (λ v. PrintedBy v ((i ++ bytes) ++ more) (o ++ refused_text question line)) (sym (e more)) (ap (λ xs. xs ++ refused_text question line) planning.nothing)

  -- no room for them
  pub plan_full : (bytes : List ℕ) → 16383 < length text + length bytes → before_empty begun bytes ≡ None → FedIn Over (i ++ bytes) (o ++ refused_text 22 0)
  plan_full bytes full more =
      refused bytes 22 0 (λ rest. part_none (i ++ bytes) rest (omega (arith, length-append i bytes, size_of)) (unended_more bytes more))

-- the empty line
module _ (text i o : List ℕ) (planning : Planning text true i o) where
  found : (more : List ℕ) → plan_part (i ++ (10 ∷ more)) ≡ Some i
  found more = part_found i more planning.few planning.unended (sym planning.begins)

  pub plan_refused : (question line : ℕ) → read_text text ≡ Err (question, line) → FedIn Over (i ++ (10 ∷ [])) (o ++ refused_text question line)
  plan_refused question line e =
      refused text true i o planning (10 ∷ []) question line (λ more. ap verdict (append_assoc i (10 ∷ []) more) ∙ (ap part_verdict (found more) ∙ (ap read_text (sym planning.held) ∙ e)))

  pub plan_accepted : (c : Contents) (controller : Controller PlanBanks meaning) → read_text text ≡ Ok c → MadeFrom c controller → Replaying controller [] (i ++ (10 ∷ [])) (o ++ preamble_text c)
  plan_accepted c controller e m = record {
    text = i;
    contents = c;
    events = [];
    lines = [];
    line = [];
    bytes = refl;
    found = found;
    accepted = ap read_text (sym planning.held) ∙ e;
    cut = λ more. refl;
    plain = tt;
    held = refl;
    plays = record {
      begins = controller;
      controller = m;
      history = made (snapshot controller).lists;
      run = m.starts;
      answers = [];
      replays = none;
      printed = ap (λ xs. xs ++ preamble_text c) planning.nothing ∙ sym (append-nil (preamble_text c));
    };
  }

-- THE EVENTS

-- lines that read the same are refused by the same questions
refuses_same : (a b : List ℕ) → read_event a ≡ read_event b → first_no (event_questions a) ≡ first_no (event_questions b)
refuses_same a b e = ap (λ o. first_no (ask 21 (is_some o) ∷ [])) e

pub reads_same : (a b : List ℕ) → read_event a ≡ read_event b → (r : Result Call Refusal) → ReadsEvent a r → ReadsEvent b r
reads_same a b e (Ok event) w = (sym (refuses_same a b e) ∙ w.0, sym e ∙ w.1)
reads_same a b e (Err why) w = sym (refuses_same a b e) ∙ w

-- one call
pub one_call : (k next : Controller PlanBanks meaning) (call : Event) → Follows (setup k) (snapshot k) call (snapshot next) → Step k call next → RunsOn k (call ∷ []) next
one_call k next call follows step = λ h run. (
  called h call (snapshot next).lists,
  subst (λ x. LawfulRun x (snapshot next) (called h call (snapshot next).lists)) (sym step.setup) (follows h run.runs),
  (next, step, (refl, refl)),
)

-- a line whose front was kept up to 16 bytes
module _ (kept rest : List ℕ) (w : IsLine rest) (line : List ℕ) (e : line ≡ take 16 (kept ++ take (length rest - 1) rest)) where
  some_rest : length rest ≡ length w.front + 1
  some_rest = ap length w.text ∙ length_push w.front 10

  front_taken : take (length rest - 1) rest ≡ w.front
  front_taken = ap (take (length rest - 1)) w.text ∙ take_at w.front (10 ∷ []) (length rest - 1) (omega (arith, some_rest))

  pub reads_kept : (r : Result Call Refusal) → ReadsEvent (line ++ (10 ∷ [])) r → ReadsEvent (kept ++ rest) r
  reads_kept = reads_same (line ++ (10 ∷ [])) (kept ++ rest)
      (ap (λ xs. read_event (xs ++ (10 ∷ []))) (e ∙ ap (λ xs. take 16 (kept ++ xs)) front_taken) ∙ (reads_front (kept ++ w.front) [] ∙ ap read_event (append_assoc kept w.front (10 ∷ []) ∙ ap (λ xs. kept ++ xs) (sym w.text))))

  pub kept_reserve : line_reserve line + 10 ≤ line_reserve kept + 10 * length rest
  kept_reserve = omega (arith, some_rest, ap length front_taken, ap length e, length-take 16 (kept ++ take (length rest - 1) rest), length-append kept (take (length rest - 1) rest))

-- a run goes on by one line
module _ (c : Contents) (k next : Controller PlanBanks meaning) (lines : List (List ℕ)) (o : List ℕ) (p : Plays c k lines o) (line printed : List ℕ) where
  longer : o ++ printed ≡ preamble_text c ++ (p.answers ++ printed)
  longer = ap (λ xs. xs ++ printed) p.printed ∙ append_assoc (preamble_text c) p.answers printed

  pub plays_more : (e : Result Call Refusal) → ReadsEvent line e → LineDone k e printed next → Plays c next (lines ++ (line ∷ [])) (o ++ printed)
  plays_more (Err why) r (text, same) =
      let more : Plays c k (lines ++ (line ∷ [])) (o ++ printed) = record {
        begins = p.begins;
        controller = p.controller;
        history = p.history;
        run = p.run;
        answers = p.answers ++ printed;
        replays = subst (λ x. Replays p.begins (lines ++ (line ∷ [])) p.history k (p.answers ++ x)) (sym text) (unreadable line why p.replays r);
        printed = longer;
      } in
      subst (λ x. Plays c x (lines ++ (line ∷ [])) (o ++ printed)) (sym same) more
  plays_more (Ok e) r (answer, of, text, on) =
      let (history, run, steps) = on p.history p.run in
      record {
        begins = p.begins;
        controller = p.controller;
        history = history;
        run = run;
        answers = p.answers ++ printed;
        replays = subst (λ x. Replays p.begins (lines ++ (line ∷ [])) history next (p.answers ++ x)) (sym text) (answered line e answer p.replays r.1 of steps);
        printed = longer;
      }

module _ (controller : Controller PlanBanks meaning) (kept i o : List ℕ) (replaying : Replaying controller kept i o) where
  pub bytes_more : (bytes : List ℕ) → i ++ bytes ≡ replaying.text ++ (10 ∷ (replaying.events ++ bytes))
  bytes_more bytes = ap (λ xs. xs ++ bytes) replaying.bytes ∙ append_assoc replaying.text (10 ∷ replaying.events) bytes

  -- bytes of a line
  abbrev pub event_keeps : (front bytes : List ℕ) → Plain bytes → front ≡ take 16 (kept ++ bytes) → Replaying controller front (i ++ bytes) (o ++ [])
  event_keeps front bytes plain held = record {
    text = replaying.text;
    contents = replaying.contents;
    events = replaying.events ++ bytes;
    lines = replaying.lines;
    line = replaying.line ++ bytes;
    bytes = bytes_more bytes;
    found = replaying.found;
    accepted = replaying.accepted;
    cut = λ more. ap lines_of (append_assoc replaying.events bytes more) ∙ (replaying.cut (bytes ++ more) ∙ ap (λ xs. replaying.lines ++ lines_of xs) (sym (append_assoc replaying.line bytes more)));
    plain = plain_append replaying.line bytes replaying.plain plain;
    held = held ∙ (ap (λ xs. take 16 (xs ++ bytes)) replaying.held ∙ front_more replaying.line bytes);
    plays = subst (λ x. Plays replaying.contents controller replaying.lines x) (sym (append-nil o)) replaying.plays;
  }

  -- a newline, behind a line that reads as some bytes do
  event_newline : (after : Controller PlanBanks meaning) (printed read : List ℕ) (e : Result Call Refusal) → read_event read ≡ read_event (replaying.line ++ (10 ∷ [])) → ReadsEvent read e → LineDone controller e printed after → Replaying after [] (i ++ (10 ∷ [])) (o ++ printed)
  event_newline after printed read e same reads does =
      let line : List ℕ = replaying.line ++ (10 ∷ []) in
      let on = plays_more replaying.contents controller after replaying.lines o replaying.plays line printed e (reads_same read line same e reads) does in
      record {
        text = replaying.text;
        contents = replaying.contents;
        events = replaying.events ++ (10 ∷ []);
        lines = replaying.lines ++ (line ∷ []);
        line = [];
        bytes = bytes_more (10 ∷ []);
        found = replaying.found;
        accepted = replaying.accepted;
        cut = λ more. ap lines_of (append_assoc replaying.events (10 ∷ []) more) ∙ (replaying.cut (10 ∷ more) ∙ (ap (λ xs. replaying.lines ++ xs) (plain_line replaying.line more replaying.plain) ∙ sym (append_assoc replaying.lines (line ∷ []) (lines_of more))));
        plain = tt;
        held = refl;
        plays = on;
      }

-- the rest of a line
pub event_line : (controller : Controller PlanBanks meaning) (kept i o : List ℕ) → Replaying controller kept i o → (after : Controller PlanBanks meaning) (printed rest : List ℕ) (e : Result Call Refusal) → IsLine rest → ReadsEvent (kept ++ rest) e → LineDone controller e printed after → Replaying after [] (i ++ rest) (o ++ printed)
event_line controller kept i o replaying after printed rest e w reads does =
    let front : List ℕ = w.front in
    let on = event_keeps controller kept i o replaying (take 16 (kept ++ front)) front w.plain refl in
    let same : read_event (kept ++ rest) ≡ read_event ((replaying.line ++ front) ++ (10 ∷ [])) = ap (λ xs. read_event (kept ++ xs)) w.text ∙ (ap (λ xs. read_event (xs ++ (front ++ (10 ∷ [])))) replaying.held ∙ (reads_front replaying.line front ∙ ap read_event (sym (append_assoc replaying.line front (10 ∷ []))))) in
    let ended = event_newline controller (take 16 (kept ++ front)) (i ++ front) (o ++ []) on after printed (kept ++ rest) e same reads does in
    subst (λ x. Replaying after [] (i ++ rest) (x ++ printed)) (append-nil o) (subst (λ x. Replaying after [] x ((o ++ []) ++ printed)) (append_assoc i front (10 ∷ []) ∙ ap (λ xs. i ++ xs) (sym w.text)) ended)

-- BEHIND A REFUSED PLAN

pub over_stays : (i o bytes : List ℕ) → FedIn Over i o → FedIn Over (i ++ bytes) (o ++ [])
over_stays i o bytes fed =
    λ more. subst (λ x. Printed x (o ++ [])) (sym (append_assoc i bytes more)) (subst (λ x. Printed (i ++ (bytes ++ more)) x) (sym (append-nil o)) (fed (bytes ++ more)))

-- PIECES

pub takes_more : (d e f : DryRun) (p q old : List ℕ) (middle : ℕ) (mid : List ℕ) (end : ℕ) (new : List ℕ) → middle ≤ length old → Takes d e p old 0 middle mid → Takes e f q mid middle end new → Takes d f (p ++ q) old 0 end new
takes_more d e f p q old middle mid end new room x y =
    let size = length-append x.printed y.printed in
    let here : middle ≡ 0 + length x.printed = x.laid.0 in
    record {
      printed = x.printed ++ y.printed;
      laid = (omega (arith, x.laid.0, y.laid.0), y.laid.1 ∙ (ap (λ m. overlay m middle y.printed) x.laid.1 ∙ (ap (λ k. overlay (overlay old 0 x.printed) k y.printed) here ∙ overlay_more old 0 x.printed y.printed (omega arith))));
      law = λ i o fed. subst (λ z. Fed f z (o ++ (x.printed ++ y.printed))) (append_assoc i p q) (subst (Fed f ((i ++ p) ++ q)) (append_assoc o x.printed y.printed) (y.law (i ++ p) (o ++ x.printed) (x.law i o fed)));
    }

-- THE END

no_lines : (first : Controller PlanBanks meaning) (lines : List (List ℕ)) (h : History) (k : Controller PlanBanks meaning) (out : List ℕ) → Replays first lines h k out → lines ≡ [] → out ≡ []
no_lines first _ _ _ _ none e = refl
no_lines first _ _ _ _ (unreadable {lines} line why r u) e = absurd (omega (arith, length_push lines line, ap length e))
no_lines first _ _ _ _ (answered {lines} line event answer r u of steps) e = absurd (omega (arith, length_push lines line, ap length e))

-- with nothing behind the plan
alone_by : (v : Verdict) (input out : List ℕ) → PrintedBy v input out → behind_plan input ≡ [] → out ≡ said v
alone_by (Ok c) input out (k, p) b =
    p.printed ∙ (ap (λ xs. preamble_text c ++ xs) (no_lines _ _ _ _ _ p.replays (ap lines_of b)) ∙ append-nil (preamble_text c))
alone_by (Err why) input out e b = e

pub ends_with : (d : DryRun) (old printed : List ℕ) (n : ℕ) (new : List ℕ) → Laid old 0 printed n new → ((i o : List ℕ) → Fed d i o → Printed i (o ++ printed)) → Ends d old n new
ends_with d old printed n new laid law =
    record { printed = printed; laid = laid; law = law; only = λ i o other fed p. one_print i other (o ++ printed) p (law i o fed); alone = λ i o fed b. alone_by (verdict i) i (o ++ printed) (law i o fed) b }

pub end_plan : (text : List ℕ) (begun : Bool) (i o : List ℕ) → Planning text begun i o → Printed i (o ++ refused_text 22 0)
end_plan text begun i o p =
    subst (λ v. PrintedBy v i (o ++ refused_text 22 0)) (sym (part_short i p.few p.unended)) (ap (λ xs. xs ++ refused_text 22 0) p.nothing)

module _ (controller : Controller PlanBanks meaning) (kept i o : List ℕ) (r : Replaying controller kept i o) where
  -- an input that goes on from the plan's empty line with these bytes
  pub part_of : (input behind : List ℕ) → input ≡ r.text ++ (10 ∷ behind) → plan_part input ≡ Some r.text
  part_of input behind e = ap plan_part e ∙ r.found behind

  pub behind_of : (input behind : List ℕ) → input ≡ r.text ++ (10 ∷ behind) → behind_plan input ≡ behind
  behind_of input behind e =
      ap (λ x. drop (length (unwrap_or x []) + 1) input) (part_of input behind e)
      ∙ (ap (drop (length r.text + 1)) (e ∙ sym (append_assoc r.text (10 ∷ []) behind)) ∙ drop_at (r.text ++ (10 ∷ [])) behind (length r.text + 1) (length_push r.text 10))

  lines_all : lines_of (behind_plan i) ≡ r.lines ++ lines_of r.line
  lines_all = ap lines_of (behind_of i r.events r.bytes ∙ sym (append-nil r.events)) ∙ (r.cut [] ∙ ap (λ xs. r.lines ++ lines_of xs) (append-nil r.line))

  printed_with : (ls : List (List ℕ)) (out : List ℕ) → lines_of (behind_plan i) ≡ ls → Plays r.contents controller ls out → Printed i out
  printed_with ls out e p = subst (λ v. PrintedBy v i out) (sym (ap part_verdict (part_of i r.events r.bytes) ∙ r.accepted)) (controller, subst (λ x. Plays r.contents controller x out) (sym e) p)

  -- no line goes on
  pub end_whole : length kept ≡ 0 → Printed i (o ++ [])
  end_whole empty = from r.line refl
    where
      from : (line : List ℕ) → r.line ≡ line → Printed i (o ++ [])
      from [] e = printed_with r.lines (o ++ []) (lines_all ∙ (ap (λ xs. r.lines ++ lines_of xs) e ∙ append-nil r.lines)) (subst (λ x. Plays r.contents controller r.lines x) (sym (append-nil o)) r.plays)
      from (b ∷ bs) e = absurd (omega (arith, ap length (r.held ∙ ap (take 16) e)))

  -- a last line has no newline
  pub end_line : 0 < length kept → Printed i (o ++ unreadable_text NotEvent)
  end_line some = from r.line refl
    where
      from : (line : List ℕ) → r.line ≡ line → Printed i (o ++ unreadable_text NotEvent)
      from [] e = absurd (omega (arith, ap length (r.held ∙ ap (take 16) e)))
      from (b ∷ bs) e =
          let plain : Plain (b ∷ bs) = subst Plain e r.plain in
          printed_with (r.lines ++ ((b ∷ bs) ∷ [])) (o ++ unreadable_text NotEvent) (lines_all ∙ (ap (λ xs. r.lines ++ lines_of xs) e ∙ ap (λ xs. r.lines ++ xs) (plain_last b bs plain)))
          (plays_more r.contents controller controller r.lines o r.plays (b ∷ bs) (unreadable_text NotEvent) (Err NotEvent) (ap (λ o. first_no (ask 21 (is_some o) ∷ [])) (plain_unread (b ∷ bs) plain)) (refl, refl))

pub end_over : (i o : List ℕ) → FedIn Over i o → Printed i (o ++ [])
end_over i o fed = subst (λ x. Printed x (o ++ [])) (append-nil i) (subst (Printed (i ++ [])) (sym (append-nil o)) (fed []))
