-- What the calls of a bank of reader-writer resources mean.
use Rattle.std.specs.Prelude.{◌≡◌, ℕ, ◌<◌, Bool, true, List, length, None, Ok, Err, Result, ◌≢◌, slice_index_or, slice_set}
use Rattle.std.proofs.Common.{sym, ap, subst, ◌∙◌, ⊎_elim, arith}
use Rattle.std.proofs.lemmas.List.{length_push, get_or-set_same, get_or-set_other}
use Rattle.std.proofs.lemmas.Bool.{cases_eq}
use Rattle.std.proofs.lemmas.Bool.Decides.{nat_tests}
use Rattle.std.specs.List.{AllZip}
use Rattle.bank.specs.Lists.{is_holder, without}
use Rattle.bank.specs.Meaning.{Added, Stays, Others, EntersBank, LeavesBank, ChangesBy}
use Rattle.bank.specs.Questions.{refused_by}
use Rattle.bank.specs.declared.refusal.Refusal.{Refusal}
use Rattle.bank.specs.declared.request.Mode.{Mode}
use Rattle.bank.specs.declared.size.TheConstants.{PARTIES}
use Rattle.readers_writers.specs.Kept.{good, named}
use Rattle.readers_writers.specs.Limits.{list_of, bare, entries_in, Keeping, AllKeep}
use Rattle.readers_writers.specs.Lines.{some, admits, entered, left, holder_of, requests}
use Rattle.readers_writers.specs.ReadersWriters.{told_of, active_of, entries_of, Settled, EnterAsked, LeaveAsked, ChangesEntries, EntersExactly, LeavesExactly}
use Rattle.readers_writers.specs.declared.entry.Entry.{Entry}
use Rattle.readers_writers.specs.declared.line.Line.{Line}
use Rattle.readers_writers.specs.declared.lines.ReadersWriters.{ReadersWriters}
use Rattle.readers_writers.proofs.Entering.{added, good_entered, named_push, good_settled}
use Rattle.readers_writers.proofs.Leaving.{good_left, kept_left, stays_left}
use Rattle.readers_writers.proofs.Requests.{holder_entry}

-- a line that was entered, and one that was left, keeps what lines keep
keeping_entered : (m p : ℕ) (k : Mode) (old new : Line) → Keeping m old → length (list_of old) < m → p < PARTIES → list_of new ≡ entered (list_of old) p k → Keeping m new
keeping_entered m p k old new kept room low e =
    let n = ap length e ∙ length_push (list_of old) _ in
    (omega arith, subst (λ es. named es ≡ true) (sym e) (named_push (list_of old) _ kept.1 low), subst (λ es. good es ≡ true) (sym e) (good_entered (list_of old) p k kept.2))

keeping_left : (m p : ℕ) (old new : Line) → Keeping m old → some (holder_of p) (list_of old) ≡ true → list_of new ≡ left (list_of old) p → Keeping m new
keeping_left m p old new kept s e =
    let k = kept_left p (list_of old) kept.1 s in
    let n = ap length e in
    (omega arith, subst (λ es. named es ≡ true) (sym e) k.1, subst (λ es. good es ≡ true) (sym e) (good_left p (list_of old) kept.2 s))

module _ (lines : List Line) (r : ℕ) (new : Line) where
  pub entries_set : r < length lines → entries_in (slice_set lines r new) r ≡ list_of new
  entries_set l = ap list_of (get_or-set_same lines r new bare l)

  pub entries_other : (q : ℕ) → (q ≢ r) → entries_in (slice_set lines r new) q ≡ entries_in lines q
  entries_other q ne = ap list_of (get_or-set_other lines r q new bare ne)

  all_keep : (count m : ℕ) → r < length lines → AllKeep lines count m → Keeping m new → AllKeep (slice_set lines r new) count m
  all_keep count m l kept one q lt =
      ⊎_elim
      (λ (e : q ≡ r). subst (λ j. Keeping m (slice_index_or (slice_set lines r new) j bare)) (sym e) (subst (Keeping m) (sym (get_or-set_same lines r new bare l)) one))
      (λ (ne : q ≡ r → ⊥). subst (Keeping m) (sym (get_or-set_other lines r q new bare ne)) (kept q lt))
      (cases_eq q r)

pub settles : (b : ReadersWriters) → Settled b
settles b r l = good_settled (entries_of b r) (b.kept r l).2

-- what a line keeps once it was entered, or left
module _ (lines : List Line) (c m r p : ℕ) (new : Line) (a : r < c) (b : p < PARTIES) (long : r < length lines) (kept : AllKeep lines c m) where
  pub keep_entered : (k : Mode) → length (entries_in lines r) < m → list_of new ≡ entered (entries_in lines r) p k → AllKeep (slice_set lines r new) c m
  keep_entered k room e = all_keep lines r new c m long kept (keeping_entered m p k _ new (kept r a) room b e)

  pub keep_left : some (holder_of p) (entries_in lines r) ≡ true → list_of new ≡ left (entries_in lines r) p → AllKeep (slice_set lines r new) c m
  keep_left s e = all_keep lines r new c m long kept (keeping_left m p _ new (kept r a) s e)

-- WHAT THE CALLS MEAN

others_same : (b d : ReadersWriters) (r : ℕ) (change : List Entry → List Entry) → ChangesEntries r change b d → Others (told_of b) r (active_of b) (active_of d)
others_same b d r change c q l ne = ap requests (c.others q ne)

enter_there : (b : ReadersWriters) (r p : ℕ) (m : Mode) → EnterAsked b r p m None → r < b.count
enter_there b r p m asks = grind (arith, nat_tests)

pub enters_exactly : (b d : ReadersWriters) (r p : ℕ) (m : Mode) (x : Result Bool Refusal) → EnterAsked b r p m (refused_by x) → ChangesBy (EntersExactly r p m) x b d → EntersBank told_of active_of r p m x b d
enters_exactly b d r p m (Err why) asks e = record { tells = ap told_of e; lists = asks; keeps = e }
enters_exactly b d r p m (Ok h) asks e = record {
  tells = e.entries.tells;
  lists = record {
    asked = asks;
    added = subst (λ x. Added p m x (active_of b r) (active_of d r)) (sym e.holds)
        (subst (λ es. Added p m (admits (entries_of b r) m) (active_of b r) (requests es)) (sym e.entries.here) (added (entries_of b r) p m (b.kept r (enter_there b r p m asks)).2));
    others = others_same b d r _ e.entries;
  };
  keeps = tt;
}

leave_there : (b : ReadersWriters) (r p : ℕ) → LeaveAsked b r p None → (r < b.count) × (is_holder p (active_of b r) ≡ true)
leave_there b r p asks = (grind (arith, nat_tests), grind (arith, nat_tests))

pub leaves_exactly : (b d : ReadersWriters) (r p : ℕ) (x : Result (Unit {0}) Refusal) → LeaveAsked b r p (refused_by x) → ChangesBy (λ done. LeavesExactly r p) x b d → LeavesBank told_of active_of r p x b d
leaves_exactly b d r p (Err why) asks e = record { tells = ap told_of e; lists = asks; keeps = e }
leaves_exactly b d r p (Ok done) asks e =
    let es = entries_of b r in
    let k = leave_there b r p asks in
    record {
      tells = e.tells;
      lists = record {
        asked = asks;
        stay = subst (λ xs. AllZip Stays (without p (requests es)) (requests xs)) (sym e.here) (stays_left p es (b.kept r k.0).2 (sym (holder_entry p es) ∙ k.1));
        others = others_same b d r _ e;
      };
      keeps = tt;
    }
