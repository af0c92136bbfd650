-- What the calls of a bank of slot resources mean.
use Rattle.std.specs.Prelude.{◌≡◌, ℕ, ◌+◌, ◌<◌, Bool, true, List, length, None, Ok, Err, Result, nat_lt, refl}
use Rattle.std.proofs.Common.{sym, ap, subst, ◌∙◌, arith}
use Rattle.std.specs.List.{AllZip, remove}
use Rattle.std.proofs.lemmas.Bool.{and_parts, ltb-true}
use Rattle.std.proofs.lemmas.Bool.Decides.{nat_tests}
use Rattle.text.specs.Questions.{first_no}
use Rattle.bank.specs.Lists.{is_holder, without}
use Rattle.bank.specs.Questions.{refused_by, enter_questions}
use Rattle.bank.specs.Meaning.{Others, EntersBank, LeavesBank, ChangesBy, Stays}
use Rattle.bank.specs.declared.refusal.Refusal.{Refusal}
use Rattle.bank.specs.declared.request.Mode.{Mode}
use Rattle.bank.specs.declared.request.Mode.TheVariants.{Write, Read}
use Rattle.slots.specs.Lines.{holding, line, request_at, requests}
use Rattle.slots.specs.Slots.{holders_of, parties_of, told_of, active_of, EnterAsked, LeaveAsked, ChangesParties, Full, EntersLast, LeavesPlace, NextHolds}
use Rattle.slots.specs.Rows.{place}
use Rattle.slots.specs.declared.slots.Slots.{Slots}
use Rattle.slots.proofs.Requests.{requests_push, request_party, request_mode, request_holds, holder_is, leaves_front, waits_full}
use Rattle.slots.proofs.Rows.{front_removed}

pub is_full : (s : Slots) → Full s
is_full s r = waits_full (holders_of s r) (parties_of s r)

-- only the mode W is known
writes : (s : Slots) (r p : ℕ) (m : Mode) → first_no (enter_questions (told_of s) r p m (active_of s r)) ≡ None → m ≡ Write
writes s r p Write e = refl
writes s r p Read e = absurd (grind (arith, nat_tests))

others_stay : (s u : Slots) (r : ℕ) (change : List ℕ → List ℕ) → ChangesParties r change s u → Others (told_of s) r (active_of s) (active_of u)
others_stay s u r change c q l ne = ap (λ k. requests k (parties_of u q)) (ap (λ t. t.slots q) c.tells) ∙ ap (λ ps. requests (holders_of s q) ps) (c.others q ne)

-- the list of the resource whose parties changed
list_is : (s u : Slots) (r : ℕ) (change : List ℕ → List ℕ) → ChangesParties r change s u → active_of u r ≡ requests (holders_of s r) (change (parties_of s r))
list_is s u r change c = ap (λ k. requests k (parties_of u r)) (ap (λ t. t.slots r) c.tells) ∙ ap (λ ps. requests (holders_of s r) ps) c.here

pub enters_last : (s u : Slots) (r p : ℕ) (m : Mode) (a : Result Bool Refusal) → EnterAsked s r p m (refused_by a) → ChangesBy (EntersLast r p) a s u → EntersBank told_of active_of r p m a s u
enters_last s u r p m (Err why) asks e = record { tells = ap told_of e; lists = asks; keeps = e }
enters_last s u r p m (Ok h) asks e =
    let k = holders_of s r in
    let ps = parties_of s r in
    let i = 0 + length ps in
    let z : i ≡ length ps = omega arith in
    record {
      tells = e.parties.tells;
      lists = record {
        asked = asks;
        added = record {
          request = request_at k i p;
          list = list_is s u r _ e.parties ∙ requests_push k 0 ps p;
          party = request_party k i p;
          mode = request_mode k i p ∙ sym (writes s r p m asks);
          holds = request_holds k i p ∙ (ap (λ n. nat_lt n k) z ∙ sym e.holds);
        };
        others = others_stay s u r _ e.parties;
      };
      keeps = tt;
    }

-- a party that may leave holds
may_leave : (s : Slots) (r p : ℕ) → LeaveAsked s r p None → (r < s.count) × (place p (parties_of s r) < length (parties_of s r)) × (0 + place p (parties_of s r) < holders_of s r)
may_leave s r p asks =
    let exists : r < s.count = grind (arith, nat_tests) in
    let holder : is_holder p (active_of s r) ≡ true = grind (arith, nat_tests) in
    let parts = and_parts _ _ (sym (holder_is (holders_of s r) 0 p (parties_of s r)) ∙ holder) in
    (exists, ltb-true _ _ parts.0, ltb-true _ _ parts.1)

pub leaves_place : (s u : Slots) (r p : ℕ) (a : Result (Unit {0}) Refusal) → LeaveAsked s r p (refused_by a) → ChangesBy (λ done. LeavesPlace r p) a s u → LeavesBank told_of active_of r p a s u
leaves_place s u r p (Err why) asks e = record { tells = ap told_of e; lists = asks; keeps = e }
leaves_place s u r p (Ok done) asks e =
    let k = holders_of s r in
    let ps = parties_of s r in
    let may = may_leave s r p asks in
    record {
      tells = e.parties.tells;
      lists = record {
        asked = asks;
        stay = subst (λ xs. AllZip Stays (without p (active_of s r)) xs) (sym (list_is s u r _ e.parties)) (leaves_front k 0 p ps (s.sized.1 r may.0) may.1 may.2);
        others = others_stay s u r _ e.parties;
      };
      keeps = tt;
    }

pub next_holds : (k at : ℕ) (ps qs : List ℕ) → at < length ps → at < k → qs ≡ remove ps at → NextHolds k at ps qs
next_holds k at ps qs l f e =
    let front = front_removed k ps at f l in
    record { holding = ap (holding k) e ∙ front.0; line = ap (line k) e ∙ front.1 }
