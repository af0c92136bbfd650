-- A call and its line are each other's image.
use Rattle.std.proofs.Common.{◌≡◌, ℕ, ◌<◌, ◌≤◌, eqb, List, [], ◌∷◌, length, Some, None, Ok, Err, Option, Result, OnOk, option_map, sym, refl, ap, ◌∙◌, arith}
use Rattle.std.proofs.lemmas.Bool.{eqb-true, cond_both}
use Rattle.bank.specs.declared.request.Mode.{Mode}
use Rattle.bank.specs.declared.request.Mode.TheVariants.{Write, Read}
use Rattle.text.specs.declared.field.Field.{Field}
use Rattle.text.specs.declared.field.Field.TheVariants.{Number, Letter}
use Rattle.text.specs.declared.refusal.Refusal.{Refusal}
use Rattle.text.proofs.Images.{Made, made_none, made_number, made_case, is_image, line_bytes}
use Rattle.rules.specs.declared.call.Call.{Call}
use Rattle.rules.specs.declared.call.Call.TheVariants.{Release, Ask, Give, Finish, Tick}
use Rattle.event.specs.declared.read.TheConstants.{EVENT_BYTES}
use Rattle.event.specs.Lines.{event_fields, event_text, mode_of, of_ask, event_of_fields, read_event, Writable, IsLineOf, ReadsEvent}

of_fields : (c : Call) → event_of_fields (event_fields c) ≡ Some c
of_fields (Release t) = refl
of_fields (Ask t r Write) = refl
of_fields (Ask t r Read) = refl
of_fields (Give t) = refl
of_fields (Finish t) = refl
of_fields Tick = refl

made_ask : (fs : List Field) → Made event_fields (65, fs) (of_ask fs)
made_ask [] = tt
made_ask (Letter a ∷ fs) = tt
made_ask (Number t ∷ []) = tt
made_ask (Number t ∷ Letter a ∷ fs) = tt
made_ask (Number t ∷ Number r ∷ []) = tt
made_ask (Number t ∷ Number r ∷ Number n ∷ fs) = tt
made_ask (Number t ∷ Number r ∷ Letter b ∷ f ∷ fs) = tt
made_ask (Number t ∷ Number r ∷ Letter b ∷ []) =
    cond_both (eqb b 87) (Some Write) _ Asks (λ e. ap (λ a. (65, Number t ∷ Number r ∷ Letter a ∷ [])) (sym (eqb-true b 87 e))) (λ _.
    cond_both (eqb b 82) (Some Read) None Asks (λ e. ap (λ a. (65, Number t ∷ Number r ∷ Letter a ∷ [])) (sym (eqb-true b 82 e))) (λ _. tt))
  where
    Asks : Option Mode → Type 0
    Asks o = Made event_fields (65, Number t ∷ Number r ∷ Letter b ∷ []) (option_map (Ask t r) o)

made : (l : ℕ × List Field) → Made event_fields l (event_of_fields l)
made l =
    made_case event_fields l 78 _ _ (made_number event_fields 78 Release (λ n. refl) l.1)
    (made_case event_fields l 65 _ _ (made_ask l.1)
    (made_case event_fields l 71 _ _ (made_number event_fields 71 Give (λ n. refl) l.1)
    (made_case event_fields l 70 _ _ (made_number event_fields 70 Finish (λ n. refl) l.1)
    (made_case event_fields l 75 _ None (made_none event_fields 75 Tick refl l.1) tt))))

pub is_line_of : (line : List ℕ) → IsLineOf line (read_event line)
is_line_of line = is_image event_fields event_of_fields of_fields made line

-- a call's line is at most sixteen bytes
size_text : (c : Call) → Writable c → length (event_text c) ≤ EVENT_BYTES
size_text (Release t) small = omega (arith, line_bytes (event_fields (Release t)) small)
size_text (Ask t r m) small = line_bytes (event_fields (Ask t r m)) small
size_text (Give t) small = omega (arith, line_bytes (event_fields (Give t)) small)
size_text (Finish t) small = omega (arith, line_bytes (event_fields (Finish t)) small)
size_text Tick small = omega arith

-- a line of which a call was read is at most sixteen bytes, and so a longer line is none
size_of : (line : List ℕ) (c : Call) → read_event line ≡ Some c → length line ≤ EVENT_BYTES
size_of line c r = from (read_event line) r (is_line_of line)
  where
    from : (o : Option Call) → o ≡ Some c → IsLineOf line o → length line ≤ EVENT_BYTES
    from None f w = let n : ◌≡◌ {A = ℕ} 0 1 = cc in absurd (omega arith)
    from (Some i) f w = omega (arith, size_text i w.0, ap length w.1)

pub few_bytes : (line : List ℕ) (r : Result Call Refusal) → ReadsEvent line r → OnOk r (length line ≤ EVENT_BYTES)
few_bytes line (Ok c) reads = size_of line c reads.1
few_bytes line (Err why) reads = tt

pub long_none : (line : List ℕ) → EVENT_BYTES < length line → read_event line ≡ None
long_none line long = from (read_event line) (is_line_of line)
  where
    from : (o : Option Call) → IsLineOf line o → o ≡ None
    from None w = refl
    from (Some c) w = absurd (omega (arith, size_text c w.0, ap length w.1))
