use Rattle.std.proofs.Common.{◌≡◌, ℕ, ◌-◌, List, ◌++◌, length, take, drop, Ok, Err, IsErrAnd, Option, Result, sym, ap, ◌∙◌, subst, append_assoc, take-append-drop}
use Rattle.std.proofs.lemmas.List.{take_rest}
use Rattle.std.proofs.KnownBytes.{Appends-trans, Appends-kept}
use Rattle.std.specs.Io.KnownBytes.{Appends, Keeps, WriteAppends}
use Rattle.dry_run.proofs.write.write_bytes.Goals.{in-Some-Ok, in-None}
use Rattle.dry_run.proofs.write.write_bytes.Goals as goal

moves_front : (all done rest : List ℕ) (n : ℕ) → all ≡ done ++ rest → all ≡ (done ++ take n rest) ++ take (length rest - n) (drop n rest)
moves_front all done rest n e =
    e ∙ (ap (λ l. done ++ l) (sym (take-append-drop n rest)) ∙ (sym (append_assoc done (take n rest) (drop n rest)) ∙ ap (λ l. (done ++ take n rest) ++ l) (sym (take_rest rest n))))

-- what a write appended
module _ {E : Type 0} (old new : Option (List ℕ)) (bytes : List ℕ) where
  wrote : (answer : Result ℕ E) (n : ℕ) → Ok n ≡ answer → WriteAppends old new answer bytes → Appends old new (take n bytes)
  wrote answer n e w = subst (λ (r : Result ℕ E). WriteAppends old new r bytes) (sym e) w

  failed : (P : E → Type 0) (answer : Result ℕ E) → IsErrAnd answer P → WriteAppends old new answer bytes → Keeps old new
  failed P (Ok n) e w = absurd e
  failed P (Err why) e w = w

pub loop-preserved : goal.loop-preserved
loop-preserved g c =
    let (done, split, appended) = c.loop.invariant in
    let rest = c.loop.rest.now in
    elim c.match-unless_interrupted.branch [
      | in-Some-Ok w ↦ rw w.rest-is (done ++ take w.in-Some-Ok.n rest, moves_front _ done rest w.in-Some-Ok.n split, Appends-trans _ _ _ _ _ appended (wrote _ _ rest c.write.result w.in-Some-Ok.n (sym w.in-Some-Ok.field-0-is ∙ w.in-Some-Ok.ensures.same) c.write.ensures.bytes))
      | in-None w ↦ rw w.rest-is (done, split, Appends-kept _ _ _ _ appended (failed _ _ rest _ c.write.result w.in-None.ensures.again c.write.ensures.bytes))
    ]
