-- `record` lends one element of the table, and the table follows it, for every element type. Assumes `Logic`.
use Rattle.std.proofs.Common.{◌≡◌, ℕ, zero, ◌+◌, ◌*◌, ◌^◌, ◌<◌, List, [], ◌∷◌, length, get_or, set, sym, refl, ap, ◌∙◌, le_of_lt, mul-le-mul_right, arith, length-set, w64}
use Rattle.std.proofs.lemmas.List.{get_or_default}
use seplogic.Ra.Ura.{Ura}
use base.Fraction.{full_share}
use mir.Syntax.{Fn, named, a_type, ty_array}
use mir.MapTy.{inst_fn}
use mir.Val.{Val, vint, vptr}
use base.Logic.{SProp, ent, sep, wand, all, all_e, apply∗, via, assoc'}
use base.Fml.{Lft, GName, Share, ftrue, flft, fsep, feq}
use prog.Memory.{size, align, up}
use prog.Wp.{Env, Calls, Loops, WpFn, Tables}
use types.Logic.{Logic, sem}
use contract.Monad.{fact}
use contract.Running.{tables, tables_of}
use sound.WpLaws.{WpFn-mono}
use types.Kit.{‵, raw, ◌⊛◌, some, later, await, group, ◌$◌, ◌∵◌, !, qed, by, move, keep, use1, use2, drop, split, join, pick, rewrite, fsplit, fsplit3, fjoin, feq_l, feq_i, suffices, frame, done}
use types.Run.{size_lit, stop, fld, bin, addr, returns, enter}
use types.ByLocal.{alloc_all, pass_all, free_all, look_at, get, through, sets, env}
use types.Mut.{open_ref}
use denote.Exit.{yes, no}
use denote.RattleType.{RattleType, owns}
use denote.Memory.{part_at, mem, shares, part_of}
use denote.Plain.{uint_vals, uint_Tells}
use denote.Array.{Array, Array-Lawful}
use denote.ArrayMemory.{Array-apart, Array-whole}
use denote.Index.{place, place_is, others, takes, puts, row}
use denote.Ref.{MutRef, mut_vals, mut_Tells}
use denote.Builtin.{usize, RefMutOf}
use denote.Param.{param, layout, layouts}
use denote.Param.Laws.{Laws, param_laws}
use denote.Signature.{plain, mut_ref_to}
use denote.Steps.{nothing}
use denote.Struct.Members.{Member}
use denote.Struct.CellSteps.{only_out, first_at}
use denote.Follow.{follows, Part, lends_Part}
use denote.Triple.Carry.{spared}
use denote.Triple.Clauses.{Clauses, Ended, closing}
use denote.Triple.Entry.{on_entry}
use denote.Triple.Spec.{Meets, triple_of}
use denote.Triple.Table.{entered, run_framed}
use denote.Triple.Walked.{says, needs, Stays, stay_dropped, walk_of, ends_at, walked, Goes-dropped, Goes-spent_ref, walk_Meets}
use Rattle.table.specs.declared.records.Records.{Records}
use Rattle.table.specs.contracts.records.Records as RS
use Rattle.table.specs.contracts.records.Records.record.Key.{name as #self}
use Rattle.table.proofs.records.Records.record.Statement as stated
use Rattle.table.proofs.records.Records.record.Code as code

module _ (T : RattleType) (L : Laws T) where
  abbrev R : RattleType
  R = param 0 T

  abbrev S : RattleType
  S = RS.the_row R

  abbrev X : Type 0
  X = T.Denot

  abbrev s : ℕ
  s = size (layout T)

  abbrev fn' : Fn
  fn' = inst_fn (layouts (a_type ∷ []) (T, tt)) code.function

  abbrev with_at : Records X → ℕ → X → Records X
  with_at d i w = record { rows = set d.rows i w }

  abbrev ended : Ended
  ended = record { signature = record { lifetimes = 1; outlives = []; params = RefMutOf (0 ∷ []) tt (plain (λ _. S)) (λ _. tt) ∷ plain (λ _. usize) ∷ []; result = RefMutOf (0 ∷ []) tt (plain (λ _. R)) (λ _. tt) }; kept = (no, (yes, tt)) }

  abbrev stayed : Stays ended.signature.params ended.kept
  stayed = (stay_dropped (mut_ref_to (0 ∷ []) tt (plain (λ _. S))) no, (stay_dropped (plain (λ _. usize)) yes, tt))

  abbrev spec : {M : Type 1} {𝓤 : Ura M} (𝓛 : Logic 𝓤) → Clauses 𝓤 ended
  spec {𝓤 = 𝓤} 𝓛 κs a = record { ghost = Unit {0}; requires = λ _. sep 𝓤 (fact 𝓤 (size (layout S) < 2 ^ 63)) (fact 𝓤 (a.1.0 < 64)); ensures = λ _ r _. sep 𝓤 (sem 𝓛 (follows S R a.0.ghost_name r.ghost_name (with_at a.0.now a.1.0))) (fact 𝓤 ((d : X) → r.now ≡ get_or a.0.now.rows a.1.0 d)) }

-- the first of a list that has one
hd : {A : Type 0} (xs : List A) → 0 < length xs → A
hd [] l = absurd (omega arith)
hd (x ∷ xs) l = x

module _ (T : RattleType) (L : Laws T) {M : Type 1} {𝓤 : Ura M} (𝓛 : Logic 𝓤) where
  abbrev m : Member
  m = record { row = Array (R T L) 64; ty = ty_array (layout T) 64 }

  -- the way back from the elements to the table
  abbrev Back : ℕ → ℕ → SProp 𝓤
  Back b o = all 𝓤 (λ (ys : List (X T L)). wand 𝓤 (sem 𝓛 (part_at (Array (R T L) 64) full_share ys b o)) (sem 𝓛 ((mem (S T L)).own_at (record { rows = ys }) b o)))

  open_table : (d : Records (X T L)) (b o : ℕ) → ent 𝓤 (sem 𝓛 ((mem (S T L)).own_at d b o)) (sep 𝓤 (sem 𝓛 (part_at (Array (R T L) 64) full_share d.rows b o)) (Back b o))
  unfolding part_of
  open_table d b o = only_out 𝓛 (RS.struct (R T L)).name [] (R T L ∷ []) m (Array-Lawful 𝓛 (R T L) ((param_laws 0 T L).lawful 𝓛) 64) b o d.rows

module _ (T : RattleType) (L : Laws T) {M : Type 1} {𝓤 : Ura M} (𝓛 : Logic 𝓤) (κ : Lft) (q : Share) (rb ro : ℕ) (γ : GName) (h : Records (X T L)) (i : ℕ) (fi : i < 2 ^ 64) where
  open 𝓛 use {H, A}

  abbrev bound : (walk_of 𝓛 (ended T L) (stayed T L) (spec T L 𝓛)).Ghost
  bound = (((κ, tt), (q, tt), tt, (record { ref_ptr = (rb, ro); ghost_name = γ; now = h }, (i, tt)), (vptr rb ro ∷ [], (vint w64 i ∷ [], tt))), tt)

  abbrev Post : Val → SProp 𝓤
  Post = (walk_of 𝓛 (ended T L) (stayed T L) (spec T L 𝓛)).post bound

  abbrev xs : List (X T L)
  xs = h.rows

  -- where the machine finds the element
  abbrev at : ℕ
  at = i * s T L + (ro + up (align (layout T)) zero)

  at_is : place (s T L) ro i ≡ at
  at_is = place_is (s T L) ro i ∙ ap (λ n. i * s T L + n) (sym (first_at (align (layout T)) ro))

  -- all of the table but its i-th element
  abbrev Rest : SProp 𝓤
  Rest = sep 𝓤 (sem 𝓛 (others (shares (R T L)) full_share xs i rb ro)) (Back T L 𝓛 rb ro)

  back : length xs ≡ 64 → i < 64 → (w : X T L) → ent 𝓤 (sep 𝓤 (sem 𝓛 ((mem (R T L)).own_at w rb at)) Rest) (sem 𝓛 ((mem (S T L)).own_at (with_at T L h i w) rb ro))
  unfolding part_of
  back len li w =
      let lt : i < length xs = omega arith in
      qed 𝓛 (‵ (part_at (R T L) full_share w rb at) ∷ (‵ (others (shares (R T L)) full_share xs i rb ro) ⊛ raw (Back T L 𝓛 rb ro)) ∷ []) ∵ move ! (1 ∷ []) $ split ! $ move ! (2 ∷ 0 ∷ []) $
      rewrite ! 0 (λ (k : ℕ). ‵ (part_at (R T L) full_share w rb k)) (sym at_is) refl $
      use2 𝓛 (‵ (row (R T L) full_share (set xs i w) rb ro)) (puts (shares (R T L)) full_share 𝓛 xs i w rb ro lt) $
      feq_i ! ℕ (length (set xs i w)) 64 (length-set xs i w ∙ len) $ fjoin ! $
      use1 𝓛 (‵ (part_at (Array (R T L) 64) full_share (set xs i w) rb ro)) (Array-whole 𝓛 (R T L) full_share 64 (set xs i w) rb ro) $
      move ! (1 ∷ []) $
      use1 𝓛 (raw (wand 𝓤 (sem 𝓛 (part_at (Array (R T L) 64) full_share (set xs i w) rb ro)) (sem 𝓛 ((mem (S T L)).own_at (with_at T L h i w) rb ro))))
      (all_e 𝓤 (λ (ys : List (X T L)). wand 𝓤 (sem 𝓛 (part_at (Array (R T L) 64) full_share ys rb ro)) (sem 𝓛 ((mem (S T L)).own_at (record { rows = ys }) rb ro))) (set xs i w)) $
      move ! (1 ∷ 0 ∷ []) $ by ! (apply∗ 𝓤 (sem 𝓛 (part_at (Array (R T L) 64) full_share (set xs i w) rb ro)) (sem 𝓛 ((mem (S T L)).own_at (with_at T L h i w) rb ro)))

  exits : (x : X T L) → ((d : X T L) → x ≡ get_or xs i d) → (γ' : GName)
      → ent 𝓤 (sep 𝓤 (sem 𝓛 ((MutRef (named 0) κ (R T L)).own_val (record { ref_ptr = (rb, at); ghost_name = γ'; now = x }) (vptr rb at ∷ []))) (sep 𝓤 (A.lft κ q) (sem 𝓛 (follows (S T L) (R T L) γ γ' (with_at T L h i))))) (Post (vptr rb at))
  exits x e γ' =
      qed 𝓛 (‵ ((MutRef (named 0) κ (R T L)).own_val (record { ref_ptr = (rb, at); ghost_name = γ'; now = x }) (vptr rb at ∷ [])) ∷ ‵ (flft κ q) ∷ ‵ (follows (S T L) (R T L) γ γ' (with_at T L h i)) ∷ []) ∵
      suffices ! _ (ends_at 𝓛 (ended T L) (stayed T L) (spec T L 𝓛) bound (vptr rb at) (record { ref_ptr = (rb, at); ghost_name = γ'; now = x }) (tt, (tt, tt)) (tt, (tt, tt))) $
      nothing ! $ nothing ! $ fjoin ! $ nothing ! $ fjoin ! $ join ! $ nothing ! $ move ! (2 ∷ 0 ∷ []) $ join ! $ join ! $ frame ! $ says ! e $ done !

  module _ (C : Calls 𝓤 H) (Λ : Loops 𝓤 H) where
    walk : size (layout (S T L)) < 2 ^ 63 → i < 64 → ent 𝓤 (on_entry 𝓛 (ended T L).signature (κ, tt) (q, tt) (record { ref_ptr = (rb, ro); ghost_name = γ; now = h }, (i, tt)) (vptr rb ro ∷ [], (vint w64 i ∷ [], tt))) (WpFn 𝓤 H C Λ (fn' T L) (vptr rb ro ∷ vint w64 i ∷ []) Post)
    walk fit li =
        let tiny : s T L < 2 ^ 64 = omega arith in
        let fmi : i * s T L < 2 ^ 64 = omega (arith, mul-le-mul_right (s T L) (le_of_lt li)) in
        qed 𝓛 ((‵ (flft κ q) ⊛ ‵ ftrue) ∷ ‵ (owns (MutRef (named 0) κ (S T L) ∷ usize ∷ []) (record { ref_ptr = (rb, ro); ghost_name = γ; now = h }, (i, tt)) (vptr rb ro ∷ [], (vint w64 i ∷ [], tt))) ∷ []) ∵
        enter ! C Λ (fn' T L) (vptr rb ro ∷ vint w64 i ∷ []) _ $
        alloc_all ! (λ l. pass_all ! refl ((tt, tt), ((tt, record { fits = fi }), tt)) $
        let En : Env 𝓤 H = env (fn' T L).locals l in
        move ! (1 ∷ []) $ fsplit ! $ fsplit3 ! $ drop ! $ move ! (3 ∷ []) $ split ! $ move ! (2 ∷ 3 ∷ 0 ∷ []) $
        sets ! (bin ! (get ! refl) (size_lit ! (record { fits = tiny })) (record { fits = fmi })) refl (tt, record { fits = fmi }) $
        sets ! (addr ! (through ! refl (fld ! refl (stop !)))) refl (tt, tt) $
        sets ! (bin ! (get ! refl) (get ! refl) tt) refl (tt, tt) $
        sets ! (addr ! (through ! refl (stop !))) refl (tt, tt) $
        open_ref ! tt (mem (S T L)) {b = rb} {o = ro} $
        use1 𝓛 (‵ (part_at (Array (R T L) 64) full_share xs rb ro) ⊛ raw (Back T L 𝓛 rb ro)) (open_table T L 𝓛 h rb ro) $ split ! $
        use1 𝓛 (‵ (fsep (feq ℕ (length xs) 64) (row (R T L) full_share xs rb ro))) (Array-apart 𝓛 (R T L) full_share tt 64 xs rb ro) $ fsplit ! $ feq_l ! (λ len.
        let lt : i < length xs = omega arith in
        let x : X T L = get_or xs i (hd xs (omega arith)) in
        use1 𝓛 (‵ (part_at (R T L) full_share x rb (place (s T L) ro i)) ⊛ ‵ (others (shares (R T L)) full_share xs i rb ro)) (takes (shares (R T L)) full_share 𝓛 xs i (hd xs (omega arith)) rb ro lt) $ split ! $
        rewrite ! 0 (λ (k : ℕ). ‵ (part_at (R T L) full_share x rb k)) at_is refl $
        -- [x; the others; the way back; the open borrow; obs; auth]
        move ! (1 ∷ 2 ∷ []) $ join ! $ move ! (2 ∷ 3 ∷ 4 ∷ 1 ∷ 0 ∷ []) $ group ! 5 $
        use1 𝓛 (later (some (λ (γ' : GName). raw (Part 𝓛 (S T L) (R T L) (with_at T L h i) (named 0) κ q rb ro rb at γ Rest (back len li) x γ'))))
        (lends_Part 𝓛 (S T L) (R T L) (with_at T L h i) (named 0) κ q rb ro rb at γ Rest (back len li) ((S T L).coded.code h) ((S T L).coded.code h) x) $ await ! tt $ pick ! (λ γ'.
        returns ! (look_at ! 0 refl) $ free_all ! refl $
        keep ! (0 ∷ []) $ by ! (exits x (λ d. get_or_default xs i (hd xs (omega arith)) d lt) γ'))))

meets : (T : RattleType) (L : Laws T) {M : Type 1} {𝓤 : Ura M} (𝓛 : Logic 𝓤) (𝓣 : Tables 𝓤 𝓛.H)
    → Meets 𝓛 (ended T L).signature (WpFn 𝓤 𝓛.H 𝓣.C 𝓣.Λ (fn' T L)) (closing 𝓛 (ended T L) (spec T L 𝓛))
meets T L {𝓤 = 𝓤} 𝓛 𝓣 =
    walk_Meets 𝓛 (ended T L) (stayed T L) (Goes-spent_ref 𝓛 1 (0 ∷ []) tt (plain (λ _. S T L)), (Goes-dropped 𝓛 1 (plain (λ _. usize)) yes (λ κs x f. refl), tt)) (spec T L 𝓛) (WpFn 𝓤 𝓛.H 𝓣.C 𝓣.Λ (fn' T L)) (WpFn-mono 𝓤 𝓛.H 𝓛.laws 𝓣 (fn' T L))
    (walked 𝓛 (ended T L) (stayed T L) (spec T L 𝓛) (WpFn 𝓤 𝓛.H 𝓣.C 𝓣.Λ (fn' T L)) (λ κs. (mut_vals, (uint_vals w64, tt))) (λ κs. (mut_Tells (named 0) κs.0 (S T L), (uint_Tells w64, tt)))
    (λ κs qs bounds a g are.
    let P : SProp 𝓤 = on_entry 𝓛 (ended T L).signature κs qs a (mut_vals a.0, (uint_vals w64 a.1.0, tt)) in
    let F : SProp 𝓤 = fact 𝓤 (size (layout (S T L)) < 2 ^ 63) in
    let G : SProp 𝓤 = fact 𝓤 (a.1.0 < 64) in
    via 𝓤 (sep 𝓤 (sep 𝓤 P F) G) (assoc' 𝓤 P F G) (needs 𝓤 (a.1.0 < 64) (sep 𝓤 P F) (λ li. needs 𝓤 (size (layout (S T L)) < 2 ^ 63) P (λ fit. walk T L 𝓛 κs.0 qs.0 a.0.ref_ptr.0 a.0.ref_ptr.1 a.0.ghost_name a.0.now a.1.0 are.1.0.1 𝓣.C 𝓣.Λ fit li)))))

pub record_spec : {M : Type 1} → stated.statement M
unfolding tables_of
record_spec 𝓤 𝓛 𝓜 𝓡 wired T L y =
    let A = 𝓛.A in
    let 𝓣 : Tables 𝓤 𝓛.H = tables_of 𝓤 𝓛.H 𝓜 (tables 𝓤 𝓛.H 𝓜 𝓡 𝓡.env) in
    spared 𝓛 (ended T L).signature (𝓡.run (𝓡.env (#self (layouts (a_type ∷ []) (T, tt))))) (run_framed 𝓤 𝓛.H 𝓜 𝓡 (𝓡.env (#self (layouts (a_type ∷ []) (T, tt))))) 1 (T.lives, tt) (closing 𝓛 (ended T L) (spec T L 𝓛))
    (entered 𝓤 𝓛.H (triple_of 𝓛 (ended T L).signature (closing 𝓛 (ended T L) (spec T L 𝓛))) 𝓣.C 𝓣.Λ (#self (layouts (a_type ∷ []) (T, tt))) (fn' T L) (code.unfolded 𝓤 𝓛.H 𝓜 𝓡 wired (T, tt)) (meets T L 𝓛 𝓣))
    ((y.0.0, y.0.1, tt, y.0.3, y.0.4), y.1)
