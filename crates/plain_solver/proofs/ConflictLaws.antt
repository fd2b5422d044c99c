-- What a conflict leaves, at the values of the code.
use Rattle.std.proofs.Common.{◌≡◌, ℕ, ◌+◌, ◌-◌, ◌<◌, ◌≤◌, Bool, true, false, List, [], ◌∷◌, ◌++◌, Option, Some, None, refl, sym, ap, ◌∙◌, subst, arith, length, length-append}
use Rattle.prop.specs.declared.Lit.{Lit}
use Rattle.prop.specs.Logic.{negated}
use Rattle.prop.specs.Trues.{listed}
use Rattle.resolution_log.specs.declared.Chain.{Chain}
use Rattle.resolution_log.specs.Logs.{New, Lean}
use Rattle.resolution_log.specs.Codes.{Covers, CoversAll}
use Rattle.clause_learning.specs.declared.Entry.{Entry}
use Rattle.plain_solver.specs.declared.engine.Solver.{Solver}
use Rattle.clause_learning.specs.Trail.{Set, SetAt, below_of, ToldSet, Back}
use Rattle.clause_learning.specs.Covers.{RisesFrom, last_level}
use Rattle.clause_learning.specs.Solve.{State, IsHeavy, IsSpent, IsRefuted, pairs_of}
use Rattle.plain_solver.specs.Search.{StateOf}
use Rattle.clause_learning.proofs.StateLaws.{state_lean, state_learn, state_below, told_free, pairs_push, front_is}
use Rattle.clause_learning.proofs.CoverLaws.{covers_told, covers_has, covers_push}
use Rattle.clause_learning.proofs.StoreLaws.{rises_push, last_push}

is_none : {X : Type 0} (o : Option X) → ((x : X) → o ≡ Some x → ⊥) → o ≡ None
is_none None h = refl
is_none (Some x) h = absurd (h x refl)

pub below_moved : (k : ℕ) (t : List Entry) (u : Lit) (d2 d : List Lit) (x : Bool) → below_of k t u d2 ≡ x → d2 ≡ d → below_of k t u d ≡ x
below_moved k t u d2 d x h b = subst (λ w. below_of k t u w ≡ x) b h

module _ (clauses : List (List Lit)) (learn limit : ℕ) (s : Solver) (st : StateOf clauses learn limit s) (t : List Entry) (d : List Lit) (uip : Option Lit) (ch : Chain) (told : ToldSet s.known s.level t ch.first d ch.pairs uip) where
  pub conflict_lean : (log2 : List Chain) → ((x : Lit) → uip ≡ Some x → ⊥) → log2 ≡ s.log ++ (ch ∷ []) → IsRefuted clauses learn log2
  conflict_lean log2 no' is =
      let g = subst (ToldSet s.known s.level t ch.first d ch.pairs) (is_none uip no') told in (
        subst (Lean clauses) (sym is) (state_lean clauses s.known s.level s.trail.entries.items s.log st.state t d ch g),
        omega (arith, ap length is, length-append s.log (ch ∷ []), st.short),
      )

  pub conflict_below : (d2 : List Lit) (u : Lit) → uip ≡ Some u → d2 ≡ d → below_of (s.level - 1) t u d2 ≡ true
  conflict_below d2 u is e = subst (λ w. below_of (s.level - 1) t u w ≡ true) (sym e) (state_below s.known s.level t d u ch.first ch.pairs (subst (ToldSet s.known s.level t ch.first d ch.pairs) is told))

  pub conflict_listed : (u : Lit) → uip ≡ Some u → (vars2 : List ℕ) → vars2 ≡ s.trail.vars.items → listed vars2 u.var ≡ true
  conflict_listed u is vars2 e =
      let g = subst (ToldSet s.known s.level t ch.first d ch.pairs) is told in
      let c = covers_told s.trail.vars.items s.known s.level t ch.first d ch.pairs (Some u) st.covers g in
      subst (λ w. listed w u.var ≡ true) (sym e) (covers_has s.trail.vars.items d u c (g.same.to u g.told.uip.1.in_it))

  module _ (u : Lit) (ui : uip ≡ Some u) (low : ℕ) (back : List Entry) (lt : low < s.level) (jump : (known : List (List Lit)) → Back known low t t → Back known low t back × ((l : Lit) → Set back l → SetAt low back l)) where
    g : ToldSet s.known s.level t ch.first d ch.pairs (Some u)
    g = subst (ToldSet s.known s.level t ch.first d ch.pairs) ui told

    pub conflict_free : (Set back u → ⊥) × (Set back (negated u) → ⊥)
    conflict_free = told_free s.known s.level low t back d u ch.first ch.pairs g lt (jump s.known)

    pub conflict_state : (d2 : List Lit) (known2 : List (List Lit)) (t2 : List Entry) (log2 : List Chain) (e : Entry) → below_of low t u d2 ≡ true → ((k : ℕ) → k < low → below_of k t u d2 ≡ false) → d2 ≡ d → e.lit ≡ u → e.level ≡ low → e.reason ≡ Some (length s.known) → t2 ≡ back ++ (e ∷ []) → known2 ≡ s.known ++ (d2 ∷ []) → log2 ≡ s.log ++ (ch ∷ []) → State clauses known2 low t2 log2
    conflict_state d2 known2 t2 log2 e at least de is lev why te ke le =
        let at1 = below_moved low t u d2 d true at de in
        let least1 = λ (k : ℕ) (h : k < low). below_moved k t u d2 d false (least k h) de in
        let r = state_learn clauses s.known s.level s.trail.entries.items s.log st.state t back d ch u low e g lt at1 least1 (jump s.known) is lev why in
        let ke2 : known2 ≡ s.known ++ (d ∷ []) = ke ∙ ap (λ w. s.known ++ (w ∷ [])) de in
        let r1 = subst (λ w. State clauses w low (back ++ (e ∷ [])) (s.log ++ (ch ∷ []))) (sym ke2) r in
        let r2 = subst (λ w. State clauses known2 low w (s.log ++ (ch ∷ []))) (sym te) r1 in
        subst (State clauses known2 low t2) (sym le) r2

    pub conflict_spent : (known2 : List (List Lit)) (t2 : List Entry) (log2 : List Chain) → State clauses known2 low t2 log2 → log2 ≡ s.log ++ (ch ∷ []) → learn ≤ length log2 → IsSpent clauses learn log2
    conflict_spent known2 t2 log2 r le big = ((r.results, r.new), omega (arith, ap length le, length-append s.log (ch ∷ []), st.short, big))

    pub conflict_heavy : (known2 : List (List Lit)) (t2 : List Entry) (log2 : List Chain) → State clauses known2 low t2 log2 → log2 ≡ s.log ++ (ch ∷ []) → length log2 < learn → limit ≤ s.pairs + length ch.pairs → IsHeavy clauses learn limit log2
    conflict_heavy known2 t2 log2 r le few big = (
      (r.results, r.new),
      few,
      omega (arith, ap pairs_of le, pairs_push s.log ch, st.counted, big),
      λ front last e. subst (λ w. pairs_of w < limit) (front_is s.log front ch last (sym le ∙ e)) st.light,
    )

    pub conflict_on : (s2 : Solver) (d2 : List Lit) (e : Entry) → State clauses s2.known low s2.trail.entries.items s2.log → s2.level ≡ low → s2.log ≡ s.log ++ (ch ∷ []) → length s2.log < learn → s2.pairs ≡ s.pairs + length ch.pairs → s.pairs + length ch.pairs < limit → d2 ≡ d → s2.known ≡ s.known ++ (d2 ∷ []) → s2.trail.vars.items ≡ s.trail.vars.items → s2.trail.entries.items ≡ back ++ (e ∷ []) → e.level ≡ low → RisesFrom 0 back → last_level 0 back ≡ low → length s.known < 4294967295 → StateOf clauses learn limit s2
    conflict_on s2 d2 e r lv le few pe small de ke ve te el rises last room = record {
      state = subst (λ w. State clauses s2.known w s2.trail.entries.items s2.log) (sym lv) r;
      short = few;
      counted = omega (arith, ap pairs_of le, pairs_push s.log ch, st.counted, pe);
      light = omega (arith, ap pairs_of le, pairs_push s.log ch, st.counted, small);
      covers = subst (λ w. CoversAll w s2.known) (sym ve) (subst (CoversAll s.trail.vars.items) (sym ke) (covers_push s.trail.vars.items s.known d2 st.covers (subst (Covers s.trail.vars.items) (sym de) (covers_told s.trail.vars.items s.known s.level t ch.first d ch.pairs uip st.covers told))));
      rises = subst (RisesFrom 0) (sym te) (rises_push 0 back e (omega (arith, last, el)) (omega (arith, last, el)) rises);
      level = ap (last_level 0) te ∙ last_push 0 back e ∙ el ∙ sym lv;
      few = omega (arith, ap length ke, length-append s.known (d2 ∷ []), room);
    }
