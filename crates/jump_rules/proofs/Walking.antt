-- A walk over a body finds its labels, its gotos and its broken lines.
use Rattle.std.proofs.Common.{◌≡◌, ℕ, Bool, true, false, ◌||◌, List, [], ◌∷◌, ◌++◌, length, take, Option, None, Some, refl, ap, ◌∙◌, sym, append_assoc, append-nil}
use Rattle.std.proofs.Math.Seq.{take-append_seam}
use Rattle.std.specs.Prelude.{not, option_map}
use Rattle.lv_base.specs.declared.kind.Kind.{Kind}
use Rattle.lv_base.specs.declared.fault.SourceFault.TheVariants as fault
use Rattle.c_run.specs.Breaking.{Broken, line}
use Rattle.c_typed.specs.Tree as t
use Rattle.c_typed.specs.Rules as r
use Rattle.first_broken.specs.Found.{Summary, summary, both}
use Rattle.first_broken.proofs.Least.{joined_is}
use Rattle.jump_rules.specs.Walk as w

-- the switch stands in the scope of the first objects
abbrev Matches : Option ℕ → Option (List ℕ) → List ℕ → Type 0
Matches None None scope = Unit {0}
Matches (Some n) (Some start) scope = (rest : List ℕ) × ((scope ≡ start ++ rest) × (n ≡ length start))
Matches _ _ scope = ⊥

more : (n : Option ℕ) (start : Option (List ℕ)) (scope xs : List ℕ) → Matches n start scope → Matches n start (scope ++ xs)
more None None scope xs m = tt
more (Some n) (Some start) scope xs m = (m.0 ++ xs, (ap (λ z. z ++ xs) m.1.0 ∙ append_assoc start m.0 xs, m.1.1))
more None (Some start) scope xs m = absurd m
more (Some n) None scope xs m = absurd m

take_front : (xs ys : List ℕ) → take (length xs) (xs ++ ys) ≡ xs
take_front xs ys = take-append_seam xs ys

case_is : (n : Option ℕ) (start : Option (List ℕ)) (scope : List ℕ) → Matches n start scope → option_map (λ m. take m scope) n ≡ start
case_is None None scope m = refl
case_is (Some n) (Some start) scope m = ap Some (ap (λ z. take z scope) m.1.1 ∙ ap (take (length start)) m.1.0 ∙ take_front start m.0)
case_is None (Some start) scope m = absurd m
case_is (Some n) None scope m = absurd m

some_is : (n : Option ℕ) (start : Option (List ℕ)) (scope : List ℕ) → Matches n start scope → r.is_some n ≡ r.is_some start
some_is None None scope m = refl
some_is (Some n) (Some start) scope m = refl
some_is None (Some start) scope m = absurd m
some_is (Some n) None scope m = absurd m

abbrev state : List ℕ → List r.Jump → List r.Jump → List Broken → w.State
state sc ls gs bs = record { scope = sc; labels = ls; gotos = gs; found = summary bs }

same_state : (sc sc2 : List ℕ) (ls ls2 gs gs2 : List r.Jump) (bs bs2 : List Broken) → sc ≡ sc2 → ls ≡ ls2 → gs ≡ gs2 → bs ≡ bs2 → state sc ls gs bs ≡ state sc2 ls2 gs2 bs2
same_state sc sc2 ls ls2 gs gs2 bs bs2 p q s u =
    ap (λ z. state z ls gs bs) p ∙ ap (λ z. state sc2 z gs bs) q ∙ ap (λ z. state sc2 ls2 z bs) s ∙ ap (λ z. state sc2 ls2 gs2 z) u

nothing_more : (sc : List ℕ) (ls gs : List r.Jump) (bs : List Broken) → state sc ls gs bs ≡ state sc (ls ++ []) (gs ++ []) (bs ++ [])
nothing_more sc ls gs bs = same_state sc sc _ _ _ _ _ _ refl (sym (append-nil ls)) (sym (append-nil gs)) (sym (append-nil bs))

lines_more : (sc : List ℕ) (ls gs : List r.Jump) (bs own : List Broken) → w.with_found (state sc ls gs bs) (summary own) ≡ state sc ls gs (bs ++ own)
lines_more sc ls gs bs own = ap (λ (f : Summary). let z : w.State = record { scope = sc; labels = ls; gotos = gs; found = f } in z) (sym (joined_is bs own))

only_lines : (sc : List ℕ) (ls gs : List r.Jump) (bs own : List Broken) → w.with_found (state sc ls gs bs) (summary own) ≡ state sc (ls ++ []) (gs ++ []) (bs ++ own)
only_lines sc ls gs bs own = lines_more sc ls gs bs own ∙ same_state sc sc _ _ _ _ _ _ refl (sym (append-nil ls)) (sym (append-nil gs)) refl

left : (sc ds : List ℕ) (ls gs : List r.Jump) (bs : List Broken) → w.leaving (length sc) (state (sc ++ ds) ls gs bs) ≡ state sc ls gs bs
left sc ds ls gs bs = ap (λ z. state z ls gs bs) (take_front sc ds)

two : (sc : List ℕ) (ls l1 l2 gs g1 g2 : List r.Jump) (bs b1 b2 : List Broken) → state sc (ls ++ l1 ++ l2) (gs ++ g1 ++ g2) (bs ++ b1 ++ b2) ≡ state sc (ls ++ (l1 ++ l2)) (gs ++ (g1 ++ g2)) (bs ++ (b1 ++ b2))
two sc ls l1 l2 gs g1 g2 bs b1 b2 = same_state sc sc _ _ _ _ _ _ refl (append_assoc ls l1 l2) (append_assoc gs g1 g2) (append_assoc bs b1 b2)

case_more : (n : Option ℕ) (start : Option (List ℕ)) (sc : List ℕ) (ls gs : List r.Jump) (bs : List Broken) (at : ℕ) → Matches n start sc →
    w.with_found (state sc ls gs bs) (w.case_found n sc at) ≡ state sc ls gs (bs ++ r.case_lines start sc at)
case_more n start sc ls gs bs at m =
    ap (λ z. w.with_found (state sc ls gs bs) (summary (r.case_lines z sc at))) (case_is n start sc m) ∙ lines_more sc ls gs bs (r.case_lines start sc at)

module _ (result : Option Kind) where
  mutual
    step_is : (l : Bool) (n : Option ℕ) (start : Option (List ℕ)) (sc : List ℕ) (ls gs : List r.Jump) (bs : List Broken) (s : t.Step) → Matches n start sc →
        w.walked result l n (state sc ls gs bs) s ≡ state sc (ls ++ r.labels_of sc s) (gs ++ r.gotos_of sc s) (bs ++ r.misplaced result l start sc s)
    step_is l n start sc ls gs bs (t.pDraw object) m = nothing_more sc ls gs bs
    step_is l n start sc ls gs bs (t.pBegin object vs) m = nothing_more sc ls gs bs
    step_is l n start sc ls gs bs (t.pBlock ss) m = ap (w.leaving (length sc)) (all_is l n start sc ls gs bs ss m) ∙ left sc (r.declared_in ss) _ _ _
    step_is l n start sc ls gs bs t.pEmpty m = nothing_more sc ls gs bs
    step_is l n start sc ls gs bs (t.pEffect e) m = nothing_more sc ls gs bs
    step_is l n start sc ls gs bs (t.pIf v s) m = step_is l n start sc ls gs bs s m
    step_is l n start sc ls gs bs (t.pIfElse v s u) m =
        ap (λ z. w.walked result l n z u) (step_is l n start sc ls gs bs s m)
        ∙ step_is l n start sc (ls ++ r.labels_of sc s) (gs ++ r.gotos_of sc s) (bs ++ r.misplaced result l start sc s) u m
        ∙ two sc ls _ _ gs _ _ bs _ _
    step_is l n start sc ls gs bs (t.pWhile at v s) m = step_is true n start sc ls gs bs s m
    step_is l n start sc ls gs bs (t.pSwitch at k v s) m = step_is l (Some (length sc)) (Some sc) sc ls gs bs s ([], (sym (append-nil sc), refl))
    step_is l n start sc ls gs bs (t.pDo at s v) m = step_is true n start sc ls gs bs s m
    step_is l n start sc ls gs bs (t.pFor at first v x s) m =
        ap (w.leaving (length sc)) (step_is true n start (sc ++ r.declared_in first) ls gs bs s (more n start sc (r.declared_in first) m)) ∙ left sc (r.declared_in first) _ _ _
    step_is l n start sc ls gs bs (t.pCase at v s) m =
        ap (λ z. w.walked result l n z s) (case_more n start sc ls gs bs at m)
        ∙ step_is l n start sc ls gs (bs ++ r.case_lines start sc at) s m
        ∙ ap (λ z. state sc (ls ++ r.labels_of sc s) (gs ++ r.gotos_of sc s) z) (append_assoc bs (r.case_lines start sc at) (r.misplaced result l start sc s))
    step_is l n start sc ls gs bs (t.pDefault at s) m =
        ap (λ z. w.walked result l n z s) (case_more n start sc ls gs bs at m)
        ∙ step_is l n start sc ls gs (bs ++ r.case_lines start sc at) s m
        ∙ ap (λ z. state sc (ls ++ r.labels_of sc s) (gs ++ r.gotos_of sc s) z) (append_assoc bs (r.case_lines start sc at) (r.misplaced result l start sc s))
    step_is l n start sc ls gs bs (t.pLabel x at s) m =
        step_is l n start sc (ls ++ r.jump x at at sc ∷ []) gs bs s m
        ∙ ap (λ z. state sc z (gs ++ r.gotos_of sc s) (bs ++ r.misplaced result l start sc s)) (append_assoc ls (r.jump x at at sc ∷ []) (r.labels_of sc s))
    step_is l n start sc ls gs bs (t.pGoto at x y) m = same_state sc sc _ _ _ _ _ _ refl (sym (append-nil ls)) refl (sym (append-nil bs))
    step_is l n start sc ls gs bs (t.pBreak at) m =
        only_lines sc ls gs bs (line (not (l || r.is_some n)) fault.BadJump at)
        ∙ ap (λ z. state sc (ls ++ []) (gs ++ []) (bs ++ line (not (l || z)) fault.BadJump at)) (some_is n start sc m)
    step_is l n start sc ls gs bs (t.pContinue at) m = only_lines sc ls gs bs (line (not l) fault.BadJump at)
    step_is l n start sc ls gs bs (t.pReturn at e) m = only_lines sc ls gs bs (r.return_line result e at)

    all_is : (l : Bool) (n : Option ℕ) (start : Option (List ℕ)) (sc : List ℕ) (ls gs : List r.Jump) (bs : List Broken) (ss : t.Steps) → Matches n start sc →
        w.walked_all result l n (state sc ls gs bs) ss ≡ state (sc ++ r.declared_in ss) (ls ++ r.labels_of_all sc ss) (gs ++ r.gotos_of_all sc ss) (bs ++ r.misplaced_all result l start sc ss)
    all_is l n start sc ls gs bs t.no_steps m = same_state sc (sc ++ []) _ _ _ _ _ _ (sym (append-nil sc)) (sym (append-nil ls)) (sym (append-nil gs)) (sym (append-nil bs))
    all_is l n start sc ls gs bs (t.steps_and ss s) m =
        ap (λ z. w.declaring (w.walked result l n z s) (r.declared_by s)) (all_is l n start sc ls gs bs ss m)
        ∙ ap (λ z. w.declaring z (r.declared_by s))
        (step_is l n start (sc ++ r.declared_in ss) (ls ++ r.labels_of_all sc ss) (gs ++ r.gotos_of_all sc ss) (bs ++ r.misplaced_all result l start sc ss) s (more n start sc (r.declared_in ss) m)
        ∙ two (sc ++ r.declared_in ss) ls _ _ gs _ _ bs _ _)
        ∙ ap (λ z. state z (ls ++ r.labels_of_all sc (t.steps_and ss s)) (gs ++ r.gotos_of_all sc (t.steps_and ss s)) (bs ++ r.misplaced_all result l start sc (t.steps_and ss s))) (append_assoc sc (r.declared_in ss) (r.declared_by s))

pub bodies_walked : w.BodiesWalked
bodies_walked result body = all_is result false None None [] [] [] [] body tt
