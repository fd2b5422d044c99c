-- The ways out of a place at which the run is.
use Rattle.std.proofs.Common.{◌≡◌, ℕ, ℤ, ◌≤◌, ◌==◌, inl, inr, Bool, true, false, ◌&&◌, ◌||◌, List, [], ◌∷◌, Option, Some, None, refl, sym, ap, ◌∙◌, subst, length, slice_set}
use Rattle.bv_term.specs.Numbers.{truth}
use Rattle.bv_term.specs.declared.term.TermId.{TermId}
use Rattle.bv_term.specs.WellFormed.{Table}
use Rattle.bv_term.specs.Values.{value}
use Rattle.c_graph.specs.declared.graph.Operation.{Operation}
use Rattle.c_graph.specs.declared.graph.Operation.TheVariants.{Assume}
use Rattle.c_graph.specs.declared.graph.Edge.{Edge}
use Rattle.c_graph.specs.Shape.{Flow}
use Rattle.c_graph.specs.Steps.{Moment, moment, operated_all}
use Rattle.block_rule.specs.Deeds.{Sets, Code}
use Rattle.block_rule.specs.Plans.{Way, Ways, Goes, Tested, Checked, Fails, Forks, Plan, matters, IsOneOf, Exclude, AreMoves, IsError, AreRegular}
use Rattle.block_rule.specs.Rule.{State, under, with_bad, with_saved, checked, leads, goes, outwards}
use Rattle.block_rule.specs.Blocked.{Agree, ReadsAll, read_before_all}
use Rattle.block_laws.proofs.Lists.{false-true, or_failed}
use Rattle.block_laws.proofs.Keeping.{Ready, Below, ready-saved, new-below}
use Rattle.block_laws.proofs.Moving.{Lands, Widths, lands-does}
use Rattle.block_laws.proofs.Leading.{or-gone, ready-same, ready-free, lands-check, lands-leads}
use Rattle.block_laws.proofs.Going.{under-on, under-off, passes, tested, agree-below, Rests, Failing, goes-away, check-away, takes, Arrives, Errs}

some-none : (x : ℕ) → Some x ≡ None → ⊥
some-none x e = absurd cc

same-some : (x y : ℕ) → Some x ≡ Some y → x ≡ y
same-some x y e = cc

same-moment : (m a : Moment) → Some m ≡ Some a → m ≡ a
same-moment m a e = cc

module _ (g : Flow) (wide : Table) (plan : Plan) (n many : ℕ) (P : ℕ → Moment → Type 0) (widths : Widths n g.terms wide) (reads : ReadsAll g.terms n plan) (rest : State → Code) (ins : List ℤ) (to : ℕ) (a : Moment)
    (le : n ≤ many) (arrives : Arrives g.terms wide plan n many P widths reads rest ins to a) (errs : IsError g to → Errs g.terms wide plan n many P widths reads rest ins to a)
    (perr : IsError g to → (t : List ℕ) → P to (moment t a.inputs)) (alive : matters plan to ≡ true) where
  abbrev L : Code → Moment → Type 0
  L = Lands wide many P

  fails-so : ins ≡ a.inputs → IsError g to → Failing g.terms wide plan n many P widths (Some to) ins
  fails-so same is e t q = subst (λ (x : ℕ). P x (moment t ins)) (same-some to e q) (subst (λ (zs : List ℤ). P to (moment t zs)) (sym same) (perr is t))

  rests-so : ins ≡ a.inputs → IsError g to → (at : ℕ → Bool) (r : ℕ) (s : List ℕ) → Rests g.terms wide plan n many P widths (Some to) at r rest s ins
  rests-so same is at r s st t ready q = subst (λ (zs : List ℤ). L (rest st) (moment t zs)) (sym same) (errs is st at t ready)

  -- a check fails
  module _ (st : State) (gd : Option ℕ) (s old : List ℕ) (ready : Ready n many st gd true None (λ x. false) s) (long : n ≤ length old) where
    value-there : (t : TermId) (ops : List Operation) → operated_all g.terms (Assume t ∷ ops) (Some (moment old ins)) ≡ Some a
        → Agree n (read_before_all plan (plan.live to) (Assume t ∷ ops)) old s → value g.terms s t ≡ 1
    value-there t ops h agree = sym (tested g.terms plan n reads t ops (plan.live to) old s agree).0 ∙ (passes g.terms t ops (moment old ins) a h).0

    value-later : (t : TermId) (u : List ℕ) → Below n s u → value g.terms s t ≡ 1 → value g.terms u t ≡ 1
    value-later t u b one = sym (reads t s u (λ c lt y. b c lt)) ∙ one

    ends-there : (t : TermId) → operated_all g.terms (Assume t ∷ []) (Some (moment old ins)) ≡ Some a → moment old ins ≡ a
    ends-there t h = same-moment (moment old ins) a (passes g.terms t [] (moment old ins) a h).1

    failed : (t : TermId) (error : ℕ) (rest2 : State → Code) → to ≡ error → value g.terms s t ≡ 1
        → ((u : List ℕ) → Ready n many (with_bad st error) gd true (Some to) (λ x. false) u → Below n s u → L (rest2 (with_bad st error)) (moment u ins))
        → L (checked st error (under g.terms gd t) rest2) (moment s ins)
    failed t error rest2 same one k =
        lands-check wide plan n many P st gd true None (λ x. false) s ins ready error (under g.terms gd t) rest2
        (λ u ready2 b.
        let y : or_failed None (under g.terms gd t s) error ≡ Some to =
        ap (λ (c : Bool). or_failed None c error) (under-on g.terms gd t s (ready.on refl) one) ∙ ap (λ (x : ℕ). Some x) (sym same) in
        k u (subst (λ (x : Option ℕ). Ready n many (with_bad st error) gd true x (λ z. false) u) y ready2) b)

    passed : (t : TermId) (error : ℕ) (rest2 : State → Code) → (value g.terms s t ≡ 1 → ⊥)
        → ((u : List ℕ) → Ready n many (with_bad st error) gd true None (λ x. false) u → Below n s u → L (rest2 (with_bad st error)) (moment u ins))
        → L (checked st error (under g.terms gd t) rest2) (moment s ins)
    passed t error rest2 ne k =
        lands-check wide plan n many P st gd true None (λ x. false) s ins ready error (under g.terms gd t) rest2
        (λ u ready2 b.
        let y : or_failed None (under g.terms gd t s) error ≡ None = ap (λ (c : Bool). or_failed None c error) (under-off g.terms gd t s ne) in
        k u (subst (λ (x : Option ℕ). Ready n many (with_bad st error) gd true x (λ z. false) u) y ready2) b)

    forked : (t u : TermId) (one other : ℕ) → Exclude g.terms t u → to ≡ one → value g.terms s t ≡ 1 → Agree n (plan.live to) old s → moment old ins ≡ a
        → L (leads plan st one false (under g.terms gd t) (λ st1. leads plan st1 other false (under g.terms gd u) rest)) (moment s ins)
    forked t u one other ex same is agree stays =
        lands-leads wide plan n many P st gd true None (λ x. false) s ins ready one false (under g.terms gd t) (λ st1. leads plan st1 other false (under g.terms gd u) rest)
        (λ e f. subst (λ (x : ℕ). matters plan x ≡ true) same alive) (λ sure e. absurd (false-true sure))
        (λ st2 x ready2 b.
        let off : under g.terms gd u x ≡ false = under-off g.terms gd u x (λ w. ex x (value-later t x b is) w) in
        let on : under g.terms gd t s ≡ true = under-on g.terms gd t s (ready.on refl) is in
        lands-leads wide plan n many P st2 gd true None (λ y. false || (under g.terms gd t s && (y == one))) x ins ready2 other false (under g.terms gd u) rest
        (λ e f. absurd (false-true (sym off ∙ f))) (λ sure e. absurd (false-true sure))
        (λ st3 y ready3 c.
        let final = ready-same n many st3 gd true None (λ z. (false || (under g.terms gd t s && (z == one))) || (under g.terms gd u x && (z == other))) (λ z. z == to) y ready3
        (λ e z.
        sym (or-gone (false || (under g.terms gd t s && (z == one))) (under g.terms gd u x) (z == other) off)
        ∙ ap (λ (q : Bool). false || (q && (z == one))) on ∙ ap (λ (q : ℕ). z == q) (sym same)) in
        let last : L (rest st3) (moment y a.inputs) =
        arrives st3 y (ready-free n many st3 gd true None (λ z. z == to) y final)
        (agree-below n (plan.live to) a.store x y (agree-below n (plan.live to) a.store s x (subst (λ (m : Moment). Agree n (plan.live to) m.store s) stays agree) b) c)
        (subst (λ (m : Moment). n ≤ length m.store) stays long) in
        subst (λ (zs : List ℤ). L (rest st3) (moment y zs)) (sym (ap (λ (m : Moment). m.inputs) stays)) last))

    forked-other : (t u : TermId) (one other : ℕ) → Exclude g.terms t u → to ≡ other → value g.terms s u ≡ 1 → Agree n (plan.live to) old s → moment old ins ≡ a
        → L (leads plan st one false (under g.terms gd t) (λ st1. leads plan st1 other false (under g.terms gd u) rest)) (moment s ins)
    forked-other t u one other ex same is agree stays =
        let off : under g.terms gd t s ≡ false = under-off g.terms gd t s (λ w. ex s w is) in
        lands-leads wide plan n many P st gd true None (λ x. false) s ins ready one false (under g.terms gd t) (λ st1. leads plan st1 other false (under g.terms gd u) rest)
        (λ e f. absurd (false-true (sym off ∙ f))) (λ sure e. absurd (false-true sure))
        (λ st2 x ready2 b.
        let on : under g.terms gd u x ≡ true = under-on g.terms gd u x (ready2.on refl) (value-later u x b is) in
        lands-leads wide plan n many P st2 gd true None (λ y. false || (under g.terms gd t s && (y == one))) x ins ready2 other false (under g.terms gd u) rest
        (λ e f. subst (λ (q : ℕ). matters plan q ≡ true) same alive) (λ sure e. absurd (false-true sure))
        (λ st3 y ready3 c.
        let final = ready-same n many st3 gd true None (λ z. (false || (under g.terms gd t s && (z == one))) || (under g.terms gd u x && (z == other))) (λ z. z == to) y ready3
        (λ e z.
        ap (λ (q : Bool). (false || (q && (z == one))) || (under g.terms gd u x && (z == other))) off
        ∙ ap (λ (q : Bool). q && (z == other)) on ∙ ap (λ (q : ℕ). z == q) (sym same)) in
        let last : L (rest st3) (moment y a.inputs) =
        arrives st3 y (ready-free n many st3 gd true None (λ z. z == to) y final)
        (agree-below n (plan.live to) a.store x y (agree-below n (plan.live to) a.store s x (subst (λ (m : Moment). Agree n (plan.live to) m.store s) stays agree) b) c)
        (subst (λ (m : Moment). n ≤ length m.store) stays long) in
        subst (λ (zs : List ℤ). L (rest st3) (moment y zs)) (sym (ap (λ (m : Moment). m.inputs) stays)) last))

    abbrev Runs : List Operation → Type 0
    Runs ops = operated_all g.terms ops (Some (moment old ins)) ≡ Some a

    abbrev Reads : List Operation → Type 0
    Reads ops = Agree n (read_before_all plan (plan.live to) ops) old s

    same-inputs : moment old ins ≡ a → ins ≡ a.inputs
    same-inputs e = ap (λ (m : Moment). m.inputs) e

    takes-tested : (t : TermId) (way : Way) → AreMoves plan n way.moves → to ≡ way.to → Runs (Assume t ∷ way.moves) → Reads (Assume t ∷ way.moves)
        → L (outwards g.terms plan st gd (Tested t way) rest) (moment s ins)
    takes-tested t way moves same h agree =
        lands-does wide many P (Sets st.next (λ x. truth (under g.terms gd t x))) (goes g.terms plan (with_saved st) (Some st.next) way rest) (moment s ins)
        (moment (slice_set s st.next (truth (under g.terms gd t s))) ins) refl
        (λ w.
        let on : under g.terms gd t s ≡ true = under-on g.terms gd t s (ready.on refl) (value-there t way.moves h agree) in
        let next = ready-saved n many st gd true None (λ x. false) s ready (under g.terms gd t s) w in
        let b = new-below n many st gd true None (λ x. false) s ready (under g.terms gd t s) w in
        takes g.terms wide plan n many P widths reads rest ins to a (with_saved st) (Some st.next) (slice_set s st.next (truth (under g.terms gd t s))) old way le
        (subst (λ (q : Bool). Ready n many (with_saved st) (Some st.next) q None (λ x. false) (slice_set s st.next (truth (under g.terms gd t s)))) on next)
        moves same alive (passes g.terms t way.moves (moment old ins) a h).1
        (agree-below n (read_before_all plan (plan.live to) way.moves) old s (slice_set s st.next (truth (under g.terms gd t s)))
        (tested g.terms plan n reads t way.moves (plan.live to) old s agree).1 b) long arrives)

    takes-error : (t : TermId) (error : ℕ) (u : TermId) (way : Way) → AreMoves plan n way.moves → IsError g error → to ≡ error → Runs (Assume t ∷ []) → Reads (Assume t ∷ [])
        → L (outwards g.terms plan st gd (Checked t error u way) rest) (moment s ins)
    takes-error t error u way moves is same h agree =
        let err : IsError g to = subst (λ (x : ℕ). IsError g x) (sym same) is in
        let stays = ends-there t h in
        failed t error (λ st1. goes g.terms plan st1 gd way rest) same (value-there t [] h agree)
        (λ x ready2 b.
        goes-away g.terms wide plan n many P widths (Some to) (λ z. false) 0 (λ e. absurd (some-none to e)) ins (fails-so (same-inputs stays) err)
        (with_bad st error) gd true x way rest ready2 moves (λ e. absurd (some-none to e)) (rests-so (same-inputs stays) err (λ z. false) 0 x))

    takes-passed : (t : TermId) (error : ℕ) (u : TermId) (way : Way) → AreMoves plan n way.moves → Exclude g.terms t u → to ≡ way.to → Runs (Assume u ∷ way.moves)
        → Reads (Assume u ∷ way.moves) → L (outwards g.terms plan st gd (Checked t error u way) rest) (moment s ins)
    takes-passed t error u way moves ex same h agree =
        passed t error (λ st1. goes g.terms plan st1 gd way rest) (λ w. ex s w (value-there u way.moves h agree))
        (λ x ready2 b.
        takes g.terms wide plan n many P widths reads rest ins to a (with_bad st error) gd x old way le ready2 moves same alive (passes g.terms u way.moves (moment old ins) a h).1
        (agree-below n (read_before_all plan (plan.live to) way.moves) old s x (tested g.terms plan n reads u way.moves (plan.live to) old s agree).1 b) long arrives)

    takes-first : (t : TermId) (error : ℕ) (u : TermId) (other : ℕ) → IsError g error → to ≡ error → Runs (Assume t ∷ []) → Reads (Assume t ∷ [])
        → L (outwards g.terms plan st gd (Fails t error u other) rest) (moment s ins)
    takes-first t error u other is same h agree =
        let err : IsError g to = subst (λ (x : ℕ). IsError g x) (sym same) is in
        let stays = ends-there t h in
        failed t error (λ st1. checked st1 other (under g.terms gd u) rest) same (value-there t [] h agree)
        (λ x ready2 b.
        check-away g.terms wide plan n many P widths (Some to) (λ z. false) 0 (λ e. absurd (some-none to e)) ins (fails-so (same-inputs stays) err)
        (with_bad st error) gd true x other (under g.terms gd u) rest ready2 (λ e. absurd (some-none to e))
        (λ y ready3 c.
        rests-so (same-inputs stays) err (λ z. false) 0 x (with_bad (with_bad st error) other) y
        (ready-free n many (with_bad (with_bad st error) other) gd true (Some to) (λ z. false) y ready3) (λ e. absurd (some-none to e))))

  takes-second : (st : State) (gd : Option ℕ) (s old : List ℕ) (ready : Ready n many st gd true None (λ x. false) s) (long : n ≤ length old)
      → (t : TermId) (error : ℕ) (u : TermId) (other : ℕ) → Exclude g.terms t u → IsError g other → to ≡ other
      → operated_all g.terms (Assume u ∷ []) (Some (moment old ins)) ≡ Some a → Agree n (read_before_all plan (plan.live to) (Assume u ∷ [])) old s
      → L (outwards g.terms plan st gd (Fails t error u other) rest) (moment s ins)
  takes-second st gd s old ready long t error u other ex is same h agree =
      let err : IsError g to = subst (λ (x : ℕ). IsError g x) (sym same) is in
      let stays = ends-there st gd s old ready long u h in
      let one = value-there st gd s old ready long u [] h agree in
      passed st gd s old ready long t error (λ st1. checked st1 other (under g.terms gd u) rest) (λ w. ex s w one)
      (λ x ready2 b.
      failed (with_bad st error) gd x old ready2 long u other rest same (value-later st gd s old ready long u x b one)
      (λ y ready3 c.
      rests-so (same-inputs st gd s old ready long stays) err (λ z. false) 0 x (with_bad (with_bad st error) other) y
      (ready-free n many (with_bad (with_bad st error) other) gd true (Some to) (λ z. false) y ready3) (λ e. absurd (some-none to e))))

  -- the ways out of a place at which the run is, which takes an edge
  pub outwards-on : (st : State) (gd : Option ℕ) (s old : List ℕ) (ready : Ready n many st gd true None (λ x. false) s) (long : n ≤ length old) (ways : Ways) (e : Edge)
      → e.to.0 ≡ to → IsOneOf ways e → AreRegular g plan n ways
      → operated_all g.terms e.ops (Some (moment old ins)) ≡ Some a → Agree n (read_before_all plan (plan.live to) e.ops) old s
      → L (outwards g.terms plan st gd ways rest) (moment s ins)
  outwards-on st gd s old ready long (Goes way) e goal is regular h agree =
      takes g.terms wide plan n many P widths reads rest ins to a st gd s old way le ready regular (sym goal ∙ is.1) alive
      (ap (λ (ops : List Operation). operated_all g.terms ops (Some (moment old ins))) (sym is.0) ∙ h)
      (subst (λ (ops : List Operation). Agree n (read_before_all plan (plan.live to) ops) old s) is.0 agree) long arrives
  outwards-on st gd s old ready long (Tested t way) e goal is regular h agree =
      takes-tested st gd s old ready long t way regular (sym goal ∙ is.1)
      (ap (λ (ops : List Operation). operated_all g.terms ops (Some (moment old ins))) (sym is.0) ∙ h)
      (subst (λ (ops : List Operation). Agree n (read_before_all plan (plan.live to) ops) old s) is.0 agree)
  outwards-on st gd s old ready long (Checked t error u way) e goal (inl is) regular h agree =
      takes-error st gd s old ready long t error u way regular.2 regular.1 (sym goal ∙ is.1)
      (ap (λ (ops : List Operation). operated_all g.terms ops (Some (moment old ins))) (sym is.0) ∙ h)
      (subst (λ (ops : List Operation). Agree n (read_before_all plan (plan.live to) ops) old s) is.0 agree)
  outwards-on st gd s old ready long (Checked t error u way) e goal (inr is) regular h agree =
      takes-passed st gd s old ready long t error u way regular.2 regular.0 (sym goal ∙ is.1)
      (ap (λ (ops : List Operation). operated_all g.terms ops (Some (moment old ins))) (sym is.0) ∙ h)
      (subst (λ (ops : List Operation). Agree n (read_before_all plan (plan.live to) ops) old s) is.0 agree)
  outwards-on st gd s old ready long (Fails t error u other) e goal (inl is) regular h agree =
      takes-first st gd s old ready long t error u other regular.1 (sym goal ∙ is.1)
      (ap (λ (ops : List Operation). operated_all g.terms ops (Some (moment old ins))) (sym is.0) ∙ h)
      (subst (λ (ops : List Operation). Agree n (read_before_all plan (plan.live to) ops) old s) is.0 agree)
  outwards-on st gd s old ready long (Fails t error u other) e goal (inr is) regular h agree =
      takes-second st gd s old ready long t error u other regular.0 regular.2 (sym goal ∙ is.1)
      (ap (λ (ops : List Operation). operated_all g.terms ops (Some (moment old ins))) (sym is.0) ∙ h)
      (subst (λ (ops : List Operation). Agree n (read_before_all plan (plan.live to) ops) old s) is.0 agree)
  outwards-on st gd s old ready long (Forks t one u other) e goal (inl is) regular h agree =
      let h2 = ap (λ (ops : List Operation). operated_all g.terms ops (Some (moment old ins))) (sym is.0) ∙ h in
      let agree2 = subst (λ (ops : List Operation). Agree n (read_before_all plan (plan.live to) ops) old s) is.0 agree in
      forked st gd s old ready long t u one other regular (sym goal ∙ is.1) (value-there st gd s old ready long t [] h2 agree2)
      (tested g.terms plan n reads t [] (plan.live to) old s agree2).1 (ends-there st gd s old ready long t h2)
  outwards-on st gd s old ready long (Forks t one u other) e goal (inr is) regular h agree =
      let h2 = ap (λ (ops : List Operation). operated_all g.terms ops (Some (moment old ins))) (sym is.0) ∙ h in
      let agree2 = subst (λ (ops : List Operation). Agree n (read_before_all plan (plan.live to) ops) old s) is.0 agree in
      forked-other st gd s old ready long t u one other regular (sym goal ∙ is.1) (value-there st gd s old ready long u [] h2 agree2)
      (tested g.terms plan n reads u [] (plan.live to) old s agree2).1 (ends-there st gd s old ready long u h2)
