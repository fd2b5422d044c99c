use Rattle.std.proofs.Common.{◌≡◌, suc, ◌+◌, ◌<◌, sym, [], ◌∷◌, ◌++◌, refl, ap, ◌∙◌, subst, arith, rules, append_assoc, ℕ, ℤ, List, Ok}
use Rattle.std.specs.Int.{w128}
use Rattle.std.proofs.lemmas.Int.{to_z-of_z}
use mir.Val.{SFits}
use Rattle.lv_base.specs.Integers.{residue}
use Rattle.c_terms.specs.Shown.{Shows}
use Rattle.c_terms.proofs.Putting.{grows-twice}
use Rattle.code_moves.specs.Deeds.{Deed, Sets, AreDeeds}
use Rattle.code_layout.specs.Layout.{elements_of}
use Rattle.cfg_build.specs.Graphs.{first_sets, first_value}
use Rattle.code_moves.proofs.Doing.{deeds-later, does-none, does-equal, pushed, set-fits}
use Rattle.code_layout.specs.Lies.{IsWide}
use Rattle.c_graph.specs.declared.graph.Operation.{Operation}
use Rattle.c_graph.specs.declared.graph.Operation.TheVariants.{Set}
use Rattle.c_terms.specs.declared.words.Words.{Words}
use Rattle.c_terms.specs.Made as term
use Rattle.c_terms.proofs.Choosing.{two}
use Rattle.code_moves.proofs.Making.{set-made}
use Rattle.cfg_build.specs.Openings as made
use Rattle.cfg_build.proofs.opening.open_elements.Goals as goal

pub loop-element-init : goal.loop-element-init
loop-element-init c = (λ ds a v d. does-none _ _ ds d, refl)

pub loop-element-preserved : goal.loop-element-preserved
loop-element-preserved c = (
  λ ds a v d. (
      let n = c.loop-element.element in
      let o = c.args.object.now in
      let w = c.width-bits.result in
      let b = c.loop-element.invariant.0 ds a v d in
      let f : SFits w128 c.first_value-number.result = search rules in
      let z = λ (s : List ℕ). c.in_ok-value.ensures.shows s w refl (omega (arith, c.width-bits.ensures.some)) c.width-bits.ensures.most in
      let shown = λ (s : List ℕ). subst (λ (x : ℤ). Shows c.constant_of.new.self.terms s c.in_ok-value.value w (residue w x)) (to_z-of_z w128 c.first_value-number.result f ∙ c.first_value-number.ensures) (z s).shows in
      let before : List Deed = first_sets c.args.first w o n in
      let at : Deed = Sets (c.args.first + n) (λ store. residue w (first_value o n)) in
      let e : suc n ≡ n + 1 = omega arith in
      let grown = grows-twice _ _ _ b.grows (z []).grows in
      let count : n < elements_of o = omega (arith, c.elements_of-count.ensures) in
      let wide : IsWide c.constant_of.new.self.terms.cells c.in_ok-cell.cell w =
      subst (λ (cs : List ℕ). IsWide cs c.in_ok-cell.cell w) (sym grown.extends.0)
      (subst (λ (k : ℕ). IsWide c.args.words.now.terms.cells k w) (sym c.in_ok-cell.ensures) (omega (arith, a.1, count), a.2 n count ∙ v ∙ sym c.width-bits.ensures.width)) in
      record {
        grows = grown;
        does = subst (λ (xs : List Deed). AreDeeds c.constant_of.new.self.terms c.push.new.self.items xs) (append_assoc ds before (at ∷ []) ∙ ap (λ (k : ℕ). ds ++ first_sets c.args.first w o k) e)
            (pushed c.constant_of.new.self.terms _ _ (ds ++ before) _ at c.in_ok-push.ensures.items (deeds-later _ _ _ (ds ++ before) (z []).grows b.does) (c.in_ok-cell.ensures, (w, shown), set-fits _ _ w _ _ wide shown));
      }),
  (
      let n = c.loop-element.element in
      let o = c.args.object.now in
      let w = c.width-bits.result in
      let e : suc n ≡ n + 1 = omega arith in
      let f : SFits w128 c.first_value-number.result = search rules in
      set-made c.constant_of.new.self c.in_ok-value.value c.push.new.self.items c.loop-element.ops.items c.in_ok-cell.cell (c.args.first + n)
      _ c.in_ok-push.ensures.items c.in_ok-cell.ensures c.in_ok-value.ensures.made
      ∙ two (λ (p : Words × List Operation) (v : ℤ). ((term.constant_of p.0 w v).0, p.1 ++ Set (c.args.first + n) (term.constant_of p.0 w v).1 ∷ [])) c.loop-element.invariant.1 (to_z-of_z w128 c.first_value-number.result f ∙ c.first_value-number.ensures)
      ∙ ap (λ (k : ℕ). made.open_first c.args.words.now c.args.ops.now.items c.args.first w o k) e),
)

pub returns-clause-does : goal.returns-clause-does
returns-clause-does c = λ ds a v d.
    let e : c.loop-element.element ≡ c.elements_of-count.result = omega arith in
    does-equal (Ok tt) _ _ _ _ _ (ap (λ (k : ℕ). ds ++ first_sets c.args.first c.width-bits.result c.args.object.now k) (e ∙ c.elements_of-count.ensures) ∙ ap (λ (w : ℕ). ds ++ first_sets c.args.first w c.args.object.now (elements_of c.args.object.now)) c.width-bits.ensures.width) (c.loop-element.invariant.0 ds a v d)

pub returns-clause-made : goal.returns-clause-made
returns-clause-made c =
    let e : c.loop-element.element ≡ c.elements_of-count.result = omega arith in
    c.loop-element.invariant.1
    ∙ two (λ (w k : ℕ). made.open_first c.args.words.now c.args.ops.now.items c.args.first w c.args.object.now k) c.width-bits.ensures.width (e ∙ c.elements_of-count.ensures)
