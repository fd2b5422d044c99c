use Rattle.std.proofs.Common.{◌≡◌, ◌≢◌, ℕ, ◌+◌, ◌-◌, ◌<◌, ◌≤◌, ◌&&◌, ◌||◌, ◌==◌, Bool, true, false, not, List, [], ◌∷◌, ◌++◌, length, refl, sym, ap, ◌∙◌, subst, arith, rules, Some, Result, Ok, Err, slice_get, zero, suc}
use Rattle.formula_diagrams.specs.Truths.{holds}
use Rattle.formula_diagrams.specs.Writings.{AreWritten, is_marked, IsTruth}
use Rattle.bv_term.specs.declared.term.TermId.{TermId}
use Rattle.std.proofs.lemmas.List.{length-append}
use Rattle.formula_diagrams.proofs.Putting.{extends-none, extends-twice}
use Rattle.formula_diagrams.proofs.Marking.{written-none, written-push, written-stays}
use Rattle.formula_diagrams.proofs.writing.put_marked.Goals as goal

pub loop-place-init : goal.loop-place-init
loop-place-init c =
    let P : List TermId → Type 0 = λ ts. AreWritten c.args.nodes.now c.args.terms.now c.args.marks.now ts in
    record {
      long = ap length c.new-written.ensures.items;
      extends = extends-none _;
      written = subst P (sym c.new-written.ensures.items) (written-none _ _ _);
    }

pub put_next-requires-clause-cells : goal.put_next-requires-clause-cells
put_next-requires-clause-cells c = c.loop-place.invariant.extends.0 ∙ c.requires.cells

pub loop-place-preserved : goal.loop-place-preserved
loop-place-preserved c =
    let P : List TermId → Type 0 = λ ts. AreWritten c.args.nodes.now c.put_next.new.terms c.args.marks.now ts in
    let e : c.push.new.self.items ≡ c.loop-place.written.items ++ c.in_ok-id.id ∷ [] = c.in_ok-push.ensures.items in
    let n : length c.loop-place.written.items ≡ c.loop-place.place = c.loop-place.invariant.long in
    let new : is_marked c.args.marks.now (length c.loop-place.written.items) ≡ true → IsTruth c.put_next.new.terms c.in_ok-id.id (λ store. holds c.args.nodes.now store (length c.loop-place.written.items + 2)) =
    (let Q : ℕ → Type 0 = λ k. is_marked c.args.marks.now k ≡ true → IsTruth c.put_next.new.terms c.in_ok-id.id (λ store. holds c.args.nodes.now store (k + 2)) in
    subst Q (sym n) c.in_ok-id.ensures.truth) in
    record {
      long = omega (arith, ap length e, length-append c.loop-place.written.items (c.in_ok-id.id ∷ []), n);
      extends = extends-twice _ _ _ c.loop-place.invariant.extends c.put_next.ensures.extends;
      written = subst P (sym e) (written-push _ _ _ _ _ new (written-stays _ _ _ _ _ c.put_next.ensures.extends c.loop-place.invariant.written));
    }

pub returns-in_err-id-clause-extends : goal.returns-in_err-id-clause-extends
returns-in_err-id-clause-extends c = extends-twice _ _ _ c.loop-place.invariant.extends c.put_next.ensures.extends

pub returns-in_err-push-clause-extends : goal.returns-in_err-push-clause-extends
returns-in_err-push-clause-extends c = extends-twice _ _ _ c.loop-place.invariant.extends c.put_next.ensures.extends
