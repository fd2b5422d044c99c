use Rattle.std.proofs.Common.{◌≡◌, ℕ, List, length, slice_index_or, [], ◌∷◌, ◌++◌, None, Option, sym, ap, subst, arith, length-append}
use Rattle.bv_term.specs.declared.term.TermId.{TermId}
use Rattle.invariant_map.specs.Labels.{AreFilled, IsFilled}
use Rattle.invariant_map.proofs.Copies.{extends_twice}
use Rattle.invariant_map.proofs.Joins.{term_stays, filled_push, filled_from}
use Rattle.invariant_map.proofs.joining.filled.Goals as goal

pub put_whole-requires : goal.put_whole-requires
put_whole-requires c = term_stays _ _ (slice_index_or c.args.parts.now c.loop-part.part-index None) c.loop-part.invariant.extends (c.requires c.loop-part.part-index)

pub loop-part-preserved : goal.loop-part-preserved
loop-part-preserved c =
    let ts : List TermId = c.loop-part.formulas.items in
    let e : c.push.new.self.items ≡ ts ++ c.in_ok-formula.formula ∷ [] = c.in_ok-push.ensures.items in
    let n : length ts ≡ c.loop-part.part-index = c.loop-part.invariant.long in
    let o : Option TermId = slice_index_or c.args.parts.now c.loop-part.part-index None in
    let new : IsFilled c.args.terms.now c.put_whole.new.terms o c.in_ok-formula.formula =
    filled_from c.args.terms.now c.loop-part.terms c.put_whole.new.terms o c.in_ok-formula.formula c.loop-part.invariant.extends (c.requires c.loop-part.part-index) c.in_ok-formula.ensures.filled in
    let Q : ℕ → Type 0 = λ k. IsFilled c.args.terms.now c.put_whole.new.terms (slice_index_or c.args.parts.now k None) c.in_ok-formula.formula in
    record {
      long = omega (arith, ap length e, length-append ts (c.in_ok-formula.formula ∷ []), n);
      extends = extends_twice _ _ _ c.loop-part.invariant.extends c.put_whole.ensures.extends;
      filled = subst (λ (w : List TermId). AreFilled c.args.terms.now c.put_whole.new.terms c.args.parts.now w) (sym e)
          (filled_push c.args.terms.now c.loop-part.terms c.put_whole.new.terms c.args.parts.now ts c.in_ok-formula.formula c.put_whole.ensures.extends (subst Q (sym n) new) c.loop-part.invariant.filled);
    }
