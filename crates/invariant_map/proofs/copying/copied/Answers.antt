use Rattle.std.proofs.Common.{◌≡◌, ℕ, List, length, true, [], ◌∷◌, ◌++◌, sym, ap, subst, arith, length-append}
use Rattle.bv_term.specs.declared.term.TermId.{TermId}
use Rattle.invariant_map.specs.Copies.{AreCopies, IsCopy, is_marked}
use Rattle.invariant_map.proofs.Copies.{copies_push, copies_stay, extends_twice}
use Rattle.invariant_map.proofs.copying.copied.Goals as goal

pub loop-number-preserved : goal.loop-number-preserved
loop-number-preserved c =
    let ps : List TermId = c.loop-number.places.items in
    let e : c.push.new.self.items ≡ ps ++ c.in_ok-place.place ∷ [] = c.in_ok-push.ensures.items in
    let n : length ps ≡ c.loop-number.number = c.loop-number.invariant.long in
    let Q : ℕ → Type 0 = λ k. is_marked c.args.marks.now k ≡ true → IsCopy c.args.from.now c.put_next.new.terms k c.in_ok-place.place in
    record {
      long = omega (arith, ap length e, length-append ps (c.in_ok-place.place ∷ []), n);
      extends = extends_twice _ _ _ c.loop-number.invariant.extends c.put_next.ensures.extends;
      copies = subst (λ (w : List TermId). AreCopies c.args.from.now c.put_next.new.terms c.args.marks.now w) (sym e)
          (copies_push _ _ _ ps c.in_ok-place.place (subst Q (sym n) c.in_ok-place.ensures.copy) (copies_stay _ _ _ _ _ c.put_next.ensures.extends c.loop-number.invariant.copies));
    }
