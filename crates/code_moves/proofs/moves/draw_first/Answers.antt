use Rattle.std.proofs.Common.{◌≡◌, suc, ◌+◌, [], ◌∷◌, ◌++◌, refl, ap, ◌∙◌, subst, append_assoc, arith, ℕ, List, Bool}
use Rattle.lv_base.specs.Integers.{is_signed}
use Rattle.c_graph.specs.declared.graph.Operation.{Operation}
use Rattle.c_graph.specs.declared.graph.Operation.TheVariants.{Draw}
use Rattle.c_terms.proofs.Choosing.{three}
use Rattle.code_moves.specs.Deeds.{Deed, Draws, AreDeeds}
use Rattle.code_moves.specs.Made as made
use Rattle.code_moves.specs.Moves.{draws_first}
use Rattle.code_moves.proofs.Doing.{kept, pushed, draw-fits}
use Rattle.code_moves.proofs.Standing.{room-wide}
use Rattle.code_moves.proofs.moves.draw_first.Goals as goal

pub loop-element-init : goal.loop-element-init
loop-element-init c = (λ model T ds r le d. kept T _ ds d, refl)

pub loop-element-preserved : goal.loop-element-preserved
loop-element-preserved c =
    let n = c.loop-element.element in
    let e : suc n ≡ n + 1 = omega arith in (
      λ model T ds r le d. (
          let before : List Deed = draws_first c.args.room c.args.kind n in
          let at : Deed = Draws (c.args.room.first + n) (is_signed c.args.kind) in
          subst (λ (xs : List Deed). AreDeeds T c.push.new.self.items xs) (append_assoc ds before (at ∷ []) ∙ ap (λ (k : ℕ). ds ++ draws_first c.args.room c.args.kind k) e)
          (pushed T _ _ (ds ++ before) _ at c.in_ok-push.ensures.items (c.loop-element.invariant.0 model T ds r le d)
          (c.in_ok-cell.ensures, c.is_signed.ensures, draw-fits T c.in_ok-cell.cell c.is_signed.result c.args.room.kind model (room-wide T.cells model c.args.room n _ r (omega (arith, le)) c.in_ok-cell.ensures)))
          ),
      c.in_ok-push.ensures.items ∙ three (λ (xs : List Operation) (cell : ℕ) (signed : Bool). xs ++ Draw cell signed ∷ []) c.loop-element.invariant.1 c.in_ok-cell.ensures c.is_signed.ensures
          ∙ ap (made.draw_first c.args.ops.now.items c.args.room c.args.kind) e,
    )

pub returns-clause-does : goal.returns-clause-does
returns-clause-does c = λ model T ds r le d.
    let e : c.loop-element.element ≡ c.args.count = omega arith in
    subst (λ (k : ℕ). AreDeeds T c.loop-element.ops.items (ds ++ draws_first c.args.room c.args.kind k)) e (c.loop-element.invariant.0 model T ds r le d)

pub returns-clause-made : goal.returns-clause-made
returns-clause-made c =
    let e : c.loop-element.element ≡ c.args.count = omega arith in
    c.loop-element.invariant.1 ∙ ap (made.draw_first c.args.ops.now.items c.args.room c.args.kind) e
