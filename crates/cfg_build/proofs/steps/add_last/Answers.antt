use Rattle.std.proofs.Common.{sym, ap, ◌∙◌, ◌∷◌, [], ◌++◌, List, subst}
use Rattle.c_graph.specs.declared.graph.Operation.{Operation}
use Rattle.code_moves.specs.Setting.{setting_of, site_of}
use Rattle.code_moves.specs.Deeds.{AreDeeds}
use Rattle.cfg_build.specs.Steps.{edge}
use Rattle.cfg_build.proofs.Adding.{edges-equal}
use Rattle.cfg_build.proofs.Drawing.{last-drawn}
use Rattle.cfg_build.proofs.steps.add_last.Goals as goal

pub returns-clause-goes : goal.returns-clause-goes
returns-clause-goes c = λ h.
    let m = c.in_ok-moves.ensures.does [] h (subst (λ (xs : List Operation). AreDeeds c.args.words.now.terms xs []) (sym c.new-moves.ensures.items) tt) in (
      m.grows,
      record {
        ops = c.moves.new.ops.items;
        does = m.does;
        adds = edges-equal _ _ _ _ _ (ap (λ (ops : List Operation). edge c.args.from c.args.next ops ∷ []) (c.in_ok-extend_from_slice.ensures.items ∙ ap (λ (ops : List Operation). c.args.first.items ++ ops) c.deref.ensures.value)) c.in_ok-edge.ensures;
      },
    )

pub returns-clause-made : goal.returns-clause-made
returns-clause-made c =
    last-drawn (site_of (setting_of c.args.ground.now)) c.args.words.now _ _ _ c.args.instruction _ _ c.args.first.items _ _ _ c.new-moves.ensures.items c.in_ok-moves.ensures.made
    (c.in_ok-extend_from_slice.ensures.items ∙ ap (λ (ops : List Operation). c.args.first.items ++ ops) c.deref.ensures.value) c.in_ok-edge.ensures
