use Rattle.std.proofs.Common.{refl, ap, ◌∙◌, ◌∷◌, [], ◌++◌, List}
use Rattle.c_graph.specs.declared.graph.Operation.{Operation}
use Rattle.c_graph.specs.declared.graph.Operation.TheVariants.{Assume}
use Rattle.c_terms.proofs.Putting.{grows-twice}
use Rattle.code_moves.specs.Setting.{setting_of, site_of}
use Rattle.code_moves.proofs.Standing.{stand-later}
use Rattle.code_moves.proofs.Doing.{tells-later}
use Rattle.cfg_build.proofs.Adding.{turned-later, once}
use Rattle.cfg_build.proofs.Drawing.{once-drawn}
use Rattle.cfg_build.proofs.steps.checked_once.Goals as goal

pub returns-clause-built : goal.returns-clause-built
returns-clause-built c = λ f h t.
    let k = c.in_ok-passed.ensures.passes f t in
    let l = c.in_ok-add_last.ensures.goes (stand-later _ _ _ k.0 h) in (
      grows-twice _ _ _ k.0 l.0,
      record {
        nodes = _;
        edges = _;
        adds = once _ _ _ _ _ _ _ c.in_ok-passed.passed _ _ _ _ l.1.ops c.in_ok-from.ensures.number c.offset_of.ensures
            (c.in_ok-push.ensures.items ∙ ap (λ (xs : List Operation). xs ++ Assume c.in_ok-passed.passed ∷ []) c.new-ops.ensures.items)
            c.in_ok-from.ensures.adds c.in_ok-passed.ensures.adds l.1.adds;
        form = record {
          passed = c.in_ok-passed.passed;
          last = c.in_ok-passed.passed;
          ops = l.1.ops;
          passes = turned-later _ _ _ _ f l.0 (tells-later _ _ _ 1 f k.0 t) k.1;
          does = l.1.does;
          nodes_are = refl;
          edges_are = refl;
        };
      },
    )

pub returns-clause-made : goal.returns-clause-made
returns-clause-made c =
    once-drawn (site_of (setting_of c.args.ground.now)) c.args.words.now c.add_check.new.words _ c.args.draft.now c.node.new.self c.add_check.new.draft c.add_last.new.draft c.args.instruction c.in_ok-from.from c.args.next c.args.fails _ c.in_ok-passed.passed _ _ c.in_ok-from.ensures.number c.offset_of.ensures c.new-ops.ensures.items c.in_ok-push.ensures.items
    c.in_ok-from.ensures.adds c.in_ok-passed.ensures.made c.in_ok-add_last.ensures.made
