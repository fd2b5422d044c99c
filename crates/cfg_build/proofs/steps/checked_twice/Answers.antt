use Rattle.std.proofs.Common.{refl, ap, ◌∙◌, ◌∷◌, [], ◌++◌, List}
use Rattle.c_graph.specs.declared.graph.Operation.{Operation}
use Rattle.c_graph.specs.declared.graph.Operation.TheVariants.{Assume}
use Rattle.c_terms.proofs.Putting.{grows-twice}
use Rattle.code_moves.specs.Setting.{setting_of, site_of}
use Rattle.code_moves.proofs.Standing.{stand-later}
use Rattle.code_moves.proofs.Doing.{tells-later}
use Rattle.cfg_build.proofs.Adding.{turned-later, twice}
use Rattle.cfg_build.proofs.Drawing.{twice-drawn}
use Rattle.cfg_build.proofs.steps.checked_twice.Goals as goal

pub returns-clause-built : goal.returns-clause-built
returns-clause-built c = λ f1 f2 h t1 t2.
    let k = c.in_ok-passed.ensures.passes f1 t1 in
    let m = c.in_ok-last.ensures.passes f2 (tells-later _ _ _ 1 f2 k.0 t2) in
    let km = grows-twice _ _ _ k.0 m.0 in
    let l = c.in_ok-add_last.ensures.goes (stand-later _ _ _ km h) in (
      grows-twice _ _ _ km l.0,
      record {
        nodes = _;
        edges = _;
        adds = twice _ _ _ _ _ _ _ _ _ _ _ _ c.in_ok-passed.passed c.in_ok-last.last _ _ _ _ _ l.1.ops c.in_ok-from.ensures.number c.in_ok-between.ensures.number c.offset_of-at.ensures
            (c.in_ok-push.ensures.items ∙ ap (λ (xs : List Operation). xs ++ Assume c.in_ok-last.last ∷ []) c.new-ops.ensures.items)
            c.in_ok-from.ensures.adds c.in_ok-passed.ensures.adds c.in_ok-between.ensures.adds c.in_ok-edge_if.ensures c.in_ok-last.ensures.adds l.1.adds;
        form = record {
          passed = c.in_ok-passed.passed;
          last = c.in_ok-last.last;
          ops = l.1.ops;
          passes = (
            turned-later _ _ _ _ f1 (grows-twice _ _ _ m.0 l.0) (tells-later _ _ _ 1 f1 k.0 t1) k.1,
            turned-later _ _ _ _ f2 l.0 (tells-later _ _ _ 1 f2 km t2) m.1,
          );
          does = l.1.does;
          nodes_are = refl;
          edges_are = refl;
        };
      },
    )

pub returns-clause-made : goal.returns-clause-made
returns-clause-made c =
    twice-drawn (site_of (setting_of c.args.ground.now)) c.args.words.now c.add_check.new.words c.add_check-2.new.words _ c.args.draft.now c.node.new.self c.add_check.new.draft c.node-2.new.self c.edge_if.new.self c.add_check-2.new.draft c.add_last.new.draft
    c.args.instruction c.in_ok-from.from c.in_ok-between.between c.args.next c.args.first c.args.second _ c.in_ok-passed.passed c.in_ok-last.last _ _
    c.in_ok-from.ensures.number c.in_ok-between.ensures.number c.offset_of-at.ensures c.new-ops.ensures.items c.in_ok-push.ensures.items
    c.in_ok-from.ensures.adds c.in_ok-passed.ensures.made c.in_ok-between.ensures.adds c.in_ok-edge_if.ensures c.in_ok-last.ensures.made c.in_ok-add_last.ensures.made
