use Rattle.std.proofs.Common.{◌≡◌, ℕ, suc, ◌+◌, List, ap, ◌∙◌, subst, arith}
use Rattle.c_graph.specs.declared.graph.Operation.{Operation}
use Rattle.c_terms.specs.declared.words.Words.{Words}
use Rattle.c_terms.proofs.Putting.{grows-twice}
use Rattle.code_moves.specs.Setting.{setting_of}
use Rattle.code_moves.specs.Deeds.{AreDeeds}
use Rattle.code_moves.proofs.Standing.{stand-later}
use Rattle.cfg_build.specs.Graphs.{opens}
use Rattle.cfg_build.specs.Openings as made
use Rattle.cfg_build.proofs.opening.opening.Goals as goal

pub loop-number-preserved : goal.loop-number-preserved
loop-number-preserved c =
    let g = setting_of c.args.ground.now in
    let n = c.loop-number.number in
    let e : suc n ≡ n + 1 = omega arith in (
      λ h. (
          let b = c.loop-number.invariant.0 h in
          let z = c.in_ok-open_object.ensures.does (opens g n) (stand-later _ _ _ b.grows h) b.does in
          record {
            grows = grows-twice _ _ _ b.grows z.grows;
            does = subst (λ (k : ℕ). AreDeeds c.open_object.new.words.terms c.open_object.new.ops.items (opens g k)) e z.does;
          }
          ),
      c.in_ok-open_object.ensures.made ∙ ap (λ (p : Words × List Operation). made.open_object g p.0 p.1 n) c.loop-number.invariant.1 ∙ ap (made.open_objects g c.args.words.now) e,
    )
