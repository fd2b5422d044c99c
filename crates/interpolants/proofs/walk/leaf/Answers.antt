use Rattle.std.proofs.Common.{rules}
use Rattle.std.proofs.lemmas.Option.{slice_get-get_or}
use Rattle.interpolants.proofs.Walking.{leaf-step}
use Rattle.interpolants.proofs.walk.leaf.Goals as goal

pub loop-lit-preserved : goal.loop-lit-preserved
loop-lit-preserved g c = record {
  keeps = g.met.A.Algebra.again _ _ _ c.loop-lit.invariant.keeps c.add_behind.ensures.keeps;
  made = c.in_ok-so_far-2.ensures.made;
  told = λ store agree all.
      leaf-step c.args.cut.now store c.args.clause.now c.loop-lit.lit-index _ _ _ _ all (c.in_ok-so_far-2.ensures.told store agree)
      (slice_get-get_or c.args.clause.now c.loop-lit.lit-index _ (search rules)) (c.loop-lit.invariant.told store agree all);
}
