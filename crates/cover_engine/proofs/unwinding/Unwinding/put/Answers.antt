use Rattle.std.proofs.Common.{List, sym, subst}
use Rattle.reach_tree.specs.declared.vertex.Vertex.{Vertex}
use Rattle.cover_engine.specs.Keeping.{IsKept}
use Rattle.cover_engine.specs.Openings.{AreWaiting}
use Rattle.cover_engine.proofs.Waits.{put_or_same, waiting_put}
use Rattle.cover_engine.proofs.unwinding.Unwinding.put.Goals as goal

pub invariant_of-self : goal.invariant_of-self
invariant_of-self c = (
  subst (λ (vs : List Vertex). IsKept vs c.self.inside.pairs c.self.inside.journal.items c.self.inside.apart.items c.self.inside.covers.items c.self.inside.refines c.self.inside.settled) (sym c.put.ensures.vertices) c.self.invariant.0,
  subst (λ (vs : List Vertex). AreWaiting vs c.put.new.self.terms c.self.inside.covers.items c.self.inside.ends.items c.self.inside.waiting) (sym c.put.ensures.vertices)
      (waiting_put c.self.inside.tree.vertices c.self.inside.tree.terms c.put.new.self.terms c.self.inside.covers.items c.self.inside.ends.items c.self.inside.waiting c.args.term
      (put_or_same c.put.result c.self.inside.tree c.put.new.self c.args.term c.put.ensures.put c.put.ensures.unchanged) c.self.invariant.1),
)
