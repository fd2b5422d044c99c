use Rattle.std.proofs.Common.{List, sym, subst}
use Rattle.reach_tree.specs.declared.vertex.Vertex.{Vertex}
use Rattle.cover_engine.specs.Keeping.{IsKept}
use Rattle.cover_engine.specs.Openings.{AreWaiting}
use Rattle.cover_engine.proofs.Waits.{waiting_stays}
use Rattle.cover_engine.proofs.unwinding.Unwinding.take_terms.Goals as goal

pub invariant_of-self : goal.invariant_of-self
invariant_of-self c = (
  subst (λ (vs : List Vertex). IsKept vs c.self.inside.pairs c.self.inside.journal.items c.self.inside.apart.items c.self.inside.covers.items c.self.inside.refines c.self.inside.settled) (sym c.take_terms.ensures.vertices) c.self.invariant.0,
  subst (λ (vs : List Vertex). AreWaiting vs c.take_terms.new.self.terms c.self.inside.covers.items c.self.inside.ends.items c.self.inside.waiting) (sym c.take_terms.ensures.vertices)
      (waiting_stays c.self.inside.tree.vertices c.self.inside.tree.terms c.take_terms.new.self.terms c.self.inside.covers.items c.self.inside.ends.items c.self.inside.waiting c.take_terms.ensures.extends c.self.invariant.1),
)
