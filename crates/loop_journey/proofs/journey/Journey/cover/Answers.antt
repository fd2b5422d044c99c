use Rattle.std.proofs.Common.{◌≡◌, ◌∙◌, ◌&&◌, List, ap, sym, subst, length, arith, not}
use Rattle.std.specs.Prelude.{All, Contains}
use Rattle.std.proofs.lemmas.Bool.{and_parts}
use Rattle.reach_tree.specs.declared.vertex.Vertex.{Vertex}
use Rattle.reach_tree.specs.Trees.{vertex_at}
use Rattle.cover_engine.specs.Unwindings.{Unwound, may_pair, stays_apart}
use Rattle.cover_engine.specs.Units.{CanCover}
use Rattle.loop_journey.specs.Loop.{vertex}
use Rattle.loop_journey.proofs.Labels.{subset_meets}
use Rattle.loop_journey.proofs.journey.Journey.cover.Goals as goal

pub invariant_of-self-2 : goal.invariant_of-self-2
invariant_of-self-2 c =
    let settles = sym c.may_settle.ensures ∙ c.if-not-may_settle.false in
    let all : All (Contains (vertex_at c.self.inside.unwinding.vertices c.args.v).label) (vertex_at c.self.inside.unwinding.vertices c.args.w).label =
    subst (λ (vs : List Vertex). All (Contains (vertex_at vs c.args.v).label) (vertex_at vs c.args.w).label) c.vertices.ensures.value (c.has_label_of.ensures c.if-not-has_label_of.false) in
    let can : CanCover c.self.inside.graph c.self.inside.unwinding (vertex c.args.v) (vertex c.args.w) = record {
      left = omega (arith, c.if-v-count.false, ap length c.vertices-count.ensures.value);
      right = omega (arith, c.if-w-count.false, ap length c.vertices-count.ensures.value);
      pair = (and_parts (may_pair c.self.inside.unwinding (vertex c.args.v) (vertex c.args.w)) (not (stays_apart c.self.inside.unwinding.apart c.self.inside.unwinding.vertices (vertex c.args.v) (vertex c.args.w))) settles).0;
      implies = λ store whole. subset_meets c.self.inside.unwinding.terms store (vertex_at c.self.inside.unwinding.vertices c.args.v).label (vertex_at c.self.inside.unwinding.vertices c.args.w).label all;
    } in
    record {
      graph = c.self.invariant.graph;
      terms = ap (λ (u : Unwound). u.terms) c.in_ok-cover_yes.ensures.done ∙ c.self.invariant.terms;
      legal = c.cover_yes.ensures.legal c.self.invariant.legal can;
    }
