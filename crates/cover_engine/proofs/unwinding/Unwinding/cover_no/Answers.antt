use Rattle.std.proofs.Common.{◌∙◌, ap, List, rules, arith}
use Rattle.std.proofs.lemmas.Grind.{common_steps}
use Rattle.reach_tree.specs.declared.vertex.Vertex.{Vertex}
use Rattle.cover_engine.specs.declared.unit.UnitDone.TheVariants.{CoverNo}
use Rattle.cover_engine.specs.Units.{apart_now}
use Rattle.cover_engine.proofs.Kept.{kept_parted, kept_undone, noted_apart}
use Rattle.cover_engine.proofs.UnitLemmas.{legal-after}
use Rattle.cover_engine.proofs.unwinding.Unwinding.cover_no.Goals as goal

pub invariant_of-self-in-Ok : goal.invariant_of-self-in-Ok
invariant_of-self-in-Ok c = (
  kept_parted c.self.inside.tree.vertices c.self.inside.pairs c.self.inside.journal.items c.note.new.journal.items c.self.inside.apart.items c.push.new.self.items c.self.inside.covers.items
      c.self.inside.refines c.self.inside.settled c.note.new.settled c.args.v c.args.w c.args.store c.entry_of-entry.result
      c.self.invariant.0 (omega arith) c.in-Ok.ensures.journal c.in_ok-push.ensures.items
      (c.entry_of-entry.ensures ∙ ap (λ (vs : List Vertex). apart_now vs c.args.v c.args.w) c.vertices.ensures.value)
      (noted_apart c.self.inside.settled c.note.new.settled c.args.v c.args.w c.of-sides.result c.apart_with-settling.result c.copied.result c.entry_of-entry.result c.of-sides.ensures (c.copied.ensures ∙ c.get.ensures.value) c.apart_with-settling.ensures c.in-Ok.ensures.settled),
  c.self.invariant.1,
)

pub invariant_of-self-in-Err : goal.invariant_of-self-in-Err
invariant_of-self-in-Err c = (
  kept_undone c.self.inside.tree.vertices c.self.inside.pairs c.self.inside.journal.items c.note.new.journal.items c.self.inside.apart.items c.pop.new.self.items c.self.inside.covers.items
      c.self.inside.refines c.self.inside.settled c.note.new.settled c.in-Err.ensures.same_journal (first_of (search rules, grind (arith, common_steps))) c.in-Err.ensures.same_settled c.self.invariant.0,
  c.self.invariant.1,
)

pub returns-in-Ok-clause-legal : goal.returns-in-Ok-clause-legal
returns-in-Ok-clause-legal c =
    λ h can. legal-after c.args.graph.now c.args.self.now _ (CoverNo c.args.v c.args.w c.args.store) h can (first_of (search rules, grind (arith, common_steps)))
