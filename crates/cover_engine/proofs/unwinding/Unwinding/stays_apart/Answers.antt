use Rattle.std.proofs.Common.{◌∙◌, ap, sym, List}
use Rattle.reach_tree.specs.declared.vertex.Vertex.{Vertex}
use Rattle.cover_engine.specs.Units.{apart_now}
use Rattle.cover_engine.specs.Unwindings.{Unwound, stays_apart}
use Rattle.cover_engine.proofs.LastSettled.{stays_known}
use Rattle.cover_engine.proofs.unwinding.Unwinding.stays_apart.Goals as goal

pub returns : goal.returns
returns c =
    c.apart_since.ensures
    ∙ stays_known c.self.inside.tree.vertices c.self.inside.journal.items c.self.inside.apart.items c.self.inside.refines c.self.inside.settled c.args.v c.args.w c.copied-known.result c.of.result c.entry_of-entry.result
    c.self.invariant.0.settlings c.of.ensures (sym c.get.ensures.value ∙ sym c.copied-known.ensures) (c.entry_of-entry.ensures ∙ ap (λ (vs : List Vertex). apart_now vs c.args.v c.args.w) c.vertices.ensures.value)
    ∙ ap (λ (u : Unwound). stays_apart u.apart u.vertices c.args.v c.args.w) c.self.view_is
