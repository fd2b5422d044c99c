use Rattle.std.proofs.Common.{◌∙◌, ap, sym, false}
use Rattle.cover_engine.specs.Unwindings.{Unwound, yes_since}
use Rattle.cover_engine.proofs.LastSettled.{covered_known}
use Rattle.cover_engine.proofs.unwinding.Unwinding.stands_covered.Goals as goal

pub returns : goal.returns
returns c =
    c.covered_since.ensures
    ∙ covered_known c.self.inside.tree.vertices c.self.inside.journal.items c.self.inside.apart.items c.self.inside.refines c.self.inside.settled c.args.v c.args.w c.copied.result c.of.result
    c.self.invariant.0.settlings c.of.ensures (sym c.get.ensures.value ∙ sym c.copied.ensures)
    ∙ ap (λ (u : Unwound). yes_since false u.journal c.args.v c.args.w) c.self.view_is
