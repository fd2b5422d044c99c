use Rattle.std.proofs.Common.{◌∙◌, ◌<◌, ap, sym, subst, length, arith}
use Rattle.std.proofs.lemmas.Grind.{get_or_default_zero}
use Rattle.cover_engine.specs.Unwindings.{Unwound, is_covered}
use Rattle.cover_engine.proofs.Counting.{covers_say}
use Rattle.cover_engine.proofs.unwinding.Unwinding.covered.Goals as goal

pub returns : goal.returns
returns c =
    let lt : c.args.v.0 < length c.self.inside.tree.vertices = subst (λ (u : Unwound). c.args.v.0 < length u.vertices) (sym c.self.view_is) c.requires in
    covers_say c.self.inside.tree.vertices c.self.inside.pairs c.args.v.0 c.index.result.now
    (c.index.ensures ∙ get_or_default_zero c.self.inside.covers.items c.args.v.0 c.index.result.now (omega (arith, lt, c.self.invariant.0.counts_are.sized)) ∙ c.self.invariant.0.counts_are.counted c.args.v.0 lt)
    ∙ ap (λ (u : Unwound). is_covered u c.args.v) c.self.view_is
