use Rattle.std.proofs.Common.{◌≡◌, ◌∙◌, sym, subst, List, ℕ, false}
use Rattle.cover_engine.specs.Caches.{below, lead_onto}
use Rattle.cover_engine.proofs.Onto.{none_under}
use Rattle.cover_engine.proofs.pairs.Pairs.fallen_under.Goals as goal

pub returns-then-not-lead_onto : goal.returns-then-not-lead_onto
returns-then-not-lead_onto c =
    let none : lead_onto c.args.self.now (below c.args.vertices.now c.args.v.0) ≡ false = subst (λ (xs : List ℕ). lead_onto c.args.self.now xs ≡ false) c.requires.under (sym c.lead_onto.ensures ∙ c.if-not-lead_onto.true) in
    c.new.ensures.items ∙ sym (none_under c.args.vertices.now c.args.v c.requires.family c.requires.vertex c.args.self.now c.requires.inside none)
