use Rattle.std.proofs.Common.{◌≡◌, ◌∙◌, ℕ, false, sym, rules}
use Rattle.cover_engine.specs.Openings.{waits}
use Rattle.cover_engine.proofs.Waits.{highest_known, none_open_waits}
use Rattle.cover_engine.proofs.waiting.highest_waiting.Goals as goal

pub returns-then-opens_at-clause-found : goal.returns-then-opens_at-clause-found
returns-then-opens_at-clause-found c =
    highest_known c.args.nodes.now c.args.tree.now.terms c.args.tree.now.vertices c.args.covers.now c.loop-number.ends_known.items c.loop-number.waiting c.in-Some.number c.loop-number.invariant.0 c.loop-number.invariant.1
    (sym c.opens_at.ensures ∙ c.if-opens_at.true) c.in-Some.ensures.highest

pub returns-clause-found : goal.returns-clause-found
returns-clause-found c =
    let none : (k : ℕ) → waits c.loop-number.waiting k ≡ false = search rules in
    none_open_waits c.args.nodes.now c.args.tree.now.terms c.args.tree.now.vertices c.args.covers.now c.loop-number.ends_known.items c.loop-number.waiting c.loop-number.invariant.0 c.loop-number.invariant.1 none
