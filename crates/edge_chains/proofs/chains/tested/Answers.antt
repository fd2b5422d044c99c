use Rattle.std.proofs.Common.{rules, ◌≡◌, false, refl}
use Rattle.edge_chains.specs.Links.{AreClear, AreKept, flag_at}
use Rattle.edge_chains.proofs.Following.{joined_is, weaken, weaken_some}
use Rattle.edge_chains.proofs.chains.tested.Goals as goal

pub returns-clause-joined : goal.returns-clause-joined
returns-clause-joined c =
    let entry : flag_at c.args.inner.now c.args.entry.0 ≡ false = search rules in
    let kept : AreKept c.args.nodes.now c.args.inner.now = c.if-not-are_kept.ensures.kept refl in
    let clear : AreClear c.args.inner.now c.args.loops.now = c.if-not-are_clear.ensures.clear refl in
    weaken c.followed_all.result _ _
    (λ o. weaken_some o _ _ (λ r j. joined_is c.args.nodes.now c.args.loops.now c.args.entry c.args.edges.now c.args.inner.now r.items entry clear kept j))
    c.followed_all.ensures.joined
