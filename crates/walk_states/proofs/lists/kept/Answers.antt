use Rattle.std.proofs.Common.{Some, ap, eq-eqb, sym}
use Rattle.std.proofs.lemmas.Bool.{ne_eqb}
use Rattle.walk_states.proofs.Following.{kept-on, kept-out}
use Rattle.walk_states.proofs.lists.kept.Goals as goal

pub returns-then-place-node-clause-means : goal.returns-then-place-node-clause-means
returns-then-place-node-clause-means c = kept-out c.args.all.items c.args.place c.args.node (eq-eqb c.args.place.node c.args.node c.if-place-node.true)

pub returns-clause-means : goal.returns-clause-means
returns-clause-means c =
    kept-on c.args.all.items c.push.new.self.items c.args.place c.args.node (ne_eqb c.args.place.node c.args.node c.if-place-node.false)
    c.in_ok-push.ensures.items

pub returns-clause-made : goal.returns-clause-made
returns-clause-made c =
    ap Some
    (sym
    (kept-on c.args.all.items c.push.new.self.items c.args.place c.args.node (ne_eqb c.args.place.node c.args.node c.if-place-node.false)
    c.in_ok-push.ensures.items))
