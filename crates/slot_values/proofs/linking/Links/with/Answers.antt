use Rattle.std.proofs.Common.{ap, ◌∙◌, ◌∷◌, refl}
use Rattle.slot_values.specs.Linked.{link_of, links_of}
use Rattle.slot_values.proofs.Rows.{links_push, indexed_more}
use Rattle.slot_values.proofs.linking.Links.with.Goals as goal

pub invariant_of-result : goal.invariant_of-result
invariant_of-result c =
    indexed_more c.self.inside.newest.items c.reach.new.newest.items _ c.self.inside.all.items c.push.new.self.items c.args.link c.self.invariant c.in_ok-reach.ensures.same c.in_ok-reach.ensures.there refl c.in_ok-push.ensures.items

pub returns : goal.returns
returns c = ap links_of c.in_ok-push.ensures.items ∙ links_push c.self.inside.all.items c.args.link ∙ ap (λ ls. link_of c.args.link ∷ ls) c.self.view_is
