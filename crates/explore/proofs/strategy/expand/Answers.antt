use Rattle.std.proofs.Common.{◌≡◌, ◌∙◌, ap, refl, subst, sym}
use Rattle.cover_engine.specs.Unwindings.{Unwound}
use Rattle.cover_engine.specs.Units.{after_expand}
use Rattle.cover_engine.specs.Steering.{Steered}
use Rattle.explore.proofs.Rules.{expand-steered}
use Rattle.explore.proofs.Trying.{expanded-nodes, follows-stays}
use Rattle.explore.proofs.strategy.expand.Goals as goal

pub returns-clause-steered : goal.returns-clause-steered
returns-clause-steered c =
    let g = c.args.graph.now in
    let old = c.args.work.now.unwinding in
    let made : c.expanded.new.self ≡ after_expand g old c.args.leaf =
    c.in_ok-expanded.ensures.done ∙ ap (λ (u : Unwound). after_expand g u c.args.leaf) c.next_leaf.ensures.unchanged in
    subst (Steered g) (sym made) (expand-steered g old c.args.leaf c.requires.ready.legal c.requires.steered c.requires.highest c.requires.none)

pub returns-clause-follows : goal.returns-clause-follows
returns-clause-follows c =
    let g = c.args.graph.now in
    let old = c.args.work.now.unwinding in
    let made : c.expanded.new.self ≡ after_expand g old c.args.leaf =
    c.in_ok-expanded.ensures.done ∙ ap (λ (u : Unwound). after_expand g u c.args.leaf) c.next_leaf.ensures.unchanged in
    follows-stays g old.vertices c.expanded.new.self.vertices c.args.work.now.beside c.args.work.now.beside
    (expanded-nodes g old c.expanded.new.self c.args.leaf c.requires.there made) refl c.requires.follows
