use Rattle.std.proofs.Common.{ap, ◌∙◌, pos}
use Rattle.lv_base.specs.declared.kind.Kind.{Kind}
use Rattle.lv_base.specs.Integers.{residue}
use Rattle.c_tree.specs.declared.symbol.BinaryOp.{BinaryOp}
use Rattle.c_terms.specs.Numbers.{converted}
use Rattle.c_terms.proofs.Putting.{grows-twice, later, after, equals}
use Rattle.code_moves.specs.Values.{applied, operation_of}
use Rattle.code_moves.proofs.Making.{four}
use Rattle.c_terms.specs.declared.words.Words.{Words}
use Rattle.bv_term.specs.declared.term.TermId.{TermId}
use Rattle.code_moves.specs.Setting.{setting_of, site_of}
use Rattle.c_terms.proofs.Choosing.{thus}
use Rattle.code_moves.specs.Made as made
use Rattle.c_terms.specs.Made as term
use Rattle.code_moves.proofs.ground.Ground.stepped.Goals as goal

pub returns-clause-shows : goal.returns-clause-shows
returns-clause-shows c = λ s a h.
    let m = c.args.self.now.model in
    let wide = c.promoted-wide.result in
    let z = c.in_ok-left.ensures.shows s a h in
    let n = c.in_ok-right.ensures.shows s in
    let v = c.in_ok-value.ensures.shows s _ _ (later _ _ s _ _ _ n.grows z.shows) n.shows in
    equals _ _ _ s 64 _ _ (
    ap (λ (o : BinaryOp). converted c.args.kind m (applied o wide m (converted wide m a) (residue 64 (pos 1)))) c.operation_of.ensures
    ∙ ap (λ (k : Kind). converted c.args.kind m (applied (operation_of c.args.by) k m (converted k m a) (residue 64 (pos 1)))) c.promoted-wide.ensures
    )
    (after _ _ _ _ s 64 _ (grows-twice _ _ _ (grows-twice _ _ _ z.grows n.grows) v.grows) (c.converted-2.ensures.shows s _ v.shows))

pub returns-clause-made : goal.returns-clause-made
returns-clause-made c =
    let g = site_of (setting_of c.args.self.now) in
    let e = c.in_ok-left.ensures.made ∙ ap (λ (k : Kind). term.converted c.args.words.now k g.model c.args.old) c.promoted-wide.ensures in
    let f = c.in_ok-right.ensures.made ∙ ap (λ (p : Words × TermId). term.constant p.0 (pos 1)) e in
    let h = c.in_ok-value.ensures.made ∙ four (λ (o : BinaryOp) (k : Kind) (p q : Words × TermId). made.applied g q.0 o k p.1 q.1) c.operation_of.ensures c.promoted-wide.ensures e f in
    thus _ _ _ _ c.converted-2.ensures.made (ap (λ (p : Words × TermId). term.converted p.0 c.args.kind g.model p.1) h)
