use Rattle.std.proofs.Common.{ap, sym, ◌∙◌, pos, Ok, []}
use Rattle.lv_base.specs.declared.kind.Kind.{Kind}
use Rattle.lv_base.specs.Integers.{residue}
use Rattle.c_tree.specs.declared.symbol.BinaryOp.{BinaryOp}
use Rattle.c_terms.specs.declared.failing.Tests.TheVariants.{None}
use Rattle.c_terms.specs.Numbers.{converted}
use Rattle.c_terms.proofs.Putting.{grows-twice, later}
use Rattle.c_terms.proofs.Finding.{found-never}
use Rattle.code_moves.specs.Values.{tested, operation_of}
use Rattle.code_moves.proofs.Standing.{finds-after, finds-equal, without, within}
use Rattle.code_moves.proofs.Making.{four}
use Rattle.c_terms.specs.declared.words.Words.{Words}
use Rattle.bv_term.specs.declared.term.TermId.{TermId}
use Rattle.c_terms.proofs.Choosing.{fails, holds, thus}
use Rattle.code_moves.specs.Setting.{setting_of, site_of}
use Rattle.code_moves.specs.Made as made
use Rattle.c_terms.specs.Made as term
use Rattle.code_moves.proofs.ground.Ground.step_tested.Goals as goal

pub returns-then-not-is_promoted-clause-shows : goal.returns-then-not-is_promoted-clause-shows
returns-then-not-is_promoted-clause-shows c = λ s a h. finds-equal (Ok None) c.args.words.now c.args.words.now s [] _ (without _ _ (sym c.is_promoted.ensures ∙ c.if-not-is_promoted.true)) (found-never c.args.words.now s)

pub returns-clause-shows : goal.returns-clause-shows
returns-clause-shows c = λ s a h.
    let m = c.args.self.now.model in
    let wide = c.promoted-wide.result in
    let z = c.in_ok-left.ensures.shows s a h in
    let n = c.in_ok-right.ensures.shows s in
    finds-equal _ _ _ s _ _ (
    ap (λ (o : BinaryOp). tested o wide m (converted wide m a) (residue 64 (pos 1))) c.operation_of.ensures
    ∙ ap (λ (k : Kind). tested (operation_of c.args.by) k m (converted k m a) (residue 64 (pos 1))) c.promoted-wide.ensures
    ∙ within _ _ (sym c.is_promoted.ensures ∙ c.if-not-is_promoted.false)
    )
    (finds-after _ _ _ _ s _ (grows-twice _ _ _ z.grows n.grows) (c.tested.ensures.shows s _ _ (later _ _ s _ _ _ n.grows z.shows) n.shows))

pub returns-then-not-is_promoted-clause-made : goal.returns-then-not-is_promoted-clause-made
returns-then-not-is_promoted-clause-made c = fails _ _ _ (sym c.is_promoted.ensures ∙ c.if-not-is_promoted.true)

pub returns-clause-made : goal.returns-clause-made
returns-clause-made c =
    let g = site_of (setting_of c.args.self.now) in
    let e = c.in_ok-left.ensures.made ∙ ap (λ (k : Kind). term.converted c.args.words.now k g.model c.args.old) c.promoted-wide.ensures in
    let f = c.in_ok-right.ensures.made ∙ ap (λ (p : Words × TermId). term.constant p.0 (pos 1)) e in
    let h = four (λ (o : BinaryOp) (k : Kind) (p q : Words × TermId). made.tested g q.0 o k p.1 q.1) c.operation_of.ensures c.promoted-wide.ensures e f in
    thus _ _ _ _ c.tested.ensures.made (h ∙ holds _ _ _ (sym c.is_promoted.ensures ∙ c.if-not-is_promoted.false))
