use Rattle.std.proofs.Common.{◌<◌, true, List, sym, ◌∙◌, subst}
use Rattle.std.specs.Prelude.{Option}
use Rattle.interpolants.specs.declared.items.Formula.{Formula}
use Rattle.interpolants.specs.Memos.{AllKnown}
use Rattle.interpolants.specs.Sources.{low_of}
use Rattle.interpolants.specs.Walks.{AreTrue, HasEntry}
use Rattle.interpolants.proofs.Walking.{behind-told, entry-grows, fresh-told, low-before, not-behind, ok-at, on-ok, set-known, set-true, true-stays}
use Rattle.interpolants.proofs.walk.operand.Goals as goal

pub returns-then-is_behind-clause-told : goal.returns-then-is_behind-clause-told
returns-then-is_behind-clause-told g c =
    λ store agree covered all kept.
    ok-at _ (g.A.Algebra.truth c.constant.new.self) store (λ s. true) _
    (sym (behind-told c.args.cut.now store c.args.number c.requires.exact (c.is_behind.ensures.0 c.if-is_behind.true))) c.constant.ensures.told

pub returns-then-is_behind-clause-truths : goal.returns-then-is_behind-clause-truths
returns-then-is_behind-clause-truths g c =
    λ store agree covered all kept.
    on-ok _ _
    (true-stays (g.A.Algebra.truth c.args.algebra.now) (g.A.Algebra.truth c.constant.new.self) c.args.cut.now store c.args.memo.now (g.A.Algebra.has c.args.algebra.now) all c.requires.known
    (λ f h. g.met.A.Algebra.truth_stays _ _ f store c.constant.ensures.keeps h))

pub returns-clause-known : goal.returns-clause-known
returns-clause-known g c =
    subst (AllKnown (g.A.Algebra.has c.fresh.new.algebra)) (sym c.set.ensures)
    (set-known (g.A.Algebra.has c.fresh.new.algebra) c.args.memo.now c.args.number c.in_ok-formula.formula
    (λ k f h. g.met.A.Algebra.stays _ _ f c.fresh.ensures.keeps (c.requires.known k f h)) c.in_ok-formula.ensures.made)

pub returns-clause-grows : goal.returns-clause-grows
returns-clause-grows g c =
    λ k h. subst (λ (memo : List (Option Formula)). HasEntry memo k) (sym c.set.ensures) (entry-grows c.args.memo.now c.args.number k c.in_ok-formula.formula h)

pub returns-clause-told : goal.returns-clause-told
returns-clause-told g c =
    let low : low_of c.args.cut.now.cone.now.clauses c.args.cut.now.cone.now.lows.items c.args.number < c.args.cut.now.edge =
    not-behind _ _ _ c.if-is_behind.false c.is_behind.ensures.1 in
    λ store agree covered all kept.
    c.in_ok-formula.ensures.told store agree covered (low-before c.args.cut.now c.args.number c.requires.exact low)
    ∙ fresh-told c.args.cut.now store c.args.memo.now c.args.number kept (λ e. c.in_default.ensures.none e.0 e.1) low

pub returns-clause-truths : goal.returns-clause-truths
returns-clause-truths g c =
    let low : low_of c.args.cut.now.cone.now.clauses c.args.cut.now.cone.now.lows.items c.args.number < c.args.cut.now.edge =
    not-behind _ _ _ c.if-is_behind.false c.is_behind.ensures.1 in
    λ store agree covered all kept.
    subst (AreTrue (g.A.Algebra.truth c.fresh.new.algebra) c.args.cut.now store) (sym c.set.ensures)
    (set-true (g.A.Algebra.truth c.args.algebra.now) (g.A.Algebra.truth c.fresh.new.algebra) c.args.cut.now store c.args.memo.now c.args.number c.in_ok-formula.formula
    (g.A.Algebra.has c.args.algebra.now) all c.requires.known (λ f h. g.met.A.Algebra.truth_stays _ _ f store c.fresh.ensures.keeps h)
    (c.in_ok-formula.ensures.told store agree covered (low-before c.args.cut.now c.args.number c.requires.exact low)
    ∙ fresh-told c.args.cut.now store c.args.memo.now c.args.number kept (λ e. c.in_default.ensures.none e.0 e.1) low))
