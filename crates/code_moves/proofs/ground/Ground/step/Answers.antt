use Rattle.std.proofs.Common.{[], ℕ, List, ap, ◌∙◌}
use Rattle.c_terms.proofs.Putting.{grows-twice, later}
use Rattle.code_moves.proofs.Standing.{stand-later}
use Rattle.code_moves.proofs.Doing.{deeds-later, then-does}
use Rattle.c_terms.proofs.Choosing.{two}
use Rattle.c_terms.specs.declared.words.Words.{Words}
use Rattle.bv_term.specs.declared.term.TermId.{TermId}
use Rattle.code_moves.specs.Setting.{setting_of, site_of}
use Rattle.code_moves.proofs.Making.{so}
use Rattle.code_moves.specs.Made as made
use Rattle.code_moves.proofs.ground.Ground.step.Goals as goal

pub returns-clause-does : goal.returns-clause-does
returns-clause-does c = λ ds h d.
    let z = λ (s : List ℕ). c.in_ok-index.ensures.shows s h in
    let n = λ (s : List ℕ). c.in_ok-old.ensures.shows s _ (stand-later _ _ _ (z []).grows h) (z s).shows in
    let m = λ (s : List ℕ). c.in_ok-new.ensures.shows s _ (n s).shows in
    let k = grows-twice _ _ _ (n []).grows (m []).grows in
    let g = grows-twice _ _ _ (z []).grows k in
    then-does _ _ _ _ _ _ g (c.write.ensures.does ds _ _ (stand-later _ _ _ g h) (deeds-later _ _ _ ds g d) (λ s. later _ _ s _ _ _ k (z s).shows) (λ s. (m s).shows))

pub returns-clause-made : goal.returns-clause-made
returns-clause-made c =
    let g = site_of (setting_of c.args.self.now) in
    let e = c.in_ok-index.ensures.made in
    let f = c.in_ok-old.ensures.made ∙ ap (λ (p : Words × TermId). made.element g p.0 c.args.object p.1) e in
    let h = c.in_ok-new.ensures.made ∙ ap (λ (p : Words × TermId). made.stepped g p.0 c.args.by c.args.kind p.1) f in
    so _ _ _ _ c.write.ensures.made (two (λ (p q : Words × TermId). made.write g q.0 c.args.ops.now.items c.args.object p.1 q.1) e h)
