use Rattle.std.proofs.Common.{[], ℕ, List, ap, ◌∙◌}
use Rattle.c_terms.proofs.Putting.{grows-twice}
use Rattle.code_moves.proofs.Standing.{stand-later}
use Rattle.code_moves.proofs.Doing.{deeds-later, filled}
use Rattle.c_terms.specs.declared.words.Words.{Words}
use Rattle.bv_term.specs.declared.term.TermId.{TermId}
use Rattle.code_moves.specs.Setting.{setting_of, site_of}
use Rattle.code_moves.proofs.Making.{then-filled}
use Rattle.c_terms.specs.Made as term
use Rattle.code_moves.proofs.ground.Ground.not.Goals as goal

pub returns-clause-does : goal.returns-clause-does
returns-clause-does c = λ ds h d.
    let z = λ (s : List ℕ). c.in_ok-operand.ensures.shows s h in
    let n = λ (s : List ℕ). c.in_ok-zero.ensures.shows s _ (z s).shows in
    let m = λ (s : List ℕ). c.in_ok-value.ensures.shows s _ (n s).shows in
    let g = grows-twice _ _ _ (grows-twice _ _ _ (z []).grows (n []).grows) (m []).grows in
    filled _ _ _ _ _ g (c.fill.ensures.does _ ds _ (stand-later _ _ _ g h) (deeds-later _ _ _ ds g d) (λ s. (m s).shows))

pub returns-clause-made : goal.returns-clause-made
returns-clause-made c =
    let e = c.in_ok-zero.ensures.made ∙ ap (λ (p : Words × TermId). term.is_zero p.0 p.1) c.in_ok-operand.ensures.made in
    let f = c.in_ok-value.ensures.made ∙ ap (λ (p : Words × TermId). term.truth p.0 p.1) e in
    then-filled _ (site_of (setting_of c.args.self.now)) _ _ _ c.args.ops.now.items c.args.slot _ c.fill.ensures.made f
