use Rattle.std.proofs.Common.{[], refl, arith, ℕ, List, ap, ◌∙◌}
use Rattle.c_terms.proofs.Putting.{grows-twice, later}
use Rattle.code_moves.proofs.Standing.{stand-later}
use Rattle.code_moves.proofs.Doing.{deeds-later, filled}
use Rattle.c_terms.proofs.Choosing.{three}
use Rattle.c_terms.specs.declared.words.Words.{Words}
use Rattle.bv_term.specs.declared.term.TermId.{TermId}
use Rattle.code_moves.specs.Setting.{setting_of, site_of}
use Rattle.code_moves.proofs.Making.{then-filled}
use Rattle.code_moves.specs.Made as made
use Rattle.c_terms.specs.Made as term
use Rattle.code_moves.proofs.ground.Ground.take_some.Goals as goal

pub returns-clause-does : goal.returns-clause-does
returns-clause-does c = λ ds h d.
    let z = λ (s : List ℕ). c.in_ok-value.ensures.shows s h in
    let n = λ (s : List ℕ). c.in_ok-flag.ensures.shows s (stand-later _ _ _ (z []).grows h) in
    let i = λ (s : List ℕ). c.in_ok-is_none.ensures.shows s _ (n s).shows in
    let o = λ (s : List ℕ). c.in_ok-zero.ensures.shows s 64 refl (omega arith) (omega arith) in
    let k = grows-twice _ _ _ (n []).grows (grows-twice _ _ _ (i []).grows (o []).grows) in
    let m = λ (s : List ℕ). c.in_ok-chosen.ensures.shows s _ _ _ _ (later _ _ s _ _ _ (o []).grows (i s).shows) (o s).shows (later _ _ s _ _ _ k (z s).shows) in
    let g = grows-twice _ _ _ (grows-twice _ _ _ (z []).grows k) (m []).grows in
    filled _ _ _ _ _ g (c.fill.ensures.does _ ds _ (stand-later _ _ _ g h) (deeds-later _ _ _ ds g d) (λ s. (m s).shows))

pub returns-clause-made : goal.returns-clause-made
returns-clause-made c =
    let g = site_of (setting_of c.args.self.now) in
    let e = c.in_ok-value.ensures.made in
    let f = c.in_ok-flag.ensures.made ∙ ap (λ (p : Words × TermId). made.slot_behind g p.0 c.args.from 2) e in
    let h = c.in_ok-is_none.ensures.made ∙ ap (λ (p : Words × TermId). term.is_zero p.0 p.1) f in
    let i = c.in_ok-zero.ensures.made ∙ ap (λ (p : Words × TermId). term.zero p.0 64) h in
    let k = c.in_ok-chosen.ensures.made ∙ three (λ (p r z : Words × TermId). term.word_choose z.0 r.1 z.1 p.1) e h i in
    then-filled _ g _ _ _ c.args.ops.now.items c.args.slot _ c.fill.ensures.made k
