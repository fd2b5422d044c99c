use Rattle.std.proofs.Common.{[], ◌++◌, ℕ, List, ap, refl, ◌∙◌}
use Rattle.c_terms.proofs.Putting.{grows-twice}
use Rattle.code_moves.specs.Setting.{setting_of, site_of}
use Rattle.code_moves.specs.Moves.{writes, fills, index_value}
use Rattle.code_moves.proofs.Standing.{stand-later}
use Rattle.code_moves.proofs.Doing.{deeds-later, tells-later, filled, regrouped}
use Rattle.c_terms.specs.declared.words.Words.{Words}
use Rattle.code_moves.proofs.Making.{then-fill}
use Rattle.bv_term.specs.declared.term.TermId.{TermId}
use Rattle.code_moves.specs.Made as made
use Rattle.code_moves.proofs.ground.Ground.store_value.Goals as goal

pub returns-clause-does : goal.returns-clause-does
returns-clause-does c = λ ds f h d tv.
    let w = setting_of c.args.self.now in
    let z = λ (s : List ℕ). c.in_ok-index.ensures.shows s h in
    let g = (z []).grows in
    let n = c.in_ok-write.ensures.does ds (index_value w c.args.slot) f (stand-later _ _ _ g h) (deeds-later _ _ _ ds g d) (λ s. (z s).shows) (tells-later _ _ _ 64 f g tv) in
    let k = grows-twice _ _ _ g n.grows in
    let before = writes w c.args.object (index_value w c.args.slot) f in
    regrouped _ _ _ _ ds before (fills w c.args.slot f) (filled _ _ _ _ _ k (c.fill.ensures.does _ (ds ++ before) f (stand-later _ _ _ k h) n.does (tells-later _ _ _ 64 f k tv)))

pub returns-clause-made : goal.returns-clause-made
returns-clause-made c =
    let g = site_of (setting_of c.args.self.now) in
    let h = c.in_ok-write.ensures.made ∙ ap (λ (p : Words × TermId). made.write g p.0 c.args.ops.now.items c.args.object p.1 c.args.value) c.in_ok-index.ensures.made in
    then-fill _ g _ c.args.value c.args.value _ c.write.new.ops.items c.args.slot _ c.fill.ensures.made h refl
