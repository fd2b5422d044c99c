use Rattle.std.proofs.Common.{◌+◌, [], ◌++◌, ℕ, List, ap, ◌∙◌}
use Rattle.c_terms.proofs.Putting.{grows-twice, later}
use Rattle.code_moves.specs.Setting.{setting_of, site_of}
use Rattle.code_moves.specs.Moves.{writes, fills, index_value}
use Rattle.code_moves.proofs.Standing.{stand-later}
use Rattle.code_moves.proofs.Doing.{deeds-later, tells-later, filled, regrouped}
use Rattle.c_terms.proofs.Choosing.{two}
use Rattle.c_terms.specs.declared.words.Words.{Words}
use Rattle.code_moves.proofs.Making.{then-fill}
use Rattle.bv_term.specs.declared.term.TermId.{TermId}
use Rattle.code_moves.specs.Made as made
use Rattle.code_moves.proofs.ground.Ground.store.Goals as goal

pub returns-clause-does : goal.returns-clause-does
returns-clause-does c = λ ds h d.
    let w = setting_of c.args.self.now in
    let z = λ (s : List ℕ). c.in_ok-index.ensures.shows s h in
    let v = λ (s : List ℕ). c.in_ok-value.ensures.shows s (stand-later _ _ _ (z []).grows h) in
    let g = grows-twice _ _ _ (z []).grows (v []).grows in
    let f = index_value w (c.args.slot + 1) in
    let n = c.in_ok-write.ensures.does ds (index_value w c.args.slot) f (stand-later _ _ _ g h) (deeds-later _ _ _ ds g d) (λ s. later _ _ s _ _ _ (v []).grows (z s).shows) (λ s. (v s).shows) in
    let before = writes w c.args.object (index_value w c.args.slot) f in
    regrouped _ _ _ _ ds before (fills w c.args.slot f) (filled _ _ _ _ _ (grows-twice _ _ _ g n.grows) (c.fill.ensures.does _ (ds ++ before) f (stand-later _ _ _ (grows-twice _ _ _ g n.grows) h) n.does (tells-later _ _ _ 64 f n.grows (λ s. (v s).shows))))

pub returns-clause-made : goal.returns-clause-made
returns-clause-made c =
    let g = site_of (setting_of c.args.self.now) in
    let e = c.in_ok-index.ensures.made in
    let f = c.in_ok-value.ensures.made ∙ ap (λ (p : Words × TermId). made.slot_behind g p.0 c.args.slot 1) e in
    let h = c.in_ok-write.ensures.made ∙ two (λ (p q : Words × TermId). made.write g q.0 c.args.ops.now.items c.args.object p.1 q.1) e f in
    then-fill _ g _ _ _ _ c.write.new.ops.items c.args.slot _ c.fill.ensures.made h (ap (λ (p : Words × TermId). p.1) f)
