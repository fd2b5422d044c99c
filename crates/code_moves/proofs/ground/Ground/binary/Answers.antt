use Rattle.std.proofs.Common.{[], ℕ, List, ap, ◌∙◌}
use Rattle.c_terms.proofs.Putting.{grows-twice, later}
use Rattle.code_moves.proofs.Standing.{stand-later}
use Rattle.code_moves.proofs.Doing.{deeds-later, filled}
use Rattle.c_terms.proofs.Choosing.{two}
use Rattle.c_terms.specs.declared.words.Words.{Words}
use Rattle.bv_term.specs.declared.term.TermId.{TermId}
use Rattle.code_moves.specs.Setting.{setting_of, site_of}
use Rattle.code_moves.proofs.Making.{then-filled}
use Rattle.code_moves.specs.Made as made
use Rattle.code_moves.proofs.ground.Ground.binary.Goals as goal

pub returns-clause-does : goal.returns-clause-does
returns-clause-does c = λ ds h d.
    let z = λ (s : List ℕ). c.in_ok-left.ensures.shows s h in
    let n = λ (s : List ℕ). c.in_ok-right.ensures.shows s (stand-later _ _ _ (z []).grows h) in
    let m = λ (s : List ℕ). c.in_ok-value.ensures.shows s _ _ (later _ _ s _ _ _ (n []).grows (z s).shows) (n s).shows in
    let g = grows-twice _ _ _ (grows-twice _ _ _ (z []).grows (n []).grows) (m []).grows in
    filled _ _ _ _ _ g (c.fill.ensures.does _ ds _ (stand-later _ _ _ g h) (deeds-later _ _ _ ds g d) (λ s. (m s).shows))

pub returns-clause-made : goal.returns-clause-made
returns-clause-made c =
    let g = site_of (setting_of c.args.self.now) in
    let e = c.in_ok-left.ensures.made in
    let f = c.in_ok-right.ensures.made ∙ ap (λ (p : Words × TermId). made.slot_behind g p.0 c.args.slot 1) e in
    let h = c.in_ok-value.ensures.made ∙ two (λ (p q : Words × TermId). made.applied g q.0 c.args.op c.args.kind p.1 q.1) e f in
    then-filled _ g _ _ _ c.args.ops.now.items c.args.slot _ c.fill.ensures.made h
