use Rattle.std.proofs.Common.{[], ℕ, List, ap}
use Rattle.code_moves.proofs.Standing.{stand-later}
use Rattle.code_moves.proofs.Doing.{deeds-later, then-does}
use Rattle.c_terms.specs.declared.words.Words.{Words}
use Rattle.bv_term.specs.declared.term.TermId.{TermId}
use Rattle.code_moves.specs.Setting.{setting_of, site_of}
use Rattle.code_moves.proofs.Making.{so}
use Rattle.code_moves.specs.Made as made
use Rattle.code_moves.proofs.ground.Ground.update.Goals as goal

pub returns-clause-does : goal.returns-clause-does
returns-clause-does c = λ ds h d.
    let z = λ (s : List ℕ). c.in_ok-new.ensures.shows s h in
    let g = (z []).grows in
    then-does _ _ _ _ _ _ g (c.store_value.ensures.does ds _ (stand-later _ _ _ g h) (deeds-later _ _ _ ds g d) (λ s. (z s).shows))

pub returns-clause-made : goal.returns-clause-made
returns-clause-made c = so _ _ _ _ c.store_value.ensures.made (ap (λ (p : Words × TermId). made.store_value (site_of (setting_of c.args.self.now)) p.0 c.args.ops.now.items c.args.slot c.args.object p.1) c.in_ok-new.ensures.made)
