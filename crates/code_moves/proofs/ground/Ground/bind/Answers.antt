use Rattle.std.proofs.Common.{ap, ◌++◌, Option, Ok, [], ℕ, List, arith, ◌∙◌}
use Rattle.code_moves.specs.declared.ground.Room.{Room}
use Rattle.code_moves.specs.Setting.{setting_of, site_of}
use Rattle.code_moves.specs.Moves.{binds_in}
use Rattle.code_moves.proofs.Standing.{room-stands, room-later}
use Rattle.code_moves.proofs.Doing.{does-none, does-equal, then-does, deeds-later}
use Rattle.c_terms.specs.declared.words.Words.{Words}
use Rattle.bv_term.specs.declared.term.TermId.{TermId}
use Rattle.code_moves.proofs.Making.{so}
use Rattle.code_moves.specs.Made as made
use Rattle.code_moves.proofs.ground.Ground.bind.Goals as goal

pub returns-in-None-clause-does : goal.returns-in-None-clause-does
returns-in-None-clause-does c = λ ds h d.
    does-equal (Ok tt) _ _ _ _ _ (ap (λ (o : Option Room). ds ++ binds_in (setting_of c.args.self.now) o c.args.slot) c.in-None.ensures) (does-none _ _ ds d)

pub returns-in_ok-value-in-Some-clause-does : goal.returns-in_ok-value-in-Some-clause-does
returns-in_ok-value-in-Some-clause-does c = λ ds h d.
    let z = λ (s : List ℕ). c.in_ok-value-in-Some.ensures.shows s h in
    let g = (z []).grows in
    let room = room-later _ _ _ c.in-Some.room g (room-stands _ _ c.args.object _ h c.in-Some.ensures) in
    does-equal _ _ _ _ _ _ (ap (λ (o : Option Room). ds ++ binds_in (setting_of c.args.self.now) o c.args.slot) c.in-Some.ensures)
    (then-does _ _ _ _ _ _ g (c.write_at.ensures.does ds _ room (omega (arith, room.elements.0)) (deeds-later _ _ _ ds g d) (λ s. (z s).shows)))

pub returns-in-None-clause-made : goal.returns-in-None-clause-made
returns-in-None-clause-made c = ap (made.bind_in (site_of (setting_of c.args.self.now)) c.args.words.now c.args.ops.now.items c.args.slot) c.in-None.ensures

pub returns-in_ok-value-in-Some-clause-made : goal.returns-in_ok-value-in-Some-clause-made
returns-in_ok-value-in-Some-clause-made c =
    let g = site_of (setting_of c.args.self.now) in
    so _ _ _ _ c.write_at.ensures.made (
    ap (λ (p : Words × TermId). made.write_at g p.0 c.args.ops.now.items c.in-Some.room 0 p.1) c.in_ok-value-in-Some.ensures.made
    ∙ ap (made.bind_in g c.args.words.now c.args.ops.now.items c.args.slot) c.in-Some.ensures
    )
