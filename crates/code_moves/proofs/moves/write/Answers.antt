use Rattle.std.proofs.Common.{ap, ◌++◌, Option}
use Rattle.code_moves.specs.declared.ground.Room.{Room}
use Rattle.code_moves.specs.Moves.{writes_in}
use Rattle.code_moves.proofs.Standing.{room-stands}
use Rattle.code_moves.proofs.Doing.{does-none, does-equal}
use Rattle.std.proofs.Common.{Ok}
use Rattle.code_moves.specs.Setting.{setting_of, site_of}
use Rattle.code_moves.proofs.Making.{so}
use Rattle.code_moves.specs.Made as made
use Rattle.code_moves.proofs.moves.write.Goals as goal

pub returns-in-None-clause-does : goal.returns-in-None-clause-does
returns-in-None-clause-does c = λ ds h f st d ti tv.
    does-equal (Ok tt) _ _ _ _ _ (ap (λ (o : Option Room). ds ++ writes_in c.args.ground.now.model o h f) c.in-None.ensures) (does-none _ _ ds d)

pub returns-in-Some-clause-does : goal.returns-in-Some-clause-does
returns-in-Some-clause-does c = λ ds h f st d ti tv.
    does-equal _ _ _ _ _ _ (ap (λ (o : Option Room). ds ++ writes_in c.args.ground.now.model o h f) c.in-Some.ensures) (c.write_in.ensures.does ds h f (room-stands _ _ c.args.object _ st c.in-Some.ensures) d ti tv)

pub returns-in-None-clause-made : goal.returns-in-None-clause-made
returns-in-None-clause-made c = ap (λ (o : Option Room). made.write_to (site_of (setting_of c.args.ground.now)) c.args.words.now c.args.ops.now.items o c.args.index c.args.value) c.in-None.ensures

pub returns-in-Some-clause-made : goal.returns-in-Some-clause-made
returns-in-Some-clause-made c = so _ _ _ _ c.write_in.ensures.made (ap (λ (o : Option Room). made.write_to (site_of (setting_of c.args.ground.now)) c.args.words.now c.args.ops.now.items o c.args.index c.args.value) c.in-Some.ensures)
