use Rattle.std.proofs.Common.{ap, ◌∙◌, ◌++◌, Option, Ok, ℕ, arith}
use Rattle.c_terms.proofs.Putting.{grows-none}
use Rattle.code_moves.specs.declared.ground.Room.{Room}
use Rattle.code_moves.specs.Moves.{draws_in, draws_first}
use Rattle.code_moves.proofs.Standing.{room-stands}
use Rattle.code_moves.proofs.Doing.{does-none, does-equal, filled}
use Rattle.code_moves.proofs.Making.{beside}
use Rattle.code_moves.specs.Made as made
use Rattle.code_moves.proofs.ground.Ground.draw_all.Goals as goal

pub returns-in-None-clause-does : goal.returns-in-None-clause-does
returns-in-None-clause-does c = λ ds h d.
    does-equal (Ok tt) _ _ _ _ _ (ap (λ (o : Option Room). ds ++ draws_in o c.args.kind c.args.count) c.in-None.ensures) (does-none _ _ ds d)

pub returns-in-Some-clause-does : goal.returns-in-Some-clause-does
returns-in-Some-clause-does c = λ ds h d.
    does-equal _ _ _ _ _ _ (ap (λ (n : ℕ). ds ++ draws_first c.in-Some.room c.args.kind n) c.count_in.ensures ∙ ap (λ (o : Option Room). ds ++ draws_in o c.args.kind c.args.count) c.in-Some.ensures)
    (filled _ _ _ _ _ (grows-none _) (c.draw_first.ensures.does c.args.self.now.model _ ds (room-stands _ _ c.args.object _ h c.in-Some.ensures) (omega (arith, c.count_in.ensures)) d))

pub returns-in-None-clause-made : goal.returns-in-None-clause-made
returns-in-None-clause-made c = ap (λ (o : Option Room). made.draw_into c.args.words.now c.args.ops.now.items o c.args.kind c.args.count) c.in-None.ensures

pub returns-in-Some-clause-made : goal.returns-in-Some-clause-made
returns-in-Some-clause-made c =
    beside _ _ _ _ _ c.draw_first.ensures.made (
    ap (λ (n : ℕ). (c.args.words.now, made.draw_first c.args.ops.now.items c.in-Some.room c.args.kind n)) c.count_in.ensures
    ∙ ap (λ (o : Option Room). made.draw_into c.args.words.now c.args.ops.now.items o c.args.kind c.args.count) c.in-Some.ensures
    )
