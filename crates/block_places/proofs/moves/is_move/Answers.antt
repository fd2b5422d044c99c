use Rattle.std.proofs.Common.{subst, sym}
use Rattle.block_rule.specs.Plans.{IsMove}
use Rattle.walk_states.specs.Known.{plan_of}
use Rattle.block_places.proofs.moves.is_move.Goals as goal

pub returns-in-SetAt-clause-tells : goal.returns-in-SetAt-clause-tells
returns-in-SetAt-clause-tells c = λ t.
    subst (IsMove (plan_of c.args.known.now) c.args.cells) (sym c.in-SetAt.is) (c.is_array.ensures.tells t c.in-SetAt.field-2 c.in-SetAt.field-3)
