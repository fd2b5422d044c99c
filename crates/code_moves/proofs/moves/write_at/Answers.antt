use Rattle.std.proofs.Common.{◌+◌, [], ℕ, List}
use Rattle.code_moves.specs.Deeds.{Sets}
use Rattle.code_moves.specs.Moves.{lows}
use Rattle.code_moves.proofs.Doing.{deeds-later, pushed, set-fits}
use Rattle.code_moves.proofs.Standing.{room-later, room-wide}
use Rattle.code_moves.proofs.Making.{set-made}
use Rattle.code_moves.proofs.moves.write_at.Goals as goal

pub returns-clause-does : goal.returns-clause-does
returns-clause-does c = λ ds f room lt d tv.
    let r = c.args.room in
    let z = λ (s : List ℕ). c.in_ok-bits.ensures.shows s (f s) (tv s) in
    let g = (z []).grows in
    record {
      grows = g;
      does = pushed _ _ _ ds _ (Sets (r.first + c.args.element) (lows c.args.ground.now.model r f)) c.in_ok-push.ensures.items (deeds-later _ _ _ ds g d)
          (c.in_ok-cell.ensures, (_, λ s. (z s).shows), set-fits _ _ _ _ _ (room-wide _ _ r _ _ (room-later _ _ _ r g room) lt c.in_ok-cell.ensures) (λ s. (z s).shows));
    }

pub returns-clause-made : goal.returns-clause-made
returns-clause-made c = set-made _ _ _ _ _ _ _ c.in_ok-push.ensures.items c.in_ok-cell.ensures c.in_ok-bits.ensures.made
