use Rattle.std.proofs.Common.{◌≡◌, ℕ, List}
use Rattle.std.specs.Prelude.{All}
use Rattle.path_query.specs.Facts.{IsBundle}
use Rattle.interpolants.specs.Cuts.{AreCutBits}
use Rattle.interpolants.specs.Meanings.{IsPlacing}
use Rattle.interpolants.specs.Placings.{rows}
use Rattle.interpolants.proofs.placing.place_bits.Given as goal

abbrev pub invariant-loop-bit : goal.invariant-loop-bit
invariant-loop-bit l = record {
  placing : IsPlacing l.bits;
  bits : (cells : List ℕ) → All (IsBundle cells) l.bundles → AreCutBits cells l.bits;
  added : l.bits.bits.items ≡ rows l.bundles l.bit;
}
