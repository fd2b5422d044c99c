use Rattle.std.proofs.Common.{◌≡◌, ℕ, ◌-◌, List, ◌++◌, length, drop}
use Rattle.std.specs.Prelude.{All}
use Rattle.path_query.specs.Facts.{IsBundle}
use Rattle.interpolants.specs.Cuts.{AreCutBits}
use Rattle.interpolants.specs.Meanings.{IsPlacing}
use Rattle.interpolants.specs.Placings.{row}
use Rattle.interpolants.proofs.placing.place_row.Given as goal

abbrev pub invariant-loop-back : goal.invariant-loop-back
invariant-loop-back l = record {
  placing : IsPlacing l.fn.bits → IsPlacing l.bits;
  bits : (cells : List ℕ) → All (IsBundle cells) l.bundles → AreCutBits cells l.fn.bits → AreCutBits cells l.bits;
  added : l.bits.bits.items ≡ l.fn.bits.bits.items ++ row (drop (length l.bundles - l.back) l.bundles) l.bit;
}
