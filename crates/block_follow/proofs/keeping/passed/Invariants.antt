use Rattle.std.proofs.Common.{◌≡◌, drop}
use Rattle.block_rule.specs.Deeds.{Code}
use Rattle.block_steps.specs.Cursors.{Meets}
use Rattle.block_follow.specs.Following.{straight}
use Rattle.block_follow.specs.Made as made
use Rattle.block_follow.proofs.keeping.passed.Given as goal

abbrev pub invariant-loop-number : goal.invariant-loop-number
invariant-loop-number l =
    ((code : Code) → Meets l.new l.at (straight l.old (drop l.number l.ops) code) → Meets l.new l.fn.cursor (straight l.old l.ops code))
    × (made.passed l.old l.new l.fn.cursor l.ops ≡ made.passed l.old l.new l.at (drop l.number l.ops))
