use Rattle.std.proofs.Common.{◌≡◌, ◌++◌, drop, map}
use Rattle.witness_yaml.specs.Texts.{joined}
use Rattle.witness_yaml.proofs.piece.join.Given as goal

abbrev pub invariant-loop-piece : goal.invariant-loop-piece
invariant-loop-piece l = l.text.items ++ joined (map (λ p. p.now) (drop l.piece-index l.pieces)) ≡ joined (map (λ p. p.now) l.pieces)
