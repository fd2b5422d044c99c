use Rattle.std.proofs.Common.{◌≡◌, length}
use Rattle.c_tree.specs.Symbols as sg
use Rattle.parse_machine.specs.Machine as ma
use Rattle.c_parser.specs.StateView.{state_of}
use Rattle.c_parser.proofs.parser.read.Given as goal

abbrev pub invariant-tokens : goal.invariant-tokens
invariant-tokens l = ma.outcome (ma.run (sg.signs_of l.rest) (ma.Going (state_of l.state))) ≡ ma.parse_of (sg.signs_of l.tokens)

abbrev pub decreases-tokens : goal.decreases-tokens
decreases-tokens l = length l.rest
