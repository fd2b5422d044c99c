use Rattle.std.proofs.Common.{◌≡◌, ◌∷◌, rules}
use Rattle.c_tree.specs.Symbols as sg
use Rattle.parse_machine.specs.Machine as ma
use Rattle.c_parser.specs.StateView.{state_of}
use Rattle.c_parser.proofs.RunLemmas.{stopped}
use Rattle.c_parser.proofs.parser.read.Goals as goal

pub returns-in-Err : goal.returns-in-Err
returns-in-Err c =
    let e : c.tokens.rest.now ≡ c.in-Some.token.now ∷ c.in-Some.behind.now = search rules in
    stopped c.in-Err.fail c.tokens.rest.now c.in-Some.behind.now c.in-Some.token.now (state_of c.tokens.state) (ma.parse_of (sg.signs_of c.args.tokens.now)) e c.tokens.invariant c.in-Err.ensures
