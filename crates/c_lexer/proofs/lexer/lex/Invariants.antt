use Rattle.std.proofs.Common.{◌≡◌, ◌≤◌, length, drop, ◌-◌, zero}
use Rattle.c_lexer.specs.Lexed.{lexed, lexed_from}
use Rattle.c_lexer.proofs.lexer.lex.Given as goal

abbrev pub invariant-loop-at : goal.invariant-loop-at
invariant-loop-at l = record {
  within : l.at ≤ length l.source;
  small : length l.source ≤ 1048576;
  rest : lexed l.source ≡ lexed_from zero l.fresh l.at l.tokens.items (drop l.at l.source);
}

abbrev pub decreases-loop-at : goal.decreases-loop-at
decreases-loop-at l = length l.source - l.at
