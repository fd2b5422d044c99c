use Rattle.std.proofs.Common.{inr, arith}
use Rattle.c_lexer.proofs.LexedLemmas.{skip_turn, token_turn, full_turn}
use Rattle.c_lexer.proofs.lexer.lex.Goals as goal

pub loop-at-preserved-in-Skip : goal.loop-at-preserved-in-Skip
loop-at-preserved-in-Skip c =
    let turn = skip_turn c.args.source.now c.loop-at.at c.in-Skip.width c.loop-at.fresh c.in-Skip.next c.loop-at.tokens.items c.in_ok-width.field-0 c.loop-at-test.true c.in_ok-width.ensures.value c.in_ok-width.ensures.fits c.in-Skip.is c.loop-at.invariant.rest in
    record { within = turn.0; small = c.loop-at.invariant.small; rest = turn.1 }

pub loop-at-preserved : goal.loop-at-preserved
loop-at-preserved c =
    let turn = token_turn c.args.source.now c.loop-at.at c.in-Token.width c.loop-at.fresh c.in-Token.kind c.loop-at.tokens.items c.push.new.self.items c.in_ok-width.field-0 c.loop-at-test.true (omega (arith, c.len.ensures)) c.in_ok-width.ensures.value c.in_ok-width.ensures.fits c.in-Token.is c.loop-at.invariant.rest (cc (c.in_ok-push-in-Token.ensures.items, c.token.ensures)) in
    record { within = turn.0; small = c.loop-at.invariant.small; rest = turn.1 }

pub returns-then-len-ge-MOST_TOKENS : goal.returns-then-len-ge-MOST_TOKENS
returns-then-len-ge-MOST_TOKENS c =
    inr (full_turn c.args.source.now c.loop-at.at c.in-Token.width c.loop-at.fresh c.in-Token.kind c.loop-at.tokens.items c.in_ok-width.field-0 c.loop-at-test.true (omega (arith, c.len.ensures)) c.in_ok-width.ensures.value c.in_ok-width.ensures.fits c.in-Token.is c.loop-at.invariant.rest)
