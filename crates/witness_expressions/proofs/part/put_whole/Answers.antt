use Rattle.std.proofs.Common.{◌≡◌, ◌∷◌, [], ap, arith, append_assoc}
use Rattle.witness_expressions.specs.declared.part.Piece.TheVariants.{Whole, AndMark, OrMark, Close}
use Rattle.witness_expressions.specs.Names.{named}
use Rattle.witness_expressions.specs.Expressions.{rows_of}
use Rattle.witness_expressions.specs.Pieces.{pieces_weight}
use Rattle.witness_expressions.proofs.Weights.{two_lighter, one_lighter, some_weight, pieces_weight-append}
use Rattle.witness_expressions.proofs.Steps.{both_kept, not_kept}
use Rattle.witness_expressions.proofs.part.put_whole.Goals as goal

pub returns-in_ok-put_truth-in-Truth-clause-falls : goal.returns-in_ok-put_truth-in-Truth-clause-falls
returns-in_ok-put_truth-in-Truth-clause-falls c = omega (arith, some_weight c.args.term.0)

pub returns-in_ok-put_and-in-Both : goal.returns-in_ok-put_and-in-Both
returns-in_ok-put_and-in-Both c =
    let names = named c.args.spellings.now c.args.cells.now in
    let says = c.in-Both.ensures names in
    record {
      kept = rw (c.in_ok-put_and-in-Both.ensures.text, c.in_ok-put_and-in-Both.ensures.pieces) (both_kept (rows_of names c.args.terms.now.terms) c.args.text.now.items c.args.pieces.now.items c.in-Both.i c.in-Both.j AndMark _ says.2);
      falls = omega (arith, ap pieces_weight c.in_ok-put_and-in-Both.ensures.pieces, pieces_weight-append c.args.pieces.now.items (Close ∷ Whole c.in-Both.j ∷ AndMark ∷ Whole c.in-Both.i ∷ []), two_lighter c.in-Both.i.0 c.in-Both.j.0 c.args.term.0 says.0 says.1);
    }

pub returns-in_ok-put_or-in-Either : goal.returns-in_ok-put_or-in-Either
returns-in_ok-put_or-in-Either c =
    let names = named c.args.spellings.now c.args.cells.now in
    let says = c.in-Either.ensures names in
    record {
      kept = rw (c.in_ok-put_or-in-Either.ensures.text, c.in_ok-put_or-in-Either.ensures.pieces) (both_kept (rows_of names c.args.terms.now.terms) c.args.text.now.items c.args.pieces.now.items c.in-Either.i c.in-Either.j OrMark _ says.2);
      falls = omega (arith, ap pieces_weight c.in_ok-put_or-in-Either.ensures.pieces, pieces_weight-append c.args.pieces.now.items (Close ∷ Whole c.in-Either.j ∷ OrMark ∷ Whole c.in-Either.i ∷ []), two_lighter c.in-Either.i.0 c.in-Either.j.0 c.args.term.0 says.0 says.1);
    }

pub returns-in_ok-put_not-in-Complement : goal.returns-in_ok-put_not-in-Complement
returns-in_ok-put_not-in-Complement c =
    let names = named c.args.spellings.now c.args.cells.now in
    let says = c.in-Complement.ensures names in
    record {
      kept = rw (c.in_ok-put_not-in-Complement.ensures.text, c.in_ok-put_not-in-Complement.ensures.pieces) (not_kept (rows_of names c.args.terms.now.terms) c.args.text.now.items c.args.pieces.now.items c.in-Complement.i _ says.1);
      falls = omega (arith, ap pieces_weight c.in_ok-put_not-in-Complement.ensures.pieces, pieces_weight-append c.args.pieces.now.items (Close ∷ Whole c.in-Complement.i ∷ []), one_lighter c.in-Complement.i.0 c.args.term.0 says.0);
    }

pub returns-in_ok-put_bit-in-BitOf-clause-falls : goal.returns-in_ok-put_bit-in-BitOf-clause-falls
returns-in_ok-put_bit-in-BitOf-clause-falls c = omega (arith, some_weight c.args.term.0)

pub returns-in-Other : goal.returns-in-Other
returns-in-Other c =
    let names = named c.args.spellings.now c.args.cells.now in
    record {
      kept = rw (c.in-Other.ensures names);
      falls = omega (arith, some_weight c.args.term.0);
    }
