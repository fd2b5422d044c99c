use Rattle.std.proofs.Common.{◌∷◌, [], ap, arith}
use Rattle.witness_expressions.specs.Names.{named}
use Rattle.witness_expressions.specs.Expressions.{row_at, rows_of}
use Rattle.witness_expressions.specs.Pieces.{parts_left, terms_weight}
use Rattle.witness_expressions.proofs.Weights.{two_lighter, some_weight, terms_weight-append}
use Rattle.witness_expressions.proofs.Steps.{skipped, taken, skip_kept, split_kept, part_kept}
use Rattle.witness_expressions.proofs.conjunction.put_formula.Goals as goal

pub returns-in_ok-push_both-in-Some : goal.returns-in_ok-push_both-in-Some
returns-in_ok-push_both-in-Some c =
    let names = named c.args.spellings.now c.args.cells.now in
    let rows = rows_of names c.args.terms.now.terms in
    let splits = c.in-Some.ensures names in
    record {
      kept = rw c.in_ok-push_both-in-Some.ensures (split_kept rows c.args.text.now.items c.args.left.now.items c.in-Some.i c.in-Some.j (row_at rows c.args.term).parts splits.2);
      falls = omega (arith, ap terms_weight c.in_ok-push_both-in-Some.ensures, terms_weight-append c.args.left.now.items (c.in-Some.j ∷ c.in-Some.i ∷ []), two_lighter c.in-Some.i.0 c.in-Some.j.0 c.args.term.0 splits.0 splits.1);
    }

pub returns-in_ok-put_part-in-None : goal.returns-in_ok-put_part-in-None
returns-in_ok-put_part-in-None c =
    let names = named c.args.spellings.now c.args.cells.now in
    let rows = rows_of names c.args.terms.now.terms in
    record {
      kept = part_kept c.args.text.now.items _ (row_at rows c.args.term).text (row_at rows c.args.term).parts (parts_left rows c.args.left.now.items) c.in_ok-put_part-in-None.ensures (taken names c.args.terms.now.terms c.args.sizes.now c.args.term c.size_of.result c.size_of.ensures c.requires c.if-size_of-eq0.false (c.in-None.ensures names));
      falls = omega (arith, some_weight c.args.term.0);
    }

pub returns-then-size_of-eq0 : goal.returns-then-size_of-eq0
returns-then-size_of-eq0 c =
    let names = named c.args.spellings.now c.args.cells.now in
    let rows = rows_of names c.args.terms.now.terms in
    record {
      kept = skip_kept c.args.text.now.items (row_at rows c.args.term).parts (parts_left rows c.args.left.now.items) (skipped names c.args.terms.now.terms c.args.sizes.now c.args.term c.size_of.result c.size_of.ensures c.requires c.if-size_of-eq0.true);
      falls = omega (arith, some_weight c.args.term.0);
    }
