use Rattle.std.proofs.Common.{rules}
use Rattle.std.proofs.lemmas.List.Elements.{All-more}
use Rattle.bv_term.specs.declared.term.Term.TheVariants.{Constant}
use Rattle.cert_text.specs.CertText.{term_text}
use Rattle.cert_text.specs.Ranges.{TermFits}
use Rattle.cert_text.proofs.Numbers.{all_taken}
use Rattle.cert_text.proofs.Pieces.{each_more}
use Rattle.cert_text.proofs.writing.push_terms.Goals as goal

pub loop-term-preserved : goal.loop-term-preserved
loop-term-preserved c = record {
  text = each_more term_text c.args.terms.now c.loop-term.term-index (Constant 0 0) _ _ _ (search rules) c.in_ok-push_term.ensures.text c.loop-term.invariant.text;
  numbers = All-more TermFits c.args.terms.now c.loop-term.term-index (Constant 0 0) (search rules) c.loop-term.invariant.numbers c.in_ok-push_term.ensures.numbers;
}

pub returns-clause-numbers : goal.returns-clause-numbers
returns-clause-numbers c = all_taken TermFits c.args.terms.now c.loop-term.term-index (search rules) c.loop-term.invariant.numbers
