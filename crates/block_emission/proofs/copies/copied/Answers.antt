use Rattle.std.proofs.Common.{◌≤◌, ◌∙◌, ◌+◌, ap, arith, drop, length, sym}
use Rattle.std.proofs.lemmas.List.{drop_all}
use Rattle.block_emission.specs.declared.terms.Truths.{Truths}
use Rattle.block_emission.specs.Blocking.{append_all}
use Rattle.block_emission.proofs.Listing.{copied-fit, copied-unfit, term-drop}
use Rattle.block_emission.proofs.copies.copied.Goals as goal

pub returns-then-not-are_widths : goal.returns-then-not-are_widths
returns-then-not-are_widths c =
    record { made = c.no_truths.ensures.made ∙ copied-unfit c.args.terms.now c.args.widths.items c.deref.result.now c.are_widths.result c.are_widths.ensures c.deref.ensures.value c.if-not-are_widths.true }

pub loop-number-preserved : goal.loop-number-preserved
loop-number-preserved c =
    let ts = c.args.terms.now.terms in
    let k = c.loop-number.number in
    ap (λ (w : Truths). append_all w (drop (k + 1) ts)) c.in_ok-append.ensures.made
    ∙ sym (ap (append_all c.loop-number.truths) (term-drop ts k c.get.result c.get.ensures)) ∙ c.loop-number.invariant

pub returns : goal.returns
returns c =
    let ts = c.args.terms.now.terms in
    let k = c.loop-number.number in
    let all : length ts ≤ k = omega (arith, c.loop-number-test.false, c.count-number-end.ensures.value) in
    record {
      made = sym (ap (append_all c.loop-number.truths) (drop_all k ts all)) ∙ c.loop-number.invariant
          ∙ copied-fit c.args.terms.now c.args.widths.items c.deref.result.now c.are_widths.result c.are_widths.ensures c.deref.ensures.value c.if-not-are_widths.false;
    }
