use Rattle.std.proofs.Common.{rules, ◌≡◌, ◌==◌, ◌∙◌, ℕ, Some, ap, refl, slice_get}
use Rattle.bv_term.specs.declared.term.TermId.{TermId}
use Rattle.bv_term.specs.declared.term.Term.TheVariants.{And}
use Rattle.bv_term.specs.Values.{value}
use Rattle.truth_terms.specs.Truths.{is_one}
use Rattle.truth_terms.proofs.Bits.{both-bit}
use Rattle.truth_terms.proofs.truths.is_both.Goals as goal

pub returns-clause-means : goal.returns-clause-means
returns-clause-means c = λ h.
    let e : c.args.second.0 ≡ c.args.test.0 = search rules in
    let F : ℕ → TermId = λ n. record { 0 = n } in
    let get : slice_get c.args.terms.now.terms c.args.term.0 ≡ Some (And c.args.first c.args.test) =
    c.requires.found.1 ∙ ap (λ n. Some (And c.args.first (F n))) e in
    both-bit c.args.terms.now c.args.term c.args.first c.args.test (is_one c.args.cell) (λ s. value c.args.old.now s c.args.test == 1)
    c.requires.found.0 get (c.if-not-is_cell_bit.ensures.means refl) (c.is_old_bit.ensures.means h)
