use Rattle.std.proofs.Common.{rules, ◌≡◌, ◌∙◌, ℕ, Some, ap, slice_get}
use Rattle.bv_term.specs.declared.term.TermId.{TermId}
use Rattle.bv_term.specs.declared.term.Term.TheVariants.{Not}
use Rattle.truth_terms.proofs.Bits.{not-bit}
use Rattle.truth_terms.proofs.truths.is_complement.Goals as goal

pub returns-clause-means : goal.returns-clause-means
returns-clause-means c = λ h p b.
    let e : c.args.found.0 ≡ c.args.other.0 = search rules in
    let F : ℕ → TermId = λ n. record { 0 = n } in
    let get : slice_get c.args.terms.now.terms c.args.term.0 ≡ Some (Not c.args.other) = c.requires.1 ∙ ap (λ n. Some (Not (F n))) e in
    not-bit c.args.terms.now c.args.term c.args.other p c.requires.0 get (c.is_one_wide.ensures.means h) b
