use Rattle.std.proofs.Common.{rules, ◌≡◌, ◌∙◌, ℕ, Some, ap, refl, slice_get}
use Rattle.bv_term.specs.declared.term.TermId.{TermId}
use Rattle.bv_term.specs.declared.term.Term.TheVariants.{Select}
use Rattle.bv_term.specs.Values.{value}
use Rattle.truth_terms.specs.Truths.{is_one}
use Rattle.truth_terms.proofs.Bits.{choice-means}
use Rattle.truth_terms.proofs.truths.choice_in.Goals as goal

pub returns-clause-means : goal.returns-clause-means
returns-clause-means c = λ f m.
    let e : c.args.first.0 ≡ c.args.chosen.0 = search rules in
    let F : ℕ → TermId = λ n. record { 0 = n } in
    let get : slice_get c.args.terms.now.terms c.args.term.0 ≡ Some (Select c.args.bit c.args.chosen c.args.second) =
    c.requires.found.1 ∙ ap (λ n. Some (Select c.args.bit (F n) c.args.second)) e in
    choice-means c.args.terms.now c.args.term c.args.bit c.args.chosen c.args.second (is_one c.args.test) (λ s. value c.args.old.now s c.args.chosen) f
    c.requires.found.0 get (c.if-not-is_cell_bit.ensures.means refl) (c.if-not-is_old.ensures.means refl) m
