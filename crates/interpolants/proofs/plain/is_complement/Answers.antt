use Rattle.std.proofs.Common.{◌≡◌, Some, slice_get, ap, ◌∙◌}
use Rattle.std.proofs.lemmas.Bool.{eqb-true}
use Rattle.bv_term.specs.declared.term.Term.{Term}
use Rattle.bv_term.specs.declared.term.Term.TheVariants.{Not}
use Rattle.interpolants.proofs.Settling.{complement-of}
use Rattle.interpolants.proofs.plain.is_complement.Goals as goal

pub returns-in-Not : goal.returns-in-Not
returns-in-Not c =
    let s : slice_get c.args.terms.now.terms c.args.term.0 ≡ Some (Not c.in-Not.inner) = c.get.ensures ∙ ap (λ (t : Term). Some t) c.in-Not.is in
    λ e f g h i store. complement-of _ _ _ _ f g c.count-count.ensures.table s (eqb-true _ _ e) h i store
