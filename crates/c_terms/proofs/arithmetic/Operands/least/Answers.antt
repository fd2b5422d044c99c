use Rattle.std.proofs.Common.{◌∙◌, ◌^◌, ◌-◌, ap, arith, ℕ}
use Rattle.bv_term.specs.declared.term.Term.TheVariants.{Constant}
use Rattle.c_terms.specs.Made as made
use Rattle.c_terms.proofs.Putting.{gives-constant}
use Rattle.c_terms.proofs.Slots.{half_below, width_some, width_most}
use Rattle.c_terms.proofs.Choosing.{thus, two}
use Rattle.c_terms.proofs.arithmetic.Operands.least.Goals as goal

pub returns-clause-shows : goal.returns-clause-shows
returns-clause-shows c = λ s.
    c.put.ensures.shows s _ _ (gives-constant _ s _ _ _ _ c.bits-bits.ensures.value (c.power.ensures ∙ ap (λ n. 2 ^ (n - 1)) c.bits-bits.ensures.value) (width_some _ _) (omega (arith, width_most c.args.self.now.kind c.args.self.now.model)) (half_below _ _))

pub returns-clause-made : goal.returns-clause-made
returns-clause-made c = thus _ _ _ _ c.put.ensures.made (two (λ (n m : ℕ). made.put c.args.words.now (Constant n m)) c.bits-bits.ensures.value (c.power.ensures ∙ ap (λ n. 2 ^ (n - 1)) c.bits-bits.ensures.value))
