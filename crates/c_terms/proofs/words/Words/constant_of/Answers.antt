use Rattle.std.proofs.Common.{◌∙◌, ap, arith}
use Rattle.std.specs.Int.{w128}
use Rattle.std.proofs.lemmas.Int.{to_z-of_z}
use Rattle.lv_base.specs.Integers.{residue}
use Rattle.bv_term.specs.declared.term.Term.TheVariants.{Constant}
use Rattle.c_terms.specs.Made as made
use Rattle.c_terms.proofs.Putting.{gives-constant}
use Rattle.c_terms.proofs.Slots.{residue_below}
use Rattle.c_terms.proofs.Choosing.{thus}
use Rattle.c_terms.proofs.words.Words.constant_of.Goals as goal

pub returns-clause-shows : goal.returns-clause-shows
returns-clause-shows c = λ s w e low high.
    let same = c.low_bits.ensures.value (omega (arith, e, high)) ∙ ap (residue c.args.width) (to_z-of_z w128 c.args.value c.ranges.value) ∙ ap (λ n. residue n c.args.value) e in
    c.put.ensures.shows s _ _ (gives-constant _ s _ w _ _ e same low (omega (arith, high)) (residue_below w c.args.value))

pub returns-clause-made : goal.returns-clause-made
returns-clause-made c = thus _ _ _ _ c.put.ensures.made (ap (λ n. made.put c.args.self.now (Constant c.args.width n)) (c.low_bits.ensures.made ∙ ap (made.low_bits c.args.width) (to_z-of_z w128 c.args.value c.ranges.value)))
