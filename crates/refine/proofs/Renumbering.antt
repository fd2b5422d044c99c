-- Formulas of one bit under the new numbers of their terms.
use Rattle.std.proofs.Common.{◌≡◌, ◌<◌, List, [], ◌∷◌, length, map, arith, suc, ◌∙◌, All}
use Rattle.std.proofs.lemmas.List.Elements.{All-nil, All-cons}
use Rattle.bv_term.specs.declared.term.TermId.{TermId}
use Rattle.bv_term.specs.WellFormed.{Table}
use Rattle.c_graph.specs.Shape.{HasWidth}
use Rattle.reach_tree.specs.Trees.{IsLabel}
use Rattle.term_copy.specs.Copies.{AreCopies, number_in}

pub renumbered_bits : (from into : Table) (to fs : List TermId) → AreCopies from into to → length to ≡ length from.terms
    → All (λ t. HasWidth from t 1) fs → IsLabel into (map (number_in to) fs)
renumbered_bits from into to [] c e h = All-nil (λ (t : TermId). HasWidth into t 1)
renumbered_bits from into to (f ∷ fs) c e h =
    let p = h 0 f (omega arith) in
    let lt : f.0 < length to = omega (arith, p.0, e) in
    All-cons (λ (t : TermId). HasWidth into t 1) (number_in to f) (map (number_in to) fs) (c.there f lt, c.widths f lt ∙ p.1)
    (renumbered_bits from into to fs c e (λ k d l. h (suc k) d (omega (arith, l))))
