use Rattle.std.proofs.Common.{◌≡◌, ◌++◌, ◌∷◌, [], ℕ, ap, sym, ◌∙◌, subst, nat_eq}
use Rattle.std.specs.HashMap.{get}
use Rattle.bv_term.specs.declared.term.Term.{Term}
use Rattle.bv_term.specs.WellFormed.{FitsTable, IsWidth, with_term}
use Rattle.term_laws.specs.Operands.{renamed}
use Rattle.term_values.specs.declared.step.Source.{Source}
use Rattle.term_values.specs.Steps.{number_in, shape_of, source_of}
use Rattle.term_values.proofs.Placing.{next-fits, part-more}
use Rattle.term_values.proofs.part.place.Goals as goal

pub append-requires : goal.append-requires
append-requires c =
    let find = get nat_eq c.args.part.now.places in
    let step = renamed (number_in find) c.get.result in
    let shape : c.shape_of-shape.result ≡ shape_of (source_of step) c.width_of.result step =
    c.shape_of-shape.ensures ∙ ap (λ (s : Source). shape_of s c.width_of.result c.renumbered-step.result) c.source_of-source.ensures
    ∙ ap (λ (t : Term). shape_of (source_of t) c.width_of.result t) c.renumbered-step.ensures in
    let w = c.width_of.ensures.value in
    subst (FitsTable c.args.part.now.shapes) (sym (shape ∙ ap (λ (x : ℕ). shape_of (source_of step) x step) w))
    (next-fits c.args.terms.now c.args.part.now c.args.term.0 c.get.result c.count-count.ensures.table c.requires.part c.get.ensures
    (c.requires.whole c.get.result c.get.ensures) (subst IsWidth w c.width_of.ensures.width))

pub returns-clause-part : goal.returns-clause-part
returns-clause-part c =
    let find = get nat_eq c.args.part.now.places in
    let step = renamed (number_in find) c.get.result in
    let shape : c.shape_of-shape.result ≡ shape_of (source_of step) c.width_of.result step =
    c.shape_of-shape.ensures ∙ ap (λ (s : Source). shape_of s c.width_of.result c.renumbered-step.result) c.source_of-source.ensures
    ∙ ap (λ (t : Term). shape_of (source_of t) c.width_of.result t) c.renumbered-step.ensures in
    let w = c.width_of.ensures.value in
    part-more c.args.terms.now c.args.part.now (record { places = c.put_place.new.places; sources = c.push.new.self; shapes = c.append.new.self }) c.args.term.0
    c.in_ok-at.at.0 c.get.result c.count-count.ensures.table c.requires.part c.get.ensures (c.requires.whole c.get.result c.get.ensures)
    (c.in_ok-at.ensures.appended ∙ ap (with_term c.args.part.now.shapes) (shape ∙ ap (λ (x : ℕ). shape_of (source_of step) x step) w))
    (c.in_ok-push.ensures.items ∙ ap (λ (s : Source). c.args.part.now.sources.items ++ s ∷ []) (c.source_of-source.ensures ∙ ap source_of c.renumbered-step.ensures))
    c.in_ok-at.ensures.number c.in_ok-put_place.ensures
