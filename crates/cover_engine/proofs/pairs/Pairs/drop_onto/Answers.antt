use Rattle.std.proofs.Common.{◌≡◌, ◌∙◌, ◌==◌, sym, ap, length, List, true}
use Rattle.std.proofs.lemmas.Bool.{eqb-true}
use Rattle.cover_engine.specs.Unwindings.{Pair}
use Rattle.cover_engine.specs.Units.{pairs_but_onto}
use Rattle.cover_engine.specs.Caches.{pairs_onto}
use Rattle.cover_engine.proofs.Onto.{all_stay_onto, empty_is, falls_enough, onto_falls, rights_onto}
use Rattle.cover_engine.proofs.pairs.Pairs.drop_onto.Goals as goal

pub returns-then-is_empty : goal.returns-then-is_empty
returns-then-is_empty c =
    all_stay_onto c.args.numbers.now c.args.self.now (sym c.requires ∙ empty_is c.args.fallen.now (eqb-true (length c.args.fallen.now) 0 (sym c.is_empty.ensures ∙ c.if-is_empty.true)))

pub lower_onto-requires : goal.lower_onto-requires
lower_onto-requires c =
    falls_enough c.self.inside.items.items (pairs_but_onto c.args.numbers.now c.self.inside.items.items) (pairs_onto c.args.numbers.now c.self.inside.items.items) c.args.fallen.now c.self.inside.onto.items c.self.invariant
    (rights_onto c.args.numbers.now c.self.inside.items.items) (c.requires ∙ sym (ap (λ (ps : List Pair). pairs_onto c.args.numbers.now ps) c.self.view_is))

pub invariant_of-self : goal.invariant_of-self
invariant_of-self c =
    let gone : c.args.fallen.now ≡ pairs_onto c.args.numbers.now c.self.inside.items.items = c.requires ∙ sym (ap (λ (ps : List Pair). pairs_onto c.args.numbers.now ps) c.self.view_is) in
    rw c.keep_others_onto.ensures (onto_falls c.self.inside.items.items (pairs_but_onto c.args.numbers.now c.self.inside.items.items) (pairs_onto c.args.numbers.now c.self.inside.items.items) c.args.fallen.now c.self.inside.onto.items c.lower_onto.new.counts.items c.self.invariant
    (rights_onto c.args.numbers.now c.self.inside.items.items) gone c.lower_onto.ensures)
