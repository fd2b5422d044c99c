use Rattle.std.proofs.Common.{ap, nat_eq, sym, ◌∙◌}
use Rattle.std.specs.HashMap.{get}
use Rattle.bit_blast.specs.declared.done.Done.{Done}
use Rattle.bit_blast.proofs.DoneLemmas.{look-found, look-none}
use Rattle.bit_blast.proofs.done.DoneTerms.lits.Goals as goal

pub returns-in-Some : goal.returns-in-Some
returns-in-Some c =
    c.deref-in-Some.ensures.value ∙ (ap (λ (d : Done). d.lits.items) c.index.ensures
    ∙ sym (look-found (get nat_eq c.self.inside.places) c.self.inside.done.items c.deref.result.now c.args.self.now c.args.term c.in-Some.place c.index.result.now
    c.self.invariant c.self.view_is c.deref.ensures.value c.in-Some.ensures.found).1)

pub returns-in-None : goal.returns-in-None
returns-in-None c =
    sym (look-none (get nat_eq c.self.inside.places) c.self.inside.done.items c.deref.result.now c.args.self.now c.args.term
    c.self.invariant c.self.view_is c.deref.ensures.value c.in-None.ensures.none).1
