use Rattle.std.proofs.Common.{nat_eq, sym}
use Rattle.std.specs.HashMap.{get}
use Rattle.bit_blast.proofs.DoneLemmas.{has-found, look-none}
use Rattle.bit_blast.proofs.done.DoneTerms.has.Goals as goal

pub returns-in-Some : goal.returns-in-Some
returns-in-Some c =
    sym (has-found (get nat_eq c.self.inside.places) c.self.inside.done.items c.deref.result.now c.args.self.now c.args.term c.in-Some.field-0
    c.self.invariant c.self.view_is c.deref.ensures.value c.in-Some.ensures.found)

pub returns-in-None : goal.returns-in-None
returns-in-None c =
    sym (look-none (get nat_eq c.self.inside.places) c.self.inside.done.items c.deref.result.now c.args.self.now c.args.term
    c.self.invariant c.self.view_is c.deref.ensures.value c.in-None.ensures.none).0
