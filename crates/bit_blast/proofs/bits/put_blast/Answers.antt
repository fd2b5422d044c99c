use Rattle.std.proofs.Common.{◌≡◌, ◌∙◌, ap, List, ℕ}
use Rattle.bit_blast.specs.Cone.{cone_of}
use Rattle.bit_blast.specs.Emission.{emitted}
use Rattle.bit_blast.proofs.Cones.{cone-there, cone-ready, blast-over}
use Rattle.bit_blast.proofs.bits.put_blast.Goals as goal

pub put_terms-requires-clause-there : goal.put_terms-requires-clause-there
put_terms-requires-clause-there c =
    cone-there c.args.terms.now c.in_ok-lit.lit c.args.cells.now c.put_one.new.net.next c.args.done.now c.args.term
    c.count-all.ensures.table c.requires.over.cells c.requires.over.done c.requires.there c.deref.result.now (c.deref.ensures.value ∙ c.in_ok-found.ensures)

pub put_terms-requires-clause-ready : goal.put_terms-requires-clause-ready
put_terms-requires-clause-ready c =
    cone-ready c.args.terms.now c.in_ok-lit.lit c.args.cells.now c.put_one.new.net.next c.args.done.now c.args.term
    c.count-all.ensures.table c.requires.over.cells c.requires.over.done c.requires.there c.deref.result.now (c.deref.ensures.value ∙ c.in_ok-found.ensures)

pub returns-clause-over : goal.returns-clause-over
returns-clause-over c =
    let cells = c.args.cells.now in
    let f : c.deref.result.now ≡ cone_of c.args.terms.now.terms c.args.done.now c.args.term = c.deref.ensures.value ∙ c.in_ok-found.ensures in
    let e = c.in_ok-put_terms.ensures.grew.1
    ∙ ap (λ (t : List ℕ). (emitted c.in_ok-lit.lit cells c.args.terms.now.terms c.put_one.new.net.next c.args.done.now t).done) f in
    (blast-over c.args.terms.now c.in_ok-lit.lit cells c.put_one.new.net.next c.args.net.now.next c.args.one.now _ c.args.done.now c.put_terms.new.done c.args.term
    c.count-all.ensures.table c.requires.over c.requires.there e c.put_terms.new.net.next).0

pub returns-clause-done : goal.returns-clause-done
returns-clause-done c =
    let cells = c.args.cells.now in
    let f : c.deref.result.now ≡ cone_of c.args.terms.now.terms c.args.done.now c.args.term = c.deref.ensures.value ∙ c.in_ok-found.ensures in
    let e = c.in_ok-put_terms.ensures.grew.1
    ∙ ap (λ (t : List ℕ). (emitted c.in_ok-lit.lit cells c.args.terms.now.terms c.put_one.new.net.next c.args.done.now t).done) f in
    (blast-over c.args.terms.now c.in_ok-lit.lit cells c.put_one.new.net.next c.args.net.now.next c.args.one.now c.args.one.now c.args.done.now c.put_terms.new.done c.args.term
    c.count-all.ensures.table c.requires.over c.requires.there e c.put_terms.new.net.next).1
