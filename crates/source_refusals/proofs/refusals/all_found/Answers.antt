use Rattle.first_broken.specs.Seen.{found_of}
use Rattle.type_scopes.specs.Seen.{env_of}
use Rattle.source_refusals.proofs.Rows.{all_are}
use Rattle.source_refusals.proofs.refusals.all_found.Goals as goal

pub returns : goal.returns
returns c =
    all_are c.twice_told.ensures c.main_told.ensures c.items_summed.ensures (env_of c.args.env.now) c.args.model c.args.unit.now.items.items c.deref.result.now c.deref-4.result.now c.deref-5.result.now
    c.in_ok-bodies.bodies.items c.deref-3.result.now c.in_ok-lines.lines.items c.deref-2.result.now c.deref-6.result.now c.in_ok-offsets.field-0.items c.in_ok-again.again
    (found_of c.in_ok-items.items) (found_of c.summed-twice.result) (found_of c.in_ok-main.main) (found_of c.both.result) (found_of c.both-2.result)
    c.deref.ensures.value c.in_ok-bodies.ensures c.in_ok-lines.ensures c.deref-2.ensures.value c.in_ok-offsets.ensures c.deref-3.ensures.value c.in_ok-again.ensures c.deref-4.ensures.value c.in_ok-items.ensures
    c.deref-5.ensures.value c.in_ok-main.ensures c.deref-6.ensures.value c.summed-twice.ensures c.both.ensures c.both-2.ensures
