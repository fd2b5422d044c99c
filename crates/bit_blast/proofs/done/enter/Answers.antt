use Rattle.std.proofs.Common.{rules, ◌≡◌, length, map, nat_eq, sym, subst, List}
use Rattle.std.specs.HashMap.{get}
use Rattle.bit_blast.specs.declared.done.Done.{Done}
use Rattle.bit_blast.specs.Done.{Placed}
use Rattle.bit_blast.specs.Places.{known}
use Rattle.bit_blast.proofs.DoneLemmas.{placed-beside, placed-enter, placed-same}
use Rattle.bit_blast.proofs.done.enter.Goals as goal

pub returns-in_err-put_place-clause-placed : goal.returns-in_err-put_place-clause-placed
returns-in_err-put_place-clause-placed c =
    placed-same (get nat_eq c.args.places.now) (get nat_eq c.put_place.new.places) 0 (map known c.args.done.now.items) c.requires.placed c.in_err-put_place.ensures.same

pub returns-in_err-push_done-clause-placed : goal.returns-in_err-push_done-clause-placed
returns-in_err-push_done-clause-placed c =
    subst (λ (t : List Done). Placed (get nat_eq c.put_place.new.places) 0 (map known t)) (sym c.in_err-push_done.ensures.same)
    (placed-beside (get nat_eq c.args.places.now) (get nat_eq c.put_place.new.places) c.len-at.result 0 (map known c.args.done.now.items) c.args.term
    c.requires.placed c.requires.fresh c.in_ok-put_place.ensures.found)

pub returns-clause-placed : goal.returns-clause-placed
returns-clause-placed c =
    let one : Done = record { term = c.args.term; lits = c.args.lits } in
    let n : c.len-at.result ≡ length c.args.done.now.items = search rules in
    placed-enter (get nat_eq c.args.places.now) (get nat_eq c.put_place.new.places) c.args.done.now.items c.push_done.new.done.items one c.len-at.result
    c.requires.placed c.requires.fresh c.in_ok-put_place.ensures.found n c.in_ok-push_done.ensures.items
