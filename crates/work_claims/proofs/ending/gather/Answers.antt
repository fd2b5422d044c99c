use Rattle.std.proofs.Common.{◌∙◌, sym, ap, subst, arith, ◌<◌, Some}
use Rattle.std.proofs.lemmas.List.Elements.{All-pop}
use Rattle.work_claims.specs.declared.knowledge.Hand.{Hand}
use Rattle.work_claims.specs.Seats.{IsOfTable, merged}
use Rattle.work_claims.proofs.Steps.{joins}
use Rattle.work_claims.proofs.Ends.{merged-snoc}
use Rattle.work_claims.proofs.ending.gather.Goals as goal

pub join_seat-requires : goal.join_seat-requires
join_seat-requires c =
    let l = c.loop-other in
    let it = c.in-Some.field-0 in
    let k = c.args.shared.now.key in
    let ours = All-pop (IsOfTable c.args.shared.now.table_id) l.others.items c.pop.new.self.items (Some it) c.in-Some.ensures.items l.invariant.3 in
    (l.invariant.0, ours.1, it.is_claimer.no_slot, c.requires.words, joins k l.seat.id it.seat.id l.seat.me.0 it.seat.me.0 l.invariant.2)

pub loop-other-preserved : goal.loop-other-preserved
loop-other-preserved c =
    let l = c.loop-other in
    let it = c.in-Some.field-0 in
    let e = c.join_seat.ensures in
    let is = ap (λ m. m.0) e.2 in
    let ours = All-pop (IsOfTable c.args.shared.now.table_id) l.others.items c.pop.new.self.items (Some it) c.in-Some.ensures.items l.invariant.3 in (
      e.0 ∙ l.invariant.0,
      ap (λ m. m.1) e.2 ∙ l.invariant.1,
      subst (λ (u : Hand). 0 < u.parts) (sym is) (omega (arith, l.invariant.2)),
      ours.0,
      ap (λ (u : Hand). merged u c.pop.new.self.items) is ∙ sym (merged-snoc l.seat.me.0 c.pop.new.self.items it) ∙ ap (merged l.seat.me.0) (sym c.in-Some.ensures.items) ∙ l.invariant.4,
    )
