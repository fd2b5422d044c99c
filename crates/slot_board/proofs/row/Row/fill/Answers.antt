use Rattle.std.proofs.Common.{◌≡◌, refl, subst, length, set, sym, ◌∙◌, ap, arith, rules, ◌+◌}
use Rattle.std.proofs.lemmas.List.{length-set}
use Rattle.slot_board.specs.Seen.{state, seen}
use Rattle.slot_board.proofs.Elements.{Drawing, fill_first, fill_more, fill_done, fill_over}
use Rattle.slot_board.proofs.Answering.{gave_value}
use Rattle.c_run.specs.Run.{draw}
use Rattle.slot_board.proofs.row.Row.fill.Goals as goal

pub elements-init : goal.elements-init
elements-init c = (refl, λ store turns. fill_first c.args.inputs.now c.args.model c.args.kind (length c.args.self.now) c.args.self.now (state store c.args.taken.now turns))

pub returns-in-Err-clause-values : goal.returns-in-Err-clause-values
returns-in-Err-clause-values c = λ store turns.
    sym (fill_over c.args.inputs.now c.args.model c.args.kind (length c.args.self.now) c.elements.index c.elements.self (state store c.args.taken.now turns) (state store c.elements.taken turns) c.in-Err.ending
    (omega (arith, c.elements.invariant.0)) (c.elements.invariant.1 store turns) (sym (c.in-Err.ensures store turns)))

pub elements-preserved : goal.elements-preserved
elements-preserved c =
    let e : c.set.new.self ≡ set c.elements.self c.elements.index c.in-Ok.value = search rules in (
      ap length e ∙ length-set c.elements.self c.elements.index c.in-Ok.value ∙ c.elements.invariant.0,
      λ store turns.
          subst (λ xs. Drawing c.args.inputs.now c.args.model c.args.kind (length c.args.self.now) (c.elements.index + 1) xs (state store c.args.taken.now turns) (state store c.draw.new.taken turns)) (sym e)
          (fill_more c.args.inputs.now c.args.model c.args.kind (length c.args.self.now) c.elements.index c.elements.self c.in-Ok.value (state store c.args.taken.now turns) (state store c.elements.taken turns) (state store c.draw.new.taken turns)
          (omega (arith, c.elements.invariant.0)) c.elements.invariant.0 (c.elements.invariant.1 store turns) (gave_value (draw c.args.inputs.now c.args.model c.args.kind (state store c.elements.taken turns)) _ _ (sym (c.in-Ok.ensures store turns)))),
    )

pub returns-clause-values : goal.returns-clause-values
returns-clause-values c = λ store turns.
    sym (ap seen (fill_done c.args.inputs.now c.args.model c.args.kind (length c.args.self.now) c.elements.index c.elements.self (state store c.args.taken.now turns) (state store c.elements.taken turns)
    (omega (arith, c.elements.invariant.0)) c.elements.invariant.0 (c.elements.invariant.1 store turns)))
