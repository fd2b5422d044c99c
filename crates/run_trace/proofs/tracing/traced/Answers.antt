use Rattle.std.proofs.Common.{◌≡◌, length, sym, ap, subst, ◌∙◌, pos, arith}
use Rattle.std.proofs.lemmas.List.{length-replicate}
use Rattle.std.specs.Prelude.{option_map}
use Rattle.c_run.specs.Run.{State}
use Rattle.c_typed.specs.Parts.{tree_of}
use Rattle.c_typed.specs.Run.{start_store}
use Rattle.slot_code.specs.Programs.{Code}
use Rattle.slot_values.specs.Seen.{link_of}
use Rattle.slot_compiler.specs.Seen.{code_of}
use Rattle.slot_laws.specs.Laws.{AreShaped}
use Rattle.slot_laws.proofs.Shaping.{shaped_code}
use Rattle.slot_machine.specs.Shapes.{all_fit}
use Rattle.slot_board.specs.Boards.{state_of}
use Rattle.slot_machine.proofs.Fitting.{typed_fit}
use Rattle.run_trace.specs.Runs.{followed, slots_for, follow, follow_main}
use Rattle.run_trace.proofs.Whole.{traced_code, traced_run, traced_ends}
use Rattle.run_trace.proofs.tracing.traced.Goals as goal

pub ran-requires-clause-sizes : goal.ran-requires-clause-sizes
ran-requires-clause-sizes c =
    let shaped : AreShaped (tree_of c.typed-typed.result.now).objects c.in_ok-code.code.instructions.items =
    subst (AreShaped (tree_of c.typed-typed.result.now).objects) (sym (ap (λ (z : Code). z.instructions) c.in_ok-code.ensures)) (shaped_code (tree_of c.typed-typed.result.now) c.order.result.now c.functions.ensures.typed) in
    ap (λ (s : State). all_fit s.store c.deref-2.result.now) c.in_ok-board.ensures.state
    ∙ ap (λ xs. all_fit (start_store (tree_of c.typed-typed.result.now).objects) xs) c.deref-2.ensures.value
    ∙ typed_fit (tree_of c.typed-typed.result.now) c.in_ok-code.code.instructions.items c.functions.ensures.typed shaped

pub ran-requires-clause-slots : goal.ran-requires-clause-slots
ran-requires-clause-slots c =
    let same = ap (λ xs. slots_for xs (option_map link_of c.in_ok-link.link)) (c.deref.ensures.value ∙ sym c.deref-2.ensures.value) in
    omega (arith, same, c.in_ok-slots.ensures, ap length c.in_ok-board.ensures.slots, length-replicate c.in_ok-slots.slots (pos 0))

pub returns : goal.returns
returns c =
    let run : followed c.in_ok-ending.ending c.ran.new.trail ≡ follow (tree_of c.args.examined.now.typed) c.args.examined.now.order c.args.inputs.now c.args.turns c.args.most =
    traced_run c.typed-typed.result.now c.args.examined.now.typed c.order.result.now c.args.examined.now.order c.functions.result.now c.model-model.result (code_of c.in_ok-code.code) (option_map link_of c.in_ok-link.link) c.deref.result.now
    c.in_ok-slots.slots c.in_ok-board.board.slots.items c.args.inputs.now c.args.turns c.args.most (state_of c.in_ok-board.board) c.new-trail.result (followed c.in_ok-ending.ending c.ran.new.trail)
    c.typed-typed.ensures.value c.order.ensures.value c.functions.ensures.value c.model-model.ensures.value c.in_ok-code.ensures c.in_ok-link.ensures c.deref.ensures.value c.in_ok-slots.ensures c.in_ok-board.ensures.slots c.in_ok-board.ensures.state c.new-trail.ensures
    (c.in_ok-ending.ensures ∙ ap (λ xs. follow_main c.model-model.result c.args.inputs.now xs (option_map link_of c.in_ok-link.link) c.in_ok-board.board.slots.items (state_of c.in_ok-board.board) c.new-trail.result) c.deref-2.ensures.value) in
    record {
      code = traced_code c.typed-typed.result.now c.args.examined.now.typed c.order.result.now c.args.examined.now.order (code_of c.in_ok-code.code) c.typed-typed.ensures.value c.order.ensures.value c.in_ok-code.ensures;
      run = run;
      ending = traced_ends c.typed-typed.result.now c.args.examined.now.typed c.order.result.now c.args.examined.now.order c.args.inputs.now c.args.turns c.args.most c.in_ok-ending.ending c.ran.new.trail c.typed-typed.ensures.value c.order.ensures.value
          c.functions.ensures.typed c.order.ensures.examined.ordered c.orders_agree.ensures run;
    }
