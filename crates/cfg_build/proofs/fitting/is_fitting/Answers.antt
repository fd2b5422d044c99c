use Rattle.std.proofs.Common.{◌<◌, length, map, sym, subst, rules, List}
use Rattle.std.specs.Prelude.{IfOk, IsTrue}
use Rattle.c_typed.specs.View.{object_of}
use Rattle.slot_code.specs.declared.flat.Instruction.{Instruction}
use Rattle.slot_values.specs.declared.scene.Link.{Link}
use Rattle.slot_values.specs.Linked.{links_of}
use Rattle.cfg_build.specs.Fitting.{AreFit, CallsEnter}
use Rattle.cfg_build.proofs.Entering.{fits-with}
use Rattle.cfg_build.proofs.fitting.is_fitting.Goals as goal

pub returns-clause-fitting : goal.returns-clause-fitting
returns-clause-fitting c = λ model.
    let passed : IsTrue c.are_fit.result = search rules in
    let fit : AreFit model (map object_of c.args.objects.now) c.args.code.now.instructions.items =
    subst (λ (xs : List Instruction). AreFit model (map object_of c.args.objects.now) xs) c.deref.ensures.value ((c.are_fit.ensures model).0 passed) in
    let few : length c.args.code.now.instructions.items < 18446744073709551616 = subst (λ (xs : List Instruction). length xs < 18446744073709551616) c.deref.ensures.value c.deref.type_inv.0 in
    let enters : IfOk c.calls_enter.result (λ b. IsTrue b → CallsEnter (links_of c.args.code.now.links.items) c.args.code.now.instructions.items) =
    subst (λ (ls : List Link). IfOk c.calls_enter.result (λ b. IsTrue b → CallsEnter (links_of ls) c.args.code.now.instructions.items)) c.deref-2.ensures.value
    (subst (λ (xs : List Instruction). IfOk c.calls_enter.result (λ b. IsTrue b → CallsEnter (links_of c.deref-2.result.now) xs)) c.deref-3.ensures.value c.calls_enter.ensures.enter) in
    fits-with c.calls_enter.result _ _ _ fit few enters

pub returns-then-not-are_fit-clause-whole : goal.returns-then-not-are_fit-clause-whole
returns-then-not-are_fit-clause-whole c = λ model fit s h.
    (c.if-not-are_fit.ensures model).1 (subst (λ (xs : List Instruction). AreFit model (map object_of c.args.objects.now) xs) (sym c.deref.ensures.value) fit)
