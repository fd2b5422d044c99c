use Rattle.std.proofs.Common.{◌++◌, length, ap, ◌∙◌}
use Rattle.std.specs.Prelude.{map}
use Rattle.c_typed.specs.Parts.{tree_of}
use Rattle.c_typed.specs.View.{object_of, function_of, steps_of}
use Rattle.slot_code.specs.Slots.{slots_in}
use Rattle.slot_compiler.specs.Bodies.{code_of as laid_code}
use Rattle.slot_compiler.specs.Growing.{built_of}
use Rattle.slot_compiler.proofs.Building.{function_more, slots_more}
use Rattle.slot_compiler.proofs.programs.with_body.Goals as goal

pub returns-clause-code : goal.returns-clause-code
returns-clause-code c =
    function_more (tree_of c.args.typed.now) (built_of c.args.built) c.args.number (function_of c.args.function.now) c.model.result (map object_of c.objects.result.now) (map function_of c.functions.result.now)
    c.args.built.slots _ _ _ _ c.model.ensures.value (ap (map object_of) c.objects.ensures.value) (ap (map function_of) c.functions.ensures.value) c.requires
    (ap length c.as_slice-entry.ensures.value)
    (c.in_ok-own.ensures
    ∙ ap (λ z. laid_code c.model.result (map object_of c.objects.result.now) (map function_of c.functions.result.now) c.args.built.links c.args.function.now.result c.args.built.slots (length c.as_slice-entry.result.now) (steps_of z)) c.deref.ensures.value)
    (c.in_ok-extend_from_slice.ensures.items ∙ ap (λ z. c.args.built.instructions.items ++ z) c.deref-3.ensures.value)
    c.in_ok-links.ensures

pub returns-clause-slots : goal.returns-clause-slots
returns-clause-slots c =
    slots_more c.args.built.instructions.items c.in_ok-own.own.items c.extend_from_slice.new.self.items c.args.built.slots c.in_ok-slots_in.field-0 c.larger-slots.result
    c.requires (c.in_ok-slots_in.ensures ∙ ap slots_in c.deref-2.ensures.value) c.larger-slots.ensures (c.in_ok-extend_from_slice.ensures.items ∙ ap (λ z. c.args.built.instructions.items ++ z) c.deref-3.ensures.value)
