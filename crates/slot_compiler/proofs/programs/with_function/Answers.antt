use Rattle.std.proofs.Common.{◌≡◌, ◌<◌, ◌∙◌, length, get_or, Some, ltb-true, ap, sym, subst}
use Rattle.std.specs.Prelude.{map, is_some, IfSome}
use Rattle.c_typed.specs.View.{function_of}
use Rattle.c_typed.specs.Parts.{tree_of}
use Rattle.slot_compiler.specs.Growing.{built_of}
use Rattle.slot_compiler.proofs.Building.{fetched, function_found}
use Rattle.slot_compiler.proofs.programs.with_function.Goals as goal

pub returns-in-Some-clause-code : goal.returns-in-Some-clause-code
returns-in-Some-clause-code c =
    let there : c.args.number < length c.functions.result.now = ltb-true c.args.number (length c.functions.result.now) (sym c.get.ensures.lookup.0 ∙ ap is_some c.in-Some.is) in
    let same : c.in-Some.function.now ≡ get_or c.functions.result.now c.args.number c.in-Some.function.now = subst (λ o. IfSome o (λ x. x.now ≡ get_or c.functions.result.now c.args.number x.now)) c.in-Some.is c.get.ensures.lookup.1 in
    function_found (λ b. built_of b) (tree_of c.args.typed.now) (built_of c.args.built) c.args.number c.functions.result.now c.in-Some.function.now c.with_body.result
    (sym (ap (map function_of) c.functions.ensures.value)) (fetched c.functions.result.now c.args.number c.in-Some.function.now there ∙ ap Some (sym same)) c.with_body.ensures.code
