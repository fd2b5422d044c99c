use Rattle.std.proofs.Common.{◌≡◌, ◌<◌, ◌≤◌, ◌∙◌, ℕ, List, Option, length, get_or, Some, ltb-true, ap, sym, subst, arith}
use Rattle.std.specs.Prelude.{is_some, IfSome}
use Rattle.std.proofs.lemmas.Bool.Decides.{nat_tests}
use Rattle.call_inline.specs.Copying.{offset_in}
use Rattle.call_inline.proofs.Turning.{lists-end, lists-get}
use Rattle.call_inline.proofs.numbers.offset_in.Goals as goal

pub returns-in-None : goal.returns-in-None
returns-in-None c =
    let test = sym c.get.ensures.lookup.0 ∙ ap is_some c.in-None.is in
    let le : length c.args.offsets.now ≤ c.args.function = grind (arith, nat_tests) in
    sym (ap (λ (o : Option (List ℕ)). offset_in o c.args.node.0) (lists-end c.args.offsets.now c.args.function le))

pub returns-in-Some : goal.returns-in-Some
returns-in-Some c =
    let there : c.args.function < length c.args.offsets.now = ltb-true c.args.function (length c.args.offsets.now) (sym c.get.ensures.lookup.0 ∙ ap is_some c.in-Some.is) in
    let same : c.in-Some.offsets.now ≡ get_or c.args.offsets.now c.args.function c.in-Some.offsets.now =
    subst (λ o. IfSome o (λ x. x.now ≡ get_or c.args.offsets.now c.args.function x.now)) c.in-Some.is c.get.ensures.lookup.1 in
    c.offset_at.ensures ∙ ap (λ (xs : List ℕ). offset_in (Some xs) c.args.node.0) c.deref.ensures.value
    ∙ sym (ap (λ (o : Option (List ℕ)). offset_in o c.args.node.0) (lists-get c.args.offsets.now c.args.function c.in-Some.offsets.now there same))
