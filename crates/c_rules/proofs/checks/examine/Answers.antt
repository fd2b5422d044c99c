use Rattle.std.proofs.Common.{ap, sym, ◌∙◌, subst, ◌≡◌, List}
use Rattle.c_typed.specs.Parts.{tree_of}
use Rattle.call_order.specs.Seen.{all_calls, graph_of}
use Rattle.c_rules.specs.Gathered as g
use Rattle.c_rules.specs.Seen.{gathering_of}
use Rattle.first_broken.specs.Seen.{option_of}
use Rattle.c_rules.proofs.Examining.{known, is_bounded, has_no_cycle, is_examined, least_is}
use Rattle.c_rules.proofs.checks.examine.Goals as goal

pub order_of-requires-clause-bounded : goal.order_of-requires-clause-bounded
order_of-requires-clause-bounded c =
    is_bounded (tree_of c.args.typed) (gathering_of c.in_ok-gathered.gathered) c.deref.result.now c.functions.ensures.typed
    (known c.args.typed c.functions.result.now (gathering_of c.in_ok-gathered.gathered) c.functions.ensures.typed c.functions.ensures.value c.in_ok-gathered.ensures)
    (ap all_calls (sym c.deref.ensures.value))

pub order_of-requires-clause-acyclic : goal.order_of-requires-clause-acyclic
order_of-requires-clause-acyclic c =
    has_no_cycle (tree_of c.args.typed) (gathering_of c.in_ok-gathered.gathered) c.deref.result.now c.functions.ensures.typed
    (known c.args.typed c.functions.result.now (gathering_of c.in_ok-gathered.gathered) c.functions.ensures.typed c.functions.ensures.value c.in_ok-gathered.ensures)
    (ap all_calls (sym c.deref.ensures.value)) (ap option_of c.in-None.is)

pub new-requires : goal.new-requires
new-requires c =
    is_examined (tree_of c.args.typed) (gathering_of c.in_ok-gathered.gathered) c.deref.result.now c.in_ok-order-in-None.order.items c.functions.ensures.typed
    (known c.args.typed c.functions.result.now (gathering_of c.in_ok-gathered.gathered) c.functions.ensures.typed c.functions.ensures.value c.in_ok-gathered.ensures)
    (ap all_calls (sym c.deref.ensures.value)) (ap option_of c.in-None.is) c.in_ok-order-in-None.ensures.order c.in_ok-order-in-None.ensures.made

pub returns-in-Some-clause-refused : goal.returns-in-Some-clause-refused
returns-in-Some-clause-refused c =
    sym (least_is (tree_of c.args.typed) (gathering_of c.in_ok-gathered.gathered) c.functions.ensures.typed
    (known c.args.typed c.functions.result.now (gathering_of c.in_ok-gathered.gathered) c.functions.ensures.typed c.functions.ensures.value c.in_ok-gathered.ensures))
    ∙ ap option_of c.in-Some.is
