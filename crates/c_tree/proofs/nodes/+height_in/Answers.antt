use Rattle.std.proofs.Common.{rules, arith, ap, ◌∙◌}
use Rattle.c_tree.specs.Highest as most
use Rattle.c_tree.specs.declared.tree.Statement.TheViews.{the_lemmas}
use Rattle.c_tree.proofs.Heights.{height_Block}
use Rattle.c_tree.proofs.nodes.+height_in.Goals as goal

pub height_of_statement-height_of_statements-requires : goal.height_of_statement-height_of_statements-requires
height_of_statement-height_of_statements-requires t c =
    let e = ap most.statement_height c.in-Block.is ∙ height_Block c.in-Block.field-0 c.in-Block.statements c.in-Block.field-2 in
    let p = ap (most.highest most.statement_height) c.deref.ensures.value in
    (search (rules, the_lemmas), omega (arith, e, p, c.requires))

pub height_of_statement-overflow_add-result : goal.height_of_statement-overflow_add-result
height_of_statement-overflow_add-result t c =
    let e = ap most.statement_height c.in-Block.is ∙ height_Block c.in-Block.field-0 c.in-Block.statements c.in-Block.field-2 in
    let p = ap (most.highest most.statement_height) c.deref.ensures.value in
    omega (arith, e, p, c.requires, c.height_of_statements.ensures)

pub height_of_statement-returns-in-Block : goal.height_of_statement-returns-in-Block
height_of_statement-returns-in-Block t c =
    let e = ap most.statement_height c.in-Block.is ∙ height_Block c.in-Block.field-0 c.in-Block.statements c.in-Block.field-2 in
    let p = ap (most.highest most.statement_height) c.deref.ensures.value in
    omega (arith, e, p, c.requires, c.height_of_statements.ensures)
