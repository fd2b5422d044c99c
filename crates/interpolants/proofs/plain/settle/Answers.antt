use Rattle.interpolants.proofs.Settling.{merge-left, merge-neutral, merge-right, merge-other, merge-complement, merge-complemented}
use Rattle.interpolants.proofs.plain.settle.Goals as goal

pub returns-then-is_end : goal.returns-then-is_end
returns-then-is_end c = λ f g h i store. merge-left c.args.swallows (f store) (g store) (c.is_end.ensures c.if-is_end.true f h store)

pub returns-then-is_end-2 : goal.returns-then-is_end-2
returns-then-is_end-2 c =
    λ f g h i store. merge-neutral c.args.swallows (f store) (g store) (c.is_end-2.ensures c.if-is_end-2.true g i store)

pub returns-then-is_end-3 : goal.returns-then-is_end-3
returns-then-is_end-3 c = λ f g h i store. merge-right c.args.swallows (f store) (g store) (c.is_end-3.ensures c.if-is_end-3.true g i store)

pub returns-then-is_end-4 : goal.returns-then-is_end-4
returns-then-is_end-4 c = λ f g h i store. merge-other c.args.swallows (f store) (g store) (c.is_end-4.ensures c.if-is_end-4.true f h store)

pub returns-then-is_complement : goal.returns-then-is_complement
returns-then-is_complement c =
    λ f g h i store. merge-complement c.args.swallows (f store) (g store) (c.is_complement.ensures c.if-is_complement.true f g h i store)

pub returns-then-is_complement-2 : goal.returns-then-is_complement-2
returns-then-is_complement-2 c =
    λ f g h i store. merge-complemented c.args.swallows (f store) (g store) (c.is_complement-2.ensures c.if-is_complement-2.true g f i h store)
