use Rattle.c_terms.proofs.Putting.{after, equals}
use Rattle.c_terms.proofs.Finding.{over}
use Rattle.c_terms.specs.Numbers.{narrowed}
use Rattle.c_terms.specs.Operations.{operation}
use Rattle.c_terms.specs.declared.arithmetic.Operands.{Operands}
use Rattle.c_terms.specs.declared.words.Words.{Words}
use Rattle.c_terms.proofs.Choosing.{thus}
use Rattle.std.proofs.Common.{ap}
use Rattle.c_terms.specs.Made as term
use Rattle.code_moves.proofs.ground.Ground.applied.Goals as goal

pub returns-clause-shows : goal.returns-clause-shows
returns-clause-shows c = λ s a b h k.
    let o = c.in_ok-operands.ensures in
    equals _ _ _ s 64 _ _ (over (λ kind model. operation c.args.op kind model (narrowed c.args.kind c.args.self.now.model a) (narrowed c.args.kind c.args.self.now.model b)) _ _ _ _ o.kind o.model)
    (after _ _ _ _ s 64 _ (o.grows s a b h k) (c.value.ensures.shows s _ _ _ (o.pair s a b h k)))

pub returns-clause-made : goal.returns-clause-made
returns-clause-made c = thus _ _ _ _ c.value.ensures.made (ap (λ (p : Words × Operands). term.value p.0 p.1 c.args.op) c.in_ok-operands.ensures.made)
