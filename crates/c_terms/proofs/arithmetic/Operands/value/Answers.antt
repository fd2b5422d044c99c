use Rattle.std.proofs.Common.{refl, arith}
use Rattle.c_terms.proofs.arithmetic.Operands.value.Goals as goal

pub returns-in-OrElse-clause-shows : goal.returns-in-OrElse-clause-shows
returns-in-OrElse-clause-shows c = λ s a b x h. rw c.in-OrElse.is (c.zero.ensures.shows s 64 refl (omega arith) (omega arith))

pub returns-in-AndAlso-clause-shows : goal.returns-in-AndAlso-clause-shows
returns-in-AndAlso-clause-shows c = λ s a b x h. rw c.in-AndAlso.is (c.zero-in-AndAlso.ensures.shows s 64 refl (omega arith) (omega arith))

pub returns-in-BitOr-clause-shows : goal.returns-in-BitOr-clause-shows
returns-in-BitOr-clause-shows c = λ s a b x h. rw c.in-BitOr.is (c.either.ensures.shows s a b x h)

pub returns-in-BitXor-clause-shows : goal.returns-in-BitXor-clause-shows
returns-in-BitXor-clause-shows c = λ s a b x h. rw c.in-BitXor.is (c.differ.ensures.shows s a b x h)

pub returns-in-BitAnd-clause-shows : goal.returns-in-BitAnd-clause-shows
returns-in-BitAnd-clause-shows c = λ s a b x h. rw c.in-BitAnd.is (c.both.ensures.shows s a b x h)

pub returns-in-Equal-clause-shows : goal.returns-in-Equal-clause-shows
returns-in-Equal-clause-shows c = λ s a b x h. rw c.in-Equal.is (c.equal.ensures.shows s a b x h)

pub returns-in-NotEqual-clause-shows : goal.returns-in-NotEqual-clause-shows
returns-in-NotEqual-clause-shows c = λ s a b x h. rw c.in-NotEqual.is (c.unequal.ensures.shows s a b x h)

pub returns-in-Less-clause-shows : goal.returns-in-Less-clause-shows
returns-in-Less-clause-shows c = λ s a b x h. rw c.in-Less.is (c.less.ensures.shows s a b x h)

pub returns-in-Greater-clause-shows : goal.returns-in-Greater-clause-shows
returns-in-Greater-clause-shows c = λ s a b x h. rw c.in-Greater.is (c.greater.ensures.shows s a b x h)

pub returns-in-LessEqual-clause-shows : goal.returns-in-LessEqual-clause-shows
returns-in-LessEqual-clause-shows c = λ s a b x h. rw c.in-LessEqual.is (c.at_most.ensures.shows s a b x h)

pub returns-in-GreaterEqual-clause-shows : goal.returns-in-GreaterEqual-clause-shows
returns-in-GreaterEqual-clause-shows c = λ s a b x h. rw c.in-GreaterEqual.is (c.at_least.ensures.shows s a b x h)

pub returns-in-ShiftLeft-clause-shows : goal.returns-in-ShiftLeft-clause-shows
returns-in-ShiftLeft-clause-shows c = λ s a b x h. rw c.in-ShiftLeft.is (c.shifted_left.ensures.shows s a b x h)

pub returns-in-ShiftRight-clause-shows : goal.returns-in-ShiftRight-clause-shows
returns-in-ShiftRight-clause-shows c = λ s a b x h. rw c.in-ShiftRight.is (c.shifted_right.ensures.shows s a b x h)

pub returns-in-Add-clause-shows : goal.returns-in-Add-clause-shows
returns-in-Add-clause-shows c = λ s a b x h. rw c.in-Add.is (c.sum.ensures.shows s a b x h)

pub returns-in-Subtract-clause-shows : goal.returns-in-Subtract-clause-shows
returns-in-Subtract-clause-shows c = λ s a b x h. rw c.in-Subtract.is (c.difference.ensures.shows s a b x h)

pub returns-in-Multiply-clause-shows : goal.returns-in-Multiply-clause-shows
returns-in-Multiply-clause-shows c = λ s a b x h. rw c.in-Multiply.is (c.product.ensures.shows s a b x h)

pub returns-in-Divide-clause-shows : goal.returns-in-Divide-clause-shows
returns-in-Divide-clause-shows c = λ s a b x h. rw c.in-Divide.is (c.quotient.ensures.shows s a b x h)

pub returns-in-Remainder-clause-shows : goal.returns-in-Remainder-clause-shows
returns-in-Remainder-clause-shows c = λ s a b x h. rw c.in-Remainder.is (c.remainder.ensures.shows s a b x h)

pub returns-in-OrElse-clause-made : goal.returns-in-OrElse-clause-made
returns-in-OrElse-clause-made c = rw c.in-OrElse.is c.zero.ensures.made

pub returns-in-AndAlso-clause-made : goal.returns-in-AndAlso-clause-made
returns-in-AndAlso-clause-made c = rw c.in-AndAlso.is c.zero-in-AndAlso.ensures.made

pub returns-in-BitOr-clause-made : goal.returns-in-BitOr-clause-made
returns-in-BitOr-clause-made c = rw c.in-BitOr.is c.either.ensures.made

pub returns-in-BitXor-clause-made : goal.returns-in-BitXor-clause-made
returns-in-BitXor-clause-made c = rw c.in-BitXor.is c.differ.ensures.made

pub returns-in-BitAnd-clause-made : goal.returns-in-BitAnd-clause-made
returns-in-BitAnd-clause-made c = rw c.in-BitAnd.is c.both.ensures.made

pub returns-in-Equal-clause-made : goal.returns-in-Equal-clause-made
returns-in-Equal-clause-made c = rw c.in-Equal.is c.equal.ensures.made

pub returns-in-NotEqual-clause-made : goal.returns-in-NotEqual-clause-made
returns-in-NotEqual-clause-made c = rw c.in-NotEqual.is c.unequal.ensures.made

pub returns-in-Less-clause-made : goal.returns-in-Less-clause-made
returns-in-Less-clause-made c = rw c.in-Less.is c.less.ensures.made

pub returns-in-Greater-clause-made : goal.returns-in-Greater-clause-made
returns-in-Greater-clause-made c = rw c.in-Greater.is c.greater.ensures.made

pub returns-in-LessEqual-clause-made : goal.returns-in-LessEqual-clause-made
returns-in-LessEqual-clause-made c = rw c.in-LessEqual.is c.at_most.ensures.made

pub returns-in-GreaterEqual-clause-made : goal.returns-in-GreaterEqual-clause-made
returns-in-GreaterEqual-clause-made c = rw c.in-GreaterEqual.is c.at_least.ensures.made

pub returns-in-ShiftLeft-clause-made : goal.returns-in-ShiftLeft-clause-made
returns-in-ShiftLeft-clause-made c = rw c.in-ShiftLeft.is c.shifted_left.ensures.made

pub returns-in-ShiftRight-clause-made : goal.returns-in-ShiftRight-clause-made
returns-in-ShiftRight-clause-made c = rw c.in-ShiftRight.is c.shifted_right.ensures.made

pub returns-in-Add-clause-made : goal.returns-in-Add-clause-made
returns-in-Add-clause-made c = rw c.in-Add.is c.sum.ensures.made

pub returns-in-Subtract-clause-made : goal.returns-in-Subtract-clause-made
returns-in-Subtract-clause-made c = rw c.in-Subtract.is c.difference.ensures.made

pub returns-in-Multiply-clause-made : goal.returns-in-Multiply-clause-made
returns-in-Multiply-clause-made c = rw c.in-Multiply.is c.product.ensures.made

pub returns-in-Divide-clause-made : goal.returns-in-Divide-clause-made
returns-in-Divide-clause-made c = rw c.in-Divide.is c.quotient.ensures.made

pub returns-in-Remainder-clause-made : goal.returns-in-Remainder-clause-made
returns-in-Remainder-clause-made c = rw c.in-Remainder.is c.remainder.ensures.made
