use Rattle.c_terms.proofs.Finding.{found-never}
use Rattle.std.proofs.Common.{refl}
use Rattle.code_moves.proofs.ground.Ground.checks.Goals as goal

pub returns-in-Element-clause-shows : goal.returns-in-Element-clause-shows
returns-in-Element-clause-shows c = λ s h. rw c.in-Element.is (c.index_test.ensures.shows s h)

pub returns-in-Locate-clause-shows : goal.returns-in-Locate-clause-shows
returns-in-Locate-clause-shows c = λ s h. rw c.in-Locate.is (c.index_test-in-Locate.ensures.shows s h)

pub returns-in-Negate-clause-shows : goal.returns-in-Negate-clause-shows
returns-in-Negate-clause-shows c = λ s h. rw c.in-Negate.is (c.negation_test.ensures.shows s h)

pub returns-in-Binary-clause-shows : goal.returns-in-Binary-clause-shows
returns-in-Binary-clause-shows c = λ s h. rw c.in-Binary.is (c.binary_tests.ensures.shows s h)

pub returns-in-Update-clause-shows : goal.returns-in-Update-clause-shows
returns-in-Update-clause-shows c = λ s h. rw c.in-Update.is (c.update_tests.ensures.shows s h)

pub returns-in-Change-clause-shows : goal.returns-in-Change-clause-shows
returns-in-Change-clause-shows c = λ s h. rw c.in-Change.is (c.change_tests.ensures.shows s h)

pub returns-in-Take-clause-shows : goal.returns-in-Take-clause-shows
returns-in-Take-clause-shows c = λ s h. rw c.in-Take.is (c.missing_test.ensures.shows s h)

pub returns-in-Constant-clause-shows : goal.returns-in-Constant-clause-shows
returns-in-Constant-clause-shows c = λ s h. rw c.in-Constant.is (found-never _ s)

pub returns-in-Read-clause-shows : goal.returns-in-Read-clause-shows
returns-in-Read-clause-shows c = λ s h. rw c.in-Read.is (found-never _ s)

pub returns-in-Load-clause-shows : goal.returns-in-Load-clause-shows
returns-in-Load-clause-shows c = λ s h. rw c.in-Load.is (found-never _ s)

pub returns-in-Store-clause-shows : goal.returns-in-Store-clause-shows
returns-in-Store-clause-shows c = λ s h. rw c.in-Store.is (found-never _ s)

pub returns-in-Convert-clause-shows : goal.returns-in-Convert-clause-shows
returns-in-Convert-clause-shows c = λ s h. rw c.in-Convert.is (found-never _ s)

pub returns-in-Complement-clause-shows : goal.returns-in-Complement-clause-shows
returns-in-Complement-clause-shows c = λ s h. rw c.in-Complement.is (found-never _ s)

pub returns-in-Not-clause-shows : goal.returns-in-Not-clause-shows
returns-in-Not-clause-shows c = λ s h. rw c.in-Not.is (found-never _ s)

pub returns-in-Truth-clause-shows : goal.returns-in-Truth-clause-shows
returns-in-Truth-clause-shows c = λ s h. rw c.in-Truth.is (found-never _ s)

pub returns-in-Draw-clause-shows : goal.returns-in-Draw-clause-shows
returns-in-Draw-clause-shows c = λ s h. rw c.in-Draw.is (found-never _ s)

pub returns-in-Fill-clause-shows : goal.returns-in-Fill-clause-shows
returns-in-Fill-clause-shows c = λ s h. rw c.in-Fill.is (found-never _ s)

pub returns-in-Begin-clause-shows : goal.returns-in-Begin-clause-shows
returns-in-Begin-clause-shows c = λ s h. rw c.in-Begin.is (found-never _ s)

pub returns-in-Bind-clause-shows : goal.returns-in-Bind-clause-shows
returns-in-Bind-clause-shows c = λ s h. rw c.in-Bind.is (found-never _ s)

pub returns-in-Jump-clause-shows : goal.returns-in-Jump-clause-shows
returns-in-Jump-clause-shows c = λ s h. rw c.in-Jump.is (found-never _ s)

pub returns-in-Turn-clause-shows : goal.returns-in-Turn-clause-shows
returns-in-Turn-clause-shows c = λ s h. rw c.in-Turn.is (found-never _ s)

pub returns-in-SkipZero-clause-shows : goal.returns-in-SkipZero-clause-shows
returns-in-SkipZero-clause-shows c = λ s h. rw c.in-SkipZero.is (found-never _ s)

pub returns-in-SkipEqual-clause-shows : goal.returns-in-SkipEqual-clause-shows
returns-in-SkipEqual-clause-shows c = λ s h. rw c.in-SkipEqual.is (found-never _ s)

pub returns-in-Call-clause-shows : goal.returns-in-Call-clause-shows
returns-in-Call-clause-shows c = λ s h. rw c.in-Call.is (found-never _ s)

pub returns-in-Return-clause-shows : goal.returns-in-Return-clause-shows
returns-in-Return-clause-shows c = λ s h. rw c.in-Return.is (found-never _ s)

pub returns-in-Fail-clause-shows : goal.returns-in-Fail-clause-shows
returns-in-Fail-clause-shows c = λ s h. rw c.in-Fail.is (found-never _ s)

pub returns-in-Stop-clause-shows : goal.returns-in-Stop-clause-shows
returns-in-Stop-clause-shows c = λ s h. rw c.in-Stop.is (found-never _ s)

pub returns-in-Constant-clause-made : goal.returns-in-Constant-clause-made
returns-in-Constant-clause-made c = rw c.in-Constant.is refl

pub returns-in-Read-clause-made : goal.returns-in-Read-clause-made
returns-in-Read-clause-made c = rw c.in-Read.is refl

pub returns-in-Element-clause-made : goal.returns-in-Element-clause-made
returns-in-Element-clause-made c = rw c.in-Element.is c.index_test.ensures.made

pub returns-in-Load-clause-made : goal.returns-in-Load-clause-made
returns-in-Load-clause-made c = rw c.in-Load.is refl

pub returns-in-Store-clause-made : goal.returns-in-Store-clause-made
returns-in-Store-clause-made c = rw c.in-Store.is refl

pub returns-in-Convert-clause-made : goal.returns-in-Convert-clause-made
returns-in-Convert-clause-made c = rw c.in-Convert.is refl

pub returns-in-Negate-clause-made : goal.returns-in-Negate-clause-made
returns-in-Negate-clause-made c = rw c.in-Negate.is c.negation_test.ensures.made

pub returns-in-Complement-clause-made : goal.returns-in-Complement-clause-made
returns-in-Complement-clause-made c = rw c.in-Complement.is refl

pub returns-in-Not-clause-made : goal.returns-in-Not-clause-made
returns-in-Not-clause-made c = rw c.in-Not.is refl

pub returns-in-Truth-clause-made : goal.returns-in-Truth-clause-made
returns-in-Truth-clause-made c = rw c.in-Truth.is refl

pub returns-in-Binary-clause-made : goal.returns-in-Binary-clause-made
returns-in-Binary-clause-made c = rw c.in-Binary.is c.binary_tests.ensures.made

pub returns-in-Update-clause-made : goal.returns-in-Update-clause-made
returns-in-Update-clause-made c = rw c.in-Update.is c.update_tests.ensures.made

pub returns-in-Change-clause-made : goal.returns-in-Change-clause-made
returns-in-Change-clause-made c = rw c.in-Change.is c.change_tests.ensures.made

pub returns-in-Draw-clause-made : goal.returns-in-Draw-clause-made
returns-in-Draw-clause-made c = rw c.in-Draw.is refl

pub returns-in-Fill-clause-made : goal.returns-in-Fill-clause-made
returns-in-Fill-clause-made c = rw c.in-Fill.is refl

pub returns-in-Begin-clause-made : goal.returns-in-Begin-clause-made
returns-in-Begin-clause-made c = rw c.in-Begin.is refl

pub returns-in-Bind-clause-made : goal.returns-in-Bind-clause-made
returns-in-Bind-clause-made c = rw c.in-Bind.is refl

pub returns-in-Take-clause-made : goal.returns-in-Take-clause-made
returns-in-Take-clause-made c = rw c.in-Take.is c.missing_test.ensures.made

pub returns-in-Locate-clause-made : goal.returns-in-Locate-clause-made
returns-in-Locate-clause-made c = rw c.in-Locate.is c.index_test-in-Locate.ensures.made

pub returns-in-Jump-clause-made : goal.returns-in-Jump-clause-made
returns-in-Jump-clause-made c = rw c.in-Jump.is refl

pub returns-in-Turn-clause-made : goal.returns-in-Turn-clause-made
returns-in-Turn-clause-made c = rw c.in-Turn.is refl

pub returns-in-SkipZero-clause-made : goal.returns-in-SkipZero-clause-made
returns-in-SkipZero-clause-made c = rw c.in-SkipZero.is refl

pub returns-in-SkipEqual-clause-made : goal.returns-in-SkipEqual-clause-made
returns-in-SkipEqual-clause-made c = rw c.in-SkipEqual.is refl

pub returns-in-Call-clause-made : goal.returns-in-Call-clause-made
returns-in-Call-clause-made c = rw c.in-Call.is refl

pub returns-in-Return-clause-made : goal.returns-in-Return-clause-made
returns-in-Return-clause-made c = rw c.in-Return.is refl

pub returns-in-Fail-clause-made : goal.returns-in-Fail-clause-made
returns-in-Fail-clause-made c = rw c.in-Fail.is refl

pub returns-in-Stop-clause-made : goal.returns-in-Stop-clause-made
returns-in-Stop-clause-made c = rw c.in-Stop.is refl
