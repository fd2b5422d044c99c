use Rattle.std.proofs.Common.{ap, ◌++◌, ℤ, rules, refl}
use Rattle.std.specs.Int.{w128}
use Rattle.std.proofs.lemmas.Int.{to_z-of_z}
use mir.Val.{SFits}
use Rattle.lv_base.specs.Integers.{residue}
use Rattle.code_moves.specs.Setting.{setting_of, site_of}
use Rattle.code_moves.specs.Moves.{fills}
use Rattle.code_moves.proofs.Doing.{does-none, does-equal}
use Rattle.code_moves.proofs.Making.{so}
use Rattle.code_moves.specs.Made as made
use Rattle.code_moves.proofs.ground.Ground.moves.Goals as goal

pub returns-in-Constant-clause-does : goal.returns-in-Constant-clause-does
returns-in-Constant-clause-does c = λ ds h d.
    let f : SFits w128 c.in-Constant.value = search rules in
    rw c.in-Constant.is
    (does-equal _ _ _ _ _ _ (ap (λ (x : ℤ). ds ++ fills (setting_of c.args.self.now) c.in-Constant.slot (λ store. residue 64 x)) (to_z-of_z w128 c.in-Constant.value f)) (c.constant.ensures.does ds h d))

pub returns-in-Read-clause-does : goal.returns-in-Read-clause-does
returns-in-Read-clause-does c = λ ds h d. rw c.in-Read.is (c.read.ensures.does ds h d)

pub returns-in-Element-clause-does : goal.returns-in-Element-clause-does
returns-in-Element-clause-does c = λ ds h d. rw c.in-Element.is (c.load.ensures.does ds h d)

pub returns-in-Load-clause-does : goal.returns-in-Load-clause-does
returns-in-Load-clause-does c = λ ds h d. rw c.in-Load.is (c.load_behind.ensures.does ds h d)

pub returns-in-Store-clause-does : goal.returns-in-Store-clause-does
returns-in-Store-clause-does c = λ ds h d. rw c.in-Store.is (c.store.ensures.does ds h d)

pub returns-in-Convert-clause-does : goal.returns-in-Convert-clause-does
returns-in-Convert-clause-does c = λ ds h d. rw c.in-Convert.is (c.convert.ensures.does ds h d)

pub returns-in-Negate-clause-does : goal.returns-in-Negate-clause-does
returns-in-Negate-clause-does c = λ ds h d. rw c.in-Negate.is (c.negate.ensures.does ds h d)

pub returns-in-Complement-clause-does : goal.returns-in-Complement-clause-does
returns-in-Complement-clause-does c = λ ds h d. rw c.in-Complement.is (c.complement.ensures.does ds h d)

pub returns-in-Not-clause-does : goal.returns-in-Not-clause-does
returns-in-Not-clause-does c = λ ds h d. rw c.in-Not.is (c.not.ensures.does ds h d)

pub returns-in-Truth-clause-does : goal.returns-in-Truth-clause-does
returns-in-Truth-clause-does c = λ ds h d. rw c.in-Truth.is (c.convert-in-Truth.ensures.does ds h d)

pub returns-in-Binary-clause-does : goal.returns-in-Binary-clause-does
returns-in-Binary-clause-does c = λ ds h d. rw c.in-Binary.is (c.binary.ensures.does ds h d)

pub returns-in-Update-clause-does : goal.returns-in-Update-clause-does
returns-in-Update-clause-does c = λ ds h d. rw c.in-Update.is (c.update.ensures.does ds h d)

pub returns-in-Change-clause-does : goal.returns-in-Change-clause-does
returns-in-Change-clause-does c = λ ds h d. rw c.in-Change.is (c.change.ensures.does ds h d)

pub returns-in-Draw-clause-does : goal.returns-in-Draw-clause-does
returns-in-Draw-clause-does c = λ ds h d. rw c.in-Draw.is (c.draw.ensures.does ds h d)

pub returns-in-Fill-clause-does : goal.returns-in-Fill-clause-does
returns-in-Fill-clause-does c = λ ds h d. rw c.in-Fill.is (c.draw_all.ensures.does ds h d)

pub returns-in-Begin-clause-does : goal.returns-in-Begin-clause-does
returns-in-Begin-clause-does c = λ ds h d. rw c.in-Begin.is (c.begin.ensures.does ds h d)

pub returns-in-Bind-clause-does : goal.returns-in-Bind-clause-does
returns-in-Bind-clause-does c = λ ds h d. rw c.in-Bind.is (c.bind.ensures.does ds h d)

pub returns-in-Take-clause-does : goal.returns-in-Take-clause-does
returns-in-Take-clause-does c = λ ds h d. rw c.in-Take.is (c.taken.ensures.does ds h d)

pub returns-in-Locate-clause-does : goal.returns-in-Locate-clause-does
returns-in-Locate-clause-does c = λ ds h d. rw c.in-Locate.is (does-none _ _ ds d)

pub returns-in-Jump-clause-does : goal.returns-in-Jump-clause-does
returns-in-Jump-clause-does c = λ ds h d. rw c.in-Jump.is (does-none _ _ ds d)

pub returns-in-Turn-clause-does : goal.returns-in-Turn-clause-does
returns-in-Turn-clause-does c = λ ds h d. rw c.in-Turn.is (does-none _ _ ds d)

pub returns-in-SkipZero-clause-does : goal.returns-in-SkipZero-clause-does
returns-in-SkipZero-clause-does c = λ ds h d. rw c.in-SkipZero.is (does-none _ _ ds d)

pub returns-in-SkipEqual-clause-does : goal.returns-in-SkipEqual-clause-does
returns-in-SkipEqual-clause-does c = λ ds h d. rw c.in-SkipEqual.is (does-none _ _ ds d)

pub returns-in-Call-clause-does : goal.returns-in-Call-clause-does
returns-in-Call-clause-does c = λ ds h d. rw c.in-Call.is (does-none _ _ ds d)

pub returns-in-Return-clause-does : goal.returns-in-Return-clause-does
returns-in-Return-clause-does c = λ ds h d. rw c.in-Return.is (does-none _ _ ds d)

pub returns-in-Fail-clause-does : goal.returns-in-Fail-clause-does
returns-in-Fail-clause-does c = λ ds h d. rw c.in-Fail.is (does-none _ _ ds d)

pub returns-in-Stop-clause-does : goal.returns-in-Stop-clause-does
returns-in-Stop-clause-does c = λ ds h d. rw c.in-Stop.is (does-none _ _ ds d)

pub returns-in-Constant-clause-made : goal.returns-in-Constant-clause-made
returns-in-Constant-clause-made c =
    let f : SFits w128 c.in-Constant.value = search rules in
    rw c.in-Constant.is (so _ _ _ _ c.constant.ensures.made (ap (made.constant (site_of (setting_of c.args.self.now)) c.args.words.now c.args.ops.now.items c.in-Constant.slot) (to_z-of_z w128 c.in-Constant.value f)))

pub returns-in-Read-clause-made : goal.returns-in-Read-clause-made
returns-in-Read-clause-made c = rw c.in-Read.is c.read.ensures.made

pub returns-in-Element-clause-made : goal.returns-in-Element-clause-made
returns-in-Element-clause-made c = rw c.in-Element.is c.load.ensures.made

pub returns-in-Load-clause-made : goal.returns-in-Load-clause-made
returns-in-Load-clause-made c = rw c.in-Load.is c.load_behind.ensures.made

pub returns-in-Store-clause-made : goal.returns-in-Store-clause-made
returns-in-Store-clause-made c = rw c.in-Store.is c.store.ensures.made

pub returns-in-Convert-clause-made : goal.returns-in-Convert-clause-made
returns-in-Convert-clause-made c = rw c.in-Convert.is c.convert.ensures.made

pub returns-in-Negate-clause-made : goal.returns-in-Negate-clause-made
returns-in-Negate-clause-made c = rw c.in-Negate.is c.negate.ensures.made

pub returns-in-Complement-clause-made : goal.returns-in-Complement-clause-made
returns-in-Complement-clause-made c = rw c.in-Complement.is c.complement.ensures.made

pub returns-in-Not-clause-made : goal.returns-in-Not-clause-made
returns-in-Not-clause-made c = rw c.in-Not.is c.not.ensures.made

pub returns-in-Truth-clause-made : goal.returns-in-Truth-clause-made
returns-in-Truth-clause-made c = rw c.in-Truth.is c.convert-in-Truth.ensures.made

pub returns-in-Binary-clause-made : goal.returns-in-Binary-clause-made
returns-in-Binary-clause-made c = rw c.in-Binary.is c.binary.ensures.made

pub returns-in-Update-clause-made : goal.returns-in-Update-clause-made
returns-in-Update-clause-made c = rw c.in-Update.is c.update.ensures.made

pub returns-in-Change-clause-made : goal.returns-in-Change-clause-made
returns-in-Change-clause-made c = rw c.in-Change.is c.change.ensures.made

pub returns-in-Draw-clause-made : goal.returns-in-Draw-clause-made
returns-in-Draw-clause-made c = rw c.in-Draw.is c.draw.ensures.made

pub returns-in-Fill-clause-made : goal.returns-in-Fill-clause-made
returns-in-Fill-clause-made c = rw c.in-Fill.is c.draw_all.ensures.made

pub returns-in-Begin-clause-made : goal.returns-in-Begin-clause-made
returns-in-Begin-clause-made c = rw c.in-Begin.is c.begin.ensures.made

pub returns-in-Bind-clause-made : goal.returns-in-Bind-clause-made
returns-in-Bind-clause-made c = rw c.in-Bind.is c.bind.ensures.made

pub returns-in-Take-clause-made : goal.returns-in-Take-clause-made
returns-in-Take-clause-made c = rw c.in-Take.is c.taken.ensures.made

pub returns-in-Locate-clause-made : goal.returns-in-Locate-clause-made
returns-in-Locate-clause-made c = rw c.in-Locate.is refl

pub returns-in-Jump-clause-made : goal.returns-in-Jump-clause-made
returns-in-Jump-clause-made c = rw c.in-Jump.is refl

pub returns-in-Turn-clause-made : goal.returns-in-Turn-clause-made
returns-in-Turn-clause-made c = rw c.in-Turn.is refl

pub returns-in-SkipZero-clause-made : goal.returns-in-SkipZero-clause-made
returns-in-SkipZero-clause-made c = rw c.in-SkipZero.is refl

pub returns-in-SkipEqual-clause-made : goal.returns-in-SkipEqual-clause-made
returns-in-SkipEqual-clause-made c = rw c.in-SkipEqual.is refl

pub returns-in-Call-clause-made : goal.returns-in-Call-clause-made
returns-in-Call-clause-made c = rw c.in-Call.is refl

pub returns-in-Return-clause-made : goal.returns-in-Return-clause-made
returns-in-Return-clause-made c = rw c.in-Return.is refl

pub returns-in-Fail-clause-made : goal.returns-in-Fail-clause-made
returns-in-Fail-clause-made c = rw c.in-Fail.is refl

pub returns-in-Stop-clause-made : goal.returns-in-Stop-clause-made
returns-in-Stop-clause-made c = rw c.in-Stop.is refl
