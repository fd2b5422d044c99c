use Rattle.std.proofs.Common.{◌∙◌, inl, inr}
use Rattle.request_words.specs.Views.{verifying_of}
use Rattle.request_answers.proofs.Checks.{rose_more}
use Rattle.request_answers.proofs.Files.{files_differ, on_any, stored_behind, untouched_by}
use Rattle.request_answers.proofs.storing.store_verified.Goals as goal

pub returns-in-Ok-clause-stored : goal.returns-in-Ok-clause-stored
returns-in-Ok-clause-stored g c t apart =
    on_any c.put_witness.result _ (stored_behind _ _ _ _ (files_differ (verifying_of c.args.verifying) c.args.verdict.now c.args.witness.now apart) (c.in-Ok.ensures.stored t) c.put_witness.ensures.others)

pub returns-in-Ok-clause-witnessed : goal.returns-in-Ok-clause-witnessed
returns-in-Ok-clause-witnessed g c t = c.put_witness.ensures.stored (c.in-Ok.ensures.tells t)

pub returns-in-Ok-clause-ordered : goal.returns-in-Ok-clause-ordered
returns-in-Ok-clause-ordered g c t apart =
    inr (stored_behind _ _ _ _ (files_differ (verifying_of c.args.verifying) c.args.verdict.now c.args.witness.now apart) (c.in-Ok.ensures.stored t) c.put_witness.ensures.others)

pub returns-in-Err-clause-ordered : goal.returns-in-Err-clause-ordered
returns-in-Err-clause-ordered g c t apart =
    inl (untouched_by _ _ _ _ (files_differ (verifying_of c.args.verifying) c.args.verdict.now c.args.witness.now apart) c.in-Err.ensures.others)

pub returns-in-Ok-clause-others : goal.returns-in-Ok-clause-others
returns-in-Ok-clause-others g c = λ n a b. c.put_witness.ensures.others n b ∙ c.in-Ok.ensures.others n a

pub returns-in-Ok-clause-cause : goal.returns-in-Ok-clause-cause
returns-in-Ok-clause-cause g c = λ e. rose_more _ _ _ c.in-Ok.ensures.later (c.put_witness.ensures.cause e)
