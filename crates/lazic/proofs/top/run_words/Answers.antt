use Rattle.std.proofs.Common.{refl}
use Rattle.lazic.specs.declared.outcome.Outcome.TheVariants.{NoMemory}
use Rattle.lazic.proofs.ReplayedLaws.{nothing_is_replayed}
use Rattle.lazic.proofs.WantLaws.{want_told, want_ends}
use Rattle.lazic.proofs.top.run_words.Goals as goal

pub returns-in-Err-clause-cut : goal.returns-in-Err-clause-cut
returns-in-Err-clause-cut g c none told fourteen = (NoMemory, tt, c.no_memory.ensures.cut told fourteen)

pub returns-in-Err-clause-told : goal.returns-in-Err-clause-told
returns-in-Err-clause-told g c asked is =
    want_told _ _ _ _ _ _ asked _ _ _ _ _ _ c.no_memory.ensures.status c.no_memory.ensures.kept c.no_memory.ensures.fault c.no_memory.ensures.printed c.no_memory.ensures.cut (λ n. refl)

pub returns-in-Err-clause-replayed : goal.returns-in-Err-clause-replayed
returns-in-Err-clause-replayed g c none told = nothing_is_replayed _ _ c.no_memory.result.kept c.no_memory.ensures.kept

pub returns-in-Err-clause-ends : goal.returns-in-Err-clause-ends
returns-in-Err-clause-ends g c none = want_ends _ _ _ _ _ _ _ _ _ c.no_memory.ensures.status c.no_memory.ensures.fault c.no_memory.ensures.printed c.no_memory.ensures.cut
