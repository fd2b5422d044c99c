use Rattle.std.proofs.Common.{rules, inl, inr}
use Rattle.lazic.specs.declared.outcome.Outcome.TheVariants.{NoMemory}
use Rattle.lazic.proofs.MeaningLaws.{report_means}
use Rattle.lazic.proofs.ReachingLaws.{reaches_told}
use Rattle.lazic.proofs.ReplayedLaws.{kept_are_replayed}
use Rattle.lazic.proofs.top.replay_words.Goals as goal

pub returns-clause-cut : goal.returns-clause-cut
returns-clause-cut g c told fourteen = elim (c.print.ensures.cut told fourteen) [
  | inl grew ↦ (c.decide-outcome.result, c.decide-outcome.ensures.caused, grew)
  | inr grew ↦ (NoMemory, tt, grew)
]

pub returns-clause-means : goal.returns-clause-means
returns-clause-means g c told =
    report_means _ _ _ _ c.decide-outcome.result c.print.result.status c.print.result.kept c.decide-outcome.ensures.caused told c.print.ensures.status

pub returns-clause-reaches : goal.returns-clause-reaches
returns-clause-reaches g c told =
    reaches_told _ _ _ _ _ c.decide-outcome.result c.print.result.status c.print.result.kept c.decide-outcome.ensures.caused told c.print.ensures.status c.print.ensures.fault

pub returns-clause-read_fault : goal.returns-clause-read_fault
returns-clause-read_fault g c = search rules

pub returns-clause-print_fault : goal.returns-clause-print_fault
returns-clause-print_fault g c = search rules

pub returns-clause-replayed : goal.returns-clause-replayed
returns-clause-replayed g c told =
    kept_are_replayed c.drawn_are_there.ensures _ _ _ _ c.decide-outcome.result c.print.result.status c.print.result.kept c.decide-outcome.ensures.caused told c.print.ensures.status c.print.ensures.free

pub returns-clause-ends : goal.returns-clause-ends
returns-clause-ends g c = record {
  answer = c.decide-outcome.result;
  cause = c.decide-outcome.ensures.caused;
  told = c.print.ensures.status;
  put = c.print.ensures.fault;
  grown = c.print.ensures.printed;
  cut = c.print.ensures.cut;
}
