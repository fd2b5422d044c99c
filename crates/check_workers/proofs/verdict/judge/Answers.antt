use Rattle.std.proofs.Common.{rules}
use Rattle.check_workers.proofs.Judging.{ended_settled, judged_all, judged_first}
use Rattle.check_workers.proofs.verdict.judge.Goals as goal

pub returns-then-closed-task : goal.returns-then-closed-task
returns-then-closed-task c =
    judged_all c.args.task.graph.now c.args.task.map.now c.args.task.logs.now
    c.close-closed.result.lowest c.close-closed.result.claimed c.in_ok-claimers.claimers.items
    (ended_settled c.args.task.graph.now c.args.task.map.now c.args.task.logs.now c.args.claims c.in_ok-claimers.claimers.items c.in_ok-claimers.ensures.ended) c.close-closed.ensures.given c.close-closed.ensures.lowest c.close-closed.ensures.answered
    (search rules) (search rules) c.requires.few

pub returns-in-Some : goal.returns-in-Some
returns-in-Some c =
    judged_first c.args.task.graph.now c.args.task.map.now c.args.task.logs.now
    c.close-closed.result.lowest c.close-closed.result.claimed c.in-Some.fail c.in_ok-claimers.claimers.items
    (ended_settled c.args.task.graph.now c.args.task.map.now c.args.task.logs.now c.args.claims c.in_ok-claimers.claimers.items c.in_ok-claimers.ensures.ended) c.close-closed.ensures.given c.close-closed.ensures.lowest c.close-closed.ensures.answered
    (search rules) (search rules)
