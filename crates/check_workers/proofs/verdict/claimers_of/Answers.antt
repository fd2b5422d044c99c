use Rattle.std.proofs.Common.{rules, subst, IfSome}
use Rattle.std.proofs.lemmas.List.Elements.{All-pop, All-push, All-same}
use Rattle.check_workers.specs.declared.worker.Worked.{Worked}
use Rattle.check_workers.specs.Working.{IsEnded}
use Rattle.check_workers.proofs.verdict.claimers_of.Goals as goal

pub loop-one-preserved : goal.loop-one-preserved
loop-one-preserved c =
    let ended = IsEnded c.args.task.graph.now c.args.task.map.now c.args.task.logs.now c.args.claims.now in
    let both = All-pop (λ (w : Worked). ended w.me) c.loop-one.worked.items c.pop.new.self.items c.pop.result (search rules) c.loop-one.invariant.0 in
    let one = subst (λ r. IfSome r (λ (w : Worked). ended w.me)) c.in-Some.is both.1 in
    let more = All-push ended c.loop-one.claimers.items c.in-Some.one.me c.loop-one.invariant.1 one in
    (both.0, All-same ended c.push.new.self.items _ (search rules) more, search rules)
