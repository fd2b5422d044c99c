use Rattle.std.proofs.Common.{rules, ◌∙◌, sym, subst, IfSome}
use Rattle.std.proofs.lemmas.List.Elements.{All-pop}
use Rattle.cert_build.specs.Answered.{AreLogs}
use Rattle.prove_workers.specs.Working.{Proves}
use Rattle.prove_workers.proofs.Placing.{placed}
use Rattle.prove_workers.proofs.beside.place_all.Goals as goal

pub loop-one-preserved : goal.loop-one-preserved
loop-one-preserved c =
    let g = c.args.task.graph.now in
    let m = c.args.task.map.now in
    let learn = c.args.task.learn in
    let both = All-pop (Proves g m learn) c.loop-one.refuted.items c.pop.new.self.items c.pop.result (search rules) c.loop-one.invariant.0 in
    let one : Proves g m learn c.in-Some.one = subst (λ r. IfSome r (Proves g m learn)) c.in-Some.is both.1 in
    (both.0, c.place_log.ensures.places ∙ c.loop-one.invariant.1, subst (AreLogs g m learn) (sym c.place_log.ensures.placed) (placed g m learn c.loop-one.logs.items c.in-Some.one c.loop-one.invariant.2 one))
