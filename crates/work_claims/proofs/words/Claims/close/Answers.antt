use Rattle.std.proofs.Common.{◌∙◌, subst, sym, ◌<◌}
use Rattle.work_claims.proofs.Ends.{closing-parts, closing-given, closing-finishes, closing-reported, closing-least}
use Rattle.work_claims.proofs.words.Claims.close.Goals as goal

pub settle-requires-clause-all : goal.settle-requires-clause-all
settle-requires-clause-all c = closing-parts c.args.claimers.items c.pop.new.self.items c.in-Some.field-0 c.gather-seat.result.me.0 c.in-Some.ensures.items c.gather-seat.ensures.knows ∙ c.requires.all.0

pub returns-clause-given : goal.returns-clause-given
returns-clause-given c x = closing-given c.args.claimers.items c.pop.new.self.items c.in-Some.field-0 c.gather-seat.result.me.0 c.in-Some.ensures.items c.gather-seat.ensures.knows x ∙ c.settle.ensures.given x

pub returns-clause-finished : goal.returns-clause-finished
returns-clause-finished c one_is =
    let same = closing-finishes c.args.claimers.items c.pop.new.self.items c.in-Some.field-0 c.gather-seat.result.me.0 c.in-Some.ensures.items c.gather-seat.ensures.knows in
    c.settle.ensures.finished (subst (λ n. 0 < n) same one_is) ∙ c.args.self.told

pub returns-clause-lowest : goal.returns-clause-lowest
returns-clause-lowest c = c.settle.ensures.lowest ∙ sym (closing-reported c.args.claimers.items c.pop.new.self.items c.in-Some.field-0 c.gather-seat.result.me.0 c.in-Some.ensures.items c.gather-seat.ensures.knows)

pub returns-clause-answered : goal.returns-clause-answered
returns-clause-answered c = closing-least c.args.claimers.items c.pop.new.self.items c.in-Some.field-0 c.gather-seat.result.me.0 c.in-Some.ensures.items c.gather-seat.ensures.knows c.settle.result.lowest c.settle.ensures.lowest c.settle.ensures.answered
