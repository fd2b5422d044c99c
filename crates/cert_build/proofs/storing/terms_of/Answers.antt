use Rattle.std.proofs.Common.{rules}
use Rattle.cert_build.proofs.Gathering.{term_more}
use Rattle.cert_build.proofs.storing.terms_of.Goals as goal

pub loop-number-preserved : goal.loop-number-preserved
loop-number-preserved c =
    term_more c.args.table.now.terms c.loop-number.terms.items c.push.new.self.items c.loop-number.number c.get.result (search rules) c.get.ensures c.loop-number.invariant c.in_ok-push.ensures.items
