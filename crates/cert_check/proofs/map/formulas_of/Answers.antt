use Rattle.std.proofs.Common.{rules, get_or, ◌∙◌}
use Rattle.cert_check.specs.Answers.{term_id}
use Rattle.cert_check.proofs.Maps.{bits_more, numbered_more}
use Rattle.cert_check.proofs.map.formulas_of.Goals as goal

pub loop-node-preserved : goal.loop-node-preserved
loop-node-preserved c =
    let ns = c.args.numbers.now in
    let old = c.loop-node.formulas.items in
    let k = c.loop-node.node in
    record {
      numbered = c.in_ok-push.ensures.items ∙ numbered_more ns k 0 old (search rules) c.loop-node.invariant.numbered;
      bits = bits_more c.args.table.now old c.push.new.self.items (term_id (get_or ns k 0)) c.in_ok-push.ensures.items c.loop-node.invariant.bits (search rules);
    }
