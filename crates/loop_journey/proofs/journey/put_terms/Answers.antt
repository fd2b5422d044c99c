use Rattle.loop_journey.proofs.Labels.{five_put}
use Rattle.loop_journey.proofs.journey.put_terms.Goals as goal

pub returns : goal.returns
returns c =
    let both =
    five_put c.args.graph.now c.args.unwinding.now c.put.new.self c.put-2.new.self c.put-3.new.self c.put-4.new.self c.put-5.new.self c.in_ok-put.field-0 c.in_ok-put-2.field-0 c.in_ok-put-3.field-0 c.in_ok-put-4.field-0 c.in_ok-put-5.field-0
    c.requires.graph c.requires.start c.requires.cells c.requires.empty
    c.in_ok-put.ensures.put c.in_ok-put.ensures.named c.put.ensures.others c.in_ok-put-2.ensures.put c.in_ok-put-2.ensures.named c.put-2.ensures.others c.in_ok-put-3.ensures.put c.in_ok-put-3.ensures.named c.put-3.ensures.others
    c.in_ok-put-4.ensures.put c.in_ok-put-4.ensures.named c.put-4.ensures.others c.in_ok-put-5.ensures.put c.in_ok-put-5.ensures.named c.put-5.ensures.others
    in record { travels = both.0; start = both.1 }
