use Rattle.std.proofs.Common.{[], ap, ◌∙◌}
use Rattle.c_typed.specs.Rules as r
use Rattle.first_broken.specs.Seen.{found_of}
use Rattle.first_broken.specs.Found.{summary}
use Rattle.jump_rules.specs.Seen.{jumps}
use Rattle.jump_rules.proofs.Rows.{three}
use Rattle.jump_rules.proofs.labels.jumps_found.Goals as goal

pub returns : goal.returns
returns c =
    three (r.repeated_labels [] (jumps c.args.labels.now)) (r.lost_gotos (jumps c.args.labels.now) (jumps c.args.gotos.now)) (r.entering_gotos (jumps c.args.labels.now) (jumps c.args.gotos.now))
    (found_of c.repeated.result) (found_of c.lost.result) (found_of c.both.result) (found_of c.entering.result) (found_of c.both-2.result)
    (c.repeated.ensures ∙ ap (λ z. summary (r.repeated_labels [] (jumps z))) c.in_ok-named.ensures.labels)
    (c.lost.ensures ∙ ap (λ z. summary (r.lost_gotos (jumps z) (jumps c.args.gotos.now))) c.in_ok-named.ensures.labels)
    c.both.ensures
    (c.entering.ensures ∙ ap (λ z. summary (r.entering_gotos (jumps z) (jumps c.args.gotos.now))) c.in_ok-named.ensures.labels)
    c.both-2.ensures
