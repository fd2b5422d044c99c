use Rattle.std.proofs.Common.{rules, ◌≡◌, sym, subst}
use Rattle.work_claims.specs.Hands.{with_given, with_answer, with_report}
use Rattle.work_claims.specs.Seats.{hand}
use Rattle.check_workers.specs.Working.{HavePassed, IsSettled}
use Rattle.check_workers.proofs.Judging.{passed_more, settled_above, settled_reported}
use Rattle.check_workers.proofs.worker.work.Goals as goal

pub returns-then-lowest-number : goal.returns-then-lowest-number
returns-then-lowest-number c =
    let g = c.args.task.graph.now in
    let m = c.args.task.map.now in
    let logs = c.args.task.logs.now in
    let h = hand c.loop.me in
    let is : hand c.lowest.new.me ≡ with_answer (with_given h c.in-Some.number) c.lowest.result = search rules in
    let settled : IsSettled g m logs (hand c.lowest.new.me) =
    subst (IsSettled g m logs) (sym is) (settled_above g m logs h c.in-Some.number c.lowest.result (search rules) (search rules)) in
    record { worked = record { ended = record { of = search rules; settled = settled }; failed = search rules } }

pub returns-in-Err : goal.returns-in-Err
returns-in-Err c =
    let g = c.args.task.graph.now in
    let m = c.args.task.map.now in
    let logs = c.args.task.logs.now in
    let h = hand c.loop.me in
    let is : hand c.report.new.me ≡ with_report (with_answer (with_given h c.in-Some.number) c.lowest.result) c.in-Some.number = search rules in
    let settled : IsSettled g m logs (hand c.report.new.me) =
    subst (IsSettled g m logs) (sym is) (settled_reported g m logs h c.in-Some.number c.lowest.result (search rules)) in
    record { worked = record { ended = record { of = search rules; settled = settled }; failed = search rules } }

pub loop-preserved : goal.loop-preserved
loop-preserved c =
    let g = c.args.task.graph.now in
    let m = c.args.task.map.now in
    let logs = c.args.task.logs.now in
    let h = hand c.loop.me in
    let is : hand c.lowest.new.me ≡ with_answer (with_given h c.in-Some.number) c.lowest.result = search rules in
    let passed : HavePassed g m logs (with_answer (with_given h c.in-Some.number) c.lowest.result) =
    passed_more g m logs h c.in-Some.number (search rules) (search rules) in
    (search rules, search rules, subst (HavePassed g m logs) (sym is) passed)
