use Rattle.std.proofs.Common.{rules, ◌≡◌, ◌<◌, ◌∙◌, length, get_or}
use Rattle.run_trace.proofs.Starts.{started_next}
use Rattle.run_trace.proofs.beginning.start_rows.Goals as goal

pub objects-preserved : goal.objects-preserved
objects-preserved c =
    let low : c.objects.index < length c.args.objects.now = search rules in
    let found : c.index-objects-index.result ≡ get_or c.args.objects.now c.objects.index c.index-objects-index.result = search rules in
    c.in_ok-push.ensures.items ∙ started_next c.args.objects.now c.objects.index c.index-objects-index.result c.objects.rows.items c.in_ok-row.row low found c.objects.invariant c.in_ok-row.ensures
