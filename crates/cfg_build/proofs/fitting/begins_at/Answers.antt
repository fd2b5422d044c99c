use Rattle.std.proofs.Common.{◌≡◌, Some, slice_get, rules}
use Rattle.cfg_build.proofs.Entering.{link-enters}
use Rattle.cfg_build.proofs.fitting.begins_at.Goals as goal

pub returns-in-Some-clause-enters : goal.returns-in-Some-clause-enters
returns-in-Some-clause-enters c = λ t.
    let there : slice_get c.args.links.now c.args.number ≡ Some c.in-Some.link = search rules in
    let same : (c.in-Some.link).entry ≡ c.args.place = search rules in
    link-enters c.args.links.now c.args.number c.args.place c.in-Some.link there same
