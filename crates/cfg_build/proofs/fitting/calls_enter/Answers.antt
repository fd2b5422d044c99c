use Rattle.std.proofs.Common.{sym, subst, ℕ, List}
use Rattle.cfg_build.specs.Beginnings.{FindsEntries}
use Rattle.cfg_build.proofs.Entering.{finds-entries}
use Rattle.cfg_build.proofs.fitting.calls_enter.Goals as goal

pub returns-clause-whole : goal.returns-clause-whole
returns-clause-whole c = λ s h.
    c.all_enter.ensures.whole (subst (λ (ns : List ℕ). FindsEntries c.args.links.now ns c.args.code.now) (sym c.deref.ensures.value)
    (finds-entries c.args.links.now c.in_ok-beginnings.beginnings.items c.args.code.now c.in_ok-beginnings.ensures s h))
