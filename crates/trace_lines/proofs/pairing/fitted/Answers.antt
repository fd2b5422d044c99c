use Rattle.std.proofs.Common.{◌+◌, drop, sym, ap, ◌∙◌, arith}
use Rattle.std.proofs.lemmas.List.{drop_more}
use Rattle.trace_lines.specs.Pairing.{fitted}
use Rattle.trace_lines.proofs.Sites.{got_and, gets_site, gets_nothing, site_there, left_over}
use Rattle.trace_lines.proofs.pairing.fitted.Goals as goal

pub returns-in-Nothing : goal.returns-in-Nothing
returns-in-Nothing c =
    gets_nothing c.args.code.now c.args.found.now c.code.place c.code.used _ c.code.got.items (drop_more c.args.code.now c.code.place _ (omega arith)) c.code.invariant.0 (sym c.in-Nothing.is ∙ c.fit_of.ensures)

pub code-preserved : goal.code-preserved
code-preserved c = (
  ap (λ g. got_and g (fitted (drop (c.code.place + 1) c.args.code.now) (drop (c.code.used + 1) c.args.found.now))) c.in_ok-push-in-With.ensures.items
      ∙ gets_site c.args.code.now c.args.found.now c.code.place c.code.used _ c.code.got.items (drop_more c.args.code.now c.code.place _ (omega arith)) c.code.invariant.0 c.in-With.site (sym c.in-With.is ∙ c.fit_of.ensures),
  site_there _ c.args.found.now c.code.used c.in-With.site (sym c.in-With.is ∙ c.fit_of.ensures),
)

pub returns-then-used-found : goal.returns-then-used-found
returns-then-used-found c = left_over c.args.code.now c.args.found.now c.code.place c.code.used c.code.got.items (omega arith) (omega arith) c.code.invariant.0
