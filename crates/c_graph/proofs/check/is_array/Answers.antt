use Rattle.std.proofs.Common.{arith, []}
use Rattle.c_graph.proofs.check.is_array.Goals as goal

pub returns : goal.returns
returns c =
    let one = c.one_for_each.ensures c.args.terms.now [] in (
      λ t. let f = c.fits.ensures.0 t in (f.0, omega (arith, f.1, one.0)),
      λ h. c.fits.ensures.1 (h.0, omega (arith, h.1, one.0)),
    )
