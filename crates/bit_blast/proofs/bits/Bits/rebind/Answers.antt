use Rattle.std.proofs.Common.{◌≡◌, List, ap, map, length, sym, ◌∙◌}
use Rattle.prop.specs.declared.Lit.{Lit}
use Rattle.bit_blast.specs.Emission.{cell_at}
use Rattle.bit_blast.specs.Held.{Held, placed}
use Rattle.bit_blast.proofs.Over.{over-from, placed-widths}
use Rattle.bit_blast.proofs.bits.Bits.rebind.Goals as goal

pub returns-clause-over : goal.returns-clause-over
returns-clause-over c table o =
    let old = c.self.inside.cells in
    let w : length c.args.to.items ≡ length (cell_at old c.args.cell)
    = c.requires.width ∙ ap (λ (h : Held). length (cell_at h.cells c.args.cell)) (sym c.self.view_is) in
    over-from table c.self.inside.next c.self.inside.one c.set.new.self c.clear.new.self c.clear.ensures
    (ap (λ (t : List (List Lit)). map length t) (c.set.ensures ∙ ap (λ (l : List Lit). placed old c.args.cell l) c.deref.ensures.value) ∙ (placed-widths old c.args.cell c.args.to.items w
    ∙ (ap (λ (h : Held). map length h.cells) c.self.view_is ∙ o.cells)))
