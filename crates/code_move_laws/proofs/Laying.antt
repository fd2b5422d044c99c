-- The layout of a code.
use Rattle.code_layout.proofs.Lying.{layouts_lie}
use Rattle.layout_laws.proofs.Regions.{cells_differ}
use Rattle.layout_laws.proofs.Serving.{cells_serve}
use Rattle.code_move_laws.specs.Laid.{CodeIsLaid}

pub laid : CodeIsLaid
laid objects model code slots enough few = record {
  lies = layouts_lie objects model code slots;
  firsts = (cells_serve objects model code slots enough).1;
  differ = cells_differ objects model code slots;
  few = few;
}
