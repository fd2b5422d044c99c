use Rattle.std.specs.Prelude.{◌≡◌}
use Rattle.c_terms.specs.Shown.{Grows}
use Rattle.c_typed.specs.Parts.{tree_of}
use Rattle.code_moves.specs.Setting.{setting_of, Stands}
use Rattle.cfg_build.specs.Built.{first_graphs, graphed}
use Rattle.cfg_build.specs.Graphs.{FirstGraphs}
use Rattle.cfg_build.proofs.building.graphs_of.Given as goal

-- the functions so far
abbrev pub invariant-loop-number : goal.invariant-loop-number
invariant-loop-number l = record {
  follow : Stands (setting_of l.ground) l.initial.words
      → Grows l.initial.words l.words × FirstGraphs l.whole.code.now l.whole.numbers.now l.whole.ranges.now l.main (setting_of l.ground) l.words.terms l.number l.all.graphs.items l.all.exits.items;
  are : graphed l.words l.all.graphs.items l.all.exits.items
      ≡ first_graphs l.whole.code.now l.whole.numbers.now l.whole.owners.now l.whole.ranges.now (tree_of l.typed).functions l.main (setting_of l.ground) l.initial.words l.number;
}
