use Rattle.source_graphs.proofs.Standing.{blocks_are_of_trees, limits_are_of_trees, whole_graphs_are_of_trees}
use Rattle.source_graphs.proofs.program_graphs_are_of_trees.Goals as goal

pub returns : goal.returns
returns c = record { whole = whole_graphs_are_of_trees; blocks = blocks_are_of_trees; limits = limits_are_of_trees }
