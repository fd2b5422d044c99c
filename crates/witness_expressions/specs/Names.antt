-- What the elements of objects are written as.
use Rattle.std.specs.Prelude.{ℕ, List, [], ◌∷◌, ◌++◌, Option, Some, None, slice_get, codes}
use Rattle.std.specs.Fmt.{decimal}
use Rattle.c_graph.specs.declared.graph.Cell.{Cell}
use Rattle.c_graph.specs.declared.graph.Origin.{Origin}
use Rattle.c_graph.specs.declared.graph.Origin.TheVariants.{Element, Saved}
use Rattle.witness_expressions.specs.declared.names.Spelling.{Spelling}
use Rattle.witness_expressions.specs.declared.names.Spelling.TheVariants.{Hidden, Scalar, Array}

-- an element of an object: the object's name, and behind it the element's number in an array
abbrev pub element_text : Option Spelling → ℕ → Option (List ℕ)
element_text None k = None
element_text (Some Hidden) k = None
element_text (Some (Scalar name)) k = Some name
element_text (Some (Array name)) k = Some (name ++ (codes "[" ++ (decimal k ++ codes "]")))

abbrev pub origin_text : List Spelling → Origin → Option (List ℕ)
origin_text spellings (Element object k) = element_text (slice_get spellings object) k
origin_text spellings Saved = None

abbrev pub cell_text : List Spelling → Option Cell → Option (List ℕ)
cell_text spellings None = None
cell_text spellings (Some cell) = origin_text spellings cell.origin

-- what a cell is written as, where its object's name means it
abbrev pub named : List Spelling → List Cell → ℕ → Option (List ℕ)
named spellings cells c = cell_text spellings (slice_get cells c)
