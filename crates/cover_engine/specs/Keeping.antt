-- What an unwinding keeps beside its parts, and the labels that a Refine gives.
use Rattle.std.specs.Prelude.{ℕ, ◌+◌, ◌^◌, ◌<◌, ◌≤◌, List, [], ◌∷◌, ◌++◌, length, if◌then◌else◌}
use Rattle.std.specs.declared.hash.FoldHasher.{FoldHasher}
use Rattle.std.specs.declared.hash.BuildHasherDefault.{BuildHasherDefault}
use Rattle.std.specs.HashMap.{HashMap}
use Rattle.bv_term.specs.declared.term.TermId.{TermId}
use Rattle.bv_term.specs.WellFormed.{Table}
use Rattle.reach_tree.specs.declared.vertex.Vertex.{Vertex}
use Rattle.reach_tree.specs.declared.vertex.NewLabel.{NewLabel}
use Rattle.reach_tree.specs.Trees.{vertex_at}
use Rattle.cover_engine.specs.declared.unit.Apart.{Apart}
use Rattle.cover_engine.specs.declared.unit.UnitDone.{UnitDone}
use Rattle.cover_engine.specs.declared.settling.Sides.{Sides}
use Rattle.cover_engine.specs.declared.settling.Settling.{Settling}
use Rattle.cover_engine.specs.Unwindings.{Pair}
use Rattle.cover_engine.specs.Units.{strengthens}
use Rattle.cover_engine.specs.Caches.{AreCovers, AreInside, IsFamily}
use Rattle.cover_engine.specs.Settlings.{AreSettlings, version_at}

-- what an unwinding keeps: its tree is one, its pairs are in it, each count is that of its vertex, each settling the last
-- of its pair; no label was strengthened more often than there are units, and there are as few units as numbers
pub record IsKept (vs : List Vertex) (ps : List Pair) (js : List UnitDone) (others : List Apart) (counts : List ℕ) (refines : ℕ) (settled : HashMap Sides Settling (BuildHasherDefault FoldHasher)) : Type 0 where
  pub family : IsFamily vs
  pub inside : AreInside vs ps
  pub counts_are : AreCovers vs ps counts
  pub few : length js < 2 ^ 32
  pub fewer : length ps ≤ length js
  pub versions : (k : ℕ) → version_at vs k ≤ length js
  pub settlings : AreSettlings vs js others refines settled

-- the label of a vertex with one conjunct more
abbrev pub label_with : List Vertex → ℕ → TermId → NewLabel
label_with vs x f = record { vertex = record { 0 = x }; label = (vertex_at vs x).label ++ f ∷ []; version = (vertex_at vs x).version + 1 }

-- the labels that formulas give to the vertices of a path
abbrev pub new_labels_of : Table → List Vertex → List ℕ → List TermId → List NewLabel
new_labels_of table vs [] fs = []
new_labels_of table vs (x ∷ xs) [] = []
new_labels_of table vs (x ∷ xs) (f ∷ fs) =
    if strengthens table vs x f then label_with vs x f ∷ new_labels_of table vs xs fs else new_labels_of table vs xs fs

-- the vertices that get these labels
abbrev pub labelled : List NewLabel → List ℕ
labelled [] = []
labelled (l ∷ ls) = l.vertex.0 ∷ labelled ls
