-- What is known of the pairs that were settled, by their sides.
use Rattle.std.specs.Prelude.{ℕ, ◌+◌, ◌≤◌, ◌≡◌, ◌==◌, ◌&&◌, Bool, false, List, [], ◌∷◌, All, Option, None, Some, if◌then◌else◌}
use Rattle.std.specs.declared.hash.FoldHasher.{FoldHasher}
use Rattle.std.specs.declared.hash.BuildHasherDefault.{BuildHasherDefault}
use Rattle.std.specs.HashMap.{get, HashMap}
use Rattle.reach_tree.specs.declared.vertex.VertexId.{VertexId}
use Rattle.reach_tree.specs.declared.vertex.Vertex.{Vertex}
use Rattle.reach_tree.specs.Trees.{vertex_at}
use Rattle.cover_engine.specs.declared.unit.Apart.{Apart}
use Rattle.cover_engine.specs.declared.unit.UnitDone.{UnitDone}
use Rattle.cover_engine.specs.declared.unit.UnitDone.TheVariants.{Expand, Refine, CoverYes, CoverNo}
use Rattle.cover_engine.specs.declared.settling.Sides.{Sides}
use Rattle.cover_engine.specs.declared.settling.Settling.{Settling}
use Rattle.cover_engine.specs.Unwindings.{same, yes_since}

abbrev pub sides : VertexId → VertexId → Sides
sides v w = record { left = v.0; right = w.0 }

abbrev pub same_sides : Sides → Sides → Bool
same_sides a b = a.left == b.left && a.right == b.right

-- how many Refines a journal has
abbrev pub refines_in : List UnitDone → ℕ
refines_in [] = 0
refines_in (Expand v ∷ js) = refines_in js
refines_in (Refine v fs ∷ js) = refines_in js + 1
refines_in (CoverYes v w ∷ js) = refines_in js
refines_in (CoverNo v w s ∷ js) = refines_in js

abbrev pub is_at : Option ℕ → ℕ → Bool
is_at None n = false
is_at (Some m) n = m == n

-- whether the last CoverYes stood behind as many Refines
abbrev pub was_covered : Option Settling → ℕ → Bool
was_covered None n = false
was_covered (Some s) n = is_at s.covered n

-- when the last CoverYes was, and which versions the last CoverNo had
abbrev pub covered_of : Option Settling → Option ℕ
covered_of None = None
covered_of (Some s) = s.covered

abbrev pub apart_of : Option Settling → Option (ℕ × ℕ)
apart_of None = None
apart_of (Some s) = s.apart

-- a settling after a CoverYes behind as many Refines, and after a CoverNo with these versions
abbrev pub covered_at : Option Settling → ℕ → Settling
covered_at known n = record { covered = Some n; apart = apart_of known }

abbrev pub parted_at : Option Settling → ℕ × ℕ → Settling
parted_at known x = record { covered = covered_of known; apart = Some x }

-- the pair stands with these sides
abbrev pub is_of : Apart → VertexId → VertexId → Bool
is_of a v w = same a.left v && same a.right w

abbrev pub versions_of : Apart → ℕ × ℕ
versions_of a = (a.left_version, a.right_version)

abbrev pub later_or : Option (ℕ × ℕ) → Option (ℕ × ℕ) → Option (ℕ × ℕ)
later_or None b = b
later_or (Some x) b = Some x

-- the versions with which the pair was kept apart last
abbrev pub last_apart : List Apart → VertexId → VertexId → Option (ℕ × ℕ)
last_apart [] v w = None
last_apart (a ∷ others) v w = later_or (last_apart others v w) (if is_of a v w then Some (versions_of a) else None)

abbrev pub is_now : Option (ℕ × ℕ) → ℕ → ℕ → Bool
is_now None m n = false
is_now (Some x) m n = x.0 == m && x.1 == n

abbrev pub AtMost : Option ℕ → ℕ → Type 0
AtMost None n = Unit {0}
AtMost (Some m) n = m ≤ n

abbrev pub version_at : List Vertex → ℕ → ℕ
version_at vs k = (vertex_at vs k).version

-- the versions of an entry are not above those of its vertices
abbrev pub IsPast : List Vertex → Apart → Type 0
IsPast vs a = (a.left_version ≤ version_at vs a.left.0) × (a.right_version ≤ version_at vs a.right.0)

abbrev pub NotAbove : Apart → Option (ℕ × ℕ) → Type 0
NotAbove a None = Unit {0}
NotAbove a (Some x) = (a.left_version ≤ x.0) × (a.right_version ≤ x.1)

-- later entries of a pair have no lower versions
abbrev pub Rising : List Apart → Type 0
Rising [] = Unit {0}
Rising (a ∷ others) = NotAbove a (last_apart others a.left a.right) × Rising others

-- the map tells of each pair how it was settled last
pub record AreSettlings (vs : List Vertex) (js : List UnitDone) (others : List Apart) (refines : ℕ) (map : HashMap Sides Settling (BuildHasherDefault FoldHasher)) : Type 0 where
  pub number : refines ≡ refines_in js
  pub yes : (v w : VertexId) → was_covered (get same_sides map (sides v w)) refines ≡ yes_since false js v w
  pub past : (q : Sides) → AtMost (covered_of (get same_sides map q)) refines
  pub apart : (v w : VertexId) → apart_of (get same_sides map (sides v w)) ≡ last_apart others v w
  pub rising : Rising others
  pub entries : All (IsPast vs) others
