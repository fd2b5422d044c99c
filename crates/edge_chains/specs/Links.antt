-- The tables by which chains are followed, and what is tested of them.
use Rattle.std.specs.Prelude.{ℕ, ◌<◌, ◌≡◌, ◌⊎◌, Bool, true, false, length, List, [], ◌∷◌, ◌++◌, Option, None, Some, slice_get}
use Rattle.c_graph.specs.declared.graph.NodeId.{NodeId}
use Rattle.c_graph.specs.declared.graph.Node.{Node}
use Rattle.c_graph.specs.declared.graph.Node.TheVariants.{Plain, Error, End, Call}
use Rattle.c_graph.specs.declared.graph.Edge.{Edge}
use Rattle.c_graph.specs.declared.graph.LoopAt.{LoopAt}
use Rattle.edge_chains.specs.Joining.{Among, IsOnly, Extends}

abbrev pub flag_of : Option Bool → Bool
flag_of None = false
flag_of (Some b) = b

-- the truth of a number, false past the end
abbrev pub flag_at : List Bool → ℕ → Bool
flag_at flags n = flag_of (slice_get flags n)

abbrev pub link_of : Option (Option ℕ) → Option ℕ
link_of None = None
link_of (Some l) = l

-- the number of a number, none past the end
abbrev pub link_at : List (Option ℕ) → ℕ → Option ℕ
link_at links n = link_of (slice_get links n)

-- a node that gives its edge away is linked to each edge that leads from it
abbrev pub IsLinked : List Bool → List (Option ℕ) → ℕ → ℕ → Type 0
IsLinked inner links v k = flag_at inner v ≡ true → link_at links v ≡ Some k

abbrev pub AreLinked : List Bool → List (Option ℕ) → List Edge → Type 0
AreLinked inner links edges = (k : ℕ) (e : Edge) → slice_get edges k ≡ Some e → IsLinked inner links e.from.0 k

-- an error node does not give its edge away
abbrev pub IsKept : Node → Bool → Type 0
IsKept Plain b = Unit {0}
IsKept (Error kind at) b = b ≡ false
IsKept End b = Unit {0}
IsKept (Call callee next) b = Unit {0}

abbrev pub AreKept : List Node → List Bool → Type 0
AreKept nodes inner = (n : ℕ) (x : Node) → slice_get nodes n ≡ Some x → IsKept x (flag_at inner n)

-- the node of a loop does not give its edge away
abbrev pub AreClear : List Bool → List LoopAt → Type 0
AreClear inner places = (k : ℕ) (l : LoopAt) → slice_get places k ≡ Some l → flag_at inner l.node.0 ≡ false

-- the node gives its edge away, and the edge of this number is the only one from it
abbrev pub IsNext : List Bool → List Edge → NodeId → ℕ → Type 0
IsNext inner edges v k =
    (k < length edges) × (flag_at inner v.0 ≡ true) × ((e : Edge) → slice_get edges k ≡ Some e → IsOnly edges v e)

-- an edge adds itself, with all that follows it, where its node is kept
abbrev pub Adds : List Bool → List Edge → Edge → List Edge → List Edge → Type 0
Adds inner edges e old new =
    ((flag_at inner e.from.0 ≡ true) × (new ≡ old))
    ⊎ ((flag_at inner e.from.0 ≡ false) × ((f : Edge) × (new ≡ old ++ f ∷ []) × Extends (flag_at inner) edges e f))

-- the first n edges are joined
pub record AreJoined (inner : List Bool) (edges : List Edge) (n : ℕ) (new : List Edge) : Type 0 where
  pub kept :
      (k : ℕ) (e : Edge) → k < n → slice_get edges k ≡ Some e → flag_at inner e.from.0 ≡ false
      → (f : Edge) × Among new f × Extends (flag_at inner) edges e f
  pub made : (f : Edge) → Among new f → (e : Edge) × Among edges e × (flag_at inner e.from.0 ≡ false) × Extends (flag_at inner) edges e f
