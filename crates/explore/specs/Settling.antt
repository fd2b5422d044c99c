-- Whose pairs are settled, and what trying one of them makes.
use Rattle.std.specs.Prelude.{ℕ, ◌<◌, ◌≡◌, ◌⊎◌, Bool, true, false, List, [], ◌∷◌, None}
use Rattle.c_graph.specs.Shape.{Flow}
use Rattle.reach_tree.specs.declared.vertex.VertexId.{VertexId}
use Rattle.cover_engine.specs.Unwindings.{Unwound, may_settle}
use Rattle.cover_engine.specs.Units.{after_cover, after_part}
use Rattle.cover_engine.specs.Steering.{CoversSteered, IsHighestOpen, IsNoError, StandsOn}
use Rattle.unwinding_laws.specs.Steered.{last_refined}

-- it is the vertex's turn: it is the open leaf of highest number, and at no error; or the last unit that is no cover unit is a Refine on
-- whose path it stands
abbrev pub HasTurn : Flow → Unwound → VertexId → Type 0
HasTurn g u v = (IsHighestOpen g u v × IsNoError g u v) ⊎ StandsOn u (last_refined None u.journal) v

-- a cover unit of the pair keeps its rule
abbrev pub MayCover : Flow → Unwound → VertexId → VertexId → Type 0
MayCover g u v w = CoversSteered g u (last_refined None u.journal) v w

-- the vertex may be settled with none of those below a number
abbrev pub NoneBelow : Unwound → VertexId → ℕ → Type 0
NoneBelow u v n = (k : VertexId) → k.0 < n → may_settle u v k ≡ false

-- the pair was tried: the first vertex was covered; or the pair could not be settled, or was kept apart
abbrev pub IsTried : Unwound → Unwound → VertexId → VertexId → Bool → Type 0
IsTried old new v w true = new ≡ after_cover old v w
IsTried old new v w false = ((new ≡ old) × (may_settle old v w ≡ false)) ⊎ ((store : List ℕ) × (new ≡ after_part old v w store))

-- the number is one of these vertices'
abbrev pub IsOneOf : List VertexId → ℕ → Type 0
IsOneOf [] k = ⊥
IsOneOf (x ∷ xs) k = (x.0 ≡ k) ⊎ IsOneOf xs k

-- each vertex is numbered above those behind it
abbrev pub AreFalling : List VertexId → Type 0
AreFalling [] = Unit {0}
AreFalling (x ∷ xs) = ((k : ℕ) → IsOneOf xs k → k < x.0) × AreFalling xs

-- these are left to try, all below v and falling: v may be settled with no other one below it
pub record AreLeft (u : Unwound) (v : VertexId) (xs : List VertexId) : Type 0 where
  pub low : (k : ℕ) → IsOneOf xs k → k < v.0
  pub falling : AreFalling xs
  pub others : (k : VertexId) → k.0 < v.0 → (IsOneOf xs k.0 → ⊥) → may_settle u v k ≡ false
