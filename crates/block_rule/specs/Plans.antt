-- Places and their ways out, and what a plan says of a graph's nodes.
use Rattle.std.specs.Prelude.{ℕ, ◌+◌, ◌<◌, ◌≤◌, ◌≡◌, ◌&&◌, ◌⊎◌, Bool, true, List, [], ◌∷◌, Some, slice_get}
use Rattle.lv_base.specs.declared.fault.ErrorKind.{ErrorKind}
use Rattle.bv_term.specs.declared.term.TermId.{TermId}
use Rattle.bv_term.specs.WellFormed.{Table}
use Rattle.bv_term.specs.Values.{value}
use Rattle.c_graph.specs.declared.graph.Node.TheVariants.{Plain, Error}
use Rattle.c_graph.specs.declared.graph.Operation.{Operation}
use Rattle.c_graph.specs.declared.graph.Operation.TheVariants.{Assume, Set, SetAt, Draw}
use Rattle.c_graph.specs.declared.graph.Edge.{Edge}
use Rattle.c_graph.specs.Shape.{Flow}

-- a way: what it does behind its test, and where it leads
pub record Way : Type 0 where
  pub to : ℕ
  pub moves : List Operation

-- The ways out of a place: one; one behind a test; an error where the first test holds, and a way where the second does; two errors;
-- two ways that do nothing behind their tests.
pub data Ways : Type 0 where
  Goes : (way : Way) → Ways
  Tested : (test : TermId) → (way : Way) → Ways
  Checked : (fails : TermId) → (error : ℕ) → (passes : TermId) → (way : Way) → Ways
  Fails : (fails : TermId) → (error : ℕ) → (others : TermId) → (other : ℕ) → Ways
  Forks : (test : TermId) → (one : ℕ) → (others : TermId) → (other : ℕ) → Ways

pub record Place : Type 0 where
  pub node : ℕ
  pub ways : Ways

-- What is said of nodes: those that are reached from the entry, those from which an error or a listed loop is reached, the cut
-- points, and the cells that are read from a node on before they are set; of terms, the cells that they read. Where more places wait
-- than so many, none is looked at before a store goes through its guard.
pub record Plan : Type 0 where
  pub reached : ℕ → Bool
  pub alive : ℕ → Bool
  pub cuts : ℕ → Bool
  pub live : ℕ → ℕ → Bool
  pub reads : ℕ → ℕ → Bool
  pub most : ℕ

abbrev pub matters : Plan → ℕ → Bool
matters plan v = plan.reached v && plan.alive v

-- the edge does this and leads there
abbrev pub IsWay : Edge → List Operation → ℕ → Type 0
IsWay e ops to = (e.ops ≡ ops) × (e.to.0 ≡ to)

-- the edge is one of these ways
abbrev pub IsOneOf : Ways → Edge → Type 0
IsOneOf (Goes way) e = IsWay e way.moves way.to
IsOneOf (Tested t way) e = IsWay e (Assume t ∷ way.moves) way.to
IsOneOf (Checked t error u way) e = IsWay e (Assume t ∷ []) error ⊎ IsWay e (Assume u ∷ way.moves) way.to
IsOneOf (Fails t error u other) e = IsWay e (Assume t ∷ []) error ⊎ IsWay e (Assume u ∷ []) other
IsOneOf (Forks t one u other) e = IsWay e (Assume t ∷ []) one ⊎ IsWay e (Assume u ∷ []) other

-- in no store are both terms 1
abbrev pub Exclude : Table → TermId → TermId → Type 0
Exclude table t u = (store : List ℕ) → value table store t ≡ 1 → value table store u ≡ 1 → ⊥

-- the operation tests nothing, and its cells are among the first n; of the cells that an array's store may set, if one is read from a
-- node on, so is the first
abbrev pub IsMove : Plan → ℕ → Operation → Type 0
IsMove plan n (Assume t) = ⊥
IsMove plan n (Set c t) = c < n
IsMove plan n (SetAt first m i t) =
    (first + m ≤ n) × ((v k : ℕ) → k < m → plan.live v (first + k) ≡ true → plan.live v first ≡ true)
IsMove plan n (Draw c signed) = c < n

abbrev pub AreMoves : Plan → ℕ → List Operation → Type 0
AreMoves plan n [] = Unit {0}
AreMoves plan n (op ∷ ops) = IsMove plan n op × AreMoves plan n ops

abbrev pub IsError : Flow → ℕ → Type 0
IsError g v = (kind : ErrorKind) × ((at : ℕ) × (slice_get g.nodes v ≡ Some (Error kind at)))

abbrev pub AreRegular : Flow → Plan → ℕ → Ways → Type 0
AreRegular g plan n (Goes way) = AreMoves plan n way.moves
AreRegular g plan n (Tested t way) = AreMoves plan n way.moves
AreRegular g plan n (Checked t error u way) = Exclude g.terms t u × IsError g error × AreMoves plan n way.moves
AreRegular g plan n (Fails t error u other) = Exclude g.terms t u × IsError g error × IsError g other
AreRegular g plan n (Forks t one u other) = Exclude g.terms t u

-- the place is a plain node of the graph, its ways are all that lead from there, and they are regular over the first n cells
pub record IsPlace (g : Flow) (plan : Plan) (n : ℕ) (p : Place) : Type 0 where
  pub plain : slice_get g.nodes p.node ≡ Some Plain
  pub covers : (k : ℕ) (e : Edge) → slice_get g.edges k ≡ Some e → e.from.0 ≡ p.node → IsOneOf p.ways e
  pub regular : AreRegular g plan n p.ways

abbrev pub ArePlaces : Flow → Plan → ℕ → List Place → Type 0
ArePlaces g plan n [] = Unit {0}
ArePlaces g plan n (p ∷ ps) = IsPlace g plan n p × ArePlaces g plan n ps
