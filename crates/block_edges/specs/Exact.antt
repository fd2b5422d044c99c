-- When a graph of blocks has no other edges than the rule says, and each way of its places is an edge of the graph that it was made of.
use Rattle.std.specs.Prelude.{ℕ, ◌<◌, ◌≡◌, ◌⊎◌, true, false, not, List, [], ◌∷◌, ◌++◌, length, Some, slice_get}
use Rattle.bv_term.specs.declared.term.TermId.{TermId}
use Rattle.bv_term.specs.WellFormed.{Table}
use Rattle.bv_term.specs.Values.{value}
use Rattle.c_graph.specs.declared.graph.Node.TheVariants.{Plain, End}
use Rattle.c_graph.specs.declared.graph.Operation.{Operation}
use Rattle.c_graph.specs.declared.graph.Operation.TheVariants.{Assume}
use Rattle.c_graph.specs.declared.graph.Edge.{Edge}
use Rattle.c_graph.specs.Shape.{Flow}
use Rattle.c_graph.specs.Steps.{IsWhole}
use Rattle.block_rule.specs.Deeds.{Deed, Tests, AreDeeds, Code, Stops, Refused, Ends, Does, Branches}
use Rattle.block_rule.specs.Plans.{Ways, Goes, Tested, Checked, Fails, Forks, Place, Plan, matters, IsWay}
use Rattle.block_rule.specs.Rule.{block_code}
use Rattle.block_rule.specs.Blocked.{plain_deeds, Begins, Keeps}

-- an edge of the graph leads from a node, does this and leads there
abbrev pub Leaves : Flow → ℕ → List Operation → ℕ → Type 0
Leaves g v ops to = (k : ℕ) × ((e : Edge) × (slice_get g.edges k ≡ Some e) × (e.from.0 ≡ v) × IsWay e ops to)

-- in each store of the table's widths one of both terms is 1
abbrev pub Either : Table → TermId → TermId → Type 0
Either table t u = (store : List ℕ) → IsWhole table.cells store → (value table store t ≡ 1) ⊎ (value table store u ≡ 1)

-- each of the ways is an edge of the graph from the node, and where there are two, a run always goes on along one of them
abbrev pub AreLed : Flow → ℕ → Ways → Type 0
AreLed g v (Goes way) = Leaves g v way.moves way.to
AreLed g v (Tested t way) = Leaves g v (Assume t ∷ way.moves) way.to
AreLed g v (Checked t error u way) = Leaves g v (Assume t ∷ []) error × Leaves g v (Assume u ∷ way.moves) way.to × Either g.terms t u
AreLed g v (Fails t error u other) = Leaves g v (Assume t ∷ []) error × Leaves g v (Assume u ∷ []) other × Either g.terms t u
AreLed g v (Forks t one u other) = Leaves g v (Assume t ∷ []) one × Leaves g v (Assume u ∷ []) other × Either g.terms t u

abbrev pub AllLed : Flow → List Place → Type 0
AllLed g [] = Unit {0}
AllLed g (p ∷ ps) = AreLed g p.node p.ways × AllLed g ps

-- The edge is one of those by which a graph has the code behind these deeds. The edge at which the code ends does them and no more. A
-- branch is at the node of the edge, where there was nothing to do, or at the plain node to which the edge leads that did them; from
-- there no other edges lead than those of its two sides.
abbrev pub OneOf : Flow → List Deed → Code → Edge → Type 0
OneOf h ds Stops e = ⊥
OneOf h ds Refused e = ⊥
OneOf h ds (Ends to) e = (e.to.0 ≡ to) × AreDeeds h.terms e.ops ds
OneOf h ds (Does d c) e = OneOf h (ds ++ d ∷ []) c e
OneOf h ds (Branches p c d) e =
    ((ds ≡ []) × (OneOf h (Tests p ∷ []) c e ⊎ OneOf h (Tests (λ s. not (p s)) ∷ []) d e))
    ⊎ ((slice_get h.nodes e.to.0 ≡ Some Plain) × AreDeeds h.terms e.ops ds
    × ((k : ℕ) (f : Edge) → slice_get h.edges k ≡ Some f → f.from.0 ≡ e.to.0 → OneOf h (Tests p ∷ []) c f ⊎ OneOf h (Tests (λ s. not (p s)) ∷ []) d f))

-- a block begins at the node, the ways of its places are edges of g, and h has no other edges there than the block's
pub record HasBlock (g h : Flow) (plan : Plan) (v : ℕ) : Type 0 where
  pub begins : Begins g h plan v
  pub ways : AllLed g (begins.first ∷ begins.others)
  pub none_else :
      (k : ℕ) (e : Edge) → slice_get h.edges k ≡ Some e → e.from.0 ≡ v
      → OneOf h [] (block_code g.terms plan begins.first begins.others (length g.cells)) e

-- the node keeps its edges, and each edge of h there is one of g to a node that matters
pub record HasKept (g h : Flow) (plan : Plan) (v : ℕ) : Type 0 where
  pub keeps : Keeps g h plan v
  pub none_else :
      (k : ℕ) (e : Edge) → slice_get h.edges k ≡ Some e → e.from.0 ≡ v
      → (j : ℕ) × ((f : Edge) × (slice_get g.edges j ≡ Some f) × (f.from.0 ≡ v) × (f.to.0 ≡ e.to.0) × (matters plan f.to.0 ≡ true)
      × AreDeeds h.terms e.ops (plain_deeds g.terms f.ops))

-- The graph of blocks h has no way that g has not: at each cut point that matters it has the edges of its block alone, or those that
-- the node had; and where the entry does not matter, each edge from it leads to an end, or back to it.
pub record HasNoMore (g h : Flow) (plan : Plan) : Type 0 where
  pub blocks : (v : ℕ) → v < length g.nodes → plan.cuts v ≡ true → matters plan v ≡ true → HasBlock g h plan v ⊎ HasKept g h plan v
  pub dead :
      (k : ℕ) (e : Edge) → matters plan g.entry.0 ≡ false → slice_get h.edges k ≡ Some e → e.from.0 ≡ h.entry.0
      → (slice_get h.nodes e.to.0 ≡ Some End) ⊎ (e.to.0 ≡ h.entry.0)
