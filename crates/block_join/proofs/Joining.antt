-- Which graph is the answer, by what the test says of the blocks.
use Rattle.std.proofs.Common.{Bool, true, false, if◌then◌else◌, ℕ, ◌≡◌, ◌∙◌, List, [], ◌∷◌, refl, sym, ap, ap₂, Vec}
use Rattle.std.specs.Global.{Global}
use Rattle.c_graph.specs.declared.graph.NodeId.{NodeId}
use Rattle.c_graph.specs.Shape.{Flow}
use Rattle.walk_states.specs.declared.known.Known.{Known}
use Rattle.plan_tables.specs.Tables.{LiveRows, UnitTable}
use Rattle.plan_tables.specs.Made.{reads_new, units_new}
use Rattle.block_plan.specs.Plans.{Plan}
use Rattle.block_plan.specs.Made.{blocks_of, live_units}
use Rattle.block_emission.specs.Emitting.{Scheme}
use Rattle.block_emission.specs.Blocking.{members_of, places_of}
use Rattle.block_follow.specs.Made.{lists_of}
use Rattle.block_join.specs.Made.{attempted, has_blocks, joined, joined_by, known_of, tested, with_chains}

-- lists that lie in memory are the same lists by both names
same-lists : (vs : List (Vec NodeId Global)) → lists_of vs ≡ places_of vs
same-lists [] = refl
same-lists (v ∷ vs) = ap (λ (rest : List (List NodeId)). v.items ∷ rest) (same-lists vs)

abbrev known-by : (reached alive cuts : List Bool) → UnitTable → LiveRows → List (List ℕ) → Known
known-by reached alive cuts units live reads = record { reached = reached; alive = alive; cuts = cuts; units = units; live = live; reads = reads }

-- what is known of the places, by how it was found
pub known-is :
    (g : Flow) (reached alive cuts : List Bool) (units : UnitTable) (live : LiveRows) (reads : List (List ℕ))
    → reached ≡ (blocks_of g).reached → alive ≡ (blocks_of g).alive → cuts ≡ (blocks_of g).cuts → units ≡ units_new g.cells
    → live ≡ live_units g (blocks_of g) (units_new g.cells) (reads_new g.terms (units_new g.cells)) 4194304 → reads ≡ reads_new g.terms (units_new g.cells)
    → known-by reached alive cuts units live reads ≡ known_of g 4194304
known-is g reached alive cuts units live reads a b c d e f =
    ap (λ (x : List Bool). known-by x alive cuts units live reads) a
    ∙ ap (λ (x : List Bool). known-by (blocks_of g).reached x cuts units live reads) b
    ∙ ap (λ (x : List Bool). known-by (blocks_of g).reached (blocks_of g).alive x units live reads) c
    ∙ ap (λ (x : UnitTable). known-by (blocks_of g).reached (blocks_of g).alive (blocks_of g).cuts x live reads) d
    ∙ ap (λ (x : LiveRows). known-by (blocks_of g).reached (blocks_of g).alive (blocks_of g).cuts (units_new g.cells) x reads) e
    ∙ ap (λ (x : List (List ℕ)). known-by (blocks_of g).reached (blocks_of g).alive (blocks_of g).cuts (units_new g.cells) (known_of g 4194304).live x) f

-- what the blocks are made from, by how it was found
abbrev pub scheme-by : Flow → Plan → UnitTable → LiveRows → Scheme
scheme-by g plan units live = record { graph = g; blocks = plan; units = units; live = live }

-- the test of what was made answers what the definition does
pub test-is : (g h : Flow) (known : Known) (members : List (Vec NodeId Global)) → h ≡ attempted g 4194304 → known ≡ known_of g 4194304 → places_of members ≡ members_of g (blocks_of g)
    → tested g h known (lists_of members) ≡ has_blocks g 4194304
unfolding has_blocks
test-is g h known members made are places =
    ap (λ (x : Flow). tested g x known (lists_of members)) made
    ∙ ap (λ (x : Known). tested g (attempted g 4194304) x (lists_of members)) are
    ∙ ap (λ (x : List (List NodeId)). tested g (attempted g 4194304) (known_of g 4194304) x) (same-lists members ∙ places)

-- a graph whose blocks are what the rule says
pub joined-where : (g b h : Flow) {t : Bool} → t ≡ true → t ≡ has_blocks g 4194304 → b ≡ attempted g 4194304 → h ≡ with_chains b → h ≡ joined g
joined-where g b h follows is made chains =
    chains ∙ ap with_chains made ∙ sym (ap (λ (x : Bool). joined_by x g (attempted g 4194304)) (sym is ∙ follows))

-- a graph whose blocks are not
pub joined-else : (g h : Flow) {t : Bool} → t ≡ false → t ≡ has_blocks g 4194304 → h ≡ with_chains g → h ≡ joined g
joined-else g h fails is chains = chains ∙ sym (ap (λ (x : Bool). joined_by x g (attempted g 4194304)) (sym is ∙ fails))
