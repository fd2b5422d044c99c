-- The answer of the inlining is that of the program, where there is one.
use Rattle.std.proofs.Common.{inl, inr, ◌≡◌, ◌⊎◌, ◌<◌, ◌≤◌, ℕ, length, List, Result, Ok, Err, ap, ◌∙◌, refl, sym, subst, arith}
use Rattle.std.specs.Prelude.{IfErr, IfOk}
use Rattle.lv_base.specs.declared.fail.SourceFail.{SourceFail}
use Rattle.lv_base.specs.declared.fail.SourceFail.TheVariants.{Fault, Over, Memory}
use Rattle.c_typed.specs.Facts.{IsTyped}
use Rattle.c_typed.specs.Tree.{Program}
use Rattle.c_typed.specs.Parts.{Parts, tree_of}
use Rattle.c_graph.specs.Shape.{Flow}
use Rattle.c_graph.specs.Functions.{Flows, AreFlows}
use Rattle.slot_laws.specs.Laws.{IsOrder}
use Rattle.cfg_build.specs.Built.{built}
use Rattle.cfg_build.specs.Graphs.{ProgramFollows}
use Rattle.cfg_build.specs.Sizes.{IsWithin, TooMuch, graph_nodes}
use Rattle.code_layout.specs.Limits.{IsOver}
use Rattle.slot_code.specs.Programs.{code_of}
use Rattle.block_join.specs.Made.{joined}
use Rattle.call_inline.specs.Inlined.{inlined}
use Rattle.call_inline.specs.Inlining.{IsInlining}
use Rattle.call_inline.specs.Sizes.{HasFew, TooMany, copy_nodes}
use Rattle.program_graphs.specs.Standing.{ErrorsFollow}
use Rattle.program_graphs.specs.Returning.{ErrorsComeBack}
use Rattle.source_graph_laws.proofs.Inlined.{inlined_graphs_stand}
use Rattle.source_graphs.specs.Refusals.{IsSameLimit, IsTooBig, IsWithinLimits, LimitsAreExact, LimitsAreOfTrees, LimitsAreOne}
use Rattle.call_order.specs.Order.{callees}
use Rattle.call_order.specs.Walks.{order_by_walk}
use Rattle.function_graph_laws.specs.Laws as functions
use Rattle.cfg_build.proofs.Alike.{graphs_are_of_trees}
use Rattle.source_graphs.specs.Whole.{BlocksAreOfTrees, GraphsAreOfTrees, built_of, joined_of, own_order, whole_of}
use Rattle.source_graphs.specs.Refusals.IsTooBig.{copies, memory, parts}

pub answer_follows :
    (t : Parts) (order : List ℕ) (p : Flows) (r : Result Flow SourceFail) → IsTyped (tree_of t) → IsOrder (tree_of t) order → AreFlows p
    → ProgramFollows t order p → IfOk r (λ g. IsInlining p g) → IfOk r (ErrorsFollow (tree_of t))
answer_follows t order p (Ok g) typed ordered flows follows is = (inlined_graphs_stand t order p g typed ordered flows follows is).0
answer_follows t order p (Err e) typed ordered flows follows is = tt

pub answer_comes_back :
    (t : Parts) (order : List ℕ) (p : Flows) (r : Result Flow SourceFail) → IsTyped (tree_of t) → IsOrder (tree_of t) order → AreFlows p
    → ProgramFollows t order p → IfOk r (λ g. IsInlining p g) → IfOk r (ErrorsComeBack (tree_of t))
answer_comes_back t order p (Ok g) typed ordered flows follows is = (inlined_graphs_stand t order p g typed ordered flows follows is).1
answer_comes_back t order p (Err e) typed ordered flows follows is = tt

-- what is known of each graph with the copies holds of the answer
pub answer_visits : (p : Flows) (Visits : Flow → Type 0) (r : Result Flow SourceFail) → ((g : Flow) → IsInlining p g → Visits g) → IfOk r (λ g. IsInlining p g) → IfOk r Visits
answer_visits p Visits (Ok g) each is = each g is
answer_visits p Visits (Err e) each is = tt

-- ---- Refusals

-- of the graphs that are the program's, whose order is that of the walk
pub answer_refused : (t : Parts) (order : List ℕ) (p : Flows) (r : Result Flow SourceFail) → order ≡ own_order t → p ≡ built t order → IsOrder (tree_of t) order
    → IsWithin t order → ProgramFollows t order p → IfErr r (TooMany p) → IfErr r (IsTooBig t)
unfolding built_of
answer_refused t order p (Ok g) walked is ordered within follows many = tt
answer_refused t order p (Err e) walked is ordered within follows many =
    copies (subst (IsOrder (tree_of t)) walked ordered) (subst (IsWithin t) walked within)
    (subst (λ (o : List ℕ). ProgramFollows t o (built t o)) walked (subst (ProgramFollows t order) is follows))
    (subst (λ (o : List ℕ). TooMany (built t o) e) walked (subst (λ (q : Flows). TooMany q e) is many))

pub parts_refused : (t : Parts) (order : List ℕ) (e : SourceFail) → order ≡ own_order t → IsOrder (tree_of t) order → TooMuch t order e → IsTooBig t e
parts_refused t order e walked ordered much =
    parts (subst (IsOrder (tree_of t)) walked ordered) (subst (λ (o : List ℕ). TooMuch t o e) walked much)

-- where a graph is made, no limit is passed
pub answer_within : (t : Parts) (order : List ℕ) (p : Flows) (r : Result Flow SourceFail) → order ≡ own_order t → p ≡ built t order → IsWithin t order
    → IfOk r (λ g. HasFew p) → IfOk r (λ g. IsWithinLimits t)
unfolding built_of
answer_within t order p (Err e) walked is within few = tt
answer_within t order p (Ok g) walked is within few =
    let own : IsWithin t (own_order t) = subst (IsWithin t) walked within in record {
      cells = own.cells;
      nodes = own.nodes;
      copies = subst (λ (o : List ℕ). HasFew (built t o)) walked (subst HasFew is few);
    }

-- the copies of graphs that are the program's are the program's graph
pub answer_is :
    (t : Parts) (order : List ℕ) (p : Flows) (r : Result Flow SourceFail) → order ≡ own_order t → p ≡ built t order
    → IfOk r (λ g. g ≡ inlined p) → IfOk r (λ g. g ≡ whole_of t)
unfolding built_of
answer_is t order p r walked e h =
    subst (λ (o : List ℕ). IfOk r (λ g. g ≡ inlined (built t o))) walked (subst (λ (q : Flows). IfOk r (λ g. g ≡ inlined q)) e h)

-- ---- Two trees that say the same

order-same : (t u : Parts) → tree_of t ≡ tree_of u → own_order t ≡ own_order u
order-same t u e = ap (λ (p : Program). order_by_walk (callees p)) e

built-same : functions.GraphsAreOfTrees → (t u : Parts) → tree_of t ≡ tree_of u → built_of t ≡ built_of u
unfolding built_of
built-same h t u e = ap (built t) (order-same t u e) ∙ h t u (own_order u) e

-- where the graphs of functions are those of trees, so is the one that is made of them
pub of-trees : functions.GraphsAreOfTrees → GraphsAreOfTrees
of-trees h t u e = ap inlined (built-same h t u e)

pub blocks-of-trees : functions.GraphsAreOfTrees → BlocksAreOfTrees
unfolding joined_of
blocks-of-trees h t u e = ap (λ (g : Flow). joined g) (of-trees h t u e)

pub limits-of-trees : functions.GraphsAreOfTrees → LimitsAreOfTrees
limits-of-trees h t u e within = record {
  cells = subst (λ (p : Flows). length p.cells ≤ 65536) (built-same h t u e) within.cells;
  nodes = subst (λ (p : Program). graph_nodes (code_of p (order_by_walk (callees p))).instructions (length p.functions) ≤ 65536) e within.nodes;
  copies = subst HasFew (built-same h t u e) within.copies;
}

-- ---- Limits that are not passed, and the one that is

over-not : (limit n : ℕ) (e : SourceFail) → n ≤ 65536 → IsOver limit 65536 n e → e ≡ Memory
over-not limit n (Fault fault at) few over = absurd over
over-not limit n (Over number count) few over =
    let least : 65536 < count = over.1 in
    let most : count ≤ n = over.2 in
    absurd (omega (arith, least, most, few))
over-not limit n Memory few over = refl

many-not : (p : Flows) (e : SourceFail) → HasFew p → TooMany p e → e ≡ Memory
many-not p (Fault fault at) few many = absurd many
many-not p (Over number count) few many =
    let least : 65536 < count = many.1 in
    let most : count ≤ copy_nodes p.graphs many.2.0 p.main = many.2.1 in
    let below : copy_nodes p.graphs many.2.0 p.main ≤ 65536 = few many.2.0 in
    absurd (omega (arith, least, most, below))
many-not p Memory few many = refl

much-not : (t : Parts) (e : SourceFail) → IsWithinLimits t → TooMuch t (own_order t) e → e ≡ Memory
unfolding built_of
much-not t e within (inl over) = over-not 4 _ e within.cells over
much-not t e within (inr over) = over-not 5 _ e within.nodes over.1

pub limits-exact : LimitsAreExact
limits-exact t e within (parts ordered much) = much-not t e within much
limits-exact t e within (copies ordered parted follows many) = many-not (built_of t) e within.copies many
limits-exact t e within (memory is) = is

-- for the limit of this number
abbrev For : ℕ → SourceFail → Type 0
For number e = (count : ℕ) × (e ≡ Over number count)

-- too many cells, or few of them and too many nodes
abbrev IsFor : Parts → SourceFail → Type 0
IsFor t e = ((65536 < length (built_of t).cells) × For 4 e) ⊎ ((length (built_of t).cells ≤ 65536) × For 5 e)

over-for : (limit n : ℕ) (e : SourceFail) → IsOver limit 65536 n e → (e ≡ Memory) ⊎ ((65536 < n) × For limit e)
over-for limit n (Fault fault at) over = absurd over
over-for limit n (Over number count) over =
    let least : 65536 < count = over.1 in
    let most : count ≤ n = over.2 in
    inr (omega (arith, least, most), (count, ap (λ (k : ℕ). Over k count) over.0))
over-for limit n Memory over = inl refl

many-for : (p : Flows) (e : SourceFail) → TooMany p e → (e ≡ Memory) ⊎ For 5 e
many-for p (Fault fault at) many = absurd many
many-for p (Over number count) many = inr (count, ap (λ (k : ℕ). Over k count) many.0)
many-for p Memory many = inl refl

which : (t : Parts) (e : SourceFail) → IsTooBig t e → (e ≡ Memory) ⊎ IsFor t e
unfolding built_of
which t e (parts ordered (inl over)) = elim (over-for 4 _ e over) [ inl m ↦ inl m | inr h ↦ inr (inl h) ]
which t e (parts ordered (inr over)) = elim (over-for 5 _ e over.1) [ inl m ↦ inl m | inr h ↦ inr (inr (over.0, h.1)) ]
which t e (copies ordered parted follows many) = elim (many-for (built_of t) e many) [ inl m ↦ inl m | inr h ↦ inr (inr (parted.cells, h)) ]
which t e (memory is) = inl is

for-same : (number : ℕ) (e f : SourceFail) → For number e → For number f → IsSameLimit e f
for-same number e f h k = (number, (h.0, (k.0, h.1, k.1)))

limits-meet : (t u : Parts) (e f : SourceFail) → built_of t ≡ built_of u → IsFor t e → IsFor u f → IsSameLimit e f
limits-meet t u e f same (inl h) (inl k) = for-same 4 e f h.1 k.1
limits-meet t u e f same (inr h) (inr k) = for-same 5 e f h.1 k.1
limits-meet t u e f same (inl h) (inr k) =
    let least : 65536 < length (built_of t).cells = h.0 in
    let most : length (built_of t).cells ≤ 65536 = subst (λ (p : Flows). length p.cells ≤ 65536) (sym same) k.0 in
    absurd (omega (arith, least, most))
limits-meet t u e f same (inr h) (inl k) =
    let most : length (built_of t).cells ≤ 65536 = h.0 in
    let least : 65536 < length (built_of t).cells = subst (λ (p : Flows). 65536 < length p.cells) (sym same) k.0 in
    absurd (omega (arith, least, most))

pub limits-one : functions.GraphsAreOfTrees → LimitsAreOne
limits-one trees t u e f same h k = elim (which t e h) [
  | inl m ↦ inl m
  | inr i ↦ elim (which u f k) [ inl m ↦ inr (inl m) | inr j ↦ inr (inr (limits-meet t u e f (built-same trees t u same) i j)) ]
]

-- ---- Without premises

pub whole_graphs_are_of_trees : GraphsAreOfTrees
whole_graphs_are_of_trees = of-trees graphs_are_of_trees

pub blocks_are_of_trees : BlocksAreOfTrees
blocks_are_of_trees = blocks-of-trees graphs_are_of_trees

pub limits_are_of_trees : LimitsAreOfTrees
limits_are_of_trees = limits-of-trees graphs_are_of_trees

pub limits_are_one : LimitsAreOne
limits_are_one = limits-one graphs_are_of_trees
