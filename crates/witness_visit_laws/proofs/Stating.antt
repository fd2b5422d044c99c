-- The invariants of loops, at their visits.
use Rattle.std.proofs.Common.{◌≡◌, ◌∙◌, inl, inr, ap, sym, subst, refl, ℕ, zero, suc, ◌<◌, ◌+◌, Bool, true, false, List, [], ◌∷◌, ◌++◌, length, slice_index, slice_index_or, ℤ, pos, All, arith}
use Rattle.std.specs.Prelude.{Option, Some, None, slice_get, map, take}
use Rattle.std.proofs.lemmas.Option.{slice_get_within}
use Rattle.lv_base.specs.declared.kind.Model.{Model}
use Rattle.bv_term.specs.declared.term.TermId.{TermId}
use Rattle.bv_term.specs.WellFormed.{IsTable, widths}
use Rattle.bv_term.specs.Values.{IsStore}
use Rattle.c_tree.specs.Tree.{Items}
use Rattle.c_meaning.specs.Bindings.{Env}
use Rattle.c_meaning.specs.Program.{env_of}
use Rattle.c_typed.specs.Tree as typed_tree
use Rattle.c_typed.specs.Parts.{Parts, tree_of}
use Rattle.c_typed.specs.Run as typed
use Rattle.c_typed.specs.View.{object_of}
use Rattle.c_types.specs.Elaborated.{elaborated, objects_from}
use Rattle.c_types.specs.Laws.{SourceFits}
use Rattle.c_types.proofs.Whole.{same_run}
use Rattle.c_graph.specs.declared.graph.Cell.{Cell}
use Rattle.c_graph.specs.declared.graph.LoopAt.{LoopAt}
use Rattle.c_graph.specs.declared.graph.Origin.TheVariants.{Element, Saved}
use Rattle.c_graph.specs.declared.graph.Node.{Node}
use Rattle.c_graph.specs.declared.graph.Node.TheVariants.{Error}
use Rattle.block_rule.specs.Plans.{IsError}
use Rattle.c_graph.specs.declared.graph.EdgeId.{EdgeId}
use Rattle.c_graph.specs.declared.graph.NodeId.{NodeId}
use Rattle.c_graph.specs.Shape.{Flow, IsFlow, widths_of}
use Rattle.c_graph.specs.Steps.{IsWhole}
use Rattle.c_graph.specs.Runs.{Formulas, HoldsAt, IsMapOf, IsInductive, RunsAlong, RunsTo}
use Rattle.c_graph.proofs.Keeping.{edge-fits, leads-whole}
use Rattle.cfg_build.specs.Graphs.{program_setting}
use Rattle.code_moves.specs.Setting.{Setting}
use Rattle.loop_names.specs.Spellings.{spellings_of}
use Rattle.program_visits.specs.Visiting.{Visits}
use Rattle.source_witnesses.specs.Witnesses.{condition_of, expression_at, shown_cell, shown_cells, shown_from}
use Rattle.witness_expressions.specs.Names.{named}
use Rattle.witness_places.specs.Loops.{main_loops}
use Rattle.witness_truth_laws.specs.Written.{place_of, parts_of, Reads}
use Rattle.witness_truth_laws.specs.Telling.{TellsOf}
use Rattle.witness_truth_laws.proofs.Concluding.{written-is-true}
use Rattle.witness_truth_laws.proofs.Wording.{text-is-written}
use Rattle.witness_visit_laws.specs.Visited.{IsVisited, IsTrueAt}
use Rattle.witness_visit_laws.specs.Laws.{InvariantsAreTrue, MarkedInvariantsAreTrue}
use Rattle.witness_visit_laws.proofs.Seeing.{shown}

get-some : {A : Type 0} (xs : List A) (k : ℕ) (x : A) → slice_get xs k ≡ Some x → (k < length xs) × (slice_index_or xs k x ≡ x)
get-some [] k x e = absurd cc
get-some (y ∷ xs) zero x e = (omega arith, cc)
get-some (y ∷ xs) (suc k) x e = let r = get-some xs k x e in (omega (arith, r.0), r.1)

all-at : {A : Type 0} (P : A → Type 0) (xs : List A) (k : ℕ) (x : A) → All P xs → slice_get xs k ≡ Some x → P x
all-at P xs k x h e = let r = get-some xs k x e in subst P r.1 (h k x r.0)

-- ---- Cells that are shown

shown-width : (b : Bool) (c : Cell) → (shown_cell b c).width ≡ c.width
shown-width true c = refl
shown-width false c = refl

shown-widths : (marks : ℕ → Bool) (n : ℕ) (cells : List Cell) → widths_of (shown_from marks n cells) ≡ widths_of cells
shown-widths marks n [] = refl
shown-widths marks n (c ∷ cs) =
    ap (λ (w : ℕ). w ∷ widths_of (shown_from marks (suc n) cs)) (shown-width (marks n) c) ∙ ap (λ (ws : List ℕ). c.width ∷ ws) (shown-widths marks (suc n) cs)

-- what has a name is as it was
shown-element : (b mark : Bool) (c cell : Cell) (object element : ℕ) → mark ≡ b → shown_cell b c ≡ cell → cell.origin ≡ Element object element → (c ≡ cell) × (mark ≡ true)
shown-element true mark c cell object element e is from = (is, e)
shown-element false mark c cell object element e is from =
    let both : Saved ≡ Element object element = ap (λ (x : Cell). x.origin) is ∙ from in absurd cc

-- a cell that is an element of an object is marked, and is the cell of its number
shown-there : (marks : ℕ → Bool) (n : ℕ) (cells : List Cell) (k : ℕ) (cell : Cell) (object element : ℕ) → slice_get (shown_from marks n cells) k ≡ Some cell
    → cell.origin ≡ Element object element → (slice_get cells k ≡ Some cell) × (marks (n + k) ≡ true)
shown-there marks n [] k cell object element e from = absurd cc
shown-there marks n (c ∷ cs) zero cell object element e from =
    let is : shown_cell (marks n) c ≡ cell = cc in
    let here : n + 0 ≡ n = omega arith in
    let r = shown-element (marks n) (marks n) c cell object element refl is from in
    (ap (λ (x : Cell). Some x) r.0, ap marks here ∙ r.1)
shown-there marks n (c ∷ cs) (suc k) cell object element e from =
    let next : suc n + k ≡ n + suc k = omega arith in
    let r = shown-there marks (suc n) cs k cell object element e from in
    (r.0, ap marks (sym next) ∙ r.1)

shown-at : (marks : ℕ → Bool) (cells : List Cell) (c : ℕ) (cell : Cell) (object element : ℕ) → slice_get (shown_cells marks cells) c ≡ Some cell
    → cell.origin ≡ Element object element → (slice_get cells c ≡ Some cell) × (marks c ≡ true)
shown-at marks cells c cell object element e from =
    let here : 0 + c ≡ c = omega arith in
    let r = shown-there marks 0 cells c cell object element e from in
    (r.0, ap marks (sym here) ∙ r.1)

-- ---- Invariants

-- some store meets the formula of a loop's node, and tells the values of what stands in the cells that it reads
pub record IsMet (env : Env) (model : Model) (cells : List Cell) (m : Formulas) (l : LoopAt) (values : List (List ℤ)) : Type 0 where
  pub store : List ℕ
  pub stored : IsStore m.terms.cells store
  pub holds : HoldsAt m l.node store
  pub tells : (formula : TermId) → slice_get m.at l.node.0 ≡ Some formula → TellsOf (Reads m.terms.terms formula) env model cells values store

module _ (items : Items) (model : Model) (cells : List Cell) (m : Formulas) (l : LoopAt) (is : IsTable m.terms) (wide : m.terms.cells ≡ widths_of cells)
    (bits : All (λ t. (t.0 < length m.terms.terms) × (slice_index (widths m.terms) t.0 ≡ 1)) m.at)
    (met : (inputs : List ℤ) (values : List (List ℤ)) → IsVisited items model inputs l.at values → IsMet (env_of items model) model cells m l values) where
  abbrev condition : ℕ
  condition = condition_of (main_loops items) l.at

  stated-by : (found : Option TermId) → slice_get m.at l.node.0 ≡ found
      → IsTrueAt items model l.at condition (expression_at (named (spellings_of (env_of items model) l.at condition) cells) m found)
  stated-by None e = record { parts = []; written = refl; true_there = λ inputs functions call at st visit place. (pos 1, refl, refl) }
  stated-by (Some formula) e = record {
    parts = parts_of (place_of (spellings_of (env_of items model) l.at condition) cells) m.terms.terms formula;
    written = text-is-written (spellings_of (env_of items model) l.at condition) cells m.terms formula is;
    true_there = λ inputs functions call at st visit place.
        let r = met inputs st.store visit in
        written-is-true (env_of items model) model inputs functions call cells m.terms formula l.at condition at r.store st is wide r.stored
        (all-at (λ t. (t.0 < length m.terms.terms) × (slice_index (widths m.terms) t.0 ≡ 1)) m.at l.node.0 formula bits e) (r.holds formula e) (r.tells formula e) place;
  }

  pub stated : IsTrueAt items model l.at condition (expression_at (named (spellings_of (env_of items model) l.at condition) cells) m (slice_get m.at l.node.0))
  stated = stated-by (slice_get m.at l.node.0) refl

-- a visit of the source is one of its typed tree
typed-visit : (items : Items) (t : Parts) (inputs : List ℤ) (at : ℕ) (values : List (List ℤ)) → tree_of t ≡ elaborated items t.model → SourceFits items t.model
    → IsVisited items t.model inputs at values → Visits (tree_of t) inputs at values
typed-visit items t inputs at values tree fits (turns, taken, run) =
    (turns, taken, ap (λ (p : typed_tree.Program). typed.run turns p inputs) tree ∙ same_run items t.model fits turns inputs ∙ run)

typed-objects : (items : Items) (t : Parts) → tree_of t ≡ elaborated items t.model → map object_of t.objects ≡ objects_from (env_of items t.model) t.model 0 (env_of items t.model).objects
typed-objects items t tree = ap (λ (p : typed_tree.Program). p.objects) tree

pub invariants-are-true : InvariantsAreTrue
invariants-are-true items t order g marks m source l tree fits stand is map holds there =
    let s : Setting = program_setting t order in
    let env : Env = env_of items t.model in
    let cells : List Cell = shown_cells (marks l.node.0) g.cells in
    stated items t.model cells m l is (map.cells ∙ sym (shown-widths (marks l.node.0) 0 g.cells)) map.formulas (λ inputs values visit.
    let (after, whole, meets, shows) = holds inputs l values there (typed-visit items t inputs l.at values tree fits visit) in
    record {
      store = after;
      stored = subst (λ (ws : List ℕ). IsStore ws after) (sym map.cells) whole.fits;
      holds = meets;
      tells = λ formula e c cell object element o read known from named.
          let old = (shown-at (marks l.node.0) g.cells c cell object element known from).0 in
          shown env s values after c object element cell o (typed-objects items t tree) fits.objects shows (stand c object element cell old from) named;
    })

-- ---- Graphs of blocks

get-front : {A : Type 0} (xs ys : List A) (i : ℕ) → i < length xs → slice_get (xs ++ ys) i ≡ slice_get xs i
get-front [] ys i h = absurd (omega arith)
get-front (x ∷ xs) ys zero h = refl
get-front (x ∷ xs) ys (suc i) h = get-front xs ys i (omega arith)

module _ (g : Flow) (m : Formulas) (flow : IsFlow g) (i : IsInductive g m) where
  -- a whole store that meets the formula of a node
  abbrev Meets : NodeId → List ℕ → Type 0
  Meets v store = IsWhole (widths_of g.cells) store × HoldsAt m v store

  along : (path : List EdgeId) (v w : NodeId) (store after : List ℕ) (draws : List ℤ) → Meets v store → RunsAlong g path v store draws w after → Meets w after
  along [] v w store after draws meets (to, same, none) = subst (λ (x : NodeId). Meets x after) to (subst (λ (s : List ℕ). Meets v s) same meets)
  along (e ∷ path) v w store after draws meets (edge, is, from, (mid, first, rest, split, leads, run)) =
      let fits = edge-fits g e.0 edge flow is in
      let before : IsWhole g.terms.cells store = subst (λ (ws : List ℕ). IsWhole ws store) (sym flow.cells) meets.0 in
      let whole : IsWhole (widths_of g.cells) mid = subst (λ (ws : List ℕ). IsWhole ws mid) flow.cells (leads-whole g.terms edge store first mid flow.table fits.operations before leads) in
      let holds : HoldsAt m edge.from store = subst (λ (x : NodeId). HoldsAt m x store) (sym from) meets.1 in
      along path edge.to w mid after rest (whole, i.edges e.0 edge store first mid is meets.0 holds leads) run

  reached : (draws : List ℤ) (v : NodeId) (after : List ℕ) → RunsTo g draws v after → Meets v after
  reached draws v after (path, store, whole, runs) = along path g.entry v store after draws (whole, i.entry store whole) runs

-- no run comes to the error of an inductive map
none-meets : (g h : Flow) (others : List Node) (m : Formulas) (flow : IsFlow h) (inductive : IsInductive h m) (v : NodeId) (store : List ℕ) → h.nodes ≡ g.nodes ++ others → IsError g v.0
    → Meets h m flow inductive v store → ⊥
none-meets g h others m flow inductive v store nodes (kind, (at, error)) meets =
    let front : slice_get (g.nodes ++ others) v.0 ≡ slice_get g.nodes v.0 = get-front g.nodes others v.0 (slice_get_within g.nodes v.0 (Error kind at) error) in
    inductive.errors v kind at store (ap (λ (ns : List Node). slice_get ns v.0) nodes ∙ front ∙ error) meets.0 meets.1

pub marked-invariants-are-true : MarkedInvariantsAreTrue
marked-invariants-are-true items t order h marks m source l tree fits of flow is inductive there =
    let s : Setting = program_setting t order in
    let env : Env = env_of items t.model in
    let map : IsMapOf h m = inductive.map in
    let g : Flow = of.whole in
    let (more, cells) = of.stays.cells in
    let (others, nodes) = of.stays.nodes in
    let listed : slice_get g.loops there.0 ≡ Some l = ap (λ (ls : List LoopAt). slice_get ls there.0) (sym of.stays.loops) ∙ there.1 in
    let seen : List Cell = shown_cells (marks l.node.0) h.cells in
    stated items t.model seen m l is (map.cells ∙ sym (shown-widths (marks l.node.0) 0 h.cells)) map.formulas (λ inputs values visit.
    let (taken, after, run, shows) = of.visits inputs l values (there.0, listed) (typed-visit items t inputs l.at values tree fits visit) in
    let (end, (runs, arrived)) = of.keeps (take taken inputs) there.0 l after listed run in
    let met = reached h m flow inductive (take taken inputs) l.node end runs in
    record {
      store = end;
      stored = subst (λ (ws : List ℕ). IsStore ws end) (sym map.cells) met.0.fits;
      holds = met.1;
      tells = λ formula e c cell object element o read known from named.
          let (there_still, marked) = shown-at (marks l.node.0) h.cells c cell object element known from in
          let less : c < length g.cells = of.within l.node.0 c marked in
          let old : slice_get g.cells c ≡ Some cell = sym (get-front g.cells more c less) ∙ sym (ap (λ (cs : List Cell). slice_get cs c) cells) ∙ there_still in
          let told = shown env s values after c object element cell o (typed-objects items t tree) fits.objects shows (of.stand c object element cell old from) named in
          let same : slice_index after c ≡ slice_index end c = elim arrived [
            | inl error ↦ absurd (none-meets g h others m flow inductive l.node end nodes error met)
            | inr agree ↦ agree c less marked
          ] in
          record { there = told.there; wide = told.wide; low = sym same ∙ told.low; in_range = told.in_range };
    })
