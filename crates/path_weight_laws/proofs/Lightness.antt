-- What operations, steps and paths add, against their weights.
use Rattle.std.proofs.Common.{◌≡◌, ℕ, ◌+◌, ◌≤◌, ◌<◌, length, List, [], ◌∷◌, ◌++◌, All, take, drop, arith, ap, sym, ◌∙◌, refl, suc, zero, Bool, true, false, ◌||◌, slice_index, Option, Some, None, sum_by}
use Rattle.std.specs.Prelude.{slice_index_or}
use Rattle.std.proofs.lemmas.List.Elements.{All-head, All-tail}
use Rattle.std.proofs.lemmas.List.Sums.{sum_by-cons}
use Rattle.prop.specs.declared.Lit.{Lit}
use Rattle.prop.specs.Logic.{count}
use Rattle.prop.specs.Trues.{listed}
use Rattle.bit_gates.specs.Net.{net_clauses}
use Rattle.bit_gates.proofs.Cuts.{count-append}
use Rattle.bit_words.specs.Elements.{AllLong}
use Rattle.bv_term.specs.WellFormed.{Table, IsTable, IsArray, IsWidth, widths}
use Rattle.bv_term.proofs.Growing.{widths-of}
use Rattle.bit_blast.specs.Done.{is_done}
use Rattle.bit_blast.specs.Cone.{cone_of}
use Rattle.bit_blast.specs.Held.{Held, IsOver, begun, blast_of, fresh_of, new_of, renew_of, store_of}
use Rattle.bit_blast.proofs.Cones.{blast-over, cone-falls}
use Rattle.bit_blast.proofs.Over.{over-new, over-rebind, over-renew, over-store}
use Rattle.blast_laws.specs.Bounds.{bounds_of, constant_bound, store_bound}
use Rattle.blast_laws.proofs.Bounding.{terms_small, stores_small}
use Rattle.c_graph.specs.declared.graph.Edge.{Edge}
use Rattle.c_graph.specs.declared.graph.EdgeId.{EdgeId}
use Rattle.c_graph.specs.declared.graph.Operation.{Operation}
use Rattle.c_graph.specs.declared.graph.Operation.TheVariants.{Assume, Set, SetAt, Draw}
use Rattle.c_graph.specs.Shape.{EdgeFits, Flow, IsFlow, OperationFits}
use Rattle.path_formula.specs.Needs.{operations_at}
use Rattle.path_formula.specs.Added.{Added, added, added_all, added_if}
use Rattle.path_formula.specs.Questions.{asked, plan_of, question_of, stepped}
use Rattle.path_formula.proofs.Parts.{array_long, array_there, cell_long, fresh_long}
use Rattle.path_weight_laws.specs.Weights.{operation_weight, step_weight}
use Rattle.path_weight_laws.specs.Laws.{PathsAreLight, RefusedPathsAreHeavy}
use Rattle.path_weight_laws.proofs.Fallings.{cone_less, cones_less}

-- an addition has at most so many literals, and leaves what fits the table
record IsLight (table : Table) (most : ℕ) (m : Added) : Type 0 where
  few : count m.clauses ≤ most
  over : IsOver table m.held

one_constant : (o : Option Lit) → constant_bound o ≤ 1
one_constant None = omega arith
one_constant (Some l) = omega arith

-- a term: its literals, and what is done then
record Blasted (table : Table) (t : ℕ) (h : Held) : Type 0 where
  few : count (net_clauses h.next (blast_of table t h).defs) ≤ 1 + bounds_of table (cone_of table.terms h.done t)
  over : IsOver table (blast_of table t h).held
  long : length (blast_of table t h).outs ≡ slice_index (widths table) t
  dones : (j : ℕ) → listed (cone_of table.terms h.done t) j ≡ true → is_done (blast_of table t h).held.done j ≡ true

or_last : (a b : Bool) → b ≡ true → (a || b) ≡ true
or_last true b e = refl
or_last false b e = e

blasted : (table : Table) (t : ℕ) (h : Held) → IsTable table → IsOver table h → t < length table.terms → Blasted table t h
blasted table t h is o lt =
    let b = begun h.next h.one in
    let m = blast_of table t h in
    let n = h.next + length b.defs in
    let l = terms_small table h t is o lt in
    let c = one_constant h.one in
    let over = blast-over table b.lit h.cells n h.next h.one (Some b.lit) h.done m.held.done t is o lt refl m.held.next in
    let f = cone-falls table b.lit h.cells n h.done t is o.cells o.done lt in
    record {
      few = omega (arith, l, c);
      over = over.0;
      long = (over.0.done t over.1).1;
      dones = λ j g. f.dones j ∙ or_last (is_done h.done j) (listed (cone_of table.terms h.done t) j) g;
    }

-- a store at an index
record StoredAt (table : Table) (first n : ℕ) (index value : List Lit) (h : Held) : Type 0 where
  few : count (net_clauses h.next (store_of first n index value h).defs) ≤ 1 + store_bound n (slice_index table.cells first)
  over : IsOver table (store_of first n index value h).held

first_wide : (cells : List ℕ) (k : ℕ) → All IsWidth cells → k < length cells → 1 ≤ slice_index cells k
first_wide [] k a lt = absurd (omega (arith, lt))
first_wide (w ∷ ws) zero a lt = (All-head IsWidth w ws a).0
first_wide (w ∷ ws) (suc k) a lt = first_wide ws k (All-tail IsWidth w ws a) (omega (arith, lt))

-- a term's word has at most 128 literals
term_short : (table : Table) (k : ℕ) (word : List Lit) → IsTable table → k < length table.terms → length word ≡ slice_index (widths table) k → length word ≤ 128
term_short table k word is lt e =
    let wide = widths-of table is in
    let x : (1 ≤ slice_index (widths table) k) × (slice_index (widths table) k ≤ 128) = wide.1 k 0 (omega (arith, wide.0, lt)) in
    omega (arith, x.1, e)

stored : (table : Table) (first n : ℕ) (index value : List Lit) (h : Held) → IsTable table → IsOver table h → IsArray table.cells first n
    → length index ≤ 128 → length value ≡ slice_index table.cells first → StoredAt table first n index value h
stored table first n index value h is o a few ev =
    let there = array_there table h first n o a in
    let alike : AllLong (length value) (take n (drop first h.cells)) = array_long table h first n (length value) o a ev in
    let wide = first_wide table.cells first is.cells (omega (arith, a.0, a.1)) in
    let some : 1 ≤ length value = omega (arith, wide, ev) in
    let l = stores_small h first n index value some few there alike in
    let same : store_bound n (length value) ≡ store_bound n (slice_index table.cells first) = ap (store_bound n) ev in
    let c = one_constant h.one in
    record {
      few = omega (arith, l, c, same);
      over = over-store first n index value h table there alike o;
    }

-- an operation that is kept
operation_light : (table : Table) (o : Operation) (h : Held) → IsTable table → OperationFits table o → IsOver table h
    → IsLight table (operation_weight table o) (added table h o)
operation_light table (Assume t) h is f o =
    let m = blast_of table t.0 h in
    let b = blasted table t.0 h is o f.0 in
    let l = cone_less table h.done t.0 f.0 in
    let one : length m.outs ≡ 1 = b.long ∙ f.1 in
    let e = count-append (net_clauses h.next m.defs) (m.outs ∷ []) in
    record { few = omega (arith, b.few, l, one, e); over = b.over }
operation_light table (Set c t) h is f o =
    let m = blast_of table t.0 h in
    let b = blasted table t.0 h is o f.1 in
    let l = cone_less table h.done t.0 f.1 in
    record {
      few = omega (arith, b.few, l);
      over = over-rebind c m.outs m.held table (b.long ∙ (f.2 ∙ sym (cell_long table m.held c b.over))) b.over;
    }
operation_light table (SetAt first n i t) h is f o =
    let x = blast_of table i.0 h in
    let X = blasted table i.0 h is o f.1 in
    let y = blast_of table t.0 x.held in
    let Y = blasted table t.0 x.held is X.over f.2 in
    let l = cones_less table h.done x.held.done i.0 t.0 f.1 f.2 X.dones in
    let s = store_of first n x.outs y.outs y.held in
    let S = stored table first n x.outs y.outs y.held is Y.over f.0 (term_short table i.0 x.outs is f.1 X.long) (Y.long ∙ f.3) in
    let A = net_clauses h.next x.defs in
    let B = net_clauses x.held.next y.defs in
    let C = net_clauses y.held.next s.defs in
    let e = count-append A (B ++ C) in
    let g = count-append B C in
    record { few = omega (arith, X.few, Y.few, S.few, l, e, g); over = S.over }
operation_light table (Draw c signed) h is f o =
    let w = slice_index table.cells c in
    let m = fresh_of w h in
    let over : IsOver table m.held = record { cells = o.cells; done = o.done } in
    record {
      few = omega arith;
      over = over-rebind c m.outs m.held table (fresh_long h.next w ∙ sym (cell_long table m.held c over)) over;
    }

-- an operation, kept or not
flagged_light : (table : Table) (b : Bool) (o : Operation) (h : Held) → IsTable table → OperationFits table o → IsOver table h
    → IsLight table (operation_weight table o) (added_if b table h o)
flagged_light table true o h is f over = operation_light table o h is f over
flagged_light table false o h is f over = record { few = omega arith; over = over }

operations_light : (table : Table) (os : List Operation) (kept : List Bool) (h : Held) → IsTable table → All (OperationFits table) os → IsOver table h
    → IsLight table (sum_by (operation_weight table) os) (added_all table h os kept)
operations_light table [] kept h is f over = record { few = omega arith; over = over }
operations_light table (o ∷ os) kept h is f over =
    let b = slice_index_or kept 0 false in
    let m = added_if b table h o in
    let r = added_all table m.held os (drop 1 kept) in
    let M = flagged_light table b o h is (All-head (OperationFits table) o os f) over in
    let R = operations_light table os (drop 1 kept) m.held is (All-tail (OperationFits table) o os f) M.over in
    let e = count-append m.clauses r.clauses in
    let s = sum_by-cons (operation_weight table) o os in
    record { few = omega (arith, M.few, R.few, e, s); over = R.over }

operations_fit : (g : Flow) (k : ℕ) → IsFlow g → All (OperationFits g.terms) (operations_at g.edges k)
operations_fit g k flow = by g.edges k flow.edges
  where
    by : (es : List Edge) (k : ℕ) → All (EdgeFits g.nodes g.terms) es → All (OperationFits g.terms) (operations_at es k)
    by [] k f = λ i d lt. absurd (omega (arith, lt))
    by (e ∷ es) zero f = (All-head (EdgeFits g.nodes g.terms) e es f).operations
    by (e ∷ es) (suc k) f = by es k (All-tail (EdgeFits g.nodes g.terms) e es f)

-- a step, which renews
step_light : (g : Flow) (e : EdgeId) (es : List EdgeId) (h : Held) → IsFlow g → IsOver g.terms h → IsLight g.terms (step_weight g e) (stepped g (plan_of g e es) h)
step_light g e es h flow over =
    let l = operations_light g.terms (operations_at g.edges e.0) (plan_of g e es).kept (renew_of h) flow.table (operations_fit g e.0 flow) (over-renew h g.terms over) in
    record { few = omega (arith, l.few); over = l.over }

steps_light : (g : Flow) (n : ℕ) (h : Held) (path : List EdgeId) → IsFlow g → IsOver g.terms h → count (asked g n h path).clauses ≤ sum_by (step_weight g) path
steps_light g n h [] flow over = omega arith
steps_light g n h (e ∷ es) flow over =
    let m = stepped g (plan_of g e es) h in
    let M = step_light g e es h flow over in
    let i = steps_light g (n + length m.clauses) m.held es flow M.over in
    let r = asked g (n + length m.clauses) m.held es in
    let a = count-append m.clauses r.clauses in
    let s = sum_by-cons (step_weight g) e es in
    omega (arith, M.few, i, a, s)

pub paths_are_light : PathsAreLight
paths_are_light g path flow =
    let i = steps_light g 0 (new_of [] g.terms.cells) path flow (over-new [] g.terms.cells g.terms refl) in
    omega (arith, i)

count_begun : (k : ℕ) (cs : List (List Lit)) → count (take k cs) ≤ count cs
count_begun zero cs = omega arith
count_begun (suc k) [] = omega arith
count_begun (suc k) (c ∷ cs) = let i = count_begun k cs in omega (arith, i)

pub refused_paths_are_heavy : RefusedPathsAreHeavy
refused_paths_are_heavy g path n left flow cut =
    let l = paths_are_light g path flow in
    let i = count_begun (suc cut.kept) (question_of g path).clauses in
    (omega (arith, cut.cause.0.1, cut.cause.1), omega (arith, cut.cause.1, i, l))
