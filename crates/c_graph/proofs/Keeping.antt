-- Edges lead from stores to stores, and what an inductive map says along a run.
use Rattle.std.proofs.Common.{◌≡◌, ℕ, ◌+◌, ◌^◌, ◌<◌, ◌≢◌, length, List, [], ◌∷◌, arith, sym, ◌∙◌, refl, suc, zero, subst, slice_index, slice_index_or, slice_set, All, Bool, true, false, Option, Some, None, slice_get, nat_lt, nat_eq, ◌==◌, if◌then◌else◌, ℤ, pos, negsuc, rules}
use Rattle.std.proofs.Math.Nat.{mod-lt}
use Rattle.std.proofs.lemmas.Nat.{pow_pos}
use Rattle.std.proofs.lemmas.List.{get_or-set_same, get_or-set_other, length-set}
use Rattle.bv_term.specs.declared.term.TermId.{TermId}
use Rattle.bv_term.specs.WellFormed.{Table, IsTable, widths, IsArray}
use Rattle.bv_term.specs.Values.{value}
use Rattle.bv_term.proofs.Staying.{values_fit}
use Rattle.c_graph.specs.declared.graph.NodeId.{NodeId}
use Rattle.c_graph.specs.declared.graph.EdgeId.{EdgeId}
use Rattle.c_graph.specs.declared.graph.Operation.{Operation}
use Rattle.c_graph.specs.declared.graph.Operation.TheVariants.{Assume, Set, SetAt, Draw}
use Rattle.c_graph.specs.declared.graph.Edge.{Edge}
use Rattle.c_graph.specs.Shape.{Flow, IsFlow, EdgeFits, OperationFits, widths_of}
use Rattle.c_graph.specs.Steps.{IsWhole, Moment, moment, modulo, in_range_of, drawn, stored_at, operated, operated_all, Leads}
use Rattle.c_graph.specs.Runs.{RunsAlong, Formulas, HoldsAt, IsInductive, InductiveMeansSafe}

-- a value that fits may be stored in a cell
set-whole : (ws s : List ℕ) (c v : ℕ) → IsWhole ws s → v < 2 ^ slice_index ws c → IsWhole ws (slice_set s c v)
set-whole ws s c v h lt = record {
  length = length-set s c v ∙ h.length;
  fits = λ k less.
      elim (nat_eq k c) as (λ b. nat_eq k c ≡ b → slice_index (slice_set s c v) k < 2 ^ slice_index ws k) [
        | true ↦ (λ e.
            let same : k ≡ c = search rules in
            let P : ℕ → Type 0 = λ k. slice_index (slice_set s c v) k < 2 ^ slice_index ws k in
            let there : c < length s = omega (arith, h.length) in
            subst P (sym same) (let e : slice_index (slice_set s c v) c ≡ v = get_or-set_same s c v 0 there in rw e lt))
        | false ↦ (λ e.
            let other : k ≢ c = search rules in
            let e : slice_index (slice_set s c v) k ≡ slice_index s k = get_or-set_other s c k v 0 other in
            rw e (h.fits k less))
      ] refl;
}

modulo-below : (w : ℕ) (z : ℤ) → modulo w z < 2 ^ w
modulo-below w (pos n) = mod-lt n (pow_pos w)
modulo-below w (negsuc n) = omega (arith, pow_pos w)

-- a term's value fits into a cell of its width
fits-cell : (table : Table) (s : List ℕ) (t : TermId) (w : ℕ) → IsTable table → IsWhole table.cells s → t.0 < length table.terms
    → slice_index (widths table) t.0 ≡ w → value table s t < 2 ^ w
fits-cell table s t w h whole lt e =
    let P : ℕ → Type 0 = λ w. value table s t < 2 ^ w in
    subst P e (values_fit table s t h whole.fits lt)

stored-whole : (table : Table) (s : List ℕ) (first n i v : ℕ) → IsArray table.cells first n → IsWhole table.cells s
    → v < 2 ^ slice_index table.cells first → IsWhole table.cells (stored_at s first n i v)
stored-whole table s first n i v a whole lt =
    elim (nat_lt i n) as (λ b. nat_lt i n ≡ b → IsWhole table.cells (if b then slice_set s (first + i) v else s)) [
      | true ↦ (λ e.
          let less : i < n = search rules in
          let P : ℕ → Type 0 = λ w. v < 2 ^ w in
          set-whole table.cells s (first + i) v whole (subst P (sym (a.2 i less)) lt))
      | false ↦ (λ e. whole)
    ] refl

-- what an operation that fits makes of a whole store is whole
abbrev WholeAfter : Table → Option Moment → Type 0
WholeAfter table None = Unit {0}
WholeAfter table (Some m) = IsWhole table.cells m.store

drawn-whole : (table : Table) (c : ℕ) (signed : Bool) (s : List ℕ) (zs : List ℤ) → IsWhole table.cells s → WholeAfter table (drawn table c signed s zs)
drawn-whole table c signed s [] whole = tt
drawn-whole table c signed s (z ∷ zs) whole =
    elim (in_range_of (slice_index table.cells c) signed z) as (λ b. WholeAfter table (if b then Some (moment (slice_set s c (modulo (slice_index table.cells c) z)) zs) else None))
    [ true ↦ set-whole table.cells s c (modulo (slice_index table.cells c) z) whole (modulo-below (slice_index table.cells c) z) | false ↦ tt ]

operated-whole : (table : Table) (op : Operation) (m : Moment) → IsTable table → OperationFits table op → IsWhole table.cells m.store → WholeAfter table (operated table op m)
operated-whole table (Assume t) m h f whole =
    elim (value table m.store t == 1) as (λ b. WholeAfter table (if b then Some m else None)) [ true ↦ whole | false ↦ tt ]
operated-whole table (Set c t) m h f whole =
    set-whole table.cells m.store c (value table m.store t) whole (fits-cell table m.store t (slice_index table.cells c) h whole f.1 f.2)
operated-whole table (SetAt first n i t) m h f whole =
    stored-whole table m.store first n (value table m.store i) (value table m.store t) f.0 whole (fits-cell table m.store t (slice_index table.cells first) h whole f.2 f.3)
operated-whole table (Draw c signed) m h f whole = drawn-whole table c signed m.store m.inputs whole

operated_all-whole : (table : Table) (ops : List Operation) (r : Option Moment) → IsTable table → All (OperationFits table) ops → WholeAfter table r → WholeAfter table (operated_all table ops r)
operated_all-whole table [] None h f whole = tt
operated_all-whole table (op ∷ ops) None h f whole = tt
operated_all-whole table [] (Some m) h f whole = whole
operated_all-whole table (op ∷ ops) (Some m) h f whole =
    operated_all-whole table ops (operated table op m) h (λ k d lt. f (suc k) d (omega (arith, lt)))
    (operated-whole table op m h (f 0 op (omega arith)) whole)

-- an edge that fits leads from whole stores to whole stores
pub leads-whole : (table : Table) (e : Edge) (s : List ℕ) (draws : List ℤ) (after : List ℕ) → IsTable table → All (OperationFits table) e.ops
    → IsWhole table.cells s → Leads table e s draws after → IsWhole table.cells after
leads-whole table e s draws after h f whole leads =
    let P : Option Moment → Type 0 = WholeAfter table in
    subst P leads (operated_all-whole table e.ops (Some (moment s draws)) h f whole)

-- an edge of a graph fits
pub edge-fits : (g : Flow) (k : ℕ) (e : Edge) → IsFlow g → slice_get g.edges k ≡ Some e → EdgeFits g.nodes g.terms e
edge-fits g k e h is =
    let at = get-there g.edges k e is in
    let P : Edge → Type 0 = EdgeFits g.nodes g.terms in
    subst P at.1 (h.edges k e at.0)
  where
    get-there : (es : List Edge) (k : ℕ) (e : Edge) → slice_get es k ≡ Some e → (k < length es) × (slice_index_or es k e ≡ e)
    get-there [] k e is = absurd (cc)
    get-there (x ∷ es) zero e is = (omega arith, cc)
    get-there (x ∷ es) (suc k) e is = let r = get-there es k e is in (omega (arith, r.0), r.1)

-- along a run from a store that meets the formula of its start, each store meets the formula of its node
along : (g : Flow) (m : Formulas) (path : List EdgeId) (v : NodeId) (s : List ℕ) (draws : List ℤ) (w : NodeId) (after : List ℕ)
    → IsFlow g → IsInductive g m → IsWhole (widths_of g.cells) s → HoldsAt m v s → RunsAlong g path v s draws w after
    → IsWhole (widths_of g.cells) after × HoldsAt m w after
along g m [] v s draws w after h i whole holds run =
    let P : List ℕ → Type 0 = IsWhole (widths_of g.cells) in
    let Q : NodeId → Type 0 = λ v. HoldsAt m v after in
    let R : List ℕ → Type 0 = HoldsAt m v in
    (subst P run.1 whole, subst Q run.0 (subst R run.1 holds))
along g m (e ∷ path) v s draws w after h i whole holds (edge, is, from, (mid, first, rest, split, leads, run)) =
    let fits = edge-fits g e.0 edge h is in
    let W : List ℕ → Type 0 = λ ws. IsWhole ws s in
    let whole0 : IsWhole g.terms.cells s = subst W (sym h.cells) whole in
    let next0 : IsWhole g.terms.cells mid = leads-whole g.terms edge s first mid h.table fits.operations whole0 leads in
    let V : List ℕ → Type 0 = λ ws. IsWhole ws mid in
    let next : IsWhole (widths_of g.cells) mid = subst V h.cells next0 in
    let Q : NodeId → Type 0 = λ v. HoldsAt m v s in
    along g m path edge.to mid rest w after h i next
    (i.edges e.0 edge s first mid is whole (subst Q (sym from) holds) leads) run

pub inductive_means_safe : InductiveMeansSafe
inductive_means_safe g m draws v kind at after h i (path, store, whole, run) is =
    let r = along g m path g.entry store draws v after h i whole (i.entry store whole) run in
    i.errors v kind at after is r.0 r.1
