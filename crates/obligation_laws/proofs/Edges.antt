-- An edge of which it is refuted that it fails.
use Rattle.std.proofs.Common.{◌≡◌, ℕ, ℤ, pos, negsuc, ◌<◌, ◌^◌, ◌==◌, Bool, true, false, List, [], ◌∷◌, ◌++◌, length, All, refl, sym, ap, ◌∙◌, subst, zero, suc, arith, slice_get, slice_index, slice_set, if◌then◌else◌, Option, Some, None, inl, inr}
use Rattle.std.proofs.lemmas.Bool.{cases_eq, eqb-true}
use Rattle.std.proofs.lemmas.List.Elements.{All-head, All-tail}
use Rattle.std.proofs.Math.Nat.{mod-lt}
use Rattle.std.proofs.lemmas.Nat.{pow_pos}
use Rattle.prop.specs.declared.Lit.{Lit}
use Rattle.bv_term.specs.WellFormed.{Table, IsTable}
use Rattle.bv_term.specs.Values.{value}
use Rattle.bit_blast.specs.Held.{Held, new_of, renew_of}
use Rattle.c_graph.specs.declared.graph.NodeId.{NodeId}
use Rattle.c_graph.specs.declared.graph.Node.{Node}
use Rattle.c_graph.specs.declared.graph.Edge.{Edge}
use Rattle.c_graph.specs.declared.graph.Operation.{Operation}
use Rattle.c_graph.specs.declared.graph.Operation.TheVariants.{Assume, Set, SetAt, Draw}
use Rattle.c_graph.specs.Shape.{EdgeFits, Flow, IsFlow, OperationFits, widths_of}
use Rattle.c_graph.specs.Steps.{IsWhole, Moment, moment, modulo, in_range_of, operated, operated_all, stored_at}
use Rattle.c_graph.specs.Runs.{Formulas, HoldsAt, IsMapOf}
use Rattle.bit_gates.proofs.Exacts.{ok_below}
use Rattle.blast_laws.specs.Calls.{CellsBelow, IsStart, spelled_store}
use Rattle.blast_laws.proofs.Owes.{AllOk, Below}
use Rattle.blast_laws.proofs.Keeping.{means-none, none-fits}
use Rattle.blast_laws.proofs.Runs.{new_starts, stores_spelled}
use Rattle.path_formula.specs.Reads.{with_read}
use Rattle.path_formula.specs.Needs.{gives, kept_of, needed_by_all, operations_at}
use Rattle.path_formula.specs.Added.{Added, added, added_all, added_if, joined}
use Rattle.obligations.specs.Stated.{AreRefuted, edge_says, from_of, stated, to_of}
use Rattle.obligation_laws.specs.Draws.{AreDrawn}
use Rattle.obligation_laws.specs.Laws.{HoldsOn}
use Rattle.obligation_laws.proofs.Alike.{AgreeOn, read_alike}
use Rattle.obligation_laws.proofs.Following.{follows, leaves}
use Rattle.obligation_laws.proofs.Going.{Goes, Reach, stands_both, goes_nowhere, goes_on, holds_goes, fails_goes, set_goes, store_goes, draw_goes, renew_goes}
use Rattle.obligation_laws.proofs.Drawing.{draws_low, drawn_agrees, drawn_both, drew}
use Rattle.obligation_laws.proofs.Nodes.{formula, formula_wide, holds_at, to_store}

below_power : (w : ℕ) (z : ℤ) → modulo w z < 2 ^ w
below_power w (pos n) = mod-lt n (pow_pos w)
below_power w (negsuc n) = omega (arith, pow_pos w)

moment_is : (a b : Moment) → Some a ≡ Some b → a ≡ b
moment_is a b e = cc

-- an operation that goes on
op_goes : (table : Table) (o : Operation) (h : Held) (v : ℕ → Bool) (s : List ℕ) (inputs : List ℤ) (m : Moment) → IsTable table → OperationFits table o
    → Reach table h v s → operated table o (moment s inputs) ≡ Some m → Goes table h v (added table h o).clauses (added table h o).held m.store
op_goes table (Assume t) h v s inputs m is f r e = by (value table s t == 1) refl e
  where
    by : (b : Bool) → b ≡ (value table s t == 1) → (if b then Some (moment s inputs) else None) ≡ Some m
        → Goes table h v (added table h (Assume t)).clauses (added table h (Assume t)).held m.store
    by true q e =
        subst (λ (x : Moment). Goes table h v (added table h (Assume t)).clauses (added table h (Assume t)).held x.store) (moment_is (moment s inputs) m e)
        (holds_goes table t h v s is f r (eqb-true (value table s t) 1 (sym q)))
    by false q e = absurd cc
op_goes table (Set c t) h v s inputs m is f r e =
    subst (λ (x : Moment). Goes table h v (added table h (Set c t)).clauses (added table h (Set c t)).held x.store)
    (moment_is (moment (slice_set s c (value table s t)) inputs) m e) (set_goes table c t h v s is f r)
op_goes table (SetAt first n i t) h v s inputs m is f r e =
    subst (λ (x : Moment). Goes table h v (added table h (SetAt first n i t)).clauses (added table h (SetAt first n i t)).held x.store)
    (moment_is (moment (stored_at s first n (value table s i) (value table s t)) inputs) m e) (store_goes table first n i t h v s is (f.0, f.1) (f.2, f.3) r)
op_goes table (Draw c signed) h v s [] m is f r e = absurd cc
op_goes table (Draw c signed) h v s (z ∷ zs) m is f r e = by (in_range_of (slice_index table.cells c) signed z) e
  where
    by : (b : Bool) → (if b then Some (moment (slice_set s c (modulo (slice_index table.cells c) z)) zs) else None) ≡ Some m
        → Goes table h v (added table h (Draw c signed)).clauses (added table h (Draw c signed)).held m.store
    by true e =
        let x = modulo (slice_index table.cells c) z in
        subst (λ (x : Moment). Goes table h v (added table h (Draw c signed)).clauses (added table h (Draw c signed)).held x.store)
        (moment_is (moment (slice_set s c x) zs) m e) (draw_goes table c x h v s f.0 (below_power (slice_index table.cells c) z) r)
    by false e = absurd cc

-- what was added is carried on over, to a store that agrees with the one behind the edge on what is needed
pub record Walked (table : Table) (later : List ℕ) (h : Held) (v : ℕ → Bool) (more : Added) (inputs : List ℤ) (after : List ℕ) : Type 0 where
  pub store : List ℕ
  pub goes : Goes table h v more.clauses more.held store
  pub agrees : AgreeOn later store after
  pub drawn : AreDrawn table.cells goes.w more.draws inputs

abbrev pub Leading : Table → List ℕ → List Operation → List ℕ → Type 0
Leading table later ops after =
    (h : Held) (v : ℕ → Bool) (s c : List ℕ) (inputs : List ℤ) → Reach table h v s → length s ≡ length c → AgreeOn (needed_by_all table later ops) s c
    → operated_all table ops (Some (moment c inputs)) ≡ Some (moment after [])
    → Walked table later h v (added_all table h ops (kept_of table later ops)) inputs after

abbrev then_all : Table → List ℕ → List Operation → Added → Added
then_all table later os m = joined m (added_all table m.held os (kept_of table later os))

walk_one : (table : Table) (later : List ℕ) (o : Operation) (os : List Operation) (after : List ℕ) → IsTable table → OperationFits table o → Leading table later os after
    → (h : Held) (v : ℕ → Bool) (s c : List ℕ) (inputs : List ℤ) → Reach table h v s → length s ≡ length c → AgreeOn (needed_by_all table later (o ∷ os)) s c
    → (m : Moment) → operated table o (moment c inputs) ≡ Some m → operated_all table os (Some m) ≡ Some (moment after [])
    → (b : Bool) → b ≡ gives (needed_by_all table later os) o
    → Walked table later h v (then_all table later os (added_if b table h o)) inputs after
unfolding goes_on
walk_one table later o os after is f rest h v s c inputs r l a m q e true g =
    let N = needed_by_all table later os in
    let F = follows table N o s c inputs m is f l a (sym g) q in
    let G = op_goes table o h v s inputs (moment F.store m.inputs) is f r F.goes in
    let D = drew table o h v G.w s inputs (moment F.store m.inputs) f r F.goes G.reach in
    let k = added table h o in
    let W = rest k.held G.w F.store m.store m.inputs G.reach F.long F.agrees e in
    let d = added_all table k.held os (kept_of table later os) in
    let first = drawn_agrees table.cells k.held.next G.w W.goes.w k.draws D.used (draws_low table o h) W.goes.agree D.drawn in
    record {
      store = W.store;
      goes = goes_on table table h k.held d.held v k.clauses d.clauses F.store W.store G W.goes;
      agrees = W.agrees;
      drawn = subst (AreDrawn table.cells W.goes.w (k.draws ++ d.draws)) (sym D.split)
          (drawn_both table.cells W.goes.w k.draws d.draws D.used m.inputs first W.drawn);
    }
walk_one table later o os after is f rest h v s c inputs r l a m q e false g =
    let L = leaves table (needed_by_all table later os) o s c inputs m l a (sym g) q in
    let W = rest h v s m.store m.inputs r L.long L.agrees e in
    let d = added_all table h os (kept_of table later os) in
    record { store = W.store; goes = W.goes; agrees = W.agrees; drawn = subst (AreDrawn table.cells W.goes.w d.draws) L.drawn W.drawn }

walk_next : (table : Table) (later : List ℕ) (o : Operation) (os : List Operation) (after : List ℕ) → IsTable table → OperationFits table o → Leading table later os after
    → Leading table later (o ∷ os) after
walk_next table later o os after is f rest h v s c inputs r l a e = by (operated table o (moment c inputs)) refl e
  where
    by : (x : Option Moment) → operated table o (moment c inputs) ≡ x → operated_all table os x ≡ Some (moment after [])
        → Walked table later h v (added_all table h (o ∷ os) (kept_of table later (o ∷ os))) inputs after
    by None q e = absurd cc
    by (Some m) q e = walk_one table later o os after is f rest h v s c inputs r l a m q e (gives (needed_by_all table later os) o) refl

pub walk : (table : Table) (later : List ℕ) (ops : List Operation) (after : List ℕ) → IsTable table → All (OperationFits table) ops → Leading table later ops after
walk table later [] after is f h v s c inputs r l a e =
    let i = moment_is (moment c inputs) (moment after []) e in
    let goes = goes_nowhere table h v s r in
    record {
      store = s;
      goes = goes;
      agrees = λ d x. a d x ∙ ap (λ (m : Moment). slice_index m.store d) i;
      drawn = subst (AreDrawn table.cells goes.w []) (sym (ap (λ (m : Moment). m.inputs) i)) tt;
    }
walk table later (o ∷ os) after is f h v s c inputs r l a e =
    walk_next table later o os after is (All-head (OperationFits table) o os f) (walk table later os after is (All-tail (OperationFits table) o os f)) h v s c inputs r l a e

-- the beginning
cells_ok : (n : ℕ) (cs : List (List Lit)) → CellsBelow n cs → AllOk Below n cs
cells_ok n [] h = tt
cells_ok n (c ∷ cs) h = (ok_below n c h.0, cells_ok n cs h.1)

pub begins : (table : Table) (v : ℕ → Bool) (s : List ℕ) → IsTable table → spelled_store v (new_of [] table.cells).cells ≡ s → Reach table (new_of [] table.cells) v s
begins table v s is e =
    let h = new_of [] table.cells in
    let st : IsStart table.cells h = new_starts [] table.cells is.cells in
    record {
      us = [];
      more = table.terms;
      whole = refl;
      keeps = record { widths = st.widths; cells = cells_ok h.next h.cells st.below; one = tt; lits = λ j. tt; fit = none-fits (record { cells = table.cells; terms = [] }) };
      says = record { store = e; one = tt; done = means-none v (record { cells = table.cells; terms = [] }) h.cells };
      over = record { cells = st.widths; done = none-fits table };
    }

-- formulas that hold on along operations, between two nodes
between : (g : Flow) (m : Formulas) (from to : NodeId) (ops : List Operation) → IsFlow g → IsTable m.terms → IsMapOf g m
    → from.0 < length g.nodes → to.0 < length g.nodes → All (OperationFits g.terms) ops
    → (let a = stated true m.terms (formula m from).0 (new_of [] m.terms.cells) in
    let b = added_all g.terms (renew_of a.held) ops (kept_of g.terms (with_read m.terms (formula m to).0 []) ops) in
    let c = stated false m.terms (formula m to).0 (renew_of b.held) in
    AreRefuted ((a.clauses ++ b.clauses) ++ c.clauses))
    → (store : List ℕ) (draws : List ℤ) (after : List ℕ) → IsWhole (widths_of g.cells) store → HoldsAt m from store
    → operated_all g.terms ops (Some (moment store draws)) ≡ Some (moment after []) → HoldsAt m to after
between g m from to ops flow table is lf lt fits refuted store draws after whole met leads =
    let t1 = formula m from in
    let t2 = formula m to in
    let wide1 = formula_wide g m from is lf in
    let wide2 = formula_wide g m to is lt in
    let first = new_of [] m.terms.cells in
    let st = to_store g m store is whole in
    let v = stores_spelled [] m.terms.cells store st.0 st.1 (λ k. false) in
    let same : m.terms.cells ≡ g.terms.cells = is.cells ∙ sym flow.cells in
    let a = stated true m.terms t1.0 first in
    let A = holds_goes m.terms t1 first v.0 store table wide1 (begins m.terms v.0 store table v.1) ((holds_at g m from store is lf).0 met) in
    let later = with_read m.terms t2.0 [] in
    let b = added_all g.terms (renew_of a.held) ops (kept_of g.terms later ops) in
    let B = walk g.terms later ops after flow.table fits (renew_of a.held) A.w store store draws (renew_goes m.terms g.terms a.held A.w store same A.reach) refl (λ d x. refl) leads in
    let c = stated false m.terms t2.0 (renew_of b.held) in
    let alike = (read_alike m.terms t2.0 [] B.store after table wide2.0 B.agrees).0 in
    elim (cases_eq (value m.terms after t2) 1) [
      | inl e ↦ (holds_at g m to after is lt).1 e
      | inr ne ↦
          let C = fails_goes m.terms t2 (renew_of b.held) B.goes.w B.store table wide2 (renew_goes g.terms m.terms b.held B.goes.w B.store (sym same) B.goes.reach) (λ e. ne (sym alike ∙ e)) in
          let ab = stands_both a.held.next b.held.next A.w B.goes.w a.clauses b.clauses B.goes.rises B.goes.agree A.stands B.goes.stands in
          let abc = stands_both b.held.next c.held.next B.goes.w C.w (a.clauses ++ b.clauses) c.clauses C.rises C.agree ab C.stands in
          absurd (refuted C.w (abc C.w (λ k less. refl)))
    ]

-- the edge of a number

pub got_there : (nodes : List Node) (k : ℕ) (x : Node) → slice_get nodes k ≡ Some x → k < length nodes
got_there [] k x e = absurd cc
got_there (y ∷ ys) zero x e = omega arith
got_there (y ∷ ys) (suc k) x e = let h = got_there ys k x e in omega (arith, h)

edge_is : (a b : Edge) → Some a ≡ Some b → a ≡ b
edge_is a b e = cc

pub record IsEdge (edges : List Edge) (k : ℕ) (edge : Edge) : Type 0 where
  pub from : from_of edges k ≡ edge.from
  pub to : to_of edges k ≡ edge.to
  pub ops : operations_at edges k ≡ edge.ops

pub edge_at : (edges : List Edge) (k : ℕ) (edge : Edge) → slice_get edges k ≡ Some edge → IsEdge edges k edge
edge_at [] k edge e = absurd cc
edge_at (x ∷ xs) zero edge e =
    let i = edge_is x edge e in
    record { from = ap (λ (t : Edge). t.from) i; to = ap (λ (t : Edge). t.to) i; ops = ap (λ (t : Edge). t.ops) i }
edge_at (x ∷ xs) (suc k) edge e = let r = edge_at xs k edge e in record { from = r.from; to = r.to; ops = r.ops }

pub edge_of : (P : Edge → Type 0) (edges : List Edge) (k : ℕ) (edge : Edge) → All P edges → slice_get edges k ≡ Some edge → P edge
edge_of P [] k edge a e = absurd cc
edge_of P (x ∷ xs) zero edge a e = subst P (edge_is x edge e) (All-head P x xs a)
edge_of P (x ∷ xs) (suc k) edge a e = edge_of P xs k edge (All-tail P x xs a) e

pub edge_sound : (g : Flow) (m : Formulas) (e : ℕ) (edge : Edge) → IsFlow g → IsTable m.terms → IsMapOf g m → slice_get g.edges e ≡ Some edge
    → AreRefuted (edge_says g m e) → HoldsOn g m edge
edge_sound g m e edge flow table is at refuted store draws after whole met leads =
    let i = edge_at g.edges e edge at in
    let fits = edge_of (EdgeFits g.nodes g.terms) g.edges e edge flow.edges at in
    let from = from_of g.edges e in
    let to = to_of g.edges e in
    let ops = operations_at g.edges e in
    subst (λ (v : NodeId). HoldsAt m v after) i.to
    (between g m from to ops flow table is
    (subst (λ (v : NodeId). v.0 < length g.nodes) (sym i.from) (got_there g.nodes edge.from.0 _ fits.from))
    (subst (λ (v : NodeId). v.0 < length g.nodes) (sym i.to) fits.to)
    (subst (All (OperationFits g.terms)) (sym i.ops) fits.operations)
    refuted store draws after whole
    (subst (λ (v : NodeId). HoldsAt m v store) (sym i.from) met)
    (subst (λ (os : List Operation). operated_all g.terms os (Some (moment store draws)) ≡ Some (moment after [])) (sym i.ops) leads))
