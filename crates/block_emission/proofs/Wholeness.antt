-- Whether parts make a graph, as a truth and as a type.
use Rattle.std.proofs.Common.{◌≡◌, ◌↔◌, ◌⊎◌, ◌∙◌, ◌<◌, ◌≤◌, ◌+◌, ◌==◌, ◌&&◌, ℕ, zero, suc, ap, arith, refl, sym, subst, inl, inr, Bool, true, false, nat_lt, nat_le, if◌then◌else◌, Option, None, Some, List, [], ◌∷◌, length, slice_get, slice_index, ltb-true, lt-ltb}
use Rattle.std.specs.Prelude.{All}
use Rattle.std.proofs.lemmas.Bool.{leb-true, le-leb, eqb-true, eq-eqb, and_parts, and_from, cases_lt}
use Rattle.std.proofs.lemmas.List.Elements.{All-nil, All-cons, All-head, All-tail}
use Rattle.bv_term.specs.declared.term.TermId.{TermId}
use Rattle.bv_term.specs.WellFormed.{Table, IsTable, IsArray, IsWidth, widths}
use Rattle.c_graph.specs.declared.graph.NodeId.{NodeId}
use Rattle.c_graph.specs.declared.graph.Node.{Node}
use Rattle.c_graph.specs.declared.graph.Node.TheVariants.{Plain, Error, End, Call}
use Rattle.c_graph.specs.declared.graph.Operation.{Operation}
use Rattle.c_graph.specs.declared.graph.Operation.TheVariants.{Assume, Set, SetAt, Draw}
use Rattle.c_graph.specs.declared.graph.Edge.{Edge}
use Rattle.c_graph.specs.declared.graph.LoopAt.{LoopAt}
use Rattle.c_graph.specs.Parts.{error_flow}
use Rattle.c_graph.specs.Shape.{Flow, IsFlow, IsNoCall, IsNodeOf, OperationFits, EdgeFits, GoesOn, has_out, widths_of}
use Rattle.c_terms.specs.Fitting as fitting
use Rattle.block_emission.specs.Blocking.{are_widths}
use Rattle.block_emission.specs.Whole as made

below : (a b : ℕ) → (nat_lt a b ≡ true) ↔ (a < b)
below a b = (ltb-true a b, lt-ltb a b)

at-most : (a b : ℕ) → (nat_le a b ≡ true) ↔ (a ≤ b)
at-most a b = (leb-true a b, le-leb a b)

equal-to : (a b : ℕ) → ((a == b) ≡ true) ↔ (a ≡ b)
equal-to a b = (eqb-true a b, eq-eqb a b)

and-both : (x y : Bool) (P Q : Type 0) → ((x ≡ true) ↔ P) → ((y ≡ true) ↔ Q) → ((x && y) ≡ true) ↔ (P × Q)
and-both x y P Q p q = (λ e. (let z = and_parts x y e in (p.0 z.0, q.0 z.1)), λ h. and_from x y (p.1 h.0) (q.1 h.1))

and-three : (x y z : Bool) (P Q R : Type 0) → ((x ≡ true) ↔ P) → ((y ≡ true) ↔ Q) → ((z ≡ true) ↔ R) → ((x && (y && z)) ≡ true) ↔ (P × Q × R)
and-three x y z P Q R p q r = (
  λ e. (let g = and_parts x (y && z) e in let h = and_parts y z g.1 in (p.0 g.0, q.0 h.0, r.0 h.1)),
  λ h. and_from x (y && z) (p.1 h.0) (and_from y z (q.1 h.1) (r.1 h.2)),
)

and-four : (w x y z : Bool) (O P Q R : Type 0) → ((w ≡ true) ↔ O) → ((x ≡ true) ↔ P) → ((y ≡ true) ↔ Q) → ((z ≡ true) ↔ R)
    → ((w && (x && (y && z))) ≡ true) ↔ (O × P × Q × R)
and-four w x y z O P Q R o p q r = (
  λ e. (let f = and_parts w (x && (y && z)) e in let g = and_parts x (y && z) f.1 in let h = and_parts y z g.1 in (o.0 f.0, p.0 g.0, q.0 h.0, r.0 h.1)),
  λ h. and_from w (x && (y && z)) (o.1 h.0) (and_from x (y && z) (p.1 h.1) (and_from y z (q.1 h.2) (r.1 h.3))),
)

width-iff : (w : ℕ) → (fitting.is_width w ≡ true) ↔ IsWidth w
width-iff w = and-both (nat_le 1 w) (nat_le w 128) (1 ≤ w) (w ≤ 128) (at-most 1 w) (at-most w 128)

wide-told : (cells : List ℕ) (first w n : ℕ) → fitting.are_wide cells first w n ≡ true → (k : ℕ) → k < n → slice_index cells (first + k) ≡ w
wide-told cells first w zero e k lt = omega (arith, lt)
wide-told cells first w (suc n) e k lt =
    let p = and_parts (fitting.are_wide cells first w n) (slice_index cells (first + n) == w) e in
    let last : slice_index cells (first + n) ≡ w = eqb-true (slice_index cells (first + n)) w p.1 in
    let cases : (k < n) ⊎ (n ≤ k) = cases_lt k n in
    elim cases [
      | inl l ↦ wide-told cells first w n p.0 k l
      | inr l ↦ (let same : k ≡ n = omega (arith, l, lt) in ap (λ (m : ℕ). slice_index cells (first + m)) same ∙ last)
    ]

wide-from : (cells : List ℕ) (first w n : ℕ) → ((k : ℕ) → k < n → slice_index cells (first + k) ≡ w) → fitting.are_wide cells first w n ≡ true
wide-from cells first w zero h = refl
wide-from cells first w (suc n) h =
    and_from (fitting.are_wide cells first w n) (slice_index cells (first + n) == w) (wide-from cells first w n (λ k lt. h k (omega (arith, lt)))) (eq-eqb (slice_index cells (first + n)) w (h n (omega arith)))

array-iff : (cells : List ℕ) (first n : ℕ) → (fitting.is_array cells first n ≡ true) ↔ IsArray cells first n
array-iff cells first n =
    and-three _ _ _ _ _ _ (at-most 1 n) (at-most (first + n) (length cells)) (wide-told cells first (slice_index cells first) n, wide-from cells first (slice_index cells first) n)

-- a test of each element
each : {X : Type 0} (P : X → Type 0) (test : X → Bool) (all : List X → Bool) → all [] ≡ true → ((x : X) (xs : List X) → all (x ∷ xs) ≡ (test x && all xs))
    → ((x : X) → (test x ≡ true) ↔ P x) → (xs : List X) → (all xs ≡ true) ↔ All P xs
each P test all none more one [] = (λ e. All-nil P, λ h. none)
each P test all none more one (x ∷ xs) =
    let rest = each P test all none more one xs in (
      λ e. (let z = and_parts (test x) (all xs) (sym (more x xs) ∙ e) in All-cons P x xs ((one x).0 z.0) (rest.0 z.1)),
      λ h. more x xs ∙ and_from (test x) (all xs) ((one x).1 (All-head P x xs h)) (rest.1 (All-tail P x xs h)),
    )

pub widths-iff : (ws : List ℕ) → (are_widths ws ≡ true) ↔ All IsWidth ws
widths-iff = each IsWidth fitting.is_width are_widths refl (λ x xs. refl) width-iff

no-call-iff : (x : Node) → (made.is_no_call x ≡ true) ↔ IsNoCall x
no-call-iff Plain = (λ e. tt, λ h. refl)
no-call-iff (Error kind at) = (λ e. tt, λ h. refl)
no-call-iff End = (λ e. tt, λ h. refl)
no-call-iff (Call callee next) = (λ e. absurd cc, λ h. absurd h)

plain-of : (o : Option Node) → made.is_plain_node o ≡ true → o ≡ Some Plain
plain-of None e = absurd cc
plain-of (Some Plain) e = refl
plain-of (Some (Error kind at)) e = absurd cc
plain-of (Some End) e = absurd cc
plain-of (Some (Call callee next)) e = absurd cc

plain-iff : (nodes : List Node) (v : NodeId) → (made.is_plain nodes v ≡ true) ↔ (slice_get nodes v.0 ≡ Some Plain)
plain-iff nodes v = (plain-of (slice_get nodes v.0), λ s. ap made.is_plain_node s)

width-of-iff : (table : Table) (t : TermId) (w : ℕ) → (made.has_width table t w ≡ true) ↔ ((t.0 < length table.terms) × (slice_index (widths table) t.0 ≡ w))
width-of-iff table t w = and-both _ _ _ _ (below t.0 (length table.terms)) (equal-to (slice_index (widths table) t.0) w)

operation-iff : (table : Table) (op : Operation) → (made.operation_fits table op ≡ true) ↔ OperationFits table op
operation-iff table (Assume t) = width-of-iff table t 1
operation-iff table (Set c t) =
    and-three _ _ _ _ _ _ (below c (length table.cells)) (below t.0 (length table.terms)) (equal-to (slice_index (widths table) t.0) (slice_index table.cells c))
operation-iff table (SetAt first n i t) =
    and-four _ _ _ _ _ _ _ _ (array-iff table.cells first n) (below i.0 (length table.terms)) (below t.0 (length table.terms)) (equal-to (slice_index (widths table) t.0) (slice_index table.cells first))
operation-iff table (Draw c signed) = and-both _ _ _ _ (below c (length table.cells)) (at-most (slice_index table.cells c) 64)

edge-iff : (nodes : List Node) (table : Table) (e : Edge) → (made.edge_fits nodes table e ≡ true) ↔ EdgeFits nodes table e
edge-iff nodes table e =
    let parts = and-both _ _ _ _ (plain-iff nodes e.from) (and-both _ _ _ _ (below e.to.0 (length nodes)) (each (OperationFits table) (made.operation_fits table) (made.operations_fit table) refl (λ x xs. refl) (operation-iff table) e.ops)) in
    (λ t. (let z = parts.0 t in record { from = z.0; to = z.1.0; operations = z.1.1 }), λ h. parts.1 (h.from, (h.to, h.operations)))

goes-told : (b out : Bool) (P : Type 0) → ((b ≡ true) ↔ P) → (if b then out else true) ≡ true → P → out ≡ true
goes-told b out P plain e p = sym (ap (λ (x : Bool). if x then out else true) (plain.1 p)) ∙ e

goes-from : (b out : Bool) (P : Type 0) → ((b ≡ true) ↔ P) → (P → out ≡ true) → (if b then out else true) ≡ true
goes-from true out P plain h = h (plain.0 refl)
goes-from false out P plain h = refl

goes-iff : (nodes : List Node) (edges : List Edge) (v : NodeId) → (made.goes_on nodes edges v ≡ true) ↔ GoesOn nodes edges v
goes-iff nodes edges v = (
  goes-told (made.is_plain nodes v) (has_out edges v) (slice_get nodes v.0 ≡ Some Plain) (plain-iff nodes v),
  goes-from (made.is_plain nodes v) (has_out edges v) (slice_get nodes v.0 ≡ Some Plain) (plain-iff nodes v),
)

same-told : (xs ys : List ℕ) → made.same_numbers xs ys ≡ true → xs ≡ ys
same-told [] [] e = refl
same-told [] (y ∷ ys) e = absurd cc
same-told (x ∷ xs) [] e = absurd cc
same-told (x ∷ xs) (y ∷ ys) e =
    let z = and_parts (x == y) (made.same_numbers xs ys) e in
    ap (λ (a : ℕ). a ∷ xs) (eqb-true x y z.0) ∙ ap (λ (zs : List ℕ). y ∷ zs) (same-told xs ys z.1)

same-self : (xs : List ℕ) → made.same_numbers xs xs ≡ true
same-self [] = refl
same-self (x ∷ xs) = and_from (x == x) (made.same_numbers xs xs) (eq-eqb x x refl) (same-self xs)

same-iff : (xs ys : List ℕ) → (made.same_numbers xs ys ≡ true) ↔ (xs ≡ ys)
same-iff xs ys = (same-told xs ys, λ e. subst (λ (zs : List ℕ). made.same_numbers xs zs ≡ true) e (same-self xs))

flow-iff : (g : Flow) → IsTable g.terms → (made.is_flow g ≡ true) ↔ IsFlow g
flow-iff g table =
    let parts =
    and-both _ _ _ _ (each IsNoCall made.is_no_call made.no_calls refl (λ x xs. refl) no-call-iff g.nodes)
    (and-both _ _ _ _ (and-both _ _ _ _ (at-most (length g.nodes + length g.edges) 2147483647) (below (length g.cells) 4294967296))
    (and-both _ _ _ _ (below g.entry.0 (length g.nodes))
    (and-both _ _ _ _ (each (EdgeFits g.nodes g.terms) (made.edge_fits g.nodes g.terms) (made.edges_fit g.nodes g.terms) refl (λ x xs. refl) (edge-iff g.nodes g.terms) g.edges)
    (and-both _ _ _ _ (goes-iff g.nodes g.edges g.entry)
    (and-both _ _ _ _ (each (λ (e : Edge). GoesOn g.nodes g.edges e.to) (λ (e : Edge). made.goes_on g.nodes g.edges e.to) (made.targets_go_on g.nodes g.edges) refl (λ x xs. refl) (λ e. goes-iff g.nodes g.edges e.to) g.edges)
    (and-both _ _ _ _ (each (λ (l : LoopAt). IsNodeOf g.nodes l.node) (λ (l : LoopAt). made.is_node g.nodes l.node) (made.are_loops g.nodes) refl (λ x xs. refl) (λ l. below l.node.0 (length g.nodes)) g.loops)
    (same-iff g.terms.cells (widths_of g.cells)))))))) in (
      λ e.
          let (calls, ((few, cells), (entry, (edges, (first, (targets, (places, same))))))) = parts.0 e in record {
            no_calls = calls;
            few = few;
            few_cells = cells;
            entry = entry;
            edges = edges;
            entry_goes_on = first;
            targets_go_on = targets;
            loops = places;
            cells = same;
            table = table;
          },
      λ h. parts.1 (h.no_calls, ((h.few, h.few_cells), (h.entry, (h.edges, (h.entry_goes_on, (h.targets_go_on, (h.loops, h.cells))))))),
    )

-- of two graphs, the one that parts make
pub whole-made : (g h : Flow) → IsTable g.terms → IsFlow h → (h ≡ g) ⊎ (h ≡ error_flow) → (IsFlow g → h ≡ g) → h ≡ made.whole g
whole-made g h table flow (inl e) w = e ∙ sym (ap (λ (b : Bool). if b then g else error_flow) ((flow-iff g table).1 (subst IsFlow e flow)))
whole-made g h table flow (inr e) w = choose (made.is_flow g) refl
  where
    choose : (b : Bool) → made.is_flow g ≡ b → h ≡ made.whole g
    choose true t = w ((flow-iff g table).0 t) ∙ sym (ap (λ (b : Bool). if b then g else error_flow) t)
    choose false t = e ∙ sym (ap (λ (b : Bool). if b then g else error_flow) t)
