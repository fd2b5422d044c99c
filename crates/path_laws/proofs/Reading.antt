-- What is drawn is what the literals of draws read.
use Rattle.std.proofs.Common.{◌≡◌, ℕ, ℤ, pos, negsuc, ◌+◌, ◌-◌, ◌*◌, ◌^◌, ◌≤◌, ◌<◌, ◌==◌, Bool, true, false, List, [], ◌∷◌, ◌++◌, length, All, refl, sym, ap, ◌∙◌, subst, suc, arith, slice_index, slice_set, nat_lt, if◌then◌else◌, Some, None}
use Rattle.std.proofs.Math.Nat.{mod-eq_of_lt, pow-succ'}
use Rattle.std.proofs.lemmas.Bool.{false≢true, le-ltb, ltb-true}
use Rattle.std.proofs.lemmas.List.Elements.{All-head, All-tail}
use Rattle.bv_term.specs.WellFormed.{IsWidth, Table}
use Rattle.bv_term.specs.Values.{value}
use Rattle.bit_blast.specs.Held.{Held, new_of, renew_of}
use Rattle.c_graph.specs.declared.graph.EdgeId.{EdgeId}
use Rattle.c_graph.specs.declared.graph.NodeId.{NodeId}
use Rattle.c_graph.specs.declared.graph.Operation.{Operation}
use Rattle.c_graph.specs.declared.graph.Operation.TheVariants.{Assume, Set, SetAt, Draw}
use Rattle.c_graph.specs.Shape.{Flow, IsFlow, OperationFits}
use Rattle.c_graph.specs.Steps.{Moment, moment, modulo, in_range_of, operated_all, stored_at}
use Rattle.c_graph.specs.Runs.{RunsAlong}
use Rattle.path_query.specs.declared.query.Bundle.{Bundle}
use Rattle.path_formula.specs.Needs.{gives, kept_of, needed_by_all, operations_at}
use Rattle.path_formula.specs.Added.{added, added_all, added_if, joined}
use Rattle.path_formula.specs.Questions.{asked, needed_along, plan_of, stepped}
use Rattle.obligation_laws.specs.Draws.{AreDrawn}
use Rattle.obligation_laws.proofs.Edges.{edge_at}
use Rattle.path_laws.specs.Values.{read_as, signs_along, signs_of, values_read}
use Rattle.path_laws.specs.Laws.{DrawsAreRead}
use Rattle.path_laws.proofs.Stepping.{operations_fit}

-- a value in its range is told by its residue

half : (w : ℕ) → 1 ≤ w → 2 ^ w ≡ 2 * 2 ^ (w - 1)
half w le =
    let e : suc (w - 1) ≡ w = omega (arith, le) in
    ap (λ (k : ℕ). 2 ^ k) (sym e) ∙ pow-succ' 2 (w - 1)

value_is : (w : ℕ) (signed : Bool) (z : ℤ) (x : ℕ) → 1 ≤ w → in_range_of w signed z ≡ true → x ≡ modulo w z → z ≡ read_as signed w x
value_is w false (pos n) x le r e = ap (λ (y : ℕ). pos y) (sym (e ∙ mod-eq_of_lt (ltb-true n (2 ^ w) r)))
value_is w false (negsuc n) x le r e = absurd (false≢true r)
value_is w true (pos n) x le r e =
    let h = half w le in
    let lt : n < 2 ^ (w - 1) = ltb-true n (2 ^ (w - 1)) r in
    let under : n < 2 ^ w = omega (arith, lt, h) in
    let same : x ≡ n = e ∙ mod-eq_of_lt under in
    sym (ap (λ (y : ℕ). if nat_lt y (2 ^ (w - 1)) then pos y else negsuc ((2 ^ w - 1) - y)) same
    ∙ ap (λ (b : Bool). if b then pos n else negsuc ((2 ^ w - 1) - n)) r)
value_is w true (negsuc n) x le r e =
    let h = half w le in
    let lt : n < 2 ^ (w - 1) = ltb-true n (2 ^ (w - 1)) r in
    let under : n < 2 ^ w = omega (arith, lt, h) in
    let same : x ≡ (2 ^ w - 1) - n = e ∙ ap (λ (k : ℕ). (2 ^ w - 1) - k) (mod-eq_of_lt under) in
    let high : 2 ^ (w - 1) ≤ x = omega (arith, same, lt, h) in
    let back : n ≡ (2 ^ w - 1) - x = omega (arith, same, under) in
    ap (λ (k : ℕ). negsuc k) back ∙ sym (ap (λ (b : Bool). if b then pos x else negsuc ((2 ^ w - 1) - x)) (le-ltb x (2 ^ (w - 1)) high))

two : (a b : ℤ) (ys zs : List ℤ) → a ≡ b → ys ≡ zs → (a ∷ ys) ≡ (b ∷ zs)
two a b ys zs e f = ap (λ (x : ℤ). x ∷ ys) e ∙ ap (λ (t : List ℤ). b ∷ t) f

moment_is : (a b : Moment) → Some a ≡ Some b → a ≡ b
moment_is a b e = cc

-- operations that draw so many values, and draws behind them that are read
abbrev Reading : Table → List ℕ → (ℕ → Bool) → List Operation → Type 0
Reading table later v os =
    (h : Held) (c : List ℕ) (inputs : List ℤ) (after : List ℕ) (cs : List Bundle) (ss : List Bool) (rest : List ℤ)
    → operated_all table os (Some (moment c inputs)) ≡ Some (moment after [])
    → (AreDrawn table.cells v cs rest → rest ≡ values_read table.cells v cs ss)
    → AreDrawn table.cells v ((added_all table h os (kept_of table later os)).draws ++ cs) (inputs ++ rest)
    → inputs ++ rest ≡ values_read table.cells v ((added_all table h os (kept_of table later os)).draws ++ cs) (signs_of os ++ ss)

read_one : (table : Table) (later : List ℕ) (v : ℕ → Bool) (o : Operation) (os : List Operation) → All IsWidth table.cells → OperationFits table o → Reading table later v os
    → Reading table later v (o ∷ os)
read_one table later v (Assume t) os wide f ih h c inputs after cs ss rest e k d = by (value table c t == 1) e
  where
    by : (b : Bool) → operated_all table os (if b then Some (moment c inputs) else None) ≡ Some (moment after [])
        → inputs ++ rest ≡ values_read table.cells v ((added_all table (added table h (Assume t)).held os (kept_of table later os)).draws ++ cs) (signs_of os ++ ss)
    by true e = ih (added table h (Assume t)).held c inputs after cs ss rest e k d
    by false e = absurd cc
read_one table later v (Set x t) os wide f ih h c inputs after cs ss rest e k d = by (gives (needed_by_all table later os) (Set x t)) d
  where
    by : (b : Bool)
        → AreDrawn table.cells v ((joined (added_if b table h (Set x t)) (added_all table (added_if b table h (Set x t)).held os (kept_of table later os))).draws ++ cs) (inputs ++ rest)
        → inputs ++ rest
        ≡ values_read table.cells v ((joined (added_if b table h (Set x t)) (added_all table (added_if b table h (Set x t)).held os (kept_of table later os))).draws ++ cs) (signs_of os ++ ss)
    by true d = ih (added table h (Set x t)).held (slice_set c x (value table c t)) inputs after cs ss rest e k d
    by false d = ih h (slice_set c x (value table c t)) inputs after cs ss rest e k d
read_one table later v (SetAt first n i t) os wide f ih h c inputs after cs ss rest e k d = by (gives (needed_by_all table later os) (SetAt first n i t)) d
  where
    by : (b : Bool)
        → AreDrawn table.cells v
        ((joined (added_if b table h (SetAt first n i t)) (added_all table (added_if b table h (SetAt first n i t)).held os (kept_of table later os))).draws ++ cs) (inputs ++ rest)
        → inputs ++ rest
        ≡ values_read table.cells v
        ((joined (added_if b table h (SetAt first n i t)) (added_all table (added_if b table h (SetAt first n i t)).held os (kept_of table later os))).draws ++ cs) (signs_of os ++ ss)
    by true d = ih (added table h (SetAt first n i t)).held (stored_at c first n (value table c i) (value table c t)) inputs after cs ss rest e k d
    by false d = ih h (stored_at c first n (value table c i) (value table c t)) inputs after cs ss rest e k d
read_one table later v (Draw x signed) os wide f ih h c [] after cs ss rest e k d = absurd cc
read_one table later v (Draw x signed) os wide f ih h c (z ∷ zs) after cs ss rest e k d = by (in_range_of (slice_index table.cells x) signed z) refl e
  where
    by : (b : Bool) → in_range_of (slice_index table.cells x) signed z ≡ b
        → operated_all table os (if b then Some (moment (slice_set c x (modulo (slice_index table.cells x) z)) zs) else None) ≡ Some (moment after [])
        → z ∷ (zs ++ rest) ≡ values_read table.cells v ((added_all table h (Draw x signed ∷ os) (kept_of table later (Draw x signed ∷ os))).draws ++ cs) (signed ∷ (signs_of os ++ ss))
    by true r e =
        let w = slice_index table.cells x in
        let m = added table h (Draw x signed) in
        two z _ (zs ++ rest) _ (value_is w signed z _ (wide x 0 f.0).0 r d.0) (ih m.held (slice_set c x (modulo w z)) zs after cs ss rest e k d.1)
    by false r e = absurd cc

read_none : (table : Table) (later : List ℕ) (v : ℕ → Bool) → Reading table later v []
read_none table later v h c inputs after cs ss rest e k d =
    let i : inputs ≡ [] = ap (λ (m : Moment). m.inputs) (moment_is (moment c inputs) (moment after []) e) in
    ap (λ (t : List ℤ). t ++ rest) i ∙ k (subst (λ (t : List ℤ). AreDrawn table.cells v cs (t ++ rest)) i d)

read_all : (table : Table) (later : List ℕ) (v : ℕ → Bool) (os : List Operation) → All IsWidth table.cells → All (OperationFits table) os → Reading table later v os
read_all table later v [] wide f = read_none table later v
read_all table later v (o ∷ os) wide f =
    read_one table later v o os wide (All-head (OperationFits table) o os f) (read_all table later v os wide (All-tail (OperationFits table) o os f))

path_read : (g : Flow) → IsFlow g → (n : ℕ) (h : Held) (path : List EdgeId) (v : ℕ → Bool) (from to : NodeId) (store : List ℕ) (draws : List ℤ) (after : List ℕ)
    → RunsAlong g path from store draws to after → AreDrawn g.terms.cells v (asked g n h path).draws draws
    → draws ≡ values_read g.terms.cells v (asked g n h path).draws (signs_along g path)
path_read g flow n h [] v from to store draws after run d = run.2
path_read g flow n h (e ∷ es) v from to store draws after (edge, is, here, (mid, first, rest, split, leads, run)) d =
    let ops = operations_at g.edges e.0 in
    let m = stepped g (plan_of g e es) h in
    let i = n + length m.clauses in
    let r = asked g i m.held es in
    let same = (edge_at g.edges e.0 edge is).ops in
    let go : operated_all g.terms ops (Some (moment store first)) ≡ Some (moment mid [])
    = subst (λ (os : List Operation). operated_all g.terms os (Some (moment store first)) ≡ Some (moment mid [])) (sym same) leads in
    split ∙ read_all g.terms (needed_along g es) v ops flow.table.cells (operations_fit g e.0 flow) (renew_of h) store first mid r.draws (signs_along g es) rest go
    (λ x. path_read g flow i m.held es v edge.to to mid rest after run x)
    (subst (AreDrawn g.terms.cells v (m.draws ++ r.draws)) split d)

pub draws_are_read : DrawsAreRead
draws_are_read g path from to store draws after v flow run d =
    let bs = (asked g 0 (new_of [] g.terms.cells) path).draws in
    path_read g flow 0 (new_of [] g.terms.cells) path v from to store draws after run (subst (λ (ws : List ℕ). AreDrawn ws v bs draws) (sym flow.cells) d)
    ∙ ap (λ (ws : List ℕ). values_read ws v bs (signs_along g path)) flow.cells
