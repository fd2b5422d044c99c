-- An assignment that meets the clauses of an edge spells a run along it that breaks the map.
use Rattle.std.proofs.Common.{◌≡◌, ℕ, ℤ, ◌+◌, ◌<◌, Bool, true, false, not, List, [], ◌∷◌, ◌++◌, length, map, All, refl, sym, ap, ◌∙◌, subst, Some}
use Rattle.std.proofs.lemmas.Bool.{false≢true}
use Rattle.std.proofs.lemmas.List.Elements.{All-head, All-tail}
use Rattle.prop.specs.Logic.{all_hold, lit_value, negated}
use Rattle.bit_gates.specs.Net.{net_clauses, number}
use Rattle.bit_gates.proofs.Nets.{value-negated}
use Rattle.bv_term.specs.declared.term.TermId.{TermId}
use Rattle.bv_term.specs.WellFormed.{Table, IsTable}
use Rattle.bv_term.specs.Values.{value}
use Rattle.bit_blast.specs.Held.{Held, begun, blast_of, new_of, renew_of}
use Rattle.bit_blast.proofs.Cones.{blast-over}
use Rattle.c_graph.specs.declared.graph.NodeId.{NodeId}
use Rattle.c_graph.specs.declared.graph.Operation.{Operation}
use Rattle.c_graph.specs.declared.graph.Operation.TheVariants.{Assume, Set, SetAt, Draw}
use Rattle.c_graph.specs.Shape.{EdgeFits, Flow, HasWidth, IsFlow, OperationFits, widths_of}
use Rattle.c_graph.specs.Steps.{IsWhole, Moment, moment, operated, operated_all, stored_at}
use Rattle.c_graph.specs.Runs.{Formulas, HoldsAt, IsMapOf}
use Rattle.blast_laws.specs.Calls.{spelled_store}
use Rattle.blast_laws.proofs.Runs.{new_starts, truths_read}
use Rattle.path_formula.specs.Reads.{with_read}
use Rattle.path_formula.specs.Needs.{gives, kept_of, needed_by_all, operations_at}
use Rattle.path_formula.specs.Added.{Added, added, added_all, added_if, joined}
use Rattle.obligations.specs.Stated.{AreRefuted, from_of, stated, to_of}
use Rattle.obligation_laws.specs.Draws.{AreDrawn}
use Rattle.obligation_laws.specs.Laws.{EdgeExact}
use Rattle.obligation_laws.proofs.Alike.{AgreeOn, read_alike}
use Rattle.obligation_laws.proofs.Following.{follows, leaves}
use Rattle.blast_laws.proofs.Spelling.{single}
use Rattle.obligation_laws.proofs.Blasted.{blasted}
use Rattle.obligation_laws.proofs.Going.{Reach, renew_goes}
use Rattle.obligation_laws.proofs.Drawing.{drawn_both, drew}
use Rattle.obligation_laws.proofs.Running.{both, runs, seen}
use Rattle.obligation_laws.proofs.Nodes.{formula, formula_wide, from_store, holds_at, unit_held}
use Rattle.obligation_laws.proofs.Edges.{begins, edge_at, edge_of, edge_sound, got_there}

-- a run of the operations that give something that is needed, the others left out

abbrev pub Chosen : Bool → Type 0 → Type 0 → Type 0
Chosen true A B = A
Chosen false A B = B

abbrev pub KeptRun : Table → List ℕ → List Operation → List ℕ → List ℤ → List ℕ → Type 0
KeptRun table later [] s draws t = (s ≡ t) × (draws ≡ [])
KeptRun table later (o ∷ os) s draws t =
    Chosen (gives (needed_by_all table later os) o)
    ((m : Moment) × (operated table o (moment s draws) ≡ Some m) × KeptRun table later os m.store m.inputs t)
    (KeptRun table later os s draws t)

pub record Kept (table : Table) (later : List ℕ) (ops : List Operation) (u : ℕ → Bool) (s : List ℕ) (m : Added) : Type 0 where
  pub draws : List ℤ
  pub store : List ℕ
  pub run : KeptRun table later ops s draws store
  pub reach : Reach table m.held u store
  pub drawn : AreDrawn table.cells u m.draws draws

abbrev pub Keeping : Table → List ℕ → List Operation → (ℕ → Bool) → Type 0
Keeping table later ops u =
    (h : Held) (s : List ℕ) → Reach table h u s → all_hold u (added_all table h ops (kept_of table later ops)).clauses ≡ true
    → Kept table later ops u s (added_all table h ops (kept_of table later ops))

abbrev then_all : Table → List ℕ → List Operation → Added → Added
then_all table later os m = joined m (added_all table m.held os (kept_of table later os))

record KeptOne (b : Bool) (table : Table) (later : List ℕ) (o : Operation) (os : List Operation) (u : ℕ → Bool) (s : List ℕ) (k : Added) : Type 0 where
  draws : List ℤ
  store : List ℕ
  run : Chosen b ((m : Moment) × (operated table o (moment s draws) ≡ Some m) × KeptRun table later os m.store m.inputs store) (KeptRun table later os s draws store)
  reach : Reach table k.held u store
  drawn : AreDrawn table.cells u k.draws draws

kept_one : (table : Table) (later : List ℕ) (o : Operation) (os : List Operation) (u : ℕ → Bool) → IsTable table → OperationFits table o → Keeping table later os u
    → (h : Held) (s : List ℕ) → Reach table h u s → (b : Bool) → all_hold u (then_all table later os (added_if b table h o)).clauses ≡ true
    → KeptOne b table later o os u s (then_all table later os (added_if b table h o))
kept_one table later o os u is f rest h s r true held =
    let k = added table h o in
    let d = added_all table k.held os (kept_of table later os) in
    let p = both u k.clauses d.clauses held in
    let R = runs table o h u s is f r p.0 in
    let W = rest k.held R.store R.reach p.1 in
    let D = drew table o h u u s (R.draws ++ W.draws) (moment R.store W.draws) f r (R.goes W.draws) R.reach in
    record {
      draws = R.draws ++ W.draws;
      store = W.store;
      run = (moment R.store W.draws, R.goes W.draws, W.run);
      reach = W.reach;
      drawn = subst (AreDrawn table.cells u (k.draws ++ d.draws)) (sym D.split) (drawn_both table.cells u k.draws d.draws D.used W.draws D.drawn W.drawn);
    }
kept_one table later o os u is f rest h s r false held =
    let W = rest h s r held in
    record { draws = W.draws; store = W.store; run = W.run; reach = W.reach; drawn = W.drawn }

pub kept_runs : (table : Table) (later : List ℕ) (ops : List Operation) (u : ℕ → Bool) → IsTable table → All (OperationFits table) ops → Keeping table later ops u
kept_runs table later [] u is f h s r held = record { draws = []; store = s; run = (refl, refl); reach = r; drawn = tt }
kept_runs table later (o ∷ os) u is f h s r held =
    let K = kept_one table later o os u is (All-head (OperationFits table) o os f) (kept_runs table later os u is (All-tail (OperationFits table) o os f)) h s r
    (gives (needed_by_all table later os) o) held in
    record { draws = K.draws; store = K.store; run = K.run; reach = K.reach; drawn = K.drawn }

-- an operation that gives nothing that is needed goes on in any store
goes_anyway : (table : Table) (later : List ℕ) (o : Operation) (c : List ℕ) (draws : List ℤ) → gives later o ≡ false
    → (x : List ℕ) × (operated table o (moment c draws) ≡ Some (moment x draws))
goes_anyway table later (Assume t) c draws g = absurd (false≢true (sym g))
goes_anyway table later (Set k t) c draws g = (_, refl)
goes_anyway table later (SetAt first n i t) c draws g = (stored_at c first n (value table c i) (value table c t), refl)
goes_anyway table later (Draw k signed) c draws g = absurd (false≢true (sym g))

-- a run of all operations from a store that agrees on what is needed
pub record Whole (table : Table) (later : List ℕ) (ops : List Operation) (c : List ℕ) (draws : List ℤ) (t : List ℕ) : Type 0 where
  pub after : List ℕ
  pub leads : operated_all table ops (Some (moment c draws)) ≡ Some (moment after [])
  pub agrees : AgreeOn later t after

abbrev pub Completing : Table → List ℕ → List Operation → List ℕ → Type 0
Completing table later ops t =
    (s c : List ℕ) (draws : List ℤ) → length s ≡ length c → AgreeOn (needed_by_all table later ops) s c → KeptRun table later ops s draws t → Whole table later ops c draws t

whole_one : (table : Table) (later : List ℕ) (o : Operation) (os : List Operation) (t : List ℕ) → IsTable table → OperationFits table o → Completing table later os t
    → (s c : List ℕ) (draws : List ℤ) → length s ≡ length c → AgreeOn (needed_by_all table later (o ∷ os)) s c → (b : Bool) → b ≡ gives (needed_by_all table later os) o
    → Chosen b ((m : Moment) × (operated table o (moment s draws) ≡ Some m) × KeptRun table later os m.store m.inputs t) (KeptRun table later os s draws t)
    → Whole table later (o ∷ os) c draws t
whole_one table later o os t is f rest s c draws l a true g run =
    let m = run.0 in
    let F = follows table (needed_by_all table later os) o c s draws m is f (sym l) (λ d x. sym (a d x)) (sym g) run.1 in
    let W = rest m.store F.store m.inputs (sym F.long) (λ d x. sym (F.agrees d x)) run.2 in
    record { after = W.after; leads = ap (operated_all table os) F.goes ∙ W.leads; agrees = W.agrees }
whole_one table later o os t is f rest s c draws l a false g run =
    let N = needed_by_all table later os in
    let x = goes_anyway table N o c draws (sym g) in
    let L = leaves table N o s c draws (moment x.0 draws) l a (sym g) x.1 in
    let W = rest s x.0 draws L.long L.agrees run in
    record { after = W.after; leads = ap (operated_all table os) x.1 ∙ W.leads; agrees = W.agrees }

pub whole_runs : (table : Table) (later : List ℕ) (ops : List Operation) (t : List ℕ) → IsTable table → All (OperationFits table) ops → Completing table later ops t
whole_runs table later [] t is f s c draws l a run =
    record { after = c; leads = ap (λ (d : List ℤ). Some (moment c d)) run.1; agrees = subst (λ (x : List ℕ). AgreeOn later x c) run.0 a }
whole_runs table later (o ∷ os) t is f s c draws l a run =
    whole_one table later o os t is (All-head (OperationFits table) o os f) (whole_runs table later os t is (All-tail (OperationFits table) o os f)) s c draws l a
    (gives (needed_by_all table later os) o) refl run

-- what is said of a formula

outs_long : (table : Table) (t : TermId) (h : Held) (u : ℕ → Bool) (s : List ℕ) → IsTable table → HasWidth table t 1 → Reach table h u s → length (blast_of table t.0 h).outs ≡ 1
outs_long table t h u s is wide r =
    let o = begun h.next h.one in
    let m = blast_of table t.0 h in
    let over = blast-over table o.lit h.cells (h.next + length o.defs) h.next h.one (Some o.lit) h.done m.held.done t.0 is r.over wide.0 refl m.held.next in
    (over.0.done t.0 over.1).1 ∙ wide.1

holds_said : (table : Table) (t : TermId) (h : Held) (u : ℕ → Bool) (s : List ℕ) → IsTable table → HasWidth table t 1 → Reach table h u s
    → all_hold u (stated true table t.0 h).clauses ≡ true → (value table s t ≡ 1) × Reach table (stated true table t.0 h).held u s
holds_said table t h u s is wide r held =
    let m = blast_of table t.0 h in
    let one = single m.outs (outs_long table t h u s is wide r) in
    let p = unit_held u (net_clauses h.next m.defs) m.outs one.0 one.1 held in
    let b = seen table t.0 h u s is wide.0 r p.0 in
    ((truths_read u table s t one.0 (ap (number u) (sym one.1) ∙ b.told)).0 p.1, b.reach)

fails_said : (table : Table) (t : TermId) (h : Held) (u : ℕ → Bool) (s : List ℕ) → IsTable table → HasWidth table t 1 → Reach table h u s
    → all_hold u (stated false table t.0 h).clauses ≡ true → value table s t ≡ 1 → ⊥
fails_said table t h u s is wide r held e =
    let m = blast_of table t.0 h in
    let one = single m.outs (outs_long table t h u s is wide r) in
    let p = unit_held u (net_clauses h.next m.defs) (map negated m.outs) (negated one.0) (ap (map negated) one.1) held in
    let b = seen table t.0 h u s is wide.0 r p.0 in
    let on : lit_value u one.0 ≡ true = (truths_read u table s t one.0 (ap (number u) (sym one.1) ∙ b.told)).1 e in
    false≢true (sym (value-negated u one.0 ∙ ap not on) ∙ p.1)

-- no assignment meets the clauses where the formulas hold on
between_on : (g : Flow) (m : Formulas) (from to : NodeId) (ops : List Operation) → IsFlow g → IsTable m.terms → IsMapOf g m
    → from.0 < length g.nodes → to.0 < length g.nodes → All (OperationFits g.terms) ops
    → ((store : List ℕ) (draws : List ℤ) (after : List ℕ) → IsWhole (widths_of g.cells) store → HoldsAt m from store
    → operated_all g.terms ops (Some (moment store draws)) ≡ Some (moment after []) → HoldsAt m to after)
    → (let a = stated true m.terms (formula m from).0 (new_of [] m.terms.cells) in
    let b = added_all g.terms (renew_of a.held) ops (kept_of g.terms (with_read m.terms (formula m to).0 []) ops) in
    let c = stated false m.terms (formula m to).0 (renew_of b.held) in
    AreRefuted ((a.clauses ++ b.clauses) ++ c.clauses))
between_on g m from to ops flow table is lf lt fits on u held =
    let t1 = formula m from in
    let t2 = formula m to in
    let wide1 = formula_wide g m from is lf in
    let wide2 = formula_wide g m to is lt in
    let first = new_of [] m.terms.cells in
    let a = stated true m.terms t1.0 first in
    let later = with_read m.terms t2.0 [] in
    let b = added_all g.terms (renew_of a.held) ops (kept_of g.terms later ops) in
    let c = stated false m.terms t2.0 (renew_of b.held) in
    let p = both u (a.clauses ++ b.clauses) c.clauses held in
    let q = both u a.clauses b.clauses p.0 in
    let s = spelled_store u first.cells in
    let fit = (blasted m.terms t1 first table (new_starts [] m.terms.cells table.cells) wide1).reads u in
    let same : m.terms.cells ≡ g.terms.cells = is.cells ∙ sym flow.cells in
    let A = holds_said m.terms t1 first u s table wide1 (begins m.terms u s table refl) q.0 in
    let K = kept_runs g.terms later ops u flow.table fits (renew_of a.held) s (renew_goes m.terms g.terms a.held u s same A.1) q.1 in
    let W = whole_runs g.terms later ops K.store flow.table fits s s K.draws refl (λ d x. refl) K.run in
    let met = on s K.draws W.after (from_store g m s is fit.0 fit.1) ((holds_at g m from s is lf).1 A.0) W.leads in
    let alike = (read_alike m.terms t2.0 [] K.store W.after table wide2.0 W.agrees).0 in
    fails_said m.terms t2 (renew_of b.held) u K.store table wide2 (renew_goes g.terms m.terms b.held u K.store (sym same) K.reach) p.1
    (alike ∙ (holds_at g m to W.after is lt).0 met)

pub edge_exact : EdgeExact
edge_exact g m e edge flow table is at = (
  (λ refuted. edge_sound g m e edge flow table is at refuted),
  (λ on.
      let i = edge_at g.edges e edge at in
      let fits = edge_of (EdgeFits g.nodes g.terms) g.edges e edge flow.edges at in
      between_on g m (from_of g.edges e) (to_of g.edges e) (operations_at g.edges e) flow table is
      (subst (λ (v : NodeId). v.0 < length g.nodes) (sym i.from) (got_there g.nodes edge.from.0 _ fits.from))
      (subst (λ (v : NodeId). v.0 < length g.nodes) (sym i.to) fits.to)
      (subst (All (OperationFits g.terms)) (sym i.ops) fits.operations)
      (λ store draws after whole met leads.
      subst (λ (v : NodeId). HoldsAt m v after) (sym i.to)
      (on store draws after whole (subst (λ (v : NodeId). HoldsAt m v store) i.from met)
      (subst (λ (os : List Operation). operated_all g.terms os (Some (moment store draws)) ≡ Some (moment after [])) i.ops leads)))),
)
