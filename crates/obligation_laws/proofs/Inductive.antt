-- A map of which all obligations are refuted.
use Rattle.std.proofs.Common.{◌≡◌, ℕ, ◌+◌, ◌-◌, ◌<◌, Bool, true, false, List, [], ◌∷◌, length, refl, sym, ap, ◌∙◌, subst, zero, suc, arith, nat_lt, slice_get, slice_index_or, if◌then◌else◌, Some}
use Rattle.std.proofs.lemmas.Bool.{false≢true, lt-ltb, ltb-true}
use Rattle.lv_base.specs.declared.fault.ErrorKind.{ErrorKind}
use Rattle.bv_term.specs.WellFormed.{IsTable}
use Rattle.c_graph.specs.declared.graph.NodeId.{NodeId}
use Rattle.c_graph.specs.declared.graph.Node.{Node}
use Rattle.c_graph.specs.declared.graph.Node.TheVariants.{Plain, Error, End, Call}
use Rattle.c_graph.specs.declared.graph.Edge.{Edge}
use Rattle.c_graph.specs.Shape.{Flow, IsFlow}
use Rattle.c_graph.specs.Runs.{Formulas, IsMapOf, IsInductive}
use Rattle.obligations.specs.declared.questions.Question.{Question}
use Rattle.obligations.specs.declared.questions.Question.TheVariants.{Edge as EdgeOf, Error as ErrorOf}
use Rattle.obligations.specs.Questions.{error_at, errors_from, is_error, place_of}
use Rattle.obligations.specs.Stated.{AreRefuted, edge_says, node_says, question_says}
use Rattle.obligation_laws.specs.Laws.{AllRefuted, InductiveExact}
use Rattle.obligation_laws.proofs.Nodes.{entry_exact, error_exact}
use Rattle.obligation_laws.proofs.Exact.{edge_exact}

not_less : (a b : ℕ) → nat_lt (a + b) a ≡ false
not_less a b = by (nat_lt (a + b) a) refl
  where
    by : (t : Bool) → t ≡ nat_lt (a + b) a → t ≡ false
    by true e = let lt = ltb-true (a + b) a (sym e) in absurd (omega (arith, lt))
    by false e = refl

-- the place of an error node among error nodes
pub record IsPlaced (n : ℕ) (nodes : List Node) (v : ℕ) : Type 0 where
  pub place : ℕ
  pub there : place < length (errors_from n nodes)
  pub at : slice_index_or (errors_from n nodes) place (record { 0 = 0 }) ≡ record { 0 = n + v }

node_is : (a b : Node) → Some a ≡ Some b → a ≡ b
node_is a b e = cc

placed : (n : ℕ) (nodes : List Node) (v : ℕ) (kind : ErrorKind) (at : ℕ) → slice_get nodes v ≡ Some (Error kind at) → IsPlaced n nodes v
placed n [] v kind at e = absurd cc
placed n (x ∷ xs) zero kind at e =
    let i = node_is x (Error kind at) e in
    let z : n ≡ n + 0 = omega arith in
    subst (λ (y : Node). IsPlaced n (y ∷ xs) 0) (sym i) (record { place = 0; there = omega arith; at = ap (λ (k : ℕ). record { 0 = k }) z })
placed n (x ∷ xs) (suc v) kind at e = by (is_error x) refl (placed (n + 1) xs v kind at e)
  where
    by : (b : Bool) → b ≡ is_error x → IsPlaced (n + 1) xs v → IsPlaced n (x ∷ xs) (suc v)
    by true q r =
        let s : record { 0 = n } ∷ errors_from (n + 1) xs ≡ errors_from n (x ∷ xs)
        = ap (λ (b : Bool). if b then record { 0 = n } ∷ errors_from (n + 1) xs else errors_from (n + 1) xs) q in
        let z : n + 1 + v ≡ n + suc v = omega arith in
        record {
          place = suc r.place;
          there = subst (λ (es : List NodeId). suc r.place < length es) s (omega (arith, r.there));
          at = subst (λ (es : List NodeId). slice_index_or es (suc r.place) (record { 0 = 0 }) ≡ record { 0 = n + suc v }) s (r.at ∙ ap (λ (k : ℕ). record { 0 = k }) z);
        }
    by false q r =
        let s : errors_from (n + 1) xs ≡ errors_from n (x ∷ xs)
        = ap (λ (b : Bool). if b then record { 0 = n } ∷ errors_from (n + 1) xs else errors_from (n + 1) xs) q in
        let z : n + 1 + v ≡ n + suc v = omega arith in
        record {
          place = r.place;
          there = subst (λ (es : List NodeId). r.place < length es) s r.there;
          at = subst (λ (es : List NodeId). slice_index_or es r.place (record { 0 = 0 }) ≡ record { 0 = n + suc v }) s (r.at ∙ ap (λ (k : ℕ). record { 0 = k }) z);
        }

got_there : {A : Type 0} (xs : List A) (k : ℕ) (x : A) → slice_get xs k ≡ Some x → k < length xs
got_there [] k x e = absurd cc
got_there (y ∷ ys) zero x e = omega arith
got_there (y ∷ ys) (suc k) x e = let h = got_there ys k x e in omega (arith, h)

edge_refuted : (g : Flow) (m : Formulas) (e : ℕ) → e < length g.edges → AllRefuted g m → AreRefuted (edge_says g m e)
edge_refuted g m e lt all =
    let q : place_of g e ≡ EdgeOf (record { 0 = e })
    = ap (λ (b : Bool). if b then EdgeOf (record { 0 = e }) else ErrorOf (error_at g.nodes (e - length g.edges))) (lt-ltb e (length g.edges) lt) in
    subst (λ (x : Question). AreRefuted (question_says g m x)) q (all (suc e) (omega (arith, lt)))

error_refuted : (g : Flow) (m : Formulas) (v : NodeId) → IsPlaced 0 g.nodes v.0 → AllRefuted g m → AreRefuted (node_says true m v)
error_refuted g m v p all =
    let E = length g.edges in
    let n = E + p.place in
    let back : n - E ≡ p.place = omega arith in
    let q : place_of g n ≡ ErrorOf (error_at g.nodes (n - E))
    = ap (λ (b : Bool). if b then EdgeOf (record { 0 = n }) else ErrorOf (error_at g.nodes (n - E))) (not_less E p.place) in
    let z : 0 + v.0 ≡ v.0 = omega arith in
    let is : error_at g.nodes (n - E) ≡ v = ap (error_at g.nodes) back ∙ (p.at ∙ ap (λ (k : ℕ). record { 0 = k }) z) in
    subst (λ (x : Question). AreRefuted (question_says g m x)) (q ∙ ap (λ (w : NodeId). ErrorOf w) is) (all (suc n) (omega (arith, p.there)))

refuted_means_inductive : (g : Flow) (m : Formulas) → IsFlow g → IsTable m.terms → IsMapOf g m → AllRefuted g m → IsInductive g m
refuted_means_inductive g m flow table is all = record {
  map = is;
  entry = (entry_exact g m flow table is).0 (all 0 (omega arith));
  edges = λ e edge store draws after at whole met leads.
      (edge_exact g m e edge flow table is at).0 (edge_refuted g m e (got_there g.edges e edge at) all) store draws after whole met leads;
  errors = λ v kind at store e whole met.
      (error_exact g m v table is (got_there g.nodes v.0 (Error kind at) e)).0 (error_refuted g m v (placed 0 g.nodes v.0 kind at e) all) store whole met;
}

-- the other way about

-- the node of a place among error nodes is one
pub record IsErrorAt (n : ℕ) (nodes : List Node) (k : ℕ) : Type 0 where
  pub node : ℕ
  pub kind : ErrorKind
  pub offset : ℕ
  pub at : slice_index_or (errors_from n nodes) k (record { 0 = 0 }) ≡ record { 0 = n + node }
  pub there : slice_get nodes node ≡ Some (Error kind offset)

error_later : (n : ℕ) (x : Node) (xs : List Node) (k j : ℕ) → slice_index_or (errors_from n (x ∷ xs)) j (record { 0 = 0 }) ≡ slice_index_or (errors_from (n + 1) xs) k (record { 0 = 0 })
    → IsErrorAt (n + 1) xs k → IsErrorAt n (x ∷ xs) j
error_later n x xs k j e r =
    let z : n + 1 + r.node ≡ n + suc r.node = omega arith in
    record { node = suc r.node; kind = r.kind; offset = r.offset; at = e ∙ (r.at ∙ ap (λ (i : ℕ). record { 0 = i }) z); there = r.there }

rest_of : (x : Node) (n : ℕ) (xs : List Node) (k : ℕ) → is_error x ≡ false → k < length (errors_from n (x ∷ xs)) → (k < length (errors_from (n + 1) xs) → IsErrorAt (n + 1) xs k) → IsErrorAt n (x ∷ xs) k
rest_of x n xs k e lt f =
    let s : errors_from n (x ∷ xs) ≡ errors_from (n + 1) xs
    = ap (λ (b : Bool). if b then record { 0 = n } ∷ errors_from (n + 1) xs else errors_from (n + 1) xs) e in
    error_later n x xs k k (ap (λ (es : List NodeId). slice_index_or es k (record { 0 = 0 })) s) (f (subst (λ (es : List NodeId). k < length es) s lt))

error_there : (n : ℕ) (nodes : List Node) (k : ℕ) → k < length (errors_from n nodes) → IsErrorAt n nodes k
error_there n [] k lt = absurd (omega (arith, lt))
error_there n (Plain ∷ xs) k lt = rest_of Plain n xs k refl lt (λ less. error_there (n + 1) xs k less)
error_there n (End ∷ xs) k lt = rest_of End n xs k refl lt (λ less. error_there (n + 1) xs k less)
error_there n (Call f w ∷ xs) k lt = rest_of (Call f w) n xs k refl lt (λ less. error_there (n + 1) xs k less)
error_there n (Error kind at ∷ xs) zero lt =
    let z : n ≡ n + 0 = omega arith in
    record { node = 0; kind = kind; offset = at; at = ap (λ (i : ℕ). record { 0 = i }) z; there = refl }
error_there n (Error kind at ∷ xs) (suc k) lt = error_later n (Error kind at) xs k (suc k) refl (error_there (n + 1) xs k (omega (arith, lt)))

edge_there : (xs : List Edge) (k : ℕ) → k < length xs → (e : Edge) × (slice_get xs k ≡ Some e)
edge_there [] k lt = absurd (omega (arith, lt))
edge_there (x ∷ xs) zero lt = (x, refl)
edge_there (x ∷ xs) (suc k) lt = edge_there xs k (omega (arith, lt))

question_refuted : (g : Flow) (m : Formulas) → IsFlow g → IsTable m.terms → IsInductive g m → (k : ℕ) → k < length g.edges + length (errors_from 0 g.nodes)
    → (b : Bool) → b ≡ nat_lt k (length g.edges)
    → AreRefuted (question_says g m (if b then EdgeOf (record { 0 = k }) else ErrorOf (error_at g.nodes (k - length g.edges))))
question_refuted g m flow table i k lt true q =
    let e = edge_there g.edges k (ltb-true k (length g.edges) (sym q)) in
    (edge_exact g m k e.0 flow table i.map e.1).1 (λ store draws after whole met leads. i.edges k e.0 store draws after e.1 whole met leads)
question_refuted g m flow table i k lt false q =
    let not : k < length g.edges → ⊥ = λ less. false≢true (q ∙ lt-ltb k (length g.edges) less) in
    let r = error_there 0 g.nodes (k - length g.edges) (omega (arith, lt, not)) in
    let z : 0 + r.node ≡ r.node = omega arith in
    let v : NodeId = record { 0 = r.node } in
    let at : error_at g.nodes (k - length g.edges) ≡ v = r.at ∙ ap (λ (n : ℕ). record { 0 = n }) z in
    subst (λ (w : NodeId). AreRefuted (node_says true m w)) (sym at)
    ((error_exact g m v table i.map (got_there g.nodes r.node (Error r.kind r.offset) r.there)).1 (λ store whole met. i.errors v r.kind r.offset store r.there whole met))

all_refuted : (g : Flow) (m : Formulas) → IsFlow g → IsTable m.terms → IsInductive g m → AllRefuted g m
all_refuted g m flow table i zero lt = (entry_exact g m flow table i.map).1 i.entry
all_refuted g m flow table i (suc k) lt = question_refuted g m flow table i k (omega (arith, lt)) (nat_lt k (length g.edges)) refl

pub inductive_exact : InductiveExact
inductive_exact g m flow table is = ((λ all. refuted_means_inductive g m flow table is all), (λ i. all_refuted g m flow table i))
