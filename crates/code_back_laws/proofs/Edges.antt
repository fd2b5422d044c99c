-- The edges that lead from a node of a graph that follows its code leave no choice.
use Rattle.std.proofs.Common.{◌≡◌, ◌⊎◌, inl, inr, ℕ, zero, suc, ◌+◌, ◌<◌, ◌≤◌, ◌==◌, Bool, true, false, if◌then◌else◌, List, [], ◌∷◌, ◌++◌, length, refl, sym, ap, ◌∙◌, subst, arith, None, Some, slice_get, ℤ}
use Rattle.std.proofs.lemmas.Bool.{eqb-true}
use Rattle.std.proofs.lemmas.List.{length-append}
use Rattle.std.proofs.lemmas.Option.{same_Some, none-some}
use Rattle.bv_term.specs.declared.term.TermId.{TermId}
use Rattle.bv_term.specs.WellFormed.{Table}
use Rattle.bv_term.specs.Values.{value}
use Rattle.bv_term.specs.Numbers.{complement_in}
use Rattle.c_graph.specs.declared.graph.NodeId.{NodeId}
use Rattle.c_graph.specs.declared.graph.Node.{Node}
use Rattle.c_graph.specs.declared.graph.Edge.{Edge}
use Rattle.c_graph.specs.declared.graph.Operation.{Operation}
use Rattle.c_graph.specs.declared.graph.Operation.TheVariants.{Assume}
use Rattle.c_graph.specs.Steps.{moment, operated_all, Leads}
use Rattle.c_graph.specs.Functions.{FnFlow}
use Rattle.slot_code.specs.declared.flat.Instruction.{Instruction}
use Rattle.slot_code.specs.declared.flat.Instruction.TheVariants as i
use Rattle.c_terms.specs.declared.failing.Tests.{Tests}
use Rattle.c_terms.specs.declared.failing.Tests.TheVariants as t
use Rattle.code_moves.specs.Setting.{Setting}
use Rattle.code_flow_laws.proofs.Ranging.{Range}
use Rattle.cfg_build.specs.Steps.{node_id, edge, Way, Fork, Passes, Checked, checked_nodes, checked_edges, offset_of}
use Rattle.cfg_build.specs.Follows.{Plan, Follows, Joined, StandsAt, FirstFollow, PlacesFollow, Exit}
use Rattle.cfg_build.specs.Graphs.{Opening, GraphFollows, FirstGraphs}

-- ---- Lists of edges

-- an edge is among these
abbrev pub Is : Edge → List Edge → Type 0
Is e [] = ⊥
Is e (x ∷ xs) = (x ≡ e) ⊎ Is e xs

pub is-listed : (xs : List Edge) (k : ℕ) (e : Edge) → slice_get xs k ≡ Some e → Is e xs
is-listed [] k e h = absurd (none-some e h)
is-listed (x ∷ xs) zero e h = inl (same_Some x e h)
is-listed (x ∷ xs) (suc k) e h = inr (is-listed xs k e h)

is-either : (xs ys : List Edge) (e : Edge) → Is e (xs ++ ys) → Is e xs ⊎ Is e ys
is-either [] ys e h = inr h
is-either (x ∷ xs) ys e (inl p) = inl (inl p)
is-either (x ∷ xs) ys e (inr h) = elim (is-either xs ys e h) [ inl a ↦ inl (inr a) | inr b ↦ inr b ]

pub get-either : {A : Type 0} (xs ys : List A) (k : ℕ) (x : A) → slice_get (xs ++ ys) k ≡ Some x → (slice_get xs k ≡ Some x) ⊎ ((j : ℕ) × (slice_get ys j ≡ Some x))
get-either [] ys k x e = inr (k, e)
get-either (z ∷ xs) ys zero x e = inl e
get-either (z ∷ xs) ys (suc k) x e = get-either xs ys k x e

-- two edges that lead on from one store at one node are the same
abbrev pub NoChoice : Table → List Edge → Type 0
NoChoice table edges =
    (d e : Edge) (store x y : List ℕ) (a b : List ℤ) → Is d edges → Is e edges → d.from.0 ≡ e.from.0 → Leads table d store a x → Leads table e store b y → d ≡ e

-- edges that lead from so many nodes, from a number on, and leave no choice there
pub record Clear (table : Table) (n k : ℕ) (edges : List Edge) : Type 0 where
  pub from : (e : Edge) → Is e edges → (n ≤ e.from.0) × (e.from.0 < n + k)
  pub alone : NoChoice table edges

module _ (table : Table) (n : ℕ) where
  clear-none : (k : ℕ) → Clear table n k []
  clear-none k = record { from = λ e h. absurd h; alone = λ d e store x y a b h i s l m. absurd h }

  clear-one : (x : Edge) (k : ℕ) → x.from.0 ≡ n → Clear table n (suc k) (x ∷ [])
  clear-one x k at = record { from = from; alone = alone }
    where
      from : (e : Edge) → Is e (x ∷ []) → (n ≤ e.from.0) × (e.from.0 < n + suc k)
      from e (inl p) = let q : e.from.0 ≡ n = ap (λ (z : Edge). z.from.0) (sym p) ∙ at in (omega (arith, q), omega (arith, q))
      from e (inr h) = absurd h

      alone : NoChoice table (x ∷ [])
      alone d e store u v a b (inl p) (inl q) same l m = sym p ∙ q
      alone d e store u v a b (inl p) (inr h) same l m = absurd h
      alone d e store u v a b (inr h) q same l m = absurd h

  -- no store lets both edges lead on
  abbrev Apart : Edge → Edge → Type 0
  Apart x y = (store u v : List ℕ) (a b : List ℤ) → Leads table x store a u → Leads table y store b v → ⊥

  clear-two : (x y : Edge) (k : ℕ) → x.from.0 ≡ n → y.from.0 ≡ n → Apart x y → Clear table n (suc k) (x ∷ y ∷ [])
  clear-two x y k first second apart = record { from = from; alone = alone }
    where
      from : (e : Edge) → Is e (x ∷ y ∷ []) → (n ≤ e.from.0) × (e.from.0 < n + suc k)
      from e (inl p) = let q : e.from.0 ≡ n = ap (λ (z : Edge). z.from.0) (sym p) ∙ first in (omega (arith, q), omega (arith, q))
      from e (inr (inl p)) = let q : e.from.0 ≡ n = ap (λ (z : Edge). z.from.0) (sym p) ∙ second in (omega (arith, q), omega (arith, q))
      from e (inr (inr h)) = absurd h

      never : (d e : Edge) (store u v : List ℕ) (a b : List ℤ) → x ≡ d → y ≡ e → Leads table d store a u → Leads table e store b v → ⊥
      never d e store u v a b p q l m =
          apart store u v a b (subst (λ (z : Edge). Leads table z store a u) (sym p) l) (subst (λ (z : Edge). Leads table z store b v) (sym q) m)

      alone : NoChoice table (x ∷ y ∷ [])
      alone d e store u v a b (inl p) (inl q) same l m = sym p ∙ q
      alone d e store u v a b (inl p) (inr (inl q)) same l m = absurd (never d e store u v a b p q l m)
      alone d e store u v a b (inl p) (inr (inr h)) same l m = absurd h
      alone d e store u v a b (inr (inl p)) (inl q) same l m = absurd (never e d store v u b a q p m l)
      alone d e store u v a b (inr (inl p)) (inr (inl q)) same l m = sym p ∙ q
      alone d e store u v a b (inr (inl p)) (inr (inr h)) same l m = absurd h
      alone d e store u v a b (inr (inr h)) q same l m = absurd h

  clear-both : (k j : ℕ) (xs ys : List Edge) → Clear table n k xs → Clear table (n + k) j ys → Clear table n (k + j) (xs ++ ys)
  clear-both k j xs ys f g = record { from = λ e h. from e (is-either xs ys e h); alone = λ d e store u v a b h q same l m. alone d e store u v a b (is-either xs ys d h) (is-either xs ys e q) same l m }
    where
      from : (e : Edge) → Is e xs ⊎ Is e ys → (n ≤ e.from.0) × (e.from.0 < n + (k + j))
      from e (inl h) = let r = f.from e h in (r.0, omega (arith, r.1))
      from e (inr h) = let r = g.from e h in (omega (arith, r.0), omega (arith, r.1))

      alone : (d e : Edge) (store u v : List ℕ) (a b : List ℤ) → Is d xs ⊎ Is d ys → Is e xs ⊎ Is e ys → d.from.0 ≡ e.from.0 → Leads table d store a u → Leads table e store b v → d ≡ e
      alone d e store u v a b (inl h) (inl q) same l m = f.alone d e store u v a b h q same l m
      alone d e store u v a b (inl h) (inr q) same l m = absurd (omega (arith, (f.from d h).1, (g.from e q).0, same))
      alone d e store u v a b (inr h) (inl q) same l m = absurd (omega (arith, (g.from d h).0, (f.from e q).1, same))
      alone d e store u v a b (inr h) (inr q) same l m = g.alone d e store u v a b h q same l m

  formed : (nodes ms : List Node) (edges es : List Edge) → nodes ≡ ms → edges ≡ es → Clear table n (length ms) es → Clear table n (length nodes) edges
  formed nodes ms edges es p q h =
      subst (λ (zs : List Edge). Clear table n (length nodes) zs) (sym q) (subst (λ (zs : List Node). Clear table n (length zs) es) (sym p) h)

-- ---- Assumed terms

none-stays : (table : Table) (ops : List Operation) → operated_all table ops None ≡ None
none-stays table [] = refl
none-stays table (op ∷ ops) = refl

assumed-one : (table : Table) (term : TermId) (ops : List Operation) (store : List ℕ) (draws : List ℤ) (after : List ℕ) → operated_all table (Assume term ∷ ops) (Some (moment store draws)) ≡ Some (moment after [])
    → value table store term ≡ 1
assumed-one table term ops store draws after h = by (value table store term == 1) refl
  where
    by : (b : Bool) → (value table store term == 1) ≡ b → value table store term ≡ 1
    by true e = eqb-true (value table store term) 1 e
    by false e =
        absurd (none-some (moment after []) (sym (none-stays table ops) ∙ ap (λ (b : Bool). operated_all table ops (if b then Some (moment store draws) else None)) (sym e) ∙ h))

never-both : (a b : ℕ) → b ≡ complement_in 1 a → a ≡ 1 → b ≡ 1 → ⊥
never-both a b c p q = let z : 1 ≡ complement_in 1 1 = sym q ∙ c ∙ ap (complement_in 1) p in cc

-- one edge assumes a term, the other one its complement
turned-apart : (table : Table) (n : ℕ) (v to other : NodeId) (test turned : TermId) (ops more : List Operation) → ((store : List ℕ) → value table store turned ≡ complement_in 1 (value table store test))
    → Apart table n (edge v to (Assume test ∷ ops)) (edge v other (Assume turned ∷ more))
turned-apart table n v to other test turned ops more c store x y a b l m =
    never-both (value table store test) (value table store turned) (c store) (assumed-one table test ops store a x l) (assumed-one table turned more store b y m)

-- ---- What stands for an instruction

module _ (table : Table) where
  clear-way : (to : NodeId) (n : ℕ) (nodes : List Node) (edges : List Edge) → Way to n nodes edges → Clear table n (length nodes) edges
  clear-way to n nodes edges (ns, es) = formed table n nodes _ edges _ ns es (clear-one table n (edge (node_id n) to []) 0 refl)

  clear-fork : (f : List ℕ → ℕ) (to other : NodeId) (n : ℕ) (nodes : List Node) (edges : List Edge) → Fork table f to other n nodes edges → Clear table n (length nodes) edges
  clear-fork f to other n nodes edges k =
      formed table n nodes _ edges _ k.nodes_are k.edges_are
      (clear-two table n (edge (node_id n) to (Assume k.test ∷ [])) (edge (node_id n) other (Assume k.turned ∷ [])) 0 refl refl
      (turned-apart table n (node_id n) to other k.test k.turned [] [] (λ store. (k.turns store).told ∙ ap (complement_in 1) (sym (k.tells store).told))))

  clear-last : (n : ℕ) (nodes : List Node) (edges : List Edge) → edges ≡ [] → Clear table n (length nodes) edges
  clear-last n nodes edges e = formed table n nodes nodes edges [] refl e (clear-none table n (length nodes))

  clear-tests : (n at : ℕ) (next : NodeId) (tests : Tests) (passed last : TermId) (ops : List Operation) → Passes table tests passed last
      → Clear table n (length (checked_nodes at tests)) (checked_edges n next tests passed last ops)
  clear-tests n at next t.None passed last ops p = clear-one table n (edge (node_id n) next ops) 0 refl
  clear-tests n at next (t.One f) passed last ops p =
      clear-two table n (edge (node_id n) (node_id (n + 1)) (Assume f.when ∷ [])) (edge (node_id n) next (Assume passed ∷ ops)) 1 refl refl
      (turned-apart table n (node_id n) (node_id (n + 1)) next f.when passed [] ops (λ store. (p store).told))
  clear-tests n at next (t.Two f k) passed last ops p =
      clear-both table n 2 2 (edge (node_id n) (node_id (n + 1)) (Assume f.when ∷ []) ∷ edge (node_id n) (node_id (n + 2)) (Assume passed ∷ []) ∷ [])
      (edge (node_id (n + 2)) (node_id (n + 3)) (Assume k.when ∷ []) ∷ edge (node_id (n + 2)) next (Assume last ∷ ops) ∷ [])
      (clear-two table n (edge (node_id n) (node_id (n + 1)) (Assume f.when ∷ [])) (edge (node_id n) (node_id (n + 2)) (Assume passed ∷ [])) 1 refl refl
      (turned-apart table n (node_id n) (node_id (n + 1)) (node_id (n + 2)) f.when passed [] [] (λ store. (p.0 store).told)))
      (clear-two table (n + 2) (edge (node_id (n + 2)) (node_id (n + 3)) (Assume k.when ∷ [])) (edge (node_id (n + 2)) next (Assume last ∷ ops)) 1 refl refl
      (turned-apart table (n + 2) (node_id (n + 2)) (node_id (n + 3)) next k.when last [] ops (λ store. (p.1 store).told)))

  clear-checked : (g : Setting) (x : Instruction) (next : NodeId) (n : ℕ) (nodes : List Node) (edges : List Edge) → Checked g table x next n nodes edges → Clear table n (length nodes) edges
  clear-checked g x next n nodes edges c =
      let b = c.behind in
      formed table n nodes (checked_nodes (offset_of x) c.tests) edges (checked_edges n next c.tests b.passed b.last b.ops) b.nodes_are b.edges_are (clear-tests n (offset_of x) next c.tests b.passed b.last b.ops b.passes)

  clear-follows : (p : Plan) (g : Setting) (place : ℕ) (x : Instruction) (n : ℕ) (nodes : List Node) (edges : List Edge) → Follows p g table place x n nodes edges → Clear table n (length nodes) edges
  clear-follows p g place (i.Fail kind at) n nodes edges h = clear-last n nodes edges h.1
  clear-follows p g place i.Stop n nodes edges h = clear-last n nodes edges h.1
  clear-follows p g place (i.Call at goal slot) n nodes edges h = clear-last n nodes edges h.edges_are
  clear-follows p g place (i.Return slot) n nodes edges h = clear-way _ n nodes edges h
  clear-follows p g place (i.Jump skip) n nodes edges h = clear-way _ n nodes edges h
  clear-follows p g place (i.Turn at goal) n nodes edges h = clear-way _ n nodes edges h
  clear-follows p g place (i.SkipZero slot skip) n nodes edges h = clear-fork _ _ _ n nodes edges h
  clear-follows p g place (i.SkipEqual slot v skip) n nodes edges h = clear-fork _ _ _ n nodes edges h
  clear-follows p g place x n nodes edges h = clear-checked g _ _ n nodes edges h

  -- ---- What stands for a function

  clear-joined : (First Second : ℕ → List Node → List Edge → Type 0) (n : ℕ) (nodes : List Node) (edges : List Edge) (h : Joined First Second n nodes edges)
      → Clear table n (length h.nodes_first) h.edges_first → Clear table (n + length h.nodes_first) (length h.nodes_second) h.edges_second → Clear table n (length nodes) edges
  clear-joined First Second n nodes edges h a b =
      let len : length nodes ≡ length h.nodes_first + length h.nodes_second = ap length h.nodes_are ∙ length-append h.nodes_first h.nodes_second in
      subst (λ (k : ℕ). Clear table n k edges) (sym len)
      (subst (λ (es : List Edge). Clear table n (length h.nodes_first + length h.nodes_second) es) (sym h.edges_are) (clear-both table n (length h.nodes_first) (length h.nodes_second) h.edges_first h.edges_second a b))

  module _ (p : Plan) (g : Setting) where
    clear-first : (k n : ℕ) (nodes : List Node) (edges : List Edge) → FirstFollow p g table k n nodes edges → Clear table n (length nodes) edges
    clear-first zero n nodes edges h = clear-last n nodes edges h.1
    clear-first (suc k) n nodes edges h =
        clear-joined (FirstFollow p g table k) (StandsAt p g table (p.range.entry + k)) n nodes edges h (clear-first k n h.nodes_first h.edges_first h.first)
        (clear-follows p g (p.range.entry + k) h.second.instruction (n + length h.nodes_first) h.nodes_second h.edges_second h.second.follows)

    clear-places : (n : ℕ) (nodes : List Node) (edges : List Edge) → PlacesFollow p g table n nodes edges → Clear table n (length nodes) edges
    clear-places n nodes edges h =
        clear-joined (FirstFollow p g table _) (Exit p) n nodes edges h (clear-first _ n h.nodes_first h.edges_first h.first) (clear-last (n + length h.nodes_first) h.nodes_second h.edges_second h.second.2)

    clear-graph : (b : Bool) (f : FnFlow) → GraphFollows b p g table f → NoChoice table f.edges
    clear-graph true f h =
        (clear-joined (Opening g table) (PlacesFollow p g table) 0 f.nodes f.edges h.1
        (formed table 0 h.1.nodes_first _ h.1.edges_first _ h.1.first.nodes_are h.1.first.edges_are (clear-one table 0 (edge (node_id 0) (node_id 1) h.1.first.ops) 0 refl))
        (clear-places (0 + length h.1.nodes_first) h.1.nodes_second h.1.edges_second h.1.second)).alone
    clear-graph false f h = (clear-places 0 f.nodes f.edges h.1).alone

-- the edges of each function's graph leave no choice
pub graphs-alone : (code : List Instruction) (numbers : List ℕ) (ranges : List Range) (main : ℕ) (g : Setting) (table : Table) (n : ℕ) (graphs : List FnFlow) (exits : List NodeId)
    → FirstGraphs code numbers ranges main g table n graphs exits → (k : ℕ) (f : FnFlow) → slice_get graphs k ≡ Some f → NoChoice table f.edges
graphs-alone code numbers ranges main g table zero graphs exits h k f e = absurd (none-some f (ap (λ (fs : List FnFlow). slice_get fs k) (sym h.0) ∙ e))
graphs-alone code numbers ranges main g table (suc n) graphs exits h k f e =
    by (λ before. graphs-alone code numbers ranges main g table n h.graphs_before h.exits_before h.before k f before) (get-either h.graphs_before (h.graph ∷ []) k f (ap (λ (fs : List FnFlow). slice_get fs k) (sym h.graphs_are) ∙ e))
  where
    last : (j : ℕ) → slice_get (h.graph ∷ []) j ≡ Some f → NoChoice table f.edges
    last zero is = subst (λ (z : FnFlow). NoChoice table z.edges) (same_Some h.graph f is) (clear-graph table _ g _ h.graph h.follows)
    last (suc j) is = absurd (none-some f is)

    by : (slice_get h.graphs_before k ≡ Some f → NoChoice table f.edges) → (slice_get h.graphs_before k ≡ Some f) ⊎ ((j : ℕ) × (slice_get (h.graph ∷ []) j ≡ Some f)) → NoChoice table f.edges
    by earlier (inl before) = earlier before
    by earlier (inr (j, is)) = last j is
