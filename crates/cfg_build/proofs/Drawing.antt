-- What is drawn: one equation after another.
use Rattle.std.proofs.Common.{◌≡◌, ℕ, zero, suc, Bool, List, [], ◌∷◌, ◌++◌, length, refl, sym, ap, subst, ◌∙◌, arith, Result, Ok, Err, Option, None, Some, slice_get, get_or, ◌<◌, ◌≤◌, ◌==◌, true, false, Bor}
use Rattle.std.specs.Prelude.{IfOk, IfSome, IsTrue}
use Rattle.std.specs.Slice.{IsItemAt}
use Rattle.std.specs.Option.{option_copied}
use Rattle.std.proofs.lemmas.List.{append-nil}
use Rattle.std.proofs.lemmas.Bool.{eqb-true}
use Rattle.lv_base.specs.declared.fail.Memory.{Memory}
use Rattle.bv_term.specs.declared.term.TermId.{TermId}
use Rattle.c_typed.specs.Tree.{Function}
use Rattle.c_graph.specs.declared.graph.NodeId.{NodeId}
use Rattle.c_graph.specs.declared.graph.Node.{Node}
use Rattle.c_graph.specs.declared.graph.Node.TheVariants.{Plain, Error}
use Rattle.c_graph.specs.declared.graph.Operation.{Operation}
use Rattle.c_graph.specs.declared.graph.Operation.TheVariants.{Assume}
use Rattle.c_graph.specs.declared.graph.Edge.{Edge}
use Rattle.c_graph.specs.declared.graph.LoopAt.{LoopAt}
use Rattle.c_graph.specs.Functions.{FnFlow}
use Rattle.slot_code.specs.declared.flat.Instruction.{Instruction}
use Rattle.c_terms.specs.declared.words.Words.{Words}
use Rattle.c_terms.specs.declared.failing.Fails.{Fails}
use Rattle.c_terms.specs.declared.failing.Tests.{Tests}
use Rattle.c_terms.specs.declared.failing.Tests.TheVariants as tests
use Rattle.c_terms.specs.Made as term
use Rattle.c_terms.proofs.Choosing.{two, three}
use Rattle.code_moves.specs.Setting.{Setting, Site, site_of}
use Rattle.code_moves.specs.Made as move
use Rattle.cfg_build.specs.declared.draft.Draft.{Draft}
use Rattle.cfg_build.specs.Steps.{Adds, IsEmpty, edge, node_id, next_of, offset_of}
use Rattle.cfg_build.specs.Follows.{Plan}
use Rattle.cfg_build.specs.Openings.{add_opening}
use Rattle.cfg_build.specs.Looped.{main_loops, loops_at}
use Rattle.cfg_build.specs.Made as made
use Rattle.cfg_build.specs.Made.{Drawn, drawn, drawn_of, beside, next_node, add_node, add_edge}

-- ---- One node, one edge

pub node-drawn : (w : Words) (a b : Draft) (x : Node) → Adds a b (x ∷ []) [] → drawn_of w b ≡ add_node (drawn_of w a) x
node-drawn w a b x h = two (drawn w) h.nodes_are (h.edges_are ∙ append-nil a.edges.items)

pub edge-drawn : (w : Words) (a b : Draft) (from to : NodeId) (ops : List Operation) → Adds a b [] (edge from to ops ∷ []) → drawn_of w b ≡ add_edge (drawn_of w a) from to ops
edge-drawn w a b from to ops h = two (drawn w) (h.nodes_are ∙ append-nil a.nodes.items) h.edges_are

both-drawn : (w : Words) (a b : Draft) (x : Node) (from to : NodeId) (ops : List Operation) → Adds a b (x ∷ []) (edge from to ops ∷ []) → drawn_of w b ≡ add_edge (add_node (drawn_of w a) x) from to ops
both-drawn w a b x from to ops h = two (drawn w) h.nodes_are h.edges_are

-- ---- One instruction

pub way-drawn : (w : Words) (a b c : Draft) (from to : NodeId) → from ≡ node_id (next_of a) → Adds a b (Plain ∷ []) [] → Adds b c [] (edge from to [] ∷ []) → drawn_of w c ≡ made.add_way (drawn_of w a) to
way-drawn w a b c from to e h k = edge-drawn w b c from to [] k ∙ two (λ (x : Drawn) (n : NodeId). add_edge x n to []) (node-drawn w a b Plain h) e

pub branch-drawn : (w v : Words) (a b c d : Draft) (from to other : NodeId) (test turned : TermId) → from ≡ node_id (next_of a) → Adds a b (Plain ∷ []) [] → Adds b c [] (edge from to (Assume test ∷ []) ∷ [])
    → (v, turned) ≡ term.word_not w test → Adds c d [] (edge from other (Assume turned ∷ []) ∷ []) → drawn_of v d ≡ made.add_branch (drawn_of w a) test to other
branch-drawn w v a b c d from to other test turned e h k m l =
    let first : drawn_of w c ≡ add_edge (add_node (drawn_of w a) Plain) (next_node (drawn_of w a)) to (Assume test ∷ []) =
    edge-drawn w b c from to (Assume test ∷ []) k ∙ two (λ (x : Drawn) (n : NodeId). add_edge x n to (Assume test ∷ [])) (node-drawn w a b Plain h) e in
    edge-drawn v c d from other (Assume turned ∷ []) l
    ∙ three (λ (x : Drawn) (n : NodeId) (p : Words × TermId). add_edge (beside x p.0) n other (Assume p.1 ∷ [])) first e m

pub check-drawn : (w v : Words) (a b : Draft) (from : NodeId) (fails : Fails) (at : ℕ) (turned : TermId) → Adds a b (Error fails.kind at ∷ []) (edge from (node_id (next_of a)) (Assume fails.when ∷ []) ∷ [])
    → (v, turned) ≡ term.word_not w fails.when → (drawn_of v b, turned) ≡ made.add_check (drawn_of w a) from fails at
check-drawn w v a b from fails at turned h m =
    two (λ (x : Drawn) (p : Words × TermId). (beside x p.0, p.1)) (both-drawn w a b (Error fails.kind at) from (node_id (next_of a)) (Assume fails.when ∷ []) h) m

pub last-drawn : (g : Site) (w v : Words) (a b : Draft) (x : Instruction) (from next : NodeId) (first start moves ops : List Operation) → start ≡ [] → (v, moves) ≡ move.moves g w start x → ops ≡ first ++ moves
    → Adds a b [] (edge from next ops ∷ []) → drawn_of v b ≡ made.add_last g (drawn_of w a) x from next first
last-drawn g w v a b x from next first start moves ops e m o h =
    edge-drawn v a b from next ops h
    ∙ ap (λ (os : List Operation). add_edge (drawn_of v a) from next os) o
    ∙ ap (λ (p : Words × List Operation). add_edge (beside (drawn_of w a) p.0) from next (first ++ p.1)) (m ∙ ap (λ (os : List Operation). move.moves g w os x) e)

-- the check behind a node of its own, whose offset is the instruction's
checked-drawn : (w v : Words) (a b c : Draft) (x : Instruction) (from : NodeId) (fails : Fails) (at : ℕ) (passed : TermId) → from ≡ node_id (next_of a) → at ≡ offset_of x → Adds a b (Plain ∷ []) []
    → (drawn_of v c, passed) ≡ made.add_check (drawn_of w b) from fails at → (drawn_of v c, passed) ≡ made.add_check (add_node (drawn_of w a) Plain) (next_node (drawn_of w a)) fails (offset_of x)
checked-drawn w v a b c x from fails at passed e o h m =
    m ∙ three (λ (d : Drawn) (n : NodeId) (z : ℕ). made.add_check d n fails z) (node-drawn w a b Plain h) e o

pub once-drawn : (g : Site) (w v u : Words) (a b c d : Draft) (x : Instruction) (from next : NodeId) (fails : Fails) (at : ℕ) (passed : TermId) (start ops : List Operation)
    → from ≡ node_id (next_of a) → at ≡ offset_of x → start ≡ [] → ops ≡ start ++ Assume passed ∷ [] → Adds a b (Plain ∷ []) []
    → (drawn_of v c, passed) ≡ made.add_check (drawn_of w b) from fails at → drawn_of u d ≡ made.add_last g (drawn_of v c) x from next ops → drawn_of u d ≡ made.checked_once g (drawn_of w a) x next fails
once-drawn g w v u a b c d x from next fails at passed start ops e o s q h m l =
    l ∙ ap (λ (os : List Operation). made.add_last g (drawn_of v c) x from next os) (q ∙ ap (λ (os : List Operation). os ++ Assume passed ∷ []) s)
    ∙ two (λ (p : Drawn × TermId) (n : NodeId). made.add_last g p.0 x n next (Assume p.1 ∷ [])) (checked-drawn w v a b c x from fails at passed e o h m) e

again-drawn : (g : Site) (v y u : Words) (c d e f k : Draft) (x : Instruction) (from between next : NodeId) (fails : Fails) (at : ℕ) (passed last : TermId) (start ops : List Operation)
    → between ≡ node_id (next_of c) → at ≡ offset_of x → start ≡ [] → ops ≡ start ++ Assume last ∷ [] → Adds c d (Plain ∷ []) [] → Adds d e [] (edge from between (Assume passed ∷ []) ∷ [])
    → (drawn_of y f, last) ≡ made.add_check (drawn_of v e) between fails at → drawn_of u k ≡ made.add_last g (drawn_of y f) x between next ops
    → drawn_of u k ≡ made.checked_again g (drawn_of v c, passed) x from next fails
again-drawn g v y u c d e f k x from between next fails at passed last start ops b o s q h i m l =
    let stood : drawn_of v e ≡ add_edge (add_node (drawn_of v c) Plain) from (next_node (drawn_of v c)) (Assume passed ∷ []) =
    edge-drawn v d e from between (Assume passed ∷ []) i ∙ two (λ (z : Drawn) (n : NodeId). add_edge z from n (Assume passed ∷ [])) (node-drawn v c d Plain h) b in
    let checked : (drawn_of y f, last) ≡ made.add_check (add_edge (add_node (drawn_of v c) Plain) from (next_node (drawn_of v c)) (Assume passed ∷ [])) (next_node (drawn_of v c)) fails (offset_of x) =
    m ∙ three (λ (z : Drawn) (n : NodeId) (j : ℕ). made.add_check z n fails j) stood b o in
    l ∙ ap (λ (os : List Operation). made.add_last g (drawn_of y f) x between next os) (q ∙ ap (λ (os : List Operation). os ++ Assume last ∷ []) s)
    ∙ two (λ (p : Drawn × TermId) (n : NodeId). made.add_last g p.0 x n next (Assume p.1 ∷ [])) checked b

pub twice-drawn : (g : Site) (w v y u : Words) (a b c d e f k : Draft) (x : Instruction) (from between next : NodeId) (first second : Fails) (at : ℕ) (passed last : TermId) (start ops : List Operation)
    → from ≡ node_id (next_of a) → between ≡ node_id (next_of c) → at ≡ offset_of x → start ≡ [] → ops ≡ start ++ Assume last ∷ [] → Adds a b (Plain ∷ []) []
    → (drawn_of v c, passed) ≡ made.add_check (drawn_of w b) from first at → Adds c d (Plain ∷ []) [] → Adds d e [] (edge from between (Assume passed ∷ []) ∷ [])
    → (drawn_of y f, last) ≡ made.add_check (drawn_of v e) between second at → drawn_of u k ≡ made.add_last g (drawn_of y f) x between next ops
    → drawn_of u k ≡ made.checked_twice g (drawn_of w a) x next first second
twice-drawn g w v y u a b c d e f k x from between next first second at passed last start ops p q o s r h m i j n l =
    again-drawn g v y u c d e f k x from between next second at passed last start ops q o s r i j n l
    ∙ two (λ (z : Drawn × TermId) (n : NodeId). made.checked_again g z x n next second) (checked-drawn w v a b c x from first at passed p o h m) p

-- no check
pub unchecked-drawn : (g : Site) (v : Words) (a b : Draft) (x : Instruction) (from next : NodeId) (ops : List Operation) → from ≡ node_id (next_of a) → ops ≡ [] → Adds a b (Plain ∷ []) []
    → made.add_last g (drawn_of v b) x from next ops ≡ made.add_tested g (drawn_of v a) x next tests.None
unchecked-drawn g v a b x from next ops e o h = three (λ (d : Drawn) (n : NodeId) (os : List Operation). made.add_last g d x n next os) (node-drawn v a b Plain h) e o

pub tested-drawn : (g : Site) (w v : Words) (a : Draft) (x : Instruction) (next : NodeId) (tests shape : Tests) → tests ≡ shape → (v, tests) ≡ move.checks g w x
    → made.add_tested g (drawn_of v a) x next shape ≡ made.add_moves g (drawn_of w a) x next
tested-drawn g w v a x next tests shape e m =
    ap (λ (z : Tests). made.add_tested g (drawn_of v a) x next z) (sym e) ∙ ap (λ (p : Words × Tests). made.add_tested g (beside (drawn_of w a) p.0) x next p.1) m

-- ---- Places

-- what was drawn where a call holds is this too
pub still : (r : Result Bool Memory) (x p q : Drawn) → IfOk r (λ b. IsTrue b → x ≡ p) → p ≡ q → IfOk r (λ b. IsTrue b → x ≡ q)
still (Ok b) x p q h e = λ t. h t ∙ e
still (Err z) x p q h e = tt

pub ever : (r : Result Bool Memory) (x p : Drawn) → IfOk r (λ b. x ≡ p) → IfOk r (λ b. IsTrue b → x ≡ p)
ever (Ok b) x p h = λ t. h
ever (Err z) x p h = tt

get-there : {X : Type 0} (xs : List X) (i : ℕ) (d : X) → i < length xs → slice_get xs i ≡ Some (get_or xs i d)
get-there [] i d h = absurd (omega (arith, h))
get-there (x ∷ xs) zero d h = refl
get-there (x ∷ xs) (suc i) d h = get-there xs i d (omega (arith, h))

get-past : {X : Type 0} (xs : List X) (i : ℕ) → length xs ≤ i → slice_get xs i ≡ None
get-past [] i h = refl
get-past (x ∷ xs) zero h = absurd (omega (arith, h))
get-past (x ∷ xs) (suc i) h = get-past xs i (omega (arith, h))

-- the copy of an element, if there is one
pub got : {X : Type 0} (xs : List X) (i : ℕ) (r : Option (Bor X)) → IsItemAt xs i r → option_copied r ≡ slice_get xs i
got xs i None h = sym (get-past xs i h.3)
got xs i (Some x) h = ap Some h.1 ∙ sym (get-there xs i x.now h.3.0)

-- ---- Graphs

pub empty-drawn : (w : Words) (a : Draft) → IsEmpty a → drawn_of w a ≡ made.blank w
empty-drawn w a e = two (drawn w) e.0 e.1

pub own-drawn : (w v : Words) (a b : Draft) (p : Plan) (owners : List ℕ) (g : Site) (r : FnFlow) (loops : List LoopAt) → IsEmpty a → drawn_of v b ≡ made.add_places p owners g (drawn_of w a)
    → loops ≡ [] → r ≡ made.flow (drawn_of v b) loops → (v, r) ≡ made.own_graph p owners g w
own-drawn w v a b p owners g r loops e h l k =
    ap (λ (x : FnFlow). (v, x)) (k ∙ ap (made.flow (drawn_of v b)) l)
    ∙ ap (λ (d : Drawn). (d.words, made.flow d [])) (h ∙ ap (made.add_places p owners g) (empty-drawn w a e))

pub main-drawn : (w u v : Words) (a b c : Draft) (p : Plan) (owners : List ℕ) (g : Setting) (functions : List Function) (main : ℕ) (r : FnFlow) (offsets : List ℕ) (loops : List LoopAt) → IsEmpty a
    → ◌≡◌ {A = Words × List Node × List Edge} (u, b.nodes.items, b.edges.items) (add_opening g w a.nodes.items a.edges.items) → drawn_of v c ≡ made.add_places p owners (site_of g) (drawn_of u b)
    → offsets ≡ main_loops functions main → loops ≡ loops_at p offsets → r ≡ made.flow (drawn_of v c) loops → (v, r) ≡ made.main_graph p owners (site_of g) (made.opened g) functions main w
main-drawn w u v a b c p owners g functions main r offsets loops e m h o l k =
    let start : drawn_of u b ≡ made.opened g w = ap (λ (t : Words × List Node × List Edge). drawn t.0 t.1 t.2) (m ∙ two (add_opening g w) e.0 e.1) in
    ap (λ (x : FnFlow). (v, x)) (k ∙ ap (made.flow (drawn_of v c)) (l ∙ ap (loops_at p) o))
    ∙ ap (λ (d : Drawn). (d.words, made.flow d (loops_at p (main_loops functions main)))) (h ∙ ap (made.add_places p owners (site_of g)) start)

-- a graph that was made is this too
pub graph-so : (r : Result (Option FnFlow) Memory) (w : Words) (p q : Words × FnFlow) → IfOk r (λ o. IfSome o (λ x. (w, x) ≡ p)) → p ≡ q → IfOk r (λ o. IfSome o (λ x. (w, x) ≡ q))
graph-so r w p q h e = subst (λ (z : Words × FnFlow). IfOk r (λ o. IfSome o (λ x. (w, x) ≡ z))) e h

unless : (x : Bool) → (x ≡ true → ⊥) → x ≡ false
unless true h = absurd (h refl)
unless false h = refl

pub differ : (a b : ℕ) → (a ≡ b → ⊥) → (a == b) ≡ false
differ a b h = unless (a == b) (λ e. h (eqb-true a b e))
