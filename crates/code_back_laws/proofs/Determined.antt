-- Of two moves from one spot that draw from the front of the same values, one is the other. So a run to where nothing leads on goes on
-- behind each of its beginnings.
use Rattle.std.proofs.Common.{◌≡◌, ℕ, zero, suc, ◌+◌, ◌<◌, List, [], ◌∷◌, ◌++◌, length, refl, sym, ap, ◌∙◌, subst, arith, Option, Some, slice_get, ℤ}
use Rattle.std.specs.List.{All}
use Rattle.std.proofs.lemmas.List.{append_assoc, append_cancel_left, append_cancel_right}
use Rattle.std.proofs.lemmas.List.Elements.{All-head, All-tail}
use Rattle.std.proofs.lemmas.Option.{same_Some, none-some, slice_get_within}
use Rattle.lv_base.specs.declared.fault.ErrorKind.{ErrorKind}
use Rattle.c_graph.specs.declared.graph.NodeId.{NodeId}
use Rattle.c_graph.specs.declared.graph.EdgeId.{EdgeId}
use Rattle.c_graph.specs.declared.graph.Node.{Node}
use Rattle.c_graph.specs.declared.graph.Node.TheVariants.{Plain, Error, End, Call}
use Rattle.c_graph.specs.declared.graph.Edge.{Edge}
use Rattle.c_graph.specs.Shape.{EdgeFits}
use Rattle.c_graph.specs.Steps.{Moment, moment, operated_all, Leads}
use Rattle.c_graph.specs.Functions.{FnFlow, Flows, IsFnFlow, AreFlows}
use Rattle.function_runs.specs.Runs.{Along, Into, Back, Move, Return, Spot, return_to, spot, node_in, node_at, MovesBy, RunsBy}
use Rattle.graph_walk_laws.proofs.Consuming.{more_left}
use Rattle.code_back_laws.proofs.Edges.{NoChoice, is-listed}

all-there : {A : Type 0} (P : A → Type 0) (xs : List A) (k : ℕ) (x : A) → All P xs → slice_get xs k ≡ Some x → P x
all-there P [] k x h e = absurd (none-some x e)
all-there P (y ∷ ys) zero x h e = subst P (same_Some y x e) (All-head P y ys h)
all-there P (y ∷ ys) (suc k) x h e = all-there P ys k x (All-tail P y ys h) e

there : {A : Type 0} (xs : List A) (k : ℕ) → k < length xs → (x : A) × (slice_get xs k ≡ Some x)
there [] k lt = absurd (omega (arith, lt))
there (x ∷ xs) zero lt = (x, refl)
there (x ∷ xs) (suc k) lt = there xs k (omega (arith, lt))

-- the same spot, with the same values
abbrev pub Same : Spot → Spot → List ℤ → List ℤ → Type 0
Same u v first second = (u ≡ v) × (first ≡ second)

module _ (p : Flows) (flows : AreFlows p) where
  -- ---- The node at which a move begins

  pub along-node : (e : EdgeId) (s t : Spot) (draws : List ℤ) → MovesBy p (Along e) s draws t → node_at p s ≡ Some Plain
  along-node e s t draws (f, edge, graph, own, from, way) =
      let is = all-there (IsFnFlow (length p.graphs) p.terms) p.graphs s.function f flows.each graph in
      let fits = all-there (EdgeFits f.nodes p.terms) f.edges e.0 edge is.edges own in
      ap (λ (o : Option FnFlow). node_in o s.node) graph ∙ ap (λ (v : NodeId). slice_get f.nodes v.0) (sym from) ∙ fits.from

  pub into-node : (s t : Spot) (draws : List ℤ) → MovesBy p Into s draws t → (callee : ℕ) × (next : NodeId) × (node_at p s ≡ Some (Call callee next))
  into-node s t draws (callee, next, g, at, graph, none, is) = (callee, next, at)

  pub exit-node : (k : ℕ) (v : NodeId) → slice_get p.exits k ≡ Some v → (f : FnFlow) × (slice_get p.graphs k ≡ Some f) × (slice_get f.nodes v.0 ≡ Some End)
  exit-node k v e =
      let f = there p.graphs k (omega (arith, slice_get_within p.exits k v e, flows.exits)) in
      (f.0, f.1, flows.returns k f.0 v f.1 e)

  pub back-node : (s t : Spot) (draws : List ℤ) → MovesBy p Back s draws t → node_at p s ≡ Some End
  back-node s t draws (r, rest, exit, open_calls, none, is) =
      let f = exit-node s.function s.node exit in
      ap (λ (o : Option FnFlow). node_in o s.node) f.1 ∙ f.2

  pub differ : (s : Spot) (x y : Node) → node_at p s ≡ Some x → node_at p s ≡ Some y → x ≡ y
  differ s x y a b = same_Some x y (sym a ∙ b)

  -- nothing leads on from an error node
  pub error-dead : (m : Move) (s t : Spot) (draws : List ℤ) (kind : ErrorKind) (at : ℕ) → node_at p s ≡ Some (Error kind at) → MovesBy p m s draws t → ⊥
  error-dead (Along e) s t draws kind at n move = let q = differ s (Error kind at) Plain n (along-node e s t draws move) in absurd cc
  error-dead Into s t draws kind at n move = let i = into-node s t draws move in let q = differ s (Error kind at) (Call i.0 i.1) n i.2 in absurd cc
  error-dead Back s t draws kind at n move = let q = differ s (Error kind at) End n (back-node s t draws move) in absurd cc

  -- nor from a node that ends a run and is not its function's exit, nor from the exit where no call is open
  pub end-dead : (m : Move) (s t : Spot) (draws : List ℤ) → node_at p s ≡ Some End → ((r : Return) (rest : List Return) → slice_get p.exits s.function ≡ Some s.node → s.returns ≡ r ∷ rest → ⊥) → MovesBy p m s draws t → ⊥
  end-dead (Along e) s t draws n none move = let q = differ s End Plain n (along-node e s t draws move) in absurd cc
  end-dead Into s t draws n none move = let i = into-node s t draws move in let q = differ s End (Call i.0 i.1) n i.2 in absurd cc
  end-dead Back s t draws n not (r, rest, exit, open_calls, none, is) = not r rest exit open_calls

  -- ---- Two moves

  module _ (alone : (k : ℕ) (f : FnFlow) → slice_get p.graphs k ≡ Some f → NoChoice p.terms f.edges) where
    along-along : (d e : EdgeId) (s u v : Spot) (a b l r : List ℤ) → MovesBy p (Along d) s a u → MovesBy p (Along e) s b v → a ++ l ≡ b ++ r → Same u v a b
    along-along d e s u v a b l r (f, x, fg, fx, from, (after, leads, is)) (h, y, hg, hy, from2, (after2, leads2, is2)) same =
        let fh : f ≡ h = same_Some f h (sym fg ∙ hg) in
        let own : slice_get f.edges e.0 ≡ Some y = subst (λ (z : FnFlow). slice_get z.edges e.0 ≡ Some y) (sym fh) hy in
        let xy : x ≡ y =
        alone s.function f fg x y s.store after after2 a b (is-listed f.edges d.0 x fx) (is-listed f.edges e.0 y own) (ap (λ (w : NodeId). w.0) (from ∙ sym from2)) leads leads2 in
        let leads3 : Leads p.terms x s.store b after2 = subst (λ (z : Edge). Leads p.terms z s.store b after2) (sym xy) leads2 in
        let one : operated_all p.terms x.ops (Some (moment s.store (a ++ l))) ≡ Some (moment after l) = more_left p.terms x.ops (moment s.store a) (moment after []) l leads in
        let two : operated_all p.terms x.ops (Some (moment s.store (b ++ r))) ≡ Some (moment after2 r) = more_left p.terms x.ops (moment s.store b) (moment after2 []) r leads3 in
        let other : operated_all p.terms x.ops (Some (moment s.store (a ++ l))) ≡ Some (moment after2 r) = ap (λ (zs : List ℤ). operated_all p.terms x.ops (Some (moment s.store zs))) same ∙ two in
        let both : moment after l ≡ moment after2 r = same_Some (moment after l) (moment after2 r) (sym one ∙ other) in
        let stores : after ≡ after2 = ap (λ (z : Moment). z.store) both in
        let rests : l ≡ r = ap (λ (z : Moment). z.inputs) both in
        let spots : spot s.function x.to s.returns after ≡ spot s.function y.to s.returns after2 =
        ap (λ (z : Edge). spot s.function z.to s.returns after) xy ∙ ap (λ (c : List ℕ). spot s.function y.to s.returns c) stores in
        (is ∙ spots ∙ sym is2, append_cancel_right a b r (ap (λ (zs : List ℤ). a ++ zs) (sym rests) ∙ same))

    into-into : (s u v : Spot) (a b : List ℤ) → MovesBy p Into s a u → MovesBy p Into s b v → Same u v a b
    into-into s u v a b (c, n, f, at, fg, none, is) (d, k, h, at2, hg, none2, is2) =
        let node : Call c n ≡ Call d k = differ s (Call c n) (Call d k) at at2 in
        let cd : c ≡ d = cc in
        let nk : n ≡ k = cc in
        let fh : f ≡ h = same_Some f h (sym fg ∙ ap (slice_get p.graphs) cd ∙ hg) in
        let spots : spot c f.entry (return_to s.function n ∷ s.returns) s.store ≡ spot d h.entry (return_to s.function k ∷ s.returns) s.store =
        ap (λ (z : ℕ). spot z f.entry (return_to s.function n ∷ s.returns) s.store) cd
        ∙ ap (λ (z : FnFlow). spot d z.entry (return_to s.function n ∷ s.returns) s.store) fh
        ∙ ap (λ (z : NodeId). spot d h.entry (return_to s.function z ∷ s.returns) s.store) nk in
        (is ∙ spots ∙ sym is2, none ∙ sym none2)

    back-back : (s u v : Spot) (a b : List ℤ) → MovesBy p Back s a u → MovesBy p Back s b v → Same u v a b
    back-back s u v a b (r, rest, exit, open_calls, none, is) (q, more, exit2, open_calls2, none2, is2) =
        let both : r ∷ rest ≡ q ∷ more = sym open_calls ∙ open_calls2 in
        let rq : r ≡ q = cc in
        let rests : rest ≡ more = cc in
        let spots : spot r.function r.node rest s.store ≡ spot q.function q.node more s.store =
        ap (λ (z : Return). spot z.function z.node rest s.store) rq ∙ ap (λ (zs : List Return). spot q.function q.node zs s.store) rests in
        (is ∙ spots ∙ sym is2, none ∙ sym none2)

    pub determined : (m n : Move) (s u v : Spot) (a b l r : List ℤ) → MovesBy p m s a u → MovesBy p n s b v → a ++ l ≡ b ++ r → Same u v a b
    determined (Along d) (Along e) s u v a b l r x y same = along-along d e s u v a b l r x y same
    determined (Along d) Into s u v a b l r x y same = let i = into-node s v b y in let q = differ s Plain (Call i.0 i.1) (along-node d s u a x) i.2 in absurd cc
    determined (Along d) Back s u v a b l r x y same = let q = differ s Plain End (along-node d s u a x) (back-node s v b y) in absurd cc
    determined Into (Along e) s u v a b l r x y same = let i = into-node s u a x in let q = differ s Plain (Call i.0 i.1) (along-node e s v b y) i.2 in absurd cc
    determined Into Into s u v a b l r x y same = into-into s u v a b x y
    determined Into Back s u v a b l r x y same = let i = into-node s u a x in let q = differ s End (Call i.0 i.1) (back-node s v b y) i.2 in absurd cc
    determined Back (Along e) s u v a b l r x y same = let q = differ s Plain End (along-node e s v b y) (back-node s u a x) in absurd cc
    determined Back Into s u v a b l r x y same = let i = into-node s v b y in let q = differ s End (Call i.0 i.1) (back-node s u a x) i.2 in absurd cc
    determined Back Back s u v a b l r x y same = back-back s u v a b x y

    -- ---- Runs

    -- what is left of a run behind a beginning
    pub record Rest (ms ns : List Move) (t u : Spot) (a b : List ℤ) : Type 0 where
      pub moves : List Move
      pub draws : List ℤ
      pub parts : b ≡ a ++ draws
      pub counts : length ns ≡ length ms + length moves
      pub runs : RunsBy p moves t draws u

    pub goes-on : (ms ns : List Move) (s t u : Spot) (a b l r : List ℤ) → ((m : Move) (c : List ℤ) (v : Spot) → MovesBy p m u c v → ⊥) → RunsBy p ms s a t → RunsBy p ns s b u → a ++ l ≡ b ++ r → Rest ms ns t u a b
    goes-on [] ns s t u a b l r dead (same, none) run e = record {
      moves = ns;
      draws = b;
      parts = ap (λ (zs : List ℤ). zs ++ b) (sym none);
      counts = omega arith;
      runs = subst (λ (z : Spot). RunsBy p ns z b u) same run;
    }
    goes-on (m ∷ ms) [] s t u a b l r dead (mid, x, y, split, move, run) (same, none) e = absurd (dead m x mid (subst (λ (z : Spot). MovesBy p m z x mid) same move))
    goes-on (m ∷ ms) (n ∷ ns) s t u a b l r dead (mid, x, y, split, move, run) (mid2, x2, y2, split2, move2, run2) e =
        let big : x ++ (y ++ l) ≡ x2 ++ (y2 ++ r) =
        sym (append_assoc x y l) ∙ ap (λ (zs : List ℤ). zs ++ l) (sym split) ∙ e ∙ ap (λ (zs : List ℤ). zs ++ r) split2 ∙ append_assoc x2 y2 r in
        let one = determined m n s mid mid2 x x2 (y ++ l) (y2 ++ r) move move2 big in
        let small : y ++ l ≡ y2 ++ r = append_cancel_left x (y ++ l) (y2 ++ r) (big ∙ ap (λ (zs : List ℤ). zs ++ (y2 ++ r)) (sym one.1)) in
        let later = goes-on ms ns mid t u y y2 l r dead run (subst (λ (z : Spot). RunsBy p ns z y2 u) (sym one.0) run2) small in
        record {
          moves = later.moves;
          draws = later.draws;
          parts = split2 ∙ ap (λ (zs : List ℤ). x2 ++ zs) later.parts ∙ sym (append_assoc x2 y later.draws) ∙ ap (λ (zs : List ℤ). (zs ++ y) ++ later.draws) (sym one.1)
              ∙ ap (λ (zs : List ℤ). zs ++ later.draws) (sym split);
          counts = omega (arith, later.counts);
          runs = later.runs;
        }
