-- Where the run ahead goes on from an instruction that draws, the machine draws too.
use Rattle.std.proofs.Common.{◌≡◌, ℕ, zero, suc, ◌+◌, ◌<◌, min, nat_lt, refl, sym, ap, ◌∙◌, subst, arith, List, [], ◌∷◌, ◌++◌, length, replicate, drop, Option, None, Some, slice_get, slice_index, ℤ, pos}
use Rattle.std.proofs.lemmas.List.{append-nil, append_assoc, length-append}
use Rattle.std.proofs.lemmas.Option.{same_Some}
use Rattle.lv_base.specs.declared.fault.ErrorKind.{ErrorKind}
use Rattle.lv_base.specs.declared.kind.Kind.{Kind}
use Rattle.lv_base.specs.declared.kind.Model.{Model}
use Rattle.lv_base.specs.Integers.{width_of, is_signed}
use Rattle.c_run.specs.Run.{Got, after, store_all}
use Rattle.c_typed.specs.declared.tree.Object.{Object}
use Rattle.c_typed.specs.Run.{size_of, kind_of}
use Rattle.c_graph.specs.declared.graph.NodeId.{NodeId}
use Rattle.c_graph.specs.declared.graph.Node.{Node}
use Rattle.c_graph.specs.declared.graph.Node.TheVariants.{Plain, Call, End}
use Rattle.c_graph.specs.declared.graph.Edge.{Edge}
use Rattle.c_graph.specs.declared.graph.Operation.{Operation}
use Rattle.c_graph.specs.Shape.{widths_of}
use Rattle.c_graph.specs.Steps.{moment, operated_all, Leads}
use Rattle.c_graph.specs.Functions.{FnFlow, Flows, AreFlows}
use Rattle.c_terms.specs.declared.failing.Tests.{Tests}
use Rattle.c_terms.specs.declared.failing.Tests.TheVariants as t
use Rattle.c_terms.specs.Shown.{AreFails}
use Rattle.slot_code.specs.declared.flat.Instruction.{Instruction}
use Rattle.slot_code.specs.declared.flat.Instruction.TheVariants as i
use Rattle.slot_code.specs.Machine.{Machine, Next, Goes, act_with}
use Rattle.slot_code.specs.Machine as flat
use Rattle.code_layout.specs.Layout.{elements_of, drawn_cell}
use Rattle.code_moves.specs.Setting.{Setting, room_of}
use Rattle.code_moves.specs.Values.{failures_of}
use Rattle.code_moves.specs.Deeds.{Draws, AreDeeds}
use Rattle.code_moves.specs.Moves.{moves_of, draws_in, draws_first, draws_to}
use Rattle.code_move_laws.specs.Doing.{Reaches}
use Rattle.code_move_laws.specs.Mirrors.{IsLaid}
use Rattle.code_move_laws.specs.Steps.{IsPlain, Agrees, acted}
use Rattle.code_move_laws.specs.Ways.{objects_of}
use Rattle.code_move_laws.proofs.Elements.{begins, room-is, told-size, told-none, told-kind}
use Rattle.code_move_laws.proofs.Operating.{deeds-are-done}
use Rattle.code_move_laws.proofs.Stores.{element-wide}
use Rattle.code_move_laws.proofs.Whole.{steps}
use Rattle.cfg_build.specs.Steps.{node_id, edge, Checked, checked_nodes, checked_edges, offset_of}
use Rattle.cfg_build.specs.Follows.{node_of}
use Rattle.code_start_laws.proofs.Zeros.{zero-range}
use Rattle.function_runs.specs.Runs.{Along, Into, Back, Move, Spot, node_at, MovesBy}
use Rattle.code_flow_laws.proofs.Ranging.{Range}
use Rattle.code_flow_laws.proofs.Filling.{checked}
use Rattle.code_flow_laws.proofs.Stepping.{Known, Stands, the_plan, place, follows, at_place, node_here}
use Rattle.code_back_laws.proofs.Edges.{is-listed}
use Rattle.code_back_laws.proofs.Determined.{into-node, back-node, differ}
use Rattle.code_back_laws.proofs.Inputs.{FirstIn, FirstDraw, draw-more, first-drawn, draw-value, draw-values}
use Rattle.code_back_laws.proofs.Meeting.{Ahead, first-move, alone}

-- ---- Zeros

zeros-in : (k : Kind) (model : Model) (n : ℕ) → FirstIn k model n (replicate n (pos 0))
zeros-in k model zero = tt
zeros-in k model (suc n) = (zero-range k model, zeros-in k model n)

-- as many zeros as were drawn, and others behind them
drop-zeros : (t : ℕ) (zs : List ℤ) → drop t (replicate t (pos 0) ++ zs) ≡ zs
drop-zeros zero zs = refl
drop-zeros (suc t) zs = drop-zeros t zs

-- ---- Deeds that draw

length-draws : (r : _) (k : Kind) (n : ℕ) → length (draws_first r k n) ≡ n
length-draws r k zero = refl
length-draws r k (suc n) = let e = length-append (draws_first r k n) (Draws (r.first + n) (is_signed k) ∷ []) in let h = length-draws r k n in omega (arith, e, h)

draws-are : (cells : List ℕ) (r : _) (k : Kind) (model : Model) (n : ℕ) → ((j : ℕ) → length (draws_first r k j) ≡ j) → ((j : ℕ) → j < n → slice_index cells (r.first + j) ≡ width_of k model) → FirstDraw k model cells n (draws_first r k n)
draws-are cells r k model zero counts wide = tt
draws-are cells r k model (suc n) counts wide = draw-more k model cells n (draws_first r k n) (r.first + n) (counts n) (wide n (omega arith)) (draws-are cells r k model n counts (λ j lt. wide j (omega (arith, lt))))

module _ (g : Setting) (laid : IsLaid g) (object count : ℕ) (k : Kind) (size : count ≡ size_of (slice_get (objects_of g) object)) (kind : k ≡ kind_of (slice_get (objects_of g) object)) where
  abbrev Drawing : Type 0
  Drawing = FirstDraw k g.model (widths_of g.lay.cells) count (draws_in (room_of g object) k count)

  by-object : (o : Option Object) → slice_get g.objects object ≡ o → Drawing
  by-object None e =
      let none : count ≡ 0 = size ∙ told-none g object e in
      subst (λ (n : ℕ). FirstDraw k g.model (widths_of g.lay.cells) n (draws_in (room_of g object) k count)) (sym none) tt
  by-object (Some o) e =
      let b = begins g object o laid e in
      let is : o.kind ≡ k = sym (kind ∙ told-kind g object o e) in
      let all : count ≡ elements_of o = size ∙ told-size g object o e in
      let most : count ≡ min count (elements_of o) = omega (arith, all) in
      subst (λ r. FirstDraw k g.model (widths_of g.lay.cells) count (draws_in r k count)) (sym (room-is g object b.0 o e b.1))
      (subst (λ (n : ℕ). FirstDraw k g.model (widths_of g.lay.cells) count (draws_first (record { first = b.0; length = elements_of o; kind = o.kind; is_array = nat_lt 0 o.length }) k n)) most
      (draws-are (widths_of g.lay.cells) (record { first = b.0; length = elements_of o; kind = o.kind; is_array = nat_lt 0 o.length }) k g.model count
      (length-draws (record { first = b.0; length = elements_of o; kind = o.kind; is_array = nat_lt 0 o.length }) k)
      (λ j lt. element-wide g laid object b.0 j o e b.1 (omega (arith, lt, all)) ∙ ap (λ (z : Kind). width_of z g.model) is)))

  pub fill-draws : Drawing
  fill-draws = by-object (slice_get g.objects object) refl

-- ---- At an instruction without checks

module _ (code : List Instruction) (numbers : List ℕ) (ranges : List Range) (g : Setting) (p : Flows) (known : Known code numbers ranges g p) (flows : AreFlows p) (inputs : List ℤ) (m : Machine) (s : Spot)
    (h : Stands code numbers ranges g p known inputs m s) (x : Instruction) (here : slice_get code m.place ≡ Some x) (plain : IsPlain x) where
  abbrev at_n : ℕ
  at_n = (place code numbers ranges g p known inputs m s h x here).n

  abbrev nodes : List Node
  nodes = (place code numbers ranges g p known inputs m s h x here).nodes

  abbrev edges : List Edge
  edges = (place code numbers ranges g p known inputs m s h x here).edges

  abbrev next : NodeId
  next = node_of (the_plan code numbers ranges g p known inputs m s h x here) (m.place + 1)

  checks : Checked g p.terms x next at_n nodes edges
  checks = checked (the_plan code numbers ranges g p known inputs m s h x here) g p.terms m.place at_n nodes edges x plain (follows code numbers ranges g p known inputs m s h x here)

  -- the one edge, and what it does
  pub record Single : Type 0 where
    pub ops : List Operation
    pub does : AreDeeds p.terms ops (moves_of g x)
    pub nodes_are : nodes ≡ Plain ∷ []
    pub edges_are : edges ≡ edge (node_id at_n) next ops ∷ []

  no-tests : (tests : Tests) → AreFails p.terms s.store tests [] → tests ≡ t.None
  no-tests t.None f = refl
  no-tests (t.One f) q = absurd q
  no-tests (t.Two f k) q = absurd q

  single : failures_of g s.store x ≡ [] → Single
  single none =
      let c = checks in
      let b = c.behind in
      let e : c.tests ≡ t.None = no-tests c.tests (subst (λ fs. AreFails p.terms s.store c.tests fs) none (c.fails s.store)) in
      record {
        ops = b.ops;
        does = b.does;
        nodes_are = b.nodes_are ∙ ap (checked_nodes (offset_of x)) e;
        edges_are = b.edges_are ∙ ap (λ (z : Tests). checked_edges at_n next z b.passed b.last b.ops) e;
      }

  module _ (none : failures_of g s.store x ≡ []) where
    abbrev one : Single
    one = single none

    abbrev lone : Edge
    lone = edge (node_id at_n) next one.ops

    plain-here : node_at p s ≡ Some Plain
    plain-here = node_here code numbers ranges g p known inputs m s h x here Plain one.nodes_are

    -- with some inputs the machine goes on, and the edge leads on
    leads-some : (zeros : List ℤ) (o : Machine) → acted g zeros x m ≡ Goes o → (draws : List ℤ) × (after : List ℕ) × Leads p.terms lone s.store draws after
    leads-some zeros o goes =
        let agrees : Agrees g zeros x m s.store (Goes o) =
        subst (Agrees g zeros x m s.store) goes (steps g zeros x m s.store known.laid (known.serves m.place x here) (known.shaped m.place x here) (known.fit m.place x here) plain h.mirrors) in
        let (draws, after, to, met, took, reaches, mirrors) = agrees in (
          draws,
          after,
          deeds-are-done p.terms one.ops (moves_of g x) s.store draws after [] one.does
              (subst (λ (W : List ℕ). Reaches W (moves_of g x) s.store draws after []) (sym known.cells) reaches),
        )

    module _ (b : List ℤ) (kind : ErrorKind) (offset : ℕ) (a : Ahead code numbers ranges g p known flows inputs m s b kind offset) (zeros : List ℤ) (o : Machine) (goes : acted g zeros x m ≡ Goes o) where
      -- what the operations draw
      record Drew (first : List ℤ) : Type 0 where
        pub after : List ℕ
        pub leads : operated_all p.terms one.ops (Some (moment s.store first)) ≡ Some (moment after [])

      along : (e : _) (first : List ℤ) (mid : Spot) → MovesBy p (Along e) s first mid → Drew first
      along e first mid (f, other, graph, own, from, (after, leads, is)) =
          let at = at_place code numbers ranges g p known inputs m s h x here in
          let there = at.inside.edges_there 0 lone (ap (λ (es : List Edge). slice_get es 0) one.edges_are) in
          let some = leads-some zeros o goes in
          let same : at.graph ≡ f = same_Some at.graph f (sym at.is ∙ graph) in
          let listed : slice_get f.edges there.0 ≡ Some lone = subst (λ (z : FnFlow). slice_get z.edges there.0 ≡ Some lone) same there.1 in
          let sources : (lone.from).0 ≡ (other.from).0 = ap (λ (v : NodeId). v.0) (sym at.node ∙ sym from) in
          let it : lone ≡ other =
          alone code numbers ranges g p known flows inputs s.function f graph lone other s.store some.1 after some.0 first (is-listed f.edges there.0 lone listed) (is-listed f.edges e.0 other own) sources some.2 leads in
          record { after = after; leads = subst (λ (z : Edge). Leads p.terms z s.store first after) (sym it) leads }

      by-move : (move : Move) (first : List ℤ) (mid : Spot) → MovesBy p move s first mid → Drew first
      by-move (Along e) first mid by = along e first mid by
      by-move Into first mid by = let c = into-node p flows s mid first by in let q = differ p flows s Plain (Call c.0 c.1) plain-here c.2 in absurd cc
      by-move Back first mid by = let q = differ p flows s Plain End plain-here (back-node p flows s mid first by) in absurd cc

      -- so many inputs of the kind are left
      pub first-in : (n : ℕ) (k : Kind) → FirstDraw k g.model (widths_of g.lay.cells) n (moves_of g x) → (first rest : List ℤ) × FirstIn k g.model n first × (drop (m.st).taken inputs ≡ first ++ rest)
      first-in n k draws =
          let f = first-move code numbers ranges g p known flows inputs m s b kind offset a Plain plain-here (λ e. absurd cc) in
          let d = by-move f.move f.draws f.mid f.by in (
            f.draws,
            f.later ++ a.more,
            first-drawn k g.model p.terms n one.ops (moves_of g x) s.store f.draws d.after one.does (subst (λ (W : List ℕ). FirstDraw k g.model W n (moves_of g x)) (sym known.cells) draws) d.leads,
            a.left ∙ ap (λ (zs : List ℤ). zs ++ a.more) f.parts ∙ append_assoc f.draws f.later a.more,
          )

-- ---- Draws into slots and objects

module _ (code : List Instruction) (numbers : List ℕ) (ranges : List Range) (g : Setting) (p : Flows) (known : Known code numbers ranges g p) (flows : AreFlows p) (inputs : List ℤ) (m : Machine) (s : Spot)
    (h : Stands code numbers ranges g p known inputs m s) (b : List ℤ) (kind : ErrorKind) (offset : ℕ) (a : Ahead code numbers ranges g p known flows inputs m s b kind offset) where
  -- the machine goes on
  abbrev pub GoesOn : Instruction → Type 0
  GoesOn x = (o : Machine) × (acted g inputs x m ≡ Goes o)

  abbrev zeros : ℕ → List ℤ
  zeros n = replicate (m.st).taken (pos 0) ++ replicate n (pos 0)

  pub draw-goes : (slot : ℕ) (k : Kind) → slice_get code m.place ≡ Some (i.Draw slot k) → GoesOn (i.Draw slot k)
  draw-goes slot k here = by-first first.0 first.2 first.3
    where
      serves : (cell : ℕ) × (drawn_cell g.lay (width_of k g.model) ≡ Some cell)
      serves = (known.serves m.place (i.Draw slot k) here).draw

      wide : slice_index (widths_of g.lay.cells) serves.0 ≡ width_of k g.model
      wide = (known.laid.lies.draws (width_of k g.model) serves.0 serves.1).1

      draws : FirstDraw k g.model (widths_of g.lay.cells) 1 (moves_of g (i.Draw slot k))
      draws = subst (λ (o : Option ℕ). FirstDraw k g.model (widths_of g.lay.cells) 1 (draws_to g slot k o)) (sym serves.1) (wide, refl, tt)

      first : (first rest : List ℤ) × FirstIn k g.model 1 first × (drop (m.st).taken inputs ≡ first ++ rest)
      first =
          first-in code numbers ranges g p known flows inputs m s h (i.Draw slot k) here tt refl b kind offset a (zeros 1) _
          (ap (flat.fills m.place m.slots slot) (draw-value k g.model (zeros 1) m.st (pos 0) [] (drop-zeros (m.st).taken (pos 0 ∷ [])) (zero-range k g.model))) 1 k draws

      by-first : (zs : List ℤ) → FirstIn k g.model 1 zs → drop (m.st).taken inputs ≡ zs ++ first.1 → GoesOn (i.Draw slot k)
      by-first [] f e = absurd f
      by-first (z ∷ zs) f e = (_, ap (flat.fills m.place m.slots slot) (draw-value k g.model inputs m.st z (zs ++ first.1) e f.0))

  pub fill-goes : (object count : ℕ) (k : Kind) → slice_get code m.place ≡ Some (i.Fill object k count) → GoesOn (i.Fill object k count)
  fill-goes object count k here =
      let shaped : count ≡ size_of (slice_get (objects_of g) object) = known.shaped m.place (i.Fill object k count) here in
      let fit : k ≡ kind_of (slice_get (objects_of g) object) = known.fit m.place (i.Fill object k count) here in
      let (ws, u, all) = draw-values k g.model count (zeros count) m.st (replicate count (pos 0)) [] (drop-zeros (m.st).taken (replicate count (pos 0)) ∙ sym (append-nil (replicate count (pos 0)))) (zeros-in k g.model count) in
      let (first, rest, ins, left) =
      first-in code numbers ranges g p known flows inputs m s h (i.Fill object k count) here tt refl b kind offset a (zeros count) _
      (ap (λ (got : Got (List ℤ)). flat.goes (suc m.place) m.slots (after got (λ vs. store_all object vs))) all) count k (fill-draws g known.laid object count k shaped fit) in
      let (vs, v, drew) = draw-values k g.model count inputs m.st first rest left ins in
      (_, ap (λ (got : Got (List ℤ)). flat.goes (suc m.place) m.slots (after got (λ vs. store_all object vs))) drew)
