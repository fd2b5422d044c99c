-- Each instruction of a machine whose spot stands on a run to an error.
use Rattle.std.proofs.Common.{◌≡◌, inl, inr, ℕ, zero, suc, ◌+◌, ◌-◌, ◌<◌, ◌≤◌, ◌==◌, max, Bool, true, false, refl, sym, ap, ◌∙◌, subst, arith, List, [], ◌∷◌, length, drop, Option, None, Some, slice_get, ℤ, pos, unsigned_abs}
use Rattle.std.proofs.lemmas.Bool.{and_parts, eqb-true}
use Rattle.std.proofs.lemmas.Option.{same_Some, slice_get_within}
use Rattle.lv_base.specs.declared.fault.ErrorKind.{ErrorKind}
use Rattle.c_run.specs.Run.{State, turn, choose, is_true}
use Rattle.c_graph.specs.declared.graph.NodeId.{NodeId}
use Rattle.c_graph.specs.declared.graph.EdgeId.{EdgeId}
use Rattle.c_graph.specs.declared.graph.Node.TheVariants.{Plain, End}
use Rattle.c_graph.specs.declared.graph.Edge.{Edge}
use Rattle.c_graph.specs.Functions.{FnFlow, Flows, AreFlows}
use Rattle.slot_code.specs.declared.flat.Instruction.{Instruction}
use Rattle.slot_code.specs.declared.flat.Instruction.TheVariants as i
use Rattle.slot_code.specs.declared.reply.Ending.TheVariants as ending
use Rattle.slot_code.specs.Slots.{get, put}
use Rattle.slot_code.specs.Machine.{Machine, machine, Next, Goes, Over, goes, act_with, act_at_with, rank}
use Rattle.slot_laws.specs.Laws.{Falls}
use Rattle.slot_laws.proofs.Running.{ranks_fall}
use Rattle.code_moves.specs.Setting.{Setting}
use Rattle.cfg_build.specs.Steps.{node_id, edge, Way}
use Rattle.cfg_build.specs.Keeping.{is_inside}
use Rattle.cfg_build.specs.Follows.{Calls, node_of}
use Rattle.function_runs.specs.Runs.{Along, Move, Return, Spot, spot, node_in, MovesBy, RunsBy}
use Rattle.code_move_laws.specs.Steps.{IsPlain}
use Rattle.code_flow_laws.proofs.Ranging.{Range}
use Rattle.code_flow_laws.proofs.Filling.{goes-behind}
use Rattle.code_flow_laws.proofs.Graphs.{function-of, place-of, plan, within}
use Rattle.code_flow_laws.proofs.Open.{Opened}
use Rattle.code_flow_laws.proofs.Moving.{nothing-more}
use Rattle.code_flow_laws.proofs.Stepping.{Known, Stands, Comes, function, the_plan, place, follows, in_range, at_place, node_here, stands-at}
use Rattle.code_flow_laws.proofs.Calling.{calls}
use Rattle.code_flow_laws.proofs.Walking.{step}
use Rattle.code_back_laws.proofs.Determined.{exit-node}
use Rattle.code_back_laws.proofs.Exits.{exit-above}
use Rattle.code_back_laws.proofs.Taming.{Tame, tame, draws}
use Rattle.code_back_laws.proofs.Meeting.{Ahead, Meets, MeetsIn, By, Later, Quiet, first-move, rest-of, stops, on, quietly, compute, way}
use Rattle.code_back_laws.proofs.Drawn.{draw-goes, fill-goes}

module _ (code : List Instruction) (numbers : List ℕ) (ranges : List Range) (g : Setting) (p : Flows) (known : Known code numbers ranges g p) (flows : AreFlows p) (inputs : List ℤ) (m : Machine) (s : Spot)
    (h : Stands code numbers ranges g p known inputs m s) (b : List ℤ) (kind : ErrorKind) (offset : ℕ) (a : Ahead code numbers ranges g p known flows inputs m s b kind offset) where
  abbrev Does : Instruction → Next
  Does x = act_with g.model (compute code numbers ranges g p known flows inputs) inputs (way code numbers ranges g p known flows inputs) x m.place m.slots m.st

  abbrev Still : Next → Type 0
  Still next = Quiet code numbers ranges g p known flows inputs m next

  module _ (x : Instruction) (here : slice_get code m.place ≡ Some x) where
    -- a place of the function is one of the code
    short : (q : ℕ) → is_inside h.range q ≡ true → q < length code
    short q e =
        let there = place-of code numbers ranges p.main g p.terms p.graphs p.exits s.function h.range (function code numbers ranges g p known inputs m s h x here) q e in
        slice_get_within code q there.stands.instruction there.stands.there

    comes : Comes code numbers ranges g p known inputs m s (Does x)
    comes =
        subst (λ (o : Option Instruction). Comes code numbers ranges g p known inputs m s (act_at_with g.model (compute code numbers ranges g p known flows inputs) inputs (way code numbers ranges g p known flows inputs) o m)) here
        (step code numbers ranges g p known inputs m s h)

    falls : Falls g.model (compute code numbers ranges g p known flows inputs) inputs code m (Does x)
    falls =
        subst (λ (o : Option Instruction). Falls g.model (compute code numbers ranges g p known flows inputs) inputs code m (act_at_with g.model (compute code numbers ranges g p known flows inputs) inputs (way code numbers ranges g p known flows inputs) o m)) here
        (ranks_fall g.model (compute code numbers ranges g p known flows inputs) inputs (way code numbers ranges g p known flows inputs) code m)

    -- ---- Instructions behind which the next one stands

    quiet-from : (next : Next) → Tame false m.place m.st next → suc m.place < length code → Still next
    quiet-from (Goes o) t lt = (omega (arith, t.0, lt), t.1)
    quiet-from (Over (ending.Error k y z)) t lt = tt
    quiet-from (Over ending.Ended) t lt = t
    quiet-from (Over ending.NoInput) t lt = absurd cc
    quiet-from (Over (ending.BadInput number)) t lt = absurd cc
    quiet-from (Over ending.Spent) t lt = t

    behind-short : IsPlain x → suc m.place < length code
    behind-short plain =
        let inside : is_inside h.range (m.place + 1) ≡ true = sym (goes-behind h.range m.place x plain) ∙ in_range code numbers ranges g p known inputs m s h x here in
        let lt = short (m.place + 1) inside in
        omega (arith, lt)

    quiet-tame : IsPlain x → Tame false m.place m.st (Does x) → Still (Does x)
    quiet-tame plain t = quiet-from (Does x) t (behind-short plain)

    quiet-drawn : IsPlain x → Tame true m.place m.st (Does x) → (o : Machine) → Does x ≡ Goes o → Still (Does x)
    quiet-drawn plain t o e =
        let there : Tame true m.place m.st (Goes o) = subst (Tame true m.place m.st) e t in
        let lt = behind-short plain in
        subst Still (sym e) (omega (arith, there.0, lt), there.1)

    -- ---- One way on

    way-move : (to : NodeId) → Way to (place code numbers ranges g p known inputs m s h x here).n (place code numbers ranges g p known inputs m s h x here).nodes (place code numbers ranges g p known inputs m s h x here).edges
        → (e : EdgeId) × MovesBy p (Along e) s [] (spot s.function to s.returns s.store)
    way-move to w =
        let at = at_place code numbers ranges g p known inputs m s h x here in
        let n : ℕ = (place code numbers ranges g p known inputs m s h x here).n in
        let there = at.inside.edges_there 0 (edge (node_id (place code numbers ranges g p known inputs m s h x here).n) to []) (ap (λ (es : List Edge). slice_get es 0) w.1) in
        (record { 0 = there.0 }, (at.graph, edge (node_id (place code numbers ranges g p known inputs m s h x here).n) to [], at.is, there.1, sym at.node, (s.store, refl, refl)))

  -- ---- The ends of the code

  stop-quiet : slice_get code m.place ≡ Some i.Stop → ⊥
  stop-quiet here =
      let f = function code numbers ranges g p known inputs m s h i.Stop here in
      let w = within h.range m.place h.inside in
      let same : h.range.entry + (m.place - h.range.entry) ≡ m.place = omega (arith, w.from) in
      let r = exit-above (plan code numbers ranges p.main g p.terms h.range f.exit) g p.terms (h.range.function == p.main) f.graph (m.place - h.range.entry) f.follows (omega (arith, w.from, w.to)) in
      let number : r.0 ≡ h.node.0 = same_Some r.0 h.node.0 (sym r.1 ∙ ap (slice_get numbers) same ∙ h.node.1) in
      let mine : s.node.0 ≡ h.node.0 = ap (λ (v : NodeId). v.0) h.node.2 in
      stops code numbers ranges g p known flows inputs m s b kind offset a s a.moves b a.runs
      (node_here code numbers ranges g p known inputs m s h i.Stop here End (follows code numbers ranges g p known inputs m s h i.Stop here).0)
      (λ q rest exit open_calls.
      let it : s.node.0 ≡ f.exit.0 = ap (λ (v : NodeId). v.0) (same_Some s.node f.exit (sym exit ∙ f.exit_is)) in
      omega (arith, it, mine, number, r.2))

  -- ---- A return

  module _ (slot : ℕ) (here : slice_get code m.place ≡ Some (i.Return slot)) where
    abbrev y : Instruction
    y = i.Return slot

    both : ((slot == h.range.slot) ≡ true) × ((m.place + 1 == h.range.end) ≡ true)
    both = and_parts (slot == h.range.slot) (m.place + 1 == h.range.end) (in_range code numbers ranges g p known inputs m s h y here)

    -- main doesn't return on the way to an error
    open-call : s.returns ≡ [] → ⊥
    open-call none =
        let f = function code numbers ranges g p known inputs m s h y here in
        let w = way-move y here f.exit (follows code numbers ranges g p known inputs m s h y here) in
        let mid : Spot = spot s.function f.exit s.returns s.store in
        let r = rest-of code numbers ranges g p known flows inputs m s b kind offset a (Along w.0 ∷ []) (spot s.function f.exit s.returns s.store) [] (drop (m.st).taken inputs)
        (spot s.function f.exit s.returns s.store, [], [], refl, w.1, (refl, refl)) a.left in
        let e = exit-node p flows s.function f.exit f.exit_is in
        stops code numbers ranges g p known flows inputs m s b kind offset a (spot s.function f.exit s.returns s.store) r.moves r.draws r.runs
        (ap (λ (o : Option FnFlow). node_in o f.exit) e.1 ∙ e.2) (λ q rest exit open_calls. let bad : [] ≡ q ∷ rest = sym none ∙ open_calls in absurd cc)

    back-short : (returns : List Return) → s.returns ≡ returns → Opened (length code) p.main numbers ranges m.slots h.range returns → max (suc m.place) (unsigned_abs (get m.slots slot)) < length code
    back-short [] e o = absurd (open-call e)
    back-short (r ∷ rest) e (caller, w, o) =
        let held : unsigned_abs (get m.slots slot) ≡ w.place = ap (λ (k : ℕ). unsigned_abs (get m.slots k)) (eqb-true slot h.range.slot both.0) ∙ ap unsigned_abs w.holds in
        let last : m.place + 1 ≡ h.range.end = eqb-true (m.place + 1) h.range.end both.1 in
        let f = function-of code numbers ranges p.main g p.terms p.graphs p.exits r.function caller known.follow w.there in
        let there = place-of code numbers ranges p.main g p.terms p.graphs p.exits r.function caller f w.place w.inside in
        let lt = slice_get_within code w.place there.stands.instruction there.stands.there in
        let i = within caller w.place w.inside in
        omega (arith, held, last, lt, i.from, w.lies.before)

    return-quiet : Still (Does (i.Return slot))
    return-quiet = (back-short s.returns refl h.open_calls, refl)

  -- ---- Skips

  chosen-quiet : (c : Bool) (r q : ℕ) → r < length code → q < length code → Still (Goes (machine (choose c r q) m.slots m.st))
  chosen-quiet true r q lr lq = (lr, refl)
  chosen-quiet false r q lr lq = (lq, refl)

  zero-quiet : (slot skip : ℕ) → slice_get code m.place ≡ Some (i.SkipZero slot skip) → Still (Does (i.SkipZero slot skip))
  zero-quiet slot skip here =
      let inside = and_parts (is_inside h.range (m.place + 1)) (is_inside h.range (m.place + 1 + skip)) (in_range code numbers ranges g p known inputs m s h (i.SkipZero slot skip) here) in
      let one = short (i.SkipZero slot skip) here (m.place + 1) inside.0 in
      let two = short (i.SkipZero slot skip) here (m.place + 1 + skip) inside.1 in
      chosen-quiet (is_true (get m.slots slot)) (suc m.place) (suc m.place + skip) (omega (arith, one)) (omega (arith, two))

  equal-quiet : (slot : ℕ) (v : ℤ) (skip : ℕ) → slice_get code m.place ≡ Some (i.SkipEqual slot v skip) → Still (Does (i.SkipEqual slot v skip))
  equal-quiet slot v skip here =
      let inside = and_parts (is_inside h.range (m.place + 1)) (is_inside h.range (m.place + 1 + skip)) (in_range code numbers ranges g p known inputs m s h (i.SkipEqual slot v skip) here) in
      let one = short (i.SkipEqual slot v skip) here (m.place + 1) inside.0 in
      let two = short (i.SkipEqual slot v skip) here (m.place + 1 + skip) inside.1 in
      chosen-quiet ((way code numbers ranges g p known flows inputs).same (get m.slots slot) v) (suc m.place + skip) (suc m.place) (omega (arith, two)) (omega (arith, one))

  -- ---- What the machine meets

  module _ (n : ℕ) (later : Later code numbers ranges g p known flows inputs n kind offset) (few : rank g.model (compute code numbers ranges g p known flows inputs) inputs code m ≤ suc n) where
    abbrev Met : Next → Type 0
    Met next = Meets code numbers ranges g p known flows inputs (By code numbers ranges g p known flows inputs n next) m b kind offset

    by-quiet : (x : Instruction) → slice_get code m.place ≡ Some x → Still (Does x) → Met (Does x)
    by-quiet x here q = quietly code numbers ranges g p known flows inputs n m s b kind offset a later few (Does x) (comes x here) q (falls x here)

    by-tame : (x : Instruction) → slice_get code m.place ≡ Some x → IsPlain x → Tame false m.place m.st (Does x) → Met (Does x)
    by-tame x here plain t = by-quiet x here (quiet-tame x here plain t)

    abbrev tamed : (x : Instruction) → IsPlain x → Tame (draws x) m.place m.st (Does x)
    tamed x plain = tame g.model (compute code numbers ranges g p known flows inputs) inputs (way code numbers ranges g p known flows inputs) x m.place m.slots m.st plain

    -- a turn goes along an edge
    turns : (at goal : ℕ) (here : slice_get code m.place ≡ Some (i.Turn at goal)) (left : ℕ) → (m.st).turns ≡ left
        → Falls g.model (compute code numbers ranges g p known flows inputs) inputs code m (goes goal m.slots (turn at (record { store = (m.st).store; taken = (m.st).taken; turns = left })))
        → Met (goes goal m.slots (turn at (record { store = (m.st).store; taken = (m.st).taken; turns = left })))
    turns at goal here zero e fall =
        let f = first-move code numbers ranges g p known flows inputs m s b kind offset a Plain
        (node_here code numbers ranges g p known inputs m s h (i.Turn at goal) here Plain (follows code numbers ranges g p known inputs m s h (i.Turn at goal) here).0) (λ q. absurd cc) in
        let count = ap length f.moves_are in
        absurd (omega (arith, count, a.enough, e))
    turns at goal here (suc left) e fall =
        let to : NodeId = node_of (the_plan code numbers ranges g p known inputs m s h (i.Turn at goal) here) goal in
        let w = way-move (i.Turn at goal) here (node_of (the_plan code numbers ranges g p known inputs m s h (i.Turn at goal) here) goal) (follows code numbers ranges g p known inputs m s h (i.Turn at goal) here) in
        let t : Spot = spot s.function (node_of (the_plan code numbers ranges g p known inputs m s h (i.Turn at goal) here) goal) s.returns s.store in
        let st : State = record { store = (m.st).store; taken = (m.st).taken; turns = left } in
        on code numbers ranges g p known flows inputs n m s b kind offset a later few (machine goal m.slots st) t (Along w.0 ∷ []) [] (t, [], [], refl, w.1, (refl, refl))
        (stands-at code numbers ranges g p known inputs m s h (i.Turn at goal) here goal st refl (in_range code numbers ranges g p known inputs m s h (i.Turn at goal) here)) (nothing-more _) (omega (arith, e)) fall

    -- a call goes into the function that is called, which stands before
    module _ (at goal slot : ℕ) (here : slice_get code m.place ≡ Some (i.Call at goal slot)) where
      abbrev z : Instruction
      z = i.Call at goal slot

      abbrev c : Calls (the_plan code numbers ranges g p known inputs m s h z here) g goal slot (node_of (the_plan code numbers ranges g p known inputs m s h z here) (m.place + 1)) (place code numbers ranges g p known inputs m s h z here).n (place code numbers ranges g p known inputs m s h z here).nodes (place code numbers ranges g p known inputs m s h z here).edges
      c = follows code numbers ranges g p known inputs m s h z here

      before : goal < h.range.entry
      before = omega (arith, c.begins.entry, c.begins.lies.some, c.begins.lies.before)

      -- it is another spot
      moved : (o : Machine) (t : Spot) → Stands code numbers ranges g p known inputs o t → o.place ≡ goal → s ≡ t → ⊥
      moved o t stands to same =
          let ranges_are : stands.range ≡ h.range = same_Some stands.range h.range (sym stands.there ∙ ap (λ (u : Spot). slice_get ranges u.function) (sym same) ∙ h.there) in
          let w = within stands.range o.place stands.inside in
          let entries : stands.range.entry ≡ h.range.entry = ap (λ (r : Range). r.entry) ranges_are in
          omega (arith, before, w.from, entries, to)

      called-by : (left : ℕ) (t : Spot) (moves : List Move) (drew : List ℤ) → RunsBy p moves s drew t → (st : State) → (m.st).turns ≡ suc left → st.turns ≡ left
          → Stands code numbers ranges g p known inputs (machine goal (put m.slots slot (pos (suc m.place))) st) t → (m.st).turns ≤ st.turns + length moves
      called-by left t [] drew (same, none) st e q stands = absurd (moved (machine goal (put m.slots slot (pos (suc m.place))) st) t stands refl same)
      called-by left t (move ∷ moves) drew run st e q stands = omega (arith, e, q)

      call-met : (left : ℕ) → (m.st).turns ≡ suc left
          → Falls g.model (compute code numbers ranges g p known flows inputs) inputs code m (goes goal (put m.slots slot (pos (suc m.place))) (turn at (record { store = (m.st).store; taken = (m.st).taken; turns = suc left })))
          → Comes code numbers ranges g p known inputs m s (goes goal (put m.slots slot (pos (suc m.place))) (turn at (record { store = (m.st).store; taken = (m.st).taken; turns = suc left })))
          → Met (goes goal (put m.slots slot (pos (suc m.place))) (turn at (record { store = (m.st).store; taken = (m.st).taken; turns = suc left })))
      call-met left e fall (inl le) =
          let w = within h.range m.place h.inside in
          let lt = slice_get_within code m.place z here in
          let first = before in
          absurd (omega (arith, le, w.from, lt, first))
      call-met left e fall (inr (t, drew, (moves, run), stands, took)) =
          let st : State = record { store = (m.st).store; taken = (m.st).taken; turns = left } in
          on code numbers ranges g p known flows inputs n m s b kind offset a later few (machine goal (put m.slots slot (pos (suc m.place))) st) t moves drew run stands took (called-by left t moves drew run st e refl stands) fall

      calls-met : (left : ℕ) → (m.st).turns ≡ left
          → Falls g.model (compute code numbers ranges g p known flows inputs) inputs code m (goes goal (put m.slots slot (pos (suc m.place))) (turn at (record { store = (m.st).store; taken = (m.st).taken; turns = left })))
          → Comes code numbers ranges g p known inputs m s (goes goal (put m.slots slot (pos (suc m.place))) (turn at (record { store = (m.st).store; taken = (m.st).taken; turns = left })))
          → Met (goes goal (put m.slots slot (pos (suc m.place))) (turn at (record { store = (m.st).store; taken = (m.st).taken; turns = left })))
      calls-met zero e fall comes =
          let f = first-move code numbers ranges g p known flows inputs m s b kind offset a _ (node_here code numbers ranges g p known inputs m s h z here _ c.nodes_are) (λ q. absurd cc) in
          let count = ap length f.moves_are in
          absurd (omega (arith, count, a.enough, e))
      calls-met (suc left) e fall comes = call-met left e fall comes

    one : (x : Instruction) → slice_get code m.place ≡ Some x → Met (Does x)
    one (i.Constant slot v) here = by-tame (i.Constant slot v) here tt (tamed (i.Constant slot v) tt)
    one (i.Read slot object) here = by-tame (i.Read slot object) here tt (tamed (i.Read slot object) tt)
    one (i.Element slot at object count) here = by-tame (i.Element slot at object count) here tt (tamed (i.Element slot at object count) tt)
    one (i.Locate slot at object count) here = by-tame (i.Locate slot at object count) here tt (tamed (i.Locate slot at object count) tt)
    one (i.Load slot object) here = by-tame (i.Load slot object) here tt (tamed (i.Load slot object) tt)
    one (i.Store slot object) here = by-tame (i.Store slot object) here tt (tamed (i.Store slot object) tt)
    one (i.Convert slot k) here = by-tame (i.Convert slot k) here tt (tamed (i.Convert slot k) tt)
    one (i.Negate slot k at) here = by-tame (i.Negate slot k at) here tt (tamed (i.Negate slot k at) tt)
    one (i.Complement slot k at) here = by-tame (i.Complement slot k at) here tt (tamed (i.Complement slot k at) tt)
    one (i.Not slot) here = by-tame (i.Not slot) here tt (tamed (i.Not slot) tt)
    one (i.Truth slot) here = by-tame (i.Truth slot) here tt (tamed (i.Truth slot) tt)
    one (i.Binary slot o k at) here = by-tame (i.Binary slot o k at) here tt (tamed (i.Binary slot o k at) tt)
    one (i.Update slot o k l at object) here = by-tame (i.Update slot o k l at object) here tt (tamed (i.Update slot o k l at object) tt)
    one (i.Change slot before by k at object) here = by-tame (i.Change slot before by k at object) here tt (tamed (i.Change slot before by k at object) tt)
    one (i.Draw slot k) here =
        let d = draw-goes code numbers ranges g p known flows inputs m s h b kind offset a slot k here in
        by-quiet (i.Draw slot k) here (quiet-drawn (i.Draw slot k) here tt (tamed (i.Draw slot k) tt) d.0 d.1)
    one (i.Fill object k count) here =
        let d = fill-goes code numbers ranges g p known flows inputs m s h b kind offset a object count k here in
        by-quiet (i.Fill object k count) here (quiet-drawn (i.Fill object k count) here tt (tamed (i.Fill object k count) tt) d.0 d.1)
    one (i.Begin slot object count values) here = by-tame (i.Begin slot object count values) here tt (tamed (i.Begin slot object count values) tt)
    one (i.Bind slot object) here = by-tame (i.Bind slot object) here tt (tamed (i.Bind slot object) tt)
    one (i.Take slot at from needed) here = by-tame (i.Take slot at from needed) here tt (tamed (i.Take slot at from needed) tt)
    one (i.Jump skip) here =
        let lt = short (i.Jump skip) here (m.place + 1 + skip) (in_range code numbers ranges g p known inputs m s h (i.Jump skip) here) in
        by-quiet (i.Jump skip) here (omega (arith, lt), refl)
    one (i.Turn at goal) here = turns at goal here (m.st).turns refl (falls (i.Turn at goal) here)
    one (i.SkipZero slot skip) here = by-quiet (i.SkipZero slot skip) here (zero-quiet slot skip here)
    one (i.SkipEqual slot v skip) here = by-quiet (i.SkipEqual slot v skip) here (equal-quiet slot v skip here)
    one (i.Call at goal slot) here = calls-met at goal slot here (m.st).turns refl (falls (i.Call at goal slot) here) (calls code numbers ranges g p known inputs m s h at goal slot here)
    one (i.Return slot) here = by-quiet (i.Return slot) here (return-quiet slot here)
    one (i.Fail k at) here = by-quiet (i.Fail k at) here tt
    one i.Stop here = absurd (stop-quiet here)

    -- where the machine's place lies, an instruction stands
    pub step-meets : (o : Option Instruction) → slice_get code m.place ≡ o → Met (act_at_with g.model (compute code numbers ranges g p known flows inputs) inputs (way code numbers ranges g p known flows inputs) o m)
    step-meets None e =
        let f = function-of code numbers ranges p.main g p.terms p.graphs p.exits s.function h.range known.follow h.there in
        let there = place-of code numbers ranges p.main g p.terms p.graphs p.exits s.function h.range f m.place h.inside in
        let bad : None ≡ Some there.stands.instruction = sym e ∙ there.stands.there in
        absurd cc
    step-meets (Some x) e = one x e

-- ---- All steps

module _ (code : List Instruction) (numbers : List ℕ) (ranges : List Range) (g : Setting) (p : Flows) (known : Known code numbers ranges g p) (flows : AreFlows p) (inputs : List ℤ) where
  pub walk-meets : (n : ℕ) (m : Machine) (s : Spot) (b : List ℤ) (kind : ErrorKind) (at : ℕ) → rank g.model (compute code numbers ranges g p known flows inputs) inputs code m ≤ n → Stands code numbers ranges g p known inputs m s
      → Ahead code numbers ranges g p known flows inputs m s b kind at → MeetsIn code numbers ranges g p known flows inputs n m b kind at
  walk-meets zero m s b kind at few stands a = absurd (omega (arith, few))
  walk-meets (suc n) m s b kind at few stands a =
      step-meets code numbers ranges g p known flows inputs m s stands b kind at a n (λ o t c le there ahead. walk-meets n o t c kind at le there ahead) few (slice_get code m.place) refl
