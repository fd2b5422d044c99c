-- Calls and returns of the machine, and those of a run over the graphs.
use Rattle.std.proofs.Common.{◌≡◌, inl, inr, ℕ, zero, suc, ◌+◌, ◌<◌, ◌≤◌, ◌==◌, max, nat_lt, nat_le, Bool, true, false, refl, sym, ap, ◌∙◌, subst, arith, List, [], ◌∷◌, length, Some, slice_get, ℤ, pos, unsigned_abs}
use Rattle.std.specs.Prelude.{take}
use Rattle.std.proofs.lemmas.Bool.{and_parts, and_from, eqb-true, lt-ltb, le-leb}
use Rattle.std.proofs.lemmas.Option.{same_Some, slice_get_within}
use Rattle.c_run.specs.Run.{State, turn}
use Rattle.c_graph.specs.declared.graph.NodeId.{NodeId}
use Rattle.c_graph.specs.declared.graph.Node.TheVariants.{Call}
use Rattle.c_graph.specs.Functions.{Flows}
use Rattle.slot_code.specs.declared.flat.Instruction.{Instruction}
use Rattle.slot_code.specs.declared.flat.Instruction.TheVariants as i
use Rattle.slot_code.specs.Slots.{get, put}
use Rattle.slot_code.specs.Machine.{Machine, machine, Goes, goes}
use Rattle.code_moves.specs.Setting.{Setting}
use Rattle.code_move_laws.specs.Mirrors.{Mirrors}
use Rattle.code_move_laws.proofs.Stores.{unread-put}
use Rattle.code_flow_laws.proofs.Ranging.{Range}
use Rattle.cfg_build.specs.Keeping.{is_inside}
use Rattle.cfg_build.specs.Follows.{Calls, node_of, LiesBelow}
use Rattle.function_runs.specs.Runs.{Into, Back, Return, Spot, spot, return_to}
use Rattle.code_flow_laws.proofs.Graphs.{IsNode, FunctionOf, function-of, first-of, first_of, entry-of, within}
use Rattle.code_flow_laws.proofs.Moving.{Moves, one-move, moves-join, nothing-more}
use Rattle.code_flow_laws.proofs.Open.{Opened, opened-call, bottom}
use Rattle.code_flow_laws.proofs.Stepping.{Known, Stands, Comes, function, the_plan, place, follows, in_range, node_there, node_here, way-moves}

-- where both begin alike, and the other is not main, neither is this one
first-alike : (a b : Bool) → first_of a ≡ first_of b → (b ≡ true → ⊥) → a ≡ false
first-alike false b e h = refl
first-alike true true e h = absurd (h refl)
first-alike true false e h = absurd (omega (arith, e))

module _ (code : List Instruction) (numbers : List ℕ) (ranges : List Range) (g : Setting) (p : Flows) (known : Known code numbers ranges g p) (inputs : List ℤ) where
  -- the function that is called from an open one is not main
  not-main : (callee range : Range) (function goal : ℕ) (slots : List ℤ) (returns : List Return) → slice_get ranges function ≡ Some callee → callee.entry ≡ goal → LiesBelow callee range
      → Opened (length code) p.main numbers ranges slots range returns
      → (k : ℕ) (r : Range) → slice_get ranges k ≡ Some r → r.entry ≡ goal → r.function ≡ k → r.entry < r.end → (callee.function == p.main) ≡ false
  not-main callee range function goal slots returns there entry lies o k r is first number some =
      let one : slice_get numbers callee.entry ≡ Some (first_of (callee.function == p.main)) =
      first-of code numbers ranges p.main g p.terms p.graphs p.exits function callee (function-of code numbers ranges p.main g p.terms p.graphs p.exits function callee known.follow there) lies.some in
      let two : slice_get numbers r.entry ≡ Some (first_of (r.function == p.main)) =
      first-of code numbers ranges p.main g p.terms p.graphs p.exits k r (function-of code numbers ranges p.main g p.terms p.graphs p.exits k r known.follow is) some in
      let alike : first_of (callee.function == p.main) ≡ first_of (r.function == p.main) =
      same_Some _ _ (sym one ∙ ap (slice_get numbers) (entry ∙ sym first) ∙ two) in
      first-alike (callee.function == p.main) (r.function == p.main) alike (λ t.
      let own : k ≡ p.main = sym number ∙ eqb-true r.function p.main t in
      let (b, main, le) = bottom (length code) p.main numbers ranges slots range returns o in
      let it : b ≡ r = same_Some b r (sym main ∙ ap (slice_get ranges) (sym own) ∙ is) in
      let at : b.entry ≡ r.entry = ap (λ (z : Range). z.entry) it in
      omega (arith, lies.some, lies.before, le, at, first, entry))

  module _ (m : Machine) (s : Spot) (h : Stands code numbers ranges g p known inputs m s) where
    -- ---- A call

    module _ (at goal slot : ℕ) (here : slice_get code m.place ≡ Some (i.Call at goal slot)) where
      abbrev x : Instruction
      x = i.Call at goal slot

      abbrev c : Calls (the_plan code numbers ranges g p known inputs m s h x here) g goal slot (node_of (the_plan code numbers ranges g p known inputs m s h x here) (m.place + 1)) (place code numbers ranges g p known inputs m s h x here).n (place code numbers ranges g p known inputs m s h x here).nodes (place code numbers ranges g p known inputs m s h x here).edges
      c = follows code numbers ranges g p known inputs m s h x here

      abbrev callee : FunctionOf code numbers ranges p.main g p.terms p.graphs p.exits c.function c.begins.range
      callee = function-of code numbers ranges p.main g p.terms p.graphs p.exits c.function c.begins.range known.follow c.begins.there

      abbrev next : NodeId
      next = node_of (the_plan code numbers ranges g p known inputs m s h x here) (m.place + 1)

      abbrev entered : Spot
      entered = spot c.function (callee.graph).entry (return_to s.function next ∷ s.returns) s.store

      call-moves : Moves p s [] entered
      call-moves =
          one-move p Into s entered []
          (c.function, next, callee.graph, node_here code numbers ranges g p known inputs m s h x here (Call c.function next) c.nodes_are, callee.graph_is, refl, refl)

      first-node : IsNode numbers goal (callee.graph).entry
      first-node =
          let (k, r, is, first, number, some) = known.entered m.place at goal slot here in
          let other : (c.begins.range.function == p.main) ≡ false =
          not-main c.begins.range h.range c.function goal m.slots s.returns c.begins.there c.begins.entry c.begins.lies h.open_calls k r is first number some in
          let one = first-of code numbers ranges p.main g p.terms p.graphs p.exits c.function c.begins.range callee c.begins.lies.some in
          (0, sym (ap (slice_get numbers) c.begins.entry) ∙ one ∙ ap (λ (b : Bool). Some (first_of b)) other, entry-of code numbers ranges p.main g p.terms p.graphs p.exits c.function c.begins.range callee)

      call-stands : (st : State) → st.store ≡ (m.st).store → Stands code numbers ranges g p known inputs (machine goal (put m.slots slot (pos (suc m.place))) st) entered
      call-stands st same =
          let room : suc m.place ≤ length code = omega (arith, slice_get_within code m.place x here) in
          let step : m.place + 1 ≡ suc m.place = omega arith in
          let inside : is_inside h.range (m.place + 1) ≡ true = in_range code numbers ranges g p known inputs m s h x here in
          let le : c.begins.range.entry ≤ goal = omega (arith, c.begins.entry) in
          let lt : goal < c.begins.range.end = omega (arith, c.begins.entry, c.begins.lies.some) in
          record {
            range = c.begins.range;
            there = c.begins.there;
            inside = and_from (nat_le c.begins.range.entry goal) (nat_lt goal c.begins.range.end) (le-leb c.begins.range.entry goal le) (lt-ltb goal c.begins.range.end lt);
            node = first-node;
            mirrors = subst (λ (vs : List (List ℤ)). Mirrors g (put m.slots slot (pos (suc m.place))) vs s.store) (sym same)
                (unread-put g known.laid m.slots (m.st).store s.store h.mirrors slot (pos (suc m.place)) c.unread (known.short (suc m.place) room));
            open_calls = opened-call (length code) p.main numbers ranges m.slots slot (suc m.place) c.begins.range h.range (return_to s.function next) s.returns c.begins.by c.begins.lies h.there
                (subst (λ (q : ℕ). is_inside h.range q ≡ true) step inside)
                (subst (λ (q : ℕ). IsNode numbers q next) step (node_there code numbers ranges g p known inputs m s h x here (m.place + 1) inside)) h.open_calls;
          }

      call-turn : (turns : ℕ) → Comes code numbers ranges g p known inputs m s (goes goal (put m.slots slot (pos (suc m.place))) (turn at (record { store = (m.st).store; taken = (m.st).taken; turns = turns })))
      call-turn zero = tt
      call-turn (suc left) = inr (entered, [], call-moves, call-stands (record { store = (m.st).store; taken = (m.st).taken; turns = left }) refl, nothing-more (take (m.st).taken inputs))

      pub calls : Comes code numbers ranges g p known inputs m s (goes goal (put m.slots slot (pos (suc m.place))) (turn at m.st))
      calls = call-turn (m.st).turns

    -- ---- A return

    max-up : (a b c : ℕ) → a ≡ c → c ≤ b → max a b ≡ b
    max-up a b c e le = omega (arith, e, le)

    module _ (slot : ℕ) (here : slice_get code m.place ≡ Some (i.Return slot)) where
      abbrev y : Instruction
      y = i.Return slot

      both : ((slot == h.range.slot) ≡ true) × ((m.place + 1 == h.range.end) ≡ true)
      both = and_parts (slot == h.range.slot) (m.place + 1 == h.range.end) (in_range code numbers ranges g p known inputs m s h y here)

      held : (q : ℕ) → get m.slots h.range.slot ≡ pos q → unsigned_abs (get m.slots slot) ≡ q
      held q e = ap (λ (k : ℕ). unsigned_abs (get m.slots k)) (eqb-true slot h.range.slot both.0) ∙ ap unsigned_abs e

      last : suc m.place ≡ h.range.end
      last = let e = eqb-true (m.place + 1) h.range.end both.1 in omega (arith, e)

      back-moves : (r : Return) (rest : List Return) → s.returns ≡ r ∷ rest → Moves p s [] (spot r.function r.node rest s.store)
      back-moves r rest e =
          let f = function code numbers ranges g p known inputs m s h y here in
          let mid : Spot = spot s.function f.exit s.returns s.store in
          let to = way-moves code numbers ranges g p known inputs m s h y here f.exit (follows code numbers ranges g p known inputs m s h y here) in
          moves-join p s mid (spot r.function r.node rest s.store) [] [] to (one-move p Back mid (spot r.function r.node rest s.store) [] (r, rest, f.exit_is, e, refl, refl))

      returns-to : (returns : List Return) → s.returns ≡ returns → Opened (length code) p.main numbers ranges m.slots h.range returns
          → Comes code numbers ranges g p known inputs m s (Goes (machine (max (suc m.place) (unsigned_abs (get m.slots slot))) m.slots m.st))
      returns-to [] e o =
          let q = held (length code) o.1 in
          inl (omega (arith, q))
      returns-to (r ∷ rest) e (caller, w, o) =
          let q = held w.place w.holds in
          let i = within caller w.place w.inside in
          let to : max (suc m.place) (unsigned_abs (get m.slots slot)) ≡ w.place = ap (max (suc m.place)) q ∙ max-up (suc m.place) w.place h.range.end last (omega (arith, i.from, w.lies.before)) in
          let t : Spot = spot r.function r.node rest s.store in
          let stands : Stands code numbers ranges g p known inputs (machine w.place m.slots m.st) t = record { range = caller; there = w.there; inside = w.inside; node = w.node; mirrors = h.mirrors; open_calls = o } in
          subst (λ (z : ℕ). Comes code numbers ranges g p known inputs m s (Goes (machine z m.slots m.st))) (sym to)
          (inr (t, [], back-moves r rest e, stands, nothing-more (take (m.st).taken inputs)))

      pub returns : Comes code numbers ranges g p known inputs m s (Goes (machine (max (suc m.place) (unsigned_abs (get m.slots slot))) m.slots m.st))
      returns = returns-to s.returns refl h.open_calls
