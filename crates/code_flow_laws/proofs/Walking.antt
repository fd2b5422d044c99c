-- The machine's run, step by step, and the moves of a run over the graphs.
use Rattle.std.proofs.Common.{◌≡◌, inl, inr, ℕ, zero, suc, ◌+◌, ◌≤◌, ◌<◌, ◌==◌, refl, sym, ap, ◌∙◌, subst, arith, List, [], ◌++◌, length, Option, None, Some, slice_get, ℤ}
use Rattle.std.specs.Prelude.{take}
use Rattle.std.proofs.lemmas.Bool.{and_parts}
use Rattle.std.proofs.lemmas.Option.{slice_get_past}
use Rattle.lv_base.specs.declared.fault.ErrorKind.{ErrorKind}
use Rattle.lv_base.specs.Integers.{residue}
use Rattle.bv_term.specs.Numbers.{truth}
use Rattle.c_run.specs.Run.{Compute, turn, is_true}
use Rattle.c_terms.specs.Numbers.{nonzero}
use Rattle.c_graph.specs.declared.graph.Node.TheVariants.{Error}
use Rattle.c_graph.specs.Functions.{Flows}
use Rattle.slot_code.specs.declared.flat.Instruction.{Instruction}
use Rattle.slot_code.specs.declared.flat.Instruction.TheVariants as i
use Rattle.slot_code.specs.declared.reply.Ending.{Ending}
use Rattle.slot_code.specs.declared.reply.Ending.TheVariants as ending
use Rattle.slot_code.specs.Slots.{get}
use Rattle.slot_code.specs.Machine.{Machine, machine, Next, Goes, Over, goes, act_with, act_at_with, step_with, walk_with, onward}
use Rattle.typed_range_laws.specs.Ways.{Way}
use Rattle.code_moves.specs.Setting.{Setting}
use Rattle.code_moves.specs.Values.{slot_value}
use Rattle.cfg_build.specs.Keeping.{is_inside}
use Rattle.function_runs.specs.Runs.{Spot, node_at}
use Rattle.code_layout.specs.Reading.{reads}
use Rattle.layout_laws.specs.Serve.{HasSlot}
use Rattle.code_move_laws.specs.Steps.{IsPlain}
use Rattle.code_move_laws.specs.Ways.{converting, graph_way}
use Rattle.code_move_laws.proofs.Skipping.{zero-skips, equal-skips}
use Rattle.code_flow_laws.proofs.Ranging.{Range}
use Rattle.code_flow_laws.proofs.Moving.{Moves, moves-join, in-order, nothing-more}
use Rattle.code_flow_laws.proofs.Stepping.{Known, Stands, Comes, follows, in_range, straight, goes-way, goes-fork, fails}
use Rattle.code_flow_laws.proofs.Calling.{calls, returns}

module _ (code : List Instruction) (numbers : List ℕ) (ranges : List Range) (g : Setting) (p : Flows) (known : Known code numbers ranges g p) (inputs : List ℤ) where
  -- as the graph computes
  abbrev pub compute : Compute
  compute op kind a b = converting g.model op kind a b

  abbrev pub way : Way
  way = graph_way g

  -- ---- One step

  module _ (m : Machine) (s : Spot) (h : Stands code numbers ranges g p known inputs m s) where
    plain : (x : Instruction) → IsPlain x → slice_get code m.place ≡ Some x → Comes code numbers ranges g p known inputs m s (act_with g.model compute inputs way x m.place m.slots m.st)
    plain x is here = straight code numbers ranges g p known inputs m s h x here is

    jump : (skip : ℕ) → slice_get code m.place ≡ Some (i.Jump skip) → Comes code numbers ranges g p known inputs m s (Goes (machine (suc m.place + skip) m.slots m.st))
    jump skip here = goes-way code numbers ranges g p known inputs m s h (i.Jump skip) here (m.place + 1 + skip) (suc m.place + skip) m.st (omega arith) refl refl (in_range code numbers ranges g p known inputs m s h (i.Jump skip) here) (follows code numbers ranges g p known inputs m s h (i.Jump skip) here)

    turn-by : (at goal turns : ℕ) → slice_get code m.place ≡ Some (i.Turn at goal) → Comes code numbers ranges g p known inputs m s (goes goal m.slots (turn at (record { store = (m.st).store; taken = (m.st).taken; turns = turns })))
    turn-by at goal zero here = tt
    turn-by at goal (suc left) here =
        goes-way code numbers ranges g p known inputs m s h (i.Turn at goal) here goal goal (record { store = (m.st).store; taken = (m.st).taken; turns = left }) refl refl refl (in_range code numbers ranges g p known inputs m s h (i.Turn at goal) here) (follows code numbers ranges g p known inputs m s h (i.Turn at goal) here)

    -- the slot that a skip reads has a cell
    has : (slot : ℕ) (x : Instruction) → slice_get code m.place ≡ Some x → 0 < (reads g.objects x).count → (reads g.objects x).first ≡ slot → HasSlot g.lay slot
    has slot x here some is = let q : (reads g.objects x).first + 0 ≡ slot = omega (arith, is) in subst (HasSlot g.lay) q ((known.serves m.place x here).slots 0 some)

    zero-skip : (slot skip : ℕ) → slice_get code m.place ≡ Some (i.SkipZero slot skip) → Comes code numbers ranges g p known inputs m s (act_with g.model compute inputs way (i.SkipZero slot skip) m.place m.slots m.st)
    zero-skip slot skip here =
        let both = and_parts (is_inside h.range (m.place + 1)) (is_inside h.range (m.place + 1 + skip)) (in_range code numbers ranges g p known inputs m s h (i.SkipZero slot skip) here) in
        goes-fork code numbers ranges g p known inputs m s h (i.SkipZero slot skip) here (λ store. nonzero (slot_value g store slot)) (m.place + 1) (m.place + 1 + skip) (suc m.place) (suc m.place + skip)
        (is_true (get m.slots slot)) (omega arith) (omega arith) both.0 both.1 (follows code numbers ranges g p known inputs m s h (i.SkipZero slot skip) here) (zero-skips g m.slots (m.st).store s.store slot h.mirrors (has slot (i.SkipZero slot skip) here (omega arith) refl))

    equal-skip : (slot : ℕ) (v : ℤ) (skip : ℕ) → slice_get code m.place ≡ Some (i.SkipEqual slot v skip) → Comes code numbers ranges g p known inputs m s (act_with g.model compute inputs way (i.SkipEqual slot v skip) m.place m.slots m.st)
    equal-skip slot v skip here =
        let both = and_parts (is_inside h.range (m.place + 1)) (is_inside h.range (m.place + 1 + skip)) (in_range code numbers ranges g p known inputs m s h (i.SkipEqual slot v skip) here) in
        goes-fork code numbers ranges g p known inputs m s h (i.SkipEqual slot v skip) here (λ store. truth (slot_value g store slot == residue 64 v)) (m.place + 1 + skip) (m.place + 1) (suc m.place + skip) (suc m.place)
        (way.same (get m.slots slot) v) (omega arith) (omega arith) both.1 both.0 (follows code numbers ranges g p known inputs m s h (i.SkipEqual slot v skip) here) (equal-skips g m.slots (m.st).store s.store slot v h.mirrors (has slot (i.SkipEqual slot v skip) here (omega arith) refl))

    one : (x : Instruction) → slice_get code m.place ≡ Some x → Comes code numbers ranges g p known inputs m s (act_with g.model compute inputs way x m.place m.slots m.st)
    one (i.Constant slot v) here = plain (i.Constant slot v) tt here
    one (i.Read slot object) here = plain (i.Read slot object) tt here
    one (i.Element slot at object count) here = plain (i.Element slot at object count) tt here
    one (i.Locate slot at object count) here = plain (i.Locate slot at object count) tt here
    one (i.Load slot object) here = plain (i.Load slot object) tt here
    one (i.Store slot object) here = plain (i.Store slot object) tt here
    one (i.Convert slot k) here = plain (i.Convert slot k) tt here
    one (i.Negate slot k at) here = plain (i.Negate slot k at) tt here
    one (i.Complement slot k at) here = plain (i.Complement slot k at) tt here
    one (i.Not slot) here = plain (i.Not slot) tt here
    one (i.Truth slot) here = plain (i.Truth slot) tt here
    one (i.Binary slot o k at) here = plain (i.Binary slot o k at) tt here
    one (i.Update slot o k l at object) here = plain (i.Update slot o k l at object) tt here
    one (i.Change slot before by k at object) here = plain (i.Change slot before by k at object) tt here
    one (i.Draw slot k) here = plain (i.Draw slot k) tt here
    one (i.Fill object k count) here = plain (i.Fill object k count) tt here
    one (i.Begin slot object count values) here = plain (i.Begin slot object count values) tt here
    one (i.Bind slot object) here = plain (i.Bind slot object) tt here
    one (i.Take slot at from needed) here = plain (i.Take slot at from needed) tt here
    one (i.Jump skip) here = jump skip here
    one (i.Turn at goal) here = turn-by at goal (m.st).turns here
    one (i.SkipZero slot skip) here = zero-skip slot skip here
    one (i.SkipEqual slot v skip) here = equal-skip slot v skip here
    one (i.Call at goal slot) here = calls code numbers ranges g p known inputs m s h at goal slot here
    one (i.Return slot) here = returns code numbers ranges g p known inputs m s h slot here
    one (i.Fail kind at) here = fails code numbers ranges g p known inputs m s h (i.Fail kind at) here kind at (follows code numbers ranges g p known inputs m s h (i.Fail kind at) here)
    one i.Stop here = tt

    step-at : (o : Option Instruction) → slice_get code m.place ≡ o → ((x : Instruction) → o ≡ Some x → Comes code numbers ranges g p known inputs m s (act_with g.model compute inputs way x m.place m.slots m.st)) → Comes code numbers ranges g p known inputs m s (act_at_with g.model compute inputs way o m)
    step-at None e all = tt
    step-at (Some x) e all = all x refl

    -- a step of the machine is some moves of the run
    pub step : Comes code numbers ranges g p known inputs m s (step_with g.model compute inputs way code m)
    step = step-at (slice_get code m.place) refl one

  -- ---- All steps

  -- the run comes to the error's node, drawing what the machine drew
  abbrev pub Ends : Machine → Spot → ErrorKind → ℕ → ℕ → Type 0
  Ends m s kind at taken = (t : Spot) × (draws : List ℤ) × Moves p s draws t × (node_at p t ≡ Some (Error kind at)) × (take taken inputs ≡ take (m.st).taken inputs ++ draws)

  -- behind the code no error is met
  past-end : (n : ℕ) (m : Machine) (kind : ErrorKind) (at taken : ℕ) → length code ≤ m.place → walk_with g.model compute inputs way code n m ≡ ending.Error kind at taken → ⊥
  past-end zero m kind at taken le e = absurd cc
  past-end (suc n) m kind at taken le e =
      let none : step_with g.model compute inputs way code m ≡ Over ending.Ended = ap (λ (o : Option Instruction). act_at_with g.model compute inputs way o m) (slice_get_past code m.place le) in
      let bad : ending.Ended ≡ ending.Error kind at taken = sym (ap (λ (x : Next). onward g.model compute inputs code x (walk_with g.model compute inputs way code n)) none) ∙ e in
      absurd cc

  over-ends : (m : Machine) (s : Spot) (kind : ErrorKind) (at taken : ℕ) (e : Ending) → Comes code numbers ranges g p known inputs m s (Over e) → e ≡ ending.Error kind at taken → Ends m s kind at taken
  over-ends m s kind at taken (ending.Error k a n) (t, moves, node, took) e =
      let ek : k ≡ kind = cc in
      let ea : a ≡ at = cc in
      let en : n ≡ taken = cc in
      (t, [], moves, node ∙ ap (λ (z : ErrorKind). Some (Error z a)) ek ∙ ap (λ (z : ℕ). Some (Error kind z)) ea, ap (λ (z : ℕ). take z inputs) (sym en ∙ took) ∙ nothing-more (take (m.st).taken inputs))
  over-ends m s kind at taken ending.Ended c e = absurd cc
  over-ends m s kind at taken ending.NoInput c e = absurd cc
  over-ends m s kind at taken (ending.BadInput number) c e = absurd cc
  over-ends m s kind at taken ending.Spent c e = absurd cc

  next-ends : (n : ℕ) (m : Machine) (s : Spot) (kind : ErrorKind) (at taken : ℕ) (next : Next) → Comes code numbers ranges g p known inputs m s next → onward g.model compute inputs code next (walk_with g.model compute inputs way code n) ≡ ending.Error kind at taken
      → ((o : Machine) (t : Spot) → Stands code numbers ranges g p known inputs o t → walk_with g.model compute inputs way code n o ≡ ending.Error kind at taken → Ends o t kind at taken) → Ends m s kind at taken
  next-ends n m s kind at taken (Goes o) (inl le) e more = absurd (past-end n o kind at taken le e)
  next-ends n m s kind at taken (Goes o) (inr (t, draws, moves, stands, took)) e more =
      let (u, rest, moves2, node, took2) = more o t stands e in
      (u, draws ++ rest, moves-join p s t u draws rest moves moves2, node, took2 ∙ ap (λ (xs : List ℤ). xs ++ rest) took ∙ in-order (take (m.st).taken inputs) draws rest)
  next-ends n m s kind at taken (Over x) c e more = over-ends m s kind at taken x c e

  -- a walk that ends in an error
  pub walk-ends : (n : ℕ) (m : Machine) (s : Spot) (kind : ErrorKind) (at taken : ℕ) → Stands code numbers ranges g p known inputs m s → walk_with g.model compute inputs way code n m ≡ ending.Error kind at taken → Ends m s kind at taken
  walk-ends zero m s kind at taken h e = absurd cc
  walk-ends (suc n) m s kind at taken h e =
      next-ends n m s kind at taken (step_with g.model compute inputs way code m) (step m s h) e (λ o t stands rest. walk-ends n o t kind at taken stands rest)
