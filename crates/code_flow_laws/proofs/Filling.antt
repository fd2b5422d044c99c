-- Which slots an instruction fills, behind which the next one stands.
use Rattle.std.proofs.Common.{◌≡◌, ℕ, suc, ◌+◌, refl, subst, arith, List, [], ◌∷◌, Option, None, Some, ℤ, pos, negsuc}
use Rattle.bv_term.specs.WellFormed.{Table}
use Rattle.c_graph.specs.declared.graph.Node.{Node}
use Rattle.c_graph.specs.declared.graph.Edge.{Edge}
use Rattle.lv_base.specs.declared.kind.Model.{Model}
use Rattle.lv_base.specs.declared.kind.Op.TheVariants as arithmetic
use Rattle.lv_base.specs.Integers.{converted, truth, is_zero}
use Rattle.c_run.specs.Run.{State, Got, Value, Stop, Compute, read, scalar, computed, draw, is_true, store_all, padded}
use Rattle.slot_code.specs.declared.flat.Instruction.{Instruction}
use Rattle.slot_code.specs.declared.flat.Instruction.TheVariants as i
use Rattle.slot_code.specs.Slots.{get, put, slots_through}
use Rattle.slot_code.specs.Machine.{Machine, Next, Goes, Over, fills, goes, act_with, taken_of, returned_in}
use Rattle.slot_code.specs.Machine as w
use Rattle.typed_range_laws.specs.Ways.{Way, write_kept}
use Rattle.code_moves.specs.Setting.{Setting}
use Rattle.code_flow_laws.proofs.Ranging.{Range}
use Rattle.cfg_build.specs.Steps.{Checked}
use Rattle.cfg_build.specs.Keeping.{is_inside, stays, filled_by}
use Rattle.cfg_build.specs.Follows.{Plan, Follows, node_of}
use Rattle.code_move_laws.specs.Steps.{IsPlain}

-- one slot got a value, or none did
abbrev pub Filled : Option ℕ → List ℤ → List ℤ → Type 0
Filled None slots new = new ≡ slots
Filled (Some s) slots new = (v : ℤ) × (new ≡ put slots s v)

abbrev pub FilledIn : Option ℕ → List ℤ → Next → Type 0
FilledIn o slots (Goes n) = Filled o slots n.slots
FilledIn o slots (Over e) = Unit {0}

fills-in : (place : ℕ) (slots : List ℤ) (slot : ℕ) (got : Got ℤ) → FilledIn (Some slot) slots (fills place slots slot got)
fills-in place slots slot (Value v st) = (v, refl)
fills-in place slots slot (Stop e) = tt

goes-in : (place : ℕ) (slots : List ℤ) (got : Got (Unit {0})) → FilledIn None slots (goes place slots got)
goes-in place slots (Value v st) = refl
goes-in place slots (Stop e) = tt

next-slot : (place : ℕ) (slots : List ℤ) (slot : ℕ) (got : Got ℤ) → FilledIn (Some (slot + 1)) slots (fills place slots (suc slot) got)
next-slot place slots slot got =
    let same : suc slot ≡ slot + 1 = omega arith in
    subst (λ (k : ℕ). FilledIn (Some k) slots (fills place slots (suc slot) got)) same (fills-in place slots (suc slot) got)

module _ (model : Model) (compute : Compute) (inputs : List ℤ) (way : Way) where
  pub filled : (x : Instruction) (place : ℕ) (slots : List ℤ) (st : State) → IsPlain x → FilledIn (filled_by x) slots (act_with model compute inputs way x place slots st)
  filled (i.Constant slot v) place slots st h = fills-in place slots slot (Value v st)
  filled (i.Read slot object) place slots st h = fills-in place slots slot (read (scalar object) st)
  filled (i.Element slot at object count) place slots st h = fills-in place slots slot (w.element_read model compute inputs at object count (get slots slot) st)
  filled (i.Locate slot at object count) place slots st h = fills-in place slots slot (w.index_found model compute inputs at object count (get slots slot) st)
  filled (i.Load slot object) place slots st h = next-slot place slots slot (read (way.pick object (get slots slot)) st)
  filled (i.Store slot object) place slots st h = fills-in place slots slot (write_kept way object (get slots slot) (get slots (suc slot)) st)
  filled (i.Convert slot k) place slots st h = fills-in place slots slot (Value (converted k model (get slots slot)) st)
  filled (i.Negate slot k at) place slots st h = fills-in place slots slot (computed at (compute arithmetic.Sub k (pos 0) (get slots slot)) st)
  filled (i.Complement slot k at) place slots st h = fills-in place slots slot (computed at (compute arithmetic.Xor k (get slots slot) (converted k model (negsuc 0))) st)
  filled (i.Not slot) place slots st h = fills-in place slots slot (Value (truth (is_zero (get slots slot))) st)
  filled (i.Truth slot) place slots st h = fills-in place slots slot (Value (truth (is_true (get slots slot))) st)
  filled (i.Binary slot o k at) place slots st h = fills-in place slots slot (w.applied model compute inputs at o k (get slots slot) (get slots (suc slot)) st)
  filled (i.Update slot o k l at object) place slots st h = fills-in place slots slot (w.updated model compute inputs at o k l (way.pick object (get slots slot)) (get slots (suc slot)) (get slots (suc (suc slot))) st)
  filled (i.Change slot before by k at object) place slots st h = fills-in place slots slot (w.changed model compute inputs at before by k (way.pick object (get slots slot)) (way.back object (get slots slot)) st)
  filled (i.Draw slot k) place slots st h = fills-in place slots slot (draw inputs model k st)
  filled (i.Fill object k count) place slots st h = goes-in (suc place) slots (w.filled model compute inputs object k count st)
  filled (i.Begin slot object count values) place slots st h = goes-in (suc place) slots (store_all object (padded count (slots_through (way.keep object) slots slot values)) st)
  filled (i.Bind slot object) place slots st h = goes-in (suc place) slots (store_all object (way.keep object (get slots slot) ∷ []) st)
  filled (i.Jump skip) place slots st h = absurd h
  filled (i.SkipZero slot skip) place slots st h = absurd h
  filled (i.SkipEqual slot v skip) place slots st h = absurd h
  filled (i.Turn at goal) place slots st h = absurd h
  filled (i.Call at goal slot) place slots st h = absurd h
  filled (i.Take slot at from needed) place slots st h = fills-in place slots slot (taken_of needed at (returned_in slots from) st)
  filled (i.Return slot) place slots st h = absurd h
  filled (i.Fail kind at) place slots st h = absurd h
  filled i.Stop place slots st h = absurd h

-- ---- It goes on behind itself, and its node has its checks

pub goes-behind : (r : Range) (place : ℕ) (x : Instruction) → IsPlain x → stays r place x ≡ is_inside r (place + 1)
goes-behind r place (i.Constant slot v) h = refl
goes-behind r place (i.Read slot object) h = refl
goes-behind r place (i.Element slot at object count) h = refl
goes-behind r place (i.Locate slot at object count) h = refl
goes-behind r place (i.Load slot object) h = refl
goes-behind r place (i.Store slot object) h = refl
goes-behind r place (i.Convert slot k) h = refl
goes-behind r place (i.Negate slot k at) h = refl
goes-behind r place (i.Complement slot k at) h = refl
goes-behind r place (i.Not slot) h = refl
goes-behind r place (i.Truth slot) h = refl
goes-behind r place (i.Binary slot o k at) h = refl
goes-behind r place (i.Update slot o k l at object) h = refl
goes-behind r place (i.Change slot before by k at object) h = refl
goes-behind r place (i.Draw slot k) h = refl
goes-behind r place (i.Fill object k count) h = refl
goes-behind r place (i.Begin slot object count values) h = refl
goes-behind r place (i.Bind slot object) h = refl
goes-behind r place (i.Jump skip) h = absurd h
goes-behind r place (i.SkipZero slot skip) h = absurd h
goes-behind r place (i.SkipEqual slot v skip) h = absurd h
goes-behind r place (i.Turn at goal) h = absurd h
goes-behind r place (i.Call at goal slot) h = absurd h
goes-behind r place (i.Take slot at from needed) h = refl
goes-behind r place (i.Return slot) h = absurd h
goes-behind r place (i.Fail kind at) h = absurd h
goes-behind r place i.Stop h = absurd h

module _ (p : Plan) (g : Setting) (table : Table) (place n : ℕ) (nodes : List Node) (edges : List Edge) where
  pub checked : (x : Instruction) → IsPlain x → Follows p g table place x n nodes edges → Checked g table x (node_of p (place + 1)) n nodes edges
  checked (i.Constant slot v) h f = f
  checked (i.Read slot object) h f = f
  checked (i.Element slot at object count) h f = f
  checked (i.Locate slot at object count) h f = f
  checked (i.Load slot object) h f = f
  checked (i.Store slot object) h f = f
  checked (i.Convert slot k) h f = f
  checked (i.Negate slot k at) h f = f
  checked (i.Complement slot k at) h f = f
  checked (i.Not slot) h f = f
  checked (i.Truth slot) h f = f
  checked (i.Binary slot o k at) h f = f
  checked (i.Update slot o k l at object) h f = f
  checked (i.Change slot before by k at object) h f = f
  checked (i.Draw slot k) h f = f
  checked (i.Fill object k count) h f = f
  checked (i.Begin slot object count values) h f = f
  checked (i.Bind slot object) h f = f
  checked (i.Jump skip) h f = absurd h
  checked (i.SkipZero slot skip) h f = absurd h
  checked (i.SkipEqual slot v skip) h f = absurd h
  checked (i.Turn at goal) h f = absurd h
  checked (i.Call at goal slot) h f = absurd h
  checked (i.Take slot at from needed) h f = f
  checked (i.Return slot) h f = absurd h
  checked (i.Fail kind at) h f = absurd h
  checked i.Stop h f = absurd h
