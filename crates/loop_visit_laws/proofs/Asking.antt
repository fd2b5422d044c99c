-- A machine that is out of turns stands at an instruction that takes one.
use Rattle.std.proofs.Common.{◌≡◌, ℕ, zero, suc, nat_eq, Bool, true, false, refl, ap, ◌∙◌, List, Option, None, Some, slice_get, ℤ}
use Rattle.std.proofs.lemmas.Bool.{eqb-true}
use Rattle.std.proofs.lemmas.Option.{same_Some, none-some}
use Rattle.lv_base.specs.declared.kind.Model.{Model}
use Rattle.c_run.specs.Run.{State, Compute, choose}
use Rattle.slot_code.specs.declared.flat.Instruction.{Instruction}
use Rattle.slot_code.specs.declared.flat.Instruction.TheVariants as i
use Rattle.slot_code.specs.declared.reply.Ending.{Ending}
use Rattle.slot_code.specs.declared.reply.Ending.TheVariants as ending
use Rattle.slot_code.specs.Machine.{Machine, Next, Goes, Over, step_with}
use Rattle.typed_range_laws.specs.Ways.{Way}
use Rattle.slot_turn_laws.specs.Turns.{turned_at, turned_by, onward_turned, turned_within}
use Rattle.code_visit_laws.specs.Visits.{behind}

-- an instruction takes a turn at this offset, and the objects hold these values
pub record Turning (at : ℕ) (o : Option Instruction) (st : State) (values : List (List ℤ)) : Type 0 where
  pub goal : ℕ
  pub is : o ≡ Some (i.Turn at goal)
  pub store : st.store ≡ values

turning-if : (at other goal : ℕ) (st : State) (values : List (List ℤ)) (b : Bool) → nat_eq other at ≡ b → choose b (Some st.store) None ≡ Some values → Turning at (Some (i.Turn other goal)) st values
turning-if at other goal st values true e h = record { goal = goal; is = ap (λ (n : ℕ). Some (i.Turn n goal)) (eqb-true other at e); store = same_Some st.store values h }
turning-if at other goal st values false e h = absurd (none-some values h)

turning-at : (at : ℕ) (x : Instruction) (st : State) (values : List (List ℤ)) → turned_at at (Some x) st ≡ Some values → Turning at (Some x) st values
turning-at at (i.Turn other goal) st values h = turning-if at other goal st values (nat_eq other at) refl h
turning-at at x st values h = absurd (none-some values h)

turning : (at : ℕ) (o : Option Instruction) (st : State) (values : List (List ℤ)) → turned_at at o st ≡ Some values → Turning at o st values
turning at None st values h = absurd (none-some values h)
turning at (Some x) st values h = turning-at at x st values h

turning-by : (at : ℕ) (o : Option Instruction) (st : State) (e : Ending) (values : List (List ℤ)) → turned_by at o st e ≡ Some values → Turning at o st values
turning-by at o st ending.Spent values h = turning at o st values h
turning-by at o st (ending.Error kind offset taken) values h = absurd (none-some values h)
turning-by at o st ending.Ended values h = absurd (none-some values h)
turning-by at o st ending.NoInput values h = absurd (none-some values h)
turning-by at o st (ending.BadInput number) values h = absurd (none-some values h)

module _ (model : Model) (compute : Compute) (inputs : List ℤ) (way : Way) (code : List Instruction) (at : ℕ) where
  -- behind some instructions the machine stands at one that takes a turn at the offset
  pub record Asks (m : Machine) (values : List (List ℤ)) : Type 0 where
    pub steps : ℕ
    pub last : Machine
    pub comes : behind model compute inputs way code steps (Goes m) ≡ Some last
    pub turns : Turning at (slice_get code last.place) last.st values

  asks-next : (n : ℕ) (m : Machine) (next : Next) (values : List (List ℤ)) → step_with model compute inputs way code m ≡ next
      → onward_turned model compute inputs way code at (slice_get code m.place) m.st next (turned_within model compute inputs way code at n) ≡ Some values
      → ((x : Machine) → turned_within model compute inputs way code at n x ≡ Some values → Asks x values) → Asks m values
  asks-next n m (Goes x) values is h later =
      let a = later x h in
      record { steps = suc a.steps; last = a.last; comes = ap (behind model compute inputs way code a.steps) is ∙ a.comes; turns = a.turns }
  asks-next n m (Over e) values is h later =
      record { steps = 0; last = m; comes = refl; turns = turning-by at (slice_get code m.place) m.st e values h }

  pub asks : (n : ℕ) (m : Machine) (values : List (List ℤ)) → turned_within model compute inputs way code at n m ≡ Some values → Asks m values
  asks zero m values h = absurd (none-some values h)
  asks (suc n) m values h = asks-next n m (step_with model compute inputs way code m) values refl h (λ x e. asks n x values e)
