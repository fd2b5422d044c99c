-- A run that is followed goes on from each of its machines, and ends as the run does.
use Rattle.std.proofs.Common.{◌≡◌, ℕ, zero, suc, ◌≤◌, List, Option, Some, None, slice_get, refl, sym, ap, ◌∙◌, arith, ℤ}
use Rattle.lv_base.specs.declared.kind.Model.{Model}
use Rattle.c_run.specs.Run.{State, Compute}
use Rattle.typed_range_laws.specs.Guards.{guarded}
use Rattle.typed_range_laws.specs.Ways.{as_it_is}
use Rattle.slot_code.specs.declared.flat.Instruction.{Instruction}
use Rattle.slot_code.specs.declared.reply.Ending.{Ending}
use Rattle.slot_code.specs.declared.reply.Ending.TheVariants as ending
use Rattle.slot_code.specs.Machine.{Machine, machine, Next, Goes, Over, act, act_at, onward, walk, rank}
use Rattle.slot_laws.specs.Laws.{Falls as FallsIn}
use Rattle.slot_laws.proofs.Running.{ranks_fall}
use Rattle.run_events.specs.declared.trail.Trail.{Trail}
use Rattle.run_events.specs.Told.{events_of, with_events}
use Rattle.run_trace.specs.Runs.{Followed, followed, come_to, follow_next, follow_step, follow_walk, follow_from}

module _ (model : Model) (inputs : List ℤ) (code : List Instruction) where
  abbrev compute : Compute
  compute = λ op kind a b. guarded model op kind a b

  abbrev Falls : Machine → Next → Type 0
  Falls m n = FallsIn model compute inputs code m n

  abbrev ranked : Machine → ℕ
  ranked m = rank model compute inputs code m

  abbrev walked : ℕ → Machine → Trail → Followed
  walked n m t = follow_walk model inputs code n m t

  abbrev all : Machine → Trail → Followed
  all m t = follow_from model inputs code m t

  -- ---- More instructions than there are make no difference

  next_same : (j k : ℕ) (m : Machine) (x : Instruction) (t : Trail) (n : Next) → Falls m n → ((s : Machine) (u : Trail) → ranked s ≤ j → ranked s ≤ k → walked j s u ≡ walked k s u) →
      ranked m ≤ suc j → ranked m ≤ suc k → follow_next model inputs code x t n (walked j) ≡ follow_next model inputs code x t n (walked k)
  next_same j k m x t (Goes s) f h a b = h s (with_events t (events_of x t.place t.operands s.slots (s.st).store)) (omega (arith, f, a)) (omega (arith, f, b))
  next_same j k m x t (Over e) f h a b = refl

  step_same : (j k : ℕ) (m : Machine) (o : Option Instruction) (t : Trail) → Falls m (act_at model compute inputs o m) → ((s : Machine) (u : Trail) → ranked s ≤ j → ranked s ≤ k → walked j s u ≡ walked k s u) →
      ranked m ≤ suc j → ranked m ≤ suc k → follow_step model inputs code o m t (walked j) ≡ follow_step model inputs code o m t (walked k)
  step_same j k m None t f h a b = refl
  step_same j k m (Some x) t f h a b = next_same j k m x (come_to model inputs code x m t) (act model compute inputs x m.place m.slots m.st) f h a b

  walk_same : (j k : ℕ) (m : Machine) (t : Trail) → ranked m ≤ j → ranked m ≤ k → walked j m t ≡ walked k m t
  walk_same zero k m t a b = absurd (omega (arith, a))
  walk_same (suc j) zero m t a b = absurd (omega (arith, b))
  walk_same (suc j) (suc k) m t a b = step_same j k m (slice_get code m.place) t (ranks_fall model compute inputs as_it_is code m) (λ s u. walk_same j k s u) a b

  next_on : (r : ℕ) (m : Machine) (x : Instruction) (t : Trail) (n : Next) → Falls m n → ranked m ≡ suc r → follow_next model inputs code x t n (walked r) ≡ follow_next model inputs code x t n all
  next_on r m x t (Goes s) f e = walk_same r (ranked s) s (with_events t (events_of x t.place t.operands s.slots (s.st).store)) (omega (arith, f, e)) (omega arith)
  next_on r m x t (Over y) f e = refl

  step_on : (r : ℕ) (m : Machine) (o : Option Instruction) (t : Trail) → Falls m (act_at model compute inputs o m) → ranked m ≡ suc r → follow_step model inputs code o m t (walked r) ≡ follow_step model inputs code o m t all
  step_on r m None t f e = refl
  step_on r m (Some x) t f e = next_on r m x (come_to model inputs code x m t) (act model compute inputs x m.place m.slots m.st) f e

  goes_on : (m : Machine) (t : Trail) → all m t ≡ follow_step model inputs code (slice_get code m.place) m t all
  goes_on m t = step_on _ m (slice_get code m.place) t (ranks_fall model compute inputs as_it_is code m) refl

  -- ---- One instruction of a run

  leads : (place : ℕ) (x : Instruction) (slots : List ℤ) (st : State) (t : Trail) (n : Next) → slice_get code place ≡ Some x → n ≡ act model compute inputs x place slots st →
      follow_next model inputs code x (come_to model inputs code x (machine place slots st) t) n all ≡ all (machine place slots st) t
  leads place x slots st t n at h =
      sym (goes_on (machine place slots st) t ∙ ap (λ o. follow_step model inputs code o (machine place slots st) t all) at
      ∙ ap (λ k. follow_next model inputs code x (come_to model inputs code x (machine place slots st) t) k all) (sym h))

  -- behind its events the run is followed from the next machine
  pub follows_on : (place : ℕ) (x : Instruction) (slots : List ℤ) (st : State) (t : Trail) (m : Machine) (t0 t1 : Trail) → slice_get code place ≡ Some x → Goes m ≡ act model compute inputs x place slots st →
      t0 ≡ come_to model inputs code x (machine place slots st) t → t1 ≡ with_events t0 (events_of x t0.place t0.operands m.slots (m.st).store) → all m t1 ≡ all (machine place slots st) t
  follows_on place x slots st t m t0 t1 at h p q =
      ap (all m) q ∙ ap (λ (u : Trail). follow_next model inputs code x u (Goes m) all) p ∙ leads place x slots st t (Goes m) at h

  pub follows_over : (place : ℕ) (x : Instruction) (slots : List ℤ) (st : State) (t : Trail) (e : Ending) (t1 : Trail) → slice_get code place ≡ Some x → Over e ≡ act model compute inputs x place slots st →
      t1 ≡ come_to model inputs code x (machine place slots st) t → followed e t1 ≡ all (machine place slots st) t
  follows_over place x slots st t e t1 at h p = ap (followed e) p ∙ leads place x slots st t (Over e) at h

  pub follows_behind : (place : ℕ) (slots : List ℤ) (st : State) (t : Trail) → slice_get code place ≡ None → followed ending.Ended t ≡ all (machine place slots st) t
  follows_behind place slots st t b = sym (goes_on (machine place slots st) t ∙ ap (λ o. follow_step model inputs code o (machine place slots st) t all) b)

  -- ---- The ending

  next_ends : (n : ℕ) (x : Instruction) (t : Trail) (k : Next) → ((s : Machine) (u : Trail) → (walked n s u).ending ≡ walk model compute inputs code n s) →
      (follow_next model inputs code x t k (walked n)).ending ≡ onward model compute inputs code k (walk model compute inputs code n)
  next_ends n x t (Goes s) h = h s (with_events t (events_of x t.place t.operands s.slots (s.st).store))
  next_ends n x t (Over e) h = refl

  step_ends : (n : ℕ) (m : Machine) (o : Option Instruction) (t : Trail) → ((s : Machine) (u : Trail) → (walked n s u).ending ≡ walk model compute inputs code n s) →
      (follow_step model inputs code o m t (walked n)).ending ≡ onward model compute inputs code (act_at model compute inputs o m) (walk model compute inputs code n)
  step_ends n m None t h = refl
  step_ends n m (Some x) t h = next_ends n x (come_to model inputs code x m t) (act model compute inputs x m.place m.slots m.st) h

  pub walk_ends : (n : ℕ) (m : Machine) (t : Trail) → (walked n m t).ending ≡ walk model compute inputs code n m
  walk_ends zero m t = refl
  walk_ends (suc n) m t = step_ends n m (slice_get code m.place) t (walk_ends n)
