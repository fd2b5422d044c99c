-- One turn of the machine's loop.
use Rattle.std.proofs.Common.{◌≡◌, ℕ, ◌<◌, List, Some, None, sym, ap, subst, ◌∙◌, ℤ}
use Rattle.std.specs.Prelude.{slice_get}
use Rattle.lv_base.specs.declared.kind.Model.{Model}
use Rattle.c_run.specs.Run.{State, Compute}
use Rattle.typed_range_laws.specs.Ways.{as_it_is}
use Rattle.slot_code.specs.declared.flat.Instruction.{Instruction}
use Rattle.slot_code.specs.declared.reply.Ending.{Ending}
use Rattle.slot_code.specs.declared.reply.Ending.TheVariants as ending
use Rattle.slot_code.specs.Machine.{Machine, machine, Next, Goes, Over, act, act_at, onward, rank, run_from}
use Rattle.slot_laws.specs.Laws.{Falls}
use Rattle.slot_laws.proofs.Running.{goes_on, ranks_fall}

module _ (model : Model) (compute : Compute) (inputs : List ℤ) (code : List Instruction) where
  abbrev all : Machine → Ending
  all m = run_from model compute inputs code m

  leads : (place : ℕ) (x : Instruction) (slots : List ℤ) (st : State) (n : Next) → slice_get code place ≡ Some x → n ≡ act model compute inputs x place slots st →
      all (machine place slots st) ≡ onward model compute inputs code n (run_from model compute inputs code)
  leads place x slots st n at h =
      goes_on model compute inputs as_it_is code (machine place slots st)
      ∙ ap (λ o. onward model compute inputs code (act_at model compute inputs o (machine place slots st)) (run_from model compute inputs code)) at
      ∙ ap (λ k. onward model compute inputs code k (run_from model compute inputs code)) (sym h)

  pub runs_on : (place : ℕ) (x : Instruction) (slots : List ℤ) (st : State) (m : Machine) → slice_get code place ≡ Some x → Goes m ≡ act model compute inputs x place slots st →
      run_from model compute inputs code m ≡ run_from model compute inputs code (machine place slots st)
  runs_on place x slots st m at h = sym (leads place x slots st (Goes m) at h)

  pub runs_over : (place : ℕ) (x : Instruction) (slots : List ℤ) (st : State) (e : Ending) → slice_get code place ≡ Some x → Over e ≡ act model compute inputs x place slots st →
      e ≡ run_from model compute inputs code (machine place slots st)
  runs_over place x slots st e at h = sym (leads place x slots st (Over e) at h)

  pub runs_behind : (place : ℕ) (slots : List ℤ) (st : State) → slice_get code place ≡ None → ending.Ended ≡ run_from model compute inputs code (machine place slots st)
  runs_behind place slots st b =
      sym (goes_on model compute inputs as_it_is code (machine place slots st)
      ∙ ap (λ o. onward model compute inputs code (act_at model compute inputs o (machine place slots st)) (run_from model compute inputs code)) b)

  pub rank_falls : (place : ℕ) (x : Instruction) (slots : List ℤ) (st : State) (m : Machine) → slice_get code place ≡ Some x → Goes m ≡ act model compute inputs x place slots st →
      rank model compute inputs code m < rank model compute inputs code (machine place slots st)
  rank_falls place x slots st m at h =
      subst (Falls model compute inputs code (machine place slots st)) (ap (λ o. act_at model compute inputs o (machine place slots st)) at ∙ sym h) (ranks_fall model compute inputs as_it_is code (machine place slots st))
