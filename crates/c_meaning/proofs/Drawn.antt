-- A run draws no more inputs than there are.
use Rattle.std.proofs.Common.{◌≡◌, ℕ, zero, suc, ◌≤◌, Bool, true, false, List, length, Option, Some, None, ℤ, slice_get, refl, ap, subst, arith}
use Rattle.std.proofs.lemmas.Option.{slice_get_within}
use Rattle.lv_base.specs.declared.kind.Kind.{Kind}
use Rattle.lv_base.specs.declared.kind.Model.{Model}
use Rattle.lv_base.specs.declared.fault.ErrorKind.{ErrorKind}
use Rattle.lv_base.specs.Integers.{is_in_range}
use Rattle.c_run.specs.Run.{State, End, Error, Ended, NoInput, BadInput, Spent, Got, Value, Stop, Run, after, choose, turn, drawn, draw, with_taken}
use Rattle.c_run.proofs.Related.{Kept}
use Rattle.c_meaning.specs.Program.{functions_of, env_of, main_number, end_of_run}
use Rattle.c_meaning.specs.Laws.{DrawnAreThere}
use Rattle.c_meaning.proofs.Runs.{all_functions, main_kept, reflexive}

-- at most so many inputs were drawn, also where an error is met
abbrev Within : ℕ → {A : Type 0} → Got A → Type 0
Within most (Value v st) = st.taken ≤ most
Within most (Stop (Error kind at taken)) = taken ≤ most
Within most (Stop e) = Unit {0}

-- the first run stays within them (the other one is not looked at)
abbrev StaysWithin : ℕ → (A : Type 0) → Run A → Run A → Type 0
StaysWithin most A m m' = (st : State) → st.taken ≤ most → Within most (m st)

within_after : {A B : Type 0} (most : ℕ) (g : Got A) (f : A → Run B) → Within most g → ((v : A) (st : State) → st.taken ≤ most → Within most (f v st)) → Within most (after g f)
within_after most (Value v st) f x h = h v st x
within_after most (Stop (Error kind at taken)) f x h = x
within_after most (Stop Ended) f x h = tt
within_after most (Stop NoInput) f x h = tt
within_after most (Stop (BadInput n)) f x h = tt
within_after most (Stop (Spent at s n)) f x h = tt

turn_within : (most at : ℕ) (store : List (List ℤ)) (taken turns : ℕ) → taken ≤ most → Within most (turn at (record { store = store; taken = taken; turns = turns }))
turn_within most at store taken zero le = tt
turn_within most at store taken (suc n) le = le

within_kept : (most : ℕ) → Kept (StaysWithin most) (λ at. Unit {0})
within_kept most = record {
  gives = λ A v st le. le;
  binds = λ A B m m' f f' x h st le. within_after most (m st) f (x st le) h;
  fails = λ A kind at p st le. le;
  stops = λ A st le. tt;
  spends = λ A at m st le. tt;
  turns = λ at st le. turn_within most at st.store st.taken st.turns le;
  reads = λ e st le. le;
  writes = λ e v st le. le;
  stores = λ object vs st le. le;
}

chosen_within : (most : ℕ) (b : Bool) (v : ℤ) (st : State) → suc st.taken ≤ most → Within most (choose b (Value v (with_taken st (suc (st.taken)))) (Stop (BadInput st.taken)))
chosen_within most true v st le = le
chosen_within most false v st le = tt

-- an input is there where it is drawn
drawn_within : (inputs : List ℤ) (model : Model) (kind : Kind) (o : Option ℤ) (st : State) → slice_get inputs st.taken ≡ o → Within (length inputs) (drawn kind model o st)
drawn_within inputs model kind None st is = tt
drawn_within inputs model kind (Some v) st is = chosen_within (length inputs) (is_in_range kind model v) v st (slice_get_within inputs st.taken v is)

draw_within : (inputs : List ℤ) (model : Model) (kind : Kind) → StaysWithin (length inputs) ℤ (draw inputs model kind) (draw inputs model kind)
draw_within inputs model kind st le = drawn_within inputs model kind (slice_get inputs st.taken) st refl

end_within : (most : ℕ) (g : Got (Option ℤ)) (kind : ErrorKind) (at taken : ℕ) → Within most g → end_of_run g ≡ Error kind at taken → taken ≤ most
end_within most (Value v st) kind at taken x h = cc
end_within most (Stop (Error l b u)) kind at taken x h = subst (λ n. n ≤ most) (ap taken_of h) x
  where
    taken_of : End → ℕ
    taken_of (Error l b u) = u
    taken_of _ = 0
end_within most (Stop Ended) kind at taken x h = cc
end_within most (Stop NoInput) kind at taken x h = cc
end_within most (Stop (BadInput n)) kind at taken x h = cc
end_within most (Stop (Spent b s n)) kind at taken x h = cc

pub drawn_are_there : DrawnAreThere
drawn_are_there compute items model turns inputs kind at taken h =
    let env = env_of items model in
    let functions = functions_of env items in
    end_within (length inputs) _ kind at taken
    (main_kept (StaysWithin (length inputs)) (λ at. Unit {0}) (within_kept (length inputs)) env model compute inputs inputs functions (all_functions functions) (λ kind. draw_within inputs model kind) turns turns (reflexive turns) (main_number functions) _ (omega arith))
    h
