-- How statements are entered and left (C11 6.8), and what loops, switches and calls make of it.
use Rattle.std.specs.Prelude.{ℕ, zero, suc, List, [], ◌∷◌, Option, None, ℤ}
use Rattle.lv_base.specs.declared.kind.Kind.{Kind}
use Rattle.c_run.specs.Run.{Run, give, ◌>>=◌, ◌>>◌, choose, spent, turn, is_true, store_all}

-- where a jump goes: to a label by its name, or into a switch, to the case of this value once converted to this kind, or
-- to `default`
pub data Place : Type 0 where
  toLabel : (name : List ℕ) → Place
  toCase : (kind : Kind) (value : ℤ) → Place
  toDefault : Place

-- where a statement is entered: at its start, or at a place in it
pub data From : Type 0 where
  Start : From
  Seek : (place : Place) → From

-- how a statement is left; `Absent`: the place that was sought is not in it, and nothing was done
pub data Exit : Type 0 where
  Normal : Exit
  Broke : Exit
  Continued : Exit
  Returned : (value : Option ℤ) → Exit
  Jumped : (label : List ℕ) → Exit
  Absent : Exit

-- ---- Statements in a row

-- goes on where the statement before ended normally
abbrev pub then_do : Exit → Run Exit → Run Exit
then_do Normal next = next
then_do exit next = give exit

-- seeks on where the place was not in the statement before
abbrev pub or_else : Exit → Run Exit → Run Exit
or_else Absent next = next
or_else exit next = give exit

-- behind the statement that holds the place the next one starts; where none held it the next one is sought
abbrev pub found : Exit → Run Exit → Run Exit → Run Exit
found Normal start seek = start
found Absent start seek = seek
found exit start seek = give exit

-- ---- Loops (C11 6.8.5)

-- behind a loop's body
abbrev pub next_turn : Exit → Run Exit → Run Exit
next_turn Normal again = again
next_turn Continued again = again
next_turn Broke again = give Normal
next_turn exit again = give exit

-- A loop from its condition on, which has the loop's keyword at this offset. Each evaluation of the condition takes a turn
-- before it. `step` is the third part of a `for`. Not more than `n` turns are taken, and there are not more.
abbrev pub loop : ℕ → ℕ → Run ℤ → Run Exit → Run (Unit {0}) → Run Exit
loop at zero test body step = spent at
loop at (suc n) test body step = do
  turn at
  v ← test
  choose (is_true v) (do exit ← body; next_turn exit (do step; loop at n test body step)) (give Normal)

-- ---- Switches (C11 6.8.4.2)

-- `break` leaves a switch
abbrev pub leave_switch : Exit → Exit
leave_switch Broke = Normal
leave_switch exit = exit

-- without a case of this value and without `default` nothing is done
abbrev pub leave_cases : Exit → Exit
leave_cases Broke = Normal
leave_cases Absent = Normal
leave_cases exit = exit

-- the body from the case of this value, else from `default`
abbrev pub switch_on : (From → Run Exit) → Kind → ℤ → Run Exit
switch_on body kind v = do
  at_case ← body (Seek (toCase kind v))
  exit ← or_else at_case (body (Seek toDefault))
  give (leave_cases exit)

-- ---- Calls (C11 6.5.2.2, 6.8.6.1, 6.9.1)

-- what a call of a function means: its number, the offset of the called name, the values of the arguments; it gives what
-- was returned
abbrev pub Calls : Type 0
Calls = ℕ → ℕ → List ℤ → Run (Option ℤ)

-- what a left body returned; behind a jump it goes on at the label
abbrev pub left_by : Exit → (List ℕ → Run (Option ℤ)) → Run (Option ℤ)
left_by (Returned v) again = give v
left_by (Jumped label) again = again label
left_by exit again = give None

-- A function's body, which is entered again at the label behind each jump. A jump took a turn, so that it is entered less
-- than `n` times where less than `n` turns were left.
abbrev pub enter : ℕ → (From → Run Exit) → From → Run (Option ℤ)
enter zero body from = spent 0
enter (suc n) body from = do
  exit ← body from
  left_by exit (λ label. enter n body (Seek (toLabel label)))

-- the arguments become the values of the parameters, each an object
abbrev pub bind_parameters : List ℕ → List ℤ → Run (Unit {0})
bind_parameters (object ∷ objects) (v ∷ vs) = do
  store_all object (v ∷ [])
  bind_parameters objects vs
bind_parameters _ _ = give tt
