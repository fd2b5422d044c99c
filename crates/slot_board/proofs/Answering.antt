-- What is seen of a run's parts.
use Rattle.std.proofs.Common.{◌≡◌, ℕ, zero, suc, ◌<◌, List, [], ◌∷◌, length, set, arith, Result, refl, ap, ◌∙◌, ℤ}
use Rattle.c_run.specs.Run.{State, Got, Value, Stop, Run, after, computed}
use Rattle.lv_base.specs.declared.fault.ErrorKind.{ErrorKind}
use Rattle.slot_code.specs.declared.reply.Ending.{Ending}
use Rattle.slot_code.specs.Slots.{put}
use Rattle.slot_code.specs.Machine.{Next, Over, fills, goes, ending_of}
use Rattle.slot_board.specs.Seen.{Reply, Gave, Ends, seen, reply, filled_by}

-- what ends a part ends the whole
pub over_after : {A B : Type 0} (g : Got A) (k : A → Run B) (e : Ending) → seen g ≡ Ends e → seen (after g k) ≡ Ends e
over_after (Value v st) k e h = cc
over_after (Stop x) k e h = let f : ending_of x ≡ e = cc in ap Ends f

pub gave_value : {A : Type 0} (g : Got A) (v : A) (st : State) → seen g ≡ Gave v st → g ≡ Value v st
gave_value (Value w st1) v st h = cc
gave_value (Stop e) v st h = cc

pub filled_seen : (place : ℕ) (slots : List ℤ) (slot : ℕ) (g : Got ℤ) → filled_by place slots slot (seen g) ≡ fills place slots slot g
filled_seen place slots slot (Value v st) = refl
filled_seen place slots slot (Stop e) = refl

-- an answer that is what a run gives gets into its slot
pub fills_reply : (n : Next) (place : ℕ) (slots : List ℤ) (slot : ℕ) (r : Reply ℤ) (g : Got ℤ) → n ≡ filled_by place slots slot r → r ≡ seen g → n ≡ fills place slots slot g
fills_reply n place slots slot r g h e = h ∙ ap (filled_by place slots slot) e ∙ filled_seen place slots slot g

pub over_goes : {A : Type 0} (place : ℕ) (slots : List ℤ) (g : Got A) (k : A → Run (Unit {0})) (e : Ending) → seen g ≡ Ends e → Over e ≡ goes place slots (after g k)
over_goes place slots (Value v st) k e h = cc
over_goes place slots (Stop x) k e h = cc

pub set_put : (slots : List ℤ) (slot : ℕ) (v : ℤ) → slot < length slots → set slots slot v ≡ put slots slot v
set_put [] slot v b = absurd (omega arith)
set_put (x ∷ xs) zero v b = refl
set_put (x ∷ xs) (suc slot) v b = ap (λ ys. x ∷ ys) (set_put xs slot v (omega arith))

-- an operation's value gets into its slot, or its error ends the run
pub answered : (place : ℕ) (slots : List ℤ) (slot at : ℕ) (st : State) (r s : Result ℤ ErrorKind) (got : Result ℤ Ending) (n : Next) →
    n ≡ filled_by place slots slot (reply got st) → reply got st ≡ seen (computed at r st) → r ≡ s → n ≡ fills place slots slot (computed at s st)
answered place slots slot at st r s got n h g e =
    fills_reply n place slots slot (reply got st) (computed at s st) h (g ∙ ap (λ t. seen (computed at t st)) e)
