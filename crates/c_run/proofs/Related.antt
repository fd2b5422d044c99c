-- Relations between runs that are kept by all words over which meanings are written. A law over a meaning is then one
-- induction on its trees, for each such relation.
use Rattle.std.proofs.Common.{ℕ, zero, suc, ◌≤◌, Bool, true, false, List, [], ◌∷◌, Option, None, Result, Ok, Err, ℤ, arith}
use Rattle.lv_base.specs.declared.kind.Kind.{Kind}
use Rattle.lv_base.specs.declared.kind.Model.{Model}
use Rattle.lv_base.specs.declared.fault.ErrorKind.{ErrorKind}
use Rattle.lv_base.specs.declared.fault.ErrorKind.TheVariants as error
use Rattle.c_run.specs.Run.{Ended, Run, give, ◌>>=◌, ◌>>◌, choose, stop, fail, spent, turn, Element, read, store_all, write, located, draw, draw_all, computed, is_true}
use Rattle.c_run.specs.Loops.{toLabel, From, Seek, Exit, Normal, Broke, Continued, Returned, Jumped, Absent, then_do, or_else, found, next_turn, loop, leave_cases, switch_on, toCase, toDefault, left_by, enter}

-- `R` relates two runs, and `P` says where an error may be.
pub record Kept (R : (A : Type 0) → Run A → Run A → Type 0) (P : ℕ → Type 0) : Type 1 where
  pub gives : (A : Type 0) (v : A) → R A (give v) (give v)
  pub binds : (A B : Type 0) (m m' : Run A) (f f' : A → Run B) → R A m m' → ((v : A) → R B (f v) (f' v)) → R B (m >>= f) (m' >>= f')
  pub fails : (A : Type 0) (kind : ErrorKind) (at : ℕ) → P at → R A (fail kind at) (fail kind at)
  pub stops : (A : Type 0) → R A (stop Ended) (stop Ended)
  pub spends : (A : Type 0) (at : ℕ) (m : Run A) → R A (spent at) m
  pub turns : (at : ℕ) → R (Unit {0}) (turn at) (turn at)
  pub reads : (e : Element) → R ℤ (read e) (read e)
  pub writes : (e : Element) (v : ℤ) → R ℤ (write e v) (write e v)
  pub stores : (object : ℕ) (vs : List ℤ) → R (Unit {0}) (store_all object vs) (store_all object vs)

module _ (R : (A : Type 0) → Run A → Run A → Type 0) (P : ℕ → Type 0) (k : Kept R P) where
  pub chosen : (A : Type 0) (b : Bool) (m m' n n' : Run A) → R A m m' → R A n n' → R A (choose b m n) (choose b m' n')
  chosen A true m m' n n' x y = x
  chosen A false m m' n n' x y = y

  -- one after the other, where the first gives nothing
  pub then_next : (B : Type 0) (m m' : Run (Unit {0})) (f f' : Run B) → R (Unit {0}) m m' → R B f f' → R B (m >> f) (m' >> f')
  then_next B m m' f f' x y = k.binds (Unit {0}) B m m' (λ _. f) (λ _. f') x (λ _. y)

  pub after_value : (B : Type 0) (m m' : Run ℤ) (f f' : Run B) → R ℤ m m' → R B f f' → R B (m >> f) (m' >> f')
  after_value B m m' f f' x y = k.binds ℤ B m m' (λ _. f) (λ _. f') x (λ _. y)

  pub computes : (at : ℕ) (r : Result ℤ ErrorKind) → P at → R ℤ (computed at r) (computed at r)
  computes at (Ok v) p = k.gives ℤ v
  computes at (Err e) p = k.fails ℤ e at p

  pub locates : (at object count : ℕ) (v : ℤ) → P at → R Element (located at object count v) (located at object count v)
  locates at object count v p = chosen Element _ _ _ _ _ (k.gives Element _) (k.fails Element error.Index at p)

  pub draws : (inputs inputs' : List ℤ) (model : Model) (kind : Kind) → R ℤ (draw inputs model kind) (draw inputs' model kind) → (count : ℕ) → R (List ℤ) (draw_all inputs model kind count) (draw_all inputs' model kind count)
  draws inputs inputs' model kind d zero = k.gives (List ℤ) []
  draws inputs inputs' model kind d (suc count) =
      k.binds ℤ (List ℤ) _ _ _ _ d (λ v. k.binds (List ℤ) (List ℤ) _ _ _ _ (draws inputs inputs' model kind d count) (λ vs. k.gives (List ℤ) (v ∷ vs)))

  -- ---- Statements

  pub then_kept : (exit : Exit) (m m' : Run Exit) → R Exit m m' → R Exit (then_do exit m) (then_do exit m')
  then_kept Normal m m' x = x
  then_kept exit m m' x = k.gives Exit exit

  pub else_kept : (exit : Exit) (m m' : Run Exit) → R Exit m m' → R Exit (or_else exit m) (or_else exit m')
  else_kept Absent m m' x = x
  else_kept exit m m' x = k.gives Exit exit

  pub found_kept : (exit : Exit) (m m' n n' : Run Exit) → R Exit m m' → R Exit n n' → R Exit (found exit m n) (found exit m' n')
  found_kept Normal m m' n n' x y = x
  found_kept Absent m m' n n' x y = y
  found_kept exit m m' n n' x y = k.gives Exit exit

  pub next_kept : (exit : Exit) (m m' : Run Exit) → R Exit m m' → R Exit (next_turn exit m) (next_turn exit m')
  next_kept Normal m m' x = x
  next_kept Continued m m' x = x
  next_kept Broke m m' x = k.gives Exit Normal
  next_kept exit m m' x = k.gives Exit exit

  -- of the second loop at least as many turns are let
  pub loop_kept : (at n n' : ℕ) (test test' : Run ℤ) (body body' : Run Exit) (step step' : Run (Unit {0})) → n ≤ n' → R ℤ test test' → R Exit body body' → R (Unit {0}) step step' → R Exit (loop at n test body step) (loop at n' test' body' step')
  loop_kept at zero n' test test' body body' step step' le t b s = k.spends Exit at _
  loop_kept at (suc n) zero test test' body body' step step' le t b s = absurd (omega arith)
  loop_kept at (suc n) (suc n') test test' body body' step step' le t b s =
      then_next Exit _ _ _ _ (k.turns at) (k.binds ℤ Exit _ _ _ _ t (λ v. chosen Exit (is_true v) _ _ _ _
      (k.binds Exit Exit _ _ _ _ b (λ exit. next_kept exit _ _ (then_next Exit _ _ _ _ s (loop_kept at n n' test test' body body' step step' (omega arith) t b s))))
      (k.gives Exit Normal)))

  pub switch_kept : (body body' : From → Run Exit) (kind : Kind) (v : ℤ) → ((from : From) → R Exit (body from) (body' from)) → R Exit (switch_on body kind v) (switch_on body' kind v)
  switch_kept body body' kind v b =
      k.binds Exit Exit _ _ _ _ (b (Seek (toCase kind v))) (λ x. k.binds Exit Exit _ _ _ _ (else_kept x _ _ (b (Seek toDefault))) (λ exit. k.gives Exit (leave_cases exit)))

  pub left_kept : (exit : Exit) (go go' : List ℕ → Run (Option ℤ)) → ((l : List ℕ) → R (Option ℤ) (go l) (go' l)) → R (Option ℤ) (left_by exit go) (left_by exit go')
  left_kept (Returned v) go go' x = k.gives (Option ℤ) v
  left_kept (Jumped l) go go' x = x l
  left_kept exit go go' x = k.gives (Option ℤ) None

  pub enter_kept : (n n' : ℕ) (body body' : From → Run Exit) (from : From) → n ≤ n' → ((from : From) → R Exit (body from) (body' from)) → R (Option ℤ) (enter n body from) (enter n' body' from)
  enter_kept zero n' body body' from le b = k.spends (Option ℤ) 0 _
  enter_kept (suc n) zero body body' from le b = absurd (omega arith)
  enter_kept (suc n) (suc n') body body' from le b =
      k.binds Exit (Option ℤ) _ _ _ _ (b from) (λ exit. left_kept exit _ _ (λ l. enter_kept n n' body body' (Seek (toLabel l)) (omega arith) b))
