-- The relations between runs on which the laws rest: with more turns, on other inputs, and where errors are.
use Rattle.std.proofs.Common.{◌≡◌, ◌⊎◌, ℕ, zero, suc, ◌<◌, ◌≤◌, Bool, true, false, List, [], Option, Some, None, ℤ, pos, slice_get, slice_index_or, slice_set, inl, inr, ⊎_elim, refl, sym, ap, subst, arith}
use Rattle.lv_base.specs.declared.kind.Kind.{Kind}
use Rattle.lv_base.specs.declared.kind.Model.{Model}
use Rattle.lv_base.specs.Integers.{is_in_range}
use Rattle.c_run.specs.Run.{State, End, Error, Ended, NoInput, BadInput, Spent, Got, Value, Stop, Run, after, ◌>>=◌, choose, turn, drawn, draw, with_taken}
use Rattle.c_run.proofs.Related.{Kept}

-- ---- With more turns

pub record Later (st st' : State) : Type 0 where
  pub store : st.store ≡ st'.store
  pub taken : st.taken ≡ st'.taken
  pub turns : st.turns ≤ st'.turns

abbrev pub IsSpentEnd : End → Type 0
IsSpentEnd (Spent at store taken) = Unit {0}
IsSpentEnd _ = ⊥

abbrev pub IsSpentGot : {A : Type 0} → Got A → Type 0
IsSpentGot (Value v st) = ⊥
IsSpentGot (Stop e) = IsSpentEnd e

abbrev pub Follows : {A : Type 0} → Got A → Got A → Type 0
Follows (Value v st) (Value w st') = (v ≡ w) × Later st st'
Follows (Stop e) (Stop e') = e ≡ e'
Follows _ _ = ⊥

-- it is spent, or it is followed by the same with more turns
abbrev pub More : (A : Type 0) → Run A → Run A → Type 0
More A m m' = (st st' : State) → Later st st' → IsSpentGot (m st) ⊎ Follows (m st) (m' st')

more_after : {A B : Type 0} (g g' : Got A) (f f' : A → Run B) → IsSpentGot g ⊎ Follows g g' → ((v : A) → More B (f v) (f' v)) → IsSpentGot (after g f) ⊎ Follows (after g f) (after g' f')
more_after (Value v st) (Value w st') f f' x h = ⊎_elim (λ e. absurd e) (λ p. subst (λ u. IsSpentGot (f v st) ⊎ Follows (f v st) (f' u st')) p.0 (h v st st' p.1)) x
more_after (Value v st) (Stop e) f f' x h = ⊎_elim (λ e. absurd e) (λ p. absurd p) x
more_after (Stop e) (Value w st') f f' x h = ⊎_elim (λ p. inl p) (λ p. absurd p) x
more_after (Stop e) (Stop e') f f' x h = x

more_turn : (at : ℕ) (store store' : List (List ℤ)) (taken taken' turns turns' : ℕ) → store ≡ store' → taken ≡ taken' → turns ≤ turns' →
    let st : State = record { store = store; taken = taken; turns = turns } in let st' : State = record { store = store'; taken = taken'; turns = turns' } in
    IsSpentGot (turn at st) ⊎ Follows (turn at st) (turn at st')
more_turn at store store' taken taken' zero turns' s t le = inl tt
more_turn at store store' taken taken' (suc n) zero s t le = absurd (omega arith)
more_turn at store store' taken taken' (suc n) (suc m) s t le = inr (refl, record { store = s; taken = t; turns = omega arith })

pub more_kept : Kept More (λ at. Unit {0})
more_kept = record {
  gives = λ A v st st' l. inr (refl, l);
  binds = λ A B m m' f f' x h st st' l. more_after (m st) (m' st') f f' (x st st' l) h;
  fails = λ A kind at p st st' l. inr (ap (λ n. Error kind at n) l.taken);
  stops = λ A st st' l. inr refl;
  spends = λ A at m st st' l. inl tt;
  turns = λ at st st' l. more_turn at st.store st'.store st.taken st'.taken st.turns st'.turns l.store l.taken l.turns;
  reads = λ e st st' l. inr (ap (λ s. slice_index_or (slice_index_or s e.object []) e.index (pos 0)) l.store, l);
  writes = λ e v st st' l. inr (refl, record { store = ap (λ s. slice_set s e.object (slice_set (slice_index_or s e.object []) e.index v)) l.store; taken = l.taken; turns = l.turns });
  stores = λ object vs st st' l. inr (refl, record { store = ap (λ s. slice_set s object vs) l.store; taken = l.taken; turns = l.turns });
}

more_chosen : (b : Bool) (v : ℤ) (st st' : State) → Later st st' →
    Follows (choose b (Value v (with_taken st (suc (st.taken)))) (Stop (BadInput st.taken))) (choose b (Value v (with_taken st' (suc (st'.taken)))) (Stop (BadInput st'.taken)))
more_chosen true v st st' l = (refl, record { store = l.store; taken = ap (λ n. suc n) l.taken; turns = l.turns })
more_chosen false v st st' l = ap (λ n. BadInput n) l.taken

more_drawn : (kind : Kind) (model : Model) (o : Option ℤ) (st st' : State) → Later st st' → Follows (drawn kind model o st) (drawn kind model o st')
more_drawn kind model None st st' l = refl
more_drawn kind model (Some v) st st' l = more_chosen (is_in_range kind model v) v st st' l

pub more_draw : (inputs : List ℤ) (model : Model) (kind : Kind) → More ℤ (draw inputs model kind) (draw inputs model kind)
more_draw inputs model kind st st' l = inr (subst (λ n. Follows (draw inputs model kind st) (drawn kind model (slice_get inputs n) st')) l.taken (more_drawn kind model (slice_get inputs st.taken) st st' l))

-- ---- On other inputs

-- more than so many inputs were drawn, or no error was met
abbrev pub Beyond : ℕ → {A : Type 0} → Got A → Type 0
Beyond t (Value v st) = t < st.taken
Beyond t (Stop (Error kind at taken)) = t < taken
Beyond t (Stop e) = Unit {0}

-- the same as long as no more than so many inputs are drawn
pub record Alike (t : ℕ) (A : Type 0) (m m' : Run A) : Type 0 where
  pub same : (st : State) → Beyond t (m st) ⊎ (m' st ≡ m st)
  pub stays : (st : State) → t < st.taken → Beyond t (m st)

beyond_after : {A B : Type 0} (t : ℕ) (g : Got A) (f : A → Run B) → Beyond t g → ((v : A) (st : State) → t < st.taken → Beyond t (f v st)) → Beyond t (after g f)
beyond_after t (Value v st) f b h = h v st b
beyond_after t (Stop (Error kind at taken)) f b h = b
beyond_after t (Stop Ended) f b h = tt
beyond_after t (Stop NoInput) f b h = tt
beyond_after t (Stop (BadInput n)) f b h = tt
beyond_after t (Stop (Spent at s n)) f b h = tt

same_after : {A B : Type 0} (t : ℕ) (g : Got A) (f f' : A → Run B) → ((v : A) (st : State) → Beyond t (f v st) ⊎ (f' v st ≡ f v st)) → Beyond t (after g f) ⊎ (after g f' ≡ after g f)
same_after t (Value v st) f f' h = h v st
same_after t (Stop e) f f' h = inr refl

alike_binds : (t : ℕ) (A B : Type 0) (m m' : Run A) (f f' : A → Run B) → Alike t A m m' → ((v : A) → Alike t B (f v) (f' v)) → Alike t B (m >>= f) (m' >>= f')
alike_binds t A B m m' f f' x h = record {
  same = λ st. ⊎_elim (λ b. inl (beyond_after t (m st) f b (λ v s. (h v).stays s)))
      (λ e. subst (λ g. Beyond t (after (m st) f) ⊎ (after g f' ≡ after (m st) f)) (sym e) (same_after t (m st) f f' (λ v s. (h v).same s))) (x.same st);
  stays = λ st lt. beyond_after t (m st) f (x.stays st lt) (λ v s. (h v).stays s);
}

-- a run that draws nothing is like itself
turn_stays : (t at : ℕ) (store : List (List ℤ)) (taken turns : ℕ) → t < taken → Beyond t (turn at (record { store = store; taken = taken; turns = turns }))
turn_stays t at store taken zero lt = tt
turn_stays t at store taken (suc n) lt = lt

pub alike_kept : (t : ℕ) → Kept (Alike t) (λ at. Unit {0})
alike_kept t = record {
  gives = λ A v. record { same = λ st. inr refl; stays = λ st lt. lt };
  binds = alike_binds t;
  fails = λ A kind at p. record { same = λ st. inr refl; stays = λ st lt. lt };
  stops = λ A. record { same = λ st. inr refl; stays = λ st lt. tt };
  spends = λ A at m. record { same = λ st. inl tt; stays = λ st lt. tt };
  turns = λ at. record { same = λ st. inr refl; stays = λ st lt. turn_stays t at st.store st.taken st.turns lt };
  reads = λ e. record { same = λ st. inr refl; stays = λ st lt. lt };
  writes = λ e v. record { same = λ st. inr refl; stays = λ st lt. lt };
  stores = λ object vs. record { same = λ st. inr refl; stays = λ st lt. lt };
}

drawn_beyond : (t : ℕ) (b : Bool) (v : ℤ) (st : State) → t < suc (st.taken) → Beyond t (choose b (Value v (with_taken st (suc (st.taken)))) (Stop (BadInput st.taken)))
drawn_beyond t true v st lt = lt
drawn_beyond t false v st lt = tt

drawn_stays : (t : ℕ) (kind : Kind) (model : Model) (o : Option ℤ) (st : State) → t ≤ st.taken → Beyond t (drawn kind model o st)
drawn_stays t kind model None st le = tt
drawn_stays t kind model (Some v) st le = drawn_beyond t (is_in_range kind model v) v st (omega (arith, le))

-- these have the same first inputs
abbrev pub SameInputs : ℕ → List ℤ → List ℤ → Type 0
SameInputs t inputs others = (i : ℕ) → i < t → slice_get others i ≡ slice_get inputs i

split : (a b : ℕ) → (a < b) ⊎ (b ≤ a)
split zero zero = inr (omega arith)
split zero (suc b) = inl (omega arith)
split (suc a) zero = inr (omega arith)
split (suc a) (suc b) = ⊎_elim (λ h. inl (omega (arith, h))) (λ h. inr (omega (arith, h))) (split a b)

pub alike_draw : (t : ℕ) (inputs others : List ℤ) (model : Model) (kind : Kind) → SameInputs t inputs others → Alike t ℤ (draw inputs model kind) (draw others model kind)
alike_draw t inputs others model kind h = record {
  same = λ st. ⊎_elim (λ lt. inr (ap (λ o. drawn kind model o st) (h st.taken lt))) (λ le. inl (drawn_stays t kind model (slice_get inputs st.taken) st le)) (split st.taken t);
  stays = λ st lt. drawn_stays t kind model (slice_get inputs st.taken) st (omega (arith, lt));
}

-- ---- Where errors are

abbrev pub AtPlace : (ℕ → Type 0) → {A : Type 0} → Got A → Type 0
AtPlace P (Value v st) = Unit {0}
AtPlace P (Stop (Error kind at taken)) = P at
AtPlace P (Stop e) = Unit {0}

abbrev pub Placed : (ℕ → Type 0) → (A : Type 0) → Run A → Run A → Type 0
Placed P A m m' = (st : State) → AtPlace P (m st)

placed_after : {A B : Type 0} (P : ℕ → Type 0) (g : Got A) (f : A → Run B) → AtPlace P g → ((v : A) (st : State) → AtPlace P (f v st)) → AtPlace P (after g f)
placed_after P (Value v st) f x h = h v st
placed_after P (Stop (Error kind at taken)) f x h = x
placed_after P (Stop Ended) f x h = tt
placed_after P (Stop NoInput) f x h = tt
placed_after P (Stop (BadInput n)) f x h = tt
placed_after P (Stop (Spent at s n)) f x h = tt

turn_placed : (P : ℕ → Type 0) (at : ℕ) (store : List (List ℤ)) (taken turns : ℕ) → AtPlace P (turn at (record { store = store; taken = taken; turns = turns }))
turn_placed P at store taken zero = tt
turn_placed P at store taken (suc n) = tt

pub placed_kept : (P : ℕ → Type 0) → Kept (Placed P) P
placed_kept P = record {
  gives = λ A v st. tt;
  binds = λ A B m m' f f' x h st. placed_after P (m st) f (x st) h;
  fails = λ A kind at p st. p;
  stops = λ A st. tt;
  spends = λ A at m st. tt;
  turns = λ at st. turn_placed P at st.store st.taken st.turns;
  reads = λ e st. tt;
  writes = λ e v st. tt;
  stores = λ object vs st. tt;
}

drawn_chosen : (P : ℕ → Type 0) (b : Bool) (v : ℤ) (st : State) → AtPlace P (choose b (Value v (with_taken st (suc (st.taken)))) (Stop (BadInput st.taken)))
drawn_chosen P true v st = tt
drawn_chosen P false v st = tt

drawn_placed : (P : ℕ → Type 0) (kind : Kind) (model : Model) (o : Option ℤ) (st : State) → AtPlace P (drawn kind model o st)
drawn_placed P kind model None st = tt
drawn_placed P kind model (Some v) st = drawn_chosen P (is_in_range kind model v) v st

pub placed_draw : (P : ℕ → Type 0) (inputs : List ℤ) (model : Model) (kind : Kind) → Placed P ℤ (draw inputs model kind) (draw inputs model kind)
placed_draw P inputs model kind st = drawn_placed P kind model (slice_get inputs st.taken) st
