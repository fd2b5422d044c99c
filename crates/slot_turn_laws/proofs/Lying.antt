-- Code that lies in the whole, and what a piece of it does to the slots and the state.
use Rattle.std.proofs.Common.{◌≡◌, ◌⊎◌, ℕ, suc, ◌+◌, ◌<◌, ◌≤◌, List, [], ◌∷◌, ◌++◌, length, Option, Some, ℤ, slice_get, inl, inr, ⊎_elim, refl, sym, ap, ◌∙◌, subst, arith, length-append}
use Rattle.lv_base.specs.declared.kind.Model.{Model}
use Rattle.c_run.specs.Run.{State, End, Error, Ended, NoInput, BadInput, Spent, Got, Value, Stop, Run, after, Compute}
use Rattle.c_run.specs.Loops.{Calls}
use Rattle.c_typed.specs.Tree.{Object, Function}
use Rattle.typed_range_laws.specs.Ways.{Way}
use Rattle.slot_code.specs.declared.flat.Instruction.{Instruction}
use Rattle.slot_code.specs.Slots.{get, put, slots_of}
use Rattle.slot_code.specs.Values.{Link}
use Rattle.slot_code.specs.declared.reply.Ending.{Ending}
use Rattle.slot_code.specs.Machine.{machine, Next, Goes, Over, goes, fills, ending_of, act_with, act_at_with}
use Rattle.slot_laws.proofs.Lying.{put_same, put_other}
use Rattle.slot_turn_laws.specs.Turns.{NoCallAt, spent_at, turned_by, onward_turned, turned_from}
use Rattle.slot_turn_laws.proofs.Running.{IsOther, Still, goes_on}

-- ---- Runs that go on behind a value

-- what the objects hold where a run is out of turns, if it is
abbrev pub Met : Type 0
Met = Option (List (List ℤ))

-- how a run ends that goes on so, where it may be out of turns at this offset
unfoldable pub ends : {A : Type 0} → ℕ → Got A → (A → State → Met) → Met
ends at (Value v st) k = k v st
ends at (Stop e) k = spent_at at e

pub ends_value : {A : Type 0} (at : ℕ) (v : A) (st : State) (k : A → State → Met) → ends at (Value v st) k ≡ k v st
unfolding ends
ends_value at v st k = refl

-- what goes on behind the second goes on behind both
pub seq : (at : ℕ) (A B : Type 0) (g : Got A) (f : A → Run B) (k : B → State → Met) (x : Met) → x ≡ ends at g (λ v st. ends at (f v st) k) → x ≡ ends at (after g f) k
unfolding ends
seq at A B (Value v st) f k x h = h
seq at A B (Stop e) f k x h = h

-- the function whose code lies there: what its code stands on, the whole code, what its calls mean, its slots, and its
-- first place; and an offset at which no call stands
pub record Frame : Type 0 where
  pub model : Model
  pub objects : List Object
  pub functions : List Function
  pub compute : Compute
  pub way : Way
  pub inputs : List ℤ
  pub links : List Link
  pub code : List Instruction
  pub call : Calls
  pub low : ℕ
  pub top : ℕ
  pub start : ℕ
  pub asker : ℕ
  pub uncalled : NoCallAt code asker

module _ (c : Frame) where
  pub record Lies (place : ℕ) (x : Instruction) : Type 0 where
    pub there : slice_get c.code place ≡ Some x
    pub below : slots_of x ≤ c.top
    pub behind : c.start ≤ place

  abbrev pub At : ℕ → List Instruction → Type 0
  At place [] = Unit {0}
  At place (x ∷ xs) = Lies place x × At (suc place) xs

  pub at_moved : (p q : ℕ) (xs : List Instruction) → p ≡ q → At p xs → At q xs
  at_moved p q xs e h = subst (λ n. At n xs) e h

  pub split : (p : ℕ) (xs ys : List Instruction) → At p (xs ++ ys) → At p xs × At (p + length xs) ys
  split p [] ys h = (tt, at_moved p (p + 0) ys (omega arith) h)
  split p (x ∷ xs) ys h = let r = split (suc p) xs ys h.1 in ((h.0, r.0), at_moved (suc p + length xs) (p + suc (length xs)) ys (omega arith) r.1)

  -- the three parts of a piece
  pub record Parts (p : ℕ) (xs ys zs : List Instruction) : Type 0 where
    pub first : At p xs
    pub second : At (p + length xs) ys
    pub third : At (p + length xs + length ys) zs
    pub whole : length ((xs ++ ys) ++ zs) ≡ length xs + length ys + length zs

  pub parts : (p : ℕ) (xs ys zs : List Instruction) → At p ((xs ++ ys) ++ zs) → Parts p xs ys zs
  parts p xs ys zs h =
      let a = split p (xs ++ ys) zs h in
      let b = split p xs ys a.0 in
      let e : length (xs ++ ys) ≡ length xs + length ys = length-append xs ys in
      let f : length ((xs ++ ys) ++ zs) ≡ length (xs ++ ys) + length zs = length-append (xs ++ ys) zs in
      record { first = b.0; second = b.1; third = at_moved (p + length (xs ++ ys)) (p + length xs + length ys) zs (omega (arith, e)) a.1; whole = omega (arith, e, f) }

  -- the run from a place
  unfoldable pub from : ℕ → List ℤ → State → Met
  from place slots st = turned_from c.model c.compute c.inputs c.way c.code c.asker (machine place slots st)

  pub there_from : (p q : ℕ) (s : List ℤ) (st : State) (x : Met) → q ≡ p → from p s st ≡ x → from q s st ≡ x
  there_from p q s st x e h = ap (λ n. from n s st) e ∙ h

  -- where an instruction leads, and what comes then
  abbrev onward : Instruction → State → Next → Met
  onward x st n = onward_turned c.model c.compute c.inputs c.way c.code c.asker (Some x) st n (turned_from c.model c.compute c.inputs c.way c.code c.asker)

  acts : (p : ℕ) (s : List ℤ) (st : State) (x : Instruction) → Lies p x → from p s st ≡ onward x st (act_with c.model c.compute c.inputs c.way x p s st)
  unfolding from
  acts p s st x l =
      goes_on c.model c.compute c.inputs c.way c.code c.asker (machine p s st)
      ∙ ap (λ o. onward_turned c.model c.compute c.inputs c.way c.code c.asker o st (act_at_with c.model c.compute c.inputs c.way o (machine p s st)) (turned_from c.model c.compute c.inputs c.way c.code c.asker)) l.there

  -- goes to a place
  pub leads : (p goal : ℕ) (s s' : List ℤ) (st st' : State) (x : Instruction) → Lies p x → act_with c.model c.compute c.inputs c.way x p s st ≡ Goes (machine goal s' st') → from p s st ≡ from goal s' st'
  unfolding from
  leads p goal s s' st st' x l e = acts p s st x l ∙ ap (onward x st) e

  -- ends the run
  pub stops : (p : ℕ) (s : List ℤ) (st : State) (x : Instruction) (e : Ending) → Lies p x → act_with c.model c.compute c.inputs c.way x p s st ≡ Over e → from p s st ≡ turned_by c.asker (Some x) st e
  stops p s st x e l h = acts p s st x l ∙ ap (onward x st) h

  -- the end of an instruction is not for want of a turn
  other-end : (x : Instruction) (st : State) (e : End) → IsOther e → turned_by c.asker (Some x) st (ending_of e) ≡ spent_at c.asker e
  other-end x st (Error kind at taken) h = refl
  other-end x st Ended h = refl
  other-end x st NoInput h = refl
  other-end x st (BadInput number) h = refl
  other-end x st (Spent at store n) h = absurd h

  fills_ends : (p d : ℕ) (s : List ℤ) (x : Instruction) (st : State) (g : Got ℤ) → Still st g → onward x st (fills p s d g) ≡ ends c.asker g (λ v st. from (suc p) (put s d v) st)
  unfolding from ends Still
  fills_ends p d s x st (Value v st') h = refl
  fills_ends p d s x st (Stop e) h = other-end x st e h

  goes_ends : (goal : ℕ) (s : List ℤ) (x : Instruction) (st : State) (g : Got (Unit {0})) → Still st g → onward x st (goes goal s g) ≡ ends c.asker g (λ v st. from goal s st)
  unfolding from ends Still
  goes_ends goal s x st (Value v st') h = refl
  goes_ends goal s x st (Stop e) h = other-end x st e h

  -- the slots of this function before one of them, and all slots behind those of this function, are as before
  abbrev pub Keeps : ℕ → List ℤ → List ℤ → Type 0
  Keeps d s s' = (n : ℕ) → c.low ≤ n → (n < d) ⊎ (c.top ≤ n) → get s' n ≡ get s n

  pub keeps_same : (d : ℕ) (s : List ℤ) → Keeps d s s
  keeps_same d s n lo h = refl

  pub keeps_on : (d : ℕ) (s s1 s2 : List ℤ) → Keeps d s s1 → Keeps d s1 s2 → Keeps d s s2
  keeps_on d s s1 s2 a b n lo h = b n lo h ∙ a n lo h

  -- with more slots that may change
  pub keeps_less : (d d' : ℕ) (s s' : List ℤ) → d ≤ d' → Keeps d' s s' → Keeps d s s'
  keeps_less d d' s s' le k n lo h = k n lo (⊎_elim (λ a. inl (omega (arith, a, le))) (λ b. inr b) h)

  pub keeps_put : (d : ℕ) (s : List ℤ) (slot : ℕ) (v : ℤ) → d ≤ slot → slot < c.top → Keeps d s (put s slot v)
  keeps_put d s slot v le lt n lo h = put_other s slot v n (λ e. ⊎_elim (λ a. absurd (omega (arith, a, e, le))) (λ b. absurd (omega (arith, b, e, lt))) h)

  -- so many turns are left at most
  module _ (t : ℕ) where
    -- the run from a place, where a piece of code has left its value so
    abbrev pub Then : (A : Type 0) → (A → List ℤ → Type 0) → ℕ → ℕ → List ℤ → (A → State → Met) → Type 0
    Then A Is d q s k = (v : A) (s' : List ℤ) (st : State) → st.turns ≤ t → Keeps d s s' → Is v s' → from q s' st ≡ k v st

    -- a piece of code does what a run says, and leaves its value so
    abbrev pub Does : (A : Type 0) → (A → List ℤ → Type 0) → ℕ → List Instruction → Run A → Type 0
    Does A Is d xs g =
        (p q : ℕ) (s : List ℤ) (st : State) (k : A → State → Met) → q ≡ p + length xs → At p xs → st.turns ≤ t → Then A Is d q s k → from p s st ≡ ends c.asker (g st) k

    -- behind other slots
    pub then_on : (A : Type 0) (Is : A → List ℤ → Type 0) (d q : ℕ) (s s1 : List ℤ) (k : A → State → Met) → Keeps d s s1 → Then A Is d q s k → Then A Is d q s1 k
    then_on A Is d q s s1 k a h v s' st le b r = h v s' st le (keeps_on d s s1 s' a b) r

    -- a value in a slot
    abbrev pub In : ℕ → ℤ → List ℤ → Type 0
    In d v s = get s d ≡ v

    abbrev pub Nothing : Unit {0} → List ℤ → Type 0
    Nothing v s = Unit {0}

    still_ends : (A : Type 0) (st : State) (g : Got A) (k k' : A → State → Met) → Still st g → st.turns ≤ t → ((v : A) (st' : State) → st'.turns ≤ t → k v st' ≡ k' v st') → ends c.asker g k ≡ ends c.asker g k'
    unfolding ends Still
    still_ends A st (Value v st') k k' e le h = h v st' (omega (arith, e, le))
    still_ends A st (Stop e) k k' x le h = refl

    -- one instruction that leaves a value in a slot
    pub one : (p q d slot : ℕ) (s : List ℤ) (st : State) (x : Instruction) (g : Got ℤ) (k : ℤ → State → Met) → q ≡ suc p → Lies p x → act_with c.model c.compute c.inputs c.way x p s st ≡ fills p s slot g → d ≤ slot → slot < c.top → Still st g → st.turns ≤ t →
        Then ℤ (In slot) d q s k → from p s st ≡ ends c.asker g k
    one p q d slot s st x g k e l a le lt still tu h =
        acts p s st x l ∙ ap (onward x st) a ∙ fills_ends p slot s x st g still
        ∙ still_ends ℤ st g _ k still tu (λ v st' le'. sym (ap (λ n. from n (put s slot v) st') e) ∙ h v (put s slot v) st' le' (keeps_put d s slot v le lt) (put_same s slot v))

    -- one instruction that leaves the slots
    pub plain : (p q d : ℕ) (s : List ℤ) (st : State) (x : Instruction) (g : Got (Unit {0})) (k : Unit {0} → State → Met) → q ≡ suc p → Lies p x → act_with c.model c.compute c.inputs c.way x p s st ≡ goes (suc p) s g → Still st g → st.turns ≤ t →
        Then (Unit {0}) Nothing d q s k → from p s st ≡ ends c.asker g k
    plain p q d s st x g k e l a still tu h =
        acts p s st x l ∙ ap (onward x st) a ∙ goes_ends (suc p) s x st g still
        ∙ still_ends (Unit {0}) st g _ k still tu (λ v st' le'. sym (ap (λ n. from n s st') e) ∙ h v s st' le' (keeps_same d s) tt)
