-- Where turns go, as it is found instruction by instruction.
use Rattle.std.proofs.Common.{◌≡◌, ◌⊎◌, inl, inr, ℕ, zero, suc, nat_eq, ◌+◌, ◌<◌, List, [], ◌∷◌, length, get_or, Bool, true, false, Option, None, Some, slice_get, if◌then◌else◌, refl, sym, ap, ◌∙◌, subst, arith}
use Rattle.std.proofs.lemmas.Bool.{cases_eq, eq-eqb, eqb-true}
use Rattle.std.proofs.lemmas.Option.{slice_get_within}
use Rattle.slot_code.specs.declared.flat.Instruction.{Instruction}
use Rattle.slot_code.specs.declared.flat.Instruction.TheVariants as i
use Rattle.loop_turns.specs.declared.goals.Standing.{Standing}
use Rattle.loop_turns.specs.declared.goals.Standing.TheVariants.{To, Mixed}
use Rattle.loop_turns.specs.Turning.{OnlyTurn, call_of, stands_at, stands_by, stands_with, turn_of, turned, with_call, with_turn}

-- turns go to this place, or something else stands there too
abbrev Holds : ℕ → Option Standing → Type 0
Holds goal o = (o ≡ Some (To goal)) ⊎ (o ≡ Some Mixed)

-- ---- One instruction more

turned-holds : (goal : ℕ) (o : Option Standing) → Holds goal (Some (turned goal o))
turned-holds goal None = inl refl
turned-holds goal (Some (To other)) = by (nat_eq other goal)
  where
    by : (b : Bool) → Holds goal (Some (if b then To goal else Mixed))
    by true = inl refl
    by false = inr refl
turned-holds goal (Some Mixed) = inr refl

turned-keeps : (goal other : ℕ) → Holds goal (Some (turned other (Some (To goal))))
turned-keeps goal other = by (nat_eq goal other) refl
  where
    by : (b : Bool) → nat_eq goal other ≡ b → Holds goal (Some (if b then To other else Mixed))
    by true e = inl (ap (λ n. Some (To n)) (sym (eqb-true goal other e)))
    by false e = inr refl

call-mixes : (offset : ℕ) (c : Option ℕ) (o : Option Standing) → o ≡ Some Mixed → with_call offset c o ≡ Some Mixed
call-mixes offset None o e = e
call-mixes offset (Some at) o e = by (nat_eq at offset)
  where
    by : (b : Bool) → (if b then Some Mixed else o) ≡ Some Mixed
    by true = refl
    by false = e

call-keeps : (goal offset : ℕ) (c : Option ℕ) (o : Option Standing) → Holds goal o → Holds goal (with_call offset c o)
call-keeps goal offset None o h = h
call-keeps goal offset (Some at) o h = by (nat_eq at offset)
  where
    by : (b : Bool) → Holds goal (if b then Some Mixed else o)
    by true = inr refl
    by false = h

turn-mixes : (offset : ℕ) (t : Option (ℕ × ℕ)) (o : Option Standing) → o ≡ Some Mixed → with_turn offset t o ≡ Some Mixed
turn-mixes offset None o e = e
turn-mixes offset (Some t) o e = by (nat_eq t.0 offset)
  where
    by : (b : Bool) → (if b then Some (turned t.1 o) else o) ≡ Some Mixed
    by true = ap (λ (x : Option Standing). Some (turned t.1 x)) e
    by false = e

turn-keeps : (goal offset : ℕ) (t : Option (ℕ × ℕ)) (o : Option Standing) → Holds goal o → Holds goal (with_turn offset t o)
turn-keeps goal offset t o (inr e) = inr (turn-mixes offset t o e)
turn-keeps goal offset None o (inl e) = inl e
turn-keeps goal offset (Some t) o (inl e) = by (nat_eq t.0 offset)
  where
    by : (b : Bool) → Holds goal (if b then Some (turned t.1 o) else o)
    by true = subst (λ (x : Option Standing). Holds goal (Some (turned t.1 x))) (sym e) (turned-keeps goal t.1)
    by false = inl e

keeps : (goal offset : ℕ) (x : Option Instruction) (o : Option Standing) → Holds goal o → Holds goal (stands_by offset x o)
keeps goal offset None o h = h
keeps goal offset (Some x) o h = call-keeps goal offset (call_of x) (with_turn offset (turn_of x) o) (turn-keeps goal offset (turn_of x) o h)

mixes : (offset : ℕ) (x : Option Instruction) (o : Option Standing) → o ≡ Some Mixed → stands_by offset x o ≡ Some Mixed
mixes offset None o e = e
mixes offset (Some x) o e = call-mixes offset (call_of x) (with_turn offset (turn_of x) o) (turn-mixes offset (turn_of x) o e)

turns-here : (offset goal : ℕ) (o : Option Standing) → Holds goal (with_turn offset (Some (offset, goal)) o)
turns-here offset goal o = subst (λ (b : Bool). Holds goal (if b then Some (turned goal o) else o)) (sym (eq-eqb offset offset refl)) (turned-holds goal o)

called-here : (offset : ℕ) (o : Option Standing) → with_call offset (Some offset) o ≡ Some Mixed
called-here offset o = ap (λ (b : Bool). if b then Some Mixed else o) (eq-eqb offset offset refl)

-- ---- The first so many

turns-hold : (offset : ℕ) (code : List Instruction) (n place goal : ℕ) → place < n → slice_get code place ≡ Some (i.Turn offset goal) → Holds goal (stands_at offset code n)
turns-hold offset code zero place goal lt s = absurd (omega (arith, lt))
turns-hold offset code (suc n) place goal lt s = elim (cases_eq place n) [
  | inl e ↦
      let there : slice_get code n ≡ Some (i.Turn offset goal) = ap (slice_get code) (sym e) ∙ s in
      subst (λ (x : Option Instruction). Holds goal (stands_by offset x (stands_at offset code n))) (sym there) (turns-here offset goal (stands_at offset code n))
  | inr d ↦ keeps goal offset (slice_get code n) (stands_at offset code n) (turns-hold offset code n place goal (omega (arith, lt, d)) s)
]

calls-mix : (offset : ℕ) (code : List Instruction) (n place goal slot : ℕ) → place < n → slice_get code place ≡ Some (i.Call offset goal slot) → stands_at offset code n ≡ Some Mixed
calls-mix offset code zero place goal slot lt s = absurd (omega (arith, lt))
calls-mix offset code (suc n) place goal slot lt s = elim (cases_eq place n) [
  | inl e ↦
      let there : slice_get code n ≡ Some (i.Call offset goal slot) = ap (slice_get code) (sym e) ∙ s in
      ap (λ (x : Option Instruction). stands_by offset x (stands_at offset code n)) there ∙ called-here offset (stands_at offset code n)
  | inr d ↦ mixes offset (slice_get code n) (stands_at offset code n) (calls-mix offset code n place goal slot (omega (arith, lt, d)) s)
]

-- ---- All

not-mixed : (goal : ℕ) → Some (To goal) ≡ Some Mixed → ⊥
not-mixed goal e = absurd (cc e)

-- what stands at an offset is turns to one place
pub only-turn : (offset : ℕ) (code : List Instruction) (goal : ℕ) → stands_at offset code (length code) ≡ Some (To goal) → OnlyTurn code offset goal
only-turn offset code goal h = record {
  all = λ place other s. elim (turns-hold offset code (length code) place other (slice_get_within code place (i.Turn offset other) s) s) [
    | inl e ↦ ap (to-of other) (sym e ∙ h)
    | inr e ↦ absurd (not-mixed goal (sym h ∙ e))
  ];
  uncalled = λ place to slot s. not-mixed goal (sym h ∙ calls-mix offset code (length code) place to slot (slice_get_within code place (i.Call offset to slot) s) s);
}
  where
    to-of : ℕ → Option Standing → ℕ
    to-of other (Some (To n)) = n
    to-of other _ = other

-- one instruction more was looked at
pub one-more : (offset n : ℕ) (code : List Instruction) (d : Instruction) (now before : Option Standing) → n < length code → now ≡ stands_with offset (get_or code n d) before
    → before ≡ stands_at offset code n → now ≡ stands_at offset code (n + 1)
one-more offset n code d now before lt e h =
    let k : suc n ≡ n + 1 = omega arith in
    e ∙ ap (stands_with offset (get_or code n d)) h ∙ ap (λ (o : Option Instruction). stands_by offset o (stands_at offset code n)) (sym (there code n lt)) ∙ ap (stands_at offset code) k
  where
    there : (xs : List Instruction) (m : ℕ) → m < length xs → slice_get xs m ≡ Some (get_or xs m d)
    there [] m below = absurd (omega (arith, below))
    there (x ∷ xs) zero below = refl
    there (x ∷ xs) (suc m) below = there xs m (omega (arith, below))
