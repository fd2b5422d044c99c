-- Each loop that stands in a function's code and whose turns go to one place is found there.
use Rattle.std.proofs.Common.{◌≡◌, ◌⊎◌, inl, inr, ℕ, zero, suc, nat_eq, ◌==◌, ◌+◌, ◌-◌, ◌<◌, ◌≤◌, Bool, true, false, if◌then◌else◌, List, [], ◌∷◌, ◌++◌, length, map, Option, None, Some, slice_get, refl, sym, ap, ◌∙◌, subst, arith}
use Rattle.std.proofs.lemmas.Bool.{cases_eq, eq-eqb, eqb-true}
use Rattle.std.proofs.lemmas.Option.{slice_get_within}
use Rattle.slot_code.specs.declared.flat.Instruction.{Instruction}
use Rattle.slot_code.specs.declared.flat.Instruction.TheVariants as i
use Rattle.loop_turns.specs.declared.goals.Standing.{Standing}
use Rattle.loop_turns.specs.declared.goals.Standing.TheVariants.{To, Mixed}
use Rattle.loop_turns.specs.Turning.{call_of, only_goal, stands_at, stands_by, stands_with, turn_of, turned, with_call, with_turn}
use Rattle.c_graph.specs.declared.graph.LoopAt.{LoopAt}
use Rattle.cfg_build.specs.Follows.{Plan}
use Rattle.cfg_build.specs.Looped.{turn_to, turn_at, if_same, loop_goal, with_loop, loops_from, loops_at}
use Rattle.loop_listing_laws.proofs.Calming.{Calm, AllCalm}
use Rattle.loop_listing_laws.proofs.Standing.{TurnsAt, Standing as InOrder, stands-later}
use Rattle.loop_listing_laws.specs.Listing.{offsets}

-- ---- What is found at an offset

-- nothing but turns to this place
abbrev Still : ℕ → Option Standing → Type 0
Still goal o = (o ≡ None) ⊎ (o ≡ Some (To goal))

call-other : (x at : ℕ) (o : Option Standing) → (at ≡ x → ⊥) → with_call x (Some at) o ≡ o
call-other x at o other = by (nat_eq at x) refl
  where
    by : (b : Bool) → nat_eq at x ≡ b → with_call x (Some at) o ≡ o
    by true e = absurd (other (eqb-true at x e))
    by false e = ap (λ (c : Bool). if c then Some Mixed else o) e

turn-other : (x at to : ℕ) (o : Option Standing) → (at ≡ x → ⊥) → with_turn x (Some (at, to)) o ≡ o
turn-other x at to o other = by (nat_eq at x) refl
  where
    by : (b : Bool) → nat_eq at x ≡ b → with_turn x (Some (at, to)) o ≡ o
    by true e = absurd (other (eqb-true at x e))
    by false e = ap (λ (c : Bool). if c then Some (turned to o) else o) e

turned-same : (goal : ℕ) (o : Option Standing) → Still goal o → Some (turned goal o) ≡ Some (To goal)
turned-same goal o (inl e) = ap (λ (z : Option Standing). Some (turned goal z)) e
turned-same goal o (inr e) = ap (λ (z : Option Standing). Some (turned goal z)) e ∙ ap (λ (b : Bool). Some (if b then To goal else Mixed)) (eq-eqb goal goal refl)

turn-here : (x goal : ℕ) (o : Option Standing) → Still goal o → with_turn x (Some (x, goal)) o ≡ Some (To goal)
turn-here x goal o h = ap (λ (b : Bool). if b then Some (turned goal o) else o) (eq-eqb x x refl) ∙ turned-same goal o h

-- what it was, or turns to the place
abbrev Two : ℕ → (o after : Option Standing) → Type 0
Two goal o after = (after ≡ o) ⊎ (after ≡ Some (To goal))

turn-two : (x goal at to : ℕ) (o : Option Standing) → (at ≡ x → to ≡ goal) → Still goal o → Two goal o (with_turn x (Some (at, to)) o)
turn-two x goal at to o h k = elim (cases_eq at x) [
  | inl e ↦
      let same : with_turn x (Some (x, goal)) o ≡ with_turn x (Some (at, to)) o = ap (λ (a : ℕ). with_turn x (Some (a, goal)) o) (sym e) ∙ ap (λ (g : ℕ). with_turn x (Some (at, g)) o) (sym (h e)) in
      inr (sym same ∙ turn-here x goal o k)
  | inr other ↦ inl (turn-other x at to o other)
]

-- behind a calm instruction
step-two : (x goal : ℕ) (c : Instruction) (o : Option Standing) → Calm x goal c → Still goal o → Two goal o (stands_with x c o)
step-two x goal (i.Turn at to) o h k = turn-two x goal at to o h k
step-two x goal (i.Call at entry slot) o h k = inl (call-other x at o h)
step-two x goal (i.Constant slot v) o h k = inl refl
step-two x goal (i.Read slot object) o h k = inl refl
step-two x goal (i.Element slot at object count) o h k = inl refl
step-two x goal (i.Locate slot at object count) o h k = inl refl
step-two x goal (i.Load slot object) o h k = inl refl
step-two x goal (i.Store slot object) o h k = inl refl
step-two x goal (i.Convert slot kind) o h k = inl refl
step-two x goal (i.Negate slot kind at) o h k = inl refl
step-two x goal (i.Complement slot kind at) o h k = inl refl
step-two x goal (i.Not slot) o h k = inl refl
step-two x goal (i.Truth slot) o h k = inl refl
step-two x goal (i.Binary slot op kind at) o h k = inl refl
step-two x goal (i.Update slot op kind l at object) o h k = inl refl
step-two x goal (i.Change slot before y kind at object) o h k = inl refl
step-two x goal (i.Draw slot kind) o h k = inl refl
step-two x goal (i.Fill object kind count) o h k = inl refl
step-two x goal (i.Begin slot object count values) o h k = inl refl
step-two x goal (i.Bind slot object) o h k = inl refl
step-two x goal (i.Jump skip) o h k = inl refl
step-two x goal (i.SkipZero slot skip) o h k = inl refl
step-two x goal (i.SkipEqual slot v skip) o h k = inl refl
step-two x goal (i.Take slot at from needed) o h k = inl refl
step-two x goal (i.Return slot) o h k = inl refl
step-two x goal (i.Fail kind at) o h k = inl refl
step-two x goal i.Stop o h k = inl refl

calm-at : (x goal : ℕ) (code : List Instruction) (n : ℕ) (c : Instruction) → AllCalm x goal code → slice_get code n ≡ Some c → Calm x goal c
calm-at x goal [] n c h e = absurd cc
calm-at x goal (d ∷ code) zero c h e = subst (λ (z : Instruction). Calm x goal z) (same-some d c e) h.0
  where
    same-some : (a b : Instruction) → Some a ≡ Some b → a ≡ b
    same-some a b q = cc
calm-at x goal (d ∷ code) (suc n) c h e = calm-at x goal code n c h.1 e

-- among the first so many instructions of such code, and with one more
seen-still : (goal : ℕ) (o after : Option Standing) → Still goal o → Two goal o after → Still goal after
seen-still goal o after h (inl e) = subst (λ (z : Option Standing). Still goal z) (sym e) h
seen-still goal o after h (inr e) = inr e

next-two : (x goal : ℕ) (code : List Instruction) (n : ℕ) (o : Option Instruction) → AllCalm x goal code → slice_get code n ≡ o → Still goal (stands_at x code n) → Two goal (stands_at x code n) (stands_by x o (stands_at x code n))
next-two x goal code n None h e k = inl refl
next-two x goal code n (Some c) h e k = step-two x goal c (stands_at x code n) (calm-at x goal code n c h e) k

all-still : (x goal : ℕ) (code : List Instruction) (n : ℕ) → AllCalm x goal code → Still goal (stands_at x code n)
all-still x goal code zero h = inl refl
all-still x goal code (suc n) h =
    let k = all-still x goal code n h in
    seen-still goal (stands_at x code n) (stands_at x code (suc n)) k (next-two x goal code n (slice_get code n) h refl k)

turn-shows : (x goal : ℕ) (code : List Instruction) (n place : ℕ) → AllCalm x goal code → slice_get code place ≡ Some (i.Turn x goal) → place < n → stands_at x code n ≡ Some (To goal)
turn-shows x goal code zero place h e lt = absurd (omega (arith, lt))
turn-shows x goal code (suc n) place h e lt = elim (cases_eq place n) [
  | inl is ↦
      let there : slice_get code n ≡ Some (i.Turn x goal) = ap (slice_get code) (sym is) ∙ e in
      ap (λ (o : Option Instruction). stands_by x o (stands_at x code n)) there ∙ turn-here x goal (stands_at x code n) (all-still x goal code n h)
  | inr other ↦
      let before = turn-shows x goal code n place h e (omega (arith, lt, other)) in
      elim (next-two x goal code n (slice_get code n) h refl (all-still x goal code n h)) [ inl same ↦ same ∙ before | inr is ↦ is ]
]

-- ---- What is found at a place

pub goal-found : (p : Plan) (x goal to place : ℕ) → AllCalm x goal p.code → slice_get p.code place ≡ Some (i.Turn x to) → loop_goal p p.code place x ≡ Some goal
goal-found p x goal to place h e =
    let same : to ≡ goal = calm-at x goal p.code place (i.Turn x to) h e refl in
    let here : turn_at p place x ≡ Some goal = ap (λ (o : Option Instruction). turn_to o x) e ∙ ap (λ (b : Bool). if b then Some to else None) (eq-eqb x x refl) ∙ ap (λ (n : ℕ). Some n) same in
    let there : slice_get p.code place ≡ Some (i.Turn x goal) = e ∙ ap (λ (n : ℕ). Some (i.Turn x n)) same in
    let only : stands_at x p.code (length p.code) ≡ Some (To goal) = turn-shows x goal p.code (length p.code) place h there (slice_get_within p.code place (i.Turn x goal) there) in
    ap (λ (o : Option ℕ). if_same o (only_goal (stands_at x p.code (length p.code)))) here ∙ ap (λ (s : Option Standing). if_same (Some goal) (only_goal s)) only
    ∙ ap (λ (b : Bool). if b then Some goal else None) (eq-eqb goal goal refl)

-- code that lies in the whole
abbrev pub LiesAt : (code : List Instruction) → ℕ → List Instruction → Type 0
LiesAt code place [] = Unit {0}
LiesAt code place (c ∷ cs) = (slice_get code place ≡ Some c) × LiesAt code (place + 1) cs

-- the turns at each of these offsets go to one place
abbrev pub AllNear : List Instruction → List ℕ → Type 0
AllNear code [] = Unit {0}
AllNear code (x ∷ xs) = ((goal : ℕ) × AllCalm x goal code) × AllNear code xs

turn-is : (x : ℕ) (c : Instruction) → TurnsAt x c → (to : ℕ) × (c ≡ i.Turn x to)
turn-is x (i.Turn at to) h = (to, ap (λ (a : ℕ). i.Turn a to) h)
turn-is x (i.Call at entry slot) h = absurd h
turn-is x (i.Constant slot v) h = absurd h
turn-is x (i.Read slot object) h = absurd h
turn-is x (i.Element slot at object count) h = absurd h
turn-is x (i.Locate slot at object count) h = absurd h
turn-is x (i.Load slot object) h = absurd h
turn-is x (i.Store slot object) h = absurd h
turn-is x (i.Convert slot kind) h = absurd h
turn-is x (i.Negate slot kind at) h = absurd h
turn-is x (i.Complement slot kind at) h = absurd h
turn-is x (i.Not slot) h = absurd h
turn-is x (i.Truth slot) h = absurd h
turn-is x (i.Binary slot op kind at) h = absurd h
turn-is x (i.Update slot op kind l at object) h = absurd h
turn-is x (i.Change slot before y kind at object) h = absurd h
turn-is x (i.Draw slot kind) h = absurd h
turn-is x (i.Fill object kind count) h = absurd h
turn-is x (i.Begin slot object count values) h = absurd h
turn-is x (i.Bind slot object) h = absurd h
turn-is x (i.Jump skip) h = absurd h
turn-is x (i.SkipZero slot skip) h = absurd h
turn-is x (i.SkipEqual slot v skip) h = absurd h
turn-is x (i.Take slot at from needed) h = absurd h
turn-is x (i.Return slot) h = absurd h
turn-is x (i.Fail kind at) h = absurd h
turn-is x i.Stop h = absurd h

with-found : (p : Plan) (x goal : ℕ) (o : Option ℕ) (behind waiting : List LoopAt) → o ≡ Some goal → offsets (with_loop p x o behind waiting) ≡ x ∷ offsets behind
with-found p x goal o behind waiting e = ap (λ (z : Option ℕ). offsets (with_loop p x z behind waiting)) e

-- all are found
pub found : (p : Plan) (cs : List Instruction) (place count : ℕ) (xs : List ℕ) → LiesAt p.code place cs → length cs ≤ count → InOrder xs cs → AllNear p.code xs → offsets (loops_from p place count xs) ≡ xs
found p [] place zero [] lies le h near = refl
found p [] place (suc n) [] lies le h near = refl
found p [] place count (x ∷ xs) lies le h near = absurd h
found p (c ∷ cs) place zero xs lies le h near = absurd (omega (arith, le))
found p (c ∷ cs) place (suc n) [] lies le h near = refl
found p (c ∷ cs) place (suc n) (x ∷ xs) lies le (inl (turn, rest)) (one, near) =
    let (to, is) = turn-is x c turn in
    with-found p x one.0 (loop_goal p p.code place x) _ _ (goal-found p x one.0 to place one.1 (lies.0 ∙ ap (λ (z : Instruction). Some z) is))
    ∙ ap (λ (ys : List ℕ). x ∷ ys) (found p cs (place + 1) n xs lies.1 (omega (arith, le)) rest near)
found p (c ∷ cs) place (suc n) (x ∷ xs) lies le (inr rest) (one, near) =
    by (loop_goal p p.code place x) (found p cs (place + 1) n xs lies.1 (omega (arith, le)) (stands-later x xs cs rest) near) (found p cs (place + 1) n (x ∷ xs) lies.1 (omega (arith, le)) rest (one, near))
  where
    by : (o : Option ℕ) → offsets (loops_from p (place + 1) n xs) ≡ xs → offsets (loops_from p (place + 1) n (x ∷ xs)) ≡ x ∷ xs
        → offsets (with_loop p x o (loops_from p (place + 1) n xs) (loops_from p (place + 1) n (x ∷ xs))) ≡ x ∷ xs
    by None a b = b
    by (Some goal) a b = ap (λ (ys : List ℕ). x ∷ ys) a
