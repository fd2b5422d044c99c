-- The places to which open calls return, in slots.
use Rattle.std.proofs.Common.{◌≡◌, ℕ, ◌<◌, ◌≤◌, nat_lt, true, sym, ap, ◌∙◌, subst, arith, List, [], ◌∷◌, Option, None, Some, slice_get, ℤ, pos}
use Rattle.std.proofs.lemmas.Bool.{and_parts, ltb-true}
use Rattle.slot_code.specs.Slots.{get, put}
use Rattle.slot_laws.proofs.Lying.{put_same, put_other}
use Rattle.code_flow_laws.proofs.Ranging.{Range}
use Rattle.cfg_build.specs.Keeping.{is_inside, is_own}
use Rattle.cfg_build.specs.Follows.{LiesBelow}
use Rattle.function_runs.specs.Runs.{Return}
use Rattle.code_flow_laws.proofs.Graphs.{IsNode}
use Rattle.code_flow_laws.proofs.Filling.{Filled}

module _ (size main : ℕ) (numbers : List ℕ) (ranges : List Range) where
  -- the innermost open call returns to a place of the caller, at whose node the run goes on
  pub record Waits (slots : List ℤ) (range caller : Range) (r : Return) : Type 0 where
    pub place : ℕ
    pub holds : get slots range.slot ≡ pos place
    pub there : slice_get ranges r.function ≡ Some caller
    pub inside : is_inside caller place ≡ true
    pub node : IsNode numbers place r.node
    pub lies : LiesBelow range caller

  -- each function that is open returns by its slot: to its caller, and main to the end of the code
  abbrev pub Opened : List ℤ → Range → List Return → Type 0
  Opened slots range [] = (slice_get ranges main ≡ Some range) × (get slots range.slot ≡ pos size)
  Opened slots range (r ∷ rest) = (caller : Range) × Waits slots range caller r × Opened slots caller rest

  waits-still : (slots new : List ℤ) (range caller : Range) (r : Return) → get new range.slot ≡ get slots range.slot → Waits slots range caller r → Waits new range caller r
  waits-still slots new range caller r same w = record { place = w.place; holds = same ∙ w.holds; there = w.there; inside = w.inside; node = w.node; lies = w.lies }

  -- slots from one on stay as they are
  pub opened-above : (low : ℕ) (slots new : List ℤ) (range : Range) (returns : List Return) → low ≤ range.slot → ((j : ℕ) → low ≤ j → get new j ≡ get slots j) → Opened slots range returns → Opened new range returns
  opened-above low slots new range [] le same h = (h.0, same range.slot le ∙ h.1)
  opened-above low slots new range (r ∷ rest) le same (caller, w, h) =
      (caller, waits-still slots new range caller r (same range.slot le) w, opened-above low slots new caller rest (omega (arith, le, w.lies.wide, w.lies.below)) same h)

  -- the slots behind a function's own stay, and that by which it returns
  opened-own : (slots new : List ℤ) (range : Range) (returns : List Return) → get new range.slot ≡ get slots range.slot → ((j : ℕ) → range.bound ≤ j → get new j ≡ get slots j) → Opened slots range returns → Opened new range returns
  opened-own slots new range [] own same h = (h.0, own ∙ h.1)
  opened-own slots new range (r ∷ rest) own same (caller, w, h) =
      (caller, waits-still slots new range caller r own w, opened-above range.bound slots new caller rest w.lies.below same h)

  -- a function fills slots of its own
  pub opened-filled : (o : Option ℕ) (slots new : List ℤ) (range : Range) (returns : List Return) → is_own range o ≡ true → Filled o slots new → Opened slots range returns → Opened new range returns
  opened-filled None slots new range returns own same h = subst (λ (xs : List ℤ). Opened xs range returns) (sym same) h
  opened-filled (Some s) slots new range returns own (v, same) h =
      let both = and_parts (nat_lt range.slot s) (nat_lt s range.bound) own in
      let above : range.slot < s = ltb-true range.slot s both.0 in
      let below : s < range.bound = ltb-true s range.bound both.1 in
      subst (λ (xs : List ℤ). Opened xs range returns) (sym same)
      (opened-own slots (put slots s v) range returns (put_other slots s v range.slot (λ e. omega (arith, e, above))) (λ j le. put_other slots s v j (λ e. omega (arith, e, le, below))) h)

  -- main is the outermost function that is open, and lies above
  pub bottom : (slots : List ℤ) (range : Range) (returns : List Return) → Opened slots range returns → (b : Range) × (slice_get ranges main ≡ Some b) × (range.entry ≤ b.entry)
  bottom slots range [] h = (range, h.0, omega arith)
  bottom slots range (r ∷ rest) (caller, w, h) =
      let (b, is, le) = bottom slots caller rest h in
      (b, is, omega (arith, le, w.lies.some, w.lies.before))

  -- one call more
  pub opened-call : (slots : List ℤ) (slot place : ℕ) (callee range : Range) (r : Return) (returns : List Return) → callee.slot ≡ slot → LiesBelow callee range → slice_get ranges r.function ≡ Some range → is_inside range place ≡ true
      → IsNode numbers place r.node → Opened slots range returns → Opened (put slots slot (pos place)) callee (r ∷ returns)
  opened-call slots slot place callee range r returns by lies there inside node h = (
    range,
    record { place = place; holds = ap (get (put slots slot (pos place))) by ∙ put_same slots slot (pos place); there = there; inside = inside; node = node; lies = lies },
    opened-above range.slot slots (put slots slot (pos place)) range returns (omega arith) (λ j le. put_other slots slot (pos place) j (λ e. omega (arith, e, le, by, lies.wide, lies.below))) h,
  )
