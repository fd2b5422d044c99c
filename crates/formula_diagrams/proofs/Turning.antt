-- The steps of a join: what waits, and how many steps are left.
use Rattle.std.proofs.Common.{◌≡◌, ℕ, ◌+◌, ◌<◌, ◌≤◌, zero, suc, List, [], ◌∷◌, ◌++◌, length, refl, sym, ap, ◌∙◌, subst, arith, inl, inr}
use Rattle.std.proofs.lemmas.Bool.{cases_lt}
use Rattle.formula_diagrams.specs.declared.items.NodeId.{NodeId}
use Rattle.formula_diagrams.specs.declared.pairs.Join.{Join}
use Rattle.formula_diagrams.specs.declared.pairs.Pair.{Pair}
use Rattle.formula_diagrams.specs.declared.pairs.Split.{Split}
use Rattle.formula_diagrams.specs.declared.steps.Frame.{Frame}
use Rattle.formula_diagrams.specs.declared.steps.Frame.TheVariants.{Low, High}
use Rattle.formula_diagrams.specs.declared.steps.Turn.{Turn}
use Rattle.formula_diagrams.specs.declared.steps.Turn.TheVariants.{Asked, Answered}
use Rattle.formula_diagrams.specs.declared.steps.Step.{Step}
use Rattle.formula_diagrams.specs.declared.steps.Step.TheVariants.{Next, Done}
use Rattle.formula_diagrams.specs.Shape.{Arena, Grown}
use Rattle.formula_diagrams.specs.Joins.{Means, IsPairIn, IsSplit, sum_of}
use Rattle.formula_diagrams.specs.Steps.{asked_of, awaited, IsFrame, Waits, IsTurn, work, weight_of, weights, left_of, IsStep}
use Rattle.formula_diagrams.proofs.Pairing.{split-stay, means-stay}

-- steps
pub work-pos : (n : ℕ) → 2 ≤ work n
work-pos zero = omega arith
work-pos (suc n) = omega (arith, work-pos n)

work-mono : (m n : ℕ) → m ≤ n → work m ≤ work n
work-mono zero n le = work-pos n
work-mono (suc m) zero le = absurd (omega (arith, le))
work-mono (suc m) (suc n) le = omega (arith, work-mono m n (omega (arith, le)))

pub work-split : (s m n : ℕ) → m < s → n < s → work m + work n + 4 ≤ work s
work-split zero m n x y = absurd (omega (arith, x))
work-split (suc s) m n x y = omega (arith, work-mono m s (omega (arith, x)), work-mono n s (omega (arith, y)))

pub weights-push : (fs : List Frame) (f : Frame) → weights (fs ++ f ∷ []) ≡ weights fs + weight_of f
weights-push [] f = omega arith
weights-push (g ∷ fs) f = omega (arith, weights-push fs f)

-- frames
frame-stay : (a b : Arena) (how : Join) (f : Frame) → Grown a b → IsFrame a how f → IsFrame b how f
frame-stay a b how (Low s) g h = split-stay a b s g h
frame-stay a b how (High s n) g h = (split-stay a b s g h.0, means-stay a b how s.low n g h.0.low h.1)

pub waits-stay : (a b : Arena) (how : Join) (p c : Pair) (fs : List Frame) → Grown a b → Waits a how p fs c → Waits b how p fs c
waits-stay a b how p c [] g w = w
waits-stay a b how p c (f ∷ fs) g w = (w.0, frame-stay a b how f g w.1, waits-stay a b how (awaited f) c fs g w.2)

waits-push : (a : Arena) (how : Join) (p c : Pair) (fs : List Frame) (f : Frame) → Waits a how p fs c → asked_of f ≡ c → IsFrame a how f → Waits a how p (fs ++ f ∷ []) (awaited f)
waits-push a how p c [] f w e h = (e ∙ sym w, h, refl)
waits-push a how p c (g ∷ fs) f w e h = (w.0, w.1, waits-push a how (awaited g) c fs f w.2 e h)

waits-pop : (a : Arena) (how : Join) (p c : Pair) (fs : List Frame) (f : Frame) → Waits a how p (fs ++ f ∷ []) c → Waits a how p fs (asked_of f) × IsFrame a how f × (awaited f ≡ c)
waits-pop a how p c [] f w = (sym w.0, w.1, w.2)
waits-pop a how p c (g ∷ fs) f w =
    let r = waits-pop a how (awaited g) c fs f w.2 in
    ((w.0, w.1, r.0), r.1, r.2)

-- a pair is answered at once
pub asked-known : (a : Arena) (how : Join) (p c : Pair) (fs gs : List Frame) (n : NodeId) → gs ≡ fs → Means a how c n → Waits a how p fs c → IsTurn a how p gs (Answered n)
asked-known a how p c fs gs n e m w = (c, (m, subst (λ (hs : List Frame). Waits a how p hs c) (sym e) w))

pub asked-fewer : (c : Pair) (fs gs : List Frame) (n : NodeId) → gs ≡ fs → left_of gs (Answered n) < weights fs + work (sum_of c)
asked-fewer c fs gs n e = omega (arith, ap weights e, work-pos (sum_of c))

-- a pair is cut in two
pub asked-split : (a : Arena) (how : Join) (p c : Pair) (fs gs : List Frame) (s : Split) → gs ≡ fs ++ Low s ∷ [] → s.asked ≡ c → IsSplit a s → Waits a how p fs c → IsTurn a how p gs (Asked s.low)
asked-split a how p c fs gs s e q h w =
    (h.low, subst (λ (hs : List Frame). Waits a how p hs s.low) (sym e) (waits-push a how p c fs (Low s) w q h))

pub split-fewer : (c : Pair) (fs gs : List Frame) (s : Split) → gs ≡ fs ++ Low s ∷ [] → sum_of s.low < sum_of c → sum_of s.high < sum_of c
    → left_of gs (Asked s.low) < weights fs + work (sum_of c)
split-fewer c fs gs s e l h =
    let w : weights (fs ++ Low s ∷ []) ≡ weights fs + (work (sum_of s.high) + 3) = weights-push fs (Low s) in
    omega (arith, ap weights e, w, work-split (sum_of c) (sum_of s.low) (sum_of s.high) l h)

-- the last answer
pub answered-done : (a : Arena) (how : Join) (p : Pair) (fs : List Frame) (n : NodeId) → length fs ≡ 0 → IsTurn a how p fs (Answered n) → Means a how p n
answered-done a how p [] n e t = subst (λ (q : Pair). Means a how q n) (sym t.1.1) t.1.0
answered-done a how p (f ∷ fs) n e t = absurd (omega (arith, e))

-- the low half is answered
pub answered-low : (a : Arena) (how : Join) (p : Pair) (old fs new : List Frame) (s : Split) (n : NodeId)
    → old ≡ fs ++ Low s ∷ [] → new ≡ fs ++ High s n ∷ [] → IsTurn a how p old (Answered n)
    → IsStep a how p new (left_of old (Answered n)) (Next (Asked s.high))
answered-low a how p old fs new s n e q t =
    let r = waits-pop a how p t.0 fs (Low s) (subst (λ (hs : List Frame). Waits a how p hs t.0) e t.1.1) in
    let h : IsSplit a s = r.1 in
    let low : Means a how s.low n = subst (λ (d : Pair). Means a how d n) (sym r.2) t.1.0 in
    let v : Waits a how p (fs ++ High s n ∷ []) s.high = waits-push a how p s.asked fs (High s n) r.0 refl (h, low) in
    let x : weights (fs ++ Low s ∷ []) ≡ weights fs + (work (sum_of s.high) + 3) = weights-push fs (Low s) in
    let y : weights (fs ++ High s n ∷ []) ≡ weights fs + 2 = weights-push fs (High s n) in
    ((h.high, subst (λ (hs : List Frame). Waits a how p hs s.high) (sym q) v), omega (arith, ap weights e, ap weights q, x, y))

-- what the frame on top knows
pub answered-top : (a : Arena) (how : Join) (old fs : List Frame) (s : Split) (low n : NodeId)
    → old ≡ fs ++ High s low ∷ [] → ((p : Pair) × IsTurn a how p old (Answered n)) → IsSplit a s × Means a how s.low low × Means a how s.high n
answered-top a how old fs s low n e t =
    let r = waits-pop a how t.0 t.1.0 fs (High s low) (subst (λ (hs : List Frame). Waits a how t.0 hs t.1.0) e t.1.1.1) in
    (r.1.0, r.1.1, subst (λ (d : Pair). Means a how d n) (sym r.2) t.1.1.0)

-- both halves are answered
pub answered-high : (a b : Arena) (how : Join) (p : Pair) (old fs new : List Frame) (s : Split) (low n made : NodeId)
    → old ≡ fs ++ High s low ∷ [] → new ≡ fs → Grown a b → Means b how s.asked made → IsTurn a how p old (Answered n)
    → IsStep b how p new (left_of old (Answered n)) (Next (Answered made))
answered-high a b how p old fs new s low n made e q g m t =
    let r = waits-pop a how p t.0 fs (High s low) (subst (λ (hs : List Frame). Waits a how p hs t.0) e t.1.1) in
    let v : Waits b how p fs s.asked = waits-stay a b how p s.asked fs g r.0 in
    let y : weights (fs ++ High s low ∷ []) ≡ weights fs + 2 = weights-push fs (High s low) in
    ((s.asked, (m, subst (λ (hs : List Frame). Waits b how p hs s.asked) (sym q) v)), omega (arith, ap weights e, ap weights q, y))
