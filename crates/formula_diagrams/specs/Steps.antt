-- How a join goes on: what it asks for, and what waits for the answer.
use Rattle.std.specs.Prelude.{ℕ, ◌+◌, ◌<◌, ◌≡◌, zero, suc, List, [], ◌∷◌, Option, Some, None}
use Rattle.formula_diagrams.specs.declared.items.NodeId.{NodeId}
use Rattle.formula_diagrams.specs.declared.pairs.Join.{Join}
use Rattle.formula_diagrams.specs.declared.pairs.Pair.{Pair}
use Rattle.formula_diagrams.specs.declared.steps.Frame.{Frame}
use Rattle.formula_diagrams.specs.declared.steps.Frame.TheVariants.{Low, High}
use Rattle.formula_diagrams.specs.declared.steps.Turn.{Turn}
use Rattle.formula_diagrams.specs.declared.steps.Turn.TheVariants.{Asked, Answered}
use Rattle.formula_diagrams.specs.declared.steps.Step.{Step}
use Rattle.formula_diagrams.specs.declared.steps.Step.TheVariants.{Next, Done}
use Rattle.formula_diagrams.specs.Shape.{Arena}
use Rattle.formula_diagrams.specs.Joins.{Means, IsPairIn, IsSplit, sum_of}

-- the pair that a frame is to answer, and the half that it waits for
abbrev pub asked_of : Frame → Pair
asked_of (Low s) = s.asked
asked_of (High s n) = s.asked

abbrev pub awaited : Frame → Pair
awaited (Low s) = s.low
awaited (High s n) = s.high

-- what a frame knows is so
abbrev pub IsFrame : Arena → Join → Frame → Type 0
IsFrame a how (Low s) = IsSplit a s
IsFrame a how (High s n) = IsSplit a s × Means a how s.low n

-- the first frame is to answer the pair p, each further one what the one before waits for, and the last waits for c
abbrev pub Waits : Arena → Join → Pair → List Frame → Pair → Type 0
Waits a how p [] c = p ≡ c
Waits a how p (f ∷ fs) c = (asked_of f ≡ p) × IsFrame a how f × Waits a how (awaited f) fs c

-- the turn belongs to the frames of a join of p
abbrev pub IsTurn : Arena → Join → Pair → List Frame → Turn → Type 0
IsTurn a how p fs (Asked c) = IsPairIn a c × Waits a how p fs c
IsTurn a how p fs (Answered n) = (c : Pair) × (Means a how c n × Waits a how p fs c)

-- more steps than a pair of this sum takes
abbrev pub work : ℕ → ℕ
work zero = 2
work (suc n) = work n + work n + 4

-- more steps than are left
abbrev pub weight_of : Frame → ℕ
weight_of (Low s) = work (sum_of s.high) + 3
weight_of (High s n) = 2

abbrev pub weights : List Frame → ℕ
weights [] = 0
weights (f ∷ fs) = weight_of f + weights fs

abbrev pub left_of : List Frame → Turn → ℕ
left_of fs (Asked c) = weights fs + work (sum_of c)
left_of fs (Answered n) = weights fs + 1

-- after a step the turn belongs to the frames and fewer than m steps are left, or p has its number
abbrev pub IsStep : Arena → Join → Pair → List Frame → ℕ → Step → Type 0
IsStep a how p fs m (Next t) = IsTurn a how p fs t × (left_of fs t < m)
IsStep a how p fs m (Done n) = Means a how p n
