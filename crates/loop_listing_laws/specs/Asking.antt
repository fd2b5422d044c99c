-- Where the parts of a typed tree ask for turns: each turn of a loop does so at the loop's keyword, each `goto` at its own, and each call at
-- the called name.
use Rattle.std.specs.Prelude.{ℕ, List, [], ◌∷◌, ◌++◌, Option, None, Some, slice_get}
use Rattle.c_typed.specs.Tree as t

-- ---- Calls in values

abbrev mutual
  pub calls_of : t.Val → List ℕ
  calls_of (t.vConstant k v) = []
  calls_of (t.vRead k object) = []
  calls_of (t.vElement k at object e) = calls_of e
  calls_of (t.vWhole object) = []
  calls_of t.vNothing = []
  calls_of (t.vConvert k e) = calls_of e
  calls_of (t.vDiscard e) = calls_of e
  calls_of (t.vNegate k at e) = calls_of e
  calls_of (t.vComplement k at e) = calls_of e
  calls_of (t.vNot e) = calls_of e
  calls_of (t.vBinary o k at a b) = calls_of a ++ calls_of b
  calls_of (t.vBoth a b) = calls_of a ++ calls_of b
  calls_of (t.vEither a b) = calls_of a ++ calls_of b
  calls_of (t.vCond k c a b) = calls_of c ++ calls_of a ++ calls_of b
  calls_of (t.vAssign k at g e) = calls_to g ++ calls_of e
  calls_of (t.vUpdate o k l at g e) = calls_to g ++ calls_of e
  calls_of (t.vChange before by k at g) = calls_to g
  calls_of (t.vCall k at x f es) = at ∷ calls_in es
  calls_of (t.vReach at) = []
  calls_of t.vAbort = []
  calls_of (t.vDraw k) = []
  calls_of (t.vComma es e) = calls_in es ++ calls_of e

  -- in what is assigned to
  pub calls_to : t.Goal → List ℕ
  calls_to (t.gObject object) = []
  calls_to (t.gElement at object e) = calls_of e

  pub calls_in : t.Vals → List ℕ
  calls_in t.no_values = []
  calls_in (t.values_and es e) = calls_in es ++ calls_of e

-- of a value that may be left out
abbrev pub calls_if : Option t.Val → List ℕ
calls_if None = []
calls_if (Some e) = calls_of e

-- ---- Statements

abbrev mutual
  -- The offsets at which a statement asks for turns: those of its loops, of its `goto` statements and of its calls, each as often as it
  -- stands there.
  pub asks_of : t.Step → List ℕ
  asks_of (t.pDraw object) = []
  asks_of (t.pBegin object es) = calls_in es
  asks_of (t.pBlock ss) = asks_in ss
  asks_of t.pEmpty = []
  asks_of (t.pEffect e) = calls_of e
  asks_of (t.pIf e s) = calls_of e ++ asks_of s
  asks_of (t.pIfElse e a b) = calls_of e ++ asks_of a ++ asks_of b
  asks_of (t.pWhile at e s) = at ∷ calls_of e ++ asks_of s
  asks_of (t.pSwitch at k e s) = calls_of e ++ asks_of s
  asks_of (t.pDo at s e) = at ∷ calls_of e ++ asks_of s
  asks_of (t.pFor at start e step s) = at ∷ asks_in start ++ calls_if e ++ calls_if step ++ asks_of s
  asks_of (t.pCase at v s) = asks_of s
  asks_of (t.pDefault at s) = asks_of s
  asks_of (t.pLabel l at s) = asks_of s
  asks_of (t.pGoto at l x) = at ∷ []
  asks_of (t.pBreak at) = []
  asks_of (t.pContinue at) = []
  asks_of (t.pReturn at e) = calls_if e

  pub asks_in : t.Steps → List ℕ
  asks_in t.no_steps = []
  asks_in (t.steps_and ss s) = asks_in ss ++ asks_of s

-- ---- Functions

abbrev pub function_asks : Option t.Function → List ℕ
function_asks None = []
function_asks (Some f) = asks_in f.body

-- of the functions of these numbers
abbrev pub all_asks : List t.Function → List ℕ → List ℕ
all_asks functions [] = []
all_asks functions (number ∷ numbers) = function_asks (slice_get functions number) ++ all_asks functions numbers
