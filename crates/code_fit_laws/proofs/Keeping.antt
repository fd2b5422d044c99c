-- The code of values and statements goes on within its function, and fills slots behind the one by which the function returns.
use Rattle.std.proofs.Common.{◌≡◌, ℕ, zero, suc, ◌+◌, ◌<◌, ◌≤◌, Bool, List, [], ◌∷◌, ◌++◌, length, Option, Some, None, pos, slice_get, refl, arith, length-append}
use Rattle.std.proofs.lemmas.Bool.{and_from}
use Rattle.lv_base.specs.declared.kind.Kind.{Kind}
use Rattle.lv_base.specs.declared.kind.Model.{Model}
use Rattle.lv_base.specs.Integers.{converted}
use Rattle.c_run.specs.Operators.{Use, used, dropped}
use Rattle.c_typed.specs.Tree.{Val, vConstant, vRead, vElement, vWhole, vNothing, vConvert, vDiscard, vNegate, vComplement, vNot, vBinary, vBoth, vEither, vCond, vAssign, vUpdate, vChange, vCall, vReach, vAbort, vDraw, vComma, Goal, gObject, gElement, Vals, no_values, values_and, Object, Function}
use Rattle.c_typed.specs.Rules.{object_in}
use Rattle.slot_code.specs.declared.flat.Instruction.{Instruction}
use Rattle.slot_code.specs.declared.flat.Instruction.TheVariants as i
use Rattle.slot_code.specs.Values.{Link, link_of, number_of, count_of, parameters_of, bind_code, call_code, is_needed, value_code, values_code, drops_code, goal_code, effect_code, test_code}
use Rattle.slot_code.specs.Statements.{Mark, Name, aLabel, aCase, aDefault, or_place, default_in, cases_code, loop_code, jump_from, return_code}
use Rattle.cfg_build.specs.Keeping.{is_inside}
use Rattle.code_fit_laws.specs.Ranges.{Range}
use Rattle.code_fit_laws.proofs.Marking.{Within, UpTo, default_within}
use Rattle.code_fit_laws.proofs.Staying.{K, Stay, Good, there, joined, inside, jump_stays, skip_stays, constant_stays, nothing, one, more, both, three, both_stays, either_stays, choice_stays, loop_stays}

-- ---- Values

module _ (r : Range) where
  abbrev S : ℕ → List Instruction → Type 0
  S p xs = Stay r p xs

  abbrev G : List Instruction → Type 0
  G xs = Good r xs

  bind_stays : (os : List ℕ) (d n : ℕ) → G (bind_code d os n)
  bind_stays [] d n = nothing r
  bind_stays (o ∷ os) d zero = nothing r
  bind_stays (o ∷ os) d (suc n) = more r (i.Bind d o) (bind_code (suc d) os n) (λ p. refl) tt (bind_stays os (suc d) n)

  call_stays : (d at n : ℕ) (needed : Bool) (os : List ℕ) (l : Option Link) → r.slot < d → G (call_code d at needed os n l)
  call_stays d at n needed os None lt = λ p a b. ((refl, tt), tt)
  call_stays d at n needed os (Some l) lt =
      both r (bind_code d os n) (i.Call at l.entry l.slot ∷ i.Take d at l.slot needed ∷ []) (bind_stays os d n)
      (more r (i.Call at l.entry l.slot) (i.Take d at l.slot needed ∷ []) (λ p. refl) tt (one r (i.Take d at l.slot needed) (λ p. refl) lt))

  module _ (objects : List Object) (functions : List Function) (links : List Link) where
    abbrev code : Use → ℕ → Val → List Instruction
    code u d e = value_code objects functions links u d e

    mutual
      pub value_stays : (u : Use) (d : ℕ) (e : Val) → r.slot < d → G (code u d e)
      value_stays u d (vConstant k v) lt = one r (i.Constant d v) (λ p. refl) lt
      value_stays u d (vRead k o) lt = one r (i.Read d o) (λ p. refl) lt
      value_stays u d (vElement k at o e) lt = both r (code used d e) _ (value_stays used d e lt) (one r (i.Element d at o (count_of objects functions links o)) (λ p. refl) lt)
      value_stays u d (vWhole o) lt = one r (i.Read d o) (λ p. refl) lt
      value_stays u d vNothing lt = one r (i.Constant d (pos 0)) (λ p. refl) lt
      value_stays u d (vConvert k e) lt = both r (code used d e) _ (value_stays used d e lt) (one r (i.Convert d k) (λ p. refl) lt)
      value_stays u d (vDiscard e) lt = both r (code dropped d e) _ (value_stays dropped d e lt) (one r (i.Constant d (pos 0)) (λ p. refl) lt)
      value_stays u d (vNegate k at e) lt = both r (code used d e) _ (value_stays used d e lt) (one r (i.Negate d k at) (λ p. refl) lt)
      value_stays u d (vComplement k at e) lt = both r (code used d e) _ (value_stays used d e lt) (one r (i.Complement d k at) (λ p. refl) lt)
      value_stays u d (vNot e) lt = both r (code used d e) _ (value_stays used d e lt) (one r (i.Not d) (λ p. refl) lt)
      value_stays u d (vBinary o k at a b) lt =
          three r (code used d a) (code used (suc d) b) (i.Binary d o k at ∷ []) (value_stays used d a lt) (value_stays used (suc d) b (omega (arith, lt))) (one r (i.Binary d o k at) (λ p. refl) lt)
      value_stays u d (vBoth a b) lt = both_stays r d (code used d a) (code used d b) lt (value_stays used d a lt) (value_stays used d b lt)
      value_stays u d (vEither a b) lt = either_stays r d (code used d a) (code used d b) lt (value_stays used d a lt) (value_stays used d b lt)
      value_stays u d (vCond k e a b) lt = choice_stays r d k (code used d e) (code used d a) (code used d b) lt (value_stays used d e lt) (value_stays used d a lt) (value_stays used d b lt)
      value_stays u d (vAssign k at g e) lt =
          three r (goal_code objects functions links d g) (code used (suc d) e) _ (goal_stays d g lt) (value_stays used (suc d) e (omega (arith, lt))) (one r (i.Store d (object_in g)) (λ p. refl) lt)
      value_stays u d (vUpdate o k l at g e) lt =
          three r (goal_code objects functions links d g) (_ ∷ code used (suc (suc d)) e) _ (goal_stays d g lt)
          (more r (i.Load d (object_in g)) (code used (suc (suc d)) e) (λ p. refl) (omega (arith, lt)) (value_stays used (suc (suc d)) e (omega (arith, lt)))) (one r (i.Update d o k l at (object_in g)) (λ p. refl) lt)
      value_stays u d (vChange before by k at g) lt = both r (goal_code objects functions links d g) _ (goal_stays d g lt) (one r (i.Change d before by k at (object_in g)) (λ p. refl) lt)
      value_stays u d (vCall result at x f es) lt =
          both r (values_code objects functions links d es) _ (values_stay d es lt) (call_stays d at (number_of es) (is_needed u result) (parameters_of (slice_get functions f)) (link_of f links) lt)
      value_stays u d (vReach at) lt = λ p a b. ((refl, tt), tt)
      value_stays u d vAbort lt = λ p a b. ((refl, tt), tt)
      value_stays u d (vDraw k) lt = one r (i.Draw d k) (λ p. refl) lt
      value_stays u d (vComma es e) lt = both r (drops_code objects functions links d es) (code used d e) (drops_stay d es lt) (value_stays used d e lt)

      pub values_stay : (d : ℕ) (es : Vals) → r.slot < d → G (values_code objects functions links d es)
      values_stay d no_values lt = nothing r
      values_stay d (values_and es e) lt = both r (values_code objects functions links d es) (code used (d + number_of es) e) (values_stay d es lt) (value_stays used (d + number_of es) e (omega (arith, lt)))

      drops_stay : (d : ℕ) (es : Vals) → r.slot < d → G (drops_code objects functions links d es)
      drops_stay d no_values lt = nothing r
      drops_stay d (values_and es e) lt = both r (drops_code objects functions links d es) (code dropped d e) (drops_stay d es lt) (value_stays dropped d e lt)

      goal_stays : (d : ℕ) (g : Goal) → r.slot < d → G (goal_code objects functions links d g)
      goal_stays d (gObject o) lt = one r (i.Constant d (pos 0)) (λ p. refl) lt
      goal_stays d (gElement at o e) lt = both r (code used d e) _ (value_stays used d e lt) (one r (i.Locate d at o (count_of objects functions links o)) (λ p. refl) lt)

    pub effect_stays : (d : ℕ) (e : Option Val) → r.slot < d → G (effect_code objects functions links d e)
    effect_stays d None lt = nothing r
    effect_stays d (Some e) lt = value_stays dropped d e lt

    pub test_stays : (d : ℕ) (e : Option Val) → r.slot < d → G (test_code objects functions links d e)
    test_stays d None lt = one r (i.Constant d (pos 1)) (λ p. refl) lt
    test_stays d (Some e) lt = value_stays used d e lt

-- ---- Parts of statements

module _ (r : Range) where
  -- one try before the others
  abbrev tried : Model → (d place : ℕ) → Kind → List Instruction → Name → List Instruction
  tried model d place k cs (aLabel l) = cs
  tried model d place k cs (aCase v) = i.SkipEqual d (converted k model v) (length cs + 1 + place) ∷ cs
  tried model d place k cs aDefault = cs

  tried_stays : (model : Model) (d place size p : ℕ) (k : Kind) (x : Name) (cs : List Instruction) → place ≤ size → r.entry ≤ p
      → p + length (tried model d place k cs x) + 1 + size < r.end
      → ((q : ℕ) → r.entry ≤ q → q + length cs + 1 + size < r.end → Stay r q cs) → Stay r p (tried model d place k cs x)
  tried_stays model d place size p k (aLabel l) cs le a b h = h p a b
  tried_stays model d place size p k (aCase v) cs le a b h = (
    (and_from (is_inside r (p + 1)) (is_inside r (p + 1 + (length cs + 1 + place))) (inside r (p + 1) (omega (arith, a)) (omega (arith, b))) (inside r (p + 1 + (length cs + 1 + place)) (omega (arith, a)) (omega (arith, b, le))), tt),
    h (suc p) (omega (arith, a)) (omega (arith, b)),
  )
  tried_stays model d place size p k aDefault cs le a b h = h p a b

  cases_stay : (model : Model) (d size : ℕ) (k : Kind) (ms : List Mark) → Within size ms → (p : ℕ) → r.entry ≤ p
      → p + length (cases_code model d k ms) + 1 + size < r.end → Stay r p (cases_code model d k ms)
  cases_stay model d size k [] w p a b = tt
  cases_stay model d size k (m ∷ ms) w p a b = tried_stays model d m.place size p k m.name (cases_code model d k ms) w.0 a b (λ q c e. cases_stay model d size k ms w.1 q c e)

  default_up : (size : ℕ) (o : Option ℕ) → UpTo size o → or_place size o ≤ size
  default_up size None h = omega arith
  default_up size (Some n) h = h

  pub return_none : (d place end : ℕ) (k : Option Kind) (xs : List Instruction) → r.entry ≤ place → place + 1 < r.end → suc end < r.end
      → Stay r place (return_code d place end k xs None)
  return_none d place end k xs a b c = (jump_stays r place end a b (omega (arith, c)), tt)

  pub return_dropped : (d place end : ℕ) (xs : List Instruction) (e : Val) → Good r xs → r.entry ≤ place
      → place + length (return_code d place end None xs (Some e)) < r.end → suc end < r.end → Stay r place (return_code d place end None xs (Some e))
  return_dropped d place end xs e g a b c =
      let n : length (xs ++ jump_from (place + length xs) end ∷ []) ≡ length xs + 1 = length-append xs (jump_from (place + length xs) end ∷ []) in
      joined r place xs (jump_from (place + length xs) end ∷ []) (g place a (omega (arith, b, n))) (jump_stays r (place + length xs) end (omega (arith, a)) (omega (arith, b, n)) (omega (arith, c)), tt)

  pub return_used : (d place end : ℕ) (k : Kind) (xs : List Instruction) (e : Val) → r.slot < d → Good r xs → r.entry ≤ place
      → place + length (return_code d place end (Some k) xs (Some e)) < r.end → suc end < r.end → Stay r place (return_code d place end (Some k) xs (Some e))
  return_used d place end k xs e lt g a b c =
      let last : List Instruction = i.Constant (suc d) (pos 1) ∷ jump_from (suc (place + length xs)) (suc end) ∷ [] in
      let n : length (xs ++ last) ≡ length xs + 2 = length-append xs last in
      joined r place xs last (g place a (omega (arith, b, n))) (
        constant_stays r (place + length xs) (suc d) (pos 1) (omega (arith, lt)) (omega (arith, a)) (omega (arith, b, n)),
        (jump_stays r (suc (place + length xs)) (suc end) (omega (arith, a)) (omega (arith, b, n)) c, tt),
      )

  pub if_stays : (d p n : ℕ) (xs ys : List Instruction) → Good r xs → length ys ≡ n → r.entry ≤ p → p + length (xs ++ i.SkipZero d n ∷ ys) < r.end
      → Stay r (p + (length xs + 1)) ys → Stay r p (xs ++ i.SkipZero d n ∷ ys)
  if_stays d p n xs ys g e a b h =
      let l : length (xs ++ i.SkipZero d n ∷ ys) ≡ length xs + suc (length ys) = length-append xs (i.SkipZero d n ∷ ys) in
      joined r p xs (i.SkipZero d n ∷ ys) (g p a (omega (arith, b, l)))
      (skip_stays r (p + length xs) d n (omega (arith, a)) (omega (arith, b, l, e)), there r (p + (length xs + 1)) (suc (p + length xs)) ys (omega arith) h)

  pub else_stays : (d p n m : ℕ) (xs ys zs : List Instruction) → Good r xs → length ys ≡ n → length zs ≡ m → r.entry ≤ p
      → p + length ((xs ++ i.SkipZero d (n + 1) ∷ ys) ++ i.Jump m ∷ zs) < r.end
      → Stay r (p + (length xs + 1)) ys → Stay r (p + (length xs + 1 + n + 1)) zs → Stay r p ((xs ++ i.SkipZero d (n + 1) ∷ ys) ++ i.Jump m ∷ zs)
  else_stays d p n m xs ys zs g e f a b h k =
      let skip : List Instruction = i.SkipZero d (n + 1) ∷ ys in
      let jump : List Instruction = i.Jump m ∷ zs in
      let l : length (xs ++ skip) ≡ length xs + suc (length ys) = length-append xs skip in
      let j : length ((xs ++ skip) ++ jump) ≡ length (xs ++ skip) + suc (length zs) = length-append (xs ++ skip) jump in
      let t : ℕ = p + length (xs ++ skip) in
      joined r p (xs ++ skip) jump
      (joined r p xs skip (g p a (omega (arith, b, l, j))) (skip_stays r (p + length xs) d (n + 1) (omega (arith, a)) (omega (arith, b, l, j, e)), there r (p + (length xs + 1)) (suc (p + length xs)) ys (omega arith) h))
      ((inside r (t + 1 + m) (omega (arith, a)) (omega (arith, b, j, f)), tt), there r (p + (length xs + 1 + n + 1)) (suc t) zs (omega (arith, l, e)) k)

  -- a loop behind one instruction
  pub while_stays : (at d p : ℕ) (xs ys : List Instruction) (x : Instruction) → K r p x → Good r xs → r.entry ≤ p
      → p + length (x ∷ loop_code at (suc p) d xs ys []) < r.end → Stay r (p + (1 + length xs + 1)) ys → Stay r p (x ∷ loop_code at (suc p) d xs ys [])
  while_stays at d p xs ys x k g a b h =
      (k, loop_stays r at (suc p) d (suc p) xs ys [] g (there r (p + (1 + length xs + 1)) (suc (suc p + length xs)) ys (omega arith) h) (nothing r) (omega (arith, a)) (omega (arith, b)) (omega (arith, a)) (omega (arith, b)))

  pub for_stays : (at d p m : ℕ) (ws xs ys zs : List Instruction) → Stay r p ws → length ws ≡ m → Good r xs → Good r zs → r.entry ≤ p
      → p + length (ws ++ i.Turn at (suc (p + m)) ∷ loop_code at (suc (p + m)) d xs ys zs) < r.end
      → Stay r (p + (m + 1 + length xs + 1)) ys → Stay r p (ws ++ i.Turn at (suc (p + m)) ∷ loop_code at (suc (p + m)) d xs ys zs)
  for_stays at d p m ws xs ys zs w e g k a b h =
      let turn : List Instruction = i.Turn at (suc (p + m)) ∷ loop_code at (suc (p + m)) d xs ys zs in
      let n : length (ws ++ turn) ≡ length ws + suc (length (loop_code at (suc (p + m)) d xs ys zs)) = length-append ws turn in
      let q : ℕ = suc (p + length ws) in
      joined r p ws turn w (
        (inside r (suc (p + m)) (omega (arith, a)) (omega (arith, b, n, e)), tt),
        loop_stays r at (suc (p + m)) d q xs ys zs g (there r (p + (m + 1 + length xs + 1)) (suc (q + length xs)) ys (omega (arith, e)) h) k (omega (arith, a)) (omega (arith, b, n, e)) (omega (arith, a)) (omega (arith, b, n)),
      )

  pub switch_stays : (model : Model) (d p size : ℕ) (k : Kind) (ms : List Mark) (xs ys : List Instruction) → Good r xs → Within size ms → length ys ≡ size
      → r.entry ≤ p
      → p + length ((xs ++ cases_code model d k ms) ++ i.Jump (or_place size (default_in ms)) ∷ ys) < r.end → Stay r (p + (length xs + length (cases_code model d k ms) + 1)) ys
      → Stay r p ((xs ++ cases_code model d k ms) ++ i.Jump (or_place size (default_in ms)) ∷ ys)
  switch_stays model d p size k ms xs ys g w e a b h =
      let cs : List Instruction = cases_code model d k ms in
      let goal : ℕ = or_place size (default_in ms) in
      let jump : List Instruction = i.Jump goal ∷ ys in
      let up : goal ≤ size = default_up size (default_in ms) (default_within size ms w) in
      let l : length (xs ++ cs) ≡ length xs + length cs = length-append xs cs in
      let j : length ((xs ++ cs) ++ jump) ≡ length (xs ++ cs) + suc (length ys) = length-append (xs ++ cs) jump in
      let t : ℕ = p + length (xs ++ cs) in
      joined r p (xs ++ cs) jump
      (joined r p xs cs (g p a (omega (arith, b, l, j))) (cases_stay model d size k ms w (p + length xs) (omega (arith, a)) (omega (arith, b, l, j, e))))
      ((inside r (t + 1 + goal) (omega (arith, a)) (omega (arith, b, j, e, up)), tt), there r (p + (length xs + length cs + 1)) (suc t) ys (omega (arith, l)) h)
