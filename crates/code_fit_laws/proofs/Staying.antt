-- Instructions that go on within a range of places, and fill slots behind the first one of a function.
use Rattle.std.proofs.Common.{◌≡◌, ℕ, zero, suc, ◌+◌, ◌-◌, ◌<◌, ◌≤◌, true, List, [], ◌∷◌, ◌++◌, length, Option, Some, None, ℤ, pos, slice_get, refl, ◌∙◌, subst, arith, length-append, lt-ltb, le-leb}
use Rattle.std.specs.Prelude.{nat_le, nat_lt}
use Rattle.std.proofs.lemmas.Bool.{and_from}
use Rattle.std.proofs.lemmas.Option.{same_Some}
use Rattle.lv_base.specs.declared.kind.Kind.{Kind}
use Rattle.slot_code.specs.declared.flat.Instruction.{Instruction}
use Rattle.slot_code.specs.declared.flat.Instruction.TheVariants as i
use Rattle.slot_code.specs.Values.{both_code, either_code, kept_code, choice_code}
use Rattle.slot_code.specs.Statements.{jump_from, loop_code}
use Rattle.cfg_build.specs.Keeping.{is_inside, stays, filled_by}
use Rattle.code_fit_laws.specs.Ranges.{Range}

-- the slot stands behind this one
abbrev pub Over : ℕ → Option ℕ → Type 0
Over n None = Unit {0}
Over n (Some slot) = n < slot

module _ (r : Range) where
  abbrev pub K : ℕ → Instruction → Type 0
  K p x = (stays r p x ≡ true) × Over r.slot (filled_by x)

  -- each instruction of a list that stands at a place
  abbrev pub Stay : ℕ → List Instruction → Type 0
  Stay p [] = Unit {0}
  Stay p (x ∷ xs) = K p x × Stay (suc p) xs

  pub stay_at : (p : ℕ) (xs : List Instruction) → Stay p xs → (k : ℕ) (x : Instruction) → slice_get xs k ≡ Some x → K (p + k) x
  stay_at p [] h k x e = absurd cc
  stay_at p (y ∷ ys) h zero x e = let same : p ≡ p + 0 = omega arith in subst (λ n. K n x) same (subst (λ z. K p z) (same_Some y x e) h.0)
  stay_at p (y ∷ ys) h (suc k) x e = let same : suc p + k ≡ p + suc k = omega arith in subst (λ n. K n x) same (stay_at (suc p) ys h.1 k x e)

  pub there : (p q : ℕ) (xs : List Instruction) → p ≡ q → Stay p xs → Stay q xs
  there p q xs e h = subst (λ n. Stay n xs) e h

  pub joined : (p : ℕ) (xs ys : List Instruction) → Stay p xs → Stay (p + length xs) ys → Stay p (xs ++ ys)
  joined p [] ys a b = there (p + 0) p ys (omega arith) b
  joined p (x ∷ xs) ys a b = (a.0, joined (suc p) xs ys a.1 (there (p + suc (length xs)) (suc p + length xs) ys (omega arith) b))

  -- ---- Single instructions

  pub inside : (p : ℕ) → r.entry ≤ p → p < r.end → is_inside r p ≡ true
  inside p a b = and_from (nat_le r.entry p) (nat_lt p r.end) (le-leb r.entry p a) (lt-ltb p r.end b)

  pub jump_stays : (p goal : ℕ) → r.entry ≤ p → p + 1 < r.end → goal < r.end → K p (jump_from p goal)
  jump_stays p goal a b c = (inside (p + 1 + (goal - suc p)) (omega (arith, a)) (omega (arith, b, c)), tt)

  pub skip_stays : (p d n : ℕ) → r.entry ≤ p → p + 1 + n < r.end → K p (i.SkipZero d n)
  skip_stays p d n a b = (and_from (is_inside r (p + 1)) (is_inside r (p + 1 + n)) (inside (p + 1) (omega (arith, a)) (omega (arith, b))) (inside (p + 1 + n) (omega (arith, a)) b), tt)

  pub constant_stays : (p d : ℕ) (v : ℤ) → r.slot < d → r.entry ≤ p → p + 1 < r.end → K p (i.Constant d v)
  constant_stays p d v lt a b = (inside (p + 1) (omega (arith, a)) b, lt)

  -- ---- Code that stays wherever it stands, if an instruction of the range stands behind it

  abbrev pub Good : List Instruction → Type 0
  Good xs = (p : ℕ) → r.entry ≤ p → p + length xs < r.end → Stay p xs

  pub nothing : Good []
  nothing p a b = tt

  pub one : (x : Instruction) → ((p : ℕ) → stays r p x ≡ is_inside r (p + 1)) → Over r.slot (filled_by x) → Good (x ∷ [])
  one x e o p a b = ((e p ∙ inside (p + 1) (omega (arith, a)) (omega (arith, b)), o), tt)

  pub more : (x : Instruction) (xs : List Instruction) → ((p : ℕ) → stays r p x ≡ is_inside r (p + 1)) → Over r.slot (filled_by x) → Good xs → Good (x ∷ xs)
  more x xs e o g p a b = ((e p ∙ inside (p + 1) (omega (arith, a)) (omega (arith, b)), o), g (suc p) (omega (arith, a)) (omega (arith, b)))

  pub both : (xs ys : List Instruction) → Good xs → Good ys → Good (xs ++ ys)
  both xs ys g h p a b =
      let n : length (xs ++ ys) ≡ length xs + length ys = length-append xs ys in
      joined p xs ys (g p a (omega (arith, b, n))) (h (p + length xs) (omega (arith, a)) (omega (arith, b, n)))

  pub three : (xs ys zs : List Instruction) → Good xs → Good ys → Good zs → Good ((xs ++ ys) ++ zs)
  three xs ys zs f g h = both (xs ++ ys) zs (both xs ys f g) h

  pub both_stays : (d : ℕ) (xs ys : List Instruction) → r.slot < d → Good xs → Good ys → Good (both_code d xs ys)
  both_stays d xs ys lt f g p a b =
      let skip : List Instruction = i.SkipZero d (length ys + 2) ∷ ys in
      let last : List Instruction = i.Truth d ∷ i.Jump 1 ∷ i.Constant d (pos 0) ∷ [] in
      let m : length (xs ++ skip) ≡ length xs + suc (length ys) = length-append xs skip in
      let n : length ((xs ++ skip) ++ last) ≡ length (xs ++ skip) + 3 = length-append (xs ++ skip) last in
      let q : ℕ = p + length xs in
      let t : ℕ = p + length (xs ++ skip) in
      joined p (xs ++ skip) last
      (joined p xs skip (f p a (omega (arith, b, m, n))) (skip_stays q d (length ys + 2) (omega (arith, a)) (omega (arith, b, m, n)), g (suc q) (omega (arith, a)) (omega (arith, b, m, n)))) (
        (inside (t + 1) (omega (arith, a)) (omega (arith, b, n)), lt),
        (
          (inside (suc t + 1 + 1) (omega (arith, a)) (omega (arith, b, n)), tt),
          (constant_stays (suc (suc t)) d (pos 0) lt (omega (arith, a)) (omega (arith, b, n)), tt),
        ),
      )

  pub either_stays : (d : ℕ) (xs ys : List Instruction) → r.slot < d → Good xs → Good ys → Good (either_code d xs ys)
  either_stays d xs ys lt f g p a b =
      let skip : List Instruction = i.SkipZero d 2 ∷ i.Constant d (pos 1) ∷ i.Jump (length ys + 1) ∷ ys in
      let last : List Instruction = i.Truth d ∷ [] in
      let m : length (xs ++ skip) ≡ length xs + suc (suc (suc (length ys))) = length-append xs skip in
      let n : length ((xs ++ skip) ++ last) ≡ length (xs ++ skip) + 1 = length-append (xs ++ skip) last in
      let q : ℕ = p + length xs in
      let t : ℕ = p + length (xs ++ skip) in
      joined p (xs ++ skip) last
      (joined p xs skip (f p a (omega (arith, b, m, n))) (
        skip_stays q d 2 (omega (arith, a)) (omega (arith, b, m, n)),
        (
          constant_stays (suc q) d (pos 1) lt (omega (arith, a)) (omega (arith, b, m, n)),
          (
            (inside (suc (suc q) + 1 + (length ys + 1)) (omega (arith, a)) (omega (arith, b, m, n)), tt),
            g (suc (suc (suc q))) (omega (arith, a)) (omega (arith, b, m, n)),
          ),
        ),
      ))
      ((inside (t + 1) (omega (arith, a)) (omega (arith, b, n)), lt), tt)

  pub kept_stays : (d : ℕ) (k : Option Kind) → r.slot < d → Good (kept_code d k)
  kept_stays d None lt = one (i.Constant d (pos 0)) (λ p. refl) lt
  kept_stays d (Some k) lt = nothing

  pub choice_stays : (d : ℕ) (k : Option Kind) (xs ys zs : List Instruction) → r.slot < d → Good xs → Good ys → Good zs → Good (choice_code d k xs ys zs)
  choice_stays d k xs ys zs lt f g h p a b =
      let skip : List Instruction = i.SkipZero d (length ys + 1) ∷ ys in
      let jump : List Instruction = i.Jump (length zs) ∷ zs in
      let l : length (xs ++ skip) ≡ length xs + suc (length ys) = length-append xs skip in
      let m : length ((xs ++ skip) ++ jump) ≡ length (xs ++ skip) + suc (length zs) = length-append (xs ++ skip) jump in
      let n : length (((xs ++ skip) ++ jump) ++ kept_code d k) ≡ length ((xs ++ skip) ++ jump) + length (kept_code d k) = length-append ((xs ++ skip) ++ jump) (kept_code d k) in
      let q : ℕ = p + length xs in
      let t : ℕ = p + length (xs ++ skip) in
      joined p ((xs ++ skip) ++ jump) (kept_code d k)
      (joined p (xs ++ skip) jump
      (joined p xs skip (f p a (omega (arith, b, l, m, n))) (skip_stays q d (length ys + 1) (omega (arith, a)) (omega (arith, b, l, m, n)), g (suc q) (omega (arith, a)) (omega (arith, b, l, m, n))))
      ((inside (t + 1 + length zs) (omega (arith, a)) (omega (arith, b, m, n)), tt), h (suc t) (omega (arith, a)) (omega (arith, b, m, n))))
      (kept_stays d k lt (p + length ((xs ++ skip) ++ jump)) (omega (arith, a)) (omega (arith, b, n)))

  -- ---- Loops, whose body stands at its place

  pub loop_stays : (at place d p : ℕ) (xs ys zs : List Instruction) → Good xs → Stay (suc (p + length xs)) ys → Good zs → r.entry ≤ place → place < r.end
      → r.entry ≤ p
      → p + length (loop_code at place d xs ys zs) < r.end → Stay p (loop_code at place d xs ys zs)
  loop_stays at place d p xs ys zs f g h from to a b =
      let skip : List Instruction = i.SkipZero d (length ys + length zs + 1) ∷ ys in
      let l : length (xs ++ skip) ≡ length xs + suc (length ys) = length-append xs skip in
      let m : length ((xs ++ skip) ++ zs) ≡ length (xs ++ skip) + length zs = length-append (xs ++ skip) zs in
      let n : length (((xs ++ skip) ++ zs) ++ i.Turn at place ∷ []) ≡ length ((xs ++ skip) ++ zs) + 1 = length-append ((xs ++ skip) ++ zs) (i.Turn at place ∷ []) in
      joined p ((xs ++ skip) ++ zs) (i.Turn at place ∷ [])
      (joined p (xs ++ skip) zs
      (joined p xs skip (f p a (omega (arith, b, l, m, n))) (skip_stays (p + length xs) d (length ys + length zs + 1) (omega (arith, a)) (omega (arith, b, l, m, n)), g))
      (h (p + length (xs ++ skip)) (omega (arith, a)) (omega (arith, b, m, n))))
      ((inside place from to, tt), tt)
