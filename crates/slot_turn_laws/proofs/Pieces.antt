-- Pieces of code that are put together, and what they do.
use Rattle.std.proofs.Common.{◌≡◌, ℕ, suc, ◌+◌, ◌<◌, ◌≤◌, Bool, true, false, List, [], ◌∷◌, ◌++◌, length, Option, Some, None, ℤ, pos, inl, refl, sym, ap, ◌∙◌, subst, arith, length-append}
use Rattle.lv_base.specs.declared.kind.Kind.{Kind}
use Rattle.lv_base.specs.Integers.{truth}
use Rattle.c_run.specs.Run.{State, Value, Run, give, after, choose, is_true}
use Rattle.c_typed.specs.Run.{kept}
use Rattle.slot_code.specs.declared.flat.Instruction.{Instruction}
use Rattle.slot_code.specs.declared.flat.Instruction.TheVariants as i
use Rattle.slot_code.specs.Slots.{get, slots_of}
use Rattle.slot_code.specs.Values.{both_code, either_code, kept_code, choice_code}
use Rattle.slot_code.specs.Machine.{fills, act_with}
use Rattle.slot_turn_laws.proofs.Running.{Still, still_here}
use Rattle.slot_turn_laws.proofs.Lying.{Met, ends, ends_value, seq, Frame, Lies, At, split, parts, from, there_from, leads, Keeps, keeps_on, keeps_less, Then, Does, then_on, In, one}

module _ (c : Frame) (t : ℕ) where
  -- one instruction
  pub single : (d : ℕ) (x : Instruction) (f : Run ℤ) → ((p : ℕ) (s : List ℤ) (st : State) → act_with c.model c.compute c.inputs c.way x p s st ≡ fills p s d (f st)) → d < slots_of x → ((st : State) → Still st (f st)) → Does c t ℤ (In c t d) d (x ∷ []) f
  single d x f a b still p q s st k e l tu h = one c t p q d d s st x (f st) k (omega (arith, e)) l.0 (a p s st) (omega arith) (omega (arith, b, l.0.below)) (still st) tu h

  -- an operator with one operand
  pub unary : (d : ℕ) (xs : List Instruction) (g : Run ℤ) (x : Instruction) (f : ℤ → Run ℤ) → Does c t ℤ (In c t d) d xs g →
      ((p : ℕ) (s : List ℤ) (st : State) → act_with c.model c.compute c.inputs c.way x p s st ≡ fills p s d (f (get s d) st)) → d < slots_of x → ((v : ℤ) (st : State) → Still st (f v st)) →
      Does c t ℤ (In c t d) d (xs ++ x ∷ []) (λ st. after (g st) f)
  unary d xs g x f runs a b still p q s st k e l tu h =
      let r = split c p xs (x ∷ []) l in
      let n : length (xs ++ x ∷ []) ≡ length xs + length (x ∷ []) = length-append xs (x ∷ []) in
      seq c.asker ℤ ℤ (g st) f k (from c p s st) (runs p (p + length xs) s st (λ v st1. ends c.asker (f v st1) k) refl r.0 tu
      (λ v s1 st1 tu1 k1 is1.
      one c t (p + length xs) q d d s1 st1 x (f (get s1 d) st1) k (omega (arith, e, n)) r.1.0 (a (p + length xs) s1 st1) (omega arith) (omega (arith, b, r.1.0.below)) (still (get s1 d) st1) tu1 (then_on c t ℤ (In c t d) d q s s1 k k1 h)
      ∙ ap (λ w. ends c.asker (f w st1) k) is1))

  -- an operator with two operands
  pub binary : (d : ℕ) (xs ys : List Instruction) (g g' : Run ℤ) (x : Instruction) (f : ℤ → ℤ → Run ℤ) → c.low ≤ d → Does c t ℤ (In c t d) d xs g → Does c t ℤ (In c t (suc d)) (suc d) ys g' →
      ((p : ℕ) (s : List ℤ) (st : State) → act_with c.model c.compute c.inputs c.way x p s st ≡ fills p s d (f (get s d) (get s (suc d)) st)) → d < slots_of x → ((v w : ℤ) (st : State) → Still st (f v w st)) →
      Does c t ℤ (In c t d) d ((xs ++ ys) ++ x ∷ []) (λ st. after (g st) (λ v st1. after (g' st1) (f v)))
  binary d xs ys g g' x f lo runs runs' a b still p q s st k e l tu h =
      let r = parts c p xs ys (x ∷ []) l in
      let m : ℕ = p + length xs in
      let m2 : ℕ = p + length xs + length ys in
      seq c.asker ℤ ℤ (g st) (λ v st1. after (g' st1) (f v)) k (from c p s st) (runs p m s st (λ v st1. ends c.asker (after (g' st1) (f v)) k) refl r.first tu
      (λ v s1 st1 tu1 k1 is1. seq c.asker ℤ ℤ (g' st1) (f v) k (from c m s1 st1) (runs' m m2 s1 st1 (λ w st2. ends c.asker (f v w st2) k) refl r.second tu1
      (λ w s2 st2 tu2 k2 is2.
      one c t m2 q d d s2 st2 x (f (get s2 d) (get s2 (suc d)) st2) k (omega (arith, e, r.whole)) r.third.0 (a m2 s2 st2) (omega arith) (omega (arith, b, r.third.0.below)) (still (get s2 d) (get s2 (suc d)) st2) tu2
      (then_on c t ℤ (In c t d) d q s s2 k (keeps_on c d s s1 s2 k1 (keeps_less c d (suc d) s1 s2 (omega arith) k2)) h)
      ∙ ap (λ z. ends c.asker (f z (get s2 (suc d)) st2) k) (k2 d lo (inl (omega arith)) ∙ is1) ∙ ap (λ z. ends c.asker (f v z st2) k) is2))))

  -- ---- Parts that are skipped

  -- 0 or 1 by the second operand, where the first one doesn't decide
  abbrev pub truth_of : Run ℤ → Run ℤ
  truth_of g st = after (g st) (λ y. give (truth (is_true y)))

  -- behind the second operand
  truth_does : (d m q : ℕ) (ys : List Instruction) (g : Run ℤ) (s s1 : List ℤ) (st : State) (k : ℤ → State → Met) → Does c t ℤ (In c t d) d ys g → At c m ys → Lies c (m + length ys) (i.Truth d) → st.turns ≤ t →
      Keeps c d s s1 → Then c t ℤ (In c t d) d (suc (m + length ys)) s k → from c m s1 st ≡ ends c.asker (truth_of g st) k
  truth_does d m q ys g s s1 st k runs l lies tu k1 h =
      seq c.asker ℤ ℤ (g st) (λ y. give (truth (is_true y))) k (from c m s1 st) (runs m (m + length ys) s1 st (λ y st2. ends c.asker (give (truth (is_true y)) st2) k) refl l tu
      (λ y s2 st2 tu2 k2 is2.
      one c t (m + length ys) (suc (m + length ys)) d d s2 st2 (i.Truth d) (Value (truth (is_true (get s2 d))) st2) k refl lies refl (omega arith) (omega (arith, lies.below)) (still_here st2 (truth (is_true (get s2 d)))) tu2
      (then_on c t ℤ (In c t d) d (suc (m + length ys)) s s2 k (keeps_on c d s s1 s2 k1 k2) h)
      ∙ ap (λ z. ends c.asker (Value (truth (is_true z)) st2) k) is2))

  -- a constant
  constant_does : (d m q : ℕ) (v : ℤ) (s s1 : List ℤ) (st : State) (k : ℤ → State → Met) → Lies c m (i.Constant d v) → q ≡ suc m → st.turns ≤ t → Keeps c d s s1 → Then c t ℤ (In c t d) d q s k → from c m s1 st ≡ ends c.asker (Value v st) k
  constant_does d m q v s s1 st k l e tu k1 h =
      one c t m q d d s1 st (i.Constant d v) (Value v st) k e l refl (omega arith) (omega (arith, l.below)) (still_here st v) tu (then_on c t ℤ (In c t d) d q s s1 k k1 h)

  pub both : (d : ℕ) (xs ys : List Instruction) (g g' : Run ℤ) → Does c t ℤ (In c t d) d xs g → Does c t ℤ (In c t d) d ys g' →
      Does c t ℤ (In c t d) d (both_code d xs ys) (λ st. after (g st) (λ x. choose (is_true x) (truth_of g') (give (pos 0))))
  both d xs ys g g' runs runs' p q s st k e l tu h =
      let r = parts c p xs (i.SkipZero d (length ys + 2) ∷ ys) (i.Truth d ∷ i.Jump 1 ∷ i.Constant d (pos 0) ∷ []) l in
      let m : ℕ = p + length xs in
      let m2 : ℕ = p + length xs + suc (length ys) in
      seq c.asker ℤ ℤ (g st) (λ x. choose (is_true x) (truth_of g') (give (pos 0))) k (from c p s st) (runs p m s st (λ x st1. ends c.asker (choose (is_true x) (truth_of g') (give (pos 0)) st1) k) refl r.first tu
      (λ x s1 st1 tu1 k1 is1.
      leads c m (choose (is_true (get s1 d)) (suc m) (suc m + (length ys + 2))) s1 s1 st1 st1 (i.SkipZero d (length ys + 2)) r.second.0 refl
      ∙ go m m2 (is_true (get s1 d)) s1 st1 tu1 k1 r.second.1 r.third (omega arith) (omega (arith, e, r.whole))
      ∙ ap (λ z. ends c.asker (choose (is_true z) (truth_of g') (give (pos 0)) st1) k) is1))
    where
      go : (m m2 : ℕ) (b : Bool) (s1 : List ℤ) (st1 : State) → st1.turns ≤ t → Keeps c d s s1 → At c (suc m) ys → At c m2 (i.Truth d ∷ i.Jump 1 ∷ i.Constant d (pos 0) ∷ []) → m2 ≡ suc m + length ys → q ≡ m2 + 3 →
          from c (choose b (suc m) (suc m + (length ys + 2))) s1 st1 ≡ ends c.asker (choose b (truth_of g') (give (pos 0)) st1) k
      go m m2 true s1 st1 tu1 k1 ly lz em eq =
          truth_does d (suc m) q ys g' s s1 st1 k runs' ly (subst (λ n. Lies c n (i.Truth d)) em lz.0) tu1 k1
          (λ v s2 st2 tu2 k2 is2.
          there_from c (suc m2) (suc (suc m + length ys)) s2 st2 (k v st2) (omega (arith, em))
          (leads c (suc m2) (suc (suc m2) + 1) s2 s2 st2 st2 (i.Jump 1) lz.1.0 refl ∙ there_from c q (suc (suc m2) + 1) s2 st2 (k v st2) (omega (arith, eq)) (h v s2 st2 tu2 k2 is2)))
      go m m2 false s1 st1 tu1 k1 ly lz em eq =
          there_from c (suc (suc m2)) (suc m + (length ys + 2)) s1 st1 _ (omega (arith, em)) (constant_does d (suc (suc m2)) q (pos 0) s s1 st1 k lz.1.1.0 (omega (arith, eq)) tu1 k1 h)

  pub either : (d : ℕ) (xs ys : List Instruction) (g g' : Run ℤ) → Does c t ℤ (In c t d) d xs g → Does c t ℤ (In c t d) d ys g' →
      Does c t ℤ (In c t d) d (either_code d xs ys) (λ st. after (g st) (λ x. choose (is_true x) (give (pos 1)) (truth_of g')))
  either d xs ys g g' runs runs' p q s st k e l tu h =
      let r = parts c p xs (i.SkipZero d 2 ∷ i.Constant d (pos 1) ∷ i.Jump (length ys + 1) ∷ ys) (i.Truth d ∷ []) l in
      let m : ℕ = p + length xs in
      let m2 : ℕ = p + length xs + suc (suc (suc (length ys))) in
      seq c.asker ℤ ℤ (g st) (λ x. choose (is_true x) (give (pos 1)) (truth_of g')) k (from c p s st) (runs p m s st (λ x st1. ends c.asker (choose (is_true x) (give (pos 1)) (truth_of g') st1) k) refl r.first tu
      (λ x s1 st1 tu1 k1 is1.
      leads c m (choose (is_true (get s1 d)) (suc m) (suc m + 2)) s1 s1 st1 st1 (i.SkipZero d 2) r.second.0 refl
      ∙ go m m2 (is_true (get s1 d)) s1 st1 tu1 k1 r.second.1 r.third.0 (omega arith) (omega (arith, e, r.whole))
      ∙ ap (λ z. ends c.asker (choose (is_true z) (give (pos 1)) (truth_of g') st1) k) is1))
    where
      go : (m m2 : ℕ) (b : Bool) (s1 : List ℤ) (st1 : State) → st1.turns ≤ t → Keeps c d s s1 → At c (suc m) (i.Constant d (pos 1) ∷ i.Jump (length ys + 1) ∷ ys) → Lies c m2 (i.Truth d) → m2 ≡ suc (suc (suc m)) + length ys → q ≡ suc m2 →
          from c (choose b (suc m) (suc m + 2)) s1 st1 ≡ ends c.asker (choose b (give (pos 1)) (truth_of g') st1) k
      go m m2 true s1 st1 tu1 k1 ly lz em eq =
          constant_does d (suc m) (suc (suc m)) (pos 1) s s1 st1 k ly.0 refl tu1 k1
          (λ v s2 st2 tu2 k2 is2.
          leads c (suc (suc m)) (suc (suc (suc m)) + (length ys + 1)) s2 s2 st2 st2 (i.Jump (length ys + 1)) ly.1.0 refl
          ∙ there_from c q (suc (suc (suc m)) + (length ys + 1)) s2 st2 (k v st2) (omega (arith, eq, em)) (h v s2 st2 tu2 k2 is2))
      go m m2 false s1 st1 tu1 k1 ly lz em eq =
          there_from c (suc (suc (suc m))) (suc m + 2) s1 st1 _ (omega arith)
          (truth_does d (suc (suc (suc m))) q ys g' s s1 st1 k runs' ly.1.1 (subst (λ n. Lies c n (i.Truth d)) em lz) tu1 k1
          (λ v s2 st2 tu2 k2 is2. there_from c q (suc (suc (suc (suc m)) + length ys)) s2 st2 (k v st2) (omega (arith, eq, em)) (h v s2 st2 tu2 k2 is2)))

  kept_does : (d m q : ℕ) (kind : Option Kind) (v : ℤ) (s s1 : List ℤ) (st : State) (k : ℤ → State → Met) → At c m (kept_code d kind) → q ≡ m + length (kept_code d kind) → st.turns ≤ t → Keeps c d s s1 → get s1 d ≡ v → Then c t ℤ (In c t d) d q s k →
      from c m s1 st ≡ ends c.asker (Value (kept kind v) st) k
  kept_does d m q None v s s1 st k l e tu k1 is h = constant_does d m q (pos 0) s s1 st k l.0 (omega (arith, e)) tu k1 h
  kept_does d m q (Some kind) v s s1 st k l e tu k1 is h = there_from c q m s1 st _ (omega (arith, e)) (h v s1 st tu k1 is ∙ sym (ends_value c.asker v st k))

  pub choice : (d : ℕ) (kind : Option Kind) (xs ys zs : List Instruction) (g g1 g2 : Run ℤ) → Does c t ℤ (In c t d) d xs g → Does c t ℤ (In c t d) d ys g1 → Does c t ℤ (In c t d) d zs g2 →
      Does c t ℤ (In c t d) d (choice_code d kind xs ys zs) (λ st. after (g st) (λ x st1. after (choose (is_true x) g1 g2 st1) (λ v. give (kept kind v))))
  choice d kind xs ys zs g g1 g2 runs runs1 runs2 p q s st k e l tu h =
      let all : List Instruction = (xs ++ (i.SkipZero d (length ys + 1) ∷ ys)) ++ (i.Jump (length zs) ∷ zs) in
      let o = split c p all (kept_code d kind) l in
      let r = parts c p xs (i.SkipZero d (length ys + 1) ∷ ys) (i.Jump (length zs) ∷ zs) o.0 in
      let n : length (all ++ kept_code d kind) ≡ length all + length (kept_code d kind) = length-append all (kept_code d kind) in
      let m : ℕ = p + length xs in
      let m2 : ℕ = p + length xs + suc (length ys) in
      seq c.asker ℤ ℤ (g st) (λ x st1. after (choose (is_true x) g1 g2 st1) (λ v. give (kept kind v))) k (from c p s st)
      (runs p m s st (λ x st1. ends c.asker (after (choose (is_true x) g1 g2 st1) (λ v. give (kept kind v))) k) refl r.first tu
      (λ x s1 st1 tu1 k1 is1.
      leads c m (choose (is_true (get s1 d)) (suc m) (suc m + (length ys + 1))) s1 s1 st1 st1 (i.SkipZero d (length ys + 1)) r.second.0 refl
      ∙ go m m2 (p + length all) (is_true (get s1 d)) s1 st1 tu1 k1 r.second.1 r.third o.1 (omega arith) (omega (arith, r.whole)) (omega (arith, e, n))
      ∙ ap (λ z. ends c.asker (after (choose (is_true z) g1 g2 st1) (λ v. give (kept kind v))) k) is1))
    where
      go : (m m2 m3 : ℕ) (b : Bool) (s1 : List ℤ) (st1 : State) → st1.turns ≤ t → Keeps c d s s1 → At c (suc m) ys → At c m2 (i.Jump (length zs) ∷ zs) → At c m3 (kept_code d kind) → m2 ≡ suc m + length ys → m3 ≡ suc m2 + length zs → q ≡ m3 + length (kept_code d kind) →
          from c (choose b (suc m) (suc m + (length ys + 1))) s1 st1 ≡ ends c.asker (after (choose b g1 g2 st1) (λ v. give (kept kind v))) k
      go m m2 m3 true s1 st1 tu1 k1 ly lz lk em en eq =
          seq c.asker ℤ ℤ (g1 st1) (λ v. give (kept kind v)) k (from c (suc m) s1 st1) (runs1 (suc m) m2 s1 st1 (λ v st2. ends c.asker (Value (kept kind v) st2) k) em ly tu1
          (λ v s2 st2 tu2 k2 is2.
          leads c m2 (suc m2 + length zs) s2 s2 st2 st2 (i.Jump (length zs)) lz.0 refl
          ∙ there_from c m3 (suc m2 + length zs) s2 st2 _ (omega (arith, en)) (kept_does d m3 q kind v s s2 st2 k lk eq tu2 (keeps_on c d s s1 s2 k1 k2) is2 h)))
      go m m2 m3 false s1 st1 tu1 k1 ly lz lk em en eq =
          there_from c (suc m2) (suc m + (length ys + 1)) s1 st1 _ (omega (arith, em))
          (seq c.asker ℤ ℤ (g2 st1) (λ v. give (kept kind v)) k (from c (suc m2) s1 st1) (runs2 (suc m2) m3 s1 st1 (λ v st2. ends c.asker (Value (kept kind v) st2) k) en lz.1 tu1
          (λ v s2 st2 tu2 k2 is2. kept_does d m3 q kind v s s2 st2 k lk eq tu2 (keeps_on c d s s1 s2 k1 k2) is2 h)))
