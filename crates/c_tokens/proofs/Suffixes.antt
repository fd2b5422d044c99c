-- The suffixes of integer constants.
use Rattle.std.proofs.Common.{◌≡◌, ℕ, zero, suc, List, [], ◌∷◌, ◌++◌, length, take, drop, refl, sym, ◌∙◌, ap, subst, arith, Bool, true, false, inl, inr, ◌⊎◌}
use Rattle.std.specs.Prelude.{◌==◌, ◌||◌, codes, if◌then◌else◌, Some, None}
use Rattle.std.proofs.lemmas.Bool.{or_cases, eqb-true}
use Rattle.std.proofs.lemmas.List.{take_all, take-append-drop}
use Rattle.c_lexer.specs.Constants.{digit_worth, is_u, longs_of, after_u, after_longs, suffix_of}
use Rattle.c_tokens.specs.Constants.{IsUnsigned, IsLongs, IsSuffix}

abbrev is_long : ℕ → Bool
is_long a = (a == 108) || (a == 76)

long_is : (a : ℕ) → is_long a ≡ true → (a ≡ 108) ⊎ (a ≡ 76)
long_is a e = elim (or_cases (a == 108) (a == 76) e) [ inl h ↦ inl (eqb-true a 108 h) | inr h ↦ inr (eqb-true a 76 h) ]

u_is : (a : ℕ) → is_u a ≡ true → IsUnsigned (a ∷ [])
u_is a e = elim (or_cases (a == 117) (a == 85) e) [ inl h ↦ inl (ap (λ (n : ℕ). n ∷ []) (eqb-true a 117 h)) | inr h ↦ inr (ap (λ (n : ℕ). n ∷ []) (eqb-true a 85 h)) ]

longs_front : (text : List ℕ) → IsLongs (longs_of text) (take (longs_of text) text)
longs_front [] = refl
longs_front (a ∷ []) = by_test (is_long a) refl
  where
    by_test : (t : Bool) → is_long a ≡ t → IsLongs (if t then 1 else 0) (take (if t then 1 else 0) (a ∷ []))
    by_test true e = elim (long_is a e) [ inl h ↦ inl (ap (λ (n : ℕ). n ∷ []) h) | inr h ↦ inr (ap (λ (n : ℕ). n ∷ []) h) ]
    by_test false e = refl
longs_front (a ∷ b ∷ text) = by_test (is_long a) (b == a) refl refl
  where
    two : (c : ℕ) → a ≡ c → b ≡ a → a ∷ b ∷ [] ≡ c ∷ c ∷ []
    two c e f = cc

    by_test : (t s : Bool) → is_long a ≡ t → (b == a) ≡ s → IsLongs (if t then (if s then 2 else 1) else 0) (take (if t then (if s then 2 else 1) else 0) (a ∷ b ∷ text))
    by_test true true e f = elim (long_is a e) [ inl h ↦ inl (two 108 h (eqb-true b a f)) | inr h ↦ inr (two 76 h (eqb-true b a f)) ]
    by_test true false e f = elim (long_is a e) [ inl h ↦ inl (ap (λ (n : ℕ). n ∷ []) h) | inr h ↦ inr (ap (λ (n : ℕ). n ∷ []) h) ]
    by_test false s e f = refl

longs_left : (text left : List ℕ) → drop (longs_of text) text ≡ left → text ≡ take (longs_of text) text ++ left
longs_left text left e = sym (take-append-drop (longs_of text) text) ∙ ap (λ (l : List ℕ). take (longs_of text) text ++ l) e

append_none : (xs : List ℕ) → xs ++ [] ≡ xs
append_none [] = refl
append_none (x ∷ xs) = ap (λ (l : List ℕ). x ∷ l) (append_none xs)

pub suffix_is : (text : List ℕ) (p : Bool × ℕ) → suffix_of text ≡ Some p → IsSuffix p.0 p.1 text
suffix_is [] p e = let is : (false, 0) ≡ p = cc e in subst (λ (q : Bool × ℕ). IsSuffix q.0 q.1 []) is refl
suffix_is (a ∷ bytes) p e = by_test (is_u a) refl e
  where
    left_is : (left : List ℕ) → drop (longs_of (a ∷ bytes)) (a ∷ bytes) ≡ left → after_longs (longs_of (a ∷ bytes)) left ≡ Some p → IsSuffix p.0 p.1 (a ∷ bytes)
    left_is [] d h =
        let is : (false, longs_of (a ∷ bytes)) ≡ p = cc h in
        let whole : a ∷ bytes ≡ take (longs_of (a ∷ bytes)) (a ∷ bytes) = longs_left (a ∷ bytes) [] d ∙ append_none (take (longs_of (a ∷ bytes)) (a ∷ bytes)) in
        subst (λ (q : Bool × ℕ). IsSuffix q.0 q.1 (a ∷ bytes)) is (subst (λ (l : List ℕ). IsLongs (longs_of (a ∷ bytes)) l) (sym whole) (longs_front (a ∷ bytes)))
    left_is (b ∷ []) d h = by_u (is_u b) refl h
      where
        by_u : (t : Bool) → is_u b ≡ t → (if t then Some (true, longs_of (a ∷ bytes)) else None) ≡ Some p → IsSuffix p.0 p.1 (a ∷ bytes)
        by_u true u g =
            let is : (true, longs_of (a ∷ bytes)) ≡ p = cc g in
            subst (λ (q : Bool × ℕ). IsSuffix q.0 q.1 (a ∷ bytes)) is (b ∷ [], take (longs_of (a ∷ bytes)) (a ∷ bytes), u_is b u, longs_front (a ∷ bytes), inr (longs_left (a ∷ bytes) (b ∷ []) d))
        by_u false u g = absurd (cc g)
    left_is (b ∷ c ∷ rest) d h = absurd (cc h)

    by_length : (t : Bool) → (longs_of bytes == length bytes) ≡ t → is_u a ≡ true → (if t then Some (true, longs_of bytes) else None) ≡ Some p → IsSuffix p.0 p.1 (a ∷ bytes)
    by_length true l u h =
        let is : (true, longs_of bytes) ≡ p = cc h in
        let most : longs_of bytes ≡ length bytes = eqb-true (longs_of bytes) (length bytes) l in
        let whole : take (longs_of bytes) bytes ≡ bytes = take_all (longs_of bytes) bytes (omega arith) in
        subst (λ (q : Bool × ℕ). IsSuffix q.0 q.1 (a ∷ bytes)) is (a ∷ [], bytes, u_is a u, subst (λ (l : List ℕ). IsLongs (longs_of bytes) l) whole (longs_front bytes), inl refl)
    by_length false l u h = absurd (cc h)

    by_test : (t : Bool) → is_u a ≡ t → (if t then after_u bytes else after_longs (longs_of (a ∷ bytes)) (drop (longs_of (a ∷ bytes)) (a ∷ bytes))) ≡ Some p → IsSuffix p.0 p.1 (a ∷ bytes)
    by_test true u h = by_length (longs_of bytes == length bytes) refl u h
    by_test false u h = left_is (drop (longs_of (a ∷ bytes)) (a ∷ bytes)) refl h

-- a suffix begins with no digit, and with no `x`
pub suffix_stop : (a : ℕ) (bytes : List ℕ) (p : Bool × ℕ) → suffix_of (a ∷ bytes) ≡ Some p → (digit_worth a ≡ 16) × (((a == 120) || (a == 88)) ≡ false)
suffix_stop a bytes p e = by_test (is_u a) refl e
  where
    at : (c : ℕ) → (digit_worth c ≡ 16) × (((c == 120) || (c == 88)) ≡ false) → a ≡ c → (digit_worth a ≡ 16) × (((a == 120) || (a == 88)) ≡ false)
    at c told is = subst (λ (n : ℕ). (digit_worth n ≡ 16) × (((n == 120) || (n == 88)) ≡ false)) (sym is) told

    no_longs : (bs : List ℕ) → is_long a ≡ false → longs_of (a ∷ bs) ≡ 0
    no_longs [] l = ap (λ (t : Bool). if t then 1 else 0) l
    no_longs (b ∷ bs) l = ap (λ (t : Bool). if t then (if b == a then 2 else 1) else 0) l

    none_left : (bs : List ℕ) → is_u a ≡ false → after_longs 0 (a ∷ bs) ≡ None
    none_left [] u = ap (λ (t : Bool). if t then Some (true, 0) else None) u
    none_left (b ∷ bs) u = refl

    by_long : (t : Bool) → is_long a ≡ t → is_u a ≡ false → after_longs (longs_of (a ∷ bytes)) (drop (longs_of (a ∷ bytes)) (a ∷ bytes)) ≡ Some p → (digit_worth a ≡ 16) × (((a == 120) || (a == 88)) ≡ false)
    by_long true l u h = elim (long_is a l) [ inl is ↦ at 108 (refl, refl) is | inr is ↦ at 76 (refl, refl) is ]
    by_long false l u h = absurd (cc (sym (ap (λ (n : ℕ). after_longs n (drop n (a ∷ bytes))) (no_longs bytes l) ∙ none_left bytes u) ∙ h))

    by_test : (t : Bool) → is_u a ≡ t → (if t then after_u bytes else after_longs (longs_of (a ∷ bytes)) (drop (longs_of (a ∷ bytes)) (a ∷ bytes))) ≡ Some p → (digit_worth a ≡ 16) × (((a == 120) || (a == 88)) ≡ false)
    by_test true u h = elim (or_cases (a == 117) (a == 85) u) [ inl is ↦ at 117 (refl, refl) (eqb-true a 117 is) | inr is ↦ at 85 (refl, refl) (eqb-true a 85 is) ]
    by_test false u h = by_long (is_long a) refl u h

both : (n : ℕ) (a b text : List ℕ) → IsUnsigned a → IsLongs n b → (text ≡ a ++ b) ⊎ (text ≡ b ++ a) → suffix_of text ≡ Some (true, n)
both zero a b text (inl d) e (inl is) = ap suffix_of (is ∙ ap (λ (x : List ℕ). x ++ b) d ∙ ap (λ (x : List ℕ). codes "u" ++ x) e)
both zero a b text (inl d) e (inr is) = ap suffix_of (is ∙ ap (λ (x : List ℕ). x ++ a) e ∙ ap (λ (x : List ℕ). [] ++ x) d)
both zero a b text (inr d) e (inl is) = ap suffix_of (is ∙ ap (λ (x : List ℕ). x ++ b) d ∙ ap (λ (x : List ℕ). codes "U" ++ x) e)
both zero a b text (inr d) e (inr is) = ap suffix_of (is ∙ ap (λ (x : List ℕ). x ++ a) e ∙ ap (λ (x : List ℕ). [] ++ x) d)
both (suc zero) a b text (inl d) (inl e) (inl is) = ap suffix_of (is ∙ ap (λ (x : List ℕ). x ++ b) d ∙ ap (λ (x : List ℕ). codes "u" ++ x) e)
both (suc zero) a b text (inl d) (inl e) (inr is) = ap suffix_of (is ∙ ap (λ (x : List ℕ). x ++ a) e ∙ ap (λ (x : List ℕ). codes "l" ++ x) d)
both (suc zero) a b text (inl d) (inr e) (inl is) = ap suffix_of (is ∙ ap (λ (x : List ℕ). x ++ b) d ∙ ap (λ (x : List ℕ). codes "u" ++ x) e)
both (suc zero) a b text (inl d) (inr e) (inr is) = ap suffix_of (is ∙ ap (λ (x : List ℕ). x ++ a) e ∙ ap (λ (x : List ℕ). codes "L" ++ x) d)
both (suc zero) a b text (inr d) (inl e) (inl is) = ap suffix_of (is ∙ ap (λ (x : List ℕ). x ++ b) d ∙ ap (λ (x : List ℕ). codes "U" ++ x) e)
both (suc zero) a b text (inr d) (inl e) (inr is) = ap suffix_of (is ∙ ap (λ (x : List ℕ). x ++ a) e ∙ ap (λ (x : List ℕ). codes "l" ++ x) d)
both (suc zero) a b text (inr d) (inr e) (inl is) = ap suffix_of (is ∙ ap (λ (x : List ℕ). x ++ b) d ∙ ap (λ (x : List ℕ). codes "U" ++ x) e)
both (suc zero) a b text (inr d) (inr e) (inr is) = ap suffix_of (is ∙ ap (λ (x : List ℕ). x ++ a) e ∙ ap (λ (x : List ℕ). codes "L" ++ x) d)
both (suc (suc zero)) a b text (inl d) (inl e) (inl is) = ap suffix_of (is ∙ ap (λ (x : List ℕ). x ++ b) d ∙ ap (λ (x : List ℕ). codes "u" ++ x) e)
both (suc (suc zero)) a b text (inl d) (inl e) (inr is) = ap suffix_of (is ∙ ap (λ (x : List ℕ). x ++ a) e ∙ ap (λ (x : List ℕ). codes "ll" ++ x) d)
both (suc (suc zero)) a b text (inl d) (inr e) (inl is) = ap suffix_of (is ∙ ap (λ (x : List ℕ). x ++ b) d ∙ ap (λ (x : List ℕ). codes "u" ++ x) e)
both (suc (suc zero)) a b text (inl d) (inr e) (inr is) = ap suffix_of (is ∙ ap (λ (x : List ℕ). x ++ a) e ∙ ap (λ (x : List ℕ). codes "LL" ++ x) d)
both (suc (suc zero)) a b text (inr d) (inl e) (inl is) = ap suffix_of (is ∙ ap (λ (x : List ℕ). x ++ b) d ∙ ap (λ (x : List ℕ). codes "U" ++ x) e)
both (suc (suc zero)) a b text (inr d) (inl e) (inr is) = ap suffix_of (is ∙ ap (λ (x : List ℕ). x ++ a) e ∙ ap (λ (x : List ℕ). codes "ll" ++ x) d)
both (suc (suc zero)) a b text (inr d) (inr e) (inl is) = ap suffix_of (is ∙ ap (λ (x : List ℕ). x ++ b) d ∙ ap (λ (x : List ℕ). codes "U" ++ x) e)
both (suc (suc zero)) a b text (inr d) (inr e) (inr is) = ap suffix_of (is ∙ ap (λ (x : List ℕ). x ++ a) e ∙ ap (λ (x : List ℕ). codes "LL" ++ x) d)
both (suc (suc (suc n))) a b text u l is = absurd l

alone : (n : ℕ) (text : List ℕ) → IsLongs n text → suffix_of text ≡ Some (false, n)
alone zero text e = ap suffix_of e
alone (suc zero) text (inl e) = ap suffix_of e
alone (suc zero) text (inr e) = ap suffix_of e
alone (suc (suc zero)) text (inl e) = ap suffix_of e
alone (suc (suc zero)) text (inr e) = ap suffix_of e
alone (suc (suc (suc n))) text l = absurd l

pub suffix_found : (u : Bool) (n : ℕ) (text : List ℕ) → IsSuffix u n text → suffix_of text ≡ Some (u, n)
suffix_found false n text l = alone n text l
suffix_found true n text s = both n s.0 s.1 text s.2 s.3 s.4
