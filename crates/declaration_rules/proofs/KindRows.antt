-- Lists of kinds, one more at a time.
use Rattle.std.proofs.Common.{◌≡◌, ℕ, zero, ◌<◌, ◌+◌, suc, Bool, true, false, ◌&&◌, List, [], ◌∷◌, ◌++◌, length, take, get_or, refl, ap, ◌∙◌, arith}
use Rattle.std.proofs.lemmas.List.{take_more}
use Rattle.lv_base.specs.declared.kind.Kind.{Kind}
use Rattle.c_meaning.specs.Rules.{is_same_kind}
use Rattle.declaration_rules.specs.Twice.{same_kinds}

pub and_assoc : (a b c : Bool) → (a && (b && c)) ≡ ((a && b) && c)
and_assoc true b c = refl
and_assoc false b c = refl

pub and_true : (a : Bool) → (a && true) ≡ a
and_true true = refl
and_true false = refl

and_last : (a : Bool) → (true && a) ≡ a
and_last a = refl

same_push : (xs ys : List Kind) (x y : Kind) → length xs ≡ length ys → same_kinds (xs ++ x ∷ []) (ys ++ y ∷ []) ≡ (same_kinds xs ys && is_same_kind x y)
same_push [] [] x y e = and_true (is_same_kind x y)
same_push [] (l ∷ ys) x y e = absurd (omega (arith, e))
same_push (k ∷ xs) [] x y e = absurd (omega (arith, e))
same_push (k ∷ xs) (l ∷ ys) x y e = ap (λ z. is_same_kind k l && z) (same_push xs ys x y (omega (arith, e))) ∙ and_assoc (is_same_kind k l) (same_kinds xs ys) (is_same_kind x y)

take_long : (xs ys : List Kind) (i : ℕ) → length xs ≡ length ys → length (take i xs) ≡ length (take i ys)
take_long [] [] i e = refl
take_long [] (y ∷ ys) i e = absurd (omega (arith, e))
take_long (x ∷ xs) [] i e = absurd (omega (arith, e))
take_long (x ∷ xs) (y ∷ ys) zero e = refl
take_long (x ∷ xs) (y ∷ ys) (suc i) e = ap suc (take_long xs ys i (omega (arith, e)))

pub same_more : (xs ys : List Kind) (i : ℕ) (d f : Kind) → i < length xs → length xs ≡ length ys →
    same_kinds (take (i + 1) xs) (take (i + 1) ys) ≡ (same_kinds (take i xs) (take i ys) && is_same_kind (get_or xs i d) (get_or ys i f))
same_more xs ys i d f b e =
    ap (λ z. same_kinds z (take (i + 1) ys)) (take_more xs i d b) ∙ ap (same_kinds (take i xs ++ get_or xs i d ∷ [])) (take_more ys i f (omega (arith, b, e)))
    ∙ same_push (take i xs) (take i ys) (get_or xs i d) (get_or ys i f) (take_long xs ys i e)

pub differ : (xs ys : List Kind) → (length xs ≡ length ys → ⊥) → same_kinds xs ys ≡ false
differ [] [] h = absurd (h refl)
differ [] (y ∷ ys) h = refl
differ (x ∷ xs) [] h = refl
differ (x ∷ xs) (y ∷ ys) h = ap (λ z. is_same_kind x y && z) (differ xs ys (λ e. h (ap suc e))) ∙ and_false (is_same_kind x y)
  where
    and_false : (a : Bool) → (a && false) ≡ false
    and_false true = refl
    and_false false = refl
