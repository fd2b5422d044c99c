-- Laws at the values of a turn.
use Rattle.std.proofs.Common.{◌≡◌, ℕ, ◌+◌, ◌-◌, ◌<◌, ◌≤◌, Bool, true, false, List, [], ◌∷◌, ◌++◌, Option, Some, None, slice_get, get_or, zero, suc, ◌⊎◌, inl, inr, refl, sym, ap, ◌∙◌, subst, arith, append_assoc, append-nil, length, length-append, option_to_list}
use Rattle.prop.specs.declared.Lit.{Lit}
use Rattle.clause_learning.specs.declared.Entry.{Entry}
use Rattle.clause_learning.specs.Trail.{Set, SetAt, below_of, Going, Told, UipOk, Learnt, Back, Holds}
use Rattle.clause_learning.specs.Covers.{RisesFrom, last_level}
use Rattle.clause_learning.proofs.TrailLaws.{snoc_parts}
use Rattle.clause_learning.proofs.StoreLaws.{rises_pop, last_push}
use Rattle.clause_learning.proofs.JumpLaws.{back_pop, back_all}

last_split : (x : List Entry) (k : ℕ) (e : Entry) → k + 1 ≡ length x → get_or x k e ≡ e → (t : List Entry) × (x ≡ t ++ (e ∷ []))
last_split [] k e h g = absurd (omega arith)
last_split (a ∷ []) zero e h g = ([], ap (λ w. w ∷ []) g)
last_split (a ∷ []) (suc k) e h g = absurd (omega arith)
last_split (a ∷ b ∷ x) zero e h g = absurd (omega arith)
last_split (a ∷ b ∷ x) (suc k) e h g =
    let q : k + 1 ≡ length (b ∷ x) = omega arith in
    let (t, r) = last_split (b ∷ x) k e q g in
    (a ∷ t, ap (λ w. a ∷ w) r)

pub jump_stop : (known : List (List Lit)) (low : ℕ) (old x : List Entry) (k : ℕ) (e : Entry) → Back known low old x → k + 1 ≡ length x → e ≡ get_or x k e → e.level ≤ low → (l : Lit) → Set x l → SetAt low x l
jump_stop known low old x k e b h g le = let (t, is) = last_split x k e h (sym g) in back_all known low old x t e b is le

pub jump_pop : (known : List (List Lit)) (low : ℕ) (old x t : List Entry) (k : ℕ) (e : Entry) (r : Option Entry) → Back known low old x → k + 1 ≡ length x → e ≡ get_or x k e → low < e.level → x ≡ t ++ option_to_list r → Back known low old t
jump_pop known low old x t k e None b h g lt is = subst (Back known low old) (is ∙ append-nil t) b
jump_pop known low old x t k e (Some d) b h g lt is =
    let (s, at) = last_split x k e h (sym g) in
    let p = snoc_parts t s d e (sym is ∙ at) in
    back_pop known low old x t d b is (subst (λ w. low < w.level) (sym p.1) lt)

pub jump_empty : (low : ℕ) (x : List Entry) → length x ≡ 0 → (l : Lit) → Set x l → SetAt low x l
jump_empty low [] h l s = s
jump_empty low (a ∷ x) h l s = absurd (omega arith)

-- levels on the way back
pub jump_rises : (low : ℕ) (x t : List Entry) (k : ℕ) (e : Entry) (r : Option Entry) → k + 1 ≡ length x → e ≡ get_or x k e → low < e.level → x ≡ t ++ option_to_list r → RisesFrom 0 x → low ≤ last_level 0 x → RisesFrom 0 t × (low ≤ last_level 0 t)
jump_rises low x t k e None h g lt is r le = let p : x ≡ t = is ∙ append-nil t in (subst (RisesFrom 0) p r, subst (λ w. low ≤ last_level 0 w) p le)
jump_rises low x t k e (Some d) h g lt is r le =
    let (s, at) = last_split x k e h (sym g) in
    let p = snoc_parts t s d e (sym is ∙ at) in
    let q = rises_pop 0 t d (subst (RisesFrom 0) is r) in
    let l : low < d.level = subst (λ (w : Entry). low < w.level) (sym p.1) lt in
    (q.0, omega (arith, q.2, l))

pub jump_level : (low : ℕ) (x : List Entry) (k : ℕ) (e : Entry) → k + 1 ≡ length x → e ≡ get_or x k e → e.level ≤ low → low ≤ last_level 0 x → last_level 0 x ≡ low
jump_level low x k e h g le l =
    let (s, at) = last_split x k e h (sym g) in
    let q : last_level 0 x ≡ e.level = ap (last_level 0) at ∙ last_push 0 s e in
    omega (arith, q, le, l)

pub jump_nothing : (low : ℕ) (x : List Entry) → length x ≡ 0 → low ≤ last_level 0 x → last_level 0 x ≡ low
jump_nothing low [] h l = omega (arith, l)
jump_nothing low (a ∷ x) h l = absurd (omega arith)
