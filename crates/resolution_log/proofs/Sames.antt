-- Clauses that are equal as sets.
use Rattle.std.proofs.Common.{◌≡◌, ℕ, ◌+◌, Bool, true, false, ◌&&◌, List, [], ◌∷◌, ◌++◌, Option, Some, None, slice_get, zero, suc, ◌⊎◌, inl, inr, refl, sym, ap, ap₂, ◌∙◌, subst, arith}
use Rattle.std.proofs.lemmas.Bool.{both_ways, cases_Bool, and_parts, and_from}
use Rattle.prop.specs.declared.Lit.{Lit}
use Rattle.resolution_log.specs.declared.Chain.{Chain}
use Rattle.prop.proofs.Sets.{Has-append, Has-left, Has-right, Has-without, Has-kept}
use Rattle.resolution_log.proofs.Results.{step_parts, then_parts}
use Rattle.prop.specs.Logic.{negated, positive_of}
use Rattle.prop.specs.Steps.{negative_of, has, Has, without, In, crosses, resolved, one_way, resolve}
use Rattle.resolution_log.specs.Chains.{then_with, chain_from, chain_result}
use Rattle.resolution_log.specs.Propagation.{Derived, Derived.start, Derived.unit, Others, Empowering, IsNew}
use Rattle.resolution_log.specs.Logs.{Same, AllSame, AllSame.none, AllSame.also}

pub bool_same : (a b : Bool) → (a ≡ true → b ≡ true) → (b ≡ true → a ≡ true) → a ≡ b
bool_same true b f g = sym (f refl)
bool_same false true f g = g refl
bool_same false false f g = refl

half : (l : Lit) (c c2 d d2 : List Lit) → ((x : Lit) → Has c x → Has c2 x) → ((x : Lit) → Has d x → Has d2 x) → (x : Lit) → Has (resolved l c d) x → Has (resolved l c2 d2) x
half l c c2 d d2 f g x h = elim (Has-append (without l c) (without (negated l) d) x h) [
  | inl a ↦ let k = Has-without l c x a in Has-left (without l c2) (without (negated l) d2) x (Has-kept l c2 x (f x k.0) k.1)
  | inr a ↦ let k = Has-without (negated l) d x a in Has-right (without l c2) (without (negated l) d2) x (Has-kept (negated l) d2 x (g x k.0) k.1)
]

pub resolved_same : (l : Lit) (c c2 d d2 : List Lit) → Same c c2 → Same d d2 → Same (resolved l c d) (resolved l c2 d2)
resolved_same l c c2 d d2 s t = record { to = half l c c2 d d2 s.to t.to; from = half l c2 c d2 d s.from t.from }

crosses_to : (l : Lit) (c c2 d d2 : List Lit) → ((x : Lit) → Has c x → Has c2 x) → ((x : Lit) → Has d x → Has d2 x) → crosses l c d ≡ true → crosses l c2 d2 ≡ true
crosses_to l c c2 d d2 f g h = let p = and_parts (has c l) (has d (negated l)) h in and_from (has c2 l) (has d2 (negated l)) (f l p.0) (g (negated l) p.1)

crosses_same : (l : Lit) (c c2 d d2 : List Lit) → Same c c2 → Same d d2 → crosses l c d ≡ crosses l c2 d2
crosses_same l c c2 d d2 s t = bool_same (crosses l c d) (crosses l c2 d2) (crosses_to l c c2 d d2 s.to t.to) (crosses_to l c2 c d2 d s.from t.from)

way_same : (p q : Bool) (v : ℕ) (c c2 d d2 e : List Lit) → Same c c2 → Same d d2 → one_way p q v c d ≡ Some e → (e2 : List Lit) × (one_way p q v c2 d2 ≡ Some e2) × Same e e2
way_same true true v c c2 d d2 e s t h = absurd cc
way_same false false v c c2 d d2 e s t h = absurd cc
way_same true false v c c2 d d2 e s t h = let k : resolved (positive_of v) c d ≡ e = cc in (resolved (positive_of v) c2 d2, refl, subst (λ w. Same w (resolved (positive_of v) c2 d2)) k (resolved_same (positive_of v) c c2 d d2 s t))
way_same false true v c c2 d d2 e s t h = let k : resolved (negative_of v) c d ≡ e = cc in (resolved (negative_of v) c2 d2, refl, subst (λ w. Same w (resolved (negative_of v) c2 d2)) k (resolved_same (negative_of v) c c2 d d2 s t))

pub resolve_same : (v : ℕ) (c c2 d d2 e : List Lit) → Same c c2 → Same d d2 → resolve v c d ≡ Some e → (e2 : List Lit) × (resolve v c2 d2 ≡ Some e2) × Same e e2
resolve_same v c c2 d d2 e s t h =
    let a = crosses_same (positive_of v) c c2 d d2 s t in
    let b = crosses_same (negative_of v) c c2 d d2 s t in
    let (e2, g, k) = way_same (crosses (positive_of v) c d) (crosses (negative_of v) c d) v c c2 d d2 e s t h in
    (e2, subst (λ w. one_way w (crosses (negative_of v) c2 d2) v c2 d2 ≡ Some e2) a (subst (λ w. one_way (crosses (positive_of v) c d) w v c2 d2 ≡ Some e2) b g), k)

pub get_same : {cs ds : List (List Lit)} (k : ℕ) (c : List Lit) → AllSame cs ds → slice_get cs k ≡ Some c → (d : List Lit) × (slice_get ds k ≡ Some d) × Same c d
get_same k c none h = absurd cc
get_same zero c (also {c = c0} {d = d0} s t) h = let q : c0 ≡ c = cc in (d0, refl, subst (λ w. Same w d0) q s)
get_same (suc k) c (also s t) h = get_same k c t h

pub chain_same : {cs ds : List (List Lit)} (c c2 r : List Lit) (ps : List (ℕ × ℕ)) → AllSame cs ds → Same c c2 → chain_from cs c ps ≡ Some r → (r2 : List Lit) × (chain_from ds c2 ps ≡ Some r2) × Same r r2
chain_same c c2 r [] all s h = let q : c ≡ r = cc in (c2, refl, subst (λ w. Same w c2) q s)
chain_same {cs} {ds} c c2 r (p ∷ ps) all s h =
    let (d, e, gd, ge, h2) = step_parts cs p ps c r h in
    let (d2, gd2, sd) = get_same p.1 d all gd in
    let (e2, ge2, se) = resolve_same p.0 c c2 d d2 e s sd ge in
    let (r2, gr2, sr) = chain_same e e2 r ps all se h2 in
    (r2, rw (gd2, ge2) gr2, sr)

in_same : {cs ds : List (List Lit)} (c : List Lit) → AllSame cs ds → In cs c → (d : List Lit) × In ds d × Same c d
in_same c none h = absurd h
in_same c (also {d = d0} s t) h = elim h [ inl e ↦ (d0, inl refl, subst (λ w. Same w d0) (sym e) s) | inr x ↦ (let (d, k, q) = in_same c t x in (d, inr k, q)) ]

pub AllSame-back : {cs ds : List (List Lit)} → AllSame cs ds → AllSame ds cs
AllSame-back none = none
AllSame-back (also s t) = also (record { to = s.from; from = s.to }) (AllSame-back t)

-- propagation sees sets alone
pub derived_same : {cs ds : List (List Lit)} (given given2 : Lit → Type 0) → AllSame cs ds → ((l : Lit) → given l → given2 l) → (l : Lit) → Derived cs given l → Derived ds given2 l
derived_same given given2 all f l (start g) = start (f l g)
derived_same given given2 all f l (unit c k h others) = let (d, kd, s) = in_same c all k in unit d kd (s.to l h) (λ m hm ne. derived_same given given2 all f (negated m) (others m (s.from m hm) ne))

-- a clause that is the same set is as new
pub new_same : {cs ds : List (List Lit)} (r r2 : List Lit) → AllSame cs ds → Same r r2 → IsNew cs r → IsNew ds r2
new_same {cs} {ds} r r2 all s n =
    let (t, e) = n.some in
    let back : (l : Lit) → Others r2 t l → Others r t l = λ l o. (s.from (negated l) o.0, o.1) in
    let pull = derived_same (Others r2 t) (Others r t) (AllSame-back all) back in
    record {
      some = (t, record { in_it = s.to t e.in_it; quiet = λ l a b. e.quiet l (pull l a) (pull (negated l) b); not_given = λ d. e.not_given (pull t d) });
      one_sided = λ l a b. n.one_sided l (s.from l a) (s.from (negated l) b);
      includes_none = λ c k h. (let (d, kd, q) = in_same c (AllSame-back all) k in n.includes_none d kd (λ l a. s.from l (h l (q.from l a))));
    }

-- the result of a chain over the same sets
pub result_same : {cs ds : List (List Lit)} (ch : Chain) (r : List Lit) → AllSame cs ds → chain_result cs ch ≡ Some r → (q : List Lit) × (chain_result ds ch ≡ Some q) × Same r q
result_same {cs} {ds} ch r all h =
    let (c, gc, h1) = then_parts (slice_get cs ch.first) (λ c. chain_from cs c ch.pairs) r h in
    let (c2, gc2, s) = get_same ch.first c all gc in
    let (q, g, k) = chain_same c c2 r ch.pairs all s h1 in
    (q, rw gc2 g, k)
