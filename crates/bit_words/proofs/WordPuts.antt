-- The code of words and elements, step by step.
use Rattle.std.proofs.Common.{◌≡◌, ℕ, ◌+◌, ◌-◌, ◌*◌, ◌/◌, ◌^◌, ◌≤◌, ◌<◌, length, List, [], ◌∷◌, ◌++◌, drop, map, get_or, arith, ap, sym, ◌∙◌, refl, suc, zero, subst, append_assoc, if◌then◌else◌}
use Rattle.std.specs.Prelude.{Option, None, ◌%◌, ◌==◌}
use Rattle.std.proofs.lemmas.List.{drop_more, length-append}
use Rattle.std.proofs.Math.Nat.{pow-succ'}
use Rattle.prop.specs.declared.Lit.{Lit}
use Rattle.prop.specs.Logic.{negated, positive_of}
use Rattle.bit_gates.specs.declared.netlist.Def.{Def}
use Rattle.bit_gates.specs.Cut.{Grew}
use Rattle.bit_gates.specs.Products.{Made}
use Rattle.bit_gates.specs.Quotients.{selected}
use Rattle.bit_gates.proofs.Puts.{grew_seq}
use Rattle.bit_words.specs.declared.folds.Relation.{Relation}
use Rattle.bit_words.specs.Folds.{relation_of}
use Rattle.bit_words.specs.Folding.{standing, folded_made}
use Rattle.bit_words.specs.Words.{numeral_of, copies_of, spelled_of, with_bit}
use Rattle.bit_words.specs.Elements.{picked, stored, Stored, AllLong}

pub standing-at : (xs : List Lit) (k : ℕ) (d : Lit) → k < length xs → get_or xs k d ≡ standing xs k
standing-at [] k d lt = absurd (omega arith)
standing-at (x ∷ xs) zero d lt = refl
standing-at (x ∷ xs) (suc k) d lt = standing-at xs k d (omega arith)

pub standing-past : (xs : List Lit) (k : ℕ) → length xs ≤ k → positive_of 0 ≡ standing xs k
standing-past [] k le = refl
standing-past (x ∷ xs) zero le = absurd (omega arith)
standing-past (x ∷ xs) (suc k) le = standing-past xs k (omega arith)

pub copies_more : (l : Lit) (n k : ℕ) (whole outs new : List Lit) → k < n → whole ≡ outs ++ copies_of l (n - k) → new ≡ outs ++ l ∷ []
    → whole ≡ new ++ copies_of l (n - (k + 1))
copies_more l n k whole outs new lt e h =
    let i : n - k ≡ suc (n - (k + 1)) = omega arith in
    e ∙ (ap (λ (t : ℕ). outs ++ copies_of l t) i ∙ (sym (append_assoc outs (l ∷ []) (copies_of l (n - (k + 1))))
    ∙ ap (λ (t : List Lit). t ++ copies_of l (n - (k + 1))) (sym h)))

pub numeral_more : (one : Lit) (n k rest : ℕ) (bit : Lit) (whole outs new : List Lit) → k < n → whole ≡ outs ++ numeral_of one (n - k) rest
    → bit ≡ (if rest % 2 == 1 then one else negated one) → new ≡ outs ++ bit ∷ []
    → whole ≡ new ++ numeral_of one (n - (k + 1)) (rest / 2)
numeral_more one n k rest bit whole outs new lt e b h =
    let i : n - k ≡ suc (n - (k + 1)) = omega arith in
    let tail = numeral_of one (n - (k + 1)) (rest / 2) in
    e ∙ (ap (λ (t : ℕ). outs ++ numeral_of one t rest) i ∙ (ap (λ (t : Lit). outs ++ t ∷ tail) (sym b)
    ∙ (sym (append_assoc outs (bit ∷ []) tail) ∙ ap (λ (t : List Lit). t ++ tail) (sym h))))

pub spelled_step : (r : Relation) (one d : Lit) (ls : List Lit) (i left : ℕ) (s : Option ℕ) → i + 1 ≡ left → left ≤ length ls
    → r ≡ relation_of (get_or ls i d) one → spelled_of one (drop left ls) ≡ s
    → spelled_of one (drop i ls) ≡ with_bit r s
spelled_step r one d ls i left s e le h g =
    let y = get_or ls i d in
    let z : drop i ls ≡ y ∷ drop left ls = drop_more ls i d (omega arith) ∙ ap (λ (t : ℕ). y ∷ drop t ls) e in
    ap (λ (t : List Lit). spelled_of one t) z ∙ (ap (λ (t : Option ℕ). with_bit (relation_of y one) t) g ∙ ap (λ (t : Relation). with_bit t s) (sym h))

pub spelled_none : (one : Lit) (ls : List Lit) (k : ℕ) → spelled_of one (drop k ls) ≡ None → None ≡ spelled_of one ls
spelled_none one [] zero e = sym e
spelled_none one [] (suc k) e = sym e
spelled_none one (l ∷ ls) zero e = sym e
spelled_none one (l ∷ ls) (suc k) e = ap (λ (t : Option ℕ). with_bit (relation_of l one) t) (spelled_none one ls k e)

pub pow_le : (i j : ℕ) → 2 ^ i ≤ 2 ^ (i + j)
pow_le i zero = subst (λ (t : ℕ). 2 ^ i ≤ 2 ^ t) e (omega arith)
  where
    e : i ≡ i + 0
    e = omega arith
pow_le i (suc j) =
    let h = pow_le i j in
    let e : 2 ^ suc (i + j) ≡ 2 * 2 ^ (i + j) = pow-succ' 2 (i + j) in
    let g : 2 ^ i ≤ 2 ^ suc (i + j) = omega (arith, h, e) in
    let s : suc (i + j) ≡ i + suc j = omega arith in
    subst (λ (t : ℕ). 2 ^ i ≤ 2 ^ t) s g

pub spelled_bound : (n left value : ℕ) → 0 < left → left ≤ n → value < 2 ^ (n - left) → 1 + 2 * value < 2 ^ (n - (left - 1))
spelled_bound n left value p le h =
    let e : 2 ^ suc (n - left) ≡ 2 * 2 ^ (n - left) = pow-succ' 2 (n - left) in
    let s : suc (n - left) ≡ n - (left - 1) = omega arith in
    let g : 1 + 2 * value < 2 ^ suc (n - left) = omega (arith, h, e) in
    subst (λ (t : ℕ). 1 + 2 * value < 2 ^ t) s g

pub spelled_fits : (n left value : ℕ) → n ≤ 128 → 0 < left → left ≤ n → value < 2 ^ (n - left) → 1 + 2 * value < 2 ^ 128
spelled_fits n left value m p le h =
    let g = spelled_bound n left value p le h in
    let q : 2 ^ (n - (left - 1)) ≤ 2 ^ ((n - (left - 1)) + (128 - (n - (left - 1)))) = pow_le (n - (left - 1)) (128 - (n - (left - 1))) in
    let s : (n - (left - 1)) + (128 - (n - (left - 1))) ≡ 128 = omega arith in
    let r : 2 ^ (n - (left - 1)) ≤ 2 ^ 128 = subst (λ (t : ℕ). 2 ^ (n - (left - 1)) ≤ 2 ^ t) s q in
    let P : ℕ → Type 0 = λ t. 1 + 2 * value < t in
    lt_le (1 + 2 * value) (2 ^ (n - (left - 1))) (2 ^ 128) g r
  where
    lt_le : (a b c : ℕ) → a < b → b ≤ c → a < c
    lt_le a b c h g = omega arith

pub all_long-at : (w : ℕ) (cs : List (List Lit)) (k : ℕ) (d : List Lit) → AllLong w cs → k < length cs → length (get_or cs k d) ≡ w
all_long-at w [] k d h lt = absurd (omega arith)
all_long-at w (c ∷ cs) zero d h lt = h.0
all_long-at w (c ∷ cs) (suc k) d h lt = all_long-at w cs k d h.1 (omega arith)

pub map-at : {A : Type 0} {B : Type 0} (f : A → B) (xs : List A) (k : ℕ) (d : A) → get_or (map f xs) k (f d) ≡ f (get_or xs k d)
map-at f [] k d = refl
map-at f (x ∷ xs) zero d = refl
map-at f (x ∷ xs) (suc k) d = map-at f xs k d

pub map-length : {A : Type 0} {B : Type 0} (f : A → B) (xs : List A) → length (map f xs) ≡ length xs
map-length f [] = refl
map-length f (x ∷ xs) = ap suc (map-length f xs)

-- the view of a list at a place: its head there and what follows
pub map-drop : {A : Type 0} {B : Type 0} (f : A → B) (xs : List A) (k : ℕ) (x : A) → k < length xs → x ≡ get_or xs k x
    → drop k (map f xs) ≡ f x ∷ drop (k + 1) (map f xs)
map-drop f xs k x lt e =
    let l = map-length f xs in
    drop_more (map f xs) k (f x) (omega (arith, l)) ∙ ap (λ t. t ∷ drop (k + 1) (map f xs)) (map-at f xs k x ∙ ap f (sym e))

pub picked_put : (n n1 n2 : ℕ) (es res : List Lit) (cs rcs : List (List Lit)) (e : Lit) (c z : List Lit) (old d1 d2 : List Def) (os outs : List Lit)
    → es ≡ e ∷ res → cs ≡ c ∷ rcs → os ≡ (picked n res rcs z).outs
    → n1 ≡ n + length (picked n res rcs z).defs → d1 ≡ old ++ (picked n res rcs z).defs
    → Grew n1 d1 n2 d2 (selected n1 e c os).defs → outs ≡ (selected n1 e c os).outs
    → Grew n old n2 d2 (picked n es cs z).defs × (outs ≡ (picked n es cs z).outs)
picked_put n n1 n2 es res cs rcs e c z old d1 d2 os outs ee ec eo en ed g eu =
    let m = picked n res rcs z in
    let s = selected (n + length m.defs) e c m.outs in
    let es2 : selected n1 e c os ≡ s
    = ap (λ (t : ℕ). selected t e c os) en ∙ ap (λ (t : List Lit). selected (n + length m.defs) e c t) eo in
    let g1 : Grew n old n1 d1 m.defs = (en, ed) in
    let q = grew_seq n n1 n2 old d1 d2 m.defs (selected n1 e c os).defs g1 g in
    let q2 : Grew n old n2 d2 (m.defs ++ s.defs) = subst (λ (t : Made). Grew n old n2 d2 (m.defs ++ t.defs)) es2 q in
    let P : List Lit → List (List Lit) → Type 0 = λ a b. Grew n old n2 d2 (picked n a b z).defs × (outs ≡ (picked n a b z).outs) in
    let r : P (e ∷ res) (c ∷ rcs) = (q2, eu ∙ ap (λ (t : Made). t.outs) es2) in
    subst (λ (a : List Lit). P a cs) (sym ee) (subst (λ (b : List (List Lit)). P (e ∷ res) b) (sym ec) r)

pub stored_put : (one : Lit) (n n2 : ℕ) (value : List Lit) (ps rps : List Lit) (cs rcs : List (List Lit)) (p : Lit) (c : List Lit)
    (md : List Def) (mo : List Lit) (d d2 : List Def) (first : ℕ) (old whole : List Def) (cells olds news : List (List Lit)) (cell : List Lit)
    → ps ≡ p ∷ rps → cs ≡ c ∷ rcs → md ≡ (selected n p value c).defs → mo ≡ (selected n p value c).outs
    → first + length whole ≡ n + length (stored one n ps cs value).defs
    → old ++ whole ≡ d ++ (stored one n ps cs value).defs
    → cells ≡ olds ++ (stored one n ps cs value).cells
    → Grew n d n2 d2 (folded_made one n (record { defs = md; outs = mo })).defs
    → cell ≡ (folded_made one n (record { defs = md; outs = mo })).outs → news ≡ olds ++ cell ∷ []
    → (first + length whole ≡ n2 + length (stored one n2 rps rcs value).defs)
    × (old ++ whole ≡ d2 ++ (stored one n2 rps rcs value).defs)
    × (cells ≡ news ++ (stored one n2 rps rcs value).cells)
stored_put one n n2 value ps rps cs rcs p c md mo d d2 first old whole cells olds news cell ep ec em eo e1 e2 e3 g eg en =
    let s = folded_made one n (selected n p value c) in
    let made : Made = record { defs = md; outs = mo } in
    let es : made ≡ selected n p value c
    = ap (λ (t : List Def). let q : Made = record { defs = t; outs = mo } in q) em
    ∙ ap (λ (t : List Lit). let q : Made = record { defs = (selected n p value c).defs; outs = t } in q) eo in
    let g2 : Grew n d n2 d2 s.defs = subst (λ (t : Made). Grew n d n2 d2 (folded_made one n t).defs) es g in
    let cell2 : cell ≡ s.outs = eg ∙ ap (λ (t : Made). (folded_made one n t).outs) es in
    let r = stored one n2 rps rcs value in
    let whole_is : stored one n ps cs value ≡ record { defs = s.defs ++ r.defs; cells = s.outs ∷ r.cells }
    = ap (λ (t : List Lit). stored one n t cs value) ep ∙ (ap (λ (t : List (List Lit)). stored one n (p ∷ rps) t value) ec
    ∙ ap (λ (t : ℕ). let q = stored one t rps rcs value in let b : Stored = record { defs = s.defs ++ q.defs; cells = s.outs ∷ q.cells } in b) (sym g2.0)) in
    let l = length-append s.defs r.defs in
    let a1 : first + length whole ≡ n + length (s.defs ++ r.defs) = e1 ∙ ap (λ (t : Stored). n + length t.defs) whole_is in
    let a2 : old ++ whole ≡ d ++ (s.defs ++ r.defs) = e2 ∙ ap (λ (t : Stored). d ++ t.defs) whole_is in
    let a3 : cells ≡ olds ++ (s.outs ∷ r.cells) = e3 ∙ ap (λ (t : Stored). olds ++ t.cells) whole_is in (
      omega (arith, a1, l, g2.0),
      a2 ∙ (sym (append_assoc d s.defs r.defs) ∙ ap (λ (t : List Def). t ++ r.defs) (sym g2.1)),
      a3 ∙ (ap (λ (t : List Lit). olds ++ (t ∷ r.cells)) (sym cell2)
          ∙ (sym (append_assoc olds (cell ∷ []) r.cells) ∙ ap (λ (t : List (List Lit)). t ++ r.cells) (sym en))),
    )
