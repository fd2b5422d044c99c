-- Joined pairs: what is known at once, the halves of a pair, and what stays as an arena grows.
use Rattle.std.proofs.Common.{◌≡◌, ◌≢◌, ℕ, ◌+◌, ◌<◌, ◌≤◌, ◌==◌, ◌&&◌, ◌||◌, Bool, true, false, not, List, [], ◌∷◌, length, ◌++◌, Option, Some, None, Result, Ok, Err, refl, sym, ap, ◌∙◌, subst, arith, ◌⊎◌, inl, inr, All, if◌then◌else◌}
use Rattle.std.proofs.lemmas.Bool.{eqb-true, eqb-false, cases_lt}
use Rattle.std.specs.Prelude.{IfOk}
use Rattle.std.proofs.lemmas.List.Elements.{All-push}
use Rattle.std.proofs.lemmas.Option.{none-some, same_Some}
use Rattle.formula_diagrams.specs.declared.items.BitOf.{BitOf}
use Rattle.formula_diagrams.specs.declared.items.NodeId.{NodeId}
use Rattle.formula_diagrams.specs.declared.items.Node.{Node}
use Rattle.formula_diagrams.specs.declared.pairs.Join.{Join}
use Rattle.formula_diagrams.specs.declared.pairs.Join.TheVariants.{Both, Either, Same}
use Rattle.formula_diagrams.specs.declared.pairs.Pair.{Pair}
use Rattle.formula_diagrams.specs.declared.pairs.Split.{Split}
use Rattle.formula_diagrams.specs.declared.recall.Known.{Known}
use Rattle.formula_diagrams.specs.Shape.{Arena, FitsNode, IsArena, IsBitIn, Grown, count, with_node}
use Rattle.formula_diagrams.specs.Truths.{choice, is_set, holds, Tells}
use Rattle.formula_diagrams.specs.Joins.{joined, met, IsPairIn, Means, IsRight, AllRight, sum_of, both_at_once, either_at_once, same_at_once, at_once, IsSplit, split_left, split_right, split_both}
use Rattle.formula_diagrams.proofs.Truth.{truths_stay, holds-false, holds-true, grown-count, made-last}

-- truths of joined truths
and_a : (x y : Bool) → x ≡ false → x ≡ (x && y)
and_a true y e = absurd cc
and_a false y e = refl

and_b : (x y : Bool) → y ≡ false → y ≡ (x && y)
and_b true y e = refl
and_b false y e = e

and_c : (x y : Bool) → x ≡ true → y ≡ (x && y)
and_c true y e = refl
and_c false y e = absurd cc

and_d : (x y : Bool) → y ≡ true → x ≡ (x && y)
and_d true y e = sym e
and_d false y e = refl

and_e : (x y : Bool) → x ≡ y → x ≡ (x && y)
and_e true y e = e
and_e false y e = refl

or_a : (x y : Bool) → x ≡ true → x ≡ (x || y)
or_a true y e = refl
or_a false y e = absurd cc

or_b : (x y : Bool) → y ≡ true → y ≡ (x || y)
or_b true y e = e
or_b false y e = refl

or_c : (x y : Bool) → x ≡ false → y ≡ (x || y)
or_c true y e = absurd cc
or_c false y e = refl

or_d : (x y : Bool) → y ≡ false → x ≡ (x || y)
or_d true y e = refl
or_d false y e = sym e

or_e : (x y : Bool) → x ≡ y → x ≡ (x || y)
or_e true y e = refl
or_e false y e = e

same_a : (x y : Bool) → x ≡ y → true ≡ choice x y (not y)
same_a true y e = e
same_a false y e = ap not e

same_b : (x y : Bool) → x ≡ true → y ≡ choice x y (not y)
same_b true y e = refl
same_b false y e = absurd cc

same_c : (x y : Bool) → y ≡ true → x ≡ choice x y (not y)
same_c true y e = sym e
same_c false y e = sym (ap not e)

pub split_if : {X : Type 0} (b : Bool) (x y : X) (P : X → Type 0) → (b ≡ true → P x) → (b ≡ false → P y) → P (if b then x else y)
split_if true x y P f g = f refl
split_if false x y P f g = g refl

-- one of a pair has the truth of the joined pair
is-left : (a : Arena) (how : Join) (p : Pair) (n : NodeId) → IsPairIn a p → Some p.left ≡ Some n
    → ((store : List ℕ) → holds a store p.left.0 ≡ met a how store p) → Means a how p n
is-left a how p n h s t = subst (λ (m : NodeId). Means a how p m) (same_Some p.left n s) (record { there = h.0; told = t })

is-right : (a : Arena) (how : Join) (p : Pair) (n : NodeId) → IsPairIn a p → Some p.right ≡ Some n
    → ((store : List ℕ) → holds a store p.right.0 ≡ met a how store p) → Means a how p n
is-right a how p n h s t = subst (λ (m : NodeId). Means a how p m) (same_Some p.right n s) (record { there = h.1; told = t })

-- a number that is an end, by its test
off : (a : Arena) (n : NodeId) → (n.0 == 0) ≡ true → (store : List ℕ) → holds a store n.0 ≡ false
off a n e store = ap (holds a store) (eqb-true n.0 0 e) ∙ holds-false a store

on : (a : Arena) (n : NodeId) → (n.0 == 1) ≡ true → (store : List ℕ) → holds a store n.0 ≡ true
on a n e store = ap (holds a store) (eqb-true n.0 1 e) ∙ holds-true a store

alike : (a : Arena) (m n : NodeId) → (m.0 == n.0) ≡ true → (store : List ℕ) → holds a store m.0 ≡ holds a store n.0
alike a m n e store = ap (holds a store) (eqb-true m.0 n.0 e)

both-means : (a : Arena) (p : Pair) (n : NodeId) → IsPairIn a p → both_at_once p.left p.right ≡ Some n → Means a Both p n
both-means a p n h =
    let l : NodeId = p.left in
    let r : NodeId = p.right in
    let L : List ℕ → Bool = λ store. holds a store l.0 in
    let R : List ℕ → Bool = λ store. holds a store r.0 in
    let P : Option NodeId → Type 0 = λ o. o ≡ Some n → Means a Both p n in
    split_if (l.0 == 0) (Some l) (if r.0 == 0 then Some r else if l.0 == 1 then Some r else if r.0 == 1 then Some l else if l.0 == r.0 then Some l else None) P
    (λ e s. is-left a Both p n h s (λ store. and_a (L store) (R store) (off a l e store)))
    (λ e0. split_if (r.0 == 0) (Some r) (if l.0 == 1 then Some r else if r.0 == 1 then Some l else if l.0 == r.0 then Some l else None) P
    (λ e s. is-right a Both p n h s (λ store. and_b (L store) (R store) (off a r e store)))
    (λ e1. split_if (l.0 == 1) (Some r) (if r.0 == 1 then Some l else if l.0 == r.0 then Some l else None) P
    (λ e s. is-right a Both p n h s (λ store. and_c (L store) (R store) (on a l e store)))
    (λ e2. split_if (r.0 == 1) (Some l) (if l.0 == r.0 then Some l else None) P
    (λ e s. is-left a Both p n h s (λ store. and_d (L store) (R store) (on a r e store)))
    (λ e3. split_if (l.0 == r.0) (Some l) None P
    (λ e s. is-left a Both p n h s (λ store. and_e (L store) (R store) (alike a l r e store)))
    (λ e4 s. absurd (none-some n s))))))

either-means : (a : Arena) (p : Pair) (n : NodeId) → IsPairIn a p → either_at_once p.left p.right ≡ Some n → Means a Either p n
either-means a p n h =
    let l : NodeId = p.left in
    let r : NodeId = p.right in
    let L : List ℕ → Bool = λ store. holds a store l.0 in
    let R : List ℕ → Bool = λ store. holds a store r.0 in
    let P : Option NodeId → Type 0 = λ o. o ≡ Some n → Means a Either p n in
    split_if (l.0 == 1) (Some l) (if r.0 == 1 then Some r else if l.0 == 0 then Some r else if r.0 == 0 then Some l else if l.0 == r.0 then Some l else None) P
    (λ e s. is-left a Either p n h s (λ store. or_a (L store) (R store) (on a l e store)))
    (λ e0. split_if (r.0 == 1) (Some r) (if l.0 == 0 then Some r else if r.0 == 0 then Some l else if l.0 == r.0 then Some l else None) P
    (λ e s. is-right a Either p n h s (λ store. or_b (L store) (R store) (on a r e store)))
    (λ e1. split_if (l.0 == 0) (Some r) (if r.0 == 0 then Some l else if l.0 == r.0 then Some l else None) P
    (λ e s. is-right a Either p n h s (λ store. or_c (L store) (R store) (off a l e store)))
    (λ e2. split_if (r.0 == 0) (Some l) (if l.0 == r.0 then Some l else None) P
    (λ e s. is-left a Either p n h s (λ store. or_d (L store) (R store) (off a r e store)))
    (λ e3. split_if (l.0 == r.0) (Some l) None P
    (λ e s. is-left a Either p n h s (λ store. or_e (L store) (R store) (alike a l r e store)))
    (λ e4 s. absurd (none-some n s))))))

same-means : (a : Arena) (p : Pair) (n : NodeId) → IsPairIn a p → same_at_once p.left p.right ≡ Some n → Means a Same p n
same-means a p n h =
    let l : NodeId = p.left in
    let r : NodeId = p.right in
    let one : NodeId = record { 0 = 1 } in
    let L : List ℕ → Bool = λ store. holds a store l.0 in
    let R : List ℕ → Bool = λ store. holds a store r.0 in
    let P : Option NodeId → Type 0 = λ o. o ≡ Some n → Means a Same p n in
    let yes1 : (l.0 == r.0) ≡ true → Means a Same p one = λ e. record {
      there = omega arith;
      told = λ store. holds-true a store ∙ same_a (L store) (R store) (alike a l r e store);
    } in
    split_if (l.0 == r.0) (Some one) (if l.0 == 1 then Some r else if r.0 == 1 then Some l else None) P
    (λ e s. subst (λ (m : NodeId). Means a Same p m) (same_Some one n s) (yes1 e))
    (λ e0. split_if (l.0 == 1) (Some r) (if r.0 == 1 then Some l else None) P
    (λ e s. is-right a Same p n h s (λ store. same_b (L store) (R store) (on a l e store)))
    (λ e1. split_if (r.0 == 1) (Some l) None P
    (λ e s. is-left a Same p n h s (λ store. same_c (L store) (R store) (on a r e store)))
    (λ e2 s. absurd (none-some n s))))

pub once-means : (a : Arena) (how : Join) (p : Pair) (n : NodeId) → IsPairIn a p → at_once how p ≡ Some n → Means a how p n
once-means a Both p n h s = both-means a p n h s
once-means a Either p n h s = either-means a p n h s
once-means a Same p n h s = same-means a p n h s

-- neither end: above 1
above : (n : ℕ) → (n == 0) ≡ false → (n == 1) ≡ false → 1 < n
above n z o =
    let a : n ≢ 0 = eqb-false n 0 z in
    let b : n ≢ 1 = eqb-false n 1 o in
    omega arith

both-inner : (l r : NodeId) → both_at_once l r ≡ None → (1 < l.0) ⊎ (1 < r.0)
both-inner l r =
    let P : Option NodeId → Type 0 = λ o. o ≡ None → (1 < l.0) ⊎ (1 < r.0) in
    split_if (l.0 == 0) (Some l) (if r.0 == 0 then Some r else if l.0 == 1 then Some r else if r.0 == 1 then Some l else if l.0 == r.0 then Some l else None) P
    (λ e s. absurd (none-some l (sym s)))
    (λ e0. split_if (r.0 == 0) (Some r) (if l.0 == 1 then Some r else if r.0 == 1 then Some l else if l.0 == r.0 then Some l else None) P
    (λ e s. absurd (none-some r (sym s)))
    (λ e1. split_if (l.0 == 1) (Some r) (if r.0 == 1 then Some l else if l.0 == r.0 then Some l else None) P
    (λ e s. absurd (none-some r (sym s)))
    (λ e2 s. inl (above l.0 e0 e2))))

either-inner : (l r : NodeId) → either_at_once l r ≡ None → (1 < l.0) ⊎ (1 < r.0)
either-inner l r =
    let P : Option NodeId → Type 0 = λ o. o ≡ None → (1 < l.0) ⊎ (1 < r.0) in
    split_if (l.0 == 1) (Some l) (if r.0 == 1 then Some r else if l.0 == 0 then Some r else if r.0 == 0 then Some l else if l.0 == r.0 then Some l else None) P
    (λ e s. absurd (none-some l (sym s)))
    (λ e0. split_if (r.0 == 1) (Some r) (if l.0 == 0 then Some r else if r.0 == 0 then Some l else if l.0 == r.0 then Some l else None) P
    (λ e s. absurd (none-some r (sym s)))
    (λ e1. split_if (l.0 == 0) (Some r) (if r.0 == 0 then Some l else if l.0 == r.0 then Some l else None) P
    (λ e s. absurd (none-some r (sym s)))
    (λ e2 s. inl (above l.0 e2 e0))))

same-inner : (l r : NodeId) → same_at_once l r ≡ None → (1 < l.0) ⊎ (1 < r.0)
same-inner l r =
    let one : NodeId = record { 0 = 1 } in
    let P : Option NodeId → Type 0 = λ o. o ≡ None → (1 < l.0) ⊎ (1 < r.0) in
    split_if (l.0 == r.0) (Some one) (if l.0 == 1 then Some r else if r.0 == 1 then Some l else None) P
    (λ e s. absurd (none-some one (sym s)))
    (λ e0. split_if (l.0 == 1) (Some r) (if r.0 == 1 then Some l else None) P
    (λ e s. absurd (none-some r (sym s)))
    (λ e1. split_if (r.0 == 1) (Some l) None P
    (λ e s. absurd (none-some l (sym s)))
    (λ e2 s.
    let d : l.0 ≢ r.0 = eqb-false l.0 r.0 e0 in
    let x : l.0 ≢ 1 = eqb-false l.0 1 e1 in
    let y : r.0 ≢ 1 = eqb-false r.0 1 e2 in
    elim (cases_lt 1 l.0) [ inl u ↦ inl u | inr u ↦ inr (omega (arith, d, x, y, u)) ])))

pub once-inner : (how : Join) (p : Pair) → at_once how p ≡ None → (1 < p.left.0) ⊎ (1 < p.right.0)
once-inner Both p s = both-inner p.left p.right s
once-inner Either p s = either-inner p.left p.right s
once-inner Same p s = same-inner p.left p.right s

-- joining under a choice
join-left : (how : Join) (b h l y : Bool) → joined how (choice b h l) y ≡ choice b (joined how h y) (joined how l y)
join-left how true h l y = refl
join-left how false h l y = refl

join-right : (how : Join) (b x h l : Bool) → joined how x (choice b h l) ≡ choice b (joined how x h) (joined how x l)
join-right how true x h l = refl
join-right how false x h l = refl

join-both : (how : Join) (b h l u v : Bool) → joined how (choice b h l) (choice b u v) ≡ choice b (joined how h u) (joined how l v)
join-both how true h l u v = refl
join-both how false h l u v = refl

-- the truth of a node
abbrev pub Chooses : Arena → NodeId → Node → Type 0
Chooses a n x =
    (store : List ℕ) → holds a store n.0 ≡ choice (is_set store x.top) (holds a store x.high.0) (holds a store x.low.0)

pub left-split : (a : Arena) (p : Pair) (l : Node) → IsPairIn a p → FitsNode a.cells p.left.0 l → Chooses a p.left l → IsSplit a (split_left p l)
left-split a p l h f t = record {
  top = f.top;
  asked = h;
  low = (omega (arith, f.low, h.0), h.1);
  high = (omega (arith, f.high, h.0), h.1);
  told = λ how store. ap (λ (x : Bool). joined how x (holds a store p.right.0)) (t store)
      ∙ join-left how (is_set store l.top) (holds a store l.high.0) (holds a store l.low.0) (holds a store p.right.0);
}

pub right-split : (a : Arena) (p : Pair) (r : Node) → IsPairIn a p → FitsNode a.cells p.right.0 r → Chooses a p.right r → IsSplit a (split_right p r)
right-split a p r h f t = record {
  top = f.top;
  asked = h;
  low = (h.0, omega (arith, f.low, h.1));
  high = (h.0, omega (arith, f.high, h.1));
  told = λ how store. ap (λ (x : Bool). joined how (holds a store p.left.0) x) (t store)
      ∙ join-right how (is_set store r.top) (holds a store p.left.0) (holds a store r.high.0) (holds a store r.low.0);
}

pub both-split : (a : Arena) (p : Pair) (l r : Node) → IsPairIn a p → FitsNode a.cells p.left.0 l → Chooses a p.left l
    → FitsNode a.cells p.right.0 r → Chooses a p.right r → l.top ≡ r.top → IsSplit a (split_both p l r)
both-split a p l r h f t g u e = record {
  top = f.top;
  asked = h;
  low = (omega (arith, f.low, h.0), omega (arith, g.low, h.1));
  high = (omega (arith, f.high, h.0), omega (arith, g.high, h.1));
  told = λ how store.
      let v : holds a store p.right.0 ≡ choice (is_set store l.top) (holds a store r.high.0) (holds a store r.low.0) =
      u store ∙ ap (λ (b : BitOf). choice (is_set store b) (holds a store r.high.0) (holds a store r.low.0)) (sym e) in
      ap (λ (x : Bool). joined how x (holds a store p.right.0)) (t store)
      ∙ ap (λ (x : Bool). joined how (choice (is_set store l.top) (holds a store l.high.0) (holds a store l.low.0)) x) v
      ∙ join-both how (is_set store l.top) (holds a store l.high.0) (holds a store l.low.0) (holds a store r.high.0) (holds a store r.low.0);
}

-- growing
pub pair-stay : (a b : Arena) (p : Pair) → Grown a b → IsPairIn a p → IsPairIn b p
pair-stay a b p g h = let c = grown-count a b g in (omega (arith, h.0, c), omega (arith, h.1, c))

pub met-stay : (a b : Arena) (how : Join) (p : Pair) (store : List ℕ) → Grown a b → IsPairIn a p → met b how store p ≡ met a how store p
met-stay a b how p store g h =
    ap (λ (x : Bool). joined how x (holds b store p.right.0)) (truths_stay a b store p.left.0 g h.0)
    ∙ ap (λ (x : Bool). joined how (holds a store p.left.0) x) (truths_stay a b store p.right.0 g h.1)

pub means-stay : (a b : Arena) (how : Join) (p : Pair) (n : NodeId) → Grown a b → IsPairIn a p → Means a how p n → Means b how p n
means-stay a b how p n g h m = record {
  there = omega (arith, grown-count a b g, m.there);
  told = λ store. truths_stay a b store n.0 g m.there ∙ m.told store ∙ sym (met-stay a b how p store g h);
}

pub right-stay : (a b : Arena) (ks : List Known) → Grown a b → AllRight a ks → AllRight b ks
right-stay a b ks g h k d lt =
    let r = h k d lt in
    record { there = pair-stay a b _ g r.there; means = means-stay a b _ _ _ g r.there r.means }

pub split-stay : (a b : Arena) (s : Split) → Grown a b → IsSplit a s → IsSplit b s
split-stay a b s g h = record {
  top = subst (λ (cells : List ℕ). IsBitIn cells s.top) (sym g.cells) h.top;
  asked = pair-stay a b s.asked g h.asked;
  low = pair-stay a b s.low g h.low;
  high = pair-stay a b s.high g h.high;
  told = λ how store. met-stay a b how s.asked store g h.asked ∙ h.told how store
      ∙ ap (λ (x : Bool). choice (is_set store s.top) x (met a how store s.low)) (sym (met-stay a b how s.high store g h.high))
      ∙ ap (λ (x : Bool). choice (is_set store s.top) (met b how store s.high) x) (sym (met-stay a b how s.low store g h.low));
}

-- what was joined in the grown arena, by the truths before
pub means-old : (a b : Arena) (how : Join) (l r n : NodeId) → Grown a b → l.0 < count a → r.0 < count a
    → Means b how (record { left = l; right = r }) n → Tells b n (λ store. joined how (holds a store l.0) (holds a store r.0))
means-old a b how l r n g hl hr m = record {
  there = m.there;
  told = λ store. m.told store ∙ met-stay a b how (record { left = l; right = r }) store g (hl, hr);
}

-- the choice between two halves that have their numbers
pub closed-means : (a b : Arena) (how : Join) (s : Split) (low high n : NodeId) → IsSplit a s → Means a how s.low low → Means a how s.high high → Grown a b
    → Tells b n (λ store. choice (is_set store s.top) (holds a store high.0) (holds a store low.0)) → Means b how s.asked n
closed-means a b how s low high n h l u g t = record {
  there = t.there;
  told = λ store. t.told store
      ∙ ap (λ (x : Bool). choice (is_set store s.top) x (holds a store low.0)) (u.told store)
      ∙ ap (λ (x : Bool). choice (is_set store s.top) (met a how store s.high) x) (l.told store)
      ∙ sym (h.told how store) ∙ sym (met-stay a b how s.asked store g h.asked);
}

-- a pair that is written down in the grown arena
pub close-right : (a b : Arena) (how : Join) (s : Split) (low high n : NodeId) (ks ls : List Known) → ls ≡ ks ++ (record { how = how; pair = s.asked; node = n }) ∷ [] → AllRight a ks
    → IsSplit a s → Means a how s.low low → Means a how s.high high → Grown a b
    → Tells b n (λ store. choice (is_set store s.top) (holds a store high.0) (holds a store low.0)) → AllRight b ls
close-right a b how s low high n ks ls e r h l u g t =
    let k : Known = record { how = how; pair = s.asked; node = n } in
    let new : IsRight b k = record { there = pair-stay a b s.asked g h.asked; means = closed-means a b how s low high n h l u g t } in
    subst (λ (xs : List Known). AllRight b xs) (sym e) (All-push (IsRight b) ks k (right-stay a b ks g r) new)

pub none-right : (a : Arena) (ks : List Known) → ks ≡ [] → AllRight a ks
none-right a ks e = subst (λ (xs : List Known). AllRight a xs) (sym e) (λ k d lt. absurd (omega (arith, lt)))

-- of a call's result
pub old-result : {E : Type 0} (r : Result NodeId E) (a b : Arena) (how : Join) (l u : NodeId) → Grown a b → l.0 < count a → u.0 < count a
    → IfOk r (λ n. Means b how (record { left = l; right = u }) n) → IfOk r (λ n. Tells b n (λ store. joined how (holds a store l.0) (holds a store u.0)))
old-result (Ok n) a b how l u g hl hu m = means-old a b how l u n g hl hu m
old-result (Err e) a b how l u g hl hu m = tt

same-tells : (b : Arena) (n : NodeId) (f g : List ℕ → Bool) → ((store : List ℕ) → f store ≡ g store) → Tells b n f → Tells b n g
same-tells b n f g e h = record { there = h.there; told = λ store. h.told store ∙ e store }

pub negated-result : {E : Type 0} (r : Result NodeId E) (a b : Arena) (u : NodeId) → IfOk r (λ n. Tells b n (λ store. joined Same (holds a store 0) (holds a store u.0)))
    → IfOk r (λ n. Tells b n (λ store. not (holds a store u.0)))
negated-result (Ok n) a b u m =
    same-tells b n (λ store. joined Same (holds a store 0) (holds a store u.0)) (λ store. not (holds a store u.0))
    (λ store. ap (λ (x : Bool). joined Same x (holds a store u.0)) (holds-false a store)) m
negated-result (Err e) a b u m = tt

pub bit-tells : {E : Type 0} (r : Result NodeId E) (a b : Arena) (x : BitOf) → IfOk r (λ n. Tells b n (λ store. choice (is_set store x) (holds a store 1) (holds a store 0)))
    → IfOk r (λ n. Tells b n (λ store. is_set store x))
bit-tells (Ok n) a b x m =
    same-tells b n (λ store. choice (is_set store x) (holds a store 1) (holds a store 0)) (λ store. is_set store x)
    (λ store. ap (λ (t : Bool). choice (is_set store x) t (holds a store 0)) (holds-true a store)
    ∙ ap (λ (t : Bool). choice (is_set store x) true t) (holds-false a store) ∙ itself (is_set store x)) m
  where
    itself : (t : Bool) → choice t true false ≡ t
    itself true = refl
    itself false = refl
bit-tells (Err e) a b x m = tt

pub end-true : (a : Arena) (v : Bool) → v ≡ true → Tells a (record { 0 = 1 }) (λ store. v)
end-true a v e = record { there = omega arith; told = λ store. holds-true a store ∙ sym e }

pub end-false : (a : Arena) (v : Bool) → v ≡ false → Tells a (record { 0 = 0 }) (λ store. v)
end-false a v e = record { there = omega arith; told = λ store. holds-false a store ∙ sym e }

-- a node by the number behind its place
pub fits-at : (cells : List ℕ) (k n : ℕ) (x : Node) → k + 2 ≡ n → FitsNode cells (k + 2) x → FitsNode cells n x
fits-at cells k n x e f = subst (λ (m : ℕ). FitsNode cells m x) e f

pub told-at : (a : Arena) (k n : ℕ) (f : List ℕ → Bool) → k + 2 ≡ n → ((store : List ℕ) → holds a store (k + 2) ≡ f store) → (store : List ℕ) → holds a store n ≡ f store
told-at a k n f e h store = subst (λ (m : ℕ). holds a store m ≡ f store) e (h store)

pub entered-result : {E : Type 0} (r : Result NodeId E) (a b : Arena) (x : Node) → IsArena a → FitsNode a.cells (count a) x
    → IfOk r (λ n. b ≡ with_node a x) → IfOk r (λ n. n.0 ≡ count a)
    → IfOk r (λ n. Tells b n (λ store. choice (is_set store x.top) (holds a store x.high.0) (holds a store x.low.0)))
entered-result (Ok n) a b x is f e q = made-last a b x n is f e q
entered-result (Err d) a b x is f e q = tt
