-- The first of two lists of broken lines is the first of their firsts.
use Rattle.std.proofs.Common.{◌≡◌, ◌⊎◌, inl, inr, ℕ, ◌<◌, ◌≤◌, Bool, true, false, if◌then◌else◌, ◌||◌, List, [], ◌∷◌, ◌++◌, Some, refl, ap, sym, ◌∙◌, arith, append-nil}
use Rattle.std.specs.Prelude.{nat_eq, nat_lt}
use Rattle.std.specs.List.{list_any}
use Rattle.std.proofs.lemmas.Bool.{eqb-true, eqb-false, ltb-true, ltb-false, lt-ltb, le-ltb}
use Rattle.c_run.specs.Breaking.{Broken, is_before, least_of, first_broken}
use Rattle.c_meaning.specs.Rules.{is_typing}
use Rattle.lv_base.specs.Names.{fault_number}
use Rattle.first_broken.specs.Found.{summary, earlier, both, Joined, Tried}

abbrev pick : Bool → Broken → Broken → Broken
pick b x y = if b then x else y

-- before in the order of offset and number
by_offset : (a b m n : ℕ) (e : Bool) → e ≡ nat_eq a b → (if e then nat_lt m n else nat_lt a b) ≡ true → (a < b) ⊎ ((a ≡ b) × (m < n))
by_offset a b m n true e h = inr (eqb-true a b (sym e), ltb-true m n h)
by_offset a b m n false e h = inl (ltb-true a b h)

not_before : (a b m n : ℕ) (e : Bool) → e ≡ nat_eq a b → (if e then nat_lt m n else nat_lt a b) ≡ false → (b < a) ⊎ ((a ≡ b) × (n ≤ m))
not_before a b m n true e h = inr (eqb-true a b (sym e), ltb-false m n h)
not_before a b m n false e h = inl (omega (arith, ltb-false a b h, eqb-false a b (sym e)))

is_true : (a b m n : ℕ) (e : Bool) → e ≡ nat_eq a b → (a < b) ⊎ ((a ≡ b) × (m < n)) → (if e then nat_lt m n else nat_lt a b) ≡ true
is_true a b m n true e (inl h) = absurd (omega (arith, eqb-true a b (sym e), h))
is_true a b m n true e (inr h) = lt-ltb m n h.1
is_true a b m n false e (inl h) = lt-ltb a b h
is_true a b m n false e (inr h) = absurd (eqb-false a b (sym e) h.0)

is_false : (a b m n : ℕ) (e : Bool) → e ≡ nat_eq a b → (b < a) ⊎ ((a ≡ b) × (n ≤ m)) → (if e then nat_lt m n else nat_lt a b) ≡ false
is_false a b m n true e (inl h) = absurd (omega (arith, eqb-true a b (sym e), h))
is_false a b m n true e (inr h) = le-ltb m n h.1
is_false a b m n false e (inl h) = le-ltb a b (omega (arith, h))
is_false a b m n false e (inr h) = absurd (eqb-false a b (sym e) h.0)

told : (x y : Broken) → is_before x y ≡ true → (x.at < y.at) ⊎ ((x.at ≡ y.at) × (fault_number x.fault < fault_number y.fault))
told x y h = by_offset x.at y.at (fault_number x.fault) (fault_number y.fault) (nat_eq x.at y.at) refl h

untold : (x y : Broken) → is_before x y ≡ false → (y.at < x.at) ⊎ ((x.at ≡ y.at) × (fault_number y.fault ≤ fault_number x.fault))
untold x y h = not_before x.at y.at (fault_number x.fault) (fault_number y.fault) (nat_eq x.at y.at) refl h

later : (x y z : Broken) → is_before x y ≡ true → is_before y z ≡ true → is_before x z ≡ true
later x y z h k = is_true x.at z.at (fault_number x.fault) (fault_number z.fault) (nat_eq x.at z.at) refl (join (told x y h) (told y z k))
  where
    join : (x.at < y.at) ⊎ ((x.at ≡ y.at) × (fault_number x.fault < fault_number y.fault)) → (y.at < z.at) ⊎ ((y.at ≡ z.at) × (fault_number y.fault < fault_number z.fault)) → (x.at < z.at) ⊎ ((x.at ≡ z.at) × (fault_number x.fault < fault_number z.fault))
    join (inl a) (inl b) = inl (omega (arith, a, b))
    join (inl a) (inr b) = inl (omega (arith, a, b.0))
    join (inr a) (inl b) = inl (omega (arith, a.0, b))
    join (inr a) (inr b) = inr (omega (arith, a.0, b.0), omega (arith, a.1, b.1))

not_later : (x y z : Broken) → is_before x y ≡ false → is_before y z ≡ false → is_before x z ≡ false
not_later x y z h k = is_false x.at z.at (fault_number x.fault) (fault_number z.fault) (nat_eq x.at z.at) refl (join (untold x y h) (untold y z k))
  where
    join : (y.at < x.at) ⊎ ((x.at ≡ y.at) × (fault_number y.fault ≤ fault_number x.fault)) → (z.at < y.at) ⊎ ((y.at ≡ z.at) × (fault_number z.fault ≤ fault_number y.fault)) → (z.at < x.at) ⊎ ((x.at ≡ z.at) × (fault_number z.fault ≤ fault_number x.fault))
    join (inl a) (inl b) = inl (omega (arith, a, b))
    join (inl a) (inr b) = inl (omega (arith, a, b.0))
    join (inr a) (inl b) = inl (omega (arith, a.0, b))
    join (inr a) (inr b) = inr (omega (arith, a.0, b.0), omega (arith, a.1, b.1))

-- of three the first, from either end
three : (best y z : Broken) (a b : Bool) → a ≡ is_before y best → b ≡ is_before z y →
    pick (is_before z (pick a y best)) z (pick a y best) ≡ pick (is_before (pick b z y) best) (pick b z y) best
three best y z true true p q = ap (λ c. pick c z y) (sym q) ∙ sym (ap (λ c. pick c z best) (later z y best (sym q) (sym p)))
three best y z true false p q = ap (λ c. pick c z y) (sym q) ∙ ap (λ c. pick c y best) p
three best y z false true p q = refl
three best y z false false p q = ap (λ c. pick c z best) (not_later z y best (sym q) (sym p)) ∙ ap (λ c. pick c y best) p

least_behind : (best y : Broken) (ys : List Broken) → least_of (pick (is_before y best) y best) ys ≡ pick (is_before (least_of y ys) best) (least_of y ys) best
least_behind best y [] = refl
least_behind best y (z ∷ ys) = ap (λ x. least_of x ys) (three best y z (is_before y best) (is_before z y) refl refl) ∙ least_behind best (pick (is_before z y) z y) ys

least_append : (best : Broken) (xs ys : List Broken) → least_of best (xs ++ ys) ≡ least_of (least_of best xs) ys
least_append best [] ys = refl
least_append best (x ∷ xs) ys = least_append (pick (is_before x best) x best) xs ys

some_pick : (b : Bool) (x y : Broken) → Some (pick b x y) ≡ (if b then Some x else Some y)
some_pick true x y = refl
some_pick false x y = refl

first_append : (xs ys : List Broken) → first_broken (xs ++ ys) ≡ earlier (first_broken xs) (first_broken ys)
first_append [] ys = refl
first_append (x ∷ xs) [] = ap (λ zs. Some (least_of x zs)) (append-nil xs)
first_append (x ∷ xs) (y ∷ ys) =
    ap Some (least_append x xs (y ∷ ys) ∙ least_behind (least_of x xs) y ys) ∙ some_pick (is_before (least_of y ys) (least_of x xs)) (least_of y ys) (least_of x xs)

or_is : (a b : Bool) → (a || b) ≡ (if a then true else b)
or_is true b = refl
or_is false b = refl

any_append : (p : Broken → Bool) (xs ys : List Broken) → list_any p (xs ++ ys) ≡ (if list_any p xs then true else list_any p ys)
any_append p [] ys = refl
any_append p (x ∷ xs) ys = ap (λ b. p x || b) (any_append p xs ys) ∙ split (p x) (list_any p xs) (list_any p ys)
  where
    split : (a b c : Bool) → (a || (if b then true else c)) ≡ (if a || b then true else c)
    split true b c = refl
    split false b c = refl

pub joined_is : Joined
joined_is xs ys =
    ap (λ l. record { least = l; blocks = list_any (λ b. is_typing b.fault) (xs ++ ys) }) (first_append xs ys)
    ∙ ap (λ b. record { least = earlier (first_broken xs) (first_broken ys); blocks = b }) (any_append (λ b. is_typing b.fault) xs ys)

by_blocks : (b : Bool) (parts lines : List Broken) → summary (parts ++ (if b then [] else lines)) ≡ (if b then summary parts else both (summary parts) (summary lines))
by_blocks true parts lines = ap summary (append-nil parts)
by_blocks false parts lines = joined_is parts lines

pub tried_is : Tried
tried_is parts lines = by_blocks (list_any (λ b. is_typing b.fault) parts) parts lines
