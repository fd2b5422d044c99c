-- Labels that are found by their names.
use Rattle.std.proofs.Common.{◌≡◌, ℕ, zero, suc, ◌<◌, ◌≤◌, ◌+◌, ◌-◌, Bool, true, false, ◌||◌, if◌then◌else◌, List, [], ◌∷◌, ◌++◌, length, map, take, drop, get_or, cond, Option, None, Some, is_some, refl, ap, ◌∙◌, sym, subst, arith, add-one, length-append, append_assoc}
use Rattle.std.specs.Prelude.{bytes_eq, ◌&&◌, not, nat_lt, nat_eq}
use Rattle.std.specs.Borrow.{Bor}
use Rattle.std.specs.List.{list_any}
use Rattle.std.specs.HashMap.{HashMap, get_by}
use Rattle.std.proofs.lemmas.Bool.{ltb-true, ltb-false, eqb-true, eq-eqb}
use Rattle.std.proofs.lemmas.List.{get_or-map, length-map, get_or_append_left, get_or_push, length-take, length-drop}
use Rattle.std.proofs.lemmas.Slice.Eq.{bytes_eq-Decides}
use Rattle.std.proofs.Math.Seq.{take-suc}
use Rattle.c_typed.specs.Rules as r
use Rattle.jump_rules.specs.Names.{names_of, name_at, last_below, IsLast, AreBefore}
use Rattle.jump_rules.specs.declared.jumps.Jump.{Jump}
use Rattle.jump_rules.specs.Seen.{jump_of, jumps}
use Rattle.jump_rules.proofs.Rows.{any_append, any_jumps}

-- ---- Names

same_bytes : (a b : List ℕ) → bytes_eq a b ≡ true → a ≡ b
same_bytes a b h = (bytes_eq-Decides a b).0 h

flip : (a b : List ℕ) → bytes_eq a b ≡ bytes_eq b a
flip a b = by (bytes_eq a b) (bytes_eq b a) refl refl
  where
    by : (x y : Bool) → x ≡ bytes_eq a b → y ≡ bytes_eq b a → bytes_eq a b ≡ bytes_eq b a
    by true y p q = sym p ∙ sym ((bytes_eq-Decides b a).1 (sym (same_bytes a b (sym p))))
    by false true p q = (bytes_eq-Decides a b).1 (sym (same_bytes b a (sym q))) ∙ q
    by false false p q = sym p ∙ q

or_false : (a : Bool) → a ≡ (a || false)
or_false true = refl
or_false false = refl

or_true : (a : Bool) → true ≡ (a || true)
or_true true = refl
or_true false = refl

-- how many labels are left to be looked at
abbrev pub left : Option ℕ → ℕ
left None = 0
left (Some i) = suc i

module _ (ls : List r.Jump) (q : List ℕ) where
  named_at : (i : ℕ) (d : r.Jump) → i < length ls → name_at (names_of ls) i ≡ (get_or ls i d).name
  named_at i d h = get_or-map (λ (l : r.Jump). l.name) ls i d [] h

  one_more : (p : r.Jump → Bool) (i : ℕ) (d : r.Jump) → i < length ls → list_any p (take (suc i) ls) ≡ (list_any p (take i ls) || p (get_or ls i d))
  one_more p i d h = ap (list_any p) (take-suc ls i d h) ∙ any_append p (take i ls) (get_or ls i d ∷ []) ∙ ap (λ z. list_any p (take i ls) || z) (sym (or_false (p (get_or ls i d))))

  -- there is a last one where there is one
  pub last_shows : (m : ℕ) (d : r.Jump) → m ≤ length ls → is_some (last_below (names_of ls) q m) ≡ r.has_name q (take m ls)
  last_shows zero d h = refl
  last_shows (suc m) d h = by (last_shows m d (omega (arith, h))) (bytes_eq q (name_at (names_of ls) m)) refl
    where
      by : is_some (last_below (names_of ls) q m) ≡ r.has_name q (take m ls) → (b : Bool) → b ≡ bytes_eq q (name_at (names_of ls) m) →
          is_some (if bytes_eq q (name_at (names_of ls) m) then Some m else last_below (names_of ls) q m) ≡ r.has_name q (take (suc m) ls)
      by ih true e =
          ap (λ z. is_some (if z then Some m else last_below (names_of ls) q m)) (sym e)
          ∙ or_true (r.has_name q (take m ls))
          ∙ ap (λ z. r.has_name q (take m ls) || z) (e ∙ flip q (name_at (names_of ls) m) ∙ ap (λ z. bytes_eq z q) (named_at m d (omega (arith, h))))
          ∙ sym (one_more (λ l. bytes_eq l.name q) m d (omega (arith, h)))
      by ih false e =
          ap (λ z. is_some (if z then Some m else last_below (names_of ls) q m)) (sym e)
          ∙ ih ∙ or_false (r.has_name q (take m ls))
          ∙ ap (λ z. r.has_name q (take m ls) || z) (e ∙ flip q (name_at (names_of ls) m) ∙ ap (λ z. bytes_eq z q) (named_at m d (omega (arith, h))))
          ∙ sym (one_more (λ l. bytes_eq l.name q) m d (omega (arith, h)))

  module _ (t : r.Jump → Bool) where
    abbrev test : r.Jump → Bool
    test l = bytes_eq l.name q && t l

    -- among the first labels none behind the last one of the name passes
    pub record Ends (m : ℕ) (o : Option ℕ) : Type 0 where
      below : left o ≤ m
      last : last_below (names_of ls) q (left o) ≡ o
      rest : list_any test (take (left o) ls) ≡ list_any test (take m ls)

    pub ends : (m : ℕ) (d : r.Jump) → m ≤ length ls → Ends m (last_below (names_of ls) q m)
    ends zero d h = record { below = omega arith; last = refl; rest = refl }
    ends (suc m) d h = by (ends m d (omega (arith, h))) (bytes_eq q (name_at (names_of ls) m)) refl
      where
        by : Ends m (last_below (names_of ls) q m) → (b : Bool) → b ≡ bytes_eq q (name_at (names_of ls) m) → Ends (suc m) (if bytes_eq q (name_at (names_of ls) m) then Some m else last_below (names_of ls) q m)
        by ih true e =
            subst (λ (z : Bool). Ends (suc m) (if z then Some m else last_below (names_of ls) q m)) e
            (record { below = omega arith; last = ap (λ z. if z then Some m else last_below (names_of ls) q m) (sym e); rest = refl })
        by ih false e =
            subst (λ (z : Bool). Ends (suc m) (if z then Some m else last_below (names_of ls) q m)) e
            (record {
              below = omega (arith, ih.below);
              last = ih.last;
              rest = ih.rest ∙ or_false (list_any test (take m ls))
                  ∙ ap (λ z. list_any test (take m ls) || (z && t (get_or ls m d))) (e ∙ flip q (name_at (names_of ls) m) ∙ ap (λ z. bytes_eq z q) (named_at m d (omega (arith, h))))
                  ∙ sym (one_more test m d (omega (arith, h)));
            })

    -- the last one of the name has it
    pub last_has : (i : ℕ) (d : r.Jump) → i < length ls → last_below (names_of ls) q (suc i) ≡ Some i → bytes_eq q (name_at (names_of ls) i) ≡ true
    last_has i d h e = by (ends i d (omega (arith, h))) (bytes_eq q (name_at (names_of ls) i)) refl
      where
        by : Ends i (last_below (names_of ls) q i) → (b : Bool) → b ≡ bytes_eq q (name_at (names_of ls) i) → bytes_eq q (name_at (names_of ls) i) ≡ true
        by ih true k = sym k
        by ih false k =
            let low : last_below (names_of ls) q i ≡ Some i = ap (λ z. if z then Some i else last_below (names_of ls) q i) k ∙ e in
            let small : left (Some i) ≤ i = subst (λ (z : Option ℕ). left z ≤ i) low ih.below in
            absurd (omega (arith, small))

    -- what is looked at next: the label at this place passes, or those below it decide
    pub passes : (i : ℕ) (d : r.Jump) → i < length ls → last_below (names_of ls) q (suc i) ≡ Some i → list_any test (take (suc i) ls) ≡ (list_any test (take i ls) || t (get_or ls i d))
    passes i d h e =
        one_more test i d h
        ∙ ap (λ z. list_any test (take i ls) || (z && t (get_or ls i d))) (ap (λ z. bytes_eq z q) (sym (named_at i d h)) ∙ flip (name_at (names_of ls) i) q ∙ last_has i d h e)

-- ---- The labels of the program

name_seen : (xs : List Jump) (i : ℕ) (d : Jump) → i < length xs → name_at (names_of (jumps xs)) i ≡ (get_or xs i d).name
name_seen [] i d h = absurd (omega (arith, h))
name_seen (x ∷ xs) zero d h = refl
name_seen (x ∷ xs) (suc i) d h = name_seen xs i d (omega (arith, h))

jumps_take : (xs : List Jump) (i : ℕ) → take i (jumps xs) ≡ jumps (take i xs)
jumps_take [] zero = refl
jumps_take [] (suc i) = refl
jumps_take (x ∷ xs) zero = refl
jumps_take (x ∷ xs) (suc i) = ap (λ z. jump_of x ∷ z) (jumps_take xs i)

jumps_at : (xs : List Jump) (i : ℕ) (d : Jump) → i < length xs → get_or (jumps xs) i (jump_of d) ≡ jump_of (get_or xs i d)
jumps_at [] i d h = absurd (omega (arith, h))
jumps_at (x ∷ xs) zero d h = refl
jumps_at (x ∷ xs) (suc i) d h = jumps_at xs i d (omega (arith, h))

jumps_length : (xs : List Jump) → length (jumps xs) ≡ length xs
jumps_length xs = length-map xs jump_of

take_whole : {A : Type 0} (xs : List A) → take (length xs) xs ≡ xs
take_whole [] = refl
take_whole (x ∷ xs) = ap (λ z. x ∷ z) (take_whole xs)

-- one label more
pub last_more : {S : Type 0} (xs : List Jump) (i : ℕ) (x : Jump) (name : List ℕ) (old new : HashMap (Bor (List ℕ)) ℕ S) → i < length xs → x ≡ get_or xs i x → name ≡ x.name → IsLast (names_of (jumps xs)) i old →
    ((q : List ℕ) → get_by (λ k. bytes_eq q k.now) new ≡ cond (bytes_eq name q) (Some i) (get_by (λ k. bytes_eq q k.now) old)) → IsLast (names_of (jumps xs)) (i + 1) new
last_more xs i x name old new h e n k u q =
    u q ∙ ap (cond (bytes_eq name q) (Some i)) (k q)
    ∙ same (bytes_eq name q) (bytes_eq q (name_at (names_of (jumps xs)) i)) (ap (λ z. bytes_eq z q) (n ∙ ap (λ (y : Jump). y.name) e ∙ sym (name_seen xs i x h)) ∙ flip (name_at (names_of (jumps xs)) i) q)
    ∙ ap (last_below (names_of (jumps xs)) q) (sym (add-one i))
  where
    same : (a b : Bool) → a ≡ b → cond a (Some i) (last_below (names_of (jumps xs)) q i) ≡ (if b then Some i else last_below (names_of (jumps xs)) q i)
    same true b p = ap (λ z. if z then Some i else last_below (names_of (jumps xs)) q i) p
    same false b p = ap (λ z. if z then Some i else last_below (names_of (jumps xs)) q i) p

pub before_more : {S : Type 0} (xs : List Jump) (i : ℕ) (x : Jump) (name : List ℕ) (old : HashMap (Bor (List ℕ)) ℕ S) (before new : List (Option ℕ)) → i < length xs → x ≡ get_or xs i x → name ≡ x.name → IsLast (names_of (jumps xs)) i old →
    length before ≡ i → AreBefore (names_of (jumps xs)) i before → new ≡ before ++ get_by (λ k. bytes_eq name k.now) old ∷ [] → AreBefore (names_of (jumps xs)) (i + 1) new
before_more xs i x name old before new h e n k c a m j l = ap (λ z. get_or z j None) m ∙ by (nat_lt j i) refl
  where
    own : Option ℕ
    own = get_by (λ k. bytes_eq name k.now) old

    by : (b : Bool) → b ≡ nat_lt j i → get_or (before ++ own ∷ []) j None ≡ last_below (names_of (jumps xs)) (name_at (names_of (jumps xs)) j) j
    by true p = get_or_append_left before (own ∷ []) None j (omega (arith, c, ltb-true j i (sym p))) ∙ a j (ltb-true j i (sym p))
    by false p =
        let here : j ≡ i = omega (arith, l, ltb-false j i (sym p)) in
        ap (λ z. get_or (before ++ own ∷ []) z None) here ∙ get_or_push before own None i c ∙ k name
        ∙ ap (λ z. last_below (names_of (jumps xs)) z i) (n ∙ ap (λ (y : Jump). y.name) e ∙ sym (name_seen xs i x h))
        ∙ ap (λ z. last_below (names_of (jumps xs)) (name_at (names_of (jumps xs)) z) z) (sym here)

pub count_more : (before new : List (Option ℕ)) (i : ℕ) (o : Option ℕ) → length before ≡ i → new ≡ before ++ o ∷ [] → length new ≡ i + 1
count_more before new i o c m = ap length m ∙ length-append before (o ∷ []) ∙ ap (λ z. z + 1) c

-- the label at a place stands a second time where one of its name is before it
pub second_is : (xs : List Jump) (i : ℕ) (x : Jump) (before : List (Option ℕ)) (place : Option ℕ) (test : Bool) → i < length xs → x ≡ get_or xs i x → AreBefore (names_of (jumps xs)) (length xs) before →
    place ≡ get_or before i None → test ≡ is_some place → test ≡ r.has_name x.name (jumps (take i xs))
second_is xs i x before place test h e a p t =
    t ∙ ap is_some (p ∙ a i h) ∙ last_shows (jumps xs) (name_at (names_of (jumps xs)) i) i (jump_of x) (omega (arith, h, jumps_length xs))
    ∙ ap (λ z. r.has_name z (take i (jumps xs))) (name_seen xs i x h ∙ ap (λ (y : Jump). y.name) (sym e)) ∙ ap (r.has_name x.name) (jumps_take xs i)

-- a goto's label is there where there is a last one of its name
pub there_is : {S : Type 0} (xs : List Jump) (g : Jump) (name : List ℕ) (last : HashMap (Bor (List ℕ)) ℕ S) (place : Option ℕ) (test : Bool) → IsLast (names_of (jumps xs)) (length xs) last → name ≡ g.name →
    place ≡ get_by (λ k. bytes_eq name k.now) last → test ≡ is_some place → test ≡ r.has_name g.name (jumps xs)
there_is xs g name last place test l n p t =
    t ∙ ap is_some (p ∙ l name) ∙ ap (λ z. is_some (last_below (names_of (jumps xs)) z (length xs))) n
    ∙ last_shows (jumps xs) g.name (length xs) (jump_of g) (omega (arith, jumps_length xs))
    ∙ ap (r.has_name g.name) (ap (λ z. take z (jumps xs)) (sym (jumps_length xs)) ∙ take_whole (jumps xs))

-- ---- The labels of a goto's name, the last one first

abbrev pub test_of : Jump → r.Jump → Bool
test_of g l = bytes_eq l.name g.name && r.enters g.scope.items l.scope

-- the labels from this place back are still to be looked at
pub record Looks (xs : List Jump) (g : Jump) (at : Option ℕ) : Type 0 where
  pub fits : left at ≤ length xs
  pub last : last_below (names_of (jumps xs)) g.name (left at) ≡ at
  pub rest : list_any (test_of g) (take (left at) (jumps xs)) ≡ list_any (test_of g) (jumps xs)

pub looks_first : {S : Type 0} (xs : List Jump) (g : Jump) (name : List ℕ) (last : HashMap (Bor (List ℕ)) ℕ S) (place : Option ℕ) → IsLast (names_of (jumps xs)) (length xs) last → name ≡ g.name →
    place ≡ get_by (λ k. bytes_eq name k.now) last → Looks xs g place
looks_first xs g name last place l n p =
    subst (λ (z : Option ℕ). Looks xs g z) (sym (p ∙ l name ∙ ap (λ z. last_below (names_of (jumps xs)) z (length xs)) n))
    (record {
      fits = e.below;
      last = e.last;
      rest = e.rest ∙ ap (list_any (test_of g)) (ap (λ z. take z (jumps xs)) (sym (jumps_length xs)) ∙ take_whole (jumps xs));
    })
  where
    e : Ends (jumps xs) g.name (λ l. r.enters g.scope.items l.scope) (length xs) (last_below (names_of (jumps xs)) g.name (length xs))
    e = ends (jumps xs) g.name (λ l. r.enters g.scope.items l.scope) (length xs) (jump_of g) (omega (arith, jumps_length xs))

pub looks_whole : (xs : List Jump) (g : Jump) (i : ℕ) (x : Jump) (enters : Bool) → Looks xs g (Some i) → x ≡ get_or xs i x → enters ≡ r.enters g.scope.items x.scope.items →
    list_any (test_of g) (jumps xs) ≡ (list_any (test_of g) (take i (jumps xs)) || enters)
looks_whole xs g i x enters l e t =
    sym l.rest ∙ passes (jumps xs) g.name (λ y. r.enters g.scope.items y.scope) i (jump_of x) (omega (arith, l.fits, jumps_length xs)) l.last
    ∙ ap (λ z. list_any (test_of g) (take i (jumps xs)) || r.enters g.scope.items z.scope) (jumps_at xs i x (omega (arith, l.fits)) ∙ ap jump_of (sym e))
    ∙ ap (λ z. list_any (test_of g) (take i (jumps xs)) || z) (sym t)

pub looks_more : (xs : List Jump) (g : Jump) (i : ℕ) (x : Jump) (enters : Bool) (before : List (Option ℕ)) (next : Option ℕ) → Looks xs g (Some i) → x ≡ get_or xs i x → enters ≡ r.enters g.scope.items x.scope.items →
    enters ≡ false → AreBefore (names_of (jumps xs)) (length xs) before → next ≡ get_or before i None → Looks xs g next × (left next < suc i)
looks_more xs g i x enters before next l e t f a n =
    let low : i < length xs = omega (arith, l.fits) in
    let name : name_at (names_of (jumps xs)) i ≡ g.name = sym (same_bytes g.name (name_at (names_of (jumps xs)) i) (last_has (jumps xs) g.name (λ y. r.enters g.scope.items y.scope) i (jump_of x) (omega (arith, low, jumps_length xs)) l.last)) in
    let is : next ≡ last_below (names_of (jumps xs)) g.name i = n ∙ a i low ∙ ap (λ z. last_below (names_of (jumps xs)) z i) name in
    let e1 : Ends (jumps xs) g.name (λ y. r.enters g.scope.items y.scope) i (last_below (names_of (jumps xs)) g.name i) = ends (jumps xs) g.name (λ y. r.enters g.scope.items y.scope) i (jump_of x) (omega (arith, low, jumps_length xs)) in
    let e2 : Ends (jumps xs) g.name (λ y. r.enters g.scope.items y.scope) i next = subst (λ (z : Option ℕ). Ends (jumps xs) g.name (λ y. r.enters g.scope.items y.scope) i z) (sym is) e1 in (
      record {
        fits = omega (arith, e2.below, low);
        last = e2.last;
        rest = e2.rest ∙ or_false (list_any (test_of g) (take i (jumps xs))) ∙ ap (λ z. list_any (test_of g) (take i (jumps xs)) || z) (sym f) ∙ sym (looks_whole xs g i x enters l e t);
      },
      omega (arith, e2.below),
    )

pub looks_found : (xs : List Jump) (g : Jump) (i : ℕ) (x : Jump) (enters : Bool) → Looks xs g (Some i) → x ≡ get_or xs i x → enters ≡ r.enters g.scope.items x.scope.items → enters ≡ true →
    true ≡ list_any (λ (y : Jump). bytes_eq y.name g.name && r.enters g.scope.items y.scope.items) xs
looks_found xs g i x enters l e t k =
    or_true (list_any (test_of g) (take i (jumps xs))) ∙ ap (λ z. list_any (test_of g) (take i (jumps xs)) || z) (sym k)
    ∙ sym (looks_whole xs g i x enters l e t) ∙ sym (any_jumps (test_of g) xs)

pub looks_none : (xs : List Jump) (g : Jump) (at : Option ℕ) → Looks xs g at → ((i : ℕ) → at ≡ Some i → ⊥) → false ≡ list_any (λ (y : Jump). bytes_eq y.name g.name && r.enters g.scope.items y.scope.items) xs
looks_none xs g None l n = l.rest ∙ sym (any_jumps (test_of g) xs)
looks_none xs g (Some i) l n = absurd (n i refl)

-- ---- Scopes

new_in : (front xs : List ℕ) (n : ℕ) → list_any (λ object. not (r.has (front ++ xs) object)) (take n xs) ≡ false
new_in front [] zero = refl
new_in front [] (suc n) = refl
new_in front (x ∷ xs) zero = refl
new_in front (x ∷ xs) (suc n) =
    ap (λ z. not z || list_any (λ object. not (r.has (front ++ (x ∷ xs)) object)) (take n xs)) (middle front)
    ∙ ap (λ z. list_any (λ object. not (r.has z object)) (take n xs)) (sym (append_assoc front (x ∷ []) xs)) ∙ new_in (front ++ x ∷ []) xs n
  where
    middle : (ys : List ℕ) → r.has (ys ++ (x ∷ xs)) x ≡ true
    middle [] = ap (λ z. z || list_any (nat_eq x) xs) (eq-eqb x x refl)
    middle (y ∷ ys) = ap (λ z. nat_eq x y || z) (middle ys) ∙ sym (or_true (nat_eq x y))

split : {A : Type 0} (xs : List A) (n : ℕ) → xs ≡ take n xs ++ drop n xs
split [] zero = refl
split [] (suc n) = refl
split (x ∷ xs) zero = refl
split (x ∷ xs) (suc n) = ap (λ z. x ∷ z) (split xs n)

-- what two scopes both begin with is not entered
pub rest_enters : (start goal : List ℕ) (n : ℕ) → take n start ≡ take n goal → r.enters start (drop n goal) ≡ r.enters start goal
rest_enters start goal n e =
    ap (λ z. z || r.enters start (drop n goal)) (sym (new_in [] start n) ∙ ap (r.enters start) e)
    ∙ sym (any_append (λ object. not (r.has start object)) (take n goal) (drop n goal)) ∙ ap (r.enters start) (sym (split goal n))

pub take_rest : {A : Type 0} (xs : List A) (n : ℕ) → take (length xs - n) (drop n xs) ≡ drop n xs
take_rest xs n = ap (λ z. take z (drop n xs)) (sym (length-drop n xs)) ∙ take_whole (drop n xs)
