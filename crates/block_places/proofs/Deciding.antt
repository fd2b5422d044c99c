-- Passes that end at the first answer: what they answer by the elements and numbers so far.
use Rattle.std.proofs.Common.{◌≡◌, ℕ, zero, suc, ◌+◌, ◌-◌, ◌<◌, ◌≤◌, ◌&&◌, ◌||◌, ◌++◌, Bool, true, false, List, [], ◌∷◌, length, take, drop, Option, None, Some, inl, inr, refl, sym, ap, ◌∙◌, subst, arith, slice_get}
use Rattle.std.proofs.lemmas.Bool.{and_parts, cases_eq, true≢false}
use Rattle.std.proofs.lemmas.Option.{same_Some, slice_get_within}
use Rattle.std.specs.List.{list_all, list_any}
use Rattle.c_graph.specs.declared.graph.NodeId.{NodeId}
use Rattle.c_graph.specs.Shape.{Flow}
use Rattle.walk_states.specs.declared.known.Known.{Known}
use Rattle.walk_states.specs.declared.state.Place.{Place}
use Rattle.block_places.specs.Made as made

both : (a b : Bool) → a ≡ true → b ≡ true → (a && b) ≡ true
both a b p q = ap (λ (x : Bool). x && b) p ∙ q

-- ---- Elements of lists

all-suc : {X : Type 0} → (p : X → Bool) (xs : List X) (n : ℕ) (x : X) → slice_get xs n ≡ Some x → p x ≡ true
    → list_all p (take n xs) ≡ true → list_all p (take (suc n) xs) ≡ true
all-suc p [] n x s e h = refl
all-suc p (y ∷ ys) zero x s e h =
    let same : y ≡ x = same_Some y x s in
    both (p y) true (ap p same ∙ e) refl
all-suc p (y ∷ ys) (suc n) x s e h =
    let (first, rest) = and_parts (p y) (list_all p (take n ys)) h in
    both (p y) (list_all p (take (suc n) ys)) first (all-suc p ys n x s e rest)

pub all-more : {X : Type 0} → (p : X → Bool) (xs : List X) (n : ℕ) (x : X) → slice_get xs n ≡ Some x → p x ≡ true
    → list_all p (take n xs) ≡ true → list_all p (take (n + 1) xs) ≡ true
all-more p xs n x s e h =
    let next : suc n ≡ n + 1 = omega arith in
    subst (λ (m : ℕ). list_all p (take m xs) ≡ true) next (all-suc p xs n x s e h)

pub all-end : {X : Type 0} → (p : X → Bool) (xs : List X) (n : ℕ) → length xs ≤ n → list_all p (take n xs) ≡ true → true ≡ list_all p xs
all-end p [] n le h = refl
all-end p (y ∷ ys) zero le h = absurd (omega (arith, le))
all-end p (y ∷ ys) (suc n) le h =
    let (first, rest) = and_parts (p y) (list_all p (take n ys)) h in
    sym (both (p y) (list_all p ys) first (sym (all-end p ys n (omega (arith, le)) rest)))

-- ---- An element that passes

neither : (a b : Bool) → a ≡ false → b ≡ false → (a || b) ≡ false
neither a b p q = ap (λ (x : Bool). x || b) p ∙ q

second-yes : (a b : Bool) → b ≡ true → true ≡ (a || b)
second-yes true b e = refl
second-yes false b e = sym e

first-no : (a b : Bool) → (a || b) ≡ false → a ≡ false
first-no true b e = e
first-no false b e = refl

second-no : (a b : Bool) → (a || b) ≡ false → b ≡ false
second-no true b e = absurd (true≢false e)
second-no false b e = e

any-suc : {X : Type 0} → (p : X → Bool) (xs : List X) (n : ℕ) (x : X) → slice_get xs n ≡ Some x → p x ≡ false
    → list_any p (take n xs) ≡ false → list_any p (take (suc n) xs) ≡ false
any-suc p [] n x s e h = refl
any-suc p (y ∷ ys) zero x s e h =
    let same : y ≡ x = same_Some y x s in
    neither (p y) false (ap p same ∙ e) refl
any-suc p (y ∷ ys) (suc n) x s e h =
    neither (p y) (list_any p (take (suc n) ys)) (first-no (p y) (list_any p (take n ys)) h)
    (any-suc p ys n x s e (second-no (p y) (list_any p (take n ys)) h))

pub any-more : {X : Type 0} → (p : X → Bool) (xs : List X) (n : ℕ) (x : X) → slice_get xs n ≡ Some x → p x ≡ false
    → list_any p (take n xs) ≡ false → list_any p (take (n + 1) xs) ≡ false
any-more p xs n x s e h =
    let next : suc n ≡ n + 1 = omega arith in
    subst (λ (m : ℕ). list_any p (take m xs) ≡ false) next (any-suc p xs n x s e h)

pub any-end : {X : Type 0} → (p : X → Bool) (xs : List X) (n : ℕ) → length xs ≤ n → list_any p (take n xs) ≡ false → false ≡ list_any p xs
any-end p [] n le h = refl
any-end p (y ∷ ys) zero le h = absurd (omega (arith, le))
any-end p (y ∷ ys) (suc n) le h =
    sym (neither (p y) (list_any p ys) (first-no (p y) (list_any p (take n ys)) h)
    (sym (any-end p ys n (omega (arith, le)) (second-no (p y) (list_any p (take n ys)) h))))

pub any-yes : {X : Type 0} → (p : X → Bool) (xs : List X) (n : ℕ) (x : X) → slice_get xs n ≡ Some x → p x ≡ true → true ≡ list_any p xs
any-yes p [] n x s e =
    let lt : n < 0 = slice_get_within [] n x s in
    absurd (omega (arith, lt))
any-yes p (y ∷ ys) zero x s e =
    let same : y ≡ x = same_Some y x s in
    sym (ap (λ (b : Bool). b || list_any p ys) (ap p same ∙ e))
any-yes p (y ∷ ys) (suc n) x s e = second-yes (p y) (list_any p ys) (sym (any-yes p ys n x s e))

-- ---- Lists from a number on

drop-suc : {X : Type 0} → (xs : List X) (n : ℕ) (x : X) → slice_get xs n ≡ Some x → drop n xs ≡ x ∷ drop (suc n) xs
drop-suc [] n x s =
    let lt : n < 0 = slice_get_within [] n x s in
    absurd (omega (arith, lt))
drop-suc {X} (y ∷ ys) zero x s = ap (λ (z : X). z ∷ ys) (same_Some y x s)
drop-suc (y ∷ ys) (suc n) x s = drop-suc ys n x s

pub drop-more : {X : Type 0} → (xs : List X) (n : ℕ) (x : X) → slice_get xs n ≡ Some x → drop n xs ≡ x ∷ drop (n + 1) xs
drop-more xs n x s =
    let next : suc n ≡ n + 1 = omega arith in
    drop-suc xs n x s ∙ ap (λ (m : ℕ). x ∷ drop m xs) next

pub drop-end : {X : Type 0} → (xs : List X) (n : ℕ) → length xs ≤ n → drop n xs ≡ []
drop-end [] zero le = refl
drop-end [] (suc n) le = refl
drop-end (y ∷ ys) zero le = absurd (omega (arith, le))
drop-end (y ∷ ys) (suc n) le = drop-end ys n (omega (arith, le))

pub rest-more : {X : Type 0} → (p : X → Bool) (xs : List X) (n : ℕ) (x : X) (whole : Bool) → slice_get xs n ≡ Some x → p x ≡ true
    → whole ≡ list_all p (drop n xs) → whole ≡ list_all p (drop (n + 1) xs)
rest-more p xs n x whole s e h = h ∙ ap (list_all p) (drop-more xs n x s) ∙ ap (λ (b : Bool). b && list_all p (drop (n + 1) xs)) e

pub rest-not : {X : Type 0} → (p : X → Bool) (xs : List X) (n : ℕ) (x : X) (whole : Bool) → slice_get xs n ≡ Some x → p x ≡ false
    → whole ≡ list_all p (drop n xs) → false ≡ whole
rest-not p xs n x whole s e h = sym (h ∙ ap (list_all p) (drop-more xs n x s) ∙ ap (λ (b : Bool). b && list_all p (drop (n + 1) xs)) e)

pub rest-end : {X : Type 0} → (p : X → Bool) (xs : List X) (n : ℕ) (whole : Bool) → length xs ≤ n → whole ≡ list_all p (drop n xs) → true ≡ whole
rest-end p xs n whole le h = sym (h ∙ ap (list_all p) (drop-end xs n le))

-- ---- Units of cells

unfolded : (known : Known) (unit end cell : ℕ) → cell < end
    → made.units_from known unit (end - cell) cell ≡ (made.has_unit known cell unit && made.units_from known unit (end - (cell + 1)) (cell + 1))
unfolded known unit end cell lt =
    let left : end - cell ≡ suc (end - (cell + 1)) = omega (arith, lt) in
    ap (λ (n : ℕ). made.units_from known unit n cell) left

pub units-more : (known : Known) (unit end cell : ℕ) (whole : Bool) → cell < end → made.has_unit known cell unit ≡ true
    → whole ≡ made.units_from known unit (end - cell) cell → whole ≡ made.units_from known unit (end - (cell + 1)) (cell + 1)
units-more known unit end cell whole lt e h =
    h ∙ unfolded known unit end cell lt ∙ ap (λ (b : Bool). b && made.units_from known unit (end - (cell + 1)) (cell + 1)) e

pub units-not : (known : Known) (unit end cell : ℕ) (whole : Bool) → cell < end → made.has_unit known cell unit ≡ false
    → whole ≡ made.units_from known unit (end - cell) cell → false ≡ whole
units-not known unit end cell whole lt e h =
    sym (h ∙ unfolded known unit end cell lt ∙ ap (λ (b : Bool). b && made.units_from known unit (end - (cell + 1)) (cell + 1)) e)

pub units-end : (known : Known) (unit end cell : ℕ) (whole : Bool) → end ≤ cell
    → whole ≡ made.units_from known unit (end - cell) cell → true ≡ whole
units-end known unit end cell whole le h =
    let none : end - cell ≡ 0 = omega (arith, le) in
    sym (h ∙ ap (λ (n : ℕ). made.units_from known unit n cell) none)

-- ---- Places of nodes

pub onto-more : (g : Flow) (known : Known) (vs : List NodeId) (n : ℕ) (v : NodeId) (ps qs : List Place) (p : Place) (whole : Option (List Place))
    → slice_get vs n ≡ Some v → made.place_of_node g known v.0 ≡ Some p → qs ≡ ps ++ p ∷ []
    → whole ≡ made.places_onto g known ps (drop n vs) → whole ≡ made.places_onto g known qs (drop (n + 1) vs)
onto-more g known vs n v ps qs p whole s e more h =
    h ∙ ap (made.places_onto g known ps) (drop-more vs n v s)
    ∙ ap (made.places_behind (λ place. made.places_onto g known (ps ++ place ∷ []) (drop (n + 1) vs))) e
    ∙ ap (λ (xs : List Place). made.places_onto g known xs (drop (n + 1) vs)) (sym more)

pub onto-not : (g : Flow) (known : Known) (vs : List NodeId) (n : ℕ) (v : NodeId) (ps : List Place) (whole : Option (List Place))
    → slice_get vs n ≡ Some v → made.place_of_node g known v.0 ≡ None
    → whole ≡ made.places_onto g known ps (drop n vs) → None ≡ whole
onto-not g known vs n v ps whole s e h =
    sym (h ∙ ap (made.places_onto g known ps) (drop-more vs n v s)
    ∙ ap (made.places_behind (λ place. made.places_onto g known (ps ++ place ∷ []) (drop (n + 1) vs))) e)

pub onto-end : (g : Flow) (known : Known) (vs : List NodeId) (n : ℕ) (ps : List Place) (whole : Option (List Place)) → length vs ≤ n
    → whole ≡ made.places_onto g known ps (drop n vs) → Some ps ≡ whole
onto-end g known vs n ps whole le h = sym (h ∙ ap (made.places_onto g known ps) (drop-end vs n le))

-- ---- What holds of each element

-- one more element of a list has the property
pub one_passed : {X : Type 0} → (xs : List X) (P : ℕ → X → Type 0) (n : ℕ) (x : X) → slice_get xs n ≡ Some x → P n x
    → ((k : ℕ) (e : X) → k < n → slice_get xs k ≡ Some e → P k e) → (k : ℕ) (e : X) → k < n + 1 → slice_get xs k ≡ Some e → P k e
one_passed xs P n x t p h k e lt s = elim (cases_eq k n) [
  | inl q ↦
      let same : x ≡ e = same_Some x e (sym t ∙ ap (slice_get xs) (sym q) ∙ s) in
      let here : P n e = subst (P n) same p in
      subst (λ (j : ℕ). P j e) (sym q) here
  | inr ne ↦ h k e (omega (arith, lt, ne)) s
]

-- so each has where the number is past the end
pub all_passed : {X : Type 0} → (xs : List X) (P : ℕ → X → Type 0) (n : ℕ) → length xs ≤ n
    → ((k : ℕ) (e : X) → k < n → slice_get xs k ≡ Some e → P k e) → (k : ℕ) (e : X) → slice_get xs k ≡ Some e → P k e
all_passed xs P n le h k e s =
    let lt : k < length xs = slice_get_within xs k e s in
    h k e (omega (arith, lt, le)) s
