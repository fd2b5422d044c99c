-- Ranges that are those of links.
use Rattle.std.proofs.Common.{◌≡◌, ◌≢◌, inl, inr, ℕ, zero, suc, ◌<◌, List, [], ◌∷◌, length, None, Some, refl, sym, ap, ◌∙◌, subst, arith, ◌≤◌}
use Rattle.std.specs.Prelude.{take, slice_get, slice_set}
use Rattle.std.proofs.lemmas.Bool.{cases_eq}
use Rattle.std.proofs.lemmas.Option.{same_Some, none-some, slice_get_within}
use Rattle.slot_code.specs.Values as c
use Rattle.slot_values.specs.Linked.{link_of, links_behind, links_of}
use Rattle.slot_values.specs.declared.scene.Link.{Link}
use Rattle.cfg_build.specs.declared.placing.Range.{Range}
use Rattle.cfg_build.specs.Ranges.{AreRanges, IsRange, range_of, entry_or, slot_or}
use Rattle.cfg_build.specs.Numbers.{HasLink, AllLinked}

pub links-more : (ls : List c.Link) (xs : List Link) (n : ℕ) (x : Link) → slice_get xs n ≡ Some x → links_behind ls (take (suc n) xs) ≡ link_of x ∷ links_behind ls (take n xs)
links-more ls [] n x e = absurd cc
links-more ls (y ∷ ys) zero x e = let f : y ≡ x = cc in ap (λ z. link_of z ∷ ls) f
links-more ls (y ∷ ys) (suc n) x e = links-more (link_of y ∷ ls) ys n x e

-- the range of one link more
pub ranges-more : (end bound : ℕ) (links : List Link) (n m : ℕ) (x : Link) (ranges : List Range) → slice_get links n ≡ Some x → suc n ≡ m
    → IsRange (link_of x) (entry_or end (slice_get links m)) (slot_or bound (slice_get links m)) ranges
    → AreRanges (entry_or end (slice_get links n)) (slot_or bound (slice_get links n)) (links_of (take n links)) ranges
    → AreRanges (entry_or end (slice_get links m)) (slot_or bound (slice_get links m)) (links_of (take m links)) ranges
ranges-more end bound links n m x ranges e f h k =
    let to : ℕ = entry_or end (slice_get links m) in
    let up : ℕ = slot_or bound (slice_get links m) in
    let before : AreRanges x.entry x.slot (links_of (take n links)) ranges = subst (λ o. AreRanges (entry_or end o) (slot_or bound o) (links_of (take n links)) ranges) e k in
    let both : AreRanges to up (link_of x ∷ links_of (take n links)) ranges = (h, before) in
    subst (λ j. AreRanges to up (links_of (take j links)) ranges) f
    (subst (λ ls. AreRanges to up ls ranges) (sym (links-more [] links n x e)) both)

pub none-behind : (xs : List Link) (n : ℕ) → length xs ≤ n → slice_get xs n ≡ None
none-behind [] n h = refl
none-behind (x ∷ xs) zero h = absurd (omega (arith, h))
none-behind (x ∷ xs) (suc n) h = none-behind xs n (omega (arith, h))

pub all-taken : (xs : List Link) (n : ℕ) → length xs ≤ n → take n xs ≡ xs
all-taken [] zero h = refl
all-taken [] (suc n) h = refl
all-taken (x ∷ xs) zero h = absurd (omega (arith, h))
all-taken (x ∷ xs) (suc n) h = ap (λ ys. x ∷ ys) (all-taken xs n (omega (arith, h)))

-- the ranges of all links
pub ranges-whole : (end bound : ℕ) (links : List Link) (n : ℕ) (ranges : List Range) → length links ≤ n
    → AreRanges (entry_or end (slice_get links n)) (slot_or bound (slice_get links n)) (links_of (take n links)) ranges → AreRanges end bound (links_of links) ranges
ranges-whole end bound links n ranges h k =
    let there : AreRanges end bound (links_of (take n links)) ranges = subst (λ o. AreRanges (entry_or end o) (slot_or bound o) (links_of (take n links)) ranges) (none-behind links n h) k in
    subst (λ xs. AreRanges end bound (links_of xs) ranges) (all-taken links n h) there

-- ---- From the ranges of all links to that of each

-- those of the links before these
ranges-before : (end bound : ℕ) (xs : List Link) (ls : List c.Link) (ranges : List Range) → AreRanges end bound (links_behind ls xs) ranges
    → AreRanges (entry_or end (slice_get xs 0)) (slot_or bound (slice_get xs 0)) ls ranges
ranges-before end bound [] ls ranges h = h
ranges-before end bound (y ∷ ys) ls ranges h = (ranges-before end bound ys (link_of y ∷ ls) ranges h).1

-- that of a link
range-behind : (end bound : ℕ) (xs : List Link) (ls : List c.Link) (ranges : List Range) (n m : ℕ) (x : Link) → AreRanges end bound (links_behind ls xs) ranges → slice_get xs n ≡ Some x → m ≡ suc n
    → IsRange (link_of x) (entry_or end (slice_get xs m)) (slot_or bound (slice_get xs m)) ranges
range-behind end bound [] ls ranges n m x h e f = absurd (none-some x e)
range-behind end bound (y ∷ ys) ls ranges n zero x h e f = absurd (omega (arith, f))
range-behind end bound (y ∷ ys) ls ranges zero (suc m) x h e f =
    let z : m ≡ 0 = omega (arith, f) in
    subst (λ (w : Link). IsRange (link_of w) (entry_or end (slice_get ys m)) (slot_or bound (slice_get ys m)) ranges) (same_Some y x e)
    (subst (λ j. IsRange (link_of y) (entry_or end (slice_get ys j)) (slot_or bound (slice_get ys j)) ranges) (sym z) (ranges-before end bound ys (link_of y ∷ ls) ranges h).0)
range-behind end bound (y ∷ ys) ls ranges (suc n) (suc m) x h e f = range-behind end bound ys (link_of y ∷ ls) ranges n m x h e (omega (arith, f))

pub range-there : (end bound : ℕ) (xs : List Link) (ranges : List Range) (n m : ℕ) (x : Link) → AreRanges end bound (links_of xs) ranges → slice_get xs n ≡ Some x → m ≡ suc n
    → IsRange (link_of x) (entry_or end (slice_get xs m)) (slot_or bound (slice_get xs m)) ranges
range-there end bound xs ranges n m x h e f = range-behind end bound xs [] ranges n m x h e f

-- the code of each link begins below the end
stand-below : (end bound : ℕ) (xs : List Link) (ls : List c.Link) (ranges : List Range) (n : ℕ) (x : Link) → AreRanges end bound (links_behind ls xs) ranges → slice_get xs n ≡ Some x
    → (x.entry < end) × (entry_or end (slice_get xs 0) ≤ end)
stand-below end bound [] ls ranges n x h e = absurd (none-some x e)
stand-below end bound (y ∷ []) ls ranges zero x h e =
    let some : y.entry < end = h.0.some in
    let is : y.entry ≡ x.entry = ap (λ (z : Link). z.entry) (same_Some y x e) in
    (omega (arith, some, is), omega (arith, some))
stand-below end bound (y ∷ []) ls ranges (suc n) x h e = absurd (none-some x e)
stand-below end bound (y ∷ z ∷ zs) ls ranges zero x h e =
    let rest = stand-below end bound (z ∷ zs) (link_of y ∷ ls) ranges 0 z h refl in
    let some : y.entry < z.entry = (ranges-before end bound (z ∷ zs) (link_of y ∷ ls) ranges h).0.some in
    let is : y.entry ≡ x.entry = ap (λ (w : Link). w.entry) (same_Some y x e) in
    (omega (arith, some, is, rest.1), omega (arith, some, rest.1))
stand-below end bound (y ∷ z ∷ zs) ls ranges (suc n) x h e =
    let rest = stand-below end bound (z ∷ zs) (link_of y ∷ ls) ranges n x h e in
    let some : y.entry < z.entry = (ranges-before end bound (z ∷ zs) (link_of y ∷ ls) ranges h).0.some in
    (rest.0, omega (arith, some, rest.1))

pub entry-below : (end bound : ℕ) (xs : List Link) (ranges : List Range) (n : ℕ) (x : Link) → AreRanges end bound (links_of xs) ranges → slice_get xs n ≡ Some x → x.entry < end
entry-below end bound xs ranges n x h e = (stand-below end bound xs [] ranges n x h e).0

-- ---- Ranges that are laid out link by link

-- it holds of each of these links
abbrev pub EachLink : (c.Link → Type 0) → List c.Link → Type 0
EachLink P [] = Unit {0}
EachLink P (l ∷ ls) = P l × EachLink P ls

each-by : (P Q : c.Link → Type 0) (ls : List c.Link) → ((l : c.Link) → P l → Q l) → EachLink P ls → EachLink Q ls
each-by P Q [] f h = tt
each-by P Q (l ∷ ls) f h = (f l h.0, each-by P Q ls f h.1)

-- these ranges have at the link's function what those have
abbrev pub Alike : List Range → List Range → c.Link → Type 0
Alike ranges all l = slice_get ranges l.function ≡ slice_get all l.function

pub get-set : {X : Type 0} (xs : List X) (k : ℕ) (x : X) → k < length xs → slice_get (slice_set xs k x) k ≡ Some x
get-set [] k x lt = absurd (omega (arith, lt))
get-set (y ∷ ys) zero x lt = refl
get-set (y ∷ ys) (suc k) x lt = get-set ys k x (omega (arith, lt))

pub get-other : {X : Type 0} (xs : List X) (k j : ℕ) (x : X) → (k ≢ j) → slice_get (slice_set xs k x) j ≡ slice_get xs j
get-other [] k j x ne = refl
get-other (y ∷ ys) zero zero x ne = absurd (ne refl)
get-other (y ∷ ys) zero (suc j) x ne = refl
get-other (y ∷ ys) (suc k) zero x ne = refl
get-other (y ∷ ys) (suc k) (suc j) x ne = get-other ys k j x (λ e. ne (ap suc e))

alike-set : (ranges all : List Range) (k : ℕ) (r : Range) (l : c.Link) → k < length ranges → slice_get all k ≡ Some r → Alike ranges all l → Alike (slice_set ranges k r) all l
alike-set ranges all k r l lt e h = elim (cases_eq k l.function) [
  | inl is ↦ sym (ap (slice_get (slice_set ranges k r)) is) ∙ get-set ranges k r lt ∙ sym e ∙ ap (slice_get all) is
  | inr ne ↦ get-other ranges k l.function r ne ∙ h
]

-- one link more
pub alike-more : (all old new : List Range) (xs : List Link) (n m end bound : ℕ) (x : Link) → slice_get xs n ≡ Some x → suc n ≡ m → length old ≡ length all
    → IsRange (link_of x) end bound all → new ≡ slice_set old x.function (range_of (link_of x) end bound)
    → EachLink (Alike old all) (links_of (take n xs)) → EachLink (Alike new all) (links_of (take m xs))
alike-more all old new xs n m end bound x e f g r s h =
    let k : ℕ = x.function in
    let lt : k < length old = omega (arith, g, slice_get_within all k _ r.there) in
    let own : Alike (slice_set old k (range_of (link_of x) end bound)) all (link_of x) = get-set old k _ lt ∙ sym r.there in
    let rest = each-by (Alike old all) (Alike (slice_set old k (range_of (link_of x) end bound)) all) (links_of (take n xs)) (λ l a. alike-set old all k _ l lt r.there a) h in
    subst (λ (j : ℕ). EachLink (Alike new all) (links_of (take j xs))) f
    (subst (λ (rs : List Range). EachLink (Alike rs all) (links_of (take (suc n) xs))) (sym s)
    (subst (λ (ls : List c.Link). EachLink (Alike (slice_set old k (range_of (link_of x) end bound)) all) ls) (sym (links-more [] xs n x e)) (own, rest)))

alike-at : (ranges all : List Range) (ls : List c.Link) (f : ℕ) → EachLink (Alike ranges all) ls → HasLink ls f → slice_get ranges f ≡ slice_get all f
alike-at ranges all [] f h has = absurd has
alike-at ranges all (l ∷ ls) f h (inl e) = sym (ap (slice_get ranges) e) ∙ h.0 ∙ ap (slice_get all) e
alike-at ranges all (l ∷ ls) f h (inr k) = alike-at ranges all ls f h.1 k

same-lists : {X : Type 0} (xs ys : List X) → length xs ≡ length ys → ((k : ℕ) → k < length ys → slice_get xs k ≡ slice_get ys k) → xs ≡ ys
same-lists [] [] e h = refl
same-lists [] (y ∷ ys) e h = absurd (omega (arith, e))
same-lists (x ∷ xs) [] e h = absurd (omega (arith, e))
same-lists (x ∷ xs) (y ∷ ys) e h =
    let head : x ≡ y = same_Some x y (h 0 (omega arith)) in
    let tail : xs ≡ ys = same-lists xs ys (omega (arith, e)) (λ k lt. h (suc k) (omega (arith, lt))) in
    ap (λ z. z ∷ xs) head ∙ ap (λ zs. y ∷ zs) tail

-- where each function has a link, ranges that are alike at all links are the same
pub ranges-same : (ranges all : List Range) (xs : List Link) (n : ℕ) → length xs ≤ n → length ranges ≡ length all → AllLinked (links_of xs) (length all)
    → EachLink (Alike ranges all) (links_of (take n xs)) → ranges ≡ all
ranges-same ranges all xs n le e has h =
    let each : EachLink (Alike ranges all) (links_of xs) = subst (λ ys. EachLink (Alike ranges all) (links_of ys)) (all-taken xs n le) h in
    same-lists ranges all e (λ k lt. alike-at ranges all (links_of xs) k each (has k lt))

pub never-none : {X : Type 0} (xs : List X) (n : ℕ) → n < length xs → None ≡ slice_get xs n → ⊥
never-none [] n lt e = omega (arith, lt)
never-none (x ∷ xs) zero lt e = none-some x e
never-none (x ∷ xs) (suc n) lt e = never-none xs n (omega (arith, lt)) e
