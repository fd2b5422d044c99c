-- The numbers of places, and the functions whose code has them, as they are laid out link by link.
use Rattle.std.proofs.Common.{◌≡◌, inl, inr, ℕ, zero, suc, ◌+◌, ◌-◌, ◌<◌, ◌≤◌, List, [], ◌∷◌, ◌++◌, length, refl, sym, ap, ◌∙◌, subst, arith, None, Some, slice_get, take, drop, replicate, length-append, append_assoc}
use Rattle.std.proofs.lemmas.List.{length-replicate, length-take-le, length-drop, take-take, append-nil}
use Rattle.std.proofs.lemmas.Option.{same_Some, none-some}
use Rattle.slot_code.specs.declared.flat.Instruction.{Instruction}
use Rattle.slot_code.specs.Values as c
use Rattle.slot_values.specs.Linked.{links_of}
use Rattle.slot_values.specs.declared.scene.Link.{Link}
use Rattle.cfg_build.specs.declared.placing.Range.{Range}
use Rattle.cfg_build.specs.Ranges.{AreRanges, range_of, entry_or}
use Rattle.cfg_build.specs.Sizes.{nodes_at, nodes_of}
use Rattle.cfg_build.specs.Numbers.{numbers_from, code_between, first_number, numbers_to, owners_to, HasLink}
use Rattle.cfg_build.proofs.Linking.{links-more, none-behind, all-taken}

-- ---- Lists

pub get-left : {X : Type 0} (xs ys : List X) (k : ℕ) (x : X) → slice_get xs k ≡ Some x → slice_get (xs ++ ys) k ≡ Some x
get-left [] ys k x h = absurd (none-some x h)
get-left (z ∷ zs) ys zero x h = h
get-left (z ∷ zs) ys (suc k) x h = get-left zs ys k x h

pub get-right : {X : Type 0} (xs ys : List X) (k j : ℕ) → j ≡ length xs + k → slice_get (xs ++ ys) j ≡ slice_get ys k
get-right [] ys k j q = let s : j ≡ k = omega (arith, q) in ap (slice_get ys) s
get-right (x ∷ xs) ys k zero q = absurd (omega (arith, q))
get-right (x ∷ xs) ys k (suc j) q = get-right xs ys k j (omega (arith, q))

take-nil : {X : Type 0} (xs : List X) (n : ℕ) → xs ≡ [] → take n xs ≡ []
take-nil [] zero e = refl
take-nil [] (suc n) e = refl
take-nil (x ∷ xs) n e = absurd (omega (arith, ap length e))

drop-here : {X : Type 0} (xs : List X) (k : ℕ) (x : X) → slice_get xs k ≡ Some x → drop k xs ≡ x ∷ drop (suc k) xs
drop-here [] k x h = absurd (none-some x h)
drop-here (y ∷ ys) zero x h = ap (λ z. z ∷ ys) (same_Some y x h)
drop-here (y ∷ ys) (suc k) x h = drop-here ys k x h

drop-past : {X : Type 0} (xs : List X) (k : ℕ) → slice_get xs k ≡ None → drop k xs ≡ []
drop-past [] zero h = refl
drop-past [] (suc k) h = refl
drop-past (y ∷ ys) zero h = absurd (none-some y (sym h))
drop-past (y ∷ ys) (suc k) h = drop-past ys k h

get-replicate : {X : Type 0} (n k : ℕ) (x : X) → k < n → slice_get (replicate n x) k ≡ Some x
get-replicate zero k x lt = absurd (omega (arith, lt))
get-replicate (suc n) zero x lt = refl
get-replicate (suc n) (suc k) x lt = get-replicate n k x (omega (arith, lt))

-- ---- Code up to a place

pub between-more : (code : List Instruction) (place end next : ℕ) (x : Instruction) → slice_get code place ≡ Some x → place < end → suc place ≡ next
    → code_between code place end ≡ x ∷ code_between code next end
between-more code place end next x h lt e =
    let n : end - place ≡ suc (end - next) = omega (arith, lt, e) in
    ap (λ k. take k (drop place code)) n ∙ ap (take (suc (end - next))) (drop-here code place x h) ∙ ap (λ k. x ∷ take (end - next) (drop k code)) e

pub between-past : (code : List Instruction) (place end : ℕ) → slice_get code place ≡ None → code_between code place end ≡ []
between-past code place end h = take-nil (drop place code) (end - place) (drop-past code place h)

pub between-end : (code : List Instruction) (place end : ℕ) → end ≤ place → code_between code place end ≡ []
between-end code place end le = let n : end - place ≡ 0 = omega (arith, le) in ap (λ k. take k (drop place code)) n

length-between : (code : List Instruction) (entry end : ℕ) → end ≤ length code → length (code_between code entry end) ≡ end - entry
length-between code entry end le =
    let d : length (drop entry code) ≡ length code - entry = length-drop entry code in
    length-take-le (end - entry) (drop entry code) (omega (arith, d, le))

-- ---- Loops over places

-- one number more
pub number-more : (acc new whole : List ℕ) (n m : ℕ) (x : Instruction) (rest all : List Instruction) → all ≡ x ∷ rest → m ≡ n + nodes_at x → new ≡ acc ++ n ∷ []
    → acc ++ numbers_from n all ≡ whole → new ++ numbers_from m rest ≡ whole
number-more acc new whole n m x rest all e f g h =
    ap (λ ns. ns ++ numbers_from m rest) g ∙ append_assoc acc (n ∷ []) (numbers_from m rest) ∙ ap (λ k. acc ++ n ∷ numbers_from k rest) f
    ∙ sym (ap (λ xs. acc ++ numbers_from n xs) e) ∙ h

-- none are left
pub number-done : (acc whole : List ℕ) (n : ℕ) (all : List Instruction) → all ≡ [] → acc ++ numbers_from n all ≡ whole → acc ≡ whole
number-done acc whole n all e h = sym (append-nil acc) ∙ sym (ap (λ xs. acc ++ numbers_from n xs) e) ∙ h

-- the number behind one place more
pub count-more : (n m whole : ℕ) (x : Instruction) (rest all : List Instruction) → all ≡ x ∷ rest → m ≡ n + nodes_at x → n + nodes_of all ≡ whole → m + nodes_of rest ≡ whole
count-more n m whole x rest all e f h = let s : nodes_of all ≡ nodes_at x + nodes_of rest = ap nodes_of e in omega (arith, s, f, h)

pub count-done : (n whole : ℕ) (all : List Instruction) → all ≡ [] → n + nodes_of all ≡ whole → n ≡ whole
count-done n whole all e h = let s : nodes_of all ≡ 0 = ap nodes_of e in omega (arith, s, h)

-- one owner more
pub owner-more : (acc new whole : List ℕ) (function place end next : ℕ) → place < end → suc place ≡ next → new ≡ acc ++ function ∷ []
    → acc ++ replicate (end - place) function ≡ whole → new ++ replicate (end - next) function ≡ whole
owner-more acc new whole function place end next lt e g h =
    let n : end - place ≡ suc (end - next) = omega (arith, lt, e) in
    ap (λ ns. ns ++ replicate (end - next) function) g ∙ append_assoc acc (function ∷ []) (replicate (end - next) function)
    ∙ sym (ap (λ k. acc ++ replicate k function) n) ∙ h

pub owner-done : (acc whole : List ℕ) (function place end : ℕ) → end ≤ place → acc ++ replicate (end - place) function ≡ whole → acc ≡ whole
owner-done acc whole function place end le h =
    let n : end - place ≡ 0 = omega (arith, le) in
    sym (append-nil acc) ∙ sym (ap (λ k. acc ++ replicate k function) n) ∙ h

-- ---- Loops over links

-- the numbers of one link's places more
pub numbers-linked : (code : List Instruction) (main end : ℕ) (links : List Link) (n m : ℕ) (x : Link) (acc new : List ℕ) (first to : ℕ) → slice_get links n ≡ Some x → suc n ≡ m
    → first ≡ first_number main x.function → to ≡ entry_or end (slice_get links m)
    → acc ≡ numbers_to code main (entry_or end (slice_get links n)) (links_of (take n links))
    → new ≡ acc ++ numbers_from first (code_between code x.entry to)
    → new ≡ numbers_to code main (entry_or end (slice_get links m)) (links_of (take m links))
numbers-linked code main end links n m x acc new first to h e f g k l =
    l ∙ ap (λ z. acc ++ numbers_from z (code_between code x.entry to)) f
    ∙ ap (λ z. acc ++ numbers_from (first_number main x.function) (code_between code x.entry z)) g
    ∙ ap (λ z. z ++ numbers_from (first_number main x.function) (code_between code x.entry (entry_or end (slice_get links m)))) (k ∙ ap (λ z. numbers_to code main (entry_or end z) (links_of (take n links))) h)
    ∙ ap (numbers_to code main (entry_or end (slice_get links m))) (sym (links-more [] links n x h) ∙ ap (λ z. links_of (take z links)) e)

pub owners-linked : (end : ℕ) (links : List Link) (n m : ℕ) (x : Link) (acc new : List ℕ) (to : ℕ) → slice_get links n ≡ Some x → suc n ≡ m
    → to ≡ entry_or end (slice_get links m)
    → acc ≡ owners_to (entry_or end (slice_get links n)) (links_of (take n links))
    → new ≡ acc ++ replicate (to - x.entry) x.function
    → new ≡ owners_to (entry_or end (slice_get links m)) (links_of (take m links))
owners-linked end links n m x acc new to h e g k l =
    l ∙ ap (λ z. acc ++ replicate (z - x.entry) x.function) g
    ∙ ap (λ z. z ++ replicate (entry_or end (slice_get links m) - x.entry) x.function) (k ∙ ap (λ z. owners_to (entry_or end z) (links_of (take n links))) h)
    ∙ ap (owners_to (entry_or end (slice_get links m))) (sym (links-more [] links n x h) ∙ ap (λ z. links_of (take z links)) e)

-- all links
pub numbers-whole : (code : List Instruction) (main end : ℕ) (links : List Link) (n : ℕ) (acc : List ℕ) → length links ≤ n
    → acc ≡ numbers_to code main (entry_or end (slice_get links n)) (links_of (take n links)) → acc ≡ numbers_to code main end (links_of links)
numbers-whole code main end links n acc le h =
    h ∙ ap (λ o. numbers_to code main (entry_or end o) (links_of (take n links))) (none-behind links n le) ∙ ap (λ xs. numbers_to code main end (links_of xs)) (all-taken links n le)

pub owners-whole : (end : ℕ) (links : List Link) (n : ℕ) (acc : List ℕ) → length links ≤ n → acc ≡ owners_to (entry_or end (slice_get links n)) (links_of (take n links)) → acc ≡ owners_to end (links_of links)
owners-whole end links n acc le h =
    h ∙ ap (λ o. owners_to (entry_or end o) (links_of (take n links))) (none-behind links n le) ∙ ap (λ xs. owners_to end (links_of xs)) (all-taken links n le)

-- ---- What stands at each place

numbers-at : (n : ℕ) (xs : List Instruction) (k : ℕ) → k < length xs → slice_get (numbers_from n xs) k ≡ Some (n + nodes_of (take k xs))
numbers-at n [] k lt = absurd (omega (arith, lt))
numbers-at n (x ∷ xs) zero lt = let e : n ≡ n + 0 = omega arith in ap Some e
numbers-at n (x ∷ xs) (suc k) lt =
    let e : (n + nodes_at x) + nodes_of (take k xs) ≡ n + (nodes_at x + nodes_of (take k xs)) = omega arith in
    numbers-at (n + nodes_at x) xs k (omega (arith, lt)) ∙ ap Some e

length-numbers_from : (n : ℕ) (xs : List Instruction) → length (numbers_from n xs) ≡ length xs
length-numbers_from n [] = refl
length-numbers_from n (x ∷ xs) = ap suc (length-numbers_from (n + nodes_at x) xs)

length-numbers : (code : List Instruction) (main end bound : ℕ) (ls : List c.Link) (ranges : List Range) → AreRanges end bound ls ranges → end ≤ length code → length (numbers_to code main end ls) ≡ end
length-numbers code main end bound [] ranges h le = length-replicate end 0
length-numbers code main end bound (l ∷ ls) ranges h le =
    let some : l.entry < end = h.0.some in
    let before : length (numbers_to code main l.entry ls) ≡ l.entry = length-numbers code main l.entry l.slot ls ranges h.1 (omega (arith, some, le)) in
    let own : length (numbers_from (first_number main l.function) (code_between code l.entry end)) ≡ end - l.entry = length-numbers_from (first_number main l.function) (code_between code l.entry end) ∙ length-between code l.entry end le in
    let all = length-append (numbers_to code main l.entry ls) (numbers_from (first_number main l.function) (code_between code l.entry end)) in
    omega (arith, some, before, own, all)

length-owners : (end bound : ℕ) (ls : List c.Link) (ranges : List Range) → AreRanges end bound ls ranges → length (owners_to end ls) ≡ end
length-owners end bound [] ranges h = length-replicate end 0
length-owners end bound (l ∷ ls) ranges h =
    let some : l.entry < end = h.0.some in
    let before : length (owners_to l.entry ls) ≡ l.entry = length-owners l.entry l.slot ls ranges h.1 in
    let own : length (replicate (end - l.entry) l.function) ≡ end - l.entry = length-replicate (end - l.entry) l.function in
    let all = length-append (owners_to l.entry ls) (replicate (end - l.entry) l.function) in
    omega (arith, some, before, own, all)

-- the range of a function is that of its link
range-is : (ranges : List Range) (l : c.Link) (end bound f : ℕ) (r : Range) → slice_get ranges l.function ≡ Some (range_of l end bound) → l.function ≡ f → slice_get ranges f ≡ Some r → range_of l end bound ≡ r
range-is ranges l end bound f r h e k = same_Some (range_of l end bound) r (sym h ∙ ap (slice_get ranges) e ∙ k)

-- where the code of a function stands
pub record StandsWithin (end f : ℕ) (r : Range) : Type 0 where
  pub some : r.entry < r.end
  pub within : r.end ≤ end
  pub own : r.function ≡ f

pub stands-within : (end bound : ℕ) (ls : List c.Link) (ranges : List Range) (f : ℕ) (r : Range) → AreRanges end bound ls ranges → HasLink ls f → slice_get ranges f ≡ Some r → StandsWithin end f r
stands-within end bound [] ranges f r h k e = absurd k
stands-within end bound (l ∷ ls) ranges f r h (inl k) e =
    subst (λ (z : Range). StandsWithin end f z) (range-is ranges l end bound f r h.0.there k e) (record { some = h.0.some; within = omega arith; own = k })
stands-within end bound (l ∷ ls) ranges f r h (inr k) e =
    let w = stands-within l.entry l.slot ls ranges f r h.1 k e in
    let some : l.entry < end = h.0.some in
    record { some = w.some; within = omega (arith, w.within, some); own = w.own }

abbrev number_in : List Instruction → (main : ℕ) → Range → ℕ → ℕ
number_in code main r k = first_number main r.function + nodes_of (take k (drop r.entry code))

pub numbers-there : (code : List Instruction) (main end bound : ℕ) (ls : List c.Link) (ranges : List Range) (f : ℕ) (r : Range) (k : ℕ) → AreRanges end bound ls ranges → end ≤ length code → HasLink ls f
    → slice_get ranges f ≡ Some r → k < r.end - r.entry → slice_get (numbers_to code main end ls) (r.entry + k) ≡ Some (first_number main r.function + nodes_of (take k (drop r.entry code)))
numbers-there code main end bound [] ranges f r k h le has e lt = absurd has
numbers-there code main end bound (l ∷ ls) ranges f r k h le (inl q) e lt =
    let is = range-is ranges l end bound f r h.0.there q e in
    let some : l.entry < end = h.0.some in
    let below : k < end - l.entry = subst (λ (z : Range). k < z.end - z.entry) (sym is) lt in
    let before : length (numbers_to code main l.entry ls) ≡ l.entry = length-numbers code main l.entry l.slot ls ranges h.1 (omega (arith, some, le)) in
    let n = first_number main l.function in
    let own = code_between code l.entry end in
    let long : length own ≡ end - l.entry = length-between code l.entry end le in
    subst (λ (z : Range). slice_get (numbers_to code main end (l ∷ ls)) (z.entry + k) ≡ Some (number_in code main z k)) is
    (get-right (numbers_to code main l.entry ls) (numbers_from n own) k (l.entry + k) (omega (arith, before))
    ∙ numbers-at n own k (omega (arith, below, long))
    ∙ ap (λ ys. Some (n + nodes_of ys)) (take-take k (end - l.entry) (drop l.entry code) (omega (arith, below))))
numbers-there code main end bound (l ∷ ls) ranges f r k h le (inr q) e lt =
    let some : l.entry < end = h.0.some in
    get-left (numbers_to code main l.entry ls) _ (r.entry + k) _ (numbers-there code main l.entry l.slot ls ranges f r k h.1 (omega (arith, some, le)) q e lt)

pub owners-there : (end bound : ℕ) (ls : List c.Link) (ranges : List Range) (f : ℕ) (r : Range) → AreRanges end bound ls ranges → HasLink ls f → slice_get ranges f ≡ Some r → slice_get (owners_to end ls) r.entry ≡ Some f
owners-there end bound [] ranges f r h has e = absurd has
owners-there end bound (l ∷ ls) ranges f r h (inl q) e =
    let is = range-is ranges l end bound f r h.0.there q e in
    let some : l.entry < end = h.0.some in
    let before : length (owners_to l.entry ls) ≡ l.entry = length-owners l.entry l.slot ls ranges h.1 in
    subst (λ (z : Range). slice_get (owners_to end (l ∷ ls)) z.entry ≡ Some f) is
    (get-right (owners_to l.entry ls) (replicate (end - l.entry) l.function) 0 l.entry (omega (arith, before))
    ∙ get-replicate (end - l.entry) 0 l.function (omega (arith, some)) ∙ ap Some q)
owners-there end bound (l ∷ ls) ranges f r h (inr q) e =
    get-left (owners_to l.entry ls) _ r.entry f (owners-there l.entry l.slot ls ranges f r h.1 q e)
