-- Each function of an order has one link, and so one range, by its number.
use Rattle.std.proofs.Common.{◌≡◌, ◌⊎◌, inl, inr, ℕ, zero, suc, ◌+◌, ◌<◌, ◌≤◌, Bool, true, false, List, [], ◌∷◌, length, map, Option, Some, None, slice_get, refl, sym, ap, ◌∙◌, subst, arith, eq-eqb, ne_eqb, eqb-true}
use Rattle.std.specs.Prelude.{nat_eq, nat_lt, slice_set}
use Rattle.std.specs.List.{list_all}
use Rattle.std.proofs.lemmas.Bool.{and_parts, ltb-true, cases_lt}
use Rattle.std.proofs.lemmas.List.{length-set}
use Rattle.std.proofs.lemmas.Option.{same_Some, slice_get_within}
use Rattle.c_typed.specs.Tree.{Function, Program}
use Rattle.c_typed.specs.Rules.{calls_of_functions}
use Rattle.call_order.specs.Order.{IsOrder, callees, bit, times}
use Rattle.slot_code.specs.declared.flat.Instruction.{Instruction}
use Rattle.slot_code.specs.Slots.{slots_in}
use Rattle.slot_code.specs.Values.{Link}
use Rattle.slot_code.specs.Programs.{Code, with_function, code_behind, code_of}
use Rattle.cfg_build.specs.Ranges.{range_of, AreRanges}
use Rattle.code_fit_laws.specs.Ranges.{Range, IsRangeIn, no_ranges, with_ranges}
use Rattle.cfg_build.specs.Numbers.{HasLink, AllLinked}
use Rattle.code_fit_laws.proofs.Standing.{AllStand}

-- ---- Numbers of functions

-- the functions of links
abbrev pub numbers_in : List Link → List ℕ
numbers_in [] = []
numbers_in (l ∷ ls) = l.function ∷ numbers_in ls

same_bit : (n : ℕ) → bit (nat_eq n n) ≡ 1
same_bit n = ap bit (eq-eqb n n refl)

-- a number that is none of these
none_of : (n f : ℕ) (ns : List ℕ) → list_all (λ g. nat_lt g n) ns ≡ true → n ≤ f → times f ns ≡ 0
none_of n f [] h le = refl
none_of n f (g ∷ ns) h le =
    let parts = and_parts (nat_lt g n) (list_all (λ g. nat_lt g n) ns) h in
    let lt : g < n = ltb-true g n parts.0 in
    let off : bit (nat_eq f g) ≡ 0 = ap bit (ne_eqb f g (λ e. omega (arith, e, lt, le))) in
    let rest = none_of n f ns parts.1 le in
    omega (arith, off, rest)

missing : (fs : List Function) (n : ℕ) → n < length fs → slice_get fs n ≡ None → ⊥
missing [] n lt e = omega (arith, lt)
missing (x ∷ xs) zero lt e = cc
missing (x ∷ xs) (suc n) lt e = missing xs n (omega (arith, lt)) e

module _ (program : Program) where
  abbrev known : ℕ → Bool
  known n = nat_lt n (length program.functions)

  -- how often each stands among the functions that were added
  counted_by : (c : Code) (number f : ℕ) (o : Option Function) → slice_get program.functions number ≡ o → number < length program.functions
      → times f (numbers_in (with_function program c number o).links) ≡ bit (nat_eq f number) + times f (numbers_in c.links)
  counted_by c number f None e lt = absurd (missing program.functions number lt e)
  counted_by c number f (Some told) e lt = refl

  counted : (ns : List ℕ) (c : Code) (f : ℕ) → list_all known ns ≡ true
      → times f (numbers_in (code_behind program c ns).links) ≡ times f ns + times f (numbers_in c.links)
  counted [] c f h = omega arith
  counted (n ∷ ns) c f h =
      let parts = and_parts (known n) (list_all known ns) h in
      let o : Option Function = slice_get program.functions n in
      let one = counted_by c n f o refl (ltb-true n (length program.functions) parts.0) in
      let rest = counted ns (with_function program c n o) f parts.1 in
      omega (arith, one, rest)

  -- the functions that were added are there
  abbrev AreThere : List Link → Type 0
  AreThere [] = Unit {0}
  AreThere (l ∷ ls) = (l.function < length program.functions) × AreThere ls

  there_by : (c : Code) (number : ℕ) (o : Option Function) → slice_get program.functions number ≡ o → AreThere c.links
      → AreThere (with_function program c number o).links
  there_by c number None e h = h
  there_by c number (Some f) e h = (slice_get_within program.functions number f e, h)

  all_there : (ns : List ℕ) (c : Code) → AreThere c.links → AreThere (code_behind program c ns).links
  all_there [] c h = h
  all_there (n ∷ ns) c h = all_there ns (with_function program c n (slice_get program.functions n)) (there_by c n (slice_get program.functions n) refl h)

-- ---- Ranges by their numbers

set_same : {A : Type 0} (xs : List A) (n : ℕ) (x : A) → n < length xs → slice_get (slice_set xs n x) n ≡ Some x
set_same [] n x lt = absurd (omega (arith, lt))
set_same (y ∷ ys) zero x lt = refl
set_same (y ∷ ys) (suc n) x lt = set_same ys n x (omega (arith, lt))

set_other : {A : Type 0} (xs : List A) (n k : ℕ) (x : A) → (k ≡ n → ⊥) → slice_get (slice_set xs n x) k ≡ slice_get xs k
set_other [] n k x h = refl
set_other (y ∷ ys) zero zero x h = absurd (h refl)
set_other (y ∷ ys) zero (suc k) x h = refl
set_other (y ∷ ys) (suc n) zero x h = refl
set_other (y ∷ ys) (suc n) (suc k) x h = set_other ys n k x (λ e. h (ap suc e))

-- the ranges of links stay where that of another function is set
ranges_set : (end bound : ℕ) (ls : List Link) (ranges : List Range) (n : ℕ) (r : Range) → times n (numbers_in ls) ≡ 0 → AreRanges end bound ls ranges
    → AreRanges end bound ls (slice_set ranges n r)
ranges_set end bound [] ranges n r none h = tt
ranges_set end bound (l ∷ ls) ranges n r none h =
    let off : l.function ≡ n → ⊥ = λ e. let one : bit (nat_eq n l.function) ≡ 1 = ap bit (eq-eqb n l.function (sym e)) in omega (arith, one, none) in
    (record { there = set_other ranges n l.function r off ∙ h.0.there; some = h.0.some }, ranges_set l.entry l.slot ls ranges n r (omega (arith, none)) h.1)

with_length : (ranges : List Range) (end bound : ℕ) (ls : List Link) → length (with_ranges ranges end bound ls) ≡ length ranges
with_length ranges end bound [] = refl
with_length ranges end bound (l ∷ ls) = length-set (with_ranges ranges l.entry l.slot ls) l.function (range_of l end bound) ∙ with_length ranges l.entry l.slot ls

are_with : (program : Program) (code : List Instruction) (ranges : List Range) (end bound : ℕ) (ls : List Link) → length ranges ≡ length program.functions
    → AllStand code end bound ls → AreThere program ls
    → ((f : ℕ) → times f (numbers_in ls) ≤ 1) → AreRanges end bound ls (with_ranges ranges end bound ls)
are_with program code ranges end bound [] len s t h = tt
are_with program code ranges end bound (l ∷ ls) len s t h =
    let before : List Range = with_ranges ranges l.entry l.slot ls in
    let same = same_bit l.function in
    let once = h l.function in
    let long = with_length ranges l.entry l.slot ls in (
      record { there = set_same before l.function (range_of l end bound) (omega (arith, long, len, t.0)); some = s.0.some },
      ranges_set l.entry l.slot ls before l.function (range_of l end bound) (omega (arith, same, once))
          (are_with program code ranges l.entry l.slot ls len s.1 t.1 (λ f. let z = h f in omega (arith, z))),
    )

-- the range of a function that has a link is that of the link
range_for : (end bound : ℕ) (ls : List Link) (ranges : List Range) (k : ℕ) (r : Range) → AreRanges end bound ls ranges → 0 < times k (numbers_in ls)
    → slice_get ranges k ≡ Some r → IsRangeIn end bound ls r
range_for end bound [] ranges k r a lt e = absurd (omega (arith, lt))
range_for end bound (l ∷ ls) ranges k r a lt e = by (λ m. range_for l.entry l.slot ls ranges k r a.1 m e) (nat_eq k l.function) refl
  where
    by : (0 < times k (numbers_in ls) → IsRangeIn l.entry l.slot ls r) → (b : Bool) → nat_eq k l.function ≡ b → IsRangeIn end bound (l ∷ ls) r
    by later true q = inl (same_Some r (range_of l end bound) (sym e ∙ ap (λ n. slice_get ranges n) (eqb-true k l.function q) ∙ a.0.there))
    by later false q = let none : bit (nat_eq k l.function) ≡ 0 = ap bit q in inr (later (omega (arith, lt, none)))

-- a function that is counted among links has one
has_link : (ls : List Link) (k : ℕ) → 0 < times k (numbers_in ls) → HasLink ls k
has_link [] k lt = omega (arith, lt)
has_link (l ∷ ls) k lt = by (λ m. has_link ls k m) (nat_eq k l.function) refl
  where
    by : (0 < times k (numbers_in ls) → HasLink ls k) → (b : Bool) → nat_eq k l.function ≡ b → HasLink (l ∷ ls) k
    by later true q = inl (sym (eqb-true k l.function q))
    by later false q = let none : bit (nat_eq k l.function) ≡ 0 = ap bit q in inr (later (omega (arith, lt, none)))

none_length : (number n : ℕ) → length (no_ranges number n) ≡ n
none_length number zero = refl
none_length number (suc n) = ap suc (none_length (suc number) n)

-- ---- Orders

calls_length : (fs : List Function) → length (map (λ cs. map (λ c. c.to) cs) (calls_of_functions fs)) ≡ length fs
calls_length [] = refl
calls_length (f ∷ fs) = ap suc (calls_length fs)

module _ (program : Program) (order : List ℕ) (ordered : IsOrder (callees program) order) where
  abbrev c : Code
  c = code_of program order

  abbrev ranges : List Range
  ranges = with_ranges (no_ranges 0 (length program.functions)) (length c.instructions) (slots_in c.instructions) c.links

  as_many : length (callees program) ≡ length program.functions
  as_many = calls_length program.functions

  all_known : list_all (λ n. nat_lt n (length program.functions)) order ≡ true
  all_known = subst (λ m. list_all (λ n. nat_lt n m) order ≡ true) as_many ordered.below

  links_count : (f : ℕ) → times f (numbers_in c.links) ≡ times f order
  links_count f = let h = counted program order (record { instructions = []; links = [] }) f all_known in omega (arith, h)

  -- no function stands twice
  links_once : (f : ℕ) → times f (numbers_in c.links) ≤ 1
  links_once f = by (cases_lt f (length program.functions))
    where
      by : (f < length program.functions) ⊎ (length program.functions ≤ f) → times f (numbers_in c.links) ≤ 1
      by (inl lt) = let one = ordered.once f (omega (arith, lt, as_many)) in omega (arith, one, links_count f)
      by (inr le) = let none = none_of (length program.functions) f order all_known le in omega (arith, none, links_count f)

  pub ranges_length : length ranges ≡ length program.functions
  ranges_length = with_length (no_ranges 0 (length program.functions)) (length c.instructions) (slots_in c.instructions) c.links ∙ none_length 0 (length program.functions)

  pub ranges_there : AllStand c.instructions (length c.instructions) (slots_in c.instructions) c.links
      → AreRanges (length c.instructions) (slots_in c.instructions) c.links ranges
  ranges_there s =
      are_with program c.instructions (no_ranges 0 (length program.functions)) (length c.instructions) (slots_in c.instructions) c.links (none_length 0 (length program.functions)) s
      (all_there program order (record { instructions = []; links = [] }) tt) links_once

  pub ranges_of_links : AllStand c.instructions (length c.instructions) (slots_in c.instructions) c.links → (k : ℕ) (r : Range) → slice_get ranges k ≡ Some r
      → IsRangeIn (length c.instructions) (slots_in c.instructions) c.links r
  ranges_of_links s k r e =
      let lt : k < length ranges = slice_get_within ranges k r e in
      let one = ordered.once k (omega (arith, lt, as_many, ranges_length)) in
      range_for (length c.instructions) (slots_in c.instructions) c.links ranges k r (ranges_there s) (omega (arith, one, links_count k)) e

  pub all_linked : AllLinked c.links (length program.functions)
  all_linked k lt = let one = ordered.once k (omega (arith, lt, as_many)) in has_link c.links k (omega (arith, one, links_count k))
