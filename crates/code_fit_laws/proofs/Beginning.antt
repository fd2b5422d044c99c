-- Each call is of a function whose code and slots lie below those of its caller, and which is found by its entry.
use Rattle.std.proofs.Common.{◌≡◌, inl, inr, ℕ, ◌<◌, ◌≤◌, Bool, true, false, if◌then◌else◌, List, [], ◌∷◌, Option, Some, slice_get, refl, sym, ap, ◌∙◌, subst, arith, eq-eqb, ne_eqb}
use Rattle.std.specs.Prelude.{nat_eq}
use Rattle.std.proofs.lemmas.Option.{same_Some}
use Rattle.slot_code.specs.declared.flat.Instruction.{Instruction}
use Rattle.slot_code.specs.declared.flat.Instruction.TheVariants as i
use Rattle.slot_code.specs.Values.{Link, link_of}
use Rattle.cfg_build.specs.Ranges.{range_of, AreRanges}
use Rattle.cfg_build.specs.Follows.{Begins}
use Rattle.code_fit_laws.specs.Ranges.{Range, IsRangeIn, IsAt, function_at}
use Rattle.code_fit_laws.proofs.Calling.{Among, Called}
use Rattle.code_fit_laws.proofs.Standing.{AllStand}

-- the range of a function that stands below an end and a bound
record Found (ranges : List Range) (q : Link) (end bound : ℕ) : Type 0 where
  pub range : Range
  pub there : slice_get ranges q.function ≡ Some range
  pub entry : range.entry ≡ q.entry
  pub by : range.slot ≡ q.slot
  pub some : range.entry < range.end
  pub ends : range.end ≤ end
  pub wide : range.slot < range.bound
  pub bounds : range.bound ≤ bound

module _ (code : List Instruction) (ranges : List Range) where
  found_in : (end bound : ℕ) (ls : List Link) (q : Link) → AllStand code end bound ls → AreRanges end bound ls ranges → Among q ls → Found ranges q end bound
  found_in end bound [] q h a is = absurd is
  found_in end bound (l ∷ ls) q h a (inl e) =
      subst (λ (z : Link). Found ranges z end bound) e
      (record { range = range_of l end bound; there = a.0.there; entry = refl; by = refl; some = a.0.some; ends = omega arith; wide = h.0.wide; bounds = omega arith })
  found_in end bound (l ∷ ls) q h a (inr is) =
      let f = found_in l.entry l.slot ls q h.1 a.1 is in
      record { range = f.range; there = f.there; entry = f.entry; by = f.by; some = f.some; ends = omega (arith, f.ends, h.0.some); wide = f.wide; bounds = omega (arith, f.bounds, h.0.wide) }

  -- a function that stands below a place begins before it
  below : (end bound : ℕ) (ls : List Link) (q : Link) → AllStand code end bound ls → Among q ls → q.entry < end
  below end bound [] q h is = absurd is
  below end bound (l ∷ ls) q h (inl e) = subst (λ (z : Link). z.entry < end) e h.0.some
  below end bound (l ∷ ls) q h (inr is) = let lt = below l.entry l.slot ls q h.1 is in omega (arith, lt, h.0.some)

  at_by : (place n : ℕ) (o o' : Option ℕ) (b : Bool) → b ≡ false → o ≡ o' → (if b then Some n else o) ≡ o'
  at_by place n o o' true e h = absurd cc
  at_by place n o o' false e h = h

  -- no other function begins there
  pub function_there : (end bound : ℕ) (ls : List Link) (q : Link) → AllStand code end bound ls → Among q ls → function_at q.entry ls ≡ Some q.function
  function_there end bound [] q h is = absurd is
  function_there end bound (l ∷ ls) q h (inl e) =
      subst (λ (z : Link). (if nat_eq l.entry z.entry then Some l.function else function_at z.entry ls) ≡ Some z.function) e
      (ap (λ b. if b then Some l.function else function_at l.entry ls) (eq-eqb l.entry l.entry refl))
  function_there end bound (l ∷ ls) q h (inr is) =
      let lt = below l.entry l.slot ls q h.1 is in
      at_by q.entry l.function (function_at q.entry ls) (Some q.function) (nat_eq l.entry q.entry) (ne_eqb l.entry q.entry (λ e. omega (arith, lt, e))) (function_there l.entry l.slot ls q h.1 is)

  -- no other function has its number
  pub link_there : (end bound : ℕ) (ls : List Link) (q : Link) → AllStand code end bound ls → AreRanges end bound ls ranges → Among q ls
      → link_of q.function ls ≡ Some q
  link_there end bound [] q h a is = absurd is
  link_there end bound (l ∷ ls) q h a (inl e) =
      subst (λ (z : Link). (if nat_eq l.function z.function then Some l else link_of z.function ls) ≡ Some z) e
      (ap (λ b. if b then Some l else link_of l.function ls) (eq-eqb l.function l.function refl))
  link_there end bound (l ∷ ls) q h a (inr is) =
      let f = found_in l.entry l.slot ls q h.1 a.1 is in
      let other : l.function ≡ q.function → ⊥ = λ e.
      let same : range_of l end bound ≡ f.range = same_Some (range_of l end bound) f.range (sym a.0.there ∙ ap (λ n. slice_get ranges n) e ∙ f.there) in
      let entry : l.entry ≡ f.range.entry = ap (λ (z : Range). z.entry) same in
      omega (arith, entry, f.some, f.ends) in
      ap (λ b. if b then Some l else link_of q.function ls) (ne_eqb l.function q.function other) ∙ link_there l.entry l.slot ls q h.1 a.1 is

  -- what a call calls
  pub record Callee (ls : List Link) (caller : Range) (place slot : ℕ) : Type 0 where
    pub link : Link
    pub among : Among link ls
    pub entry : link.entry ≡ place
    pub by : link.slot ≡ slot
    pub begins : Begins ranges caller link.function place slot

  callee_of : (end bound : ℕ) (l : Link) (ls : List Link) (goal slot : ℕ) → AllStand code l.entry l.slot ls → AreRanges l.entry l.slot ls ranges
      → Called ls goal slot → Callee (l ∷ ls) (range_of l end bound) goal slot
  callee_of end bound l ls goal slot h a c =
      let f = found_in l.entry l.slot ls c.link h a c.among in
      record {
        link = c.link;
        among = inr c.among;
        entry = c.entry;
        by = c.by;
        begins = record {
          range = f.range;
          there = f.there;
          entry = f.entry ∙ c.entry;
          by = f.by ∙ c.by;
          lies = record { some = f.some; before = f.ends; wide = f.wide; below = f.bounds };
        };
      }

  pub callee_in : (end bound : ℕ) (ls : List Link) (r : Range) (place at goal slot : ℕ) → AllStand code end bound ls → AreRanges end bound ls ranges
      → IsRangeIn end bound ls r → IsAt code r place (i.Call at goal slot) → Callee ls r goal slot
  callee_in end bound [] r place at goal slot h a is there = absurd is
  callee_in end bound (l ∷ ls) r place at goal slot h a (inl e) there =
      subst (λ (z : Range). Callee (l ∷ ls) z goal slot) (sym e)
      (callee_of end bound l ls goal slot h.1 a.1 (h.0.calls place (i.Call at goal slot) (subst (λ (z : Range). IsAt code z place (i.Call at goal slot)) e there)))
  callee_in end bound (l ∷ ls) r place at goal slot h a (inr is) there =
      let k = callee_in l.entry l.slot ls r place at goal slot h.1 a.1 is there in
      record { link = k.link; among = inr k.among; entry = k.entry; by = k.by; begins = k.begins }
