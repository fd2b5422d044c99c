-- The functions of a code stand one behind the other, with their slots, and each keeps to its own.
use Rattle.std.proofs.Common.{◌≡◌, inl, inr, ℕ, zero, suc, ◌+◌, ◌-◌, ◌<◌, ◌≤◌, max, true, List, [], ◌∷◌, ◌++◌, length, Option, Some, None, pos, slice_get, refl, sym, ap, ◌∙◌, subst, arith, length-append, lt-ltb}
use Rattle.std.specs.Prelude.{nat_lt}
use Rattle.std.proofs.lemmas.Bool.{and_from}
use Rattle.std.proofs.lemmas.Option.{same_Some}
use Rattle.c_typed.specs.Tree.{Function, Program}
use Rattle.slot_code.specs.declared.flat.Instruction.{Instruction}
use Rattle.slot_code.specs.declared.flat.Instruction.TheVariants as i
use Rattle.slot_code.specs.Slots.{slots_of, slots_in}
use Rattle.slot_code.specs.Values.{Link}
use Rattle.slot_code.specs.Statements.{steps_code}
use Rattle.slot_code.specs.Programs.{Code, body_end, label_place, function_code, with_function, code_behind, code_of}
use Rattle.cfg_build.specs.Keeping.{stays, filled_by, is_own, keeps}
use Rattle.cfg_build.specs.Ranges.{range_of}
use Rattle.code_fit_laws.specs.Ranges.{Range, IsRangeIn, IsAt}
use Rattle.code_fit_laws.proofs.Calling.{Calls, calls_at, function_calls}
use Rattle.code_fit_laws.proofs.Staying.{Over, K, stay_at}
use Rattle.code_fit_laws.proofs.Stepping.{function_stays}

-- ---- Places of two lists

pub get_first : {A : Type 0} (xs ys : List A) (k : ℕ) → k < length xs → slice_get (xs ++ ys) k ≡ slice_get xs k
get_first [] ys k lt = absurd (omega (arith, lt))
get_first (x ∷ xs) ys zero lt = refl
get_first (x ∷ xs) ys (suc k) lt = get_first xs ys k (omega (arith, lt))

pub get_second : {A : Type 0} (xs ys : List A) (k : ℕ) → slice_get (xs ++ ys) (length xs + k) ≡ slice_get ys k
get_second [] ys k = let e : 0 + k ≡ k = omega arith in ap (slice_get ys) e
get_second (x ∷ xs) ys k =
    let e : length (x ∷ xs) + k ≡ suc (length xs + k) = omega arith in
    ap (slice_get (x ∷ xs ++ ys)) e ∙ get_second xs ys k

-- ---- Slots

pub slots_two : (xs ys : List Instruction) → slots_in (xs ++ ys) ≡ max (slots_in xs) (slots_in ys)
slots_two [] ys = omega arith
slots_two (x ∷ xs) ys = let h = slots_two xs ys in omega (arith, h)

slots_at : (xs : List Instruction) (k : ℕ) (x : Instruction) → slice_get xs k ≡ Some x → slots_of x ≤ slots_in xs
slots_at [] k x e = absurd cc
slots_at (y ∷ ys) zero x e = let h : slots_of y ≡ slots_of x = ap (λ z. slots_of z) (same_Some y x e) in omega (arith, h)
slots_at (y ∷ ys) (suc k) x e = let h = slots_at ys k x e in omega (arith, h)

abbrev Under : ℕ → Option ℕ → Type 0
Under n None = Unit {0}
Under n (Some slot) = slot < n

-- what an instruction fills is counted
filled_under : (x : Instruction) → Under (slots_of x) (filled_by x)
filled_under (i.Constant slot v) = omega arith
filled_under (i.Read slot object) = omega arith
filled_under (i.Element slot at object count) = omega arith
filled_under (i.Locate slot at object count) = omega arith
filled_under (i.Load slot object) = omega arith
filled_under (i.Store slot object) = omega arith
filled_under (i.Convert slot k) = omega arith
filled_under (i.Negate slot k at) = omega arith
filled_under (i.Complement slot k at) = omega arith
filled_under (i.Not slot) = omega arith
filled_under (i.Truth slot) = omega arith
filled_under (i.Binary slot o k at) = omega arith
filled_under (i.Update slot o k l at object) = omega arith
filled_under (i.Change slot before by k at object) = omega arith
filled_under (i.Draw slot k) = omega arith
filled_under (i.Fill object k count) = tt
filled_under (i.Begin slot object count values) = tt
filled_under (i.Bind slot object) = tt
filled_under (i.Jump skip) = tt
filled_under (i.Turn at goal) = tt
filled_under (i.SkipZero slot skip) = tt
filled_under (i.SkipEqual slot v skip) = tt
filled_under (i.Call at goal slot) = tt
filled_under (i.Return slot) = tt
filled_under (i.Take slot at from needed) = omega arith
filled_under (i.Fail kind at) = tt
filled_under i.Stop = tt

owned : (r : Range) (n : ℕ) (o : Option ℕ) → Over r.slot o → Under n o → n ≤ r.bound → is_own r o ≡ true
owned r n None a b le = refl
owned r n (Some slot) a b le = and_from (nat_lt r.slot slot) (nat_lt slot r.bound) (lt-ltb r.slot slot a) (lt-ltb slot r.bound (omega (arith, b, le)))

-- ---- Functions that stand

-- the code and the slots of this function go up to an end and a bound, each of its instructions keeps to them, and it calls others
pub record Stands (code : List Instruction) (others : List Link) (l : Link) (end bound : ℕ) : Type 0 where
  pub some : l.entry < end
  pub wide : l.slot < bound
  pub kept : (place : ℕ) (x : Instruction) → IsAt code (range_of l end bound) place x → keeps (range_of l end bound) place x ≡ true
  pub calls : (place : ℕ) (x : Instruction) → IsAt code (range_of l end bound) place x → Calls others x

-- of functions, the newest first, those of each go up to the next one's
abbrev pub AllStand : List Instruction → (end bound : ℕ) → List Link → Type 0
AllStand code end bound [] = Unit {0}
AllStand code end bound (l ∷ ls) = Stands code ls l end bound × AllStand code l.entry l.slot ls

at_first : (code more : List Instruction) (r : Range) (place : ℕ) (x : Instruction) → r.end ≤ length code → IsAt (code ++ more) r place x → IsAt code r place x
at_first code more r place x le h = record { from = h.from; to = h.to; there = sym (get_first code more place (omega (arith, le, h.to))) ∙ h.there }

stand_on : (code more : List Instruction) (end bound : ℕ) (ls : List Link) → end ≤ length code → AllStand code end bound ls
    → AllStand (code ++ more) end bound ls
stand_on code more end bound [] le h = tt
stand_on code more end bound (l ∷ ls) le h = (
  record {
    some = h.0.some;
    wide = h.0.wide;
    kept = λ place x at. h.0.kept place x (at_first code more (range_of l end bound) place x le at);
    calls = λ place x at. h.0.calls place x (at_first code more (range_of l end bound) place x le at);
  },
  stand_on code more l.entry l.slot ls (omega (arith, le, h.0.some)) h.1,
)

module _ (program : Program) where
  module _ (c : Code) (number : ℕ) (f : Function) where
    abbrev l : Link
    l = record { function = number; entry = length c.instructions; slot = slots_in c.instructions }

    abbrev own : List Instruction
    own = function_code program c.links l.slot l.entry f

    abbrev whole : List Instruction
    whole = c.instructions ++ own

    abbrev r : Range
    r = range_of l (length whole) (slots_in whole)

    ends : length whole ≡ length c.instructions + length own
    ends = length-append c.instructions own

    bounds : slots_in whole ≡ max (slots_in c.instructions) (slots_in own)
    bounds = slots_two c.instructions own

    sizes : (l.entry < length whole) × (l.slot < slots_in whole)
    sizes =
        let end : ℕ = body_end program c.links l.slot l.entry f in
        let labels : List ℕ → ℕ = label_place program c.links l.slot l.entry f in
        let body : List Instruction = steps_code program.model program.objects program.functions c.links f.result (suc l.slot) end labels end end l.entry f.body in
        let last : List Instruction = i.Constant (suc (suc l.slot)) (pos 0) ∷ i.Return l.slot ∷ [] in
        let n : length own ≡ length body + 2 = length-append body last in
        let m : slots_in own ≡ max (slots_in body) (slots_in last) = slots_two body last in
        (omega (arith, ends, n), omega (arith, bounds, m))

    own_at : (place : ℕ) (x : Instruction) → IsAt whole r place x → (k : ℕ) × (place ≡ l.entry + k) × (slice_get own k ≡ Some x)
    own_at place x h =
        let k : ℕ = place - l.entry in
        let e : place ≡ l.entry + k = omega (arith, h.from) in
        (k, e, sym (get_second c.instructions own k) ∙ ap (slice_get whole) (sym e) ∙ h.there)

    keeps_at : (place : ℕ) (x : Instruction) → IsAt whole r place x → keeps r place x ≡ true
    keeps_at place x h =
        let w = own_at place x h in
        let k : K r (l.entry + w.0) x = stay_at r l.entry own (function_stays program c.links f r ends) w.0 x w.2 in
        let up = slots_at own w.0 x w.2 in
        and_from (stays r place x) (is_own r (filled_by x)) (ap (λ n. stays r n x) w.1 ∙ k.0) (owned r (slots_of x) (filled_by x) k.1 (filled_under x) (omega (arith, up, bounds)))

    stands : Stands whole c.links l (length whole) (slots_in whole)
    stands = record {
      some = sizes.0;
      wide = sizes.1;
      kept = keeps_at;
      calls = λ place x h. let w = own_at place x h in calls_at c.links own (function_calls program c.links l.slot l.entry f) w.0 x w.2;
    }

  abbrev P : Code → Type 0
  P c = AllStand c.instructions (length c.instructions) (slots_in c.instructions) c.links

  added : (c : Code) (number : ℕ) (o : Option Function) → P c → P (with_function program c number o)
  added c number None h = h
  added c number (Some f) h = (stands c number f, stand_on c.instructions (own c number f) (length c.instructions) (slots_in c.instructions) c.links (omega arith) h)

  all_added : (numbers : List ℕ) (c : Code) → P c → P (code_behind program c numbers)
  all_added [] c h = h
  all_added (n ∷ ns) c h = all_added ns (with_function program c n (slice_get program.functions n)) (added c n (slice_get program.functions n) h)

  pub all_stand : (order : List ℕ) → P (code_of program order)
  all_stand order = all_added order (record { instructions = []; links = [] }) tt

-- each instruction of one of the functions keeps to its range
pub kept_in : (code : List Instruction) (end bound : ℕ) (ls : List Link) (r : Range) (place : ℕ) (x : Instruction) → AllStand code end bound ls
    → IsRangeIn end bound ls r → IsAt code r place x → keeps r place x ≡ true
kept_in code end bound [] r place x h is at = absurd is
kept_in code end bound (l ∷ ls) r place x h (inl e) at = subst (λ (z : Range). keeps z place x ≡ true) (sym e) (h.0.kept place x (subst (λ (z : Range). IsAt code z place x) e at))
kept_in code end bound (l ∷ ls) r place x h (inr is) at = kept_in code l.entry l.slot ls r place x h.1 is at
