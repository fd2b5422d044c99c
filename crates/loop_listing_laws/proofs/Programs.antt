-- The code of a program: where the code of a function stands in it, and that the turns of the function's loops go to one place.
use Rattle.std.proofs.Common.{◌≡◌, ◌≢◌, ◌⊎◌, inl, inr, ℕ, zero, suc, ◌+◌, ◌≤◌, ◌<◌, Bool, true, false, List, [], ◌∷◌, ◌++◌, length, Option, None, Some, slice_get, slice_set, ℤ, pos, refl, sym, ap, ◌∙◌, subst, arith, length-append, append_assoc}
use Rattle.std.specs.Prelude.{nat_eq, ◌||◌}
use Rattle.std.proofs.lemmas.Bool.{cases_eq, eq-eqb, eqb-true}
use Rattle.c_typed.specs.Tree.{Function, Program}
use Rattle.c_typed.specs.Rules.{has}
use Rattle.slot_code.specs.declared.flat.Instruction.{Instruction}
use Rattle.slot_code.specs.declared.flat.Instruction.TheVariants as i
use Rattle.slot_code.specs.Slots.{slots_in}
use Rattle.slot_code.specs.Values.{Link}
use Rattle.slot_code.specs.Statements.{steps_code}
use Rattle.slot_code.specs.Programs.{Code, body_end, label_place, function_code, with_function, code_behind, code_of}
use Rattle.cfg_build.specs.Looped.{loops_in}
use Rattle.cfg_build.specs.Ranges.{no_range, range_of, ranges_to}
use Rattle.cfg_build.proofs.Linking.{get-set, get-other}
use Rattle.call_order.specs.Order.{times}
use Rattle.loop_listing_laws.specs.Asking.{asks_in, function_asks, all_asks}
use Rattle.loop_listing_laws.proofs.Counting.{times-both}
use Rattle.loop_listing_laws.proofs.Calming.{AllCalm, calm-both, steps-calm}
use Rattle.loop_listing_laws.proofs.Nearing.{Near, all-loops-ask, steps-near}
use Rattle.loop_listing_laws.proofs.Standing.{Standing, stands-before, steps-stand}
use Rattle.loop_listing_laws.proofs.Seeking.{LiesAt}

-- where a function's code stands, by the name of its type
abbrev of_type : (A : Type 0) → A → Type 0
of_type A x = A

abbrev Range : Type 0
Range = of_type _ (no_range 0)

module _ (program : Program) where
  -- ---- Functions

  abbrev body : List Link → ℕ → ℕ → Function → List Instruction
  body links slot place f =
      steps_code program.model program.objects program.functions links f.result (suc slot) (body_end program links slot place f) (label_place program links slot place f)
      (body_end program links slot place f) (body_end program links slot place f) place f.body

  function-calm : (x goal : ℕ) (links : List Link) (slot place : ℕ) (f : Function) → times x (asks_in f.body) ≡ 0 → AllCalm x goal (function_code program links slot place f)
  function-calm x goal links slot place f h =
      calm-both x goal (body links slot place f) _
      (steps-calm program.model program.objects program.functions links f.result (suc slot) (body_end program links slot place f) (label_place program links slot place f) x goal f.body _ _ place h) (tt, (tt, tt))

  function-near : (x : ℕ) (links : List Link) (slot place : ℕ) (f : Function) → 1 ≤ times x (loops_in f.body) → times x (asks_in f.body) ≡ 1 → Near x (function_code program links slot place f)
  function-near x links slot place f k h =
      let r = steps-near program.model program.objects program.functions links f.result (suc slot) (body_end program links slot place f) (label_place program links slot place f) x f.body
      (body_end program links slot place f) (body_end program links slot place f) place k h in
      (r.0, calm-both x r.0 (body links slot place f) _ r.1 (tt, (tt, tt)))

  pub function-stands : (links : List Link) (slot place : ℕ) (f : Function) → Standing (loops_in f.body) (function_code program links slot place f)
  function-stands links slot place f =
      stands-before (loops_in f.body) (body links slot place f) _
      (steps-stand program.model program.objects program.functions links f.result (suc slot) (body_end program links slot place f) (label_place program links slot place f) f.body _ _ place)

  -- ---- The code of many

  with-calm : (x goal : ℕ) (b : Code) (number : ℕ) (o : Option Function) → AllCalm x goal b.instructions → times x (function_asks o) ≡ 0 → AllCalm x goal (with_function program b number o).instructions
  with-calm x goal b number None h k = h
  with-calm x goal b number (Some f) h k = calm-both x goal b.instructions _ h (function-calm x goal b.links (slots_in b.instructions) (length b.instructions) f k)

  behind-calm : (x goal : ℕ) (numbers : List ℕ) (b : Code) → AllCalm x goal b.instructions → times x (all_asks program.functions numbers) ≡ 0 → AllCalm x goal (code_behind program b numbers).instructions
  behind-calm x goal [] b h k = h
  behind-calm x goal (n ∷ ns) b h k =
      let e = times-both x (function_asks (slice_get program.functions n)) (all_asks program.functions ns) in
      behind-calm x goal ns (with_function program b n (slice_get program.functions n)) (with-calm x goal b n (slice_get program.functions n) h (omega (arith, e, k))) (omega (arith, e, k))

  module _ (m : ℕ) (f : Function) (is : slice_get program.functions m ≡ Some f) where
    -- a number that is among more is this one or among the others
    among : (n : ℕ) (ns : List ℕ) → has (n ∷ ns) m ≡ true → (m ≡ n) ⊎ (has ns m ≡ true)
    among n ns h = by (nat_eq m n) refl h
      where
        by : (b : Bool) → nat_eq m n ≡ b → (b || has ns m) ≡ true → (m ≡ n) ⊎ (has ns m ≡ true)
        by true e k = inl (eqb-true m n e)
        by false e k = inr k

    own-asks : (n : ℕ) → m ≡ n → function_asks (slice_get program.functions n) ≡ asks_in f.body
    own-asks n e = ap (λ (k : ℕ). function_asks (slice_get program.functions k)) (sym e) ∙ ap function_asks is

    -- what a function asks for, all of them do
    asks-there : (x : ℕ) (ns : List ℕ) → has ns m ≡ true → times x (asks_in f.body) ≤ times x (all_asks program.functions ns)
    asks-there x [] h = absurd cc
    asks-there x (n ∷ ns) h =
        let e = times-both x (function_asks (slice_get program.functions n)) (all_asks program.functions ns) in
        elim (among n ns h) [
          | inl here ↦ (let q = ap (times x) (own-asks n here) in omega (arith, e, q))
          | inr there ↦ (let q = asks-there x ns there in omega (arith, e, q))
        ]

    with-near : (x : ℕ) (b : Code) (number : ℕ) (o : Option Function) → o ≡ Some f → ((goal : ℕ) → AllCalm x goal b.instructions) → 1 ≤ times x (loops_in f.body) → times x (asks_in f.body) ≡ 1
        → Near x (with_function program b number o).instructions
    with-near x b number None e h k q = absurd cc
    with-near x b number (Some g) e h k q =
        let same : g ≡ f = cc in
        let r = function-near x b.links (slots_in b.instructions) (length b.instructions) g (subst (λ (z : Function). 1 ≤ times x (loops_in z.body)) (sym same) k) (subst (λ (z : Function). times x (asks_in z.body) ≡ 1) (sym same) q) in
        (r.0, calm-both x r.0 b.instructions _ (h r.0) r.1)

    -- the turns of a loop of the function go to one place, if nothing else asks at its offset
    near-behind : (x : ℕ) (ns : List ℕ) (b : Code) → ((goal : ℕ) → AllCalm x goal b.instructions) → has ns m ≡ true → 1 ≤ times x (loops_in f.body) → times x (all_asks program.functions ns) ≡ 1
        → Near x (code_behind program b ns).instructions
    near-behind x [] b h there k q = absurd cc
    near-behind x (n ∷ ns) b h there k q =
        let e = times-both x (function_asks (slice_get program.functions n)) (all_asks program.functions ns) in
        let l = all-loops-ask x f.body in
        elim (among n ns there) [
          | inl here ↦
              let own = ap (times x) (own-asks n here) in
              let r = with-near x b n (slice_get program.functions n) (ap (slice_get program.functions) (sym here) ∙ is) h k (omega (arith, e, own, l, k, q)) in
              (r.0, behind-calm x r.0 ns (with_function program b n (slice_get program.functions n)) r.1 (omega (arith, e, own, l, k, q)))
          | inr later ↦
              let some = asks-there x ns later in
              near-behind x ns (with_function program b n (slice_get program.functions n)) (λ goal. with-calm x goal b n (slice_get program.functions n) (h goal) (omega (arith, e, some, l, k, q))) later k (omega (arith, e, some, l, k, q))
        ]

    pub program-near : (x : ℕ) (order : List ℕ) → has order m ≡ true → 1 ≤ times x (loops_in f.body) → times x (all_asks program.functions order) ≡ 1 → Near x (code_of program order).instructions
    program-near x order there k q = near-behind x order (record { instructions = []; links = [] }) (λ goal. tt) there k q

    -- ---- Where the function's code stands

    -- in code with these ranges
    pub record Stands (code : List Instruction) (ranges : List Range) : Type 0 where
      pub range : Range
      pub there : slice_get ranges m ≡ Some range
      pub function : range.function ≡ m
      pub links : List Link
      pub slot : ℕ
      pub before : List Instruction
      pub behind : List Instruction
      pub whole : code ≡ before ++ (function_code program links slot (length before) f ++ behind)
      pub entry : range.entry ≡ length before
      pub end : range.entry + length (function_code program links slot (length before) f) ≤ range.end

    abbrev ranges_of : List Range → Code → List Range
    ranges_of first b = ranges_to (length b.instructions) (slots_in b.instructions) b.links first

    -- as many as there were
    many-set : (xs : List Range) (k : ℕ) (r : Range) → length (slice_set xs k r) ≡ length xs
    many-set [] k r = refl
    many-set (x ∷ xs) zero r = refl
    many-set (x ∷ xs) (suc k) r = ap suc (many-set xs k r)

    many : (end bound : ℕ) (ls : List Link) (first : List Range) → length (ranges_to end bound ls first) ≡ length first
    many end bound [] first = refl
    many end bound (l ∷ ls) first = many-set (ranges_to l.entry l.slot ls first) l.function (range_of l end bound) ∙ many l.entry l.slot ls first

    nothing-behind : (xs : List Instruction) → xs ≡ xs ++ []
    nothing-behind [] = refl
    nothing-behind (x ∷ xs) = ap (λ ys. x ∷ ys) (nothing-behind xs)

    -- one function more
    with-own : (first : List Range) (b : Code) (n : ℕ) (o : Option Function) → m ≡ n → o ≡ Some f → m < length first → Stands (with_function program b n o).instructions (ranges_of first (with_function program b n o))
    with-own first b n None e q lt = absurd cc
    with-own first b n (Some g) e q lt =
        let same : f ≡ g = cc in
        let fc : List Instruction = function_code program b.links (slots_in b.instructions) (length b.instructions) g in
        let fc-f : function_code program b.links (slots_in b.instructions) (length b.instructions) f ≡ fc = ap (function_code program b.links (slots_in b.instructions) (length b.instructions)) same in
        let len : length (b.instructions ++ fc) ≡ length b.instructions + length fc = length-append b.instructions fc in
        let l : Link = record { function = n; entry = length b.instructions; slot = slots_in b.instructions } in
        let old : List Range = ranges_of first b in
        let room : n < length old = (let w = many (length b.instructions) (slots_in b.instructions) b.links first in omega (arith, w, lt, e)) in
        record {
          range = range_of l (length (b.instructions ++ fc)) (slots_in (b.instructions ++ fc));
          there = ap (slice_get (slice_set old n (range_of l (length (b.instructions ++ fc)) (slots_in (b.instructions ++ fc))))) e ∙ get-set old n (range_of l (length (b.instructions ++ fc)) (slots_in (b.instructions ++ fc))) room;
          function = sym e;
          links = b.links;
          slot = slots_in b.instructions;
          before = b.instructions;
          behind = [];
          whole = ap (λ (ys : List Instruction). b.instructions ++ ys) (sym fc-f ∙ nothing-behind (function_code program b.links (slots_in b.instructions) (length b.instructions) f));
          entry = refl;
          end = (let w = ap length fc-f in omega (arith, len, w));
        }

    with-other : (first : List Range) (b : Code) (n : ℕ) (o : Option Function) → n ≢ m → Stands b.instructions (ranges_of first b) → Stands (with_function program b n o).instructions (ranges_of first (with_function program b n o))
    with-other first b n None ne h = h
    with-other first b n (Some g) ne h =
        let fc : List Instruction = function_code program b.links (slots_in b.instructions) (length b.instructions) g in
        let own : List Instruction = function_code program h.links h.slot (length h.before) f in
        record {
          range = h.range;
          there = get-other (ranges_of first b) n m _ ne ∙ h.there;
          function = h.function;
          links = h.links;
          slot = h.slot;
          before = h.before;
          behind = h.behind ++ fc;
          whole = ap (λ (ys : List Instruction). ys ++ fc) h.whole ∙ append_assoc h.before (own ++ h.behind) fc ∙ ap (λ (ys : List Instruction). h.before ++ ys) (append_assoc own h.behind fc);
          entry = h.entry;
          end = h.end;
        }

    -- it stands as before or is among the others
    passed : (first : List Range) (b : Code) (n : ℕ) (ns : List ℕ) → (n ≢ m) → (Stands b.instructions (ranges_of first b) ⊎ (has (n ∷ ns) m ≡ true))
        → Stands (with_function program b n (slice_get program.functions n)).instructions (ranges_of first (with_function program b n (slice_get program.functions n))) ⊎ (has ns m ≡ true)
    passed first b n ns ne (inl s) = inl (with-other first b n (slice_get program.functions n) ne s)
    passed first b n ns ne (inr a) = elim (among n ns a) [ inl q ↦ absurd (ne (sym q)) | inr q ↦ inr q ]

    stands-behind : (first : List Range) (ns : List ℕ) (b : Code) → m < length first → (Stands b.instructions (ranges_of first b) ⊎ (has ns m ≡ true)) → Stands (code_behind program b ns).instructions (ranges_of first (code_behind program b ns))
    stands-behind first [] b lt (inl h) = h
    stands-behind first [] b lt (inr h) = absurd cc
    stands-behind first (n ∷ ns) b lt h = elim (cases_eq n m) [
      | inl e ↦ stands-behind first ns (with_function program b n (slice_get program.functions n)) lt (inl (with-own first b n (slice_get program.functions n) (sym e) (ap (slice_get program.functions) e ∙ is) lt))
      | inr ne ↦ stands-behind first ns (with_function program b n (slice_get program.functions n)) lt (passed first b n ns ne h)
    ]

    pub program-stands : (first : List Range) (order : List ℕ) → m < length first → has order m ≡ true
        → Stands (code_of program order).instructions (ranges_to (length (code_of program order).instructions) (slots_in (code_of program order).instructions) (code_of program order).links first)
    program-stands first order lt there = stands-behind first order (record { instructions = []; links = [] }) lt (inr there)

-- ---- A part of code lies in the whole

there-at : (xs zs : List Instruction) (y : Instruction) → slice_get (xs ++ y ∷ zs) (length xs) ≡ Some y
there-at [] zs y = refl
there-at (x ∷ xs) zs y = there-at xs zs y

pub lies-at : (code before cs behind : List Instruction) (place : ℕ) → code ≡ before ++ (cs ++ behind) → place ≡ length before → LiesAt code place cs
lies-at code before [] behind place e q = tt
lies-at code before (c ∷ cs) behind place e q =
    let one : slice_get code place ≡ Some c = ap (slice_get code) q ∙ ap (λ (zs : List Instruction). slice_get zs (length before)) e ∙ there-at before (cs ++ behind) c in
    let longer : length (before ++ c ∷ []) ≡ length before + 1 = length-append before (c ∷ []) in
    let moved : code ≡ (before ++ c ∷ []) ++ (cs ++ behind) = e ∙ sym (append_assoc before (c ∷ []) (cs ++ behind)) in
    (one, lies-at code (before ++ c ∷ []) cs behind (place + 1) moved (omega (arith, q, longer)))
