-- Each function of an order stands in its code behind those that it calls.
use Rattle.std.proofs.Common.{◌≡◌, ◌⊎◌, ℕ, suc, ◌+◌, ◌≤◌, max, Bool, true, false, List, [], ◌∷◌, ◌++◌, length, Option, Some, None, ℤ, pos, slice_get, inl, inr, ⊎_elim, refl, sym, ap, ◌∙◌, subst, arith, length-append, append_assoc}
use Rattle.std.specs.Prelude.{nat_eq, if◌then◌else◌, ◌||◌}
use Rattle.std.proofs.lemmas.Bool.Decides.{eqb_tells}
use Rattle.c_run.specs.Run.{Compute}
use Rattle.c_typed.specs.Tree.{Function, Program}
use Rattle.c_typed.specs.Rules.{has, Call, calls_of, all_of_all}
use Rattle.typed_range_laws.specs.Ways.{Way}
use Rattle.slot_code.specs.declared.flat.Instruction.{Instruction}
use Rattle.slot_code.specs.declared.flat.Instruction.TheVariants as i
use Rattle.slot_code.specs.Slots.{slots_in}
use Rattle.slot_code.specs.Values.{Link, link_of}
use Rattle.slot_code.specs.Statements.{steps_code}
use Rattle.slot_code.specs.Programs.{Code, body_end, label_place, function_code, with_function, code_behind}
use Rattle.slot_laws.specs.Laws.{CallsAmong, MayStand, CalleesFirst}
use Rattle.slot_laws.proofs.Lying.{Frame, At}
use Rattle.slot_laws.proofs.Calling.{Linked}
use Rattle.slot_laws.proofs.Sizes.{steps_length}
use Rattle.slot_laws.proofs.Functioning.{frame, Stands}

-- ---- The numbers of functions

abbrev pub numbers_of : List Link → List ℕ
numbers_of [] = []
numbers_of (l ∷ ls) = l.function ∷ numbers_of ls

found_one : (x : ℕ) (l : Link) (ls : List Link) → (has (numbers_of ls) x ≡ true → (l' : Link) × (link_of x ls ≡ Some l')) → (nat_eq x l.function || has (numbers_of ls) x) ≡ true → (b b' : Bool) → nat_eq x l.function ≡ b → nat_eq l.function x ≡ b' →
    (b ≡ b') → (l' : Link) × ((if nat_eq l.function x then Some l else link_of x ls) ≡ Some l')
found_one x l ls later h true true e e' s = (l, ap (λ b. if b then Some l else link_of x ls) e')
found_one x l ls later h false false e e' s =
    let r = later (sym (ap (λ b. b || has (numbers_of ls) x) e) ∙ h) in (r.0, ap (λ b. if b then Some l else link_of x ls) e' ∙ r.1)
found_one x l ls later h true false e e' s = absurd cc
found_one x l ls later h false true e e' s = absurd cc

eq_turned : (x y : ℕ) → nat_eq x y ≡ nat_eq y x
eq_turned x y = ⊎_elim
    (λ p. p.0 ∙ sym (⊎_elim (λ q. q.0) (λ q. absurd (q.1 (sym p.1))) (eqb_tells y x)))
    (λ p. p.0 ∙ sym (⊎_elim (λ q. absurd (p.1 (sym q.1))) (λ q. q.0) (eqb_tells y x))) (eqb_tells x y)

pub linked_one : (x : ℕ) (links : List Link) → has (numbers_of links) x ≡ true → (l : Link) × (link_of x links ≡ Some l)
linked_one x [] h = absurd cc
linked_one x (l ∷ ls) h = found_one x l ls (λ e. linked_one x ls e) h (nat_eq x l.function) (nat_eq l.function x) refl refl (eq_turned x l.function)

pub calls_linked : (links : List Link) (cs : List Call) → CallsAmong (numbers_of links) cs → Linked links cs
calls_linked links [] h = tt
calls_linked links (c ∷ cs) h = (linked_one c.to links h.0, calls_linked links cs h.1)

-- the numbers of an order in front of those before it, the last one first
abbrev pub onto : List ℕ → List ℕ → List ℕ
onto [] before = before
onto (n ∷ ns) before = onto ns (n ∷ before)

or_true : (a b c : Bool) → (a || b) ≡ true → (b ≡ true) ⊎ ((a || c) ≡ true)
or_true true b c h = inr refl
or_true false b c h = inl h

or_left : (a b : Bool) → b ≡ true → (a || b) ≡ true
or_left true b h = refl
or_left false b h = h

pub has_onto : (ns before : List ℕ) (x : ℕ) → (has ns x ≡ true) ⊎ (has before x ≡ true) → has (onto ns before) x ≡ true
has_onto [] before x h = ⊎_elim (λ e. absurd cc) (λ e. e) h
has_onto (n ∷ ns) before x h = has_onto ns (n ∷ before) x (⊎_elim (λ e. or_true (nat_eq x n) (has ns x) (has before x) e) (λ e. inr (or_left (nat_eq x n) (has before x) e)) h)

-- ---- Where code lies

there : (xs zs : List Instruction) (y : Instruction) → slice_get (xs ++ y ∷ zs) (length xs) ≡ Some y
there [] zs y = refl
there (x ∷ xs) zs y = there xs zs y

at_within : (c : Frame) (ys xs rest : List Instruction) (p : ℕ) → c.code ≡ xs ++ (ys ++ rest) → p ≡ length xs → c.start ≤ p → slots_in ys ≤ c.top → At c p ys
at_within c [] xs rest p e ep st le = tt
at_within c (y ∷ ys) xs rest p e ep st le =
    let one : slice_get c.code p ≡ Some y = ap (λ n. slice_get c.code n) ep ∙ ap (λ zs. slice_get zs (length xs)) e ∙ there xs (ys ++ rest) y in
    let longer : length (xs ++ y ∷ []) ≡ length xs + 1 = length-append xs (y ∷ []) in
    let moved : c.code ≡ (xs ++ y ∷ []) ++ (ys ++ rest) = e ∙ sym (append_assoc xs (y ∷ []) (ys ++ rest)) in
    (record { there = one; below = omega (arith, le); behind = st }, at_within c ys (xs ++ y ∷ []) rest (suc p) moved (omega (arith, ep, longer)) (omega (arith, st)) (omega (arith, le)))

pub slots_both : (xs ys : List Instruction) → slots_in (xs ++ ys) ≡ max (slots_in xs) (slots_in ys)
slots_both [] ys = omega arith
slots_both (x ∷ xs) ys = let h = slots_both xs ys in omega (arith, h)

module _ (program : Program) (compute : Compute) (way : Way) (inputs : List ℤ) (code : List Instruction) where
  -- the functions that were added stand there
  pub record Grown (b : Code) (before : List ℕ) : Type 0 where
    pub stands : Stands program compute way inputs code b.links (length b.instructions) (slots_in b.instructions)
    pub numbers : numbers_of b.links ≡ before

  function_stands : (b : Code) (before : List ℕ) (number : ℕ) (f : Function) (rest : List Instruction) → Grown b before → slice_get program.functions number ≡ Some f → CallsAmong before (calls_of (all_of_all f.body)) →
      code ≡ b.instructions ++ (function_code program b.links (slots_in b.instructions) (length b.instructions) f ++ rest) → Grown (with_function program b number (Some f)) (number ∷ before)
  function_stands b before number f rest g is calls e =
      let slot : ℕ = slots_in b.instructions in
      let entry : ℕ = length b.instructions in
      let l : Link = record { function = number; entry = entry; slot = slot } in
      let end : ℕ = body_end program b.links slot entry f in
      let labels : List ℕ → ℕ = label_place program b.links slot entry f in
      let body : List Instruction = steps_code program.model program.objects program.functions b.links f.result (suc slot) end labels end end entry f.body in
      let last : List Instruction = i.Constant (suc (suc slot)) (pos 0) ∷ i.Return slot ∷ [] in
      let fc : List Instruction = function_code program b.links slot entry f in
      let len = steps_length program.model program.objects program.functions b.links f.result (suc slot) end labels f.body end end entry in
      let n1 : length fc ≡ length body + 2 = length-append body last in
      let n2 : length (b.instructions ++ fc) ≡ length b.instructions + length fc = length-append b.instructions fc in
      let m1 : slots_in fc ≡ max (slots_in body) (slots_in last) = slots_both body last in
      let m2 : slots_in (b.instructions ++ fc) ≡ max (slots_in b.instructions) (slots_in fc) = slots_both b.instructions fc in
      record {
        stands = (
          record {
            f = f;
            there = is;
            top = slots_in fc;
            top_in = omega (arith, m2);
            slot_in = omega (arith, m1, m2);
            entry_in = omega (arith, n2);
            before = omega (arith, n1, n2, len);
            lies = λ call. at_within (frame program compute way inputs code b.links call slot (slots_in fc) entry) fc b.instructions rest entry e refl (omega arith) (omega arith);
            linked = calls_linked b.links (calls_of (all_of_all f.body)) (subst (λ x. CallsAmong x (calls_of (all_of_all f.body))) (sym g.numbers) calls);
          },
          g.stands,
        );
        numbers = ap (λ x. number ∷ x) g.numbers;
      }

  added_stands : (b : Code) (before : List ℕ) (number : ℕ) (o : Option Function) (rest : List Instruction) → slice_get program.functions number ≡ o → MayStand before o → Grown b before → code ≡ (with_function program b number o).instructions ++ rest →
      Grown (with_function program b number o) (number ∷ before)
  added_stands b before number None rest is h g e = absurd h
  added_stands b before number (Some f) rest is h g e =
      let fc : List Instruction = function_code program b.links (slots_in b.instructions) (length b.instructions) f in
      function_stands b before number f rest g is h (e ∙ append_assoc b.instructions fc rest)

  end_of : (xs : List Instruction) → xs ≡ xs ++ []
  end_of [] = refl
  end_of (x ∷ xs) = ap (λ ys. x ∷ ys) (end_of xs)

  -- more functions leave what stands
  kept_front : (b : Code) (number : ℕ) (o : Option Function) (rest : List Instruction) → (more : List Instruction) × ((with_function program b number o).instructions ++ rest ≡ b.instructions ++ more)
  kept_front b number None rest = (rest, refl)
  kept_front b number (Some f) rest = let fc : List Instruction = function_code program b.links (slots_in b.instructions) (length b.instructions) f in (fc ++ rest, append_assoc b.instructions fc rest)

  front : (numbers : List ℕ) (b : Code) → (rest : List Instruction) × ((code_behind program b numbers).instructions ≡ b.instructions ++ rest)
  front [] b = ([], end_of b.instructions)
  front (n ∷ ns) b =
      let r = front ns (with_function program b n (slice_get program.functions n)) in
      let s = kept_front b n (slice_get program.functions n) r.0 in
      (s.0, r.1 ∙ s.1)

  pub all_stand : (numbers : List ℕ) (b : Code) (before : List ℕ) → Grown b before → CalleesFirst program.functions before numbers → code ≡ (code_behind program b numbers).instructions → Grown (code_behind program b numbers) (onto numbers before)
  all_stand [] b before g h e = g
  all_stand (n ∷ ns) b before g h e =
      let b' : Code = with_function program b n (slice_get program.functions n) in
      let r = front ns b' in
      all_stand ns b' (n ∷ before) (added_stands b before n (slice_get program.functions n) r.0 refl h.0 g (e ∙ r.1)) h.1 e
