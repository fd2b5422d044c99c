-- Places that are jumped to, one more at a time.
use Rattle.std.proofs.Common.{◌≡◌, ℕ, suc, ◌<◌, ◌+◌, ◌-◌, Bool, true, false, List, [], ◌∷◌, ◌++◌, length, take, drop, get_or, append_assoc, Option, Some, None, refl, ap, ◌∙◌, sym, arith}
use Rattle.std.specs.Prelude.{if◌then◌else◌, cond, bytes_eq}
use Rattle.std.specs.Borrow.{Bor}
use Rattle.std.specs.HashMap.{HashMap, get_by}
use Rattle.std.proofs.lemmas.List.{drop_more}
use Rattle.std.proofs.lemmas.Slice.Eq.{bytes_eq-Decides}
use Rattle.step_values.proofs.Rows.{take_more}
use Rattle.lv_base.specs.declared.kind.Kind.{Kind}
use Rattle.lv_base.specs.declared.kind.Model.{Model}
use Rattle.lv_base.specs.Integers.{converted}
use Rattle.slot_code.specs.declared.flat.Instruction.{Instruction}
use Rattle.slot_code.specs.declared.flat.Instruction.TheVariants as ins
use Rattle.slot_code.specs.Statements as c
use Rattle.slot_code.specs.Statements.{aLabel, aCase, aDefault}
use Rattle.slot_statements.specs.declared.marks.Mark.{Mark}
use Rattle.slot_statements.specs.declared.marks.Name.TheVariants as nm
use Rattle.slot_statements.specs.Marked.{name_of, mark_of, marks_of, IsFound}
use Rattle.slot_statements.specs.Casing.{case_count, cases_count, case_code}
use Rattle.slot_statements.specs.Finding.{or_else}

pub marks_behind : (xs : List Mark) (x : Mark) → marks_of (xs ++ x ∷ []) ≡ marks_of xs ++ mark_of x ∷ []
marks_behind [] x = refl
marks_behind (y ∷ xs) x = ap (λ z. mark_of y ∷ z) (marks_behind xs x)

pub marks_taken : (xs : List Mark) (i : ℕ) (d : Mark) → i < length xs → marks_of (take (i + 1) xs) ≡ marks_of (take i xs) ++ mark_of (get_or xs i d) ∷ []
marks_taken xs i d h = ap marks_of (take_more xs i d h) ∙ marks_behind (take i xs) (get_or xs i d)

-- ---- Counted from before

moved_behind : (n : ℕ) (ms : List c.Mark) (m : c.Mark) → c.moved n (ms ++ m ∷ []) ≡ c.moved n ms ++ c.moved n (m ∷ [])
moved_behind n [] m = refl
moved_behind n (k ∷ ms) m = ap (λ z. (let a : c.Mark = record { name = k.name; place = n + k.place } in a) ∷ z) (moved_behind n ms m)

pub moved_step : (n : ℕ) (xs : List Mark) (i : ℕ) (d own : Mark) (old all new : List c.Mark) → i < length xs → all ≡ old ++ c.moved n (marks_of (take i xs)) → mark_of own ∷ [] ≡ c.moved n (mark_of (get_or xs i d) ∷ []) →
    new ≡ all ++ mark_of own ∷ [] → new ≡ old ++ c.moved n (marks_of (take (i + 1) xs))
moved_step n xs i d own old all new h m o e =
    e ∙ ap (λ z. z ++ mark_of own ∷ []) m ∙ append_assoc old (c.moved n (marks_of (take i xs))) (mark_of own ∷ [])
    ∙ ap (λ z. old ++ (c.moved n (marks_of (take i xs)) ++ z)) o ∙ ap (λ z. old ++ z) (sym (moved_behind n (marks_of (take i xs)) (mark_of (get_or xs i d))))
    ∙ ap (λ z. old ++ c.moved n z) (sym (marks_taken xs i d h))

-- ---- Labels alone

label_first : (n : c.Name) (k m : c.Mark) (ms : List c.Mark) → c.labels_alone (ms ++ m ∷ []) ≡ c.labels_alone ms ++ c.labels_alone (m ∷ []) →
    (elim n [ aLabel l ↦ k ∷ c.labels_alone (ms ++ m ∷ []) | aCase v ↦ c.labels_alone (ms ++ m ∷ []) | aDefault ↦ c.labels_alone (ms ++ m ∷ []) ])
    ≡ (elim n [ aLabel l ↦ k ∷ c.labels_alone ms | aCase v ↦ c.labels_alone ms | aDefault ↦ c.labels_alone ms ]) ++ c.labels_alone (m ∷ [])
label_first (aLabel l) k m ms e = ap (λ z. k ∷ z) e
label_first (aCase v) k m ms e = e
label_first aDefault k m ms e = e

labels_behind : (ms : List c.Mark) (m : c.Mark) → c.labels_alone (ms ++ m ∷ []) ≡ c.labels_alone ms ++ c.labels_alone (m ∷ [])
labels_behind [] m = refl
labels_behind (k ∷ ms) m = label_first k.name k m ms (labels_behind ms m)

pub labels_step : (xs : List Mark) (i : ℕ) (d : Mark) (all new : List c.Mark) → i < length xs → all ≡ c.labels_alone (marks_of (take i xs)) →
    new ≡ all ++ c.labels_alone (mark_of (get_or xs i d) ∷ []) → new ≡ c.labels_alone (marks_of (take (i + 1) xs))
labels_step xs i d all new h m e =
    e ∙ ap (λ z. z ++ c.labels_alone (mark_of (get_or xs i d) ∷ [])) m ∙ sym (labels_behind (marks_of (take i xs)) (mark_of (get_or xs i d))) ∙ ap c.labels_alone (sym (marks_taken xs i d h))

-- ---- The first of them

or_assoc : (a b d : Option ℕ) → or_else a (or_else b d) ≡ or_else (or_else a b) d
or_assoc None b d = refl
or_assoc (Some x) b d = refl

module _ (f : List c.Mark → Option ℕ) (none : f [] ≡ None) (split : (m : c.Mark) (ms : List c.Mark) → f (m ∷ ms) ≡ or_else (f (m ∷ [])) (f ms)) where
  found_behind : (ms : List c.Mark) (m : c.Mark) → f (ms ++ m ∷ []) ≡ or_else (f ms) (f (m ∷ []))
  found_behind [] m = ap (λ z. or_else z (f (m ∷ []))) (sym none)
  found_behind (k ∷ ms) m = split k (ms ++ m ∷ []) ∙ ap (or_else (f (k ∷ []))) (found_behind ms m) ∙ or_assoc (f (k ∷ [])) (f ms) (f (m ∷ [])) ∙ ap (λ z. or_else z (f (m ∷ []))) (sym (split k ms))

  pub found_step : (xs : List Mark) (i : ℕ) (d : Mark) (old own new : Option ℕ) → i < length xs → old ≡ f (marks_of (take i xs)) → own ≡ f (mark_of (get_or xs i d) ∷ []) → new ≡ or_else old own → new ≡ f (marks_of (take (i + 1) xs))
  found_step xs i d old own new h m o e =
      e ∙ ap (λ z. or_else z own) m ∙ ap (or_else (f (marks_of (take i xs)))) o ∙ sym (found_behind (marks_of (take i xs)) (mark_of (get_or xs i d))) ∙ ap f (sym (marks_taken xs i d h))

test_first : (b : Bool) (place : ℕ) (o : Option ℕ) → (if b then Some place else o) ≡ or_else (if b then Some place else None) o
test_first true place o = refl
test_first false place o = refl

name_first : (name : List ℕ) (n : c.Name) (place : ℕ) (o : Option ℕ) →
    (elim n [ aLabel l ↦ if bytes_eq name l then Some place else o | aCase v ↦ o | aDefault ↦ o ]) ≡ or_else (elim n [ aLabel l ↦ if bytes_eq name l then Some place else None | aCase v ↦ None | aDefault ↦ None ]) o
name_first name (aLabel l) place o = test_first (bytes_eq name l) place o
name_first name (aCase v) place o = refl
name_first name aDefault place o = refl

default_first : (n : c.Name) (place : ℕ) (o : Option ℕ) → (elim n [ aLabel l ↦ o | aCase v ↦ o | aDefault ↦ Some place ]) ≡ or_else (elim n [ aLabel l ↦ None | aCase v ↦ None | aDefault ↦ Some place ]) o
default_first (aLabel l) place o = refl
default_first (aCase v) place o = refl
default_first aDefault place o = refl

pub default_step : (xs : List Mark) (i : ℕ) (d : Mark) (old own new : Option ℕ) → i < length xs → old ≡ c.default_in (marks_of (take i xs)) → own ≡ c.default_in (mark_of (get_or xs i d) ∷ []) →
    new ≡ or_else old own → new ≡ c.default_in (marks_of (take (i + 1) xs))
default_step = found_step c.default_in refl (λ m ms. default_first m.name m.place (c.default_in ms))

-- ---- Labels by their names

flip : (a b : List ℕ) → bytes_eq a b ≡ bytes_eq b a
flip a b = by (bytes_eq a b) (bytes_eq b a) refl refl
  where
    by : (x y : Bool) → x ≡ bytes_eq a b → y ≡ bytes_eq b a → bytes_eq a b ≡ bytes_eq b a
    by true y p q = sym p ∙ sym ((bytes_eq-Decides b a).1 (sym ((bytes_eq-Decides a b).0 (sym p))))
    by false true p q = (bytes_eq-Decides a b).1 (sym ((bytes_eq-Decides b a).0 (sym q))) ∙ q
    by false false p q = sym p ∙ q

taken : (b : Bool) (place : ℕ) (o : Option ℕ) → cond b (Some place) o ≡ or_else (if b then Some place else None) o
taken true place o = refl
taken false place o = refl

-- a label is found before those that were there
label_taken : (name label : List ℕ) (place : ℕ) (o : Option ℕ) → cond (bytes_eq label name) (Some place) o ≡ or_else (if bytes_eq name label then Some place else None) o
label_taken name label place o = ap (λ z. cond z (Some place) o) (flip label name) ∙ taken (bytes_eq name label) place o

pub label_more : {S : Type 0} (m : Mark) (l : Bor (List ℕ)) (bytes : List ℕ) (old new : HashMap (Bor (List ℕ)) ℕ S) → m.name ≡ nm.Label l → bytes ≡ l.now →
    ((name : List ℕ) → get_by (λ k. bytes_eq name k.now) new ≡ cond (bytes_eq bytes name) (Some m.place) (get_by (λ k. bytes_eq name k.now) old)) →
    (name : List ℕ) → get_by (λ k. bytes_eq name k.now) new ≡ or_else (c.label_in name (mark_of m ∷ [])) (get_by (λ k. bytes_eq name k.now) old)
label_more m l bytes old new e b u name =
    u name ∙ label_taken name bytes m.place (get_by (λ k. bytes_eq name k.now) old)
    ∙ ap (λ z. or_else (if bytes_eq name z then Some m.place else None) (get_by (λ k. bytes_eq name k.now) old)) b
    ∙ sym (ap (λ n. or_else (c.label_in name ((let a : c.Mark = record { name = name_of n; place = m.place } in a) ∷ [])) (get_by (λ k. bytes_eq name k.now) old)) e)

-- one place more, before the others
pub found_more : {S : Type 0} (xs : List Mark) (i j : ℕ) (d x : Mark) (old new : HashMap (Bor (List ℕ)) ℕ S) → i < length xs → j ≡ i + 1 → x ≡ get_or xs i d → IsFound (marks_of (drop j xs)) old →
    ((name : List ℕ) → get_by (λ k. bytes_eq name k.now) new ≡ or_else (c.label_in name (mark_of x ∷ [])) (get_by (λ k. bytes_eq name k.now) old)) → IsFound (marks_of (drop i xs)) new
found_more xs i j d x old new h e is f u name =
    u name ∙ ap (or_else (c.label_in name (mark_of x ∷ []))) (f name)
    ∙ sym (name_first name (mark_of x).name (mark_of x).place (c.label_in name (marks_of (drop j xs))))
    ∙ ap (λ z. c.label_in name (mark_of z ∷ marks_of (drop j xs))) is
    ∙ ap (λ z. c.label_in name (mark_of (get_or xs i d) ∷ marks_of (drop z xs))) e
    ∙ ap (λ z. c.label_in name (marks_of z)) (sym (drop_more xs i d h))

-- ---- Cases

count_behind : (ms : List c.Mark) (m : c.Mark) → cases_count (ms ++ m ∷ []) ≡ cases_count ms + case_count m
count_behind [] m = let e : case_count m + 0 ≡ 0 + case_count m = omega arith in e
count_behind (k ∷ ms) m = ap (λ z. case_count k + z) (count_behind ms m) ∙ (let e : case_count k + (cases_count ms + case_count m) ≡ case_count k + cases_count ms + case_count m = omega arith in e)

pub count_step : (xs : List Mark) (i : ℕ) (d : Mark) (old own new : ℕ) → i < length xs → old ≡ cases_count (marks_of (take i xs)) → own ≡ case_count (mark_of (get_or xs i d)) → new ≡ old + own → new ≡ cases_count (marks_of (take (i + 1) xs))
count_step xs i d old own new h m o e =
    e ∙ ap (λ z. z + own) m ∙ ap (λ z. cases_count (marks_of (take i xs)) + z) o ∙ sym (count_behind (marks_of (take i xs)) (mark_of (get_or xs i d))) ∙ ap cases_count (sym (marks_taken xs i d h))

module _ (model : Model) (slot : ℕ) (kind : Kind) where
  tried_length : (n : c.Name) (place count : ℕ) (cs : List Instruction) → length cs ≡ count →
      length {A = Instruction} (elim n [ aLabel l ↦ cs | aCase v ↦ ins.SkipEqual slot (converted kind model v) (length cs + 1 + place) ∷ cs | aDefault ↦ cs ]) ≡ (elim n [ aLabel l ↦ 0 | aCase v ↦ 1 | aDefault ↦ 0 ]) + count
  tried_length (aLabel l) place count cs e = let k : length cs ≡ 0 + count = omega (arith, e) in k
  tried_length (aCase v) place count cs e = let k : suc (length cs) ≡ 1 + count = omega (arith, e) in k
  tried_length aDefault place count cs e = let k : length cs ≡ 0 + count = omega (arith, e) in k

  count_is : (ms : List c.Mark) → length (c.cases_code model slot kind ms) ≡ cases_count ms
  count_is [] = refl
  count_is (m ∷ ms) = tried_length m.name m.place (cases_count ms) (c.cases_code model slot kind ms) (count_is ms)

  tried_split : (n : c.Name) (place left : ℕ) (cs : List Instruction) → length cs ≡ left →
      (elim n [ aLabel l ↦ cs | aCase v ↦ ins.SkipEqual slot (converted kind model v) (length cs + 1 + place) ∷ cs | aDefault ↦ cs ])
      ≡ (elim n [ aLabel l ↦ [] | aCase v ↦ ins.SkipEqual slot (converted kind model v) (left + 1 + place) ∷ [] | aDefault ↦ [] ]) ++ cs
  tried_split (aLabel l) place left cs e = refl
  tried_split (aCase v) place left cs e = ap (λ z. ins.SkipEqual slot (converted kind model v) (z + 1 + place) ∷ cs) e
  tried_split aDefault place left cs e = refl

  cases_split : (m : c.Mark) (ms : List c.Mark) → c.cases_code model slot kind (m ∷ ms) ≡ case_code model slot kind (cases_count ms) m ++ c.cases_code model slot kind ms
  cases_split m ms = tried_split m.name m.place (cases_count ms) (c.cases_code model slot kind ms) (count_is ms)

  pub left_step : (xs : List Mark) (i : ℕ) (d : Mark) (left own rest : ℕ) → i < length xs → left ≡ cases_count (marks_of (drop i xs)) → own ≡ case_count (mark_of (get_or xs i d)) → rest ≡ left - own →
      rest ≡ cases_count (marks_of (drop (i + 1) xs))
  left_step xs i d left own rest h l o r =
      let e : left ≡ case_count (mark_of (get_or xs i d)) + cases_count (marks_of (drop (i + 1) xs)) = l ∙ ap (λ z. cases_count (marks_of z)) (drop_more xs i d h) in
      omega (arith, e, o, r)

  pub cases_step : (xs : List Mark) (i : ℕ) (d : Mark) (rest : ℕ) (old new all : List Instruction) → i < length xs → rest ≡ cases_count (marks_of (drop (i + 1) xs)) → old ++ c.cases_code model slot kind (marks_of (drop i xs)) ≡ all →
      new ≡ old ++ case_code model slot kind rest (mark_of (get_or xs i d)) → new ++ c.cases_code model slot kind (marks_of (drop (i + 1) xs)) ≡ all
  cases_step xs i d rest old new all h r s n =
      ap (λ z. z ++ c.cases_code model slot kind (marks_of (drop (i + 1) xs))) n
      ∙ append_assoc old (case_code model slot kind rest (mark_of (get_or xs i d))) (c.cases_code model slot kind (marks_of (drop (i + 1) xs)))
      ∙ ap (λ z. old ++ (case_code model slot kind z (mark_of (get_or xs i d)) ++ c.cases_code model slot kind (marks_of (drop (i + 1) xs)))) r
      ∙ ap (λ z. old ++ z) (sym (cases_split (mark_of (get_or xs i d)) (marks_of (drop (i + 1) xs))))
      ∙ ap (λ z. old ++ c.cases_code model slot kind (marks_of z)) (sym (drop_more xs i d h)) ∙ s
