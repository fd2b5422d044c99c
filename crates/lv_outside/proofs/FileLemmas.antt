-- Files by name.
use Rattle.std.proofs.Common.{◌≡◌, ◌≢◌, ℕ, zero, suc, ◌+◌, ◌-◌, ◌<◌, List, [], ◌∷◌, ◌++◌, length, take, drop, get_or, set, refl, sym, ◌∙◌, ap, subst, arith, Bool, true, false}
use Rattle.std.specs.Prelude.{Vec, Option, Some, None, IfSome, is_some}
use Rattle.std.specs.declared.alloc.Global.{Global}
use Rattle.std.specs.Str.{bytes_eq}
use Rattle.std.proofs.lemmas.List.{drop_more, take_rest}
use Rattle.std.proofs.lemmas.Slice.Eq.{bytes_eq-Decides}
use Rattle.lv_outside.specs.Mem.{Files, file_of, IsPlaceOf, HasNoName, NamesDiffer}

abbrev Entry : Type 0
Entry = List ℕ × Vec ℕ Global

-- the rest from an index on begins with that entry
rest_at : (files : Files) (i : ℕ) (e : Entry) → i < length files → e ≡ get_or files i e → drop i files ≡ e ∷ drop (i + 1) files
rest_at files i e lt is = drop_more files i e lt ∙ ap (λ (f : Entry). f ∷ drop (i + 1) files) (sym is)

pub found_here : (name : List ℕ) (files : Files) (i : ℕ) (e : Entry) → i < length files → e ≡ get_or files i e → ((k : ℕ) → IsPlaceOf name (drop i files) k → IsPlaceOf name files (i + k)) → e.0 ≡ name → IsPlaceOf name files i
found_here name files i e lt is inv same =
    let here : IsPlaceOf name (drop i files) 0 = subst (λ (l : Files). IsPlaceOf name l 0) (sym (rest_at files i e lt is)) same in
    let z : i + 0 ≡ i = omega arith in
    subst (λ (k : ℕ). IsPlaceOf name files k) z (inv 0 here)

pub found_later : (name : List ℕ) (files : Files) (i : ℕ) (e : Entry) → i < length files → e ≡ get_or files i e → ((k : ℕ) → IsPlaceOf name (drop i files) k → IsPlaceOf name files (i + k)) → e.0 ≢ name → (k : ℕ) → IsPlaceOf name (drop (i + 1) files) k → IsPlaceOf name files (i + 1 + k)
found_later name files i e lt is inv other k later =
    let here : IsPlaceOf name (drop i files) (suc k) = subst (λ (l : Files). IsPlaceOf name l (suc k)) (sym (rest_at files i e lt is)) (other, later) in
    let z : i + suc k ≡ i + 1 + k = omega arith in
    subst (λ (k : ℕ). IsPlaceOf name files k) z (inv (suc k) here)

pub none_later : (name : List ℕ) (files : Files) (i : ℕ) (e : Entry) → i < length files → e ≡ get_or files i e → (HasNoName name (drop i files) → HasNoName name files) → e.0 ≢ name → HasNoName name (drop (i + 1) files) → HasNoName name files
none_later name files i e lt is inv other later =
    inv (subst (λ (l : Files). HasNoName name l) (sym (rest_at files i e lt is)) (other, later))

pub place_below : (name : List ℕ) (files : Files) (at : ℕ) → IsPlaceOf name files at → at < length files
place_below name [] at place = absurd place
place_below name (f ∷ files) zero place = omega arith
place_below name (f ∷ files) (suc at) place = omega (arith, place_below name files at place.1)

test_same : (xs ys : List ℕ) → xs ≡ ys → bytes_eq xs ys ≡ true
test_same xs ys same = (bytes_eq-Decides xs ys).1 same

test_other : (xs ys : List ℕ) → xs ≢ ys → bytes_eq xs ys ≡ false
test_other xs ys other = cases (bytes_eq xs ys) (bytes_eq-Decides xs ys).0
  where
    cases : (b : Bool) → (b ≡ true → xs ≡ ys) → b ≡ false
    cases true h = absurd (other (h refl))
    cases false h = refl

-- another file in the place of the one of a name
pub put_same : (name : List ℕ) (files : Files) (at : ℕ) (e : Entry) (v : Vec ℕ Global) → IsPlaceOf name files at → e ≡ get_or files at e → file_of (set files at (e.0, v)) name ≡ v.items
put_same name [] at e v place is = absurd place
put_same name (f ∷ files) zero e v place is = rw (test_same e.0 name (ap (λ (x : Entry). x.0) is ∙ place)) refl
put_same name (f ∷ files) (suc at) e v place is = rw (test_other f.0 name place.0) (put_same name files at e v place.1 is)

pub put_other : (name : List ℕ) (files : Files) (at : ℕ) (e : Entry) (v : Vec ℕ Global) (n : List ℕ) → IsPlaceOf name files at → e ≡ get_or files at e → n ≢ name → file_of (set files at (e.0, v)) n ≡ file_of files n
put_other name [] at e v n place is other = absurd place
put_other name (f ∷ files) zero e v n place is other =
    let e_other : bytes_eq e.0 n ≡ false = test_other e.0 n (λ same. other (sym same ∙ ap (λ (x : Entry). x.0) is ∙ place)) in
    let f_other : bytes_eq f.0 n ≡ false = test_other f.0 n (λ same. other (sym same ∙ place)) in
    rw (e_other, f_other) refl
put_other name (f ∷ files) (suc at) e v n place is other =
    ap (λ (l : List ℕ). Rattle.std.specs.Prelude.cond (bytes_eq f.0 n) f.1.items l) (put_other name files at e v n place.1 is other)

pub push_same : (name : List ℕ) (files : Files) (v : Vec ℕ Global) → HasNoName name files → file_of (files ++ (name, v) ∷ []) name ≡ v.items
push_same name [] v none = rw (test_same name name refl) refl
push_same name (f ∷ files) v none = rw (test_other f.0 name none.0) (push_same name files v none.1)

pub push_other : (name : List ℕ) (files : Files) (v : Vec ℕ Global) (n : List ℕ) → n ≢ name → file_of (files ++ (name, v) ∷ []) n ≡ file_of files n
push_other name [] v n other = rw (test_other name n (λ same. other (sym same))) refl
push_other name (f ∷ files) v n other =
    ap (λ (l : List ℕ). Rattle.std.specs.Prelude.cond (bytes_eq f.0 n) f.1.items l) (push_other name files v n other)

pub differ_later : (files : Files) (i : ℕ) (e : Entry) → i < length files → e ≡ get_or files i e → (NamesDiffer (drop i files) → NamesDiffer files) → HasNoName e.0 (drop (i + 1) files) → NamesDiffer (drop (i + 1) files) → NamesDiffer files
differ_later files i e lt is inv none later =
    inv (subst (λ (l : Files). NamesDiffer l) (sym (rest_at files i e lt is)) (none, later))

pub differ_down : (files : Files) (i : ℕ) (e : Entry) → i < length files → e ≡ get_or files i e → (NamesDiffer files → NamesDiffer (drop i files)) → NamesDiffer files → HasNoName e.0 (drop (i + 1) files) × NamesDiffer (drop (i + 1) files)
differ_down files i e lt is inv differ = subst (λ (l : Files). NamesDiffer l) (rest_at files i e lt is) (inv differ)

-- a name that has a place is there
pub has_place : (name : List ℕ) (files : Files) (at : ℕ) → IsPlaceOf name files at → HasNoName name files → ⊥
has_place name [] at place none = place
has_place name (f ∷ files) zero place none = none.0 place
has_place name (f ∷ files) (suc at) place none = has_place name files at place.1 none.1

-- names do not differ where the entry at an index has its name again behind it
pub differ_not : (files : Files) (i : ℕ) (e : Entry) (name : List ℕ) (again : Option ℕ) → i < length files → e ≡ get_or files i e → name ≡ e.0 → (NamesDiffer files → NamesDiffer (drop i files))
    → IfSome again (IsPlaceOf name (take (length files - (i + 1)) (drop (i + 1) files))) → is_some again ≡ true → NamesDiffer files → ⊥
differ_not files i e name None lt is same inv place some differ = cc some
differ_not files i e name (Some at) lt is same inv place some differ =
    let here : IsPlaceOf e.0 (drop (i + 1) files) at = subst (λ (l : Files). IsPlaceOf e.0 l at) (take_rest files (i + 1)) (subst (λ (n : List ℕ). IsPlaceOf n (take (length files - (i + 1)) (drop (i + 1) files)) at) same place) in
    has_place e.0 (drop (i + 1) files) at here (differ_down files i e lt is inv differ).0

-- the file of a name where its entry stands at the head of the rest, and where it does not
pub file_here : (name : List ℕ) (files : Files) (i : ℕ) (e : Entry) → i < length files → e ≡ get_or files i e → file_of (drop i files) name ≡ file_of files name → e.0 ≡ name → e.1.items ≡ file_of files name
file_here name files i e lt is inv same =
    let here : file_of (e ∷ drop (i + 1) files) name ≡ e.1.items = rw (test_same e.0 name same) refl in
    sym here ∙ sym (ap (λ (l : Files). file_of l name) (rest_at files i e lt is)) ∙ inv

pub file_later : (name : List ℕ) (files : Files) (i : ℕ) (e : Entry) → i < length files → e ≡ get_or files i e → file_of (drop i files) name ≡ file_of files name → e.0 ≢ name → file_of (drop (i + 1) files) name ≡ file_of files name
file_later name files i e lt is inv other =
    let here : file_of (e ∷ drop (i + 1) files) name ≡ file_of (drop (i + 1) files) name = rw (test_other e.0 name other) refl in
    sym here ∙ sym (ap (λ (l : Files). file_of l name) (rest_at files i e lt is)) ∙ inv
