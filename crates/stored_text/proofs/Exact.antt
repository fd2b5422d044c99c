-- Run files are read exactly where they are written so, and refused at the first byte with which none goes on.
use Rattle.std.proofs.Common.{◌≡◌, ◌||◌, lit≤, lit<, negsuc, ℕ, ◌+◌, ◌-◌, ◌*◌, ◌<◌, ◌≤◌, ℤ, Bool, true, false, not, ◌&&◌, List, [], ◌∷◌, ◌++◌, length, Option, Some, None, Ok, Err, inl, inr, refl, sym, ap, ◌∙◌, subst, arith, ◌==◌, nat_le, nat_lt, if◌then◌else◌, append_assoc, length-append}
use Rattle.std.specs.Prelude.{option_and_then}
use Rattle.std.proofs.lemmas.Bool.{cases_Bool}
use Rattle.std.proofs.lemmas.Bool.Decides.{nat_tests}
use Rattle.stored_text.specs.declared.StoredFail.TheVariants.{Format, Over}
use Rattle.stored_text.specs.declared.line.Line.{Line}
use Rattle.stored_text.specs.declared.line.Next.{Next}
use Rattle.stored_text.specs.Line.{line_of, fresh_line, is_fresh, line_value, line_step, next_of}
use Rattle.stored_text.specs.RunText.{value_text, lines_text, AreShort}
use Rattle.stored_text.specs.Reading.{is_full, answered, read_from}
use Rattle.stored_text.proofs.Lines.{IsGood, line_text, fresh_good, value_reads}
use Rattle.stored_text.proofs.Walks.{Place, place, walk, step, text, Stands, Does, Does.refuses, Does.fills, Does.ends, Does.goes, does}

abbrev pub begin : Place
begin = place [] fresh_line

pub begin_stands : Stands begin
begin_stands = record { line = fresh_good; short = tt }

-- every place has a run text that goes on from it
finish_line : (neg emp : Bool) (val : ℕ) → IsGood (line_of neg emp val) → (more : List ℕ) × (vs : List ℤ) × (line_text (line_of neg emp val) ++ more ≡ lines_text vs) × AreShort vs
finish_line false true val g = ([], [], refl, tt)
finish_line true true val g = (49 ∷ 10 ∷ [], negsuc 0 ∷ [], refl, (lit< tt, tt))
finish_line neg false val g = by_value (line_value (line_of neg false val)) refl
  where
    by_value : (o : Option ℤ) → line_value (line_of neg false val) ≡ o → (more : List ℕ) × (vs : List ℤ) × (line_text (line_of neg false val) ++ more ≡ lines_text vs) × AreShort vs
    by_value None e = absurd (none_not neg e)
      where
        none_not : (n : Bool) → line_value (line_of n false val) ≡ None → ⊥
        none_not true e = cc e
        none_not false e = cc e
    by_value (Some v) e = let r = value_reads (line_of neg false val) v g e in (10 ∷ [], v ∷ [], ap (λ (t : List ℕ). t ++ 10 ∷ []) (sym r.0), (r.1, tt))

pub lines_append : (xs ys : List ℤ) → lines_text (xs ++ ys) ≡ lines_text xs ++ lines_text ys
lines_append [] ys = refl
lines_append (x ∷ xs) ys = ap (λ (l : List ℕ). value_text x ++ 10 ∷ l) (lines_append xs ys) ∙ sym (append_assoc (value_text x) (10 ∷ lines_text xs) (lines_text ys))

short_append : (xs ys : List ℤ) → AreShort xs → AreShort ys → AreShort (xs ++ ys)
short_append [] ys a b = b
short_append (x ∷ xs) ys a b = (a.0, short_append xs ys a.1 b)

pub goes_on_from : (p : Place) → Stands p → (more : List ℕ) × (vs : List ℤ) × (text p ++ more ≡ lines_text vs) × AreShort vs
goes_on_from p s =
    let (more, vs, e, a) = finish_line p.line.negative p.line.empty p.line.value s.line in
    (more, p.values ++ vs, append_assoc (lines_text p.values) (line_text p.line) more ∙ ap (λ (t : List ℕ). lines_text p.values ++ t) e ∙ sym (lines_append p.values vs), short_append p.values vs s.short a)

-- Lines and counts.

fresh_not : (l : Line) (v : ℤ) → is_fresh l ≡ true → line_value l ≡ Some v → ⊥
fresh_not l v f e = by_empty l.empty l.negative f e
  where
    by_empty : (emp neg : Bool) → not neg && emp ≡ true → line_value (line_of neg emp l.value) ≡ Some v → ⊥
    by_empty true neg f e = cc e
    by_empty false true f e = cc f
    by_empty false false f e = cc f

and_false : (x : Bool) → x && false ≡ false
and_false true = refl
and_false false = refl

-- a line that went on is not fresh
gone_on : (l n : Line) (b : ℕ) → line_step l b ≡ Some n → is_fresh n ≡ false
gone_on l n b h = by_minus (b == 45) (nat_lt b 48 || nat_lt 57 b) ((not l.empty && (l.value == 0)) || nat_le 10000000000000000000 l.value) (l.negative && (l.empty && (b == 48))) (l.negative || not l.empty) h
  where
    by_minus : (m o f z d : Bool) → (if m then (if d then None else Some (line_of true true 0)) else if o then None else if f then None else if z then None else Some (line_of l.negative false (l.value * 10 + (b - 48)))) ≡ Some n → is_fresh n ≡ false
    by_minus true o f z true e = absurd (cc e)
    by_minus true o f z false e = let q : line_of true true 0 ≡ n = cc e in subst (λ (x : Line). is_fresh x ≡ false) q refl
    by_minus false true f z d e = absurd (cc e)
    by_minus false false true z d e = absurd (cc e)
    by_minus false false false true d e = absurd (cc e)
    by_minus false false false false d e = let q : line_of l.negative false (l.value * 10 + (b - 48)) ≡ n = cc e in subst (λ (x : Line). is_fresh x ≡ false) q (and_false (not l.negative))

pub record Room (values : List ℤ) (line : Line) : Type 0 where
  pub few : length values ≤ 1000000
  pub begun : is_fresh line ≡ false → length values < 1000000

room_kept : (values : List ℤ) (line : Line) → Room values line → is_full values line ≡ false → length values < 1000000
room_kept values line r n = elim (cases_Bool (is_fresh line)) [
  | inl f ↦ let m : nat_le 1000000 (length values) ≡ false = rw f at n in not_le (length values) m
  | inr f ↦ r.begun f
]
  where
    not_le : (k : ℕ) → nat_le 1000000 k ≡ false → k < 1000000
    not_le k m = grind (arith, nat_tests)

pub few : (bytes : List ℕ) (values vs : List ℤ) (line : Line) (at : ℕ) → Room values line → read_from values line at bytes ≡ Ok vs → length vs ≤ 1000000
few [] values vs line at r h = by_fresh (is_fresh line) h
  where
    by_fresh : (f : Bool) → (if f then Ok values else Err (Format at)) ≡ Ok vs → length vs ≤ 1000000
    by_fresh true e = let q : values ≡ vs = cc e in subst (λ (x : List ℤ). length x ≤ 1000000) q r.few
    by_fresh false e = absurd (cc e)
few (b ∷ bytes) values vs line at r h = by_case (next_of (is_full values line) line b) (does (is_full values line) (place values line) b) h (λ ws l room e. few bytes ws vs l (at + 1) room e)
  where
    by_case : (n : Next) → Does (is_full values line) (place values line) b n → answered at n (λ v. read_from (values ++ v ∷ []) fresh_line (at + 1) bytes) (λ next. read_from values next (at + 1) bytes) ≡ Ok vs
        → ((ws : List ℤ) (l : Line) → Room ws l → read_from ws l (at + 1) bytes ≡ Ok vs → length vs ≤ 1000000) → length vs ≤ 1000000
    by_case n (refuses m s) e ih = absurd (let q : Err (Format at) ≡ Ok vs = subst (λ (k : Next). answered at k (λ v. read_from (values ++ v ∷ []) fresh_line (at + 1) bytes) (λ next. read_from values next (at + 1) bytes) ≡ Ok vs) m e in cc)
    by_case n (fills m f q s) e ih = absurd (let z : Err (Over 9 1000001) ≡ Ok vs = subst (λ (k : Next). answered at k (λ v. read_from (values ++ v ∷ []) fresh_line (at + 1) bytes) (λ next. read_from values next (at + 1) bytes) ≡ Ok vs) m e in cc)
    by_case n (ends v m f l s) e ih =
        let lt : length values < 1000000 = room_kept values line r f in
        ih (values ++ v ∷ []) fresh_line (record { few = omega (arith, lt, length-append values (v ∷ [])); begun = λ z. absurd (cc z) })
        (subst (λ (k : Next). answered at k (λ v. read_from (values ++ v ∷ []) fresh_line (at + 1) bytes) (λ next. read_from values next (at + 1) bytes) ≡ Ok vs) m e)
    by_case n (goes l m f g s) e ih =
        let lt : length values < 1000000 = room_kept values line r f in
        ih values l (record { few = r.few; begun = λ z. lt })
        (subst (λ (k : Next). answered at k (λ v. read_from (values ++ v ∷ []) fresh_line (at + 1) bytes) (λ next. read_from values next (at + 1) bytes) ≡ Ok vs) m e)

-- Values and begun lines never get fewer.

abbrev pub begun : Line → ℕ
begun l = if is_fresh l then 0 else 1

count_step : (p q : Place) (b : ℕ) → step p b ≡ Some q → length p.values + begun p.line ≤ length q.values + begun q.line
count_step p q b h = by_does (next_of false p.line b) (does false p b)
  where
    low : (l : Line) → begun l ≤ 1
    low l = elim (cases_Bool (is_fresh l)) [ inl f ↦ rw f (lit≤ tt) | inr f ↦ rw f (lit≤ tt) ]

    one : (l : Line) → is_fresh l ≡ false → begun l ≡ 1
    one l f = rw f refl

    by_does : (n : Next) → Does false p b n → length p.values + begun p.line ≤ length q.values + begun q.line
    by_does n (refuses m s) = absurd (let z : None ≡ Some q = sym s ∙ h in cc)
    by_does n (fills m f x s) = absurd (cc f)
    by_does n (ends v m f l s) =
        let z : Some (place (p.values ++ v ∷ []) fresh_line) ≡ Some q = sym s ∙ h in
        let e : place (p.values ++ v ∷ []) fresh_line ≡ q = cc z in
        subst (λ (x : Place). length p.values + begun p.line ≤ length x.values + begun x.line) e (omega (arith, low p.line, length-append p.values (v ∷ [])))
    by_does n (goes l m f g s) =
        let z : Some (place p.values l) ≡ Some q = sym s ∙ h in
        let e : place p.values l ≡ q = cc z in
        subst (λ (x : Place). length p.values + begun p.line ≤ length x.values + begun x.line) e (omega (arith, low p.line, one l (gone_on p.line l b g)))

pub some_step : (o : Option Place) (bytes : List ℕ) (q : Place) → option_and_then (λ r. walk r bytes) o ≡ Some q → (r : Place) × (o ≡ Some r) × (walk r bytes ≡ Some q)
some_step None bytes q h = absurd (cc h)
some_step (Some r) bytes q h = (r, refl, h)

pub count_walk : (xs : List ℕ) (p q : Place) → walk p xs ≡ Some q → length p.values + begun p.line ≤ length q.values + begun q.line
count_walk [] p q h = let e : p ≡ q = cc h in subst (λ (x : Place). length p.values + begun p.line ≤ length x.values + begun x.line) e (omega arith)
count_walk (x ∷ xs) p q h =
    let (r, e, w) = some_step (step p x) xs q h in
    let a = count_step p r x e in
    let b = count_walk xs r q w in
    omega (arith, a, b)

-- from a fresh line a byte begins one
pub fresh_step : (p q : Place) (b : ℕ) → is_fresh p.line ≡ true → step p b ≡ Some q → length p.values + 1 ≤ length q.values + begun q.line
fresh_step p q b fr h = by_does (next_of false p.line b) (does false p b)
  where
    one : (l : Line) → is_fresh l ≡ false → begun l ≡ 1
    one l f = rw f refl

    by_does : (n : Next) → Does false p b n → length p.values + 1 ≤ length q.values + begun q.line
    by_does n (refuses m s) = absurd (let z : None ≡ Some q = sym s ∙ h in cc)
    by_does n (fills m f x s) = absurd (cc f)
    by_does n (ends v m f l s) = absurd (fresh_not p.line v fr l)
    by_does n (goes l m f g s) =
        let z : Some (place p.values l) ≡ Some q = sym s ∙ h in
        let e : place p.values l ≡ q = cc z in
        subst (λ (x : Place). length p.values + 1 ≤ length x.values + begun x.line) e (omega (arith, one l (gone_on p.line l b g)))
