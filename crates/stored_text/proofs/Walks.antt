-- Reading as a walk over the bytes: where it stands behind each, and why it stops.
use Rattle.std.proofs.Common.{◌≡◌, ℕ, ◌+◌, ◌<◌, ◌≤◌, ℤ, Bool, true, false, List, [], ◌∷◌, ◌++◌, length, take, Option, Some, None, Ok, Err, refl, sym, ap, ◌∙◌, subst, suc, arith, ◌==◌, if◌then◌else◌, append_assoc, append-nil}
use Rattle.std.specs.Prelude.{unsigned_abs, option_and_then, ◌^◌}
use Rattle.std.proofs.lemmas.Bool.{eqb-true}
use Rattle.stored_text.specs.declared.StoredFail.TheVariants.{Format, Over, Memory}
use Rattle.stored_text.specs.declared.line.Line.{Line}
use Rattle.stored_text.specs.declared.line.Next.{Next}
use Rattle.stored_text.specs.declared.line.Next.TheVariants.{Refused, Full, Value, Part}
use Rattle.stored_text.specs.Line.{fresh_line, is_fresh, line_step, line_value, next_of, ended, parted}
use Rattle.stored_text.specs.RunText.{value_text, lines_text, AreShort}
use Rattle.stored_text.specs.Reading.{Reading, is_full, answered, read_from}
use Rattle.stored_text.proofs.Lines.{IsGood, line_text, step_reads, value_reads, fresh_good, text_reads, read_line, chosen}

-- whole lines, and a part of the next
pub record Place : Type 0 where
  pub values : List ℤ
  pub line : Line

abbrev pub place : List ℤ → Line → Place
place values line = record { values = values; line = line }

abbrev pub moved : Place → Next → Option Place
moved p Refused = None
moved p Full = None
moved p (Value v) = Some (place (p.values ++ v ∷ []) fresh_line)
moved p (Part line) = Some (place p.values line)

abbrev pub step : Place → ℕ → Option Place
step p b = moved p (next_of false p.line b)

abbrev pub walk : Place → List ℕ → Option Place
walk p [] = Some p
walk p (b ∷ bytes) = option_and_then (λ q. walk q bytes) (step p b)

-- without the limit a byte does the same, where it does not begin a line too many
pub data Does (full : Bool) (p : Place) (b : ℕ) (n : Next) : Type 0 where
  refuses : n ≡ Refused → step p b ≡ None → Does full p b n
  fills : n ≡ Full → full ≡ true → (q : Place) → step p b ≡ Some q → Does full p b n
  ends : (v : ℤ) → n ≡ Value v → full ≡ false → line_value p.line ≡ Some v → step p b ≡ Some (place (p.values ++ v ∷ []) fresh_line) → Does full p b n
  goes : (line : Line) → n ≡ Part line → full ≡ false → line_step p.line b ≡ Some line → step p b ≡ Some (place p.values line) → Does full p b n

pub does : (full : Bool) (p : Place) (b : ℕ) → Does full p b (next_of full p.line b)
does full p b = by_test (b == 10) refl
  where
    at_end : (o : Option ℤ) → (t : (b == 10) ≡ true) → line_value p.line ≡ o → Does full p b (ended full o)
    at_end None t e = refuses refl (rw (t, e) refl)
    at_end (Some v) t e = elim full as (λ (f : Bool). full ≡ f → Does full p b (if f then Full else Value v)) [
      | true ↦ λ f. fills refl f (place (p.values ++ v ∷ []) fresh_line) (rw (t, e) refl)
      | false ↦ λ f. ends v refl f e (rw (t, e) refl)
    ] refl

    inside : (o : Option Line) → (t : (b == 10) ≡ false) → line_step p.line b ≡ o → Does full p b (parted full o)
    inside None t e = refuses refl (rw (t, e) refl)
    inside (Some l) t e = elim full as (λ (f : Bool). full ≡ f → Does full p b (if f then Full else Part l)) [
      | true ↦ λ f. fills refl f (place p.values l) (rw (t, e) refl)
      | false ↦ λ f. goes l refl f e (rw (t, e) refl)
    ] refl

    by_test : (t : Bool) → (b == 10) ≡ t → Does full p b (if t then ended full (line_value p.line) else parted full (line_step p.line b))
    by_test true t = at_end (line_value p.line) t refl
    by_test false t = inside (line_step p.line b) t refl

-- how reading ends
abbrev pub Told : Place → ℕ → List ℕ → Reading → Type 0
Told p at bytes (Ok values) = (q : Place) × (walk p bytes ≡ Some q) × (q.values ≡ values) × (is_fresh q.line ≡ true)
Told p at bytes (Err (Format n)) =
    (k : ℕ) × (n ≡ at + k) × (k ≤ length bytes) × ((q : Place) × (walk p (take k bytes) ≡ Some q)
    × (k < length bytes → walk p (take (suc k) bytes) ≡ None) × (k ≡ length bytes → is_fresh q.line ≡ false))
Told p at bytes (Err (Over number count)) =
    (number ≡ 9) × (count ≡ 1000001) × ((k : ℕ) × (k < length bytes) × ((q : Place) × (walk p (take k bytes) ≡ Some q) × (is_full q.values q.line ≡ true)
    × ((r : Place) × (walk p (take (suc k) bytes) ≡ Some r))))
Told p at bytes (Err Memory) = ⊥

later : (p q : Place) (at b : ℕ) (bytes : List ℕ) (r : Reading) → step p b ≡ Some q → Told q (at + 1) bytes r → Told p at (b ∷ bytes) r
later p q at b bytes (Ok values) s t = (t.0, rw s t.1, t.2, t.3)
later p q at b bytes (Err (Format n)) s t =
    let (k, e, le, tail) = t in
    let (x, w, no', fresh) = tail in
    (suc k, omega (arith, e), omega (arith, le), (x, rw s w, (λ lt. rw s (no' (omega (arith, lt)))), (λ m. fresh (omega (arith, m)))))
later p q at b bytes (Err (Over number count)) s t =
    let (a, c, tail) = t in
    let (k, lt, more) = tail in
    let (x, w, f, last) = more in
    let (y, z) = last in
    (a, c, (suc k, omega (arith, lt), (x, rw s w, f, (y, rw s z))))
later p q at b bytes (Err Memory) s t = t

pub reads : (bytes : List ℕ) (p : Place) (at : ℕ) → Told p at bytes (read_from p.values p.line at bytes)
reads [] p at = by_test (is_fresh p.line) refl
  where
    by_test : (t : Bool) → is_fresh p.line ≡ t → Told p at [] (if t then Ok p.values else Err (Format at))
    by_test true t = (p, refl, refl, t)
    by_test false t = (0, omega arith, omega arith, (p, refl, (λ lt. absurd (omega (arith, lt))), (λ e. t)))
reads (b ∷ bytes) p at = by_case (next_of (is_full p.values p.line) p.line b) (does (is_full p.values p.line) p b) (λ q. reads bytes q (at + 1))
  where
    by_case : (n : Next) → Does (is_full p.values p.line) p b n → ((q : Place) → Told q (at + 1) bytes (read_from q.values q.line (at + 1) bytes))
        → Told p at (b ∷ bytes) (answered at n (λ v. read_from (p.values ++ v ∷ []) fresh_line (at + 1) bytes) (λ next. read_from p.values next (at + 1) bytes))
    by_case n (refuses e s) ih = subst (λ (m : Next). Told p at (b ∷ bytes) (answered at m (λ v. read_from (p.values ++ v ∷ []) fresh_line (at + 1) bytes) (λ next. read_from p.values next (at + 1) bytes))) (sym e)
        (0, omega arith, omega arith, (p, refl, (λ lt. rw s refl), (λ z. absurd (omega (arith, z)))))
    by_case n (fills e f q s) ih = subst (λ (m : Next). Told p at (b ∷ bytes) (answered at m (λ v. read_from (p.values ++ v ∷ []) fresh_line (at + 1) bytes) (λ next. read_from p.values next (at + 1) bytes))) (sym e)
        (refl, refl, (0, omega arith, (p, refl, f, (q, rw s refl))))
    by_case n (ends v e f l s) ih = subst (λ (m : Next). Told p at (b ∷ bytes) (answered at m (λ v. read_from (p.values ++ v ∷ []) fresh_line (at + 1) bytes) (λ next. read_from p.values next (at + 1) bytes))) (sym e)
        (later p (place (p.values ++ v ∷ []) fresh_line) at b bytes (read_from (p.values ++ v ∷ []) fresh_line (at + 1) bytes) s (ih (place (p.values ++ v ∷ []) fresh_line)))
    by_case n (goes l e f g s) ih = subst (λ (m : Next). Told p at (b ∷ bytes) (answered at m (λ v. read_from (p.values ++ v ∷ []) fresh_line (at + 1) bytes) (λ next. read_from p.values next (at + 1) bytes))) (sym e)
        (later p (place p.values l) at b bytes (read_from p.values l (at + 1) bytes) s (ih (place p.values l)))

-- What was read so far.

abbrev pub text : Place → List ℕ
text p = lines_text p.values ++ line_text p.line

pub record Stands (p : Place) : Type 0 where
  pub line : IsGood p.line
  pub short : AreShort p.values

lines_more : (vs : List ℤ) (v : ℤ) → lines_text (vs ++ v ∷ []) ≡ lines_text vs ++ (value_text v ++ 10 ∷ [])
lines_more [] v = refl
lines_more (w ∷ vs) v =
    ap (λ (l : List ℕ). value_text w ++ 10 ∷ l) (lines_more vs v) ∙ sym (append_assoc (value_text w) (10 ∷ lines_text vs) (value_text v ++ 10 ∷ []))

short_more : (vs : List ℤ) (v : ℤ) → AreShort vs → unsigned_abs v < 10 ^ 20 → AreShort (vs ++ v ∷ [])
short_more [] v a b = (b, tt)
short_more (w ∷ vs) v a b = (a.0, short_more vs v a.1 b)

-- the byte that ended a line was a line end
ended_by : (p : Place) (b : ℕ) (v : ℤ) → next_of false p.line b ≡ Value v → (b ≡ 10) × (line_value p.line ≡ Some v)
ended_by p b v h = by_test (b == 10) refl h
  where
    inside : (o : Option Line) → parted false o ≡ Value v → ⊥
    inside None e = cc e
    inside (Some l) e = cc e

    at_end : (o : Option ℤ) → ended false o ≡ Value v → o ≡ Some v
    at_end None e = absurd (cc e)
    at_end (Some w) e = let q : w ≡ v = cc e in ap (λ (x : ℤ). Some x) q

    by_test : (t : Bool) → (b == 10) ≡ t → (if t then ended false (line_value p.line) else parted false (line_step p.line b)) ≡ Value v → (b ≡ 10) × (line_value p.line ≡ Some v)
    by_test true t e = (eqb-true b 10 t, at_end (line_value p.line) e)
    by_test false t e = absurd (inside (line_step p.line b) e)

gone_by : (p : Place) (b : ℕ) (l : Line) → next_of false p.line b ≡ Part l → line_step p.line b ≡ Some l
gone_by p b l h = by_test (b == 10) h
  where
    inside : (o : Option Line) → parted false o ≡ Part l → o ≡ Some l
    inside None e = absurd (cc e)
    inside (Some w) e = let q : w ≡ l = cc e in ap (λ (x : Line). Some x) q

    at_end : (o : Option ℤ) → ended false o ≡ Part l → ⊥
    at_end None e = cc e
    at_end (Some w) e = cc e

    by_test : (t : Bool) → (if t then ended false (line_value p.line) else parted false (line_step p.line b)) ≡ Part l → line_step p.line b ≡ Some l
    by_test true e = absurd (at_end (line_value p.line) e)
    by_test false e = inside (line_step p.line b) e

pub step_stands : (p q : Place) (b : ℕ) → Stands p → step p b ≡ Some q → Stands q × (text q ≡ text p ++ b ∷ [])
step_stands p q b s h = by_next (next_of false p.line b) refl h
  where
    by_next : (n : Next) → next_of false p.line b ≡ n → moved p n ≡ Some q → Stands q × (lines_text q.values ++ line_text q.line ≡ (lines_text p.values ++ line_text p.line) ++ b ∷ [])
    by_next Refused e m = absurd (cc m)
    by_next Full e m = absurd (cc m)
    by_next (Value v) e m =
        let same : place (p.values ++ v ∷ []) fresh_line ≡ q = cc m in
        let w = ended_by p b v e in
        let r = value_reads p.line v s.line w.1 in
        let line : lines_text (p.values ++ v ∷ []) ++ [] ≡ (lines_text p.values ++ line_text p.line) ++ b ∷ [] =
        append-nil (lines_text (p.values ++ v ∷ [])) ∙ lines_more p.values v
        ∙ ap (λ (l : List ℕ). lines_text p.values ++ (l ++ 10 ∷ [])) r.0
        ∙ ap (λ (c : ℕ). lines_text p.values ++ (line_text p.line ++ c ∷ [])) (sym w.0)
        ∙ sym (append_assoc (lines_text p.values) (line_text p.line) (b ∷ [])) in
        subst (λ (x : Place). Stands x × (lines_text x.values ++ line_text x.line ≡ (lines_text p.values ++ line_text p.line) ++ b ∷ [])) same
        (record { line = fresh_good; short = short_more p.values v s.short r.1 }, line)
    by_next (Part l) e m =
        let same : place p.values l ≡ q = cc m in
        let r = step_reads p.line l b s.line (gone_by p b l e) in
        subst (λ (x : Place). Stands x × (lines_text x.values ++ line_text x.line ≡ (lines_text p.values ++ line_text p.line) ++ b ∷ [])) same
        (record { line = r.good; short = s.short }, ap (λ (t : List ℕ). lines_text p.values ++ t) r.text ∙ sym (append_assoc (lines_text p.values) (line_text p.line) (b ∷ [])))

some_step : (o : Option Place) (bytes : List ℕ) (q : Place) → option_and_then (λ r. walk r bytes) o ≡ Some q → (r : Place) × (o ≡ Some r) × (walk r bytes ≡ Some q)
some_step None bytes q h = absurd (cc h)
some_step (Some r) bytes q h = (r, refl, h)

pub walk_stands : (bytes : List ℕ) (p q : Place) → Stands p → walk p bytes ≡ Some q → Stands q × (text q ≡ text p ++ bytes)
walk_stands [] p q s h = let same : p ≡ q = cc h in subst (λ (x : Place). Stands x × (text x ≡ text p ++ [])) same (s, sym (append-nil (text p)))
walk_stands (b ∷ bytes) p q s h =
    let (r, e, w) = some_step (step p b) bytes q h in
    let one = step_stands p r b s e in
    let more = walk_stands bytes r q one.0 w in
    (more.0, more.1 ∙ ap (λ (t : List ℕ). t ++ bytes) one.1 ∙ append_assoc (text p) (b ∷ []) bytes)

pub walk_append : (xs ys : List ℕ) (p q : Place) → walk p xs ≡ Some q → walk p (xs ++ ys) ≡ walk q ys
walk_append [] ys p q h = let same : p ≡ q = cc h in ap (λ (x : Place). walk x ys) same
walk_append (x ∷ xs) ys p q h = let (r, e, w) = some_step (step p x) xs q h in rw e (walk_append xs ys r q w)

stop_at : (o : Option Place) (xs ys : List ℕ) → option_and_then (λ r. walk r xs) o ≡ None → ((r : Place) → walk r xs ≡ None → walk r (xs ++ ys) ≡ None) → option_and_then (λ r. walk r (xs ++ ys)) o ≡ None
stop_at None xs ys h ih = refl
stop_at (Some r) xs ys h ih = ih r h

pub walk_stops : (xs ys : List ℕ) (p : Place) → walk p xs ≡ None → walk p (xs ++ ys) ≡ None
walk_stops [] ys p h = absurd (cc h)
walk_stops (x ∷ xs) ys p h = stop_at (step p x) xs ys h (λ r g. walk_stops xs ys r g)

-- A line is walked to its value, and all lines to their values.

line_walks : (xs : List ℕ) (values : List ℤ) (line last : Line) → read_line line xs ≡ Some last → walk (place values line) xs ≡ Some (place values last)
line_walks [] values line last h = let same : line ≡ last = cc h in ap (λ (l : Line). Some (place values l)) same
line_walks (x ∷ xs) values line last h =
    let next = chosen (λ n. read_line n xs) (line_step line x) last h in
    let one : step (place values line) x ≡ Some (place values next.0) = by_test (x == 10) refl next.0 next.1 in
    rw one (line_walks xs values next.0 last next.2)
  where
    no_end : (n : Line) → x ≡ 10 → line_step line x ≡ Some n → ⊥
    no_end n e s = cc (sym (ap (line_step line) e) ∙ s)

    by_test : (t : Bool) → (x == 10) ≡ t → (n : Line) → line_step line x ≡ Some n → moved (place values line) (if t then ended false (line_value line) else parted false (line_step line x)) ≡ Some (place values n)
    by_test true t n s = absurd (no_end n (eqb-true x 10 t) s)
    by_test false t n s = rw s refl

pub lines_walk : (vs before : List ℤ) → AreShort vs → walk (place before fresh_line) (lines_text vs) ≡ Some (place (before ++ vs) fresh_line)
lines_walk [] before s = ap (λ (l : List ℤ). Some (place l fresh_line)) (sym (append-nil before))
lines_walk (v ∷ vs) before s =
    let t = text_reads v s.0 in
    let line = line_walks (value_text v) before fresh_line t.0 t.1 in
    let end : step (place before t.0) 10 ≡ Some (place (before ++ v ∷ []) fresh_line) = rw t.2 refl in
    walk_append (value_text v) (10 ∷ lines_text vs) (place before fresh_line) (place before t.0) line
    ∙ rw end (lines_walk vs (before ++ v ∷ []) s.1)
    ∙ ap (λ (l : List ℤ). Some (place l fresh_line)) (append_assoc before (v ∷ []) vs)
