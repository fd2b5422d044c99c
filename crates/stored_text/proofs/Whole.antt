-- The laws of run files.
use Rattle.std.proofs.Common.{◌≡◌, ℕ, ◌+◌, ◌<◌, ◌≤◌, ℤ, Bool, true, false, not, ◌&&◌, List, [], ◌∷◌, ◌++◌, length, take, drop, Option, Some, None, Ok, Err, ◌⊎◌, inl, inr, refl, sym, ap, ◌∙◌, subst, zero, suc, arith, ◌==◌, nat_le, nat_lt, if◌then◌else◌, append_assoc, append-nil, take-append-drop}
use Rattle.std.proofs.lemmas.Bool.{cases_Bool, and_parts, eqb-true, eq-eqb, leb-true, cases_lt, both_ways}
use Rattle.std.proofs.lemmas.Bool.Decides.{nat_tests}
use Rattle.std.proofs.lemmas.List.{take_all, length-drop, length-take}
use Rattle.stored_text.specs.declared.StoredFail.TheVariants.{Format, Over, Memory}
use Rattle.stored_text.specs.declared.line.Line.{Line}
use Rattle.stored_text.specs.Line.{fresh_line, is_fresh}
use Rattle.stored_text.specs.RunText.{number_text, lines_text, AreShort, run_text, Spells, GoesOn}
use Rattle.stored_text.specs.Reading.{Reading, is_full, read_from, head_line, head_fault, read_behind, read_run_of}
use Rattle.stored_text.specs.Laws.{RunTextIsRead, RefusedAtTheFirstByte, HasOneMore, OverIsNamed}
use Rattle.stored_text.proofs.Lines.{line_text, lines_length}
use Rattle.stored_text.proofs.Walks.{Place, place, step, walk, Told, reads, text, walk_stands, walk_append, walk_stops, lines_walk}
use Rattle.stored_text.proofs.Exact.{begin, begin_stands, goes_on_from, few, begun, some_step, count_walk, fresh_step}
use Rattle.stored_text.proofs.Passing.{read_along, passes, cut_lines, short_front, begins, one_behind}

-- The first line.

pub head_whole : (h : List ℕ) (at : ℕ) (bytes : List ℕ) → head_fault h at bytes ≡ None → bytes ≡ h ++ drop (length h) bytes
head_whole [] at bytes e = refl
head_whole (x ∷ h) at [] e = absurd (cc e)
head_whole (x ∷ h) at (b ∷ bytes) e = elim (cases_Bool (b == x)) [
  | inl y ↦ let g : head_fault h (at + 1) bytes ≡ None = rw y at e in let q : b ≡ x = eqb-true b x y in ap (λ (n : ℕ). n ∷ bytes) q ∙ ap (λ (l : List ℕ). x ∷ l) (head_whole h (at + 1) bytes g)
  | inr n ↦ absurd (let g : Some at ≡ None = rw n at e in cc g)
]

pub head_found : (h rest : List ℕ) (at : ℕ) → head_fault h at (h ++ rest) ≡ None
head_found [] rest at = refl
head_found (x ∷ h) rest at = let y : (x == x) ≡ true = eq-eqb x x refl in rw y (head_found h rest (at + 1))

pub record Differs (h bytes : List ℕ) (k : ℕ) : Type 0 where
  pub inside : k < length h
  pub within : k ≤ length bytes
  pub front : take k bytes ≡ take k h
  pub apart : k < length bytes → (more rest : List ℕ) → take (suc k) bytes ++ more ≡ h ++ rest → ⊥

pub head_apart : (h : List ℕ) (at : ℕ) (bytes : List ℕ) (n : ℕ) → head_fault h at bytes ≡ Some n → (k : ℕ) × (n ≡ at + k) × Differs h bytes k
head_apart [] at bytes n e = absurd (cc e)
head_apart (x ∷ h) at [] n e = let q : at ≡ n = cc e in (0, omega (arith, q), record { inside = omega arith; within = omega arith; front = refl; apart = λ lt. absurd (omega (arith, lt)) })
head_apart (x ∷ h) at (b ∷ bytes) n e = elim (cases_Bool (b == x)) [
  | inl y ↦
      let g : head_fault h (at + 1) bytes ≡ Some n = rw y at e in
      let q : b ≡ x = eqb-true b x y in
      let (k, i, d) = head_apart h (at + 1) bytes n g in (
        suc k,
        omega (arith, i),
        record {
          inside = omega (arith, d.inside);
          within = omega (arith, d.within);
          front = ap (λ (c : ℕ). c ∷ take k bytes) q ∙ ap (λ (l : List ℕ). x ∷ l) d.front;
          apart = λ lt more rest z. d.apart (omega (arith, lt)) more rest (ap tail z);
        },
      )
  | inr m ↦
      let g : Some at ≡ Some n = rw m at e in
      let q : at ≡ n = cc g in (
        0,
        omega (arith, q),
        record {
          inside = omega arith;
          within = omega arith;
          front = refl;
          apart = λ lt more rest z. both_ways (b == x) m (eq-eqb b x (ap first z));
        },
      )
]
  where
    first : List ℕ → ℕ
    first [] = 0
    first (y ∷ ys) = y

    tail : List ℕ → List ℕ
    tail [] = []
    tail (y ∷ ys) = ys

pub same_front : (h xs ys : List ℕ) → h ++ xs ≡ h ++ ys → xs ≡ ys
same_front [] xs ys e = e
same_front (x ∷ h) xs ys e = same_front h xs ys (ap tail e)
  where
    tail : List ℕ → List ℕ
    tail [] = []
    tail (y ∷ ys) = ys

-- The three laws.

lines : List ℕ → Reading
lines rest = read_from [] fresh_line 6 rest

-- a file that is not too long, with its first line
Behind : List ℕ → List ℕ → Type 0
Behind file rest = file ≡ head_line ++ rest

fresh_text : (l : Line) → is_fresh l ≡ true → line_text l ≡ []
fresh_text l f = by_parts l.negative l.empty f
  where
    by_parts : (neg emp : Bool) → not neg && emp ≡ true → (if neg then 45 ∷ [] else []) ++ (if emp then [] else number_text l.value) ≡ []
    by_parts true emp e = absurd (cc e)
    by_parts false true e = refl
    by_parts false false e = absurd (cc e)

-- what a walk to a fresh line says
walked_lines : (rest : List ℕ) (q : Place) → walk begin rest ≡ Some q → is_fresh q.line ≡ true → (rest ≡ lines_text q.values) × AreShort q.values
walked_lines rest q w f =
    let s = walk_stands rest begin q begin_stands w in
    (sym s.1 ∙ ap (λ (t : List ℕ). lines_text q.values ++ t) (fresh_text q.line f) ∙ append-nil (lines_text q.values), s.0.short)

-- run text goes on from what a walk has passed
walked_goes_on : (front : List ℕ) (q : Place) → walk begin front ≡ Some q → GoesOn (head_line ++ front)
walked_goes_on front q w =
    let s = walk_stands front begin q begin_stands w in
    let (more, vs, e, a) = goes_on_from q s.0 in
    (more, vs, (ap (λ (t : List ℕ). (head_line ++ t) ++ more) (sym s.1) ∙ append_assoc head_line (text q) more ∙ ap (λ (t : List ℕ). head_line ++ t) e, a))

-- and from nothing that a walk does not pass
stopped_goes_on_not : (front : List ℕ) → walk begin front ≡ None → GoesOn (head_line ++ front) → ⊥
stopped_goes_on_not front w g =
    let (more, vs, s) = g in
    let e : front ++ more ≡ lines_text vs = same_front head_line (front ++ more) (lines_text vs) (sym (append_assoc head_line front more) ∙ s.0) in
    let n : walk begin (front ++ more) ≡ None = walk_stops front more begin w in
    let m : walk begin (front ++ more) ≡ Some (place vs fresh_line) = ap (walk begin) e ∙ lines_walk vs [] s.1 in
    absurd (cc (sym n ∙ m))

spells_few : (file : List ℕ) (vs : List ℤ) → Spells vs file → length vs ≤ 1000000 → length file ≤ 22000006
spells_few file vs s f = let l = lines_length vs s.1 in let e = ap length s.0 in omega (arith, l, e, f)

short_test : (file : List ℕ) → length file ≤ 22000006 → nat_lt 22000006 (length file) ≡ false
short_test file le = grind (arith, nat_tests)

long_test : (file : List ℕ) → nat_lt 22000006 (length file) ≡ true → 22000006 < length file
long_test file e = grind (arith, nat_tests)

not_long : (file : List ℕ) → nat_lt 22000006 (length file) ≡ false → length file ≤ 22000006
not_long file e = grind (arith, nat_tests)

-- how a file is read
pub data Read (file : List ℕ) : Reading → Type 0 where
  too_long : 22000006 < length file → Read file (Err (Over 9 22000007))
  no_head : (k : ℕ) → length file ≤ 22000006 → Differs head_line file k → Read file (Err (Format k))
  headed : (rest : List ℕ) → length file ≤ 22000006 → file ≡ head_line ++ rest → Read file (read_from [] fresh_line 6 rest)

pub how_read : (file : List ℕ) → Read file (read_run_of file)
how_read file = by_length (nat_lt 22000006 (length file)) refl
  where
    by_head : (o : Option ℕ) → length file ≤ 22000006 → head_fault head_line 0 file ≡ o → Read file (read_behind o file)
    by_head None le e = headed (drop 6 file) le (head_whole head_line 0 file e)
    by_head (Some n) le e =
        let (k, i, d) = head_apart head_line 0 file n e in
        let z : k ≡ n = omega (arith, i) in
        subst (λ m. Read file (Err (Format m))) z (no_head k le d)

    by_length : (t : Bool) → nat_lt 22000006 (length file) ≡ t → Read file (if t then Err (Over 9 22000007) else read_behind (head_fault head_line 0 file) file)
    by_length true e = too_long (long_test file e)
    by_length false e = by_head (head_fault head_line 0 file) (not_long file e) refl

read_ok : (file : List ℕ) (r : Reading) (vs : List ℤ) → Read file r → r ≡ Ok vs → Spells vs file × (length vs ≤ 1000000)
read_ok file r vs (too_long l) e = absurd (cc e)
read_ok file r vs (no_head k le d) e = absurd (cc e)
read_ok file r vs (headed rest le is) e =
    let t : Told begin 6 rest (Ok vs) = subst (Told begin 6 rest) e (reads rest begin 6) in
    let (q, w, same, f) = t in
    let s = walked_lines rest q w f in
    let n = few rest [] vs fresh_line 6 (record { few = omega arith; begun = λ z. absurd (cc z) }) e in
    ((is ∙ ap (λ (t : List ℕ). head_line ++ t) (s.0 ∙ ap lines_text same), subst AreShort same s.1), n)

-- behind a million lines nothing more comes to be a million values
byte_more : (q : Place) (ys : List ℕ) (vs : List ℤ) → 0 < length ys → is_full q.values q.line ≡ true → walk q ys ≡ Some (place vs fresh_line) → 1000001 ≤ length vs
byte_more q [] vs l f w = absurd (omega (arith, l))
byte_more q (b ∷ ys) vs l f w =
    let p = and_parts (is_fresh q.line) (nat_le 1000000 (length q.values)) f in
    let (r, e, go) = some_step (step q b) ys (place vs fresh_line) w in
    let a = fresh_step q r b p.0 e in
    let c = count_walk ys r (place vs fresh_line) go in
    let m : 1000000 ≤ length q.values = leb-true 1000000 (length q.values) p.1 in
    let c2 : length r.values + begun r.line ≤ length vs + 0 = c in
    omega (arith, a, c2, m)

too_many : (rest : List ℕ) (k : ℕ) (q : Place) (vs : List ℤ) → k < length rest → walk begin (take k rest) ≡ Some q → is_full q.values q.line ≡ true → walk begin rest ≡ Some (place vs fresh_line) → length vs ≤ 1000000 → ⊥
too_many rest k q vs lt w f whole n =
    let a : walk q (drop k rest) ≡ Some (place vs fresh_line) = sym (walk_append (take k rest) (drop k rest) begin q w) ∙ ap (walk begin) (take-append-drop k rest) ∙ whole in
    let l : 0 < length (drop k rest) = omega (arith, lt, length-drop k rest) in
    let b = byte_more q (drop k rest) vs l f a in
    omega (arith, b, n)

read_back : (file : List ℕ) (r : Reading) (vs : List ℤ) → Read file r → Spells vs file → length vs ≤ 1000000 → r ≡ Ok vs
read_back file r vs (too_long l) s n = absurd (let z = spells_few file vs s n in omega (arith, l, z))
read_back file r vs (no_head k le d) s n = absurd (by_end (cases_lt k (length file)))
  where
    by_end : (k < length file) ⊎ (length file ≤ k) → ⊥
    by_end (inl lt) = d.apart lt (drop (suc k) file) (lines_text vs) (take-append-drop (suc k) file ∙ s.0)
    by_end (inr ge) = let e = ap length s.0 in let i = d.inside in omega (arith, e, ge, i)
read_back file r vs (headed rest le is) s n = by_told (read_from [] fresh_line 6 rest) (reads rest begin 6)
  where
    rest_is : rest ≡ lines_text vs
    rest_is = same_front head_line rest (lines_text vs) (sym is ∙ s.0)

    whole : walk begin rest ≡ Some (place vs fresh_line)
    whole = ap (walk begin) rest_is ∙ lines_walk vs [] s.1

    by_told : (r : Reading) → Told begin 6 rest r → r ≡ Ok vs
    by_told (Ok ws) t =
        let (q, w, same, f) = t in
        let e : Some q ≡ Some (place vs fresh_line) = sym w ∙ whole in
        let z : q ≡ place vs fresh_line = cc e in
        ap (λ (x : List ℤ). Ok x) (sym same ∙ ap (λ (x : Place). x.values) z)
    by_told (Err (Format m)) t =
        let (k, i, le2, tail) = t in
        let (q, w, stop, open2) = tail in
        absurd (elim (cases_lt k (length rest)) [
          | inl lt ↦ (let a : walk begin (take (suc k) rest ++ drop (suc k) rest) ≡ None = walk_stops (take (suc k) rest) (drop (suc k) rest) begin (stop lt) in let b : walk begin rest ≡ None = ap (walk begin) (sym (take-append-drop (suc k) rest)) ∙ a in cc (sym b ∙ whole))
          | inr ge ↦ (let a : take k rest ≡ rest = take_all k rest ge in let e : Some q ≡ Some (place vs fresh_line) = sym w ∙ ap (walk begin) a ∙ whole in let z : q ≡ place vs fresh_line = cc e in let f : is_fresh q.line ≡ true = ap (λ (x : Place). is_fresh x.line) z in both_ways (is_fresh q.line) (open2 (omega (arith, ge, le2))) f)
        ])
    by_told (Err (Over m c)) t =
        let (a1, a2, tail) = t in
        let (k, lt, more) = tail in
        let (q, w, f, last) = more in
        let (x, wx) = last in
        absurd (too_many rest k q vs lt w f whole n)
    by_told (Err Memory) t = absurd t

pub run_text_read : RunTextIsRead
run_text_read file vs = (read_ok file (read_run_of file) vs (how_read file), λ s. read_back file (read_run_of file) vs (how_read file) s.0 s.1)

-- a prefix of a file with its first line
take_behind : (h rest : List ℕ) (k : ℕ) → take (length h + k) (h ++ rest) ≡ h ++ take k rest
take_behind [] rest k = ap (λ n. take n rest) (omega arith)
take_behind (x ∷ h) rest k = let e : length (x ∷ h) + k ≡ suc (length h + k) = omega arith in ap (λ n. take n (x ∷ (h ++ rest))) e ∙ ap (λ (l : List ℕ). x ∷ l) (take_behind h rest k)

take_head : (k : ℕ) → k < 6 → GoesOn (take k head_line)
take_head k lt = (drop k head_line, [], (take-append-drop k head_line, tt))

Refused : List ℕ → ℕ → Type 0
Refused file n =
    (length file ≤ 22000006) × (n ≤ length file) × GoesOn (take n file)
    × (n < length file → GoesOn (take (n + 1) file) → ⊥)
    × (n ≡ length file → (values : List ℤ) → Spells values file → ⊥)

refused : (file : List ℕ) (r : Reading) (n : ℕ) → Read file r → r ≡ Err (Format n) → Refused file n
unfolding Refused
refused file r n (too_long l) e = absurd (cc e)
refused file r n (no_head k le d) e =
    let same : k ≡ n = cc e in
    subst (λ m. (length file ≤ 22000006) × (m ≤ length file) × GoesOn (take m file) × (m < length file → GoesOn (take (m + 1) file) → ⊥) × (m ≡ length file → (values : List ℤ) → Spells values file → ⊥)) same (
      le,
      d.within,
      subst GoesOn (sym d.front) (take_head k d.inside),
      (λ lt g. let (more, vs, s) = g in let z : k + 1 ≡ suc k = omega arith in d.apart lt more (lines_text vs) (subst (λ m. take m file ++ more ≡ head_line ++ lines_text vs) z s.0)),
      (λ q vs s. let l = ap length s.0 in let i = d.inside in omega (arith, l, q, i)),
    )
refused file r n (headed rest le is) e =
    let t : Told begin 6 rest (Err (Format n)) = subst (Told begin 6 rest) e (reads rest begin 6) in
    let (k, i, low, tail) = t in
    let (q, w, stop, still) = tail in
    let is_len = ap length is in
    let size : length file ≡ 6 + length rest = omega (arith, is_len) in
    let front : take n file ≡ head_line ++ take k rest = ap (λ m. take m file) i ∙ ap (take (6 + k)) is ∙ take_behind head_line rest k in
    let front2 : take (n + 1) file ≡ head_line ++ take (suc k) rest = ap (λ m. take m file) (let z : n + 1 ≡ 6 + suc k = omega (arith, i) in z) ∙ ap (take (6 + suc k)) is ∙ take_behind head_line rest (suc k) in (
      le,
      omega (arith, i, low, size),
      subst GoesOn (sym front) (walked_goes_on (take k rest) q w),
      (λ lt g. stopped_goes_on_not (take (suc k) rest) (stop (omega (arith, lt, size, i))) (subst GoesOn front2 g)),
      (λ m vs s.
          let end : k ≡ length rest = omega (arith, m, i, size) in
          let rest_is : rest ≡ lines_text vs = same_front head_line rest (lines_text vs) (sym is ∙ s.0) in
          let all : take k rest ≡ rest = take_all k rest (omega (arith, end)) in
          let z : Some q ≡ Some (place vs fresh_line) = sym w ∙ ap (walk begin) all ∙ ap (walk begin) rest_is ∙ lines_walk vs [] s.1 in
          let y : q ≡ place vs fresh_line = cc z in
          both_ways (is_fresh q.line) (still end) (ap (λ (x : Place). is_fresh x.line) y)),
    )

pub refused_first : RefusedAtTheFirstByte
unfolding Refused
refused_first file n e = refused file (read_run_of file) n (how_read file) e

over : (file : List ℕ) (r : Reading) (m c : ℕ) → Read file r → r ≡ Err (Over m c)
    → (m ≡ 9) × (((22000006 < length file) × (c ≡ 22000007)) ⊎ ((length file ≤ 22000006) × (c ≡ 1000001) × HasOneMore file))
over file r m c (too_long l) e = let a : 9 ≡ m = cc e in let b : 22000007 ≡ c = cc e in (sym a, inl (l, sym b))
over file r m c (no_head k le d) e = absurd (cc e)
over file r m c (headed rest le is) e =
    let t : Told begin 6 rest (Err (Over m c)) = subst (Told begin 6 rest) e (reads rest begin 6) in
    let (nine, count, tail) = t in
    let (k, lt, more) = tail in
    let (q, w, f, last) = more in
    let (x, wx) = last in
    let p = and_parts (is_fresh q.line) (nat_le 1000000 (length q.values)) f in
    let s = walked_lines (take k rest) q w p.0 in
    (nine, inr (le, count, by_rest (drop k rest) q k refl lt s (leb-true 1000000 (length q.values) p.1) x wx))
  where
    take_one : (ys : List ℕ) (k b : ℕ) (zs : List ℕ) → drop k ys ≡ b ∷ zs → take (suc k) ys ≡ take k ys ++ b ∷ []
    take_one [] zero b zs e = absurd (cc e)
    take_one [] (suc k) b zs e = absurd (cc e)
    take_one (y ∷ ys) zero b zs e = let q : y ≡ b = cc e in ap (λ (n : ℕ). n ∷ []) q
    take_one (y ∷ ys) (suc k) b zs e = ap (λ (l : List ℕ). y ∷ l) (take_one ys k b zs e)

    by_rest : (d : List ℕ) (q : Place) (k : ℕ) → drop k rest ≡ d → k < length rest → (take k rest ≡ lines_text q.values) × AreShort q.values → 1000000 ≤ length q.values → (x : Place) → walk begin (take (suc k) rest) ≡ Some x
        → HasOneMore file
    by_rest [] q k e lt s le x wx = absurd (let z = ap length e in omega (arith, z, lt, length-drop k rest))
    by_rest (b ∷ zs) q k e lt s le x wx =
        let parts : rest ≡ lines_text q.values ++ b ∷ zs = sym (take-append-drop k rest) ∙ ap (λ (l : List ℕ). take k rest ++ l) e ∙ ap (λ (l : List ℕ). l ++ b ∷ zs) s.0 in
        let one : take (suc k) rest ≡ lines_text q.values ++ b ∷ [] = take_one rest k b zs e ∙ ap (λ (l : List ℕ). l ++ b ∷ []) s.0 in
        (q.values, b, zs, is ∙ ap (λ (l : List ℕ). head_line ++ l) parts, s.1, le, subst (λ (l : List ℕ). GoesOn (head_line ++ l)) one (walked_goes_on (take (suc k) rest) x wx))

-- a file of too many bytes is refused for them
too_long_refused : (file : List ℕ) → 22000006 < length file → read_run_of file ≡ Err (Over 9 22000007)
too_long_refused file long =
    let test : nat_lt 22000006 (length file) ≡ true = grind (arith, nat_tests) in
    ap (λ (t : Bool). if t then Err (Over 9 22000007) else read_behind (head_fault head_line 0 file) file) test

-- no more values than these, and none is begun
fits_all : (vs : List ℤ) → length vs ≤ 1000000 → length vs + begun fresh_line ≤ 1000000
fits_all vs h = omega (arith, h)

over_there : (file rest : List ℕ) → file ≡ head_line ++ rest → HasOneMore file → read_from [] fresh_line 6 rest ≡ Err (Over 9 1000001)
over_there file rest is (vs, b, more, spelled, short, many, on) =
    let whole : AreShort (take 1000000 vs ++ drop 1000000 vs) = subst AreShort (sym (take-append-drop 1000000 vs)) short in
    let million : length (take 1000000 vs) ≡ 1000000 = length-take 1000000 vs ∙ omega (arith, many) in
    let lines_are : rest ≡ lines_text vs ++ b ∷ more = same_front head_line rest (lines_text vs ++ b ∷ more) (sym is ∙ spelled) in
    let cut : rest ≡ lines_text (take 1000000 vs) ++ (lines_text (drop 1000000 vs) ++ b ∷ more) = lines_are ∙ cut_lines vs b more in
    let front = lines_walk (take 1000000 vs) [] (short_front (take 1000000 vs) (drop 1000000 vs) whole) in
    let (q, to_one) = walks_one vs b on in
    let behind : walk (place (take 1000000 vs) fresh_line) (lines_text (drop 1000000 vs) ++ b ∷ []) ≡ Some q =
    sym (walk_append (lines_text (take 1000000 vs)) (lines_text (drop 1000000 vs) ++ b ∷ []) begin (place (take 1000000 vs) fresh_line) front) ∙ ap (walk begin) (sym (cut_lines vs b [])) ∙ to_one in
    let (c, ys, starts) = begins (lines_text (drop 1000000 vs)) b in
    let goes : walk (place (take 1000000 vs) fresh_line) (c ∷ ys) ≡ Some q = ap (walk (place (take 1000000 vs) fresh_line)) (sym starts) ∙ behind in
    let further : lines_text (drop 1000000 vs) ++ b ∷ more ≡ (c ∷ ys) ++ more = one_behind (lines_text (drop 1000000 vs)) b more ∙ ap (λ (l : List ℕ). l ++ more) starts in
    ap (read_from [] fresh_line 6) (cut ∙ ap (λ (l : List ℕ). lines_text (take 1000000 vs) ++ l) further)
    ∙ read_along (c ∷ (ys ++ more)) (lines_text (take 1000000 vs)) begin (place (take 1000000 vs) fresh_line) 6 front (fits_all (take 1000000 vs) (omega (arith, million)))
    ∙ (let (r, s, go) = some_step (step (place (take 1000000 vs) fresh_line) c) ys q goes in passes (take 1000000 vs) (6 + length (lines_text (take 1000000 vs))) c (ys ++ more) r million s)
  where
    -- run text that goes on is walked
    walks_one : (vs : List ℤ) (b : ℕ) → GoesOn (run_text vs ++ b ∷ []) → (q : Place) × (walk begin (lines_text vs ++ b ∷ []) ≡ Some q)
    walks_one vs b on = by_walk (walk begin (lines_text vs ++ b ∷ [])) refl
      where
        by_walk : (o : Option Place) → walk begin (lines_text vs ++ b ∷ []) ≡ o → (q : Place) × (walk begin (lines_text vs ++ b ∷ []) ≡ Some q)
        by_walk (Some q) w = (q, w)
        by_walk None w = absurd (stopped_goes_on_not (lines_text vs ++ b ∷ []) w on)

pub over_named : OverIsNamed
over_named file m c = (over file (read_run_of file) m c (how_read file), back)
  where
    over_is : (r : Reading) (n k : ℕ) → r ≡ Err (Over n k) → m ≡ n → c ≡ k → r ≡ Err (Over m c)
    over_is r n k e a b = e ∙ ap (λ (x : ℕ). Err (Over x k)) (sym a) ∙ ap (λ (x : ℕ). Err (Over m x)) (sym b)

    back : (m ≡ 9) × (((22000006 < length file) × (c ≡ 22000007)) ⊎ ((length file ≤ 22000006) × (c ≡ 1000001) × HasOneMore file)) → read_run_of file ≡ Err (Over m c)
    back (nine, inl (long, count)) = over_is (read_run_of file) 9 22000007 (too_long_refused file long) nine count
    back (nine, inr (short, count, more)) = over_is (read_run_of file) 9 1000001 (by_read (read_run_of file) (how_read file)) nine count
      where
        by_read : (r : Reading) → Read file r → r ≡ Err (Over 9 1000001)
        by_read r (too_long l) = absurd (omega (arith, l, short))
        by_read r (no_head k le d) = absurd (let (vs, b, rest, spelled, few_digits, many, on) = more in by_end vs b rest spelled (cases_lt k (length file)))
          where
            by_end : (vs : List ℤ) (b : ℕ) (rest : List ℕ) → file ≡ run_text vs ++ b ∷ rest → (k < length file) ⊎ (length file ≤ k) → ⊥
            by_end vs b rest spelled (inl lt) = d.apart lt (drop (suc k) file) (lines_text vs ++ b ∷ rest) (take-append-drop (suc k) file ∙ spelled)
            by_end vs b rest spelled (inr ge) = let e = ap length spelled in let i = d.inside in omega (arith, e, ge, i)
        by_read r (headed rest le is) = over_there file rest is more
