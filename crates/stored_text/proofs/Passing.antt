-- Where reading passes the limit.
use Rattle.std.proofs.Common.{◌≡◌, ℕ, ◌+◌, ◌<◌, ◌≤◌, ℤ, Bool, true, false, List, [], ◌∷◌, ◌++◌, length, take, drop, Option, Some, None, Ok, Err, refl, sym, ap, ◌∙◌, subst, arith, nat_le, append_assoc, take-append-drop}
use Rattle.std.proofs.lemmas.Bool.{and_parts, leb-true, both_ways}
use Rattle.std.proofs.lemmas.Bool.Decides.{nat_tests}
use Rattle.stored_text.specs.declared.StoredFail.TheVariants.{Over}
use Rattle.stored_text.specs.declared.line.Next.{Next}
use Rattle.stored_text.specs.Line.{fresh_line, is_fresh, next_of}
use Rattle.stored_text.specs.RunText.{lines_text, AreShort}
use Rattle.stored_text.specs.Reading.{Reading, answered, is_full, read_from}
use Rattle.stored_text.proofs.Walks.{Place, place, step, walk, Does, Does.refuses, Does.fills, Does.ends, Does.goes, does}
use Rattle.stored_text.proofs.Exact.{begun, some_step, count_walk, fresh_step, lines_append}

-- reading goes along a walk that passes no limit
module _ (ys : List ℕ) where
  pub read_along : (xs : List ℕ) (p q : Place) (at : ℕ) → walk p xs ≡ Some q → length q.values + begun q.line ≤ 1000000 → read_from p.values p.line at (xs ++ ys) ≡ read_from q.values q.line (at + length xs) ys
  read_along [] p q at w room =
      let same : p ≡ q = cc w in
      let here : at ≡ at + 0 = omega arith in
      ap (λ (x : Place). read_from x.values x.line at ys) same ∙ ap (λ (n : ℕ). read_from q.values q.line n ys) here
  read_along (b ∷ xs) p q at w room =
      let (r, s, go) = some_step (step p b) xs q w in
      by_case (next_of (is_full p.values p.line) p.line b) (does (is_full p.values p.line) p b) r s go (λ x. read_along xs x q (at + 1))
    where
      answer : Next → Reading
      answer n = answered at n (λ v. read_from (p.values ++ v ∷ []) fresh_line (at + 1) (xs ++ ys)) (λ next. read_from p.values next (at + 1) (xs ++ ys))

      end : Reading
      end = read_from q.values q.line (at + length (b ∷ xs)) ys

      moved_on : (x r : Place) → step p b ≡ Some x → step p b ≡ Some r → walk r xs ≡ Some q → ((z : Place) → walk z xs ≡ Some q → length q.values + begun q.line ≤ 1000000 → read_from z.values z.line (at + 1) (xs ++ ys) ≡ read_from q.values q.line (at + 1 + length xs) ys)
          → read_from x.values x.line (at + 1) (xs ++ ys) ≡ end
      moved_on x r to s go ih =
          let same : r ≡ x = cc (sym s ∙ to) in
          let here : at + 1 + length xs ≡ at + length (b ∷ xs) = omega arith in
          ih x (subst (λ (z : Place). walk z xs ≡ Some q) same go) room ∙ ap (λ (n : ℕ). read_from q.values q.line n ys) here

      by_case : (n : Next) → Does (is_full p.values p.line) p b n → (r : Place) → step p b ≡ Some r → walk r xs ≡ Some q
          → ((z : Place) → walk z xs ≡ Some q → length q.values + begun q.line ≤ 1000000 → read_from z.values z.line (at + 1) (xs ++ ys) ≡ read_from q.values q.line (at + 1 + length xs) ys) → answer n ≡ end
      by_case n (refuses e stop) r s go ih = absurd (cc (sym stop ∙ s))
      by_case n (fills e f x to) r s go ih =
          let parts = and_parts (is_fresh p.line) (nat_le 1000000 (length p.values)) f in
          let many = leb-true 1000000 (length p.values) parts.1 in
          let more = fresh_step p r b parts.0 s in
          let still = count_walk xs r q go in
          absurd (omega (arith, many, more, still, room))
      by_case n (ends v e f l to) r s go ih = ap answer e ∙ moved_on (place (p.values ++ v ∷ []) fresh_line) r to s go ih
      by_case n (goes l e f g to) r s go ih = ap answer e ∙ moved_on (place p.values l) r to s go ih

full_there : (vs : List ℤ) → length vs ≡ 1000000 → is_full vs fresh_line ≡ true
full_there vs h = let test : nat_le 1000000 (length vs) ≡ true = grind (arith, nat_tests) in test

-- behind a million values a byte with which the walk goes on passes the limit
pub passes : (vs : List ℤ) (at b : ℕ) (bytes : List ℕ) (r : Place) → length vs ≡ 1000000 → step (place vs fresh_line) b ≡ Some r → read_from vs fresh_line at (b ∷ bytes) ≡ Err (Over 9 1000001)
passes vs at b bytes r all s = by_case (next_of (is_full vs fresh_line) fresh_line b) (does (is_full vs fresh_line) (place vs fresh_line) b)
  where
    answer : Next → Reading
    answer n = answered at n (λ v. read_from (vs ++ v ∷ []) fresh_line (at + 1) bytes) (λ next. read_from vs next (at + 1) bytes)

    full : is_full vs fresh_line ≡ true
    full = full_there vs all

    by_case : (n : Next) → Does (is_full vs fresh_line) (place vs fresh_line) b n → answer n ≡ Err (Over 9 1000001)
    by_case n (refuses e stop) = absurd (cc (sym stop ∙ s))
    by_case n (fills e f p go) = ap answer e
    by_case n (ends v e f l go) = absurd (both_ways (is_full vs fresh_line) f full)
    by_case n (goes l e f g go) = absurd (both_ways (is_full vs fresh_line) f full)

-- what stands behind a million lines of more
pub cut_lines : (vs : List ℤ) (b : ℕ) (rest : List ℕ) → lines_text vs ++ b ∷ rest ≡ lines_text (take 1000000 vs) ++ (lines_text (drop 1000000 vs) ++ b ∷ rest)
cut_lines vs b rest =
    ap (λ (l : List ℕ). l ++ b ∷ rest) (ap lines_text (sym (take-append-drop 1000000 vs)) ∙ lines_append (take 1000000 vs) (drop 1000000 vs))
    ∙ append_assoc (lines_text (take 1000000 vs)) (lines_text (drop 1000000 vs)) (b ∷ rest)

pub short_front : (xs ys : List ℤ) → AreShort (xs ++ ys) → AreShort xs
short_front [] ys h = tt
short_front (x ∷ xs) ys h = (h.0, short_front xs ys h.1)

-- a list with a byte behind it begins with some byte
pub begins : (xs : List ℕ) (b : ℕ) → (c : ℕ) × (ys : List ℕ) × (xs ++ b ∷ [] ≡ c ∷ ys)
begins [] b = (b, [], refl)
begins (x ∷ xs) b = (x, xs ++ b ∷ [], refl)

pub one_behind : (xs : List ℕ) (b : ℕ) (rest : List ℕ) → xs ++ b ∷ rest ≡ (xs ++ b ∷ []) ++ rest
one_behind xs b rest = sym (append_assoc xs (b ∷ []) rest)
