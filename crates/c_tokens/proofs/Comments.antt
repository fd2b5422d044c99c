-- Comments and lines: how far they go.
use Rattle.std.proofs.Common.{◌≡◌, ℕ, zero, suc, ◌+◌, ◌<◌, ◌≤◌, List, [], ◌∷◌, ◌++◌, length, take, drop, refl, sym, ◌∙◌, ap, subst, arith, Bool, false, cond, inl, inr, ◌⊎◌, append_assoc, length-take-le}
use Rattle.std.specs.Prelude.{not, slice_index, codes, Some}
use Rattle.std.proofs.lemmas.List.{take-append-drop, take_at, length-append}
use Rattle.std.proofs.lemmas.List.Sums.{prefix_len-le-length}
use Rattle.c_lexer.specs.Bytes.{is_line_end}
use Rattle.c_lexer.specs.Scan.{comment_end, line_width}
use Rattle.c_tokens.specs.Spans.{Each, Longest, Shortest}
use Rattle.c_tokens.specs.Forms.{IsComment, IsLine, OpensComment}
use Rattle.c_tokens.proofs.Quotes.{commented, comment_ends}
use Rattle.c_tokens.proofs.SpanLemmas.{prefix_each, each_prefix}

pub tail_of : {x y : ℕ} {xs ys : List ℕ} → x ∷ xs ≡ y ∷ ys → xs ≡ ys
tail_of e = cc e

-- a comment at the front ends no later than any
pub comment_below : (xs : List ℕ) (k : ℕ) → k ≤ length (47 ∷ 42 ∷ xs) → IsComment (take k (47 ∷ 42 ∷ xs)) → (n : ℕ) × (comment_end false 0 xs ≡ Some n) × (n + 2 ≤ k)
comment_below xs zero within c = absurd (cc c.1)
comment_below xs (suc zero) within c = absurd (cc (tail_of c.1))
comment_below xs (suc (suc k)) within c =
    let taken : take k xs ≡ c.0 ++ codes "*/" = tail_of (tail_of c.1) in
    let whole : xs ≡ c.0 ++ 42 ∷ 47 ∷ drop k xs = sym (take-append-drop k xs) ∙ ap (λ (l : List ℕ). l ++ drop k xs) taken ∙ append_assoc c.0 (codes "*/") (drop k xs) in
    let found = comment_ends c.0 (drop k xs) false 0 in
    let count : length c.0 + 2 ≡ k = omega (arith, length-take-le k xs (omega arith), ap length taken, length-append c.0 (codes "*/")) in
    (found.0, ap (comment_end false 0) whole ∙ found.1, omega (arith, found.2))

pub comment_shortest : (xs : List ℕ) (n : ℕ) → comment_end false 0 xs ≡ Some n → Shortest IsComment (47 ∷ 42 ∷ xs) (suc (suc n))
comment_shortest xs n is =
    let c = commented xs n is in
    let split : xs ≡ (c.body ++ codes "*/") ++ c.more = c.written ∙ sym (append_assoc c.body (codes "*/") c.more) in
    let count : length (c.body ++ codes "*/") ≡ n = omega (arith, length-append c.body (codes "*/"), c.counted) in
    let taken : take n xs ≡ c.body ++ codes "*/" = ap (λ (l : List ℕ). take n l) split ∙ take_at (c.body ++ codes "*/") c.more n count in
    let fits : n ≤ length xs = omega (arith, ap length split, length-append (c.body ++ codes "*/") c.more, count) in
    record {
      there = omega arith;
      formed = (c.body, ap (λ (l : List ℕ). 47 ∷ 42 ∷ l) taken);
      least = λ k less other. least k less fits other;
    }
  where
    least : (k : ℕ) → k < suc (suc n) → n ≤ length xs → IsComment (take k (47 ∷ 42 ∷ xs)) → ⊥
    least k less fits other =
        let found = comment_below xs k (omega arith) other in
        let same : n ≡ found.0 = cc (sym is ∙ found.1) in
        absurd (omega (arith, found.2))

-- a line goes to its end
pub line_longest : (front xs : List ℕ) → Each (λ b. not (is_line_end b)) front → Longest (IsLine front) (front ++ xs) (line_width (front ++ xs))
line_longest front xs plain = record {
  there = prefix_len-le-length (λ b. not (is_line_end b)) (front ++ xs);
  formed = (take (line_width xs) xs, formed front plain, prefix_each (λ b. not (is_line_end b)) xs);
  most = λ k more within other. absurd (omega (arith, each_prefix (λ b. not (is_line_end b)) (front ++ xs) k within (whole (take k (front ++ xs)) other)));
}
  where
    formed : (fs : List ℕ) → Each (λ b. not (is_line_end b)) fs → take (line_width (fs ++ xs)) (fs ++ xs) ≡ fs ++ take (line_width xs) xs
    formed [] each = refl
    formed (f ∷ fs) each =
        let next : line_width (f ∷ (fs ++ xs)) ≡ suc (line_width (fs ++ xs)) = ap (λ (t : Bool). cond t (1 + line_width (fs ++ xs)) 0) each.0 ∙ omega arith in
        ap (λ (k : ℕ). take k (f ∷ (fs ++ xs))) next ∙ ap (λ (l : List ℕ). f ∷ l) (formed fs each.1)

    both : (fs body : List ℕ) → Each (λ b. not (is_line_end b)) fs → Each (λ b. not (is_line_end b)) body → Each (λ b. not (is_line_end b)) (fs ++ body)
    both [] body left right = right
    both (f ∷ fs) body left right = (left.0, both fs body left.1 right)

    whole : (text : List ℕ) → IsLine front text → Each (λ b. not (is_line_end b)) text
    whole text line = subst (λ (l : List ℕ). Each (λ b. not (is_line_end b)) l) (sym line.1) (both front line.0 plain line.2)

-- where a comment opens
pub opens_first : (b : ℕ) (bytes : List ℕ) → OpensComment (b ∷ bytes) → (b ≡ 47) × ((slice_index bytes 0 ≡ 42) ⊎ (slice_index bytes 0 ≡ 47))
opens_first b bytes (inl o) = (cc o.1, inl (ap (λ (l : List ℕ). slice_index l 0) (tail_of o.1)))
opens_first b bytes (inr o) = (cc o.1, inr (ap (λ (l : List ℕ). slice_index l 0) (tail_of o.1)))
