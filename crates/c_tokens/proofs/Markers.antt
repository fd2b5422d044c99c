-- Marker lines: what may follow their `#`.
use Rattle.std.proofs.Common.{◌≡◌, ℕ, zero, suc, ◌+◌, List, [], ◌∷◌, ◌++◌, length, take, drop, refl, sym, ◌∙◌, ap, subst, arith, Bool, true, false, cond, inl, inr, ◌⊎◌, append-nil}
use Rattle.std.specs.Prelude.{◌||◌, not, slice_index, codes}
use Rattle.std.specs.List.{prefix_len}
use Rattle.std.specs.Str.{bytes_eq}
use Rattle.std.proofs.lemmas.Bool.{or_cases, or_left, or_right, and_left, eqb-true}
use Rattle.std.proofs.lemmas.List.{take-append-drop, drop_at}
use Rattle.std.proofs.lemmas.List.Sums.{prefix_len-le-length}
use Rattle.std.proofs.lemmas.Slice.Eq.{bytes_eq-Decides}
use Rattle.c_lexer.specs.Bytes.{is_blank, is_line_end, is_letter, is_digit, is_word_byte}
use Rattle.c_lexer.specs.Scan.{word_width}
use Rattle.c_lexer.specs.Steps.{is_gap, is_marker, is_marker_word}
use Rattle.c_tokens.specs.Spans.{Each, Longest}
use Rattle.c_tokens.specs.Forms.{IsWord, IsMarker, IsMarkerTail, IsMarkerWord, is_line_blank}
use Rattle.c_tokens.specs.Forms.IsMarkerTail.{at_end, at_line_end, at_digit, at_word}
use Rattle.c_tokens.proofs.Classes.{letter_tests, digit_tests}
use Rattle.c_tokens.proofs.Sights.{marker_tail}
use Rattle.c_tokens.proofs.SpanLemmas.{prefix_each, each_prefix, prefix_stops, prefix_whole, one_longest}

same_bytes : (xs ys : List ℕ) → bytes_eq xs ys ≡ true → xs ≡ ys
same_bytes xs ys is = (bytes_eq-Decides xs ys).0 is

bytes_same : (xs ys : List ℕ) → xs ≡ ys → bytes_eq xs ys ≡ true
bytes_same xs ys is = (bytes_eq-Decides xs ys).1 is

marker_word_is : (word : List ℕ) → is_marker_word word ≡ true → IsMarkerWord word
marker_word_is word e = elim (or_cases (bytes_eq word (codes "line") || bytes_eq word (codes "pragma")) (bytes_eq word (codes "ident")) e) [
  | inr h ↦ inr (inr (same_bytes word (codes "ident") h))
  | inl g ↦ elim (or_cases (bytes_eq word (codes "line")) (bytes_eq word (codes "pragma")) g) [
    | inl h ↦ inl (same_bytes word (codes "line") h)
    | inr h ↦ inr (inl (same_bytes word (codes "pragma") h))
  ]
]

marker_word_found : (word : List ℕ) → IsMarkerWord word → is_marker_word word ≡ true
marker_word_found word (inl e) = ap is_marker_word e
marker_word_found word (inr (inl e)) = ap is_marker_word e
marker_word_found word (inr (inr e)) = ap is_marker_word e

is_word_there : (word : List ℕ) → IsMarkerWord word → IsWord word
is_word_there word (inl e) = subst IsWord (sym e) (refl, (refl, (refl, (refl, tt))))
is_word_there word (inr (inl e)) = subst IsWord (sym e) (refl, (refl, (refl, (refl, (refl, (refl, tt))))))
is_word_there word (inr (inr e)) = subst IsWord (sym e) (refl, (refl, (refl, (refl, (refl, tt)))))

word_bytes : (word : List ℕ) → IsWord word → Each is_word_byte word
word_bytes [] w = absurd w
word_bytes (b ∷ bytes) w = (or_left (is_letter b) (is_digit b) w.0, w.1)

-- the longest word, where one begins
word_longest : (tail : List ℕ) → IsWord (take (word_width tail) tail) → Longest IsWord tail (word_width tail)
word_longest tail word = record {
  there = prefix_len-le-length is_word_byte tail;
  formed = word;
  most = λ k more within other. absurd (omega (arith, each_prefix is_word_byte tail k within (word_bytes (take k tail) other)));
}

tail_is : (tail : List ℕ) → is_marker tail ≡ true → IsMarkerTail tail
tail_is [] e = at_end refl
tail_is (b ∷ tail) e = elim (or_cases (is_line_end b || is_digit b) (is_marker_word (take (word_width (b ∷ tail)) (b ∷ tail))) e) [
  | inr word ↦ let w = marker_word_is (take (word_width (b ∷ tail)) (b ∷ tail)) word in at_word (word_width (b ∷ tail)) (word_longest (b ∷ tail) (is_word_there (take (word_width (b ∷ tail)) (b ∷ tail)) w)) w
  | inl g ↦ elim (or_cases (is_line_end b) (is_digit b) g) [
    | inl end ↦ at_line_end (tail, ap (λ (n : ℕ). n ∷ tail) (eqb-true b 10 end))
    | inr digit ↦ at_digit b digit (tail, refl)
  ]
]

-- a tail is found, and no blank of its line begins it
tail_found : (tail : List ℕ) → IsMarkerTail tail → (is_marker tail ≡ true) × ((tail ≡ []) ⊎ ((tail ≡ [] → ⊥) × (is_gap (slice_index tail 0) ≡ false)))
tail_found tail (at_end e) = (ap is_marker e, inl e)
tail_found tail (at_line_end b) = (ap is_marker b.1, inr (λ e. cc (sym b.1 ∙ e), ap (λ (l : List ℕ). is_gap (slice_index l 0)) b.1))
tail_found tail (at_digit d digit b) = (
  ap is_marker b.1 ∙ or_left (is_line_end d || is_digit d) _ (or_right (is_line_end d) (is_digit d) digit),
  inr (λ e. cc (sym b.1 ∙ e), ap (λ (l : List ℕ). is_gap (slice_index l 0)) b.1 ∙ and_left (is_blank d) (not (is_line_end d)) (digit_tests d digit).0),
)
tail_found [] (at_word n longest word) = absurd (no_take n longest.formed)
  where
    no_take : (n : ℕ) → IsWord (take n []) → ⊥
    no_take zero w = w
    no_take (suc n) w = w
tail_found (b ∷ tail) (at_word n longest word) =
    let letter : is_letter b ≡ true = first n longest.formed in
    let width : n ≡ word_width (b ∷ tail) = one_longest IsWord (b ∷ tail) n (word_width (b ∷ tail)) longest (word_longest (b ∷ tail) (whole letter)) in
    let found : is_marker_word (take (word_width (b ∷ tail)) (b ∷ tail)) ≡ true = ap (λ (k : ℕ). is_marker_word (take k (b ∷ tail))) (sym width) ∙ marker_word_found (take n (b ∷ tail)) word in
    (or_right (is_line_end b || is_digit b) (is_marker_word (take (word_width (b ∷ tail)) (b ∷ tail))) found, inr (λ e. cc e, and_left (is_blank b) (not (is_line_end b)) (letter_tests b letter).0))
  where
    first : (k : ℕ) → IsWord (take k (b ∷ tail)) → is_letter b ≡ true
    first zero w = absurd w
    first (suc k) w = w.0

    whole : is_letter b ≡ true → IsWord (take (word_width (b ∷ tail)) (b ∷ tail))
    whole letter =
        let next : word_width (b ∷ tail) ≡ suc (word_width tail) =
        ap (λ (t : Bool). cond t (1 + word_width tail) 0) (or_left (is_letter b) (is_digit b) letter) ∙ omega arith in
        subst (λ (k : ℕ). IsWord (take k (b ∷ tail))) (sym next) (letter, prefix_each is_word_byte tail)

pub marker_is : (bytes : List ℕ) → marker_tail bytes ≡ true → IsMarker (35 ∷ bytes)
marker_is bytes e =
    let k : ℕ = prefix_len is_gap bytes in
    (take (prefix_len is_gap bytes) bytes, drop (prefix_len is_gap bytes) bytes, ap (λ (l : List ℕ). 35 ∷ l) (sym (take-append-drop (prefix_len is_gap bytes) bytes)), prefix_each is_gap bytes, tail_is (drop (prefix_len is_gap bytes) bytes) e)

pub marker_found : (bytes : List ℕ) → IsMarker (35 ∷ bytes) → marker_tail bytes ≡ true
marker_found bytes m = by_tail m.0 m.1 (tail_of m.2) m.3 (tail_found m.1 m.4)
  where
    tail_of : {x y : ℕ} {xs ys : List ℕ} → x ∷ xs ≡ y ∷ ys → xs ≡ ys
    tail_of e = cc e

    by_tail : (gap tail : List ℕ) → bytes ≡ gap ++ tail → Each is_line_blank gap → (is_marker tail ≡ true) × ((tail ≡ []) ⊎ ((tail ≡ [] → ⊥) × (is_gap (slice_index tail 0) ≡ false))) → marker_tail bytes ≡ true
    by_tail gap tail is each found =
        let width : prefix_len is_gap (gap ++ tail) ≡ length gap = elim found.1 [
          | inl e ↦ ap (λ (l : List ℕ). prefix_len is_gap (gap ++ l)) e ∙ ap (λ (l : List ℕ). prefix_len is_gap l) (append-nil gap) ∙ prefix_whole is_gap gap each
          | inr s ↦ prefix_stops is_gap gap tail each s.0 s.1
        ] in
        ap marker_tail is ∙ ap (λ (k : ℕ). is_marker (drop k (gap ++ tail))) width ∙ ap is_marker (drop_at gap tail (length gap) refl) ∙ found.0
