-- Lists of a source, of its tree and of its code, one element more at a time.
use Rattle.std.proofs.Common.{◌≡◌, ℕ, zero, suc, ◌+◌, ◌-◌, ◌<◌, ◌≤◌, Bool, true, false, cond, List, [], ◌∷◌, ◌++◌, length, take, drop, get_or, map, Option, Some, None, Bor, refl, sym, ap, ◌∙◌, arith}
use Rattle.std.specs.Prelude.{slice_get, option_map}
use Rattle.std.specs.List.{prefix_len, suffix_len}
use Rattle.std.specs.Option.{option_copied}
use Rattle.std.specs.Slice.{IsItemAt}
use Rattle.std.proofs.Math.Seq.{take-suc}
use Rattle.std.proofs.lemmas.List.{map-append, reverse-append, drop_more, drop_all}
use Rattle.std.proofs.lemmas.Bool.Decides.{nat_tests}
use Rattle.trace_lines.specs.Excerpts.{is_in_order, is_blank, shown_byte}

module _ {A : Type 0} where
  pub take_more : (xs : List A) (i : ℕ) (d : A) → i < length xs → take (i + 1) xs ≡ take i xs ++ (get_or xs i d ∷ [])
  take_more xs i d b = let e : i + 1 ≡ suc i = omega arith in rw e (take-suc xs i d b)

  pub suffix_snoc : (p : A → Bool) (xs : List A) (x : A) → suffix_len p (xs ++ x ∷ []) ≡ cond (p x) (1 + suffix_len p xs) 0
  suffix_snoc p xs x = ap (prefix_len p) (reverse-append xs (x ∷ []))

  -- the last of so many elements passes, or not
  pub suffix_more : (p : A → Bool) (xs : List A) (i : ℕ) (d : A) → i < length xs → suffix_len p (take (i + 1) xs) ≡ cond (p (get_or xs i d)) (1 + suffix_len p (take i xs)) 0
  suffix_more p xs i d b = ap (suffix_len p) (take_more xs i d b) ∙ suffix_snoc p (take i xs) (get_or xs i d)

  pub suffix_at : (p : A → Bool) (xs : List A) (n : ℕ) (d : A) → 0 < n → n ≤ length xs → suffix_len p (take n xs) ≡ cond (p (get_or xs (n - 1) d)) (1 + suffix_len p (take (n - 1) xs)) 0
  suffix_at p xs n d a b = let e : n - 1 + 1 ≡ n = omega (arith, a) in ap (λ k. suffix_len p (take k xs)) (sym e) ∙ suffix_more p xs (n - 1) d (omega (arith, a, b))

  pub get_first : (xs : List A) (i : ℕ) → slice_get (drop i xs) 0 ≡ slice_get xs i
  get_first [] zero = refl
  get_first [] (suc i) = refl
  get_first (x ∷ xs) zero = refl
  get_first (x ∷ xs) (suc i) = get_first xs i

  pub get_read : (xs : List A) (i : ℕ) (x : A) → slice_get xs i ≡ Some x → drop i xs ≡ x ∷ drop (i + 1) xs
  get_read [] i x e = absurd cc
  get_read (y ∷ ys) zero x e = let f : y ≡ x = cc in ap (λ z. z ∷ ys) f
  get_read (y ∷ ys) (suc i) x e = let n : suc i + 1 ≡ suc (i + 1) = omega arith in get_read ys i x e ∙ ap (λ k. x ∷ drop k (y ∷ ys)) (sym n)

  pub get_past : (xs : List A) (i : ℕ) → slice_get xs i ≡ None → drop i xs ≡ []
  get_past [] zero e = refl
  get_past [] (suc i) e = refl
  get_past (y ∷ ys) zero e = absurd cc
  get_past (y ∷ ys) (suc i) e = get_past ys i e

pub get_map : {A B : Type 0} (f : A → B) (xs : List A) (i : ℕ) → slice_get (map f xs) i ≡ option_map f (slice_get xs i)
get_map f [] zero = refl
get_map f [] (suc i) = refl
get_map f (x ∷ xs) zero = refl
get_map f (x ∷ xs) (suc i) = get_map f xs i

-- ---- Bytes of a class, from the front or from the end

pub prefix_more : (p : ℕ → Bool) (xs : List ℕ) (i : ℕ) → i < length xs → prefix_len p (drop i xs) ≡ cond (p (get_or xs i 0)) (1 + prefix_len p (drop (i + 1) xs)) 0
prefix_more p xs i b = ap (prefix_len p) (drop_more xs i 0 b)

pub prefix_past : (p : ℕ → Bool) (xs : List ℕ) (i : ℕ) → length xs ≤ i → prefix_len p (drop i xs) ≡ 0
prefix_past p xs i b = ap (prefix_len p) (drop_all i xs b)

pub suffix_last : (p : ℕ → Bool) (xs : List ℕ) (n : ℕ) → 0 < n → n ≤ length xs → suffix_len p (take n xs) ≡ cond (p (get_or xs (n - 1) 0)) (1 + suffix_len p (take (n - 1) xs)) 0
suffix_last p xs n a b = suffix_at p xs n 0 a b

pub suffix_none : (p : ℕ → Bool) (xs : List ℕ) (n : ℕ) → n ≡ 0 → suffix_len p (take n xs) ≡ 0
suffix_none p xs n e = ap (λ k. suffix_len p (take k xs)) e

pub shown_more : (xs : List ℕ) (i : ℕ) → i < length xs → map shown_byte (take (i + 1) xs) ≡ map shown_byte (take i xs) ++ shown_byte (get_or xs i 0) ∷ []
shown_more xs i b = ap (map shown_byte) (take_more xs i 0 b) ∙ map-append shown_byte (take i xs) (get_or xs i 0 ∷ [])

pub shown_ascii : (b : ℕ) → shown_byte b < 128
shown_ascii b = by_tests (is_in_order 32 b 126) (is_blank b) refl
  where
    by_tests : (s t : Bool) → is_in_order 32 b 126 ≡ s → cond s b (cond t 32 63) < 128
    by_tests true t e = grind (arith, nat_tests)
    by_tests false true e = omega arith
    by_tests false false e = omega arith

-- ---- Elements that are lent

get-there : {X : Type 0} (xs : List X) (i : ℕ) (d : X) → i < length xs → slice_get xs i ≡ Some (get_or xs i d)
get-there [] i d h = absurd (omega (arith, h))
get-there (x ∷ xs) zero d h = refl
get-there (x ∷ xs) (suc i) d h = get-there xs i d (omega (arith, h))

get-past : {X : Type 0} (xs : List X) (i : ℕ) → length xs ≤ i → slice_get xs i ≡ None
get-past [] i h = refl
get-past (x ∷ xs) zero h = absurd (omega (arith, h))
get-past (x ∷ xs) (suc i) h = get-past xs i (omega (arith, h))

got : {X : Type 0} (xs : List X) (i : ℕ) (r : Option (Bor X)) → IsItemAt xs i r → option_copied r ≡ slice_get xs i
got xs i None h = sym (get-past xs i h.3)
got xs i (Some x) h = ap Some h.1 ∙ sym (get-there xs i x.now h.3.0)

-- without where it lies in memory
pub got_seen : {X Y : Type 0} (f : X → Y) (xs : List X) (i : ℕ) (r : Option (Bor X)) → IsItemAt xs i r → option_map f (option_copied r) ≡ slice_get (map f xs) i
got_seen f xs i r h = ap (option_map f) (got xs i r h) ∙ sym (get_map f xs i)
