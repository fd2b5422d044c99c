-- The hash of a certificate is read to what it is.
use Rattle.std.proofs.Common.{◌≡◌, ℕ, ◌+◌, ◌-◌, ◌*◌, ◌/◌, ◌%◌, ◌<◌, Bool, true, false, List, [], ◌∷◌, ◌++◌, length, Option, Some, refl, sym, ap, ◌∙◌, arith, if◌then◌else◌, append_assoc, length-append, nat_le, nat_lt}
use Rattle.std.specs.Prelude.{option_and_then, slice_set}
use Rattle.std.proofs.lemmas.Bool.Decides.{nat_tests}
use Rattle.cert_text.specs.declared.place.Fixed.TheVariants.{BeforeModel}
use Rattle.cert_text.specs.declared.place.Slot.TheVariants.{Text, High, Low}
use Rattle.cert_text.specs.declared.place.Place.{Place}
use Rattle.cert_text.specs.declared.place.Part.TheVariants.{Fresh}
use Rattle.cert_text.specs.declared.steps.Act.TheVariants.{Byte}
use Rattle.cert_text.specs.CertText.{hex_digit, hex_text}
use Rattle.cert_text.specs.Fields.{hex_value}
use Rattle.cert_text.specs.Steps.{place_of, go, digit_by, low_read}
use Rattle.cert_text.specs.Drafts.{Said, acted}
use Rattle.cert_text.specs.Ranges.{IsByte}
use Rattle.certificate_laws.specs.Fits.{AllFit}
use Rattle.certificate_laws.proofs.Walks.{State, at, moved, walk}

digit_told : (d : ℕ) → d < 16 → hex_value (hex_digit d) ≡ Some d
digit_told d small = by_size (nat_lt d 10) refl
  where
    by_size : (b : Bool) → nat_lt d 10 ≡ b → hex_value (if b then 48 + d else 87 + d) ≡ Some d
    by_size true e =
        let low : nat_le 48 (48 + d) ≡ true = grind (arith, nat_tests) in
        let high : nat_le (48 + d) 57 ≡ true = grind (arith, nat_tests) in
        let same : 48 + d - 48 ≡ d = omega arith in
        rw (low, high) (ap (λ (k : ℕ). Some k) same)
    by_size false e =
        let low : nat_le 48 (87 + d) ≡ true = grind (arith, nat_tests) in
        let high : nat_le (87 + d) 57 ≡ false = grind (arith, nat_tests) in
        let from : nat_le 97 (87 + d) ≡ true = grind (arith, nat_tests) in
        let to : nat_le (87 + d) 102 ≡ true = grind (arith, nat_tests) in
        let same : 87 + d - 87 ≡ d = omega arith in
        rw (low, high, from, to) (ap (λ (k : ℕ). Some k) same)

-- what is said with this hash
abbrev pub with_hash : Said → List ℕ → Said
with_hash s hash = record { hash = hash; model = s.model; layout = s.layout; terms = s.terms; formulas = s.formulas; logs = s.logs; log = s.log; chain = s.chain }

abbrev pub high_at : ℕ → Place
high_at k = place_of (High k) 0 0

-- where reading stands behind a byte of the hash
abbrev behind_byte : ℕ → Place
behind_byte k = if nat_le 31 k then place_of (Text BeforeModel) 0 0 else high_at (k + 1)

low_moves : (s : State) (k high low b : ℕ) → (high + low) % 256 ≡ b → moved s (low_read k high low) ≡ Some (at (acted (Byte k b) s.said) (behind_byte k) Fresh)
low_moves s k high low b e = by_last (nat_le 31 k) ∙ ap (λ (x : ℕ). Some (at (acted (Byte k x) s.said) (behind_byte k) Fresh)) e
  where
    by_last : (l : Bool) → moved s (if l then go (Text BeforeModel) 0 (Byte k ((high + low) % 256)) else go (High (k + 1)) 0 (Byte k ((high + low) % 256)))
        ≡ Some (at (acted (Byte k ((high + low) % 256)) s.said) (if l then place_of (Text BeforeModel) 0 0 else high_at (k + 1)) Fresh)
    by_last true = refl
    by_last false = refl

byte_walks : (said : Said) (k b : ℕ) (rest : List ℕ) → b < 256 → walk (at said (high_at k) Fresh) (hex_digit (b / 16) ∷ hex_digit (b % 16) ∷ rest) ≡ walk (at (acted (Byte k b) said) (behind_byte k) Fresh) rest
byte_walks said k b rest small =
    ap (λ (o : Option ℕ). option_and_then (λ q. walk q (hex_digit (b % 16) ∷ rest)) (moved (at said (high_at k) Fresh) (digit_by (High k) o))) (digit_told (b / 16) (omega (arith, small)))
    ∙ ap (λ (o : Option ℕ). option_and_then (λ q. walk q rest) (moved (at said (place_of (Low k (b / 16 * 16)) 0 0) Fresh) (digit_by (Low k (b / 16 * 16)) o))) (digit_told (b % 16) (omega arith))
    ∙ ap (λ (o : Option State). option_and_then (λ q. walk q rest) o) (low_moves (at said (place_of (Low k (b / 16 * 16)) 0 0) Fresh) k (b / 16 * 16) (b % 16) b (omega (arith, small)))

set_behind : (pre zs : List ℕ) (z b : ℕ) → slice_set (pre ++ z ∷ zs) (length pre) b ≡ pre ++ b ∷ zs
set_behind [] zs z b = refl
set_behind (p ∷ pre) zs z b = ap (λ (l : List ℕ). p ∷ l) (set_behind pre zs z b)

-- one byte of a hash of 32
one_byte : (pre zs : List ℕ) (b z : ℕ) (base : Said) (rest : List ℕ) → length pre < 32 → b < 256
    → walk (at (with_hash base (pre ++ z ∷ zs)) (high_at (length pre)) Fresh) (hex_digit (b / 16) ∷ hex_digit (b % 16) ∷ rest) ≡ walk (at (with_hash base (pre ++ b ∷ zs)) (behind_byte (length pre)) Fresh) rest
one_byte pre zs b z base rest within small =
    let inside : nat_lt (length pre) 32 ≡ true = grind (arith, nat_tests) in
    byte_walks (with_hash base (pre ++ z ∷ zs)) (length pre) b rest small
    ∙ ap (λ (t : Bool). walk (at (with_hash base (if t then slice_set (pre ++ z ∷ zs) (length pre) b else pre ++ z ∷ zs)) (behind_byte (length pre)) Fresh) rest) inside
    ∙ ap (λ (l : List ℕ). walk (at (with_hash base l) (behind_byte (length pre)) Fresh) rest) (set_behind pre zs z b)

-- the bytes of a hash that are left, behind those that were read
pub hash_walks : (bs pre zs : List ℕ) (b z : ℕ) (base : Said) (rest : List ℕ) → length pre + length (b ∷ bs) ≡ 32 → length bs ≡ length zs → AllFit IsByte (b ∷ bs)
    → walk (at (with_hash base (pre ++ z ∷ zs)) (high_at (length pre)) Fresh) (hex_text (b ∷ bs) ++ rest) ≡ walk (at (with_hash base (pre ++ b ∷ bs)) (place_of (Text BeforeModel) 0 0) Fresh) rest
hash_walks [] pre [] b z base rest size same fits =
    let last : nat_le 31 (length pre) ≡ true = grind (arith, nat_tests) in
    one_byte pre [] b z base rest (omega (arith, size)) fits.0
    ∙ ap (λ (t : Bool). walk (at (with_hash base (pre ++ b ∷ [])) (if t then place_of (Text BeforeModel) 0 0 else high_at (length pre + 1)) Fresh) rest) last
hash_walks [] pre (y ∷ zs) b z base rest size same fits = absurd (omega (arith, same))
hash_walks (c ∷ bs) pre [] b z base rest size same fits = absurd (omega (arith, same))
hash_walks (c ∷ bs) pre (y ∷ zs) b z base rest size same fits =
    let more : nat_le 31 (length pre) ≡ false = grind (arith, nat_tests) in
    let grown : length (pre ++ b ∷ []) ≡ length pre + 1 = omega (arith, length-append pre (b ∷ [])) in
    let size2 : length (pre ++ b ∷ []) + length (c ∷ bs) ≡ 32 = omega (arith, grown, size) in
    let same2 : length bs ≡ length zs = omega (arith, same) in
    one_byte pre (y ∷ zs) b z base (hex_text (c ∷ bs) ++ rest) (omega (arith, size)) fits.0
    ∙ ap (λ (t : Bool). walk (at (with_hash base (pre ++ b ∷ y ∷ zs)) (if t then place_of (Text BeforeModel) 0 0 else high_at (length pre + 1)) Fresh) (hex_text (c ∷ bs) ++ rest)) more
    ∙ ap (λ (k : ℕ). walk (at (with_hash base (pre ++ b ∷ y ∷ zs)) (high_at k) Fresh) (hex_text (c ∷ bs) ++ rest)) (sym grown)
    ∙ ap (λ (l : List ℕ). walk (at (with_hash base l) (high_at (length (pre ++ b ∷ []))) Fresh) (hex_text (c ∷ bs) ++ rest)) (sym (append_assoc pre (b ∷ []) (y ∷ zs)))
    ∙ hash_walks bs (pre ++ b ∷ []) zs c y base rest size2 same2 fits.1
    ∙ ap (λ (l : List ℕ). walk (at (with_hash base l) (place_of (Text BeforeModel) 0 0) Fresh) rest) (append_assoc pre (b ∷ []) (c ∷ bs))
