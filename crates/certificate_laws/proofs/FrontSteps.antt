-- A byte more is read: what was read grows by it, and what was known is known still.
use Rattle.std.proofs.Common.{◌≡◌, ℕ, suc, ◌+◌, ◌-◌, ◌*◌, ◌/◌, ◌%◌, ◌<◌, ◌≤◌, Bool, true, false, ◌||◌, List, [], ◌∷◌, ◌++◌, length, take, Option, Some, None, refl, sym, ap, ◌∙◌, subst, arith, ◌==◌, if◌then◌else◌, append_assoc, append-nil, nat_le, nat_lt}
use Rattle.std.specs.Prelude.{codes, slice_index}
use Rattle.std.proofs.lemmas.List.{take_all}
use Rattle.std.proofs.lemmas.Bool.Decides.{nat_tests}
use Rattle.bv_term.specs.declared.term.Term.TheVariants.{Constant}
use Rattle.lv_base.specs.declared.kind.Model.{Model}
use Rattle.stored_text.specs.RunText.{number_text}
use Rattle.cert_text.specs.declared.place.Fixed.{Fixed}
use Rattle.cert_text.specs.declared.place.Fixed.TheVariants.{Head, BeforeModel, RestIlp32, RestLp64, BeforeTerms, BeforeNodes, BeforeLogs, BeforeChains, Close}
use Rattle.cert_text.specs.declared.place.Slot.{Slot}
use Rattle.cert_text.specs.declared.place.Slot.TheVariants.{Text, High, Low, Kind, Layout, Terms, Letter, Gap, First, Second, Third, Value, Nodes, Formula, Logs, Chains, Start, Pivot, Clause, Done}
use Rattle.cert_text.specs.declared.place.Part.{Part}
use Rattle.cert_text.specs.declared.place.Part.TheVariants.{Fresh, Matched, Digits, WideDigits}
use Rattle.cert_text.specs.declared.field.More.TheVariants.{Refused as MRefused, Part as MPart, Text as MText}
use Rattle.cert_text.specs.declared.steps.Next.{Next}
use Rattle.cert_text.specs.declared.steps.Next.TheVariants.{Refused, Part as NPart, Moves}
use Rattle.cert_text.specs.CertText.{model_text}
use Rattle.cert_text.specs.declared.place.Want.{Want}
use Rattle.cert_text.specs.declared.place.Want.TheVariants.{Number, Wide}
use Rattle.cert_text.specs.Places.{fixed_bytes, next_slot, want_of}
use Rattle.cert_text.specs.Fields.{digit_of, digit_more, digit_part, wide_digit_part, number_end, wide_end, longer, by_digit, number_more, wide_more, text_more}
use Rattle.cert_text.specs.Steps.{add, place_of, line, blank, moved_by, matched_of, number_read}
use Rattle.cert_text.specs.Drafts.{Said, applied}
use Rattle.cert_text.proofs.Digits.{last_digit, only_digit}
use Rattle.cert_text.specs.Ranges.{IsShort}
use Rattle.certificate_laws.proofs.Fronts.{Known, NumberFits, PartFits, WideFits, Stands, TextKnown, base, digits_read, field_text, model_front, text_base}
use Rattle.certificate_laws.proofs.Growing.{index_takes}

-- where reading stands behind a byte, these bytes being read
abbrev pub Follows : Said → Slot → ℕ → ℕ → List ℕ → Next → Type 0
Follows s slot left chains g Refused = Unit {0}
Follows s slot left chains g (NPart p) = Stands s slot left chains p g
Follows s slot left chains g (Moves m) = Stands (applied m s) m.to.slot m.to.left m.to.chains Fresh g

field_fresh : (slot : Slot) → field_text slot Fresh ≡ []
field_fresh (Text t) = refl
field_fresh (High at) = refl
field_fresh (Low at high) = refl
field_fresh Kind = refl
field_fresh Layout = refl
field_fresh Terms = refl
field_fresh Letter = refl
field_fresh (Gap f) = refl
field_fresh (First f) = refl
field_fresh (Second f a) = refl
field_fresh (Third f a b) = refl
field_fresh (Value w) = refl
field_fresh Nodes = refl
field_fresh Formula = refl
field_fresh Logs = refl
field_fresh Chains = refl
field_fresh Start = refl
field_fresh Pivot = refl
field_fresh (Clause p) = refl
field_fresh Done = refl

fresh_fits : (slot : Slot) → PartFits (want_of slot) Fresh
fresh_fits (Text Head) = omega arith
fresh_fits (Text BeforeModel) = omega arith
fresh_fits (Text RestIlp32) = omega arith
fresh_fits (Text RestLp64) = omega arith
fresh_fits (Text BeforeTerms) = omega arith
fresh_fits (Text BeforeNodes) = omega arith
fresh_fits (Text BeforeLogs) = omega arith
fresh_fits (Text BeforeChains) = omega arith
fresh_fits (Text Close) = omega arith
fresh_fits (High at) = tt
fresh_fits (Low at high) = tt
fresh_fits Kind = tt
fresh_fits Layout = tt
fresh_fits Terms = tt
fresh_fits Letter = tt
fresh_fits (Gap f) = tt
fresh_fits (First f) = tt
fresh_fits (Second f a) = tt
fresh_fits (Third f a b) = tt
fresh_fits (Value w) = tt
fresh_fits Nodes = tt
fresh_fits Formula = tt
fresh_fits Logs = tt
fresh_fits Chains = tt
fresh_fits Start = tt
fresh_fits Pivot = tt
fresh_fits (Clause p) = tt
fresh_fits Done = tt

-- a field begins
pub enter : (s : Said) (slot : Slot) (left chains : ℕ) (g : List ℕ) → g ≡ base s slot left chains → Known s slot left chains → Stands s slot left chains Fresh g
enter s slot left chains g e known = record {
  read = e ∙ (sym (append-nil (base s slot left chains)) ∙ ap (λ (l : List ℕ). base s slot left chains ++ l) (sym (field_fresh slot)));
  fits = fresh_fits slot;
  known = known;
}

-- the byte is a line's end, or a blank
pub by_line : (s : Said) (slot : Slot) (left chains : ℕ) (g : List ℕ) (byte : ℕ) (next : Next) → (byte ≡ 10 → Follows s slot left chains g next)
    → Follows s slot left chains g (line byte next)
by_line s slot left chains g byte next h = by_test (byte == 10) refl
  where
    by_test : (t : Bool) → (byte == 10) ≡ t → Follows s slot left chains g (if t then next else Refused)
    by_test true e = h (grind (arith, nat_tests))
    by_test false e = tt

pub by_blank : (s : Said) (slot : Slot) (left chains : ℕ) (g : List ℕ) (byte : ℕ) (next : Next) → (byte ≡ 32 → Follows s slot left chains g next)
    → Follows s slot left chains g (blank byte next)
by_blank s slot left chains g byte next h = by_test (byte == 32) refl
  where
    by_test : (t : Bool) → (byte == 32) ≡ t → Follows s slot left chains g (if t then next else Refused)
    by_test true e = h (grind (arith, nat_tests))
    by_test false e = tt

-- ---- Digits

digit_told : (b d : ℕ) → digit_of b ≡ Some d → (b ≡ 48 + d) × (d < 10)
digit_told b d e = by_low (nat_lt b 48) refl (nat_lt 57 b) refl e
  where
    by_low : (x : Bool) → nat_lt b 48 ≡ x → (y : Bool) → nat_lt 57 b ≡ y → (if x || y then None else Some (b - 48)) ≡ Some d → (b ≡ 48 + d) × (d < 10)
    by_low true ex y ey e = absurd (cc e)
    by_low false ex true ey e = absurd (cc e)
    by_low false ex false ey e =
        let is : b - 48 ≡ d = cc e in
        let low : 48 ≤ b = grind (arith, nat_tests) in
        let high : b ≤ 57 = grind (arith, nat_tests) in
        (omega (arith, is, low), omega (arith, is, high))

more_told : (most v d n : ℕ) → digit_more most v d ≡ Some n → (0 < v) × (n ≡ v * 10 + d) × (n ≤ most)
more_told most v d n e = by_zero (v == 0) refl (nat_lt most (v * 10 + d)) refl e
  where
    by_zero : (x : Bool) → (v == 0) ≡ x → (y : Bool) → nat_lt most (v * 10 + d) ≡ y
        → (if x then None else (if y then None else Some (v * 10 + d))) ≡ Some n → (0 < v) × (n ≡ v * 10 + d) × (n ≤ most)
    by_zero true ex y ey e = absurd (cc e)
    by_zero false ex true ey e = absurd (cc e)
    by_zero false ex false ey e =
        let is : v * 10 + d ≡ n = cc e in
        let some : 0 < v = grind (arith, nat_tests) in
        let room : v * 10 + d ≤ most = grind (arith, nat_tests) in
        (some, sym is, omega (arith, is, room))

-- a digit more
digit_grows : (v d : ℕ) → 0 < v → d < 10 → number_text (v * 10 + d) ≡ number_text v ++ (48 + d) ∷ []
digit_grows v d some small =
    let large : 10 ≤ v * 10 + d = omega (arith, some) in
    let tenth : (v * 10 + d) / 10 ≡ v = omega (arith, small) in
    let last : (v * 10 + d) % 10 ≡ d = omega (arith, small) in
    last_digit (v * 10 + d) large
    ∙ (ap (λ (k : ℕ). number_text k ++ (48 + (v * 10 + d) % 10) ∷ []) tenth ∙ ap (λ (k : ℕ). number_text v ++ (48 + k) ∷ []) last)

digit_only : (d : ℕ) → d < 10 → number_text d ≡ (48 + d) ∷ []
digit_only d small =
    let same : d % 10 ≡ d = omega (arith, small) in
    only_digit d small ∙ ap (λ (k : ℕ). (48 + k) ∷ []) same

module _ (s : Said) (slot : Slot) (left chains : ℕ) (f : List ℕ) (b : ℕ) where
  -- the part grows by the byte
  grown : (p q : Part) → Stands s slot left chains p f → ((p : Part) → field_text slot p ≡ digits_read p) → PartFits (want_of slot) q → digits_read q ≡ digits_read p ++ b ∷ []
      → Stands s slot left chains q (f ++ b ∷ [])
  grown p q h digits fits e = record {
    read = ap (λ (l : List ℕ). l ++ b ∷ []) h.read ∙ (append_assoc (base s slot left chains) (field_text slot p) (b ∷ [])
        ∙ ap (λ (l : List ℕ). base s slot left chains ++ l) (ap (λ (l : List ℕ). l ++ b ∷ []) (digits p) ∙ (sym e ∙ sym (digits q))));
    fits = fits;
    known = h.known;
  }

  -- the byte behind a number that was read
  behind : (p : Part) (v : ℕ) → Stands s slot left chains p f → field_text slot p ≡ number_text v → f ++ b ∷ [] ≡ base s slot left chains ++ (number_text v ++ b ∷ [])
  behind p v h e =
      ap (λ (l : List ℕ). l ++ b ∷ []) h.read ∙ (append_assoc (base s slot left chains) (field_text slot p) (b ∷ [])
      ∙ ap (λ (l : List ℕ). base s slot left chains ++ (l ++ b ∷ [])) e)

  -- of a number of 32 bits
  abbrev After : ℕ → Type 0
  After v = IsShort v → Follows s slot left chains (base s slot left chains ++ (number_text v ++ b ∷ [])) (number_read (place_of slot left chains) v b)

  pub numbered : (p : Part) → Stands s slot left chains p f → ((p : Part) → field_text slot p ≡ digits_read p) → want_of slot ≡ Number → ((v : ℕ) → After v)
      → Follows s slot left chains (f ++ b ∷ []) (moved_by (place_of slot left chains) 0 b (number_more p b))
  numbered p h digits wanted after = by_byte (digit_of b) refl
    where
      into : (q : Part) → NumberFits q → PartFits (want_of slot) q
      into q h = subst (λ (w : Want). PartFits w q) (sym wanted) h

      by_more : (v d : ℕ) (o : Option ℕ) → Stands s slot left chains (Digits v) f → b ≡ 48 + d → d < 10 → digit_more 4294967295 v d ≡ o
          → Follows s slot left chains (f ++ b ∷ []) (moved_by (place_of slot left chains) 0 b (longer (λ x. Digits x) o))
      by_more v d None h is small e = tt
      by_more v d (Some n) h is small e =
          let (some, same, room) = more_told 4294967295 v d n e in
          grown (Digits v) (Digits n) h digits (into (Digits n) room)
          (ap number_text same ∙ (digit_grows v d some small ∙ ap (λ (k : ℕ). number_text v ++ k ∷ []) (sym is)))

      by_digits : (p : Part) (d : ℕ) → Stands s slot left chains p f → b ≡ 48 + d → d < 10
          → Follows s slot left chains (f ++ b ∷ []) (moved_by (place_of slot left chains) 0 b (digit_part p d))
      by_digits Fresh d h is small =
          let room : d ≤ 4294967295 = omega (arith, small) in
          grown Fresh (Digits d) h digits (into (Digits d) room) (digit_only d small ∙ ap (λ (k : ℕ). k ∷ []) (sym is))
      by_digits (Matched at) d h is small = tt
      by_digits (Digits v) d h is small = by_more v d (digit_more 4294967295 v d) h is small refl
      by_digits (WideDigits v) d h is small = tt

      by_end : (p : Part) → Stands s slot left chains p f → Follows s slot left chains (f ++ b ∷ []) (moved_by (place_of slot left chains) 0 b (number_end p))
      by_end Fresh h = tt
      by_end (Matched at) h = tt
      by_end (Digits v) h =
          subst (λ (g : List ℕ). Follows s slot left chains g (number_read (place_of slot left chains) v b)) (sym (behind (Digits v) v h (digits (Digits v)))) (after v (subst (λ (w : Want). PartFits w (Digits v)) wanted h.fits))
      by_end (WideDigits v) h = tt

      by_byte : (o : Option ℕ) → digit_of b ≡ o
          → Follows s slot left chains (f ++ b ∷ []) (moved_by (place_of slot left chains) 0 b (by_digit o (λ d. digit_part p d) (number_end p)))
      by_byte None e = by_end p h
      by_byte (Some d) e = let (is, small) = digit_told b d e in by_digits p d h is small

  -- of a number of 128 bits
  abbrev AfterWide : ℕ → ℕ → Type 0
  AfterWide w v = v ≤ 340282366920938463463374607431768211455
      → Follows s slot left chains (base s slot left chains ++ (number_text v ++ b ∷ [])) (line b (add left (Constant w v)))

  pub wide_numbered : (p : Part) (w : ℕ) → Stands s slot left chains p f → ((p : Part) → field_text slot p ≡ digits_read p) → want_of slot ≡ Wide w → ((v : ℕ) → AfterWide w v)
      → Follows s slot left chains (f ++ b ∷ []) (moved_by (place_of slot left chains) w b (wide_more p b))
  wide_numbered p w h digits wanted after = by_byte (digit_of b) refl
    where
      into : (q : Part) → WideFits q → PartFits (want_of slot) q
      into q h = subst (λ (x : Want). PartFits x q) (sym wanted) h

      most : ℕ
      most = 340282366920938463463374607431768211455

      by_more : (v d : ℕ) (o : Option ℕ) → Stands s slot left chains (WideDigits v) f → b ≡ 48 + d → d < 10 → digit_more most v d ≡ o
          → Follows s slot left chains (f ++ b ∷ []) (moved_by (place_of slot left chains) w b (longer (λ x. WideDigits x) o))
      by_more v d None h is small e = tt
      by_more v d (Some n) h is small e =
          let (some, same, room) = more_told most v d n e in
          grown (WideDigits v) (WideDigits n) h digits (into (WideDigits n) room)
          (ap number_text same ∙ (digit_grows v d some small ∙ ap (λ (k : ℕ). number_text v ++ k ∷ []) (sym is)))

      by_digits : (p : Part) (d : ℕ) → Stands s slot left chains p f → b ≡ 48 + d → d < 10
          → Follows s slot left chains (f ++ b ∷ []) (moved_by (place_of slot left chains) w b (wide_digit_part p d))
      by_digits Fresh d h is small =
          let room : d ≤ most = omega (arith, small) in
          grown Fresh (WideDigits d) h digits (into (WideDigits d) room) (digit_only d small ∙ ap (λ (k : ℕ). k ∷ []) (sym is))
      by_digits (Matched at) d h is small = tt
      by_digits (Digits v) d h is small = tt
      by_digits (WideDigits v) d h is small = by_more v d (digit_more most v d) h is small refl

      by_end : (p : Part) → Stands s slot left chains p f → Follows s slot left chains (f ++ b ∷ []) (moved_by (place_of slot left chains) w b (wide_end p))
      by_end Fresh h = tt
      by_end (Matched at) h = tt
      by_end (Digits v) h = tt
      by_end (WideDigits v) h =
          subst (λ (g : List ℕ). Follows s slot left chains g (line b (add left (Constant w v)))) (sym (behind (WideDigits v) v h (digits (WideDigits v)))) (after v (subst (λ (x : Want). PartFits x (WideDigits v)) wanted h.fits))

      by_byte : (o : Option ℕ) → digit_of b ≡ o
          → Follows s slot left chains (f ++ b ∷ []) (moved_by (place_of slot left chains) w b (by_digit o (λ d. wide_digit_part p d) (wide_end p)))
      by_byte None e = by_end p h
      by_byte (Some d) e = let (is, small) = digit_told b d e in by_digits p d h is small

-- ---- Words

-- what stands behind words that were read whole
behind_words : (s : Said) (t : Fixed) (left : ℕ) → TextKnown s t left → text_base s t left ++ fixed_bytes t ≡ base s (next_slot t) left 0
behind_words s Head left known = sym (append-nil (fixed_bytes Head))
behind_words s BeforeModel left known = refl
behind_words s RestIlp32 left known =
    append_assoc (model_front s) (codes "i") (fixed_bytes RestIlp32)
    ∙ ap (λ (m : Model). model_front s ++ (model_text m ++ (10 ∷ codes "layout "))) (sym known.2)
behind_words s RestLp64 left known =
    append_assoc (model_front s) (codes "l") (fixed_bytes RestLp64)
    ∙ ap (λ (m : Model). model_front s ++ (model_text m ++ (10 ∷ codes "layout "))) (sym known.2)
behind_words s BeforeTerms left known = refl
behind_words s BeforeNodes left known = refl
behind_words s BeforeLogs left known = refl
behind_words s BeforeChains left known = refl
behind_words s Close left known = refl

known_behind : (s : Said) (t : Fixed) (left : ℕ) → TextKnown s t left → Known s (next_slot t) left 0
known_behind s Head left known = (known.0, known.1, omega arith, tt)
known_behind s BeforeModel left known = known
known_behind s RestIlp32 left known = (known.0, known.1)
known_behind s RestLp64 left known = (known.0, known.1)
known_behind s BeforeTerms left known = known
known_behind s BeforeNodes left known = known
known_behind s BeforeLogs left known = known
known_behind s BeforeChains left known = known
known_behind s Close left known = known

pub words_follow : (s : Said) (t : Fixed) (left chains : ℕ) (part : Part) (f : List ℕ) (b : ℕ) → Stands s (Text t) left chains part f
    → Follows s (Text t) left chains (f ++ b ∷ []) (moved_by (place_of (Text t) left chains) 0 b (text_more (fixed_bytes t) (matched_of part) b))
words_follow s t left chains part f b h = by_room (nat_le (length (fixed_bytes t)) (matched_of part)) refl
  where
    at : ℕ
    at = matched_of part

    longer_read : at < length (fixed_bytes t) → slice_index (fixed_bytes t) at ≡ b → f ++ b ∷ [] ≡ text_base s t left ++ take (suc at) (fixed_bytes t)
    longer_read lt is =
        ap (λ (l : List ℕ). l ++ b ∷ []) h.read ∙ (append_assoc (text_base s t left) (take at (fixed_bytes t)) (b ∷ [])
        ∙ ap (λ (l : List ℕ). text_base s t left ++ l) (ap (λ (k : ℕ). take at (fixed_bytes t) ++ k ∷ []) (sym is) ∙ sym (index_takes (fixed_bytes t) at lt)))

    by_last : (x : Bool) → (at + 1 == length (fixed_bytes t)) ≡ x → at < length (fixed_bytes t) → slice_index (fixed_bytes t) at ≡ b
        → Follows s (Text t) left chains (f ++ b ∷ []) (moved_by (place_of (Text t) left chains) 0 b (if x then MText else MPart (Matched (at + 1))))
    by_last true e lt is =
        let whole : suc at ≡ length (fixed_bytes t) = grind (arith, nat_tests) in
        enter s (next_slot t) left 0 (f ++ b ∷ [])
        (longer_read lt is ∙ (ap (λ (l : List ℕ). text_base s t left ++ l) (take_all (suc at) (fixed_bytes t) (omega (arith, whole))) ∙ behind_words s t left h.known))
        (known_behind s t left h.known)
    by_last false e lt is = record {
      read =
          let next : suc at ≡ at + 1 = omega arith in
          longer_read lt is ∙ ap (λ (k : ℕ). text_base s t left ++ take k (fixed_bytes t)) next;
      fits = grind (arith, nat_tests);
      known = h.known;
    }

    by_byte : (x : Bool) → (slice_index (fixed_bytes t) at == b) ≡ x → at < length (fixed_bytes t)
        → Follows s (Text t) left chains (f ++ b ∷ []) (moved_by (place_of (Text t) left chains) 0 b
        (if x then (if at + 1 == length (fixed_bytes t) then MText else MPart (Matched (at + 1))) else MRefused))
    by_byte true e lt = by_last (at + 1 == length (fixed_bytes t)) refl lt (grind (arith, nat_tests))
    by_byte false e lt = tt

    by_room : (x : Bool) → nat_le (length (fixed_bytes t)) at ≡ x
        → Follows s (Text t) left chains (f ++ b ∷ []) (moved_by (place_of (Text t) left chains) 0 b
        (if x then MRefused else (if slice_index (fixed_bytes t) at == b then (if at + 1 == length (fixed_bytes t) then MText else MPart (Matched (at + 1))) else MRefused)))
    by_room true e = tt
    by_room false e = by_byte (slice_index (fixed_bytes t) at == b) refl (grind (arith, nat_tests))
