-- A line of a run file, read and written.
use Rattle.std.proofs.Common.{◌≡◌, ℕ, zero, suc, ◌+◌, ◌-◌, ◌*◌, ◌/◌, ◌%◌, ◌^◌, ◌<◌, ◌≤◌, List, [], ◌∷◌, ◌++◌, length, map, refl, sym, ◌∙◌, ap, subst, arith, append_assoc, append-nil, length-append, Bool, true, false, ℤ, pos, negsuc, lit<, lit≤, inl, inr}
use Rattle.std.specs.Prelude.{Option, Some, None, option_and_then, codes, ◌&&◌, ◌||◌, not, ◌==◌, nat_lt, nat_le, if◌then◌else◌, unsigned_abs}
use Rattle.std.proofs.lemmas.Bool.Decides.{nat_tests}
use Rattle.std.proofs.lemmas.Bool.{both_ways, eq-eqb, cases_eq}
use Rattle.std.specs.Int.Digits.{digits_of}
use Rattle.std.proofs.lemmas.Int.Digits.{digits_of_step, length-digits_of-le}
use Rattle.std.proofs.lemmas.List.{length-map}
use Rattle.stored_text.specs.declared.line.Line.{Line}
use Rattle.stored_text.specs.Line.{line_of, fresh_line, line_step, line_value}
use Rattle.stored_text.specs.RunText.{number_text, value_text, lines_text, AreShort}

div_step : (v d : ℕ) → d < 10 → (v * 10 + d) / 10 ≡ v
div_step v d small = omega arith

mod_step : (v d : ℕ) → d < 10 → (v * 10 + d) % 10 ≡ d
mod_step v d small = omega arith

map_append : (xs ys : List ℕ) → map (λ d. 48 + d) (xs ++ ys) ≡ map (λ d. 48 + d) xs ++ map (λ d. 48 + d) ys
map_append [] ys = refl
map_append (x ∷ xs) ys = ap (λ (l : List ℕ). (48 + x) ∷ l) (map_append xs ys)

positive_text : (n : ℕ) → 0 < n → number_text n ≡ map (λ d. 48 + d) (digits_of 10 n)
positive_text n some =
    let test : (n == 0) ≡ false = grind (arith, nat_tests) in
    ap (λ (b : Bool). if b then codes "0" else map (λ d. 48 + d) (digits_of 10 n)) test

-- a number of one digit more
pub longer_text : (v d : ℕ) → 0 < v → d < 10 → number_text (v * 10 + d) ≡ number_text v ++ (48 + d) ∷ []
longer_text v d some small =
    positive_text (v * 10 + d) (omega arith)
    ∙ ap (λ (l : List ℕ). map (λ x. 48 + x) l) (digits_of_step 10 (v * 10 + d) (lit≤ tt) (omega arith))
    ∙ map_append (digits_of 10 ((v * 10 + d) / 10)) ((v * 10 + d) % 10 ∷ [])
    ∙ ap (λ (n : ℕ). map (λ x. 48 + x) (digits_of 10 n) ++ (48 + (v * 10 + d) % 10) ∷ []) (div_step v d small)
    ∙ ap (λ (n : ℕ). map (λ x. 48 + x) (digits_of 10 v) ++ (48 + n) ∷ []) (mod_step v d small)
    ∙ ap (λ (l : List ℕ). l ++ (48 + d) ∷ []) (sym (positive_text v some))

-- a number of one digit
pub digit_text : (d : ℕ) → d < 10 → number_text d ≡ (48 + d) ∷ []
digit_text zero small = refl
digit_text (suc d) small =
    positive_text (suc d) (omega arith)
    ∙ ap (λ (l : List ℕ). map (λ x. 48 + x) l) (digits_of_step 10 (suc d) (lit≤ tt) (omega arith))
    ∙ map_append (digits_of 10 (suc d / 10)) (suc d % 10 ∷ [])
    ∙ ap (λ (n : ℕ). map (λ x. 48 + x) (digits_of 10 n) ++ (48 + suc d % 10) ∷ []) (zero_div (suc d) small)
    ∙ ap (λ (n : ℕ). (48 + n) ∷ []) (same_mod (suc d) small)
  where
    zero_div : (n : ℕ) → n < 10 → n / 10 ≡ 0
    zero_div n small = omega arith

    same_mod : (n : ℕ) → n < 10 → n % 10 ≡ n
    same_mod n small = omega arith

-- what was read of a line
abbrev pub line_text : Line → List ℕ
line_text line = (if line.negative then 45 ∷ [] else []) ++ (if line.empty then [] else number_text line.value)

-- what a line keeps: without a digit its value is 0, and its digits are at most twenty
pub record IsGood (line : Line) : Type 0 where
  pub none : line.empty ≡ true → line.value ≡ 0
  pub short : line.value < 10 ^ 20
  pub sign : line.negative ≡ true → line.empty ≡ false → 0 < line.value

pub record Steps (line next : Line) (byte : ℕ) : Type 0 where
  pub good : IsGood next
  pub text : line_text next ≡ line_text line ++ byte ∷ []

minus_step : (neg emp : Bool) (val byte : ℕ) (next : Line) → byte ≡ 45 → (if neg || not emp then None else Some (line_of true true 0)) ≡ Some next → Steps (line_of neg emp val) next byte
minus_step true emp val byte next minus is = absurd (cc is)
minus_step false false val byte next minus is = absurd (cc is)
minus_step false true val byte next minus is =
    let same : line_of true true 0 ≡ next = cc is in
    subst (λ (l : Line). Steps (line_of false true val) l byte) same (record {
      good = record { none = λ e. refl; short = lit< tt; sign = λ n e. absurd (cc e) };
      text = ap (λ (b : ℕ). b ∷ []) (sym minus);
    })

-- a digit after no digit, and after some
first_digit : (neg : Bool) (val byte : ℕ) → val ≡ 0 → (neg ≡ true → byte ≡ 48 → ⊥) → 48 ≤ byte → byte ≤ 57 → Steps (line_of neg true val) (line_of neg false (val * 10 + (byte - 48))) byte
first_digit neg val byte zero_ other low high =
    let value : val * 10 + (byte - 48) ≡ byte - 48 = omega arith in
    let digit : 48 + (byte - 48) ≡ byte = omega arith in
    let small : byte - 48 < 10 = omega arith in
    let sign : List ℕ = if neg then 45 ∷ [] else [] in
    record {
      good = record { none = λ e. absurd (cc e); short = omega arith; sign = λ n e. positive (byte - 48) value small (λ z. other n (omega (arith, z, low))) };
      text = ap (λ (n : ℕ). sign ++ number_text n) value
          ∙ ap (λ (l : List ℕ). sign ++ l) (digit_text (byte - 48) small ∙ ap (λ (b : ℕ). b ∷ []) digit)
          ∙ ap (λ (l : List ℕ). l ++ byte ∷ []) (sym (append-nil sign));
    }
  where
    positive : (d : ℕ) → val * 10 + (byte - 48) ≡ d → d < 10 → (byte - 48 ≡ 0 → ⊥) → 0 < val * 10 + (byte - 48)
    positive d v s n = elim (cases_eq (byte - 48) 0) [ inl z ↦ absurd (n z) | inr z ↦ omega (arith, z) ]

later_digit : (neg : Bool) (val byte : ℕ) → 0 < val → val < 10 ^ 19 → 48 ≤ byte → byte ≤ 57 → Steps (line_of neg false val) (line_of neg false (val * 10 + (byte - 48))) byte
later_digit neg val byte some room low high =
    let digit : 48 + (byte - 48) ≡ byte = omega arith in
    let small : byte - 48 < 10 = omega arith in
    let sign : List ℕ = if neg then 45 ∷ [] else [] in
    record {
      good = record { none = λ e. absurd (cc e); short = omega arith; sign = λ n e. omega (arith, some) };
      text = ap (λ (l : List ℕ). sign ++ l) (longer_text val (byte - 48) some small ∙ ap (λ (b : ℕ). number_text val ++ b ∷ []) digit)
          ∙ sym (append_assoc sign (number_text val) (byte ∷ []));
    }

digit_step : (neg emp : Bool) (val byte : ℕ) (next : Line) → IsGood (line_of neg emp val) → 48 ≤ byte → byte ≤ 57
    → (if (not emp && (val == 0)) || nat_le 10000000000000000000 val then None else if neg && (emp && (byte == 48)) then None else Some (line_of neg false (val * 10 + (byte - 48)))) ≡ Some next → Steps (line_of neg emp val) next byte
digit_step neg emp val byte next good low high is = by_tests neg emp (val == 0) (nat_le 10000000000000000000 val) (byte == 48) good refl refl refl is
  where
    by_tests : (neg emp zero_ full nought : Bool) → IsGood (line_of neg emp val) → zero_ ≡ (val == 0) → full ≡ nat_le 10000000000000000000 val → nought ≡ (byte == 48)
        → (if (not emp && zero_) || full then None else if neg && (emp && nought) then None else Some (line_of neg false (val * 10 + (byte - 48)))) ≡ Some next → Steps (line_of neg emp val) next byte
    by_tests neg true zero_ true nought good z f o is = absurd (cc is)
    by_tests true true zero_ false true good z f o is = absurd (cc is)
    by_tests true true zero_ false false good z f o is =
        let same : line_of true false (val * 10 + (byte - 48)) ≡ next = cc is in
        let other : byte ≡ 48 → ⊥ = λ e. both_ways (byte == 48) (sym o) (eq-eqb byte 48 e) in
        subst (λ (l : Line). Steps (line_of true true val) l byte) same (first_digit true val byte (good.none refl) (λ n e. other e) low high)
    by_tests false true zero_ false nought good z f o is =
        let same : line_of false false (val * 10 + (byte - 48)) ≡ next = cc is in
        subst (λ (l : Line). Steps (line_of false true val) l byte) same (first_digit false val byte (good.none refl) (λ n e. absurd (cc n)) low high)
    by_tests neg false true full nought good z f o is = absurd (cc is)
    by_tests neg false false true nought good z f o is = absurd (cc is)
    by_tests true false false false nought good z f o is =
        let same : line_of true false (val * 10 + (byte - 48)) ≡ next = cc is in
        let some : 0 < val = grind (arith, nat_tests) in
        let room : val < 10 ^ 19 = grind (arith, nat_tests) in
        subst (λ (l : Line). Steps (line_of true false val) l byte) same (later_digit true val byte some room low high)
    by_tests false false false false nought good z f o is =
        let same : line_of false false (val * 10 + (byte - 48)) ≡ next = cc is in
        let some : 0 < val = grind (arith, nat_tests) in
        let room : val < 10 ^ 19 = grind (arith, nat_tests) in
        subst (λ (l : Line). Steps (line_of false false val) l byte) same (later_digit false val byte some room low high)

pub step_reads : (line next : Line) (byte : ℕ) → IsGood line → line_step line byte ≡ Some next → Steps line next byte
step_reads line next byte good is = by_tests (byte == 45) (nat_lt byte 48) (nat_lt 57 byte) refl refl refl is
  where
    by_tests : (minus low high : Bool) → minus ≡ (byte == 45) → low ≡ nat_lt byte 48 → high ≡ nat_lt 57 byte → (if minus then (if line.negative || not line.empty then None else Some (line_of true true 0)) else if low || high then None else if (not line.empty && (line.value == 0)) || nat_le 10000000000000000000 line.value then None else if line.negative && (line.empty && (byte == 48)) then None else Some (line_of line.negative false (line.value * 10 + (byte - 48)))) ≡ Some next → Steps line next byte
    by_tests true low high m l h is =
        let minus : byte ≡ 45 = grind (arith, nat_tests) in
        minus_step line.negative line.empty line.value byte next minus is
    by_tests false true high m l h is = absurd (cc is)
    by_tests false false true m l h is = absurd (cc is)
    by_tests false false false m l h is =
        let low : 48 ≤ byte = grind (arith, nat_tests) in
        let high : byte ≤ 57 = grind (arith, nat_tests) in
        digit_step line.negative line.empty line.value byte next good low high is

-- the end of a line says the value that was read
value_case : (neg emp : Bool) (val : ℕ) (v : ℤ) → IsGood (line_of neg emp val) → line_value (line_of neg emp val) ≡ Some v → (value_text v ≡ line_text (line_of neg emp val)) × (unsigned_abs v < 10 ^ 20)
value_case neg true val v good is = absurd (cc is)
value_case false false val v good is =
    let same : pos val ≡ v = cc is in
    subst (λ (x : ℤ). (value_text x ≡ number_text val) × (unsigned_abs x < 10 ^ 20)) same (refl, good.short)
value_case true false zero v good is = absurd (omega (arith, good.sign refl refl))
value_case true false (suc n) v good is =
    let same : negsuc n ≡ v = cc is in
    subst (λ (x : ℤ). (value_text x ≡ 45 ∷ number_text (suc n)) × (unsigned_abs x < 10 ^ 20)) same (refl, good.short)

pub value_reads : (line : Line) (v : ℤ) → IsGood line → line_value line ≡ Some v → (value_text v ≡ line_text line) × (unsigned_abs v < 10 ^ 20)
value_reads line v good is = value_case line.negative line.empty line.value v good is

pub chosen : {A B : Type 0} (f : A → Option B) (o : Option A) (p : B) → option_and_then f o ≡ Some p → (a : A) × (o ≡ Some a) × (f a ≡ Some p)
chosen f None p is = absurd (cc is)
chosen f (Some a) p is = (a, refl, is)

allowed : {A : Type 0} (b : Bool) (o : Option A) (p : A) → (if b then o else None) ≡ Some p → (b ≡ true) × (o ≡ Some p)
allowed true o p is = (refl, is)
allowed false o p is = absurd (cc is)

pub fresh_good : IsGood fresh_line
fresh_good = record { none = λ e. refl; short = lit< tt; sign = λ n e. absurd (cc e) }

-- ---- run text is read

abbrev pub read_line : Line → List ℕ → Option Line
read_line line [] = Some line
read_line line (b ∷ bytes) = option_and_then (λ next. read_line next bytes) (line_step line b)

read_append : (xs ys : List ℕ) (line middle : Line) → read_line line xs ≡ Some middle → read_line line (xs ++ ys) ≡ read_line middle ys
read_append [] ys line middle is = let same : line ≡ middle = cc is in ap (λ (l : Line). read_line l ys) same
read_append (x ∷ xs) ys line middle is =
    let next = chosen (λ next. read_line next xs) (line_step line x) middle is in
    ap (λ (o : Option Line). option_and_then (λ next. read_line next (xs ++ ys)) o) next.1 ∙ read_append xs ys next.0 middle next.2

-- a digit is taken where there is room for it, and no zero alone before it
digit_taken : (neg emp : Bool) (v d : ℕ) → d < 10 → (not emp && (v == 0)) ≡ false → nat_le 10000000000000000000 v ≡ false → neg && (emp && ((48 + d) == 48)) ≡ false → line_step (line_of neg emp v) (48 + d) ≡ Some (line_of neg false (v * 10 + d))
digit_taken neg emp v d small some room nought =
    let minus : ((48 + d) == 45) ≡ false = grind (arith, nat_tests) in
    let low : nat_lt (48 + d) 48 ≡ false = grind (arith, nat_tests) in
    let high : nat_lt 57 (48 + d) ≡ false = grind (arith, nat_tests) in
    let digit : 48 + d - 48 ≡ d = omega arith in
    rw (minus, low, high, some, room, nought) (ap (λ (k : ℕ). Some (line_of neg false (v * 10 + k))) digit)

not_zero : (neg : Bool) (d : ℕ) → d < 10 → (neg ≡ true → 0 < d) → neg && (true && ((48 + d) == 48)) ≡ false
not_zero false d small h = refl
not_zero true d small h = let p : 0 < d = h refl in let q : ((48 + d) == 48) ≡ false = grind (arith, nat_tests) in q

step_first : (neg : Bool) (d : ℕ) → d < 10 → (neg ≡ true → 0 < d) → line_step (line_of neg true 0) (48 + d) ≡ Some (line_of neg false d)
step_first neg d small h =
    let value : 0 * 10 + d ≡ d = omega arith in
    digit_taken neg true 0 d small refl refl (not_zero neg d small h) ∙ ap (λ (k : ℕ). Some (line_of neg false k)) value

no_sign : (neg b : Bool) → neg && (false && b) ≡ false
no_sign true b = refl
no_sign false b = refl

step_later : (neg : Bool) (v d : ℕ) → 0 < v → v < 10 ^ 19 → d < 10 → line_step (line_of neg false v) (48 + d) ≡ Some (line_of neg false (v * 10 + d))
step_later neg v d some room small =
    let test : (v == 0) ≡ false = grind (arith, nat_tests) in
    let full : nat_le 10000000000000000000 v ≡ false = grind (arith, nat_tests) in
    digit_taken neg false v d small test full (no_sign neg ((48 + d) == 48))

one_more : (line next : Line) (b : ℕ) → line_step line b ≡ Some next → read_line line (b ∷ []) ≡ Some next
one_more line next b is = ap (λ (o : Option Line). option_and_then (λ n. Some n) o) is

-- the digits of a positive number are read to it
number_reads : (fuel n : ℕ) (neg : Bool) → n ≤ fuel → 0 < n → n < 10 ^ 20 → read_line (line_of neg true 0) (map (λ d. 48 + d) (digits_of 10 n)) ≡ Some (line_of neg false n)
number_reads zero n neg le some short = absurd (omega arith)
number_reads (suc fuel) n neg le some short =
    let digits : map (λ d. 48 + d) (digits_of 10 n) ≡ map (λ d. 48 + d) (digits_of 10 (n / 10)) ++ (48 + n % 10) ∷ [] =
    ap (λ (l : List ℕ). map (λ d. 48 + d) l) (digits_of_step 10 n (lit≤ tt) some) ∙ map_append (digits_of 10 (n / 10)) (n % 10 ∷ []) in
    ap (λ (l : List ℕ). read_line (line_of neg true 0) l) digits
    ∙ by_front (n / 10) (n % 10) (omega arith) (omega arith) (λ q_some. number_reads fuel (n / 10) neg (omega arith) q_some (omega arith))
  where
    by_front : (q r : ℕ) → r < 10 → q * 10 + r ≡ n → (0 < q → read_line (line_of neg true 0) (map (λ d. 48 + d) (digits_of 10 q)) ≡ Some (line_of neg false q)) → read_line (line_of neg true 0) (map (λ d. 48 + d) (digits_of 10 q) ++ (48 + r) ∷ []) ≡ Some (line_of neg false n)
    by_front zero r small whole front =
        let same : r ≡ n = omega arith in
        one_more (line_of neg true 0) (line_of neg false r) (48 + r) (step_first neg r small (λ n. omega (arith, same, some))) ∙ ap (λ (k : ℕ). Some (line_of neg false k)) same
    by_front (suc q) r small whole front =
        let room : suc q < 10 ^ 19 = omega arith in
        read_append (map (λ d. 48 + d) (digits_of 10 (suc q))) ((48 + r) ∷ []) (line_of neg true 0) (line_of neg false (suc q)) (front (omega arith))
        ∙ one_more (line_of neg false (suc q)) (line_of neg false (suc q * 10 + r)) (48 + r) (step_later neg (suc q) r (omega arith) room small)
        ∙ ap (λ (k : ℕ). Some (line_of neg false k)) whole

positive_reads : (n : ℕ) (neg : Bool) → suc n < 10 ^ 20 → read_line (line_of neg true 0) (number_text (suc n)) ≡ Some (line_of neg false (suc n))
positive_reads n neg short =
    ap (λ (l : List ℕ). read_line (line_of neg true 0) l) (positive_text (suc n) (omega arith)) ∙ number_reads (suc n) (suc n) neg (omega arith) (omega arith) short

abbrev pub IsReadTo : ℤ → Type 0
IsReadTo v = (line : Line) × (read_line fresh_line (value_text v) ≡ Some line) × (line_value line ≡ Some v)

pub text_reads : (v : ℤ) → unsigned_abs v < 10 ^ 20 → IsReadTo v
text_reads (pos zero) short = (line_of false false 0, one_more fresh_line (line_of false false 0) 48 (step_first false 0 (lit< tt) (λ n. absurd (cc n))), refl)
text_reads (pos (suc n)) short = (line_of false false (suc n), positive_reads n false short, refl)
text_reads (negsuc n) short = (line_of true false (suc n), positive_reads n true short, refl)

number_length : (n : ℕ) → n < 10 ^ 20 → length (number_text n) ≤ 20
number_length n short = by_test (n == 0) refl
  where
    by_test : (b : Bool) → b ≡ (n == 0) → length (if b then codes "0" else map (λ d. 48 + d) (digits_of 10 n)) ≤ 20
    by_test true e = lit≤ tt
    by_test false e = omega (arith, length-map (digits_of 10 n) (λ d. 48 + d), length-digits_of-le 10 20 n (lit≤ tt) short)

value_length : (v : ℤ) → unsigned_abs v < 10 ^ 20 → length (value_text v) ≤ 21
value_length (pos n) short = omega (arith, number_length n short)
value_length (negsuc n) short = omega (arith, number_length (suc n) short)

pub lines_length : (vs : List ℤ) → AreShort vs → length (lines_text vs) ≤ 22 * length vs
lines_length [] short = lit≤ tt
lines_length (v ∷ vs) short = omega (arith, length-append (value_text v) (10 ∷ lines_text vs), value_length v short.0, lines_length vs short.1)
