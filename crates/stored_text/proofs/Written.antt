-- What the library writes of a value is its text.
use Rattle.std.proofs.Common.{◌≡◌, ℕ, suc, ◌+◌, ◌*◌, ◌/◌, ◌%◌, ◌^◌, ◌<◌, ◌≤◌, List, [], ◌∷◌, ◌++◌, length, drop, get_or, sym, ◌∙◌, ap, subst, arith, append_assoc, ℤ, pos, negsuc}
use Rattle.std.proofs.Math.Seq.{drop-cons}
use Rattle.std.specs.Prelude.{unsigned_abs, Bool, true, false, nat_lt, if◌then◌else◌, Result, Ok, Err, refl}
use Rattle.std.proofs.lemmas.Bool.Decides.{nat_tests}
use Rattle.stored_text.specs.declared.StoredFail.{StoredFail}
use Rattle.stored_text.specs.declared.StoredFail.TheVariants.{Over}
use Rattle.stored_text.specs.Writing.{write_run_of}
use Rattle.std.specs.Fmt.{decimal, signed_decimal}
use Rattle.std.proofs.lemmas.Fmt.{decimal_by_steps_wide}
use Rattle.stored_text.specs.RunText.{number_text, value_text, lines_text, run_text, AreShort, Spells}
use Rattle.stored_text.proofs.Lines.{digit_text, longer_text}

parts : (n : ℕ) → (n / 10) * 10 + n % 10 ≡ n
parts n = omega arith

step : (n : ℕ) (ds : List ℕ) → 10 ≤ n → ds ≡ number_text (n / 10) → ds ++ ((48 + n % 10) ∷ []) ≡ number_text n
step n ds least e =
    ap (λ (l : List ℕ). l ++ ((48 + n % 10) ∷ [])) e
    ∙ sym (longer_text (n / 10) (n % 10) (omega arith) (omega arith))
    ∙ ap number_text (parts n)

decimal_text : (n : ℕ) → n < 10 ^ 64 → decimal n ≡ number_text n
decimal_text = decimal_by_steps_wide (λ n ds. ds ≡ number_text n) (λ n small. sym (digit_text n small)) step

pub signed_text : (z : ℤ) → unsigned_abs z < 10 ^ 20 → signed_decimal z ≡ value_text z
signed_text (pos n) h = decimal_text n (omega arith)
signed_text (negsuc n) h = ap (λ (l : List ℕ). 45 ∷ l) (decimal_text (suc n) (omega arith))

-- one line more is written
pub one_more : (file text : List ℕ) (values : List ℤ) (i : ℕ) → i < length values → file ++ lines_text (drop i values) ≡ text → AreShort (drop i values)
    → ((file ++ (value_text (get_or values i (pos 0)) ++ 10 ∷ [])) ++ lines_text (drop (i + 1) values) ≡ text) × AreShort (drop (i + 1) values)
one_more file text values i within e short = (
  append_assoc file (v ++ 10 ∷ []) (lines_text (drop (i + 1) values))
      ∙ ap (λ (l : List ℕ). file ++ l) (append_assoc v (10 ∷ []) (lines_text (drop (i + 1) values)))
      ∙ ap (λ (l : List ℤ). file ++ lines_text l) (sym cut) ∙ e,
  (subst AreShort cut short).1,
)
  where
    v : List ℕ
    v = value_text (get_or values i (pos 0))

    cut : drop i values ≡ get_or values i (pos 0) ∷ drop (i + 1) values
    cut = let q : suc i ≡ i + 1 = omega arith in drop-cons values i (pos 0) within ∙ ap (λ (w : ℕ). get_or values i (pos 0) ∷ drop w values) q

abbrev the_file : Result (List ℕ) StoredFail → List ℕ
the_file (Ok x) = x
the_file (Err x) = []

-- what is written is the run text of at most a million values
pub written_spells : (values : List ℤ) (file : List ℕ) → AreShort values → write_run_of values ≡ Ok file → (Spells values file) × (length values ≤ 1000000)
written_spells values file short e = by_size (nat_lt 1000000 (length values)) refl e
  where
    by_size : (over : Bool) → nat_lt 1000000 (length values) ≡ over → (if over then Err (Over 9 (length values)) else Ok (run_text values)) ≡ Ok file → (Spells values file) × (length values ≤ 1000000)
    by_size true is e = cc
    by_size false is e = ((sym (ap the_file e), short), grind (arith, is, nat_tests))

-- one short value more
pub short_more : (values : List ℤ) (v : ℤ) → AreShort values → unsigned_abs v < 10 ^ 20 → AreShort (values ++ v ∷ [])
short_more [] v short fits = (fits, tt)
short_more (w ∷ values) v short fits = (short.0, short_more values v short.1 fits)
