-- The values of cases, and whether a `default` is among them, show which cases they are.
use Rattle.std.proofs.Common.{◌≡◌, ℕ, ◌<◌, ◌+◌, Bool, true, false, ◌||◌, ◌&&◌, not, cond, List, [], ◌∷◌, ◌++◌, length, take, get_or, Option, None, Some, ℤ, pos, negsuc, int_lt, int_le, nat_le, nat_lt, refl, ap, ◌∙◌, sym}
use Rattle.std.specs.List.{list_any}
use Rattle.std.proofs.lemmas.Bool.{ltb-true, ltb-false, lt-leb, le-leb}
use Rattle.std.specs.Ordering.{int_eq, is_eq}
use Rattle.std.proofs.Common.{Less, Equal, Greater}
use Rattle.lv_base.specs.declared.fault.SourceFault.TheVariants as fault
use Rattle.c_run.specs.Breaking.{line}
use Rattle.c_meaning.specs.Rules as r
use Rattle.first_broken.specs.Found.{Summary, summary, both}
use Rattle.source_rules.specs.Cases as c
use Rattle.source_rules.specs.declared.cases.Case.{Case}
use Rattle.source_rules.proofs.Rows.{repeated_more, take_more, map_behind}

or_false : (a : Bool) → (a || false) ≡ a
or_false true = refl
or_false false = refl

or_true : (a : Bool) → (a || true) ≡ true
or_true true = refl
or_true false = refl

any_behind : {A : Type 0} (p : A → Bool) (xs : List A) (x : A) → list_any p (xs ++ x ∷ []) ≡ (list_any p xs || p x)
any_behind p [] x = or_false (p x)
any_behind p (y ∷ xs) x = ap (λ z. p y || z) (any_behind p xs x) ∙ assoc (p y) (list_any p xs) (p x)
  where
    assoc : (a b d : Bool) → (a || (b || d)) ≡ ((a || b) || d)
    assoc true b d = refl
    assoc false b d = refl

le_is : (m n : ℕ) → nat_le m n ≡ not (nat_lt n m)
le_is m n = by (nat_lt n m) refl
  where
    by : (b : Bool) → b ≡ nat_lt n m → nat_le m n ≡ not (nat_lt n m)
    by true e = lt-leb m n (ltb-true n m (sym e)) ∙ ap not e
    by false e = le-leb m n (ltb-false n m (sym e)) ∙ ap not e

not_above : (v w : ℤ) → int_le v w ≡ not (int_lt w v)
not_above (pos m) (pos n) = le_is m n
not_above (pos m) (negsuc n) = refl
not_above (negsuc m) (pos n) = refl
not_above (negsuc m) (negsuc n) = le_is n m

-- equal is neither below nor above
eq_is : (v w : ℤ) → int_eq v w ≡ r.is_same_value (Some v) (Some w)
eq_is v w = by (int_lt v w) (int_lt w v) ∙ ap (λ z. z && not (int_lt v w)) (sym (not_above v w)) ∙ ap (λ z. int_le v w && z) (sym (not_above w v))
  where
    by : (a b : Bool) → is_eq (cond a Less (cond b Greater Equal)) ≡ (not b && not a)
    by true true = refl
    by true false = refl
    by false true = refl
    by false false = refl

-- a case more
pub shows_more : (vs new : List ℤ) (old now : Bool) (before : List r.Case) (x : r.Case) → c.Shows vs old before → c.Gains vs (c.values_of x) new → now ≡ c.has_default old x → c.Shows new now (before ++ x ∷ [])
shows_more vs new old now before x s g d y = step x g d y ∙ ap (λ z. z || r.is_same_case y x) (s y) ∙ sym (any_behind (r.is_same_case y) before x)
  where
    step : (x : r.Case) → c.Gains vs (c.values_of x) new → now ≡ c.has_default old x → (y : r.Case) → c.stands new now y ≡ (c.stands vs old y || r.is_same_case y x)
    step (r.aCase None at) g d (r.aCase None b) = refl
    step (r.aCase None at) g d (r.aCase (Some v) b) = g v
    step (r.aCase None at) g d (r.aDefault b) = d ∙ sym (or_false old)
    step (r.aCase (Some w) at) g d (r.aCase None b) = refl
    step (r.aCase (Some w) at) g d (r.aCase (Some v) b) = g v ∙ ap (λ z. c.has_value vs v || z) (or_false (int_eq v w) ∙ eq_is v w)
    step (r.aCase (Some w) at) g d (r.aDefault b) = d ∙ sym (or_false old)
    step (r.aDefault at) g d (r.aCase None b) = refl
    step (r.aDefault at) g d (r.aCase (Some v) b) = g v
    step (r.aDefault at) g d (r.aDefault b) = d ∙ sym (or_true old)

pub shows_none : (vs : List ℤ) (default : Bool) → vs ≡ [] → default ≡ false → c.Shows vs default []
shows_none vs default e d x = ap (λ z. c.stands z default x) e ∙ ap (λ z. c.stands [] z x) d ∙ none x
  where
    none : (x : r.Case) → c.stands [] false x ≡ false
    none (r.aCase None at) = refl
    none (r.aCase (Some v) at) = refl
    none (r.aDefault at) = refl

-- a set with one value more
pub gains_one : (old new : List ℤ) (v : ℤ) → ((w : ℤ) → c.has_value new w ≡ cond (int_eq v w) true (c.has_value old w)) → c.Gains old (v ∷ []) new
gains_one old new v u w = u w ∙ by (int_eq v w) (c.has_value old w) ∙ ap (λ z. c.has_value old w || z) (flip v w ∙ sym (or_false (int_eq w v)))
  where
    by : (a b : Bool) → cond a true b ≡ (b || a)
    by true b = sym (or_true b)
    by false b = sym (or_false b)

    turned : (a b : Bool) → is_eq (cond a Less (cond b Greater Equal)) ≡ is_eq (cond b Less (cond a Greater Equal))
    turned true true = refl
    turned true false = refl
    turned false true = refl
    turned false false = refl

    flip : (x y : ℤ) → int_eq x y ≡ int_eq y x
    flip x y = turned (int_lt x y) (int_lt y x)

pub gains_none : (old new : List ℤ) → new ≡ old → c.Gains old [] new
gains_none old new e v = ap (λ z. c.has_value z v) e ∙ sym (or_false (c.has_value old v))

pub found_more : (xs : List Case) (i : ℕ) (d : Case) (vs : List ℤ) (default test : Bool) (at : ℕ) (all own new : Summary) → i < length xs → c.Shows vs default (c.cases (take i xs)) →
    test ≡ c.stands vs default (c.case_of (get_or xs i d)) → at ≡ r.case_at (c.case_of (get_or xs i d)) → all ≡ summary (c.repeated [] (c.cases (take i xs))) → own ≡ summary (line test fault.DuplicateCase at) → new ≡ both all own →
    new ≡ summary (c.repeated [] (c.cases (take (i + 1) xs)))
found_more xs i d vs default test at all own new l s t p m o n =
    n ∙ ap (λ z. both z own) m
    ∙ ap (both (summary (c.repeated [] (c.cases (take i xs)))))
    (o ∙ ap (λ z. summary (line z fault.DuplicateCase at)) (t ∙ s (c.case_of (get_or xs i d)))
    ∙ ap (λ z. summary (line (list_any (r.is_same_case (c.case_of (get_or xs i d))) (c.cases (take i xs))) fault.DuplicateCase z)) p)
    ∙ sym (repeated_more xs i d l)

pub past_more : (xs : List Case) (i : ℕ) (d : Case) (vs new : List ℤ) (old now : Bool) → i < length xs → c.Shows vs old (c.cases (take i xs)) →
    c.Gains vs (c.values_of (c.case_of (get_or xs i d))) new → now ≡ c.has_default old (c.case_of (get_or xs i d)) → c.Shows new now (c.cases (take (i + 1) xs))
past_more xs i d vs new old now l s g k y =
    shows_more vs new old now (c.cases (take i xs)) (c.case_of (get_or xs i d)) s g k y
    ∙ ap (list_any (r.is_same_case y)) (sym (map_behind (take i xs) (get_or xs i d)) ∙ ap c.cases (sym (take_more xs i d l)))
