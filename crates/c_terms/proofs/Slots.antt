-- Slots narrowed and widened, and numbers of so many bits.
use Rattle.std.proofs.Common.{◌≡◌, ℕ, ◌+◌, ◌-◌, ◌*◌, ◌<◌, ◌≤◌, ◌^◌, ◌%◌, List, sym, ap, ◌∙◌, subst, arith, Result, nat_lt, nat_le, Bool, true, false, if◌then◌else◌, lt-ltb, le-ltb, le-leb, ℤ, pos, negsuc}
use Rattle.std.specs.Prelude.{IfOk}
use Rattle.std.proofs.Math.Nat.{mod-lt}
use Rattle.std.proofs.lemmas.Bool.{lt-leb}
use Rattle.std.proofs.lemmas.Nat.{pow_pos, pow-add}
use Rattle.lv_base.specs.declared.fail.Memory.{Memory}
use Rattle.lv_base.specs.declared.kind.Kind.{Kind}
use Rattle.lv_base.specs.declared.kind.Kind.TheVariants.{Bool as ABool, Char, UChar, Short, UShort, Int, UInt, Long, ULong, LongLong, ULongLong}
use Rattle.lv_base.specs.declared.kind.Model.{Model}
use Rattle.lv_base.specs.declared.kind.Model.TheVariants.{Ilp32, Lp64}
use Rattle.lv_base.specs.Integers.{width_of, is_signed, residue}
use Rattle.bv_term.specs.declared.term.TermId.{TermId}
use Rattle.bv_term.specs.Numbers.{sign_extended}
use Rattle.bv_term.specs.WellFormed.{IsWidth}
use Rattle.c_terms.specs.declared.words.Words.{Words}
use Rattle.c_terms.specs.Numbers.{narrowed, widened}
use Rattle.c_terms.specs.Shown.{Shows, Puts}
use Rattle.c_terms.proofs.Putting.{none, equals, wide}

pub width_some : (kind : Kind) (model : Model) → 1 ≤ width_of kind model
width_some ABool model = omega arith
width_some Char model = omega arith
width_some UChar model = omega arith
width_some Short model = omega arith
width_some UShort model = omega arith
width_some Int model = omega arith
width_some UInt model = omega arith
width_some Long Ilp32 = omega arith
width_some Long Lp64 = omega arith
width_some ULong Ilp32 = omega arith
width_some ULong Lp64 = omega arith
width_some LongLong model = omega arith
width_some ULongLong model = omega arith

pub width_most : (kind : Kind) (model : Model) → width_of kind model ≤ 64
width_most ABool model = omega arith
width_most Char model = omega arith
width_most UChar model = omega arith
width_most Short model = omega arith
width_most UShort model = omega arith
width_most Int model = omega arith
width_most UInt model = omega arith
width_most Long Ilp32 = omega arith
width_most Long Lp64 = omega arith
width_most ULong Ilp32 = omega arith
width_most ULong Lp64 = omega arith
width_most LongLong model = omega arith
width_most ULongLong model = omega arith

pub width_is : (kind : Kind) (model : Model) → IsWidth (width_of kind model)
width_is kind model = (width_some kind model, omega (arith, width_most kind model))

pub double_is : (kind : Kind) (model : Model) → IsWidth (width_of kind model * 2)
double_is kind model = (omega (arith, width_some kind model), omega (arith, width_most kind model))

pub residue_below : (w : ℕ) (value : ℤ) → residue w value < 2 ^ w
residue_below w (pos n) = mod-lt n (pow_pos w)
residue_below w (negsuc n) = omega (arith, pow_pos w)

narrowed_is : (kind : Kind) (model : Model) (v a : ℕ) → v ≡ width_of kind model → v < 64 → a % 2 ^ v ≡ narrowed kind model a
narrowed_is kind model v a e lt =
    let w : ℕ = width_of kind model in
    let test : nat_lt (width_of kind model) 64 ≡ true = lt-ltb (width_of kind model) 64 (omega (arith, e, lt)) in
    ap (λ (x : ℕ). a % 2 ^ x) e ∙ sym (ap (λ (b : Bool). if b then a % 2 ^ width_of kind model else a) test)

narrowed_whole : (kind : Kind) (model : Model) (a : ℕ) → 64 ≤ width_of kind model → a ≡ narrowed kind model a
narrowed_whole kind model a le =
    let test : nat_lt (width_of kind model) 64 ≡ false = le-ltb (width_of kind model) 64 le in
    sym (ap (λ (b : Bool). if b then a % 2 ^ width_of kind model else a) test)

-- a slot that was cut
pub narrow_cut : (r : Result TermId Memory) (x y : Words) (s : List ℕ) (kind : Kind) (model : Model) (v a : ℕ) → v ≡ width_of kind model → v < 64
    → IfOk r (λ t. Puts x y s t v (a % 2 ^ v)) → IfOk r (λ t. Puts x y s t (width_of kind model) (narrowed kind model a))
narrow_cut r x y s kind model v a e lt h =
    wide r x y s v (width_of kind model) (narrowed kind model a) e (equals r x y s v (a % 2 ^ v) (narrowed kind model a) (narrowed_is kind model v a e lt) h)

-- a slot that is as wide as its kind
pub narrow_whole : (x : Words) (s : List ℕ) (t : TermId) (kind : Kind) (model : Model) (v a : ℕ) → v ≡ width_of kind model → 64 ≤ v → v ≤ 64
    → Shows x.terms s t 64 a → Puts x x s t (width_of kind model) (narrowed kind model a)
narrow_whole x s t kind model v a e low high h =
    let is : 64 ≡ width_of kind model = omega (arith, e, low, high) in
    let P : ℕ → Type 0 = λ n. Puts x x s t n (narrowed kind model a) in
    let Q : ℕ → Type 0 = λ n. Puts x x s t 64 n in
    subst P is (subst Q (narrowed_whole kind model a (omega (arith, is))) (none x s t 64 a h))

pub widen_whole : (x : Words) (s : List ℕ) (t : TermId) (kind : Kind) (model : Model) (v a : ℕ) → v ≡ width_of kind model → 64 ≤ v → v ≤ 64
    → Shows x.terms s t (width_of kind model) a → Puts x x s t 64 (widened kind model a)
widen_whole x s t kind model v a e low high h =
    let is : width_of kind model ≡ 64 = omega (arith, e, low, high) in
    let test : nat_le 64 (width_of kind model) ≡ true = le-leb 64 (width_of kind model) (omega (arith, is)) in
    let same : a ≡ widened kind model a =
    sym (ap (λ (b : Bool). if b then a else if is_signed kind then sign_extended (width_of kind model) 64 a else a) test) in
    let P : ℕ → Type 0 = λ n. Puts x x s t n (widened kind model a) in
    let Q : ℕ → Type 0 = λ n. Puts x x s t (width_of kind model) n in
    subst P is (subst Q same (none x s t (width_of kind model) a h))

widened_signed : (kind : Kind) (model : Model) (a : ℕ) → width_of kind model < 64 → is_signed kind ≡ true → sign_extended (width_of kind model) 64 a ≡ widened kind model a
widened_signed kind model a lt is =
    let test : nat_le 64 (width_of kind model) ≡ false = lt-leb 64 (width_of kind model) lt in
    sym (ap (λ (b : Bool). if b then a else if is_signed kind then sign_extended (width_of kind model) 64 a else a) test
    ∙ ap (λ (b : Bool). if b then sign_extended (width_of kind model) 64 a else a) is)

widened_unsigned : (kind : Kind) (model : Model) (a : ℕ) → width_of kind model < 64 → is_signed kind ≡ false → a ≡ widened kind model a
widened_unsigned kind model a lt is =
    let test : nat_le 64 (width_of kind model) ≡ false = lt-leb 64 (width_of kind model) lt in
    sym (ap (λ (b : Bool). if b then a else if is_signed kind then sign_extended (width_of kind model) 64 a else a) test
    ∙ ap (λ (b : Bool). if b then sign_extended (width_of kind model) 64 a else a) is)

pub widen_signed : (r : Result TermId Memory) (x y : Words) (s : List ℕ) (kind : Kind) (model : Model) (v a : ℕ) → v ≡ width_of kind model → v < 64 → is_signed kind ≡ true
    → IfOk r (λ t. Puts x y s t 64 (sign_extended (width_of kind model) 64 a)) → IfOk r (λ t. Puts x y s t 64 (widened kind model a))
widen_signed r x y s kind model v a e lt is h = equals r x y s 64 _ _ (widened_signed kind model a (omega (arith, e, lt)) is) h

pub widen_unsigned : (r : Result TermId Memory) (x y : Words) (s : List ℕ) (kind : Kind) (model : Model) (v a : ℕ) → v ≡ width_of kind model → v < 64 → is_signed kind ≡ false
    → IfOk r (λ t. Puts x y s t 64 a) → IfOk r (λ t. Puts x y s t 64 (widened kind model a))
widen_unsigned r x y s kind model v a e lt is h = equals r x y s 64 _ _ (widened_unsigned kind model a (omega (arith, e, lt)) is) h

-- a choice whose test is known
pub is_true : (r : Result TermId Memory) (x y : Words) (s : List ℕ) (w a b : ℕ) (test : Bool) → test ≡ true
    → IfOk r (λ t. Puts x y s t w a) → IfOk r (λ t. Puts x y s t w (if test then a else b))
is_true r x y s w a b test e h = equals r x y s w a (if test then a else b) (sym (ap (λ (z : Bool). if z then a else b) e)) h

pub is_false : (r : Result TermId Memory) (x y : Words) (s : List ℕ) (w a b : ℕ) (test : Bool) → test ≡ false
    → IfOk r (λ t. Puts x y s t w b) → IfOk r (λ t. Puts x y s t w (if test then a else b))
is_false r x y s w a b test e h = equals r x y s w b (if test then a else b) (sym (ap (λ (z : Bool). if z then a else b) e)) h

-- a power of two is twice the one before
pub halves : (w : ℕ) → 1 ≤ w → 2 ^ w ≡ 2 ^ (w - 1) + 2 ^ (w - 1)
halves w le =
    let e : w - 1 + 1 ≡ w = omega arith in
    let p : 2 ^ (w - 1 + 1) ≡ 2 ^ (w - 1) * 2 ^ 1 = pow-add 2 (w - 1) 1 in
    ap (λ (n : ℕ). 2 ^ n) (sym e) ∙ p ∙ omega arith

pub half_below : (kind : Kind) (model : Model) → 2 ^ (width_of kind model - 1) < 2 ^ width_of kind model
half_below kind model = omega (arith, halves (width_of kind model) (width_some kind model), pow_pos (width_of kind model - 1))

pub kept_false : (x y : Words) (s : List ℕ) (t : TermId) (w a b : ℕ) (test : Bool) → test ≡ false → Puts x y s t w b → Puts x y s t w (if test then a else b)
kept_false x y s t w a b test e h = subst (λ (n : ℕ). Puts x y s t w n) (sym (ap (λ (z : Bool). if z then a else b) e)) h

-- a width is a number of 64 bits
pub width_fits : (kind : Kind) (model : Model) → width_of kind model < 2 ^ 64
width_fits kind model = omega (arith, width_most kind model)
