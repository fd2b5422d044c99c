-- Reading as a walk over the bytes.
use Rattle.std.proofs.Common.{◌≡◌, ℕ, zero, suc, ◌+◌, ◌-◌, ◌*◌, ◌/◌, ◌%◌, ◌<◌, ◌≤◌, Bool, true, false, List, [], ◌∷◌, ◌++◌, Option, Some, None, Ok, refl, sym, ap, ◌∙◌, subst, arith, ◌==◌, append_assoc, lit<, nat_lt}
use Rattle.std.specs.Prelude.{option_and_then}
use Rattle.std.proofs.lemmas.Bool.Decides.{nat_tests}
use Rattle.stored_text.specs.RunText.{number_text}
use Rattle.cert_text.specs.declared.place.Place.{Place}
use Rattle.cert_text.specs.declared.place.Part.{Part}
use Rattle.cert_text.specs.declared.place.Part.TheVariants.{Fresh, Digits, WideDigits}
use Rattle.cert_text.specs.declared.place.Want.{Want}
use Rattle.cert_text.specs.declared.place.Want.TheVariants.{Number, Wide}
use Rattle.cert_text.specs.declared.steps.Next.{Next}
use Rattle.cert_text.specs.declared.steps.Next.TheVariants.{Refused, Part as NPart, Moves}
use Rattle.cert_text.specs.Places.{want_of, is_done_at}
use Rattle.cert_text.specs.Fields.{digit_of, digit_more, by_digit, digit_part, number_end, wide_digit_part, wide_end, longer}
use Rattle.cert_text.specs.Steps.{by_want, moved_by, step_of}
use Rattle.cert_text.specs.Drafts.{Said, applied, content_said}
use Rattle.cert_text.specs.Reading.{read_from, answered}
use Rattle.cert_text.proofs.Digits.{last_digit, only_digit}

-- what was said, the place, and the part that was read there
pub record State : Type 0 where
  pub said : Said
  pub place : Place
  pub part : Part

abbrev pub at : Said → Place → Part → State
at said place part = record { said = said; place = place; part = part }

abbrev pub moved : State → Next → Option State
moved s Refused = None
moved s (NPart part) = Some (at s.said s.place part)
moved s (Moves m) = Some (at (applied m s.said) m.to Fresh)

abbrev pub step : State → ℕ → Option State
step s b = moved s (step_of s.place s.part b)

abbrev pub walk : State → List ℕ → Option State
walk s [] = Some s
walk s (b ∷ bytes) = option_and_then (λ q. walk q bytes) (step s b)

-- a walk to the end reads what was said
pub walk_reads : (bytes : List ℕ) (s q : State) (n : ℕ) → walk s bytes ≡ Some q → is_done_at q.place.slot ≡ true → read_from s.said s.place s.part n bytes ≡ Ok (content_said q.said)
walk_reads [] s q n w d =
    let e : s ≡ q = cc w in
    let done : is_done_at s.place.slot ≡ true = ap (λ (x : State). is_done_at x.place.slot) e ∙ d in
    rw done (ap (λ (x : State). Ok (content_said x.said)) e)
walk_reads (b ∷ bytes) s q n w d = by_next (step_of s.place s.part b) w (λ r v. walk_reads bytes r q (n + 1) v d)
  where
    by_next : (m : Next) → option_and_then (λ q. walk q bytes) (moved s m) ≡ Some q
        → ((r : State) → walk r bytes ≡ Some q → read_from r.said r.place r.part (n + 1) bytes ≡ Ok (content_said q.said))
        → answered n m (λ p. read_from s.said s.place p (n + 1) bytes) (λ m. read_from (applied m s.said) m.to Fresh (n + 1) bytes) ≡ Ok (content_said q.said)
    by_next Refused w ih = absurd (cc w)
    by_next (NPart p) w ih = ih (at s.said s.place p) w
    by_next (Moves m) w ih = ih (at (applied m s.said) m.to Fresh) w

-- a byte of a part
pub part_walks : (said : Said) (p : Place) (a b : Part) (byte : ℕ) (rest : List ℕ) → step_of p a byte ≡ NPart b → walk (at said p a) (byte ∷ rest) ≡ walk (at said p b) rest
part_walks said p a b byte rest e = ap (λ (n : Next). option_and_then (λ q. walk q rest) (moved (at said p a) n)) e

pub digit_is : (d : ℕ) → d < 10 → digit_of (48 + d) ≡ Some d
digit_is d small =
    let low : nat_lt (48 + d) 48 ≡ false = grind (arith, nat_tests) in
    let high : nat_lt 57 (48 + d) ≡ false = grind (arith, nat_tests) in
    let same : 48 + d - 48 ≡ d = omega arith in
    rw (low, high) (ap (λ (k : ℕ). Some k) same)

pub more_is : (most v d : ℕ) → 0 < v → v * 10 + d ≤ most → digit_more most v d ≡ Some (v * 10 + d)
more_is most v d some room =
    let zero_ : (v == 0) ≡ false = grind (arith, nat_tests) in
    let over : nat_lt most (v * 10 + d) ≡ false = grind (arith, nat_tests) in
    rw (zero_, over) refl

-- how the digits of a number up to the greatest are taken at a place
pub record Takes (p : Place) (most : ℕ) (digits : ℕ → Part) : Type 0 where
  pub first : (d : ℕ) → d < 10 → step_of p Fresh (48 + d) ≡ NPart (digits d)
  pub later : (v d : ℕ) → 0 < v → d < 10 → v * 10 + d ≤ most → step_of p (digits v) (48 + d) ≡ NPart (digits (v * 10 + d))

digits_walk : (fuel n : ℕ) (said : Said) (p : Place) (most : ℕ) (digits : ℕ → Part) (rest : List ℕ) → Takes p most digits → n ≤ fuel → n ≤ most → walk (at said p Fresh) (number_text n ++ rest) ≡ walk (at said p (digits n)) rest
digits_walk zero n said p most digits rest t le room =
    let none : n ≡ 0 = omega (arith, le) in
    subst (λ (k : ℕ). walk (at said p Fresh) (number_text k ++ rest) ≡ walk (at said p (digits k)) rest) (sym none)
    (part_walks said p Fresh (digits 0) 48 rest (t.first 0 (lit< tt)))
digits_walk (suc fuel) n said p most digits rest t le room = by_size (nat_lt n 10) refl (λ q more l r. digits_walk fuel q said p most digits more t l r)
  where
    by_size : (b : Bool) → nat_lt n 10 ≡ b → ((q : ℕ) (more : List ℕ) → q ≤ fuel → q ≤ most → walk (at said p Fresh) (number_text q ++ more) ≡ walk (at said p (digits q)) more)
        → walk (at said p Fresh) (number_text n ++ rest) ≡ walk (at said p (digits n)) rest
    by_size true e ih =
        let small : n < 10 = grind (arith, nat_tests) in
        let same : n % 10 ≡ n = omega (arith, small) in
        ap (λ (l : List ℕ). walk (at said p Fresh) (l ++ rest)) (only_digit n small ∙ ap (λ (k : ℕ). (48 + k) ∷ []) same)
        ∙ part_walks said p Fresh (digits n) (48 + n) rest (t.first n small)
    by_size false e ih =
        let large : 10 ≤ n = grind (arith, nat_tests) in
        let less : n / 10 ≤ fuel = omega (arith, le, large) in
        let below : n / 10 ≤ most = omega (arith, room) in
        let some : 0 < n / 10 = omega (arith, large) in
        let small : n % 10 < 10 = omega arith in
        let parts : (n / 10) * 10 + n % 10 ≡ n = omega arith in
        let fits : (n / 10) * 10 + n % 10 ≤ most = omega (arith, room) in
        ap (λ (l : List ℕ). walk (at said p Fresh) (l ++ rest)) (last_digit n large)
        ∙ ap (walk (at said p Fresh)) (append_assoc (number_text (n / 10)) ((48 + n % 10) ∷ []) rest)
        ∙ ih (n / 10) ((48 + n % 10) ∷ rest) less below
        ∙ part_walks said p (digits (n / 10)) (digits ((n / 10) * 10 + n % 10)) (48 + n % 10) rest (t.later (n / 10) (n % 10) some small fits)
        ∙ ap (λ (k : ℕ). walk (at said p (digits k)) rest) parts

number_takes : (p : Place) → want_of p.slot ≡ Number → Takes p 4294967295 (λ v. Digits v)
number_takes p e = record {
  first = λ d small. ap (λ (w : Want). by_want w p Fresh (48 + d)) e ∙ ap (λ (o : Option ℕ). moved_by p 0 (48 + d) (by_digit o (λ x. digit_part Fresh x) (number_end Fresh))) (digit_is d small);
  later = λ v d some small room.
      ap (λ (w : Want). by_want w p (Digits v) (48 + d)) e
      ∙ ap (λ (o : Option ℕ). moved_by p 0 (48 + d) (by_digit o (λ x. digit_part (Digits v) x) (number_end (Digits v)))) (digit_is d small)
      ∙ ap (λ (o : Option ℕ). moved_by p 0 (48 + d) (longer (λ x. Digits x) o)) (more_is 4294967295 v d some room);
}

wide_takes : (p : Place) (w : ℕ) → want_of p.slot ≡ Wide w → Takes p 340282366920938463463374607431768211455 (λ v. WideDigits v)
wide_takes p width e = record {
  first = λ d small. ap (λ (w : Want). by_want w p Fresh (48 + d)) e ∙ ap (λ (o : Option ℕ). moved_by p width (48 + d) (by_digit o (λ x. wide_digit_part Fresh x) (wide_end Fresh))) (digit_is d small);
  later = λ v d some small room.
      ap (λ (w : Want). by_want w p (WideDigits v) (48 + d)) e
      ∙ ap (λ (o : Option ℕ). moved_by p width (48 + d) (by_digit o (λ x. wide_digit_part (WideDigits v) x) (wide_end (WideDigits v)))) (digit_is d small)
      ∙ ap (λ (o : Option ℕ). moved_by p width (48 + d) (longer (λ x. WideDigits x) o)) (more_is 340282366920938463463374607431768211455 v d some room);
}

pub number_walks : (n : ℕ) (said : Said) (p : Place) (rest : List ℕ) → want_of p.slot ≡ Number → n ≤ 4294967295 → walk (at said p Fresh) (number_text n ++ rest) ≡ walk (at said p (Digits n)) rest
number_walks n said p rest e room = digits_walk n n said p 4294967295 (λ v. Digits v) rest (number_takes p e) (omega arith) room

pub wide_walks : (n : ℕ) (said : Said) (p : Place) (w : ℕ) (rest : List ℕ) → want_of p.slot ≡ Wide w → n ≤ 340282366920938463463374607431768211455 → walk (at said p Fresh) (number_text n ++ rest) ≡ walk (at said p (WideDigits n)) rest
wide_walks n said p w rest e room = digits_walk n n said p 340282366920938463463374607431768211455 (λ v. WideDigits v) rest (wide_takes p w e) (omega arith) room
