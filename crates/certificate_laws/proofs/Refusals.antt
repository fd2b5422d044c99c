-- Where a certificate is refused.
use Rattle.std.proofs.Common.{◌≡◌, ℕ, suc, ◌+◌, ◌<◌, ◌≤◌, Bool, true, false, List, [], ◌∷◌, ◌++◌, length, take, Option, Some, None, Ok, Err, refl, sym, ap, ◌∙◌, arith, if◌then◌else◌, nat_lt}
use Rattle.std.specs.Prelude.{option_and_then}
use Rattle.std.proofs.lemmas.Bool.Decides.{nat_tests}
use Rattle.std.proofs.lemmas.Bool.{both_ways}
use Rattle.stored_text.specs.declared.StoredFail.TheVariants.{Format, Over, Memory}
use Rattle.cert_text.specs.declared.place.Part.TheVariants.{Fresh}
use Rattle.cert_text.specs.declared.steps.Next.{Next}
use Rattle.cert_text.specs.declared.steps.Next.TheVariants.{Refused, Part as NPart, Moves}
use Rattle.cert_text.specs.Content.{Content}
use Rattle.cert_text.specs.CertText.{cert_text}
use Rattle.cert_text.specs.Places.{is_done_at}
use Rattle.cert_text.specs.Steps.{step_of}
use Rattle.cert_text.specs.Drafts.{nothing, applied, content_said}
use Rattle.cert_text.specs.Reading.{Reading, start, answered, read_from, read_cert_of}
use Rattle.certificate_laws.specs.Fits.{Fits}
use Rattle.certificate_laws.specs.Laws.{NoneGoesOn, OverIsNamed}
use Rattle.certificate_laws.proofs.Walks.{State, at, moved, step, walk}
use Rattle.certificate_laws.proofs.Whole.{whole, text_walks}

-- how reading ends
abbrev pub Told : State → ℕ → List ℕ → Reading → Type 0
Told s n bytes (Ok c) = (q : State) × (walk s bytes ≡ Some q) × (is_done_at q.place.slot ≡ true) × (content_said q.said ≡ c)
Told s n bytes (Err (Format m)) =
    (k : ℕ) × (m ≡ n + k) × (k ≤ length bytes) × (k < length bytes → walk s (take (suc k) bytes) ≡ None)
    × (k ≡ length bytes → (q : State) × (walk s bytes ≡ Some q) × (is_done_at q.place.slot ≡ false))
Told s n bytes (Err (Over m c)) = ⊥
Told s n bytes (Err Memory) = ⊥

later : (s q : State) (n b : ℕ) (bytes : List ℕ) (r : Reading) → step s b ≡ Some q → Told q (n + 1) bytes r → Told s n (b ∷ bytes) r
later s q n b bytes (Ok c) e t = (t.0, rw e t.1, t.2, t.3)
later s q n b bytes (Err (Format m)) e t =
    let (k, is, le, stop, end) = t in
    (suc k, omega (arith, is), omega (arith, le), (λ lt. rw e (stop (omega (arith, lt)))), (λ z. let (x, w, d) = end (omega (arith, z)) in (x, rw e w, d)))
later s q n b bytes (Err (Over m c)) e t = t
later s q n b bytes (Err Memory) e t = t

pub reads : (bytes : List ℕ) (s : State) (n : ℕ) → Told s n bytes (read_from s.said s.place s.part n bytes)
reads [] s n = by_end (is_done_at s.place.slot) refl
  where
    by_end : (d : Bool) → is_done_at s.place.slot ≡ d → Told s n [] (if d then Ok (content_said s.said) else Err (Format n))
    by_end true e = (s, refl, e, refl)
    by_end false e = (0, omega arith, omega arith, (λ lt. absurd (omega (arith, lt))), (λ z. (s, refl, e)))
reads (b ∷ bytes) s n = by_next (step_of s.place s.part b) refl (λ q. reads bytes q (n + 1))
  where
    by_next : (m : Next) → step_of s.place s.part b ≡ m → ((q : State) → Told q (n + 1) bytes (read_from q.said q.place q.part (n + 1) bytes))
        → Told s n (b ∷ bytes) (answered n m (λ p. read_from s.said s.place p (n + 1) bytes) (λ m. read_from (applied m s.said) m.to Fresh (n + 1) bytes))
    by_next Refused e ih =
        let none : step s b ≡ None = ap (moved s) e in
        (0, omega arith, omega arith, (λ lt. rw none refl), (λ z. absurd (omega (arith, z))))
    by_next (NPart p) e ih = later s (at s.said s.place p) n b bytes (read_from s.said s.place p (n + 1) bytes) (ap (moved s) e) (ih (at s.said s.place p))
    by_next (Moves m) e ih = later s (at (applied m s.said) m.to Fresh) n b bytes (read_from (applied m s.said) m.to Fresh (n + 1) bytes) (ap (moved s) e) (ih (at (applied m s.said) m.to Fresh))

stop_at : (o : Option State) (xs ys : List ℕ) → option_and_then (λ r. walk r xs) o ≡ None → ((r : State) → walk r xs ≡ None → walk r (xs ++ ys) ≡ None) → option_and_then (λ r. walk r (xs ++ ys)) o ≡ None
stop_at None xs ys h ih = refl
stop_at (Some r) xs ys h ih = ih r h

-- where a walk stops, it stops whatever stands behind
walk_stops : (xs ys : List ℕ) (s : State) → walk s xs ≡ None → walk s (xs ++ ys) ≡ None
walk_stops [] ys s h = absurd (cc h)
walk_stops (x ∷ xs) ys s h = stop_at (step s x) xs ys h (λ r g. walk_stops xs ys r g)

-- no certificate's text goes on from what a walk does not pass
stopped : (front : List ℕ) → walk (at nothing start Fresh) front ≡ None → NoneGoesOn front
stopped front w c more fits e =
    let n : walk (at nothing start Fresh) (front ++ more) ≡ None = walk_stops front more (at nothing start Fresh) w in
    let m : walk (at nothing start Fresh) (front ++ more) ≡ Some (whole c) = ap (walk (at nothing start Fresh)) e ∙ text_walks c fits in
    absurd (cc (sym n ∙ m))

refused : (file : List ℕ) (n : ℕ) (r : Reading) → Told (at nothing start Fresh) 0 file r → r ≡ Err (Format n)
    → (n ≤ length file) × (n < length file → NoneGoesOn (take (n + 1) file)) × (n ≡ length file → (c : Content) → Fits c → file ≡ cert_text c → ⊥)
refused file n (Ok c) t e = absurd (cc e)
refused file n (Err (Over m c)) t e = absurd t
refused file n (Err Memory) t e = absurd t
refused file n (Err (Format m)) t e =
    let same : m ≡ n = cc e in
    let (k, is, le, stop, end) = t in
    let here : n ≡ k = omega (arith, same, is) in
    let next : n + 1 ≡ suc k = omega (arith, here) in (
      omega (arith, here, le),
      (λ lt. stopped (take (n + 1) file) (ap (λ (j : ℕ). walk (at nothing start Fresh) (take j file)) next ∙ stop (omega (arith, here, lt)))),
      (λ z c fits f.
          let (q, w, d) = end (omega (arith, here, z)) in
          let m : Some q ≡ Some (whole c) = sym w ∙ ap (walk (at nothing start Fresh)) f ∙ text_walks c fits in
          let s : q ≡ whole c = cc m in
          both_ways (is_done_at q.place.slot) d (ap (λ (x : State). is_done_at x.place.slot) s)),
    )

pub refused_there : (file : List ℕ) (n : ℕ) → read_cert_of file ≡ Err (Format n)
    → (length file ≤ 67108864) × (n ≤ length file) × (n < length file → NoneGoesOn (take (n + 1) file)) × (n ≡ length file → (c : Content) → Fits c → file ≡ cert_text c → ⊥)
refused_there file n e = by_size (nat_lt 67108864 (length file)) refl e
  where
    by_size : (over : Bool) → nat_lt 67108864 (length file) ≡ over → (if over then Err (Over 8 67108865) else read_from nothing start Fresh 0 file) ≡ Err (Format n)
        → (length file ≤ 67108864) × (n ≤ length file) × (n < length file → NoneGoesOn (take (n + 1) file)) × (n ≡ length file → (c : Content) → Fits c → file ≡ cert_text c → ⊥)
    by_size true is e = absurd (cc e)
    by_size false is e =
        let short : length file ≤ 67108864 = grind (arith, nat_tests) in
        let r = refused file n (read_from nothing start Fresh 0 file) (reads file (at nothing start Fresh) 0) e in
        (short, r.0, r.1, r.2)

pub over_is_named : OverIsNamed
over_is_named file m k e = by_size (nat_lt 67108864 (length file)) refl e
  where
    none_over : (r : Reading) → Told (at nothing start Fresh) 0 file r → r ≡ Err (Over m k) → ⊥
    none_over (Ok c) t e = cc e
    none_over (Err (Over x y)) t e = t
    none_over (Err Memory) t e = t
    none_over (Err (Format x)) t e = cc e

    by_size : (over : Bool) → nat_lt 67108864 (length file) ≡ over → (if over then Err (Over 8 67108865) else read_from nothing start Fresh 0 file) ≡ Err (Over m k)
        → (m ≡ 8) × (k ≡ 67108865) × (67108864 < length file)
    by_size true is e =
        let a : 8 ≡ m = cc e in
        let b : 67108865 ≡ k = cc e in
        (sym a, sym b, grind (arith, nat_tests))
    by_size false is e = absurd (none_over (read_from nothing start Fresh 0 file) (reads file (at nothing start Fresh) 0) e)
