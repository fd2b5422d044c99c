-- The check of a certificate has one answer.
use Rattle.std.proofs.Common.{◌≡◌, ◌⊎◌, ℕ, ◌<◌, inl, inr, List, length, refl, sym, ap, ◌∙◌, subst, Some, Ok, Err, slice_get}
use Rattle.std.proofs.lemmas.Option.{same_Some}
use Rattle.c_graph.specs.Shape.{Flow}
use Rattle.c_graph.specs.Runs.{Formulas, IsMapOf}
use Rattle.cert_text.specs.declared.Cert.{Cert}
use Rattle.cert_text.specs.Content.{Content, content_of}
use Rattle.resolution_log.specs.declared.Chain.{Chain}
use Rattle.obligations.specs.Questions.{count_of}
use Rattle.obligations.specs.Stated.{obligation_says}
use Rattle.cert_check.specs.declared.fails.MapFault.{MapFault}
use Rattle.cert_check.specs.declared.fails.CheckFail.{CheckFail}
use Rattle.cert_check.specs.declared.fails.CheckFail.TheVariants.{WrongMap, Count, BadStep, NoEmpty, Over, Memory}
use Rattle.cert_check.specs.Answers.{AreRefutations, IsAccepted, IsMapIn, numbered}
use Rattle.cert_check.specs.Causes.{AreRefutedBefore, IsCheckCause, IsLogCause, IsMapFault, capped}
use Rattle.cert_check_laws.specs.Laws.{AcceptedIsNotRefused, CheckIsUnique}
use Rattle.cert_check_laws.proofs.Faults.{fault_same, one_fault}
use Rattle.cert_check_laws.proofs.Limits.{no_cut, same_cut, which}
use Rattle.cert_check_laws.proofs.Refused.{no_cause, no_fault, same_map}
use Rattle.cert_check_laws.proofs.Steps.{not_both, same_step}

-- one of two answers is want of memory, or they are one
abbrev AreOne : CheckFail → CheckFail → Type 0
AreOne e f = (e ≡ Memory) ⊎ ((f ≡ Memory) ⊎ (e ≡ f))

-- ---- One obligation

module _ (g : Flow) (m : Formulas) (n : ℕ) (log : List Chain) where
  same_cause : (e f : CheckFail) → IsLogCause g m n log e → IsLogCause g m n log f → AreOne e f
  same_cause Memory f h k = inl refl
  same_cause (BadStep a i) Memory h k = inr (inl refl)
  same_cause (BadStep a i) (BadStep b j) h k =
      let number = h.0 ∙ sym k.0 in
      let step = same_step (obligation_says g m n) log i j h.2 k.2 in
      inr (inr (λ t. BadStep (number t) (step t)))
  same_cause (BadStep a i) (NoEmpty b) h k = absurd (not_both (obligation_says g m n) log i h.2 k.2)
  same_cause (BadStep a i) (Over size) h k = absurd (no_cut (obligation_says g m n) size h.1 k)
  same_cause (BadStep a i) (WrongMap fault) h k = absurd k
  same_cause (BadStep a i) (Count s w) h k = absurd k
  same_cause (NoEmpty a) Memory h k = inr (inl refl)
  same_cause (NoEmpty a) (BadStep b j) h k = absurd (not_both (obligation_says g m n) log j k.2 h.2)
  same_cause (NoEmpty a) (NoEmpty b) h k = inr (inr (ap NoEmpty (h.0 ∙ sym k.0)))
  same_cause (NoEmpty a) (Over size) h k = absurd (no_cut (obligation_says g m n) size h.1 k)
  same_cause (NoEmpty a) (WrongMap fault) h k = absurd k
  same_cause (NoEmpty a) (Count s w) h k = absurd k
  same_cause (Over size) Memory h k = inr (inl refl)
  same_cause (Over size) (BadStep b j) h k = absurd (no_cut (obligation_says g m n) size k.1 h)
  same_cause (Over size) (NoEmpty b) h k = absurd (no_cut (obligation_says g m n) size k.1 h)
  same_cause (Over size) (Over other) h k = inr (inr (ap Over (same_cut (obligation_says g m n) size other h k)))
  same_cause (Over size) (WrongMap fault) h k = absurd k
  same_cause (Over size) (Count s w) h k = absurd k
  same_cause (WrongMap fault) f h k = absurd h
  same_cause (Count s w) f h k = absurd h

-- ---- The lowest obligation that fails

record Failing (g : Flow) (m : Formulas) (logs : List (List Chain)) (e : CheckFail) : Type 0 where
  number : ℕ
  before : AreRefutedBefore g m logs number
  log : List Chain
  at : slice_get logs number ≡ Some log
  cause : IsLogCause g m number log e

module _ (g : Flow) (m : Formulas) (logs : List (List Chain)) where
  lower : (e f : CheckFail) (a : Failing g m logs e) (b : Failing g m logs f) → a.number < b.number → e ≡ Memory
  lower e f a b less = no_cause g m a.number a.log e (b.before a.number a.log less a.at) a.cause

  level : (e f : CheckFail) (a : Failing g m logs e) (b : Failing g m logs f) → a.number ≡ b.number → AreOne e f
  level e f a b same =
      let there : slice_get logs a.number ≡ Some b.log = ap (slice_get logs) same ∙ b.at in
      let one : b.log ≡ a.log = same_Some b.log a.log (sym there ∙ a.at) in
      let cause : IsLogCause g m a.number a.log f =
      subst (λ (x : List Chain). IsLogCause g m a.number x f) one
      (subst (λ (x : ℕ). IsLogCause g m x b.log f) (sym same) b.cause) in
      same_cause g m a.number a.log e f a.cause cause

  same_failing : (e f : CheckFail) → Failing g m logs e → Failing g m logs f → AreOne e f
  same_failing e f a b = elim (which a.number b.number) [
    | inl less ↦ inl (lower e f a b less)
    | inr rest ↦ elim rest [
      | inl more ↦ inr (inl (lower f e b a more))
      | inr same ↦ level e f a b same
    ]
  ]

  passing_fails : (e : CheckFail) → AreRefutations g m logs → Failing g m logs e → e ≡ Memory
  passing_fails e all a = no_cause g m a.number a.log e (all a.number a.log a.at) a.cause

-- ---- Where a check ends

record Fitting (g : Flow) (c : Cert) : Type 0 where
  map : Formulas
  stored : IsMapIn g c map
  is : IsMapOf g map

data Stage (g : Flow) (c : Cert) (e : CheckFail) : Type 0 where
  of_memory : e ≡ Memory → Stage g c e
  of_map : (f : MapFault) → e ≡ WrongMap f → IsMapFault g c f → Stage g c e
  of_count : Fitting g c → e ≡ Count (capped (length c.logs.items)) (count_of g) → (length c.logs.items ≡ count_of g → ⊥) → Stage g c e
  of_logs : (fits : Fitting g c) → length c.logs.items ≡ count_of g → Failing g fits.map c.logs.items e → Stage g c e

stage_of : (g : Flow) (c : Cert) (e : CheckFail) → IsCheckCause g c e → Stage g c e
stage_of g c (WrongMap f) h = of_map f refl h
stage_of g c (Count s w) (m, stored, is, h) =
    let first = h.0 in
    let second = h.1 in
    of_count (record { map = m; stored = stored; is = is }) (λ t. Count (first t) (second t)) h.2
stage_of g c (BadStep n k) (m, stored, is, (count, (before, (log, at, within, cause)))) =
    of_logs (record { map = m; stored = stored; is = is }) count (record { number = n; before = before; log = log; at = at; cause = (refl, within, cause) })
stage_of g c (NoEmpty n) (m, stored, is, (count, (before, (log, at, within, cause)))) =
    of_logs (record { map = m; stored = stored; is = is }) count (record { number = n; before = before; log = log; at = at; cause = (refl, within, cause) })
stage_of g c (Over size) (m, stored, is, (count, (n, before, (log, at, off)))) =
    of_logs (record { map = m; stored = stored; is = is }) count (record { number = n; before = before; log = log; at = at; cause = off })
stage_of g c Memory h = of_memory refl

fits_same : (g : Flow) (c d : Cert) → content_of d ≡ content_of c → (m : Formulas) → IsMapIn g d m → IsMapIn g c m
fits_same g c d e m s = record {
  layout = sym (ap (λ (x : Content). x.layout) e) ∙ s.layout;
  cells = s.cells;
  terms = s.terms ∙ ap (λ (x : Content). x.terms) e;
  fits = s.fits;
  at = subst (λ (x : Content). m.at ≡ numbered x.formulas) e s.at;
}

logs_are : (c d : Cert) → content_of d ≡ content_of c → d.logs.items ≡ c.logs.items
logs_are c d e = ap (λ (x : Content). x.logs) e

abbrev fitting_same : (g : Flow) (c d : Cert) → content_of d ≡ content_of c → Fitting g d → Fitting g c
fitting_same g c d e a = record { map = a.map; stored = fits_same g c d e a.map a.stored; is = a.is }

stage_same : (g : Flow) (c d : Cert) (f : CheckFail) → content_of d ≡ content_of c → Stage g d f → Stage g c f
stage_same g c d f e (of_memory is) = of_memory is
stage_same g c d f e (of_map fault is h) = of_map fault is (fault_same g c d fault e h)
stage_same g c d f e (of_count fits is h) =
    of_count (fitting_same g c d e fits) (is ∙ ap (λ (x : List (List Chain)). Count (capped (length x)) (count_of g)) (logs_are c d e))
    (λ all. h (ap length (logs_are c d e) ∙ all))
stage_same g c d f e (of_logs fits all failing) =
    of_logs (fitting_same g c d e fits) (sym (ap length (logs_are c d e)) ∙ all)
    (subst (λ (x : List (List Chain)). Failing g fits.map x f) (logs_are c d e) failing)

-- ---- Two answers

over_one : (g : Flow) (c : Cert) (a b : Fitting g c) (f : CheckFail) → Failing g b.map c.logs.items f → Failing g a.map c.logs.items f
over_one g c a b f h = subst (λ (x : Formulas). Failing g x c.logs.items f) (same_map g c b.map a.map b.stored a.stored) h

one_stage : (g : Flow) (c : Cert) (e f : CheckFail) → Stage g c e → Stage g c f → AreOne e f
one_stage g c e f (of_memory is) b = inl is
one_stage g c e f (of_map a is h) (of_memory it) = inr (inl it)
one_stage g c e f (of_map a is h) (of_map b it k) = inr (inr (is ∙ (ap WrongMap (one_fault g c a b h k) ∙ sym it)))
one_stage g c e f (of_map a is h) (of_count fits it k) = absurd (no_fault g c a fits.map fits.stored fits.is h)
one_stage g c e f (of_map a is h) (of_logs fits all k) = absurd (no_fault g c a fits.map fits.stored fits.is h)
one_stage g c e f (of_count fits is h) (of_memory it) = inr (inl it)
one_stage g c e f (of_count fits is h) (of_map b it k) = absurd (no_fault g c b fits.map fits.stored fits.is k)
one_stage g c e f (of_count fits is h) (of_count others it k) = inr (inr (is ∙ sym it))
one_stage g c e f (of_count fits is h) (of_logs others all k) = absurd (h all)
one_stage g c e f (of_logs fits all h) (of_memory it) = inr (inl it)
one_stage g c e f (of_logs fits all h) (of_map b it k) = absurd (no_fault g c b fits.map fits.stored fits.is k)
one_stage g c e f (of_logs fits all h) (of_count others it k) = absurd (k all)
one_stage g c e f (of_logs fits all h) (of_logs others same k) =
    same_failing g fits.map c.logs.items e f h (over_one g c fits others f k)

accepted_stage : (g : Flow) (c : Cert) (e : CheckFail) → IsAccepted g c → Stage g c e → e ≡ Memory
accepted_stage g c e a (of_memory is) = is
accepted_stage g c e a (of_map f is h) = absurd (no_fault g c f a.formulas a.stored a.is_map h)
accepted_stage g c e a (of_count fits is h) = absurd (h a.count)
accepted_stage g c e a (of_logs fits all h) =
    passing_fails g a.formulas c.logs.items e a.logs
    (over_one g c (record { map = a.formulas; stored = a.stored; is = a.is_map }) fits e h)

pub accepted_is_not_refused : AcceptedIsNotRefused
accepted_is_not_refused g c e a h = accepted_stage g c e a (stage_of g c e h)

accepted_same : (g : Flow) (c d : Cert) → content_of d ≡ content_of c → IsAccepted g d → IsAccepted g c
accepted_same g c d e a = record {
  formulas = a.formulas;
  stored = fits_same g c d e a.formulas a.stored;
  is_map = a.is_map;
  count = sym (ap length (logs_are c d e)) ∙ a.count;
  logs = subst (λ (x : List (List Chain)). AreRefutations g a.formulas x) (logs_are c d e) a.logs;
}

pub check_is_unique : CheckIsUnique
check_is_unique g c d (Ok u) (Ok w) e h k = inr (inr refl)
check_is_unique g c d (Ok u) (Err f) e h k = inr (inl (ap Err (accepted_stage g d f (accepted_same g d c e h) (stage_of g d f k))))
check_is_unique g c d (Err x) (Ok w) e h k = inl (ap Err (accepted_stage g c x (accepted_same g c d (sym e) k) (stage_of g c x h)))
check_is_unique g c d (Err x) (Err f) e h k =
    elim (one_stage g c x f (stage_of g c x h) (stage_same g c d f (sym e) (stage_of g d f k))) [
      | inl is ↦ inl (ap Err is)
      | inr rest ↦ elim rest [
        | inl it ↦ inr (inl (ap Err it))
        | inr same ↦ inr (inr (ap Err same))
      ]
    ]
