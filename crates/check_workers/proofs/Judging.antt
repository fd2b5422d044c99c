-- What the workers' findings say of all obligations.
use Rattle.std.proofs.Common.{subst, ◌≡◌, ℕ, zero, suc, ◌+◌, ◌<◌, ◌≤◌, ◌⊎◌, inl, inr, List, [], ◌∷◌, ◌++◌, length, All, Option, None, Some, IfSome, slice_get, refl, sym, ap, ◌∙◌, arith}
use Rattle.std.proofs.lemmas.Bool.Decides.{nat_tests}
use Rattle.c_graph.specs.Shape.{Flow}
use Rattle.c_graph.specs.Runs.{Formulas}
use Rattle.resolution_log.specs.declared.Chain.{Chain}
use Rattle.cert_check.specs.declared.fails.CheckFail.{CheckFail}
use Rattle.cert_check.specs.Answers.{AreRefutations, Passes}
use Rattle.cert_check.specs.Causes.{IsLogCause, IsLogsCause}
use Rattle.cert_check.proofs.Faults.{first_fails}
use Rattle.work_claims.specs.declared.knowledge.Hand.{Hand}
use Rattle.work_claims.specs.declared.words.Claimer.{Claimer}
use Rattle.work_claims.specs.Counts.{times, once_below, least, total_of, least_of}
use Rattle.work_claims.specs.declared.words.Claims.{Claims}
use Rattle.work_claims.specs.Hands.{fresh, with_given, with_answer, with_report}
use Rattle.work_claims.specs.Seats.{hand, terms, IsOf}
use Rattle.c_graph.specs.Runs.{IsMapOf}
use Rattle.obligations.specs.Questions.{count_of}
use Rattle.std.proofs.lemmas.List.Elements.{All-nil, All-cons, All-head, All-tail, All-weaker}
use Rattle.check_workers.specs.declared.worker.Failure.{Failure}
use Rattle.check_workers.specs.declared.worker.Worked.{Worked}
use Rattle.check_workers.specs.Working.{IsPassed, HavePassed, IsSettled, IsFailure, IsEnded, CanWork, IsWorked}

some_or_none : (k : ℕ) → (0 < k) ⊎ (k ≡ 0)
some_or_none zero = inr refl
some_or_none (suc k) = inl (omega arith)

abbrev or_this : {X : Type 0} → Option X → X → X
or_this None x = x
or_this (Some y) x = y

-- the least of some numbers is at most each of them
least-at : (n : ℕ) (xs : List ℕ) → 0 < times n xs → least xs ≤ n
least-at n [] h = absurd (omega arith)
least-at n (x ∷ xs) h = elim (some_or_none (times n xs)) [
  | inl here ↦ let r = least-at n xs here in omega arith
  | inr none ↦ grind (arith, nat_tests)
]

times-append : (x : ℕ) (ys zs : List ℕ) → times x (ys ++ zs) ≡ times x ys + times x zs
times-append x [] zs = omega arith
times-append x (y ∷ ys) zs = let r = times-append x ys zs in omega arith

times-last : (x : ℕ) (ys : List ℕ) → 0 < times x (ys ++ x ∷ [])
times-last x [] = grind (arith, nat_tests)
times-last x (y ∷ ys) = let r = times-last x ys in omega arith

-- a number that stands in a longer list stands in the list, or is what was added
pub added_or_there : (n k : ℕ) (xs : List ℕ) → 0 < times n (xs ++ k ∷ []) → (0 < times n xs) ⊎ (k ≡ n)
added_or_there n k xs h = grind (arith, nat_tests, times-append n xs (k ∷ []))

module _ (g : Flow) (m : Formulas) (logs : List (List Chain)) where
  -- what was given before has passed, and so does what is given now
  pub passed_more : (h : Hand) (k : ℕ) → HavePassed g m logs h → IsPassed g m logs k → HavePassed g m logs (with_given h k)
  passed_more h k before one n at = elim (added_or_there n k h.given at) [
    | inl there ↦ before n there
    | inr same ↦ subst (IsPassed g m logs) same one
  ]

  -- of each worker: what it was given is settled, and neither its reports nor its answers are below this number
  abbrev pub Stands : ℕ → Claimer → Type 0
  Stands low c = IsSettled g m logs (hand c) × (low ≤ least (hand c).reported) × (low ≤ (hand c).least)

  stand : (low : ℕ) (cs : List Claimer) → All (λ c. IsSettled g m logs (hand c)) cs → low ≤ least_of (λ c. least (hand c).reported) cs → low ≤ least_of (λ c. (hand c).least) cs → All (Stands low) cs
  stand low [] settled reports answers = All-nil (Stands low)
  stand low (c ∷ cs) settled reports answers =
      let first : Stands low c = (All-head (λ c. IsSettled g m logs (hand c)) c cs settled, omega arith, omega arith) in
      All-cons (Stands low) c cs first (stand low cs (All-tail (λ c. IsSettled g m logs (hand c)) c cs settled) (omega arith) (omega arith))

  too_low : (low n : ℕ) (c : Claimer) → Stands low c → n < low → (0 < times n (hand c).reported) ⊎ ((hand c).least < n) → ⊥
  too_low low n c stands below (inl reported) = let l = least-at n (hand c).reported reported in let b = stands.1 in omega arith
  too_low low n c stands below (inr above) = let b = stands.2 in omega arith

  settled_below : (low n : ℕ) (c : Claimer) → Stands low c → n < low → 0 < times n (hand c).given → IsPassed g m logs n
  settled_below low n c stands below here = elim (stands.0.each n here) [
    | inl passed ↦ passed
    | inr later ↦ absurd (too_low low n c stands below later)
  ]

  -- what one of them was given, below that number, has passed
  given_passed : (low n : ℕ) (cs : List Claimer) → All (Stands low) cs → 0 < total_of (λ c. times n (hand c).given) cs → n < low → IsPassed g m logs n
  given_passed low n [] all some below = absurd (omega arith)
  given_passed low n (c ∷ cs) all some below = elim (some_or_none (times n (hand c).given)) [
    | inl here ↦ settled_below low n c (All-head (Stands low) c cs all) below here
    | inr none ↦ given_passed low n cs (All-tail (Stands low) c cs all) (omega arith) below
  ]

  -- the obligations that were given out, below the least report, have passed
  pub below_passed :
      (low claimed : ℕ) (cs : List Claimer) → All (λ c. IsSettled g m logs (hand c)) cs
      → ((x : ℕ) → total_of (λ c. times x (hand c).given) cs ≡ once_below x claimed)
      → low ≡ least_of (λ c. least (hand c).reported) cs → low ≤ least_of (λ c. (hand c).least) cs
      → (n : ℕ) → n < low → n < claimed → IsPassed g m logs n
  below_passed low claimed cs settled given reports answers n below there =
      let at : once_below n claimed ≡ 1 = grind (arith, nat_tests) in
      let is = given n in
      given_passed low n cs (stand low cs settled (omega arith) answers) (omega arith) below

  there-below : (xs : List (List Chain)) (n : ℕ) (x : List Chain) → slice_get xs n ≡ Some x → n < length xs
  there-below [] n x at = absurd cc
  there-below (y ∷ xs) zero x at = omega arith
  there-below (y ∷ xs) (suc n) x at = let r = there-below xs n x at in omega arith

  -- all were given out, and none was reported
  pub all_passed : (low claimed : ℕ) → ((n : ℕ) → n < low → n < claimed → IsPassed g m logs n) → claimed ≡ length logs → length logs < low → AreRefutations g m logs
  all_passed low claimed passed all few n log at = let b = there-below logs n log at in passed n (omega arith) (omega arith) log at

  -- the lowest one that was reported fails so, and those before it have passed
  pub lowest_fails : (n : ℕ) (fail : CheckFail) → ((i : ℕ) → i < n → IsPassed g m logs i) → IsFailure g m logs (record { number = n; fail = fail }) → IsLogsCause g m logs fail
  lowest_fails n fail passed fails = first_fails g m logs n fails.log fail (λ i other below there. passed i below other there) fails.at fails.cause

  -- what an end of a worker leaves settled: all has passed but the last number, which is above an answer, or was reported
  pub settled_all : (h : Hand) → HavePassed g m logs h → IsSettled g m logs h
  settled_all h passed = record { each = λ n there. inl (passed n there) }

  above_or_passed :
      (h : Hand) (k answer : ℕ) → HavePassed g m logs h → answer < k → (n : ℕ) → (0 < times n h.given) ⊎ (k ≡ n)
      → IsPassed g m logs n ⊎ ((0 < times n h.reported) ⊎ (answer < n))
  above_or_passed h k answer passed above n (inl before) = inl (passed n before)
  above_or_passed h k answer passed above n (inr same) = inr (inr (omega arith))

  reported_or_passed :
      (h : Hand) (k answer : ℕ) → HavePassed g m logs h → (n : ℕ) → (0 < times n h.given) ⊎ (k ≡ n)
      → IsPassed g m logs n ⊎ ((0 < times n (h.reported ++ k ∷ [])) ⊎ (answer < n))
  reported_or_passed h k answer passed n (inl before) = inl (passed n before)
  reported_or_passed h k answer passed n (inr same) =
      inr (inl (subst (λ (j : ℕ). 0 < times j (h.reported ++ k ∷ [])) same (times-last k h.reported)))

  pub settled_above :
      (h : Hand) (k answer : ℕ) → HavePassed g m logs h → answer < k → IsSettled g m logs (with_answer (with_given h k) answer)
  settled_above h k answer passed above = record { each = λ n there. above_or_passed h k answer passed above n (added_or_there n k h.given there) }

  pub settled_reported :
      (h : Hand) (k answer : ℕ) → HavePassed g m logs h → IsSettled g m logs (with_report (with_answer (with_given h k) answer) k)
  settled_reported h k answer passed = record { each = λ n there. reported_or_passed h k answer passed n (added_or_there n k h.given there) }

  pub judged_all :
      (low claimed : ℕ) (cs : List Claimer) → All (λ c. IsSettled g m logs (hand c)) cs
      → ((x : ℕ) → total_of (λ c. times x (hand c).given) cs ≡ once_below x claimed)
      → low ≡ least_of (λ c. least (hand c).reported) cs → low ≤ least_of (λ c. (hand c).least) cs
      → low ≡ 4294967295 → claimed ≡ length logs → length logs ≤ 2147483648 → AreRefutations g m logs
  judged_all low claimed cs settled given reports answers none all few =
      all_passed low claimed (below_passed low claimed cs settled given reports answers) all (omega arith)

  pub judged_first :
      (low claimed : ℕ) (fail : CheckFail) (cs : List Claimer) → All (λ c. IsSettled g m logs (hand c)) cs
      → ((x : ℕ) → total_of (λ c. times x (hand c).given) cs ≡ once_below x claimed)
      → low ≡ least_of (λ c. least (hand c).reported) cs → low ≤ least_of (λ c. (hand c).least) cs
      → low < claimed → IsFailure g m logs (record { number = low; fail = fail }) → IsLogsCause g m logs fail
  judged_first low claimed fail cs settled given reports answers there fails =
      lowest_fails low fail (λ i below. below_passed low claimed cs settled given reports answers i below (omega arith)) fails

  -- a failure of this number
  pub at_number : (f : Failure) (n : ℕ) → f.number ≡ n → IsFailure g m logs f → IsFailure g m logs (record { number = n; fail = f.fail })
  at_number f n same fails = subst (λ (k : ℕ). IsFailure g m logs (record { number = k; fail = f.fail })) same fails

  -- the log by which an obligation passes is the only one of its number
  pub passed_at : (n : ℕ) (l : List Chain) → slice_get logs n ≡ Some l → Passes g m n l → IsPassed g m logs n
  passed_at n l at passes log there = subst (λ (x : List Chain). Passes g m n x) (ap (λ (o : Option (List Chain)). or_this o l) (sym at ∙ there)) passes

  pub fails_at : (n : ℕ) (l : List Chain) (fail : CheckFail) → slice_get logs n ≡ Some l → IsLogCause g m n l fail → IsFailure g m logs (record { number = n; fail = fail })
  fails_at n l fail at cause = record { log = l; at = at; cause = cause }

  pub all_ended : (s : Claims) (ws : List Worked) → All (IsWorked g m logs s) ws → All (λ w. IsEnded g m logs s w.me) ws
  all_ended s ws all = All-weaker (IsWorked g m logs s) (λ w. IsEnded g m logs s w.me) (λ w is. is.ended) ws all

  pub ended_of : (s : Claims) (cs : List Claimer) → All (IsEnded g m logs s) cs → All (IsOf s) cs
  ended_of s cs all = All-weaker (IsEnded g m logs s) (IsOf s) (λ c is. is.of) cs all

  pub ended_settled : (s : Claims) (cs : List Claimer) → All (IsEnded g m logs s) cs → All (λ c. IsSettled g m logs (hand c)) cs
  ended_settled s cs all = All-weaker (IsEnded g m logs s) (λ c. IsSettled g m logs (hand c)) (λ c is. is.settled) cs all

  pub all_failed : (s : Claims) (ws : List Worked) → All (IsWorked g m logs s) ws → All (λ w. IfSome w.failed (IsFailure g m logs)) ws
  all_failed s ws all = All-weaker (IsWorked g m logs s) (λ w. IfSome w.failed (IsFailure g m logs)) (λ w is. is.failed) ws all

  -- each of these claimers may begin
  pub all_ready :
      (s : Claims) (cs : List Claimer) → IsMapOf g m → length logs ≡ count_of g → (terms s).total ≡ length logs → All (IsOf s) cs
      → All (λ c. hand c ≡ fresh (terms s).total 1) cs → All (CanWork g m logs s) cs
  all_ready s [] map all total of begun = All-nil (CanWork g m logs s)
  all_ready s (c ∷ cs) map all total of begun =
      All-cons (CanWork g m logs s) c cs
      (record { map = map; all = all; total = total; of = All-head (IsOf s) c cs of; begun = All-head (λ c. hand c ≡ fresh (terms s).total 1) c cs begun })
      (all_ready s cs map all total (All-tail (IsOf s) c cs of) (All-tail (λ c. hand c ≡ fresh (terms s).total 1) c cs begun))
