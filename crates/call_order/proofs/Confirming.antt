-- Where no call goes to a higher part, and a call within its part that stands behind no other such call lies on a cycle, it is
-- the first call on a cycle.
use Rattle.std.proofs.Common.{◌≡◌, ◌⊎◌, inl, inr, ℕ, zero, suc, ◌<◌, ◌≤◌, ◌+◌, Bool, true, false, ◌||◌, if◌then◌else◌, List, [], ◌∷◌, ◌++◌, length, map, get_or, replicate, Some, refl, ap, ◌∙◌, sym, subst, arith, append_assoc, add-one, add-zero, zero-add, eq-eqb, get_or-set_other}
use Rattle.std.specs.Prelude.{nat_eq, nat_lt, nat_le, ◌&&◌}
use Rattle.std.specs.List.{list_any}
use Rattle.std.proofs.lemmas.Bool.{eqb-true, eqb-false, ltb-true, ltb-false, leb-true, lt-ltb}
use Rattle.std.proofs.lemmas.List.{length-map}
use Rattle.lv_base.specs.declared.fault.SourceFault.TheVariants as fault
use Rattle.c_run.specs.Breaking.{Broken, line}
use Rattle.c_typed.specs.Rules.{Call, leads, has, recursion, recursion_in}
use Rattle.first_broken.specs.Found.{summary, both}
use Rattle.first_broken.proofs.Least.{joined_is}
use Rattle.call_order.specs.Layers.{IsBounded}
use Rattle.call_order.specs.Peel.{marked}
use Rattle.call_order.specs.Apart.{part_of, is_apart, own_apart, all_apart, is_call, is_made, Reaches, AreReached, only, marked_all, expanded}
use Rattle.call_order.proofs.Bools.{and_first, and_second, or_first, or_second, true_is_not_false, any_in, any_more, has_head}
use Rattle.call_order.proofs.Ranks.{always, callee_there}

-- ---- Lines of one rule

abbrev here : ℕ → List Broken
here at = line true fault.Recursion at

-- a line that is not broken before this one
abbrev IsLate : ℕ → Bool → ℕ → Type 0
IsLate at b own = b ≡ true → at ≤ own

late_right : (at own : ℕ) (b : Bool) → IsLate at b own → both (summary (here at)) (summary (line b fault.Recursion own)) ≡ summary (here at)
late_right at own false h = refl
late_right at own true h = by (nat_eq own at) refl (nat_lt own at) refl
  where
    by : (e : Bool) → e ≡ nat_eq own at → (l : Bool) → l ≡ nat_lt own at → both (summary (here at)) (summary (here own)) ≡ summary (here at)
    by true e l k = ap (λ z. record { least = if (if z then false else nat_lt own at) then Some (record { fault = fault.Recursion; at = own }) else Some (record { fault = fault.Recursion; at = at }); blocks = false }) (sym e)
    by false e true k = absurd (omega (arith, h refl, ltb-true own at (sym k)))
    by false e false k =
        ap (λ z. record { least = if (if z then false else nat_lt own at) then Some (record { fault = fault.Recursion; at = own }) else Some (record { fault = fault.Recursion; at = at }); blocks = false }) (sym e)
        ∙ ap (λ z. record { least = if z then Some (record { fault = fault.Recursion; at = own }) else Some (record { fault = fault.Recursion; at = at }); blocks = false }) (sym k)

late_left : (at own : ℕ) (b : Bool) → IsLate at b own → both (summary (line b fault.Recursion own)) (summary (here at)) ≡ summary (here at)
late_left at own false h = refl
late_left at own true h = by (nat_eq at own) refl
  where
    by : (e : Bool) → e ≡ nat_eq at own → both (summary (here own)) (summary (here at)) ≡ summary (here at)
    by true e =
        ap (λ z. record { least = if (if z then false else nat_lt at own) then Some (record { fault = fault.Recursion; at = at }) else Some (record { fault = fault.Recursion; at = own }); blocks = false }) (sym e)
        ∙ ap (λ z. summary (here z)) (sym (eqb-true at own (sym e)))
    by false e =
        ap (λ z. record { least = if (if z then false else nat_lt at own) then Some (record { fault = fault.Recursion; at = at }) else Some (record { fault = fault.Recursion; at = own }); blocks = false }) (sym e)
        ∙ ap (λ z. record { least = if z then Some (record { fault = fault.Recursion; at = at }) else Some (record { fault = fault.Recursion; at = own }); blocks = false }) (lt-ltb at own (omega (arith, h refl, eqb-false at own (sym e))))

-- two parts that change nothing, joined
two_right : (x y z : List Broken) → both (summary x) (summary y) ≡ summary x → both (summary x) (summary z) ≡ summary x → both (summary x) (summary (y ++ z)) ≡ summary x
two_right x y z h k =
    sym (joined_is x (y ++ z)) ∙ ap summary (sym (append_assoc x y z)) ∙ joined_is (x ++ y) z ∙ ap (λ s. both s (summary z)) (joined_is x y ∙ h) ∙ k

two_left : (x y z : List Broken) → both (summary y) (summary x) ≡ summary x → both (summary z) (summary x) ≡ summary x → both (summary (y ++ z)) (summary x) ≡ summary x
two_left x y z h k =
    sym (joined_is (y ++ z) x) ∙ ap summary (append_assoc y z x) ∙ joined_is y (z ++ x) ∙ ap (both (summary y)) (joined_is z x ∙ k) ∙ h

-- ---- Calls never lead to a higher part

any_with : (p : ℕ → Bool) (Q : Type 0) (fs : List ℕ) → ((f : ℕ) → has fs f ≡ true → p f ≡ true → Q) → list_any p fs ≡ true → Q
any_with p Q [] h t = absurd (true_is_not_false false t refl)
any_with p Q (f ∷ fs) h t = by (any_with p Q fs (λ g k. h g (or_second (nat_eq g f) (list_any (nat_eq g) fs) k))) (p f) refl
  where
    by : (list_any p fs ≡ true → Q) → (b : Bool) → b ≡ p f → Q
    by ih true e = h f (has_head f fs) (sym e)
    by ih false e = ih (ap (λ z. z || list_any p fs) e ∙ t)

abbrev GoesDown : List (List ℕ) → List ℕ → Type 0
GoesDown graph parts = (x c : ℕ) → has (get_or graph x []) c ≡ true → part_of parts c ≤ part_of parts x

never_up : (graph : List (List ℕ)) (parts : List ℕ) → GoesDown graph parts → (n x y : ℕ) → leads graph n x y ≡ true → part_of parts y ≤ part_of parts x
never_up graph parts d zero x y l = subst (λ (z : ℕ). part_of parts z ≤ part_of parts x) (eqb-true x y l) (omega arith)
never_up graph parts d (suc n) x y l = by (never_up graph parts d n) (nat_eq x y) refl
  where
    by : ((f z : ℕ) → leads graph n f z ≡ true → part_of parts z ≤ part_of parts f) → (b : Bool) → b ≡ nat_eq x y → part_of parts y ≤ part_of parts x
    by ih true e = subst (λ (z : ℕ). part_of parts z ≤ part_of parts x) (eqb-true x y (sym e)) (omega arith)
    by ih false e =
        any_with (λ f. leads graph n f y) (part_of parts y ≤ part_of parts x) (get_or graph x []) (λ f k m. omega (arith, d x f k, ih f y m))
        (ap (λ z. z || list_any (λ f. leads graph n f y) (get_or graph x [])) e ∙ l)

-- ---- What is tested of each call

abbrev targets_of : List Call → List ℕ
targets_of cs = map (λ c. c.to) cs

-- not higher, and late where it stays
abbrev Fits : List ℕ → ℕ → ℕ → Call → Type 0
Fits parts at own c = (part_of parts c.to < own) ⊎ ((part_of parts c.to ≡ own) × (at ≤ c.at))

fits : (parts : List ℕ) (at own : ℕ) (c : Call) → is_apart parts at own c ≡ true → Fits parts at own c
fits parts at own c h = by (nat_lt (part_of parts c.to) own) refl
  where
    by : (b : Bool) → b ≡ nat_lt (part_of parts c.to) own → Fits parts at own c
    by true e = inl (ltb-true (part_of parts c.to) own (sym e))
    by false e =
        let rest : (nat_eq (part_of parts c.to) own && nat_le at c.at) ≡ true = ap (λ z. z || (nat_eq (part_of parts c.to) own && nat_le at c.at)) e ∙ h in
        inr (eqb-true (part_of parts c.to) own (and_first (nat_eq (part_of parts c.to) own) (nat_le at c.at) rest), leb-true at c.at (and_second (nat_eq (part_of parts c.to) own) (nat_le at c.at) rest))

own_down : (parts : List ℕ) (at own : ℕ) (cs : List Call) (f : ℕ) → own_apart parts at own cs ≡ true → has (targets_of cs) f ≡ true → part_of parts f ≤ own
own_down parts at own [] f h k = absurd (true_is_not_false false k refl)
own_down parts at own (c ∷ cs) f h k = by (own_down parts at own cs f (and_second (is_apart parts at own c) _ h)) (nat_eq f c.to) refl
  where
    low : Fits parts at own c → part_of parts c.to ≤ own
    low (inl a) = omega (arith, a)
    low (inr a) = omega (arith, a.0)

    by : (has (targets_of cs) f ≡ true → part_of parts f ≤ own) → (b : Bool) → b ≡ nat_eq f c.to → part_of parts f ≤ own
    by ih true e = subst (λ (z : ℕ). part_of parts z ≤ own) (sym (eqb-true f c.to (sym e))) (low (fits parts at own c (and_first (is_apart parts at own c) _ h)))
    by ih false e = ih (ap (λ z. z || has (targets_of cs) f) e ∙ k)

apart_at : (parts : List ℕ) (at number : ℕ) (calls : List (List Call)) (i : ℕ) → all_apart parts at number calls ≡ true → own_apart parts at (part_of parts (number + i)) (get_or calls i []) ≡ true
apart_at parts at number [] i h = refl
apart_at parts at number (cs ∷ rest) zero h = ap (λ z. own_apart parts at (part_of parts z) cs) (add-zero number) ∙ and_first (own_apart parts at (part_of parts number) cs) _ h
apart_at parts at number (cs ∷ rest) (suc i) h =
    ap (λ z. own_apart parts at (part_of parts z) (get_or rest i [])) (let e : number + suc i ≡ number + 1 + i = omega arith in e)
    ∙ apart_at parts at (number + 1) rest i (and_second (own_apart parts at (part_of parts number) cs) _ h)

targets_at : (calls : List (List Call)) (i : ℕ) → get_or (map targets_of calls) i [] ≡ targets_of (get_or calls i [])
targets_at [] i = refl
targets_at (cs ∷ rest) zero = refl
targets_at (cs ∷ rest) (suc i) = targets_at rest i

all_down : (parts : List ℕ) (at : ℕ) (calls : List (List Call)) → all_apart parts at 0 calls ≡ true → GoesDown (map targets_of calls) parts
all_down parts at calls h x c k =
    own_down parts at (part_of parts x) (get_or calls x []) c
    (ap (λ z. own_apart parts at (part_of parts z) (get_or calls x [])) (sym (zero-add x)) ∙ apart_at parts at 0 calls x h)
    (ap (λ z. has z c) (sym (targets_at calls x)) ∙ k)

-- ---- The calls of a function, and those of all

module _ (graph : List (List ℕ)) (parts : List ℕ) (at : ℕ) (down : GoesDown graph parts) where
  -- a call on a cycle is not before
  late : (n caller : ℕ) (c : Call) → is_apart parts at (part_of parts caller) c ≡ true → IsLate at (leads graph n c.to caller) c.at
  late n caller c h l = by (fits parts at (part_of parts caller) c h)
    where
      by : Fits parts at (part_of parts caller) c → at ≤ c.at
      by (inl a) = absurd (omega (arith, a, never_up graph parts down n c.to caller l))
      by (inr a) = a.1

  in_right : (caller : ℕ) (cs : List Call) → own_apart parts at (part_of parts caller) cs ≡ true → both (summary (here at)) (summary (recursion_in graph caller cs)) ≡ summary (here at)
  in_right caller [] h = refl
  in_right caller (c ∷ cs) h =
      two_right (here at) (line (leads graph (length graph) c.to caller) fault.Recursion c.at) (recursion_in graph caller cs)
      (late_right at c.at (leads graph (length graph) c.to caller) (late (length graph) caller c (and_first (is_apart parts at (part_of parts caller) c) _ h)))
      (in_right caller cs (and_second (is_apart parts at (part_of parts caller) c) _ h))

  in_left : (caller : ℕ) (cs : List Call) → own_apart parts at (part_of parts caller) cs ≡ true → both (summary (recursion_in graph caller cs)) (summary (here at)) ≡ summary (here at)
  in_left caller [] h = refl
  in_left caller (c ∷ cs) h =
      two_left (here at) (line (leads graph (length graph) c.to caller) fault.Recursion c.at) (recursion_in graph caller cs)
      (late_left at c.at (leads graph (length graph) c.to caller) (late (length graph) caller c (and_first (is_apart parts at (part_of parts caller) c) _ h)))
      (in_left caller cs (and_second (is_apart parts at (part_of parts caller) c) _ h))

  all_right : (number : ℕ) (calls : List (List Call)) → all_apart parts at number calls ≡ true → both (summary (here at)) (summary (recursion graph number calls)) ≡ summary (here at)
  all_right number [] h = refl
  all_right number (cs ∷ rest) h =
      two_right (here at) (recursion_in graph number cs) (recursion graph (suc number) rest)
      (in_right number cs (and_first (own_apart parts at (part_of parts number) cs) _ h))
      (subst (λ (z : ℕ). both (summary (here at)) (summary (recursion graph z rest)) ≡ summary (here at)) (add-one number)
      (all_right (number + 1) rest (and_second (own_apart parts at (part_of parts number) cs) _ h)))

  -- a call at this offset that is on a cycle is the first
  found_in : (caller to : ℕ) (cs : List Call) → own_apart parts at (part_of parts caller) cs ≡ true → list_any (is_call at to) cs ≡ true → leads graph (length graph) to caller ≡ true →
      summary (recursion_in graph caller cs) ≡ summary (here at)
  found_in caller to [] h s l = absurd (true_is_not_false false s refl)
  found_in caller to (c ∷ cs) h s l = by (found_in caller to cs (and_second (is_apart parts at (part_of parts caller) c) _ h)) (is_call at to c) refl
    where
      by : (list_any (is_call at to) cs ≡ true → leads graph (length graph) to caller ≡ true → summary (recursion_in graph caller cs) ≡ summary (here at)) →
          (b : Bool) → b ≡ is_call at to c → summary (recursion_in graph caller (c ∷ cs)) ≡ summary (here at)
      by ih true e =
          let there : c.at ≡ at = eqb-true c.at at (and_first (nat_eq c.at at) (nat_eq c.to to) (sym e)) in
          let goal : c.to ≡ to = eqb-true c.to to (and_second (nat_eq c.at at) (nat_eq c.to to) (sym e)) in
          joined_is (line (leads graph (length graph) c.to caller) fault.Recursion c.at) (recursion_in graph caller cs)
          ∙ ap (λ z. both (summary (line z fault.Recursion c.at)) (summary (recursion_in graph caller cs))) (ap (λ z. leads graph (length graph) z caller) goal ∙ l)
          ∙ ap (λ z. both (summary (here z)) (summary (recursion_in graph caller cs))) there
          ∙ in_right caller cs (and_second (is_apart parts at (part_of parts caller) c) _ h)
      by ih false e =
          joined_is (line (leads graph (length graph) c.to caller) fault.Recursion c.at) (recursion_in graph caller cs)
          ∙ ap (both (summary (line (leads graph (length graph) c.to caller) fault.Recursion c.at))) (ih (ap (λ z. z || list_any (is_call at to) cs) e ∙ s) l)
          ∙ late_left at c.at (leads graph (length graph) c.to caller) (late (length graph) caller c (and_first (is_apart parts at (part_of parts caller) c) _ h))

  found_all : (number to i : ℕ) (calls : List (List Call)) → all_apart parts at number calls ≡ true → list_any (is_call at to) (get_or calls i []) ≡ true → leads graph (length graph) to (number + i) ≡ true →
      summary (recursion graph number calls) ≡ summary (here at)
  found_all number to i [] h s l = absurd (true_is_not_false false s refl)
  found_all number to zero (cs ∷ rest) h s l =
      joined_is (recursion_in graph number cs) (recursion graph (suc number) rest)
      ∙ ap (λ z. both z (summary (recursion graph (suc number) rest)))
      (found_in number to cs (and_first (own_apart parts at (part_of parts number) cs) _ h) s (ap (λ z. leads graph (length graph) to z) (sym (add-zero number)) ∙ l))
      ∙ subst (λ (z : ℕ). both (summary (here at)) (summary (recursion graph z rest)) ≡ summary (here at)) (add-one number)
      (all_right (number + 1) rest (and_second (own_apart parts at (part_of parts number) cs) _ h))
  found_all number to (suc i) (cs ∷ rest) h s l =
      joined_is (recursion_in graph number cs) (recursion graph (suc number) rest)
      ∙ ap (λ z. both (summary (recursion_in graph number cs)) (summary (recursion graph z rest))) (sym (add-one number))
      ∙ ap (both (summary (recursion_in graph number cs)))
      (found_all (number + 1) to i rest (and_second (own_apart parts at (part_of parts number) cs) _ h) s (ap (λ z. leads graph (length graph) to z) (let e : number + 1 + i ≡ number + suc i = omega arith in e) ∙ l))
      ∙ in_left number cs (and_first (own_apart parts at (part_of parts number) cs) _ h)

past : (at to : ℕ) (cs : List (List Call)) (i : ℕ) → length cs ≤ i → list_any (is_call at to) (get_or cs i []) ≡ true → ⊥
past at to [] i h s = true_is_not_false false s refl
past at to (c ∷ cs) zero h s = absurd (omega (arith, h))
past at to (c ∷ cs) (suc i) h s = past at to cs i (omega (arith, h)) s

inside : (at to : ℕ) (calls : List (List Call)) (caller : ℕ) → is_made at to caller calls ≡ true → caller < length (map targets_of calls)
inside at to calls caller m = by (nat_lt caller (length calls)) refl
  where
    by : (z : Bool) → z ≡ nat_lt caller (length calls) → caller < length (map targets_of calls)
    by true e = omega (arith, ltb-true caller (length calls) (sym e), length-map calls targets_of)
    by false e = absurd (past at to calls caller (ltb-false caller (length calls) (sym e)) m)

called : (at to : ℕ) (cs : List Call) → list_any (is_call at to) cs ≡ true → has (targets_of cs) to ≡ true
called at to [] s = absurd (true_is_not_false false s refl)
called at to (c ∷ cs) s = by (called at to cs) (is_call at to c) refl
  where
    by : (list_any (is_call at to) cs ≡ true → has (targets_of cs) to ≡ true) → (z : Bool) → z ≡ is_call at to c → (nat_eq to c.to || has (targets_of cs) to) ≡ true
    by ih true e = or_first (nat_eq to c.to) _ (eq-eqb to c.to (sym (eqb-true c.to to (and_second (nat_eq c.at at) (nat_eq c.to to) (sym e)))))
    by ih false e = or_second (nat_eq to c.to) _ (ih (ap (λ z. z || list_any (is_call at to) cs) e ∙ s))

pub first_is : (calls : List (List Call)) (parts : List ℕ) (at to caller : ℕ) → IsBounded (map targets_of calls) → all_apart parts at 0 calls ≡ true → is_made at to caller calls ≡ true →
    Reaches (map targets_of calls) to caller → summary (here at) ≡ summary (recursion (map targets_of calls) 0 calls)
first_is calls parts at to caller b a m r =
    let graph : List (List ℕ) = map targets_of calls in
    let low : caller < length graph = inside at to calls caller m in
    let there : to < length graph = callee_there graph b caller to low (ap (λ z. has z to) (targets_at calls caller) ∙ called at to (get_or calls caller []) m) in
    sym (found_all graph parts at (all_down parts at calls a) 0 to caller calls a m (ap (λ z. leads graph (length graph) to z) (zero-add caller) ∙ always graph b r.0 to caller there low r.1))

-- ---- Functions that are reached

leads_behind : (graph : List (List ℕ)) (n x f g : ℕ) → leads graph n x f ≡ true → has (get_or graph f []) g ≡ true → leads graph (suc n) x g ≡ true
leads_behind graph zero x f g l h =
    or_second (nat_eq x g) _
    (any_in (λ k. nat_eq k g) (get_or graph x []) g (ap (λ z. has (get_or graph z []) g) (eqb-true x f l) ∙ h) (eq-eqb g g refl))
leads_behind graph (suc n) x f g l h = by (λ y k. leads_behind graph n y f g k h) (nat_eq x f) refl
  where
    one : (y : ℕ) → y ≡ f → leads graph (suc n) g g ≡ true → leads graph (suc (suc n)) y g ≡ true
    one y e k = or_second (nat_eq y g) _ (any_in (λ z. leads graph (suc n) z g) (get_or graph y []) g (ap (λ z. has (get_or graph z []) g) e ∙ h) k)

    by : ((y : ℕ) → leads graph n y f ≡ true → leads graph (suc n) y g ≡ true) → (b : Bool) → b ≡ nat_eq x f → leads graph (suc (suc n)) x g ≡ true
    by ih true e = one x (eqb-true x f (sym e)) (or_first (nat_eq g g) _ (eq-eqb g g refl))
    by ih false e =
        or_second (nat_eq x g) _
        (any_more (λ y. leads graph n y f) (λ y. leads graph (suc n) y g) (get_or graph x []) ih (ap (λ z. z || list_any (λ y. leads graph n y f) (get_or graph x [])) e ∙ l))

marked_reached : (graph : List (List ℕ)) (start : ℕ) (marks : List Bool) (g : ℕ) → AreReached graph start marks → Reaches graph start g → AreReached graph start (marked marks g)
marked_reached graph start marks g r k f h = by (nat_eq f g) refl
  where
    by : (b : Bool) → b ≡ nat_eq f g → Reaches graph start f
    by true e = subst (λ (z : ℕ). Reaches graph start z) (sym (eqb-true f g (sym e))) k
    by false e = r f (sym (get_or-set_other marks g f true false (eqb-false f g (sym e))) ∙ h)

all_reached : (graph : List (List ℕ)) (start : ℕ) (marks : List Bool) (fs : List ℕ) → AreReached graph start marks → ((g : ℕ) → has fs g ≡ true → Reaches graph start g) → AreReached graph start (marked_all marks fs)
all_reached graph start marks [] r k = r
all_reached graph start marks (f ∷ fs) r k =
    all_reached graph start (marked marks f) fs (marked_reached graph start marks f r (k f (has_head f fs))) (λ g h. k g (or_second (nat_eq g f) (has fs g) h))

pub expanded_reached : (graph : List (List ℕ)) (start f : ℕ) (marks new : List Bool) → AreReached graph start marks → new ≡ expanded graph f marks → AreReached graph start new
expanded_reached graph start f marks new r e = subst (λ (z : List Bool). AreReached graph start z) (sym e) (by (get_or marks f false) refl)
  where
    by : (b : Bool) → b ≡ get_or marks f false → AreReached graph start (if get_or marks f false then marked_all marks (get_or graph f []) else marks)
    by true k =
        let own : Reaches graph start f = r f (sym k) in
        subst (λ (z : Bool). AreReached graph start (if z then marked_all marks (get_or graph f []) else marks)) k
        (all_reached graph start marks (get_or graph f []) r (λ g h. (suc own.0, leads_behind graph own.0 start f g own.1 h)))
    by false k = subst (λ (z : Bool). AreReached graph start (if z then marked_all marks (get_or graph f []) else marks)) k r

pub only_reached : (graph : List (List ℕ)) (count start : ℕ) (marks : List Bool) → marks ≡ only count start → AreReached graph start marks
only_reached graph count start marks e = subst (λ (z : List Bool). AreReached graph start z) (sym e) (marked_reached graph start (replicate count false) start (none count) (0, eq-eqb start start refl))
  where
    at : (n f : ℕ) → get_or (replicate n false) f false ≡ false
    at zero f = refl
    at (suc n) zero = refl
    at (suc n) (suc f) = at n f

    none : (n : ℕ) → AreReached graph start (replicate n false)
    none n f h = absurd (true_is_not_false (get_or (replicate n false) f false) h (at n f))
