-- Where variables occur last.
use Rattle.std.proofs.Common.{◌≡◌, ℕ, ◌+◌, ◌<◌, ◌≤◌, ◌⊎◌, inl, inr, Bool, true, false, ◌||◌, ◌&&◌, List, [], ◌∷◌, ◌++◌, length, cond, nat_eq, nat_lt, drop, set, take, slice_index, Some, slice_get, zero, suc, refl, sym, ap, ◌∙◌, subst, arith}
use Rattle.std.proofs.lemmas.Bool.{or_cases, or_right, eqb-true, eq-eqb, ne_eqb, cases_eq, both_ways, lt-ltb, le-ltb}
use Rattle.std.proofs.lemmas.List.{at_drop_more, at_drop_all}
use Rattle.std.proofs.lemmas.Option.{slice_get_within, get_or_from_slice_get}
use Rattle.prop.specs.declared.Lit.{Lit}
use Rattle.prop.specs.Trues.{listed}
use Rattle.resolution_log.specs.Codes.{vars_of, all_vars, place, Covers, CoversAll}
use Rattle.resolution_log.proofs.Places.{place_inj, listed_at}
use Rattle.resolution_log.proofs.MarkLaws.{read_set}
use Rattle.interpolants.specs.Rules.{is_behind}
use Rattle.interpolants.specs.Sources.{is_noted, last_end, AreEnds}

-- one of two lists has a number
listed-either : (xs ys : List ℕ) (x : ℕ) → listed (xs ++ ys) x ≡ (listed xs x || listed ys x)
listed-either [] ys x = refl
listed-either (y ∷ xs) ys x = ap (λ (b : Bool). nat_eq y x || b) (listed-either xs ys x) ∙ turn (nat_eq y x) (listed xs x) (listed ys x)
  where
    turn : (a b c : Bool) → (a || (b || c)) ≡ ((a || b) || c)
    turn true b c = refl
    turn false b c = refl

-- the variables that are left of a clause, and of clauses
pub lits-left : (c : List Lit) (k x : ℕ) (l : Lit) → slice_get c k ≡ Some l
    → listed (vars_of (drop k c)) x ≡ (nat_eq l.var x || listed (vars_of (drop (k + 1) c)) x)
lits-left c k x l g =
    at_drop_more (λ (ls : List Lit). listed (vars_of ls) x) c k l (slice_get_within c k l g)
    ∙ ap (λ (m : Lit). nat_eq m.var x || listed (vars_of (drop (k + 1) c)) x) (get_or_from_slice_get c k l l g)

pub clauses-left : (cs : List (List Lit)) (k x : ℕ) (c : List Lit) → slice_get cs k ≡ Some c
    → listed (all_vars (drop k cs)) x ≡ (listed (vars_of c) x || listed (all_vars (drop (k + 1) cs)) x)
clauses-left cs k x c g =
    at_drop_more (λ (ds : List (List Lit)). listed (all_vars ds) x) cs k c (slice_get_within cs k c g)
    ∙ ap (λ (d : List Lit). listed (vars_of d ++ all_vars (drop (k + 1) cs)) x) (get_or_from_slice_get cs k c c g)
    ∙ listed-either (vars_of c) (all_vars (drop (k + 1) cs)) x

-- each variable is below a number, or still to come
pub lits-over : (c : List Lit) (k b d : ℕ) (l : Lit) → slice_get c k ≡ Some l → b ≤ d → l.var < d → (x : ℕ)
    → (x < b) ⊎ (listed (vars_of (drop k c)) x ≡ true) → (x < d) ⊎ (listed (vars_of (drop (k + 1) c)) x ≡ true)
lits-over c k b d l g le lt x (inl h) = inl (omega (arith, h, le))
lits-over c k b d l g le lt x (inr h) =
    elim (or_cases (nat_eq l.var x) (listed (vars_of (drop (k + 1) c)) x) (sym (lits-left c k x l g) ∙ h)) [
      | inl e ↦ inl (let q : l.var ≡ x = eqb-true l.var x e in omega (arith, lt, q))
      | inr r ↦ inr r
    ]

pub lits-all : (c : List Lit) (k b : ℕ) → length c ≤ k → (x : ℕ) → (x < b) ⊎ (listed (vars_of (drop k c)) x ≡ true) → x < b
lits-all c k b le x (inl h) = h
lits-all c k b le x (inr h) = absurd (both_ways _ (at_drop_all (λ (ls : List Lit). listed (vars_of ls) x) c k le) h)

pub clauses-over : (cs : List (List Lit)) (k b d : ℕ) (c : List Lit) → slice_get cs k ≡ Some c → b ≤ d
    → ((x : ℕ) → listed (vars_of c) x ≡ true → x < d) → (x : ℕ)
    → (x < b) ⊎ (listed (all_vars (drop k cs)) x ≡ true) → (x < d) ⊎ (listed (all_vars (drop (k + 1) cs)) x ≡ true)
clauses-over cs k b d c g le lt x (inl h) = inl (omega (arith, h, le))
clauses-over cs k b d c g le lt x (inr h) =
    elim (or_cases (listed (vars_of c) x) (listed (all_vars (drop (k + 1) cs)) x) (sym (clauses-left cs k x c g) ∙ h)) [ inl e ↦ inl (lt x e) | inr r ↦ inr r ]

pub clauses-all : (cs : List (List Lit)) (k b : ℕ) → length cs ≤ k → (x : ℕ) → (x < b) ⊎ (listed (all_vars (drop k cs)) x ≡ true) → x < b
clauses-all cs k b le x (inl h) = h
clauses-all cs k b le x (inr h) = absurd (both_ways _ (at_drop_all (λ (ds : List (List Lit)). listed (all_vars ds) x) cs k le) h)

-- all variables are listed
covered : (vars : List ℕ) (c : List Lit) (x : ℕ) → Covers vars c → listed (vars_of c) x ≡ true → listed vars x ≡ true
covered vars [] x h e = absurd cc
covered vars (l ∷ c) x h e =
    elim (or_cases (nat_eq l.var x) (listed (vars_of c) x) e) [
      | inl q ↦ subst (λ (n : ℕ). listed vars n ≡ true) (eqb-true l.var x q) h.0
      | inr r ↦ covered vars c x h.1 r
    ]

pub all-covered : (vars : List ℕ) (cs : List (List Lit)) (x : ℕ) → CoversAll vars cs → listed (all_vars cs) x ≡ true → listed vars x ≡ true
all-covered vars [] x h e = absurd cc
all-covered vars (c ∷ cs) x h e =
    elim (or_cases (listed (vars_of c) x) (listed (all_vars cs) x) (sym (listed-either (vars_of c) (all_vars cs) x) ∙ e)) [
      | inl q ↦ covered vars c x h.0 q
      | inr r ↦ all-covered vars cs x h.1 r
    ]

pub itself-listed : (vars : List ℕ) (n x : ℕ) → length vars ≡ n → ((k : ℕ) → k < n → slice_index vars k ≡ k) → x < n → listed vars x ≡ true
itself-listed vars n x e h lt = listed_at vars x x (omega (arith, e, lt)) (h x lt)

-- a number that is noted
place-same : (vars : List ℕ) (a x : ℕ) → nat_eq (place vars a) (place vars x) ≡ nat_eq a x
place-same vars a x = way (cases_eq a x)
  where
    way : (a ≡ x) ⊎ (a ≡ x → ⊥) → nat_eq (place vars a) (place vars x) ≡ nat_eq a x
    way (inl e) = eq-eqb (place vars a) (place vars x) (ap (place vars) e) ∙ sym (eq-eqb a x e)
    way (inr n) = ne_eqb (place vars a) (place vars x) (λ q. n (place_inj vars a x q)) ∙ sym (ne_eqb a x n)

pub noted-there : (vars xs ys : List ℕ) (a v : ℕ) → place vars a < length xs → ys ≡ set xs (place vars a) v → (x : ℕ)
    → slice_index ys (place vars x) ≡ cond (nat_eq a x) v (slice_index xs (place vars x))
noted-there vars xs ys a v lt e x =
    ap (λ (zs : List ℕ). slice_index zs (place vars x)) e ∙ read_set xs (place vars a) (place vars x) v lt
    ∙ ap (λ (b : Bool). cond b v (slice_index xs (place vars x))) (place-same vars a x)

pub noted-none : (vars xs : List ℕ) (a v : ℕ) → listed vars a ≡ false → (x : ℕ) → listed vars x ≡ true
    → slice_index xs (place vars x) ≡ cond (nat_eq a x) v (slice_index xs (place vars x))
noted-none vars xs a v none x h =
    ap (λ (b : Bool). cond b v (slice_index xs (place vars x))) (sym (ne_eqb a x (λ e. both_ways _ (ap (listed vars) (sym e) ∙ none) h)))

-- a clause whose variables are noted in turn
pub lits-noted : (c : List Lit) (k x v a b whole : ℕ) (l : Lit) → slice_get c k ≡ Some l → b ≡ cond (nat_eq l.var x) v a
    → cond (listed (vars_of (drop k c)) x) v a ≡ whole → cond (listed (vars_of (drop (k + 1) c)) x) v b ≡ whole
lits-noted c k x v a b whole l g e h =
    ap (λ (n : ℕ). cond (listed (vars_of (drop (k + 1) c)) x) v n) e
    ∙ turn (nat_eq l.var x) (listed (vars_of (drop (k + 1) c)) x)
    ∙ ap (λ (t : Bool). cond t v a) (sym (lits-left c k x l g)) ∙ h
  where
    turn : (s t : Bool) → cond t v (cond s v a) ≡ cond (s || t) v a
    turn true true = refl
    turn true false = refl
    turn false true = refl
    turn false false = refl

pub lits-done : (c : List Lit) (k x v a whole : ℕ) → length c ≤ k → cond (listed (vars_of (drop k c)) x) v a ≡ whole → a ≡ whole
lits-done c k x v a whole le h =
    sym (ap (λ (t : Bool). cond t v a) (at_drop_all (λ (ls : List Lit). listed (vars_of ls) x) c k le)) ∙ h

-- clauses in turn
pub ends-next : (cs : List (List Lit)) (k x a b whole : ℕ) (c : List Lit) → slice_get cs k ≡ Some c → b ≡ cond (listed (vars_of c) x) (k + 1) a
    → last_end a k (drop k cs) x ≡ whole → last_end b (k + 1) (drop (k + 1) cs) x ≡ whole
ends-next cs k x a b whole c g e h =
    ap (λ (n : ℕ). last_end n (k + 1) (drop (k + 1) cs) x) e
    ∙ ap (λ (d : List Lit). last_end (cond (listed (vars_of d) x) (k + 1) a) (k + 1) (drop (k + 1) cs) x) (sym (get_or_from_slice_get cs k c c g))
    ∙ sym (at_drop_more (λ (ds : List (List Lit)). last_end a k ds x) cs k c (slice_get_within cs k c g)) ∙ h

pub ends-done : (cs : List (List Lit)) (k x a whole : ℕ) → length cs ≤ k → last_end a k (drop k cs) x ≡ whole → a ≡ whole
ends-done cs k x a whole le h = sym (at_drop_all (λ (ds : List (List Lit)). last_end a k ds x) cs k le) ∙ h

-- the last end, and where a variable occurs
end-none : (cs : List (List Lit)) (b n x : ℕ) → listed (all_vars cs) x ≡ false → last_end b n cs x ≡ b
end-none [] b n x h = refl
end-none (c ∷ cs) b n x h =
    way (listed (vars_of c) x) (listed (all_vars cs) x) refl refl (sym (listed-either (vars_of c) (all_vars cs) x) ∙ h) (λ q. end-none cs b (n + 1) x q)
  where
    way : (s t : Bool) → listed (vars_of c) x ≡ s → listed (all_vars cs) x ≡ t → (s || t) ≡ false
        → (listed (all_vars cs) x ≡ false → last_end b (n + 1) cs x ≡ b) → last_end b n (c ∷ cs) x ≡ b
    way true t p q e ih = absurd cc
    way false true p q e ih = absurd cc
    way false false p q e ih = ap (λ (u : Bool). last_end (cond u (n + 1) b) (n + 1) cs x) p ∙ ih q

end-some : (cs : List (List Lit)) (b n x : ℕ) → listed (all_vars cs) x ≡ true → n < last_end b n cs x
end-some [] b n x h = absurd cc
end-some (c ∷ cs) b n x h =
    way (listed (vars_of c) x) (listed (all_vars cs) x) refl refl (sym (listed-either (vars_of c) (all_vars cs) x) ∙ h)
    (λ q. end-some cs (cond (listed (vars_of c) x) (n + 1) b) (n + 1) x q)
  where
    way : (s t : Bool) → listed (vars_of c) x ≡ s → listed (all_vars cs) x ≡ t → (s || t) ≡ true
        → (listed (all_vars cs) x ≡ true → n + 1 < last_end (cond (listed (vars_of c) x) (n + 1) b) (n + 1) cs x) → n < last_end b n (c ∷ cs) x
    way s true p q e ih = let r = ih q in omega (arith, r)
    way true false p q e ih =
        let r : last_end b n (c ∷ cs) x ≡ n + 1 =
        ap (λ (u : Bool). last_end (cond u (n + 1) b) (n + 1) cs x) p ∙ end-none cs (n + 1) (n + 1) x q in
        omega (arith, r)
    way false false p q e ih = absurd cc

end-at : (cs : List (List Lit)) (b n x : ℕ) → b ≤ n → nat_lt n (last_end b n cs x) ≡ listed (all_vars cs) x
end-at cs b n x le = way (listed (all_vars cs) x) refl
  where
    way : (t : Bool) → listed (all_vars cs) x ≡ t → nat_lt n (last_end b n cs x) ≡ listed (all_vars cs) x
    way true q = lt-ltb n (last_end b n cs x) (end-some cs b n x q) ∙ sym q
    way false q =
        let r : last_end b n cs x ≡ b = end-none cs b n x q in
        le-ltb n (last_end b n cs x) (omega (arith, r, le)) ∙ sym q

raised-less : (t : Bool) (b n : ℕ) → b ≤ n → cond t (n + 1) b ≤ n + 1
raised-less true b n le = omega arith
raised-less false b n le = omega (arith, le)

end-behind : (cs : List (List Lit)) (b n edge x : ℕ) → b ≤ n → nat_lt (n + edge) (last_end b n cs x) ≡ is_behind cs edge x
end-behind [] b n zero x le = le-ltb (n + zero) b (omega (arith, le))
end-behind [] b n (suc edge) x le = le-ltb (n + suc edge) b (omega (arith, le))
end-behind (c ∷ cs) b n zero x le =
    let z : n + zero ≡ n = omega arith in
    ap (λ (m : ℕ). nat_lt m (last_end b n (c ∷ cs) x)) z ∙ end-at (c ∷ cs) b n x le
end-behind (c ∷ cs) b n (suc edge) x le =
    let d : ℕ = cond (listed (vars_of c) x) (n + 1) b in
    let z : n + suc edge ≡ (n + 1) + edge = omega arith in
    ap (λ (m : ℕ). nat_lt m (last_end d (n + 1) cs x)) z
    ∙ end-behind cs d (n + 1) edge x (raised-less (listed (vars_of c) x) b n le)

behind-any : (cs : List (List Lit)) (edge x : ℕ) → is_behind cs edge x ≡ true → listed (all_vars cs) x ≡ true
behind-any [] zero x h = h
behind-any [] (suc edge) x h = h
behind-any (d ∷ cs) zero x h = h
behind-any (d ∷ cs) (suc edge) x h = listed-either (vars_of d) (all_vars cs) x ∙ or_right _ _ (behind-any cs edge x h)

pub ends-exact : (cs : List (List Lit)) (vars ends : List ℕ) → ((x : ℕ) → listed (all_vars cs) x ≡ true → listed vars x ≡ true)
    → ((x : ℕ) → listed vars x ≡ true → slice_index ends (place vars x) ≡ last_end 0 0 cs x) → AreEnds cs (vars, ends)
ends-exact cs vars ends covers told x edge = way (listed vars x) refl (is_behind cs edge x) refl
  where
    way : (s : Bool) → listed vars x ≡ s → (t : Bool) → is_behind cs edge x ≡ t → is_noted vars ends x edge ≡ is_behind cs edge x
    way true p t q =
        let z : 0 + edge ≡ edge = omega arith in
        ap (λ (u : Bool). u && nat_lt edge (slice_index ends (place vars x))) p
        ∙ ap (λ (n : ℕ). nat_lt edge n) (told x p) ∙ ap (λ (m : ℕ). nat_lt m (last_end 0 0 cs x)) (sym z) ∙ end-behind cs 0 0 edge x (omega arith)
    way false p false q = ap (λ (u : Bool). u && nat_lt edge (slice_index ends (place vars x))) p ∙ sym q
    way false p true q = absurd (both_ways _ p (covers x (behind-any cs edge x q)))

take-front : (m ys : List ℕ) → take (length m) (m ++ ys) ≡ m
take-front [] [] = refl
take-front [] (y ∷ ys) = refl
take-front (x ∷ m) ys = ap (λ (ns : List ℕ). x ∷ ns) (take-front m ys)

pub take-whole : (n : ℕ) (m ys : List ℕ) → n ≡ length m → take n (m ++ ys) ≡ m
take-whole n m ys q = ap (λ (k : ℕ). take k (m ++ ys)) q ∙ take-front m ys
