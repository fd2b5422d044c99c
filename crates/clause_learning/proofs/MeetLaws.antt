-- How a search begins, and how a trail that meets all clauses is an assignment.
use Rattle.std.proofs.Common.{◌≡◌, ℕ, ◌+◌, ◌*◌, ◌<◌, ◌≤◌, Bool, true, false, not, ◌&&◌, ◌||◌, cond, List, [], ◌∷◌, ◌++◌, Option, Some, None, slice_get, zero, suc, ◌⊎◌, inl, inr, refl, sym, ap, ◌∙◌, subst, arith, length, get_or, take, drop, append-nil, append_assoc, nat_eq, replicate}
use Rattle.std.proofs.lemmas.Bool.{both_ways, cases_Bool, and_parts, and_from}
use Rattle.prop.specs.declared.Lit.{Lit}
use Rattle.prop.specs.Logic.{negated, positive_of, all_hold, clause_holds, lit_value}
use Rattle.prop.specs.Trues.{listed}
use Rattle.prop.specs.Steps.{same, same_sign, Has, In}
use Rattle.prop.proofs.Sets.{In-left, In-append}
use Rattle.prop.proofs.Sound.{holds_by}
use Rattle.resolution_log.specs.declared.Chain.{Chain}
use Rattle.resolution_log.specs.Chains.{chain_result}
use Rattle.resolution_log.specs.Propagation.{Quiet}
use Rattle.resolution_log.specs.Logs.{New, New.none, Lean, AllSame}
use Rattle.resolution_log.proofs.Results.{get-below}
use Rattle.clause_learning.specs.declared.Entry.{Entry}
use Rattle.clause_learning.specs.Trail.{set_in, Set, SetAt, TrailOk.none_set, Holds}
use Rattle.clause_learning.specs.Solve.{State, IsRefuted, values_of, trues_of}
use Rattle.clause_learning.proofs.StateLaws.{all_refl}

-- the trail's assignment
true_signed : (t : List Entry) (v : ℕ) (b : Bool) → Quiet (Set t) → Set t (record { var = v; positive = b }) → lit_value (values_of t) (record { var = v; positive = b }) ≡ true
true_signed t v true quiet s = s
true_signed t v false quiet s = go (cases_Bool (set_in t (positive_of v)))
  where
    go : (set_in t (positive_of v) ≡ true) ⊎ (set_in t (positive_of v) ≡ false) → not (set_in t (positive_of v)) ≡ true
    go (inl h) = absurd (quiet (positive_of v) h s)
    go (inr h) = rw h

pub true_of : (t : List Entry) (l : Lit) → Quiet (Set t) → Set t l → lit_value (values_of t) l ≡ true
true_of t l quiet s = true_signed t l.var l.positive quiet s

holds_in : (t : List Entry) (c : List Lit) (m : Lit) → Quiet (Set t) → Has c m → Set t m → clause_holds (values_of t) c ≡ true
holds_in t c m quiet hm sm = holds_by (values_of t) c m hm (true_of t m quiet sm)

pub done_meets : (t : List Entry) (cs : List (List Lit)) → Quiet (Set t) → ((c : List Lit) → In cs c → (m : Lit) × Has c m × Set t m) → all_hold (values_of t) cs ≡ true
done_meets t [] quiet all = refl
done_meets t (c ∷ cs) quiet all =
    let (m, hm, sm) = all c (inl refl) in
    and_from (clause_holds (values_of t) c) (all_hold (values_of t) cs) (holds_in t c m quiet hm sm) (done_meets t cs quiet (λ d h. all d (inr h)))

pub start_state : (clauses known : List (List Lit)) (t : List Entry) (log : List Chain) → known ≡ clauses → ((c : List Lit) → In clauses c → c ≡ [] → ⊥) → t ≡ [] → log ≡ [] → State clauses known 0 t log
start_state clauses known t log k some te le = record {
  results = [];
  parts = subst (AllSame known) (k ∙ sym (append-nil clauses)) (all_refl known);
  new = subst (λ w. New clauses w []) (sym le) none;
  holds = record { ok = none_set te; low = λ j lt. absurd (no_level j lt); all = λ l s. absurd (nothing l (subst (λ w. Set w l) te s)) };
  some = λ c h n. some c (subst (λ w. In w c) k h) n;
}
  where
    no_level : (j : ℕ) → j < 0 → ⊥
    no_level j lt = omega arith

    nothing : (l : Lit) → Set [] l → ⊥
    nothing l s = both_ways false refl s

pub empty_lean : (clauses : List (List Lit)) (learn k : ℕ) (ch : Chain) (log : List Chain) → 0 < learn → slice_get clauses k ≡ Some [] → ch.first ≡ k → ch.pairs ≡ [] → log ≡ ch ∷ [] → IsRefuted clauses learn log
empty_lean clauses learn k ch log pos g f p is = (
  record {
    front = [];
    last = ch;
    results = [];
    parts = is;
    new = none;
    empty = subst (λ w. chain_result w ch ≡ Some []) (sym (append-nil clauses)) (rw (f, g, p) refl);
    differ = rw p refl;
  },
  omega (arith, ap length is),
)

pub take_next : (cs : List (List Lit)) (i : ℕ) (c : List Lit) → slice_get cs i ≡ Some c → take (i + 1) cs ≡ take i cs ++ (c ∷ [])
take_next [] i c h = absurd cc
take_next (d ∷ cs) zero c h = let e : d ≡ c = cc in ap (λ w. w ∷ []) e
take_next (d ∷ cs) (suc i) c h = let q : suc i + 1 ≡ suc (i + 1) = omega arith in rw q (ap (λ w. d ∷ w) (take_next cs i c h))

pub none_more : (cs : List (List Lit)) (i : ℕ) (c : List Lit) → slice_get cs i ≡ Some c → (c ≡ [] → ⊥) → ((d : List Lit) → In (take i cs) d → d ≡ [] → ⊥) → (d : List Lit) → In (take (i + 1) cs) d → d ≡ [] → ⊥
none_more cs i c g ne before d hd e =
    elim (In-append (take i cs) (c ∷ []) d (subst (λ w. In w d) (take_next cs i c g) hd)) [
      | inl a ↦ before d a e
      | inr y ↦ elim y [ inl q ↦ ne (sym q ∙ e) | inr z ↦ z ]
    ]

-- the variables that a trail makes true
and_true : (p : Bool) → (p && true) ≡ p
and_true true = refl
and_true false = refl

and_false : (p : Bool) → (p && false) ≡ false
and_false true = refl
and_false false = refl

trues_step : (v0 v : ℕ) (ts : List ℕ) (y b : Bool) → listed ts v ≡ y → listed (cond b (v0 ∷ ts) ts) v ≡ ((nat_eq v0 v && same_sign b true) || y)
trues_step v0 v ts y true h = ap (λ w. nat_eq v0 v || w) h ∙ ap (λ w. w || y) (sym (and_true (nat_eq v0 v)))
trues_step v0 v ts y false h = h ∙ ap (λ w. w || y) (sym (and_false (nat_eq v0 v)))

trues_is : (t : List Entry) (v : ℕ) → listed (trues_of t) v ≡ values_of t v
trues_is [] v = refl
trues_is (e ∷ t) v = trues_step e.lit.var v (trues_of t) (set_in t (positive_of v)) e.lit.positive (trues_is t v)

pub met_answer : (t : List Entry) (vars a : List ℕ) (cs : List (List Lit)) → vars ≡ trues_of t → ((v : ℕ) → listed a v ≡ listed vars v) → all_hold (values_of t) cs ≡ true → all_hold (listed a) cs ≡ true
met_answer t vars a cs e f h =
    let p : (v : ℕ) → listed a v ≡ values_of t v = λ v. f v ∙ ap (λ w. listed w v) e ∙ trues_is t v in
    let q : listed a ≡ values_of t = λ i v. p v i in
    ap (λ w. all_hold w cs) q ∙ h

-- no literal is true at the start
pub blank : (n k : ℕ) → get_or (replicate n false) k false ≡ false
blank zero k = refl
blank (suc n) zero = refl
blank (suc n) (suc k) = blank n k

pub nil_of : (c : List Lit) → length c ≡ 0 → c ≡ []
nil_of [] h = refl
nil_of (l ∷ c) h = absurd (omega arith)

pub round_index : (known : List (List Lit)) (k : ℕ) (c : List Lit) → slice_get known k ≡ Some c → k < length known
round_index known k c g = get-below known k c g
