-- Operations in two stores that agree on what is read: they go on alike, and the stores agree on what is read behind them.
use Rattle.std.proofs.Common.{◌≡◌, ℕ, ℤ, ◌+◌, ◌<◌, ◌≤◌, ◌==◌, ◌⊎◌, inl, inr, Bool, true, false, not, ◌&&◌, ◌||◌, List, [], ◌∷◌, Option, Some, None, refl, sym, ap, ◌∙◌, subst, length, arith, slice_index, slice_set, nat_lt}
use Rattle.std.proofs.lemmas.Bool.{cases_Bool, cases_eq, ne_eqb, ltb-true}
use Rattle.bv_term.specs.WellFormed.{Table}
use Rattle.bv_term.specs.Values.{value}
use Rattle.c_graph.specs.declared.graph.Operation.{Operation}
use Rattle.c_graph.specs.declared.graph.Operation.TheVariants.{Assume, Set, SetAt, Draw}
use Rattle.c_graph.specs.Steps.{Moment, moment, modulo, in_range_of, drawn, stored_at, operated, operated_all}
use Rattle.block_rule.specs.Plans.{Plan}
use Rattle.block_rule.specs.Blocked.{Agree, ReadsAll, read_before, read_before_all}
use Rattle.block_laws.proofs.Lists.{set-same, set-other, set-long, false-true}

-- the cells that an operation sets are among the first n
abbrev pub SetsBelow : ℕ → Operation → Type 0
SetsBelow n (Assume t) = Unit {0}
SetsBelow n (Set c t) = c < n
SetsBelow n (SetAt first m i t) = first + m ≤ n
SetsBelow n (Draw c signed) = c < n

abbrev pub AllSetBelow : ℕ → List Operation → Type 0
AllSetBelow n [] = Unit {0}
AllSetBelow n (op ∷ ops) = SetsBelow n op × AllSetBelow n ops

pub or-left : (a b : Bool) → a ≡ true → (a || b) ≡ true
or-left true b e = refl
or-left false b e = absurd (false-true e)

pub or-right : (a b : Bool) → b ≡ true → (a || b) ≡ true
or-right true b e = refl
or-right false b e = e

both-true : (a b : Bool) → a ≡ true → b ≡ true → (a && b) ≡ true
both-true true b e f = f
both-true false b e f = absurd (false-true e)

pub none_stays : (table : Table) (ops : List Operation) → operated_all table ops None ≡ None
none_stays table [] = refl
none_stays table (op ∷ ops) = refl

pub some_or_none : (o : Option Moment) → (o ≡ None) ⊎ ((m : Moment) × (o ≡ Some m))
some_or_none None = inl refl
some_or_none (Some m) = inr (m, refl)

agree-weaker : (n : ℕ) (p q : ℕ → Bool) (s t : List ℕ) → ((c : ℕ) → q c ≡ true → p c ≡ true) → Agree n p s t → Agree n q s t
agree-weaker n p q s t f a c lt y = a c lt (f c y)

agree-set : (n : ℕ) (p : ℕ → Bool) (s t : List ℕ) (d v : ℕ) → d < length s → d < length t
    → ((c : ℕ) → c < n → p c ≡ true → (c ≡ d → ⊥) → slice_index s c ≡ slice_index t c) → Agree n p (slice_set s d v) (slice_set t d v)
agree-set n p s t d v ls lt a c less y = elim (cases_eq c d) [
  | inl e ↦
      ap (slice_index (slice_set s d v)) e ∙ set-same s d v ls ∙ sym (set-same t d v lt) ∙ ap (slice_index (slice_set t d v)) (sym e)
  | inr ne ↦ sym (set-other s d v c ne) ∙ a c less y ne ∙ set-other t d v c ne
]

module _ (table : Table) (plan : Plan) (n : ℕ) (reads : ReadsAll table n plan) where
  -- what is known of two stores and of one after an operation
  abbrev pub Alike : (ℕ → Bool) → List ℕ → List ℕ → Type 0
  Alike later s t = Agree n later s t × (n ≤ length s) × (n ≤ length t)

  abbrev pub Follows : Operation → (ℕ → Bool) → List ℕ → List ℤ → Moment → Type 0
  Follows op later t ins m = (u : List ℕ) × ((operated table op (moment t ins) ≡ Some (moment u m.inputs)) × Alike later m.store u)

  after-set : (later : ℕ → Bool) (op : Operation) (s t : List ℕ) (ins zs : List ℤ) (m : Moment) (d v : ℕ) → d < n
      → ((c : ℕ) → later c ≡ true → (c ≡ d → ⊥) → read_before plan later op c ≡ true)
      → operated table op (moment t ins) ≡ Some (moment (slice_set t d v) zs) → Alike (read_before plan later op) s t
      → moment (slice_set s d v) zs ≡ m → Follows op later t ins m
  after-set later op s t ins zs m d v lt f e a is =
      let store : slice_set s d v ≡ m.store = ap (λ (x : Moment). x.store) is in
      let inputs : zs ≡ m.inputs = ap (λ (x : Moment). x.inputs) is in
      let there : n ≤ length (slice_set s d v) = omega (arith, a.1, set-long s d v) in (
        slice_set t d v,
        (
          e ∙ ap (λ (ys : List ℤ). Some (moment (slice_set t d v) ys)) inputs,
          (
            subst (λ (x : List ℕ). Agree n later x (slice_set t d v)) store
                (agree-set n later s t d v (omega (arith, lt, a.1)) (omega (arith, lt, a.2)) (λ c less y ne. a.0 c less (f c y ne))),
            subst (λ (x : List ℕ). n ≤ length x) store there,
            (omega (arith, a.2, set-long t d v)),
          ),
        ),
      )

  unchanged : (later : ℕ → Bool) (op : Operation) (s t : List ℕ) (ins : List ℤ) (m : Moment)
      → ((c : ℕ) → later c ≡ true → read_before plan later op c ≡ true)
      → operated table op (moment t ins) ≡ Some (moment t ins) → Alike (read_before plan later op) s t
      → moment s ins ≡ m → Follows op later t ins m
  unchanged later op s t ins m f e a is =
      let store : s ≡ m.store = ap (λ (x : Moment). x.store) is in
      let inputs : ins ≡ m.inputs = ap (λ (x : Moment). x.inputs) is in (
        t,
        (
          e ∙ ap (λ (ys : List ℤ). Some (moment t ys)) inputs,
          (
            subst (λ (x : List ℕ). Agree n later x t) store (agree-weaker n (read_before plan later op) later s t f a.0),
            subst (λ (x : List ℕ). n ≤ length x) store a.1,
            a.2,
          ),
        ),
      )

  not-at : (c d : ℕ) → (c ≡ d → ⊥) → not (c == d) ≡ true
  not-at c d ne = ap not (ne_eqb c d ne)

  pub follows : (op : Operation) (later : ℕ → Bool) (s t : List ℕ) (ins : List ℤ) (m : Moment) → SetsBelow n op
      → Alike (read_before plan later op) s t → operated table op (moment s ins) ≡ Some m → Follows op later t ins m
  follows (Assume u) later s t ins m below a h =
      let same : value table s u ≡ value table t u = reads u s t (agree-weaker n (read_before plan later (Assume u)) (plan.reads u.0) s t (λ c y. or-left (plan.reads u.0 c) (later c) y) a.0) in
      elim (cases_Bool (value table s u == 1)) [
        | inl y ↦
            let q : Some (moment s ins) ≡ Some m = rw y at h in
            let e : moment s ins ≡ m = cc in
            let z : (value table t u == 1) ≡ true = ap (λ (x : ℕ). x == 1) (sym same) ∙ y in
            let go : operated table (Assume u) (moment t ins) ≡ Some (moment t ins) = rw z refl in
            unchanged later (Assume u) s t ins m (λ c y. or-right (plan.reads u.0 c) (later c) y) go a e
        | inr y ↦ absurd (let q : None ≡ Some m = rw y at h in cc)
      ]
  follows (Set d u) later s t ins m below a h =
      let same : value table s u ≡ value table t u = reads u s t (agree-weaker n (read_before plan later (Set d u)) (plan.reads u.0) s t (λ c y. or-left (plan.reads u.0 c) (later c && not (c == d)) y) a.0) in
      let e : moment (slice_set s d (value table s u)) ins ≡ m = cc in
      after-set later (Set d u) s t ins ins m d (value table s u) below
      (λ c y ne. or-right (plan.reads u.0 c) (later c && not (c == d)) (both-true (later c) (not (c == d)) y (not-at c d ne)))
      (ap (λ (x : ℕ). Some (moment (slice_set t d x) ins)) (sym same)) a e
  follows (SetAt first k i u) later s t ins m below a h =
      let now : ℕ → Bool = read_before plan later (SetAt first k i u) in
      let all : (c : ℕ) → later c ≡ true → now c ≡ true = λ c y. or-right (plan.reads i.0 c) (plan.reads u.0 c || later c) (or-right (plan.reads u.0 c) (later c) y) in
      let index : value table s i ≡ value table t i = reads i s t (agree-weaker n now (plan.reads i.0) s t (λ c y. or-left (plan.reads i.0 c) (plan.reads u.0 c || later c) y) a.0) in
      let same : value table s u ≡ value table t u = reads u s t (agree-weaker n now (plan.reads u.0) s t (λ c y. or-right (plan.reads i.0 c) (plan.reads u.0 c || later c) (or-left (plan.reads u.0 c) (later c) y)) a.0) in
      let e : moment (stored_at s first k (value table s i) (value table s u)) ins ≡ m = cc in
      let go : operated table (SetAt first k i u) (moment t ins) ≡ Some (moment (stored_at t first k (value table s i) (value table s u)) ins) =
      ap (λ (x : ℕ). Some (moment (stored_at t first k x (value table t u)) ins)) (sym index) ∙ ap (λ (x : ℕ). Some (moment (stored_at t first k (value table s i) x) ins)) (sym same) in
      elim (cases_Bool (nat_lt (value table s i) k)) [
        | inl y ↦
            let e2 : moment (slice_set s (first + value table s i) (value table s u)) ins ≡ m = rw y at e in
            let go2 : operated table (SetAt first k i u) (moment t ins) ≡ Some (moment (slice_set t (first + value table s i) (value table s u)) ins) = rw y at go in
            let lt = ltb-true (value table s i) k y in
            after-set later (SetAt first k i u) s t ins ins m (first + value table s i) (value table s u) (omega (arith, lt, below)) (λ c y ne. all c y) go2 a e2
        | inr y ↦
            let e2 : moment s ins ≡ m = rw y at e in
            let go2 : operated table (SetAt first k i u) (moment t ins) ≡ Some (moment t ins) = rw y at go in
            unchanged later (SetAt first k i u) s t ins m all go2 a e2
      ]
  follows (Draw d signed) later s t ins m below a h = draw ins h
    where
      draw : (zs : List ℤ) → drawn table d signed s zs ≡ Some m → Follows (Draw d signed) later t zs m
      draw [] h = absurd cc
      draw (z ∷ zs) h = elim (cases_Bool (in_range_of (slice_index table.cells d) signed z)) [
        | inl y ↦
            let w : ℕ = modulo (slice_index table.cells d) z in
            let q : Some (moment (slice_set s d (modulo (slice_index table.cells d) z)) zs) ≡ Some m = rw y at h in
            let e : moment (slice_set s d (modulo (slice_index table.cells d) z)) zs ≡ m = cc in
            let go : operated table (Draw d signed) (moment t (z ∷ zs)) ≡ Some (moment (slice_set t d (modulo (slice_index table.cells d) z)) zs) = rw y refl in
            after-set later (Draw d signed) s t (z ∷ zs) zs m d (modulo (slice_index table.cells d) z) below
            (λ c y ne. both-true (later c) (not (c == d)) y (not-at c d ne)) go a e
        | inr n ↦ absurd (let q : None ≡ Some m = rw n at h in cc)
      ]

  abbrev pub FollowsAll : List Operation → (ℕ → Bool) → List ℕ → List ℤ → Moment → Type 0
  FollowsAll ops later t ins m = (u : List ℕ) × ((operated_all table ops (Some (moment t ins)) ≡ Some (moment u m.inputs)) × Alike later m.store u)

  pub follows_all : (ops : List Operation) (later : ℕ → Bool) (s t : List ℕ) (ins : List ℤ) (m : Moment) → AllSetBelow n ops
      → Alike (read_before_all plan later ops) s t → operated_all table ops (Some (moment s ins)) ≡ Some m → FollowsAll ops later t ins m
  follows_all [] later s t ins m below a h =
      let e : moment s ins ≡ m = cc in (
        t,
        (
          ap (λ (x : Moment). Some (moment t x.inputs)) e,
          (
            subst (λ (x : Moment). Agree n later x.store t) e a.0,
            subst (λ (x : Moment). n ≤ length x.store) e a.1,
            a.2,
          ),
        ),
      )
  follows_all (op ∷ ops) later s t ins m below a h = elim (some_or_none (operated table op (moment s ins))) [
    | inl e ↦ absurd (let q : None ≡ Some m = sym (none_stays table ops) ∙ sym (ap (operated_all table ops) e) ∙ h in cc)
    | inr e ↦
        let (u, (go, b)) = follows op (read_before_all plan later ops) s t ins e.0 below.0 a e.1 in
        let rest : operated_all table ops (Some e.0) ≡ Some m = sym (ap (operated_all table ops) e.1) ∙ h in
        let (w, (go2, c)) = follows_all ops later e.0.store u e.0.inputs m below.1 b rest in
        (w, (ap (operated_all table ops) go ∙ go2, c))
  ]
