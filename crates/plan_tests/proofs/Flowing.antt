-- What an edge needs, by its operations; and cells by their units.
use Rattle.std.proofs.Common.{◌≡◌, ℕ, ◌==◌, ◌&&◌, ◌||◌, ◌⊎◌, inl, inr, Bool, true, false, not, List, [], ◌∷◌, take, Some, refl, sym, ap, ◌∙◌, subst, zero, suc, slice_get}
use Rattle.c_graph.specs.declared.graph.Operation.{Operation}
use Rattle.c_graph.specs.declared.graph.Operation.TheVariants.{Assume, Set, SetAt, Draw}
use Rattle.c_graph.specs.declared.graph.Edge.{Edge}
use Rattle.block_rule.specs.Plans.{Plan}
use Rattle.block_rule.specs.Blocked.{Flows, read_before, read_before_all}
use Rattle.plan_tests.specs.Flow.{sets, some_sets, is_read_by, AllReadsFlow, StaysLive}

clash : {A : Type 0} → false ≡ true → A
clash e = absurd (cc)

pub either : (a b : Bool) → (a || b) ≡ true → (a ≡ true) ⊎ (b ≡ true)
either true b e = inl refl
either false b e = inr e

pub both : (a b : Bool) → (a && b) ≡ true → (a ≡ true) × (b ≡ true)
both true b e = (refl, e)
both false b e = clash e

pub turned : (a : Bool) → not a ≡ true → a ≡ false
turned true e = clash e
turned false e = refl

neither : (a b : Bool) → a ≡ false → b ≡ false → (a || b) ≡ false
neither a b p q = ap (λ (x : Bool). x || b) p ∙ q

second : (a b : Bool) → b ≡ false → (a || b) ≡ true → a ≡ true
second true b p e = refl
second false b p e = clash (sym p ∙ e)

-- why a cell is read before an operation: the operation reads it, or it is read behind it and the operation does not set it
why_one : (plan : Plan) (later : ℕ → Bool) (op : Operation) (c : ℕ) → read_before plan later op c ≡ true
    → (is_read_by plan op c ≡ true) ⊎ ((later c ≡ true) × (sets op c ≡ false))
why_one plan later (Assume t) c h = elim (either (plan.reads t.0 c) (later c) h) [ inl r ↦ inl r | inr l ↦ inr (l, refl) ]
why_one plan later (Set d t) c h = elim (either (plan.reads t.0 c) (later c && not (c == d)) h) [
  | inl r ↦ inl r
  | inr l ↦ let p = both (later c) (not (c == d)) l in inr (p.0, turned (c == d) p.1)
]
why_one plan later (SetAt first n i t) c h = elim (either (plan.reads i.0 c) (plan.reads t.0 c || later c) h) [
  | inl r ↦ inl (ap (λ (x : Bool). x || plan.reads t.0 c) r)
  | inr l ↦ elim (either (plan.reads t.0 c) (later c) l) [
    | inl r ↦ inl (right (plan.reads i.0 c) (plan.reads t.0 c) r)
    | inr m ↦ inr (m, refl)
  ]
]
  where
    right : (a b : Bool) → b ≡ true → (a || b) ≡ true
    right true b e = refl
    right false b e = e
why_one plan later (Draw d signed) c h = let p = both (later c) (not (c == d)) h in inr (p.0, turned (c == d) p.1)

-- one of the operations reads the cell, and none before it sets it
abbrev IsRead : Plan → List Operation → ℕ → Type 0
IsRead plan ops c =
    (k : ℕ) × ((op : Operation) × (slice_get ops k ≡ Some op) × (is_read_by plan op c ≡ true) × (some_sets (take k ops) c ≡ false))

why : (plan : Plan) (later : ℕ → Bool) (ops : List Operation) (c : ℕ) → read_before_all plan later ops c ≡ true
    → IsRead plan ops c ⊎ ((later c ≡ true) × (some_sets ops c ≡ false))
why plan later [] c h = inr (h, refl)
why plan later (op ∷ ops) c h = elim (why_one plan (read_before_all plan later ops) op c h) [
  | inl r ↦ inl (zero, (op, refl, r, refl))
  | inr w ↦ elim (why plan later ops c w.0) [
    | inl (k, (o, s, r, none)) ↦ inl (suc k, (o, s, r, neither (sets op c) (some_sets (take k ops) c) w.1 none))
    | inr (l, none) ↦ inr (l, neither (sets op c) (some_sets ops c) w.1 none)
  ]
]

flows : (plan : Plan) (e : Edge) → AllReadsFlow plan e.from.0 e.ops → StaysLive plan e.from.0 e.ops e.to.0 → Flows plan e
flows plan e reads stays c h = elim (why plan (plan.live e.to.0) e.ops c h) [
  | inl (k, (op, s, r, none)) ↦ second (plan.live e.from.0 c) (some_sets (take k e.ops) c) none (reads k op s c r)
  | inr (l, none) ↦ second (plan.live e.from.0 c) (some_sets e.ops c) none (stays c l)
]

pub flows_by : (plan : Plan) (e : Edge) (ops : List Operation) → ops ≡ e.ops
    → AllReadsFlow plan e.from.0 ops → StaysLive plan e.from.0 ops e.to.0 → Flows plan e
flows_by plan e ops is reads stays =
    flows plan e (subst (AllReadsFlow plan e.from.0) is reads) (subst (λ (o : List Operation). StaysLive plan e.from.0 o e.to.0) is stays)
