-- A vertex whose pairs are settled, from the lowest on, keeps its turn, and each unit its rule.
use Rattle.std.proofs.Common.{◌≡◌, ◌∙◌, ℕ, ◌<◌, ◌≤◌, ◌==◌, ◌&&◌, ◌||◌, ◌⊎◌, inl, inr, Bool, true, false, not, List, [], ◌∷◌, ◌++◌, Option, None, Some, refl, sym, ap, subst, arith}
use Rattle.std.proofs.lemmas.Bool.{and_left, and_right, cases_eq, eq-eqb, ne_eqb}
use Rattle.c_graph.specs.Shape.{Flow}
use Rattle.reach_tree.specs.declared.vertex.VertexId.{VertexId}
use Rattle.reach_tree.specs.declared.vertex.Vertex.{Vertex}
use Rattle.reach_tree.specs.Trees.{vertex_at}
use Rattle.cover_engine.specs.declared.unit.Apart.{Apart}
use Rattle.cover_engine.specs.declared.unit.UnitDone.{UnitDone}
use Rattle.cover_engine.specs.declared.unit.UnitDone.TheVariants.{Expand, Refine, CoverYes, CoverNo}
use Rattle.cover_engine.specs.Unwindings.{Unwound, is_above, is_covered, may_pair, may_settle, same, stays_apart}
use Rattle.cover_engine.specs.Units.{Legal, after_cover, after_part, apart_now}
use Rattle.cover_engine.specs.Steering.{IsHighestOpen, StandsOn, Steered}
use Rattle.cover_engine.proofs.LastSettled.{yes_append}
use Rattle.unwinding_laws.specs.Steered.{last_refined}
use Rattle.unwinding_laws.proofs.Steering.{one_more_is_steered}
use Rattle.explore.specs.Standing.{node_at, standing}
use Rattle.explore.specs.Settling.{AreFalling, AreLeft, HasTurn, IsOneOf, IsTried, MayCover, NoneBelow}
use Rattle.explore.proofs.Walks.{standing-all, standing-falls, standing-low}

-- vertices of two nodes are no pair
pub other-node : (u : Unwound) (v w : VertexId) → (node_at u.vertices v.0 ≡ node_at u.vertices w.0 → ⊥) → may_settle u v w ≡ false
other-node u v w n =
    and_left (may_pair u v w) (not (stays_apart u.apart u.vertices v w))
    (and_right (not (same v w)) _ (and_left (node_at u.vertices v.0 == node_at u.vertices w.0) _ (ne_eqb (node_at u.vertices v.0) (node_at u.vertices w.0) n)))

-- the pairs that are kept apart, and one more
apart-append : (xs : List Apart) (a : Apart) (vs : List Vertex) (v w : VertexId) → stays_apart (xs ++ a ∷ []) vs v w ≡ (stays_apart xs vs v w || stays_apart (a ∷ []) vs v w)
apart-append [] a vs v w = refl
apart-append (x ∷ xs) a vs v w =
    let b : Bool = same x.left v && (same x.right w && (x.left_version == (vertex_at vs v.0).version && x.right_version == (vertex_at vs w.0).version)) in
    ap (λ (c : Bool). b || c) (apart-append xs a vs v w) ∙ sym (or-assoc b (stays_apart xs vs v w) (stays_apart (a ∷ []) vs v w))
  where
    or-assoc : (a b c : Bool) → ((a || b) || c) ≡ (a || (b || c))
    or-assoc true b c = refl
    or-assoc false b c = refl

all-true : (a b c d : Bool) → a ≡ true → b ≡ true → c ≡ true → d ≡ true → ((a && (b && (c && d))) || false) ≡ true
all-true true true true true p q r s = refl
all-true false b c d p q r s = absurd cc
all-true true false c d p q r s = absurd cc
all-true true true false d p q r s = absurd cc
all-true true true true false p q r s = absurd cc

now-apart : (vs : List Vertex) (v w : VertexId) → stays_apart (apart_now vs v w ∷ []) vs v w ≡ true
now-apart vs v w =
    let a = vertex_at vs v.0 in
    let b = vertex_at vs w.0 in
    all-true (v.0 == v.0) (w.0 == w.0) (a.version == a.version) (b.version == b.version) (eq-eqb v.0 v.0 refl) (eq-eqb w.0 w.0 refl)
    (eq-eqb a.version a.version refl) (eq-eqb b.version b.version refl)

-- a pair that was kept apart may not be settled, and no other pair that might not before
part-settled : (u : Unwound) (v w : VertexId) (store : List ℕ) → may_settle (after_part u v w store) v w ≡ false
part-settled u v w store =
    and_right (may_pair (after_part u v w store) v w) (not (stays_apart (u.apart ++ apart_now u.vertices v w ∷ []) u.vertices v w))
    (ap not (apart-append u.apart (apart_now u.vertices v w) u.vertices v w ∙ or-true (stays_apart u.apart u.vertices v w) _ (now-apart u.vertices v w)))
  where
    or-true : (a b : Bool) → b ≡ true → (a || b) ≡ true
    or-true true b e = refl
    or-true false b e = e

part-pairs : (u : Unwound) (v w : VertexId) (store : List ℕ) (x y : VertexId) → may_pair (after_part u v w store) x y ≡ may_pair u x y
part-pairs u v w store x y =
    ap
    (λ (b : Bool). not (same x y) && ((vertex_at u.vertices x.0).node.0 == (vertex_at u.vertices y.0).node.0
    && (not (is_covered u x) && (not (is_covered u y) && (not (is_above u.vertices x y) && not b)))))
    (yes_append false u.journal (CoverNo v w store) x y)

part-others : (u : Unwound) (v w : VertexId) (store : List ℕ) (x y : VertexId) → may_settle u x y ≡ false → may_settle (after_part u v w store) x y ≡ false
part-others u v w store x y e =
    ap (λ (b : Bool). b && not (stays_apart (u.apart ++ apart_now u.vertices v w ∷ []) u.vertices x y)) (part-pairs u v w store x y)
    ∙ ap (λ (b : Bool). may_pair u x y && not b) (apart-append u.apart (apart_now u.vertices v w) u.vertices x y)
    ∙ fewer (may_pair u x y) (stays_apart u.apart u.vertices x y) (stays_apart (apart_now u.vertices v w ∷ []) u.vertices x y) e
  where
    fewer : (a b c : Bool) → (a && not b) ≡ false → (a && not (b || c)) ≡ false
    fewer false b c e = refl
    fewer true true c e = refl
    fewer true false c e = absurd cc

-- cover units leave the leaf that was refined
refined-append : (before : Option VertexId) (js : List UnitDone) (x : UnitDone) → last_refined before (js ++ x ∷ []) ≡ last_refined (last_refined before js) (x ∷ [])
refined-append before [] x = refl
refined-append before (Expand v ∷ js) x = refined-append None js x
refined-append before (Refine v fs ∷ js) x = refined-append (Some v) js x
refined-append before (CoverYes v w ∷ js) x = refined-append before js x
refined-append before (CoverNo v w store ∷ js) x = refined-append before js x

pub refined-now : (js : List UnitDone) (v : VertexId) (fs : List _) → last_refined None (js ++ Refine v fs ∷ []) ≡ Some v
refined-now js v fs = refined-append None js (Refine v fs)

-- what trying a pair leaves
pub tried-vertices : (old new : Unwound) (v w : VertexId) (b : Bool) → IsTried old new v w b → new.vertices ≡ old.vertices
tried-vertices old new v w true e = ap (λ (u : Unwound). u.vertices) e
tried-vertices old new v w false (inl (e, n)) = ap (λ (u : Unwound). u.vertices) e
tried-vertices old new v w false (inr (store, e)) = ap (λ (u : Unwound). u.vertices) e

pub tried-refined : (old new : Unwound) (v w : VertexId) (b : Bool) → IsTried old new v w b → last_refined None new.journal ≡ last_refined None old.journal
tried-refined old new v w true e = ap (λ (u : Unwound). last_refined None u.journal) e ∙ refined-append None old.journal (CoverYes v w)
tried-refined old new v w false (inl (e, n)) = ap (λ (u : Unwound). last_refined None u.journal) e
tried-refined old new v w false (inr (store, e)) = ap (λ (u : Unwound). last_refined None u.journal) e ∙ refined-append None old.journal (CoverNo v w store)

pub tried-highest : (g : Flow) (old new : Unwound) (v w : VertexId) → IsTried old new v w false → IsHighestOpen g old v → IsHighestOpen g new v
tried-highest g old new v w (inl (e, n)) h = subst (λ (u : Unwound). IsHighestOpen g u v) (sym e) h
tried-highest g old new v w (inr (store, e)) h = subst (λ (u : Unwound). IsHighestOpen g u v) (sym e) h

part-turn : (g : Flow) (u : Unwound) (v w : VertexId) (store : List ℕ) → HasTurn g u v → HasTurn g (after_part u v w store) v
part-turn g u v w store (inl h) = inl h
part-turn g u v w store (inr h) = inr (subst (λ (o : Option VertexId). StandsOn u o v) (sym (refined-append None u.journal (CoverNo v w store))) h)

pub tried-turn : (g : Flow) (old new : Unwound) (v w : VertexId) → IsTried old new v w false → HasTurn g old v → HasTurn g new v
tried-turn g old new v w (inl (e, n)) h = subst (λ (u : Unwound). HasTurn g u v) (sym e) h
tried-turn g old new v w (inr (store, e)) h = subst (λ (u : Unwound). HasTurn g u v) (sym e) (part-turn g old v w store h)

tried-none : (old new : Unwound) (v w : VertexId) → IsTried old new v w false → may_settle new v w ≡ false
tried-none old new v w (inl (e, n)) = subst (λ (u : Unwound). may_settle u v w ≡ false) (sym e) n
tried-none old new v w (inr (store, e)) = subst (λ (u : Unwound). may_settle u v w ≡ false) (sym e) (part-settled old v w store)

tried-others : (old new : Unwound) (v w : VertexId) → IsTried old new v w false → (k : VertexId) → may_settle old v k ≡ false → may_settle new v k ≡ false
tried-others old new v w (inl (e, n)) k h = subst (λ (u : Unwound). may_settle u v k ≡ false) (sym e) h
tried-others old new v w (inr (store, e)) k h = subst (λ (u : Unwound). may_settle u v k ≡ false) (sym e) (part-others old v w store v k h)

-- the last of some vertices that fall
one-last : (xs : List VertexId) (w : VertexId) → IsOneOf (xs ++ w ∷ []) w.0
one-last [] w = inl refl
one-last (x ∷ xs) w = inr (one-last xs w)

one-front : (xs : List VertexId) (w : VertexId) (k : ℕ) → IsOneOf xs k → IsOneOf (xs ++ w ∷ []) k
one-front [] w k h = absurd h
one-front (x ∷ xs) w k (inl e) = inl e
one-front (x ∷ xs) w k (inr h) = inr (one-front xs w k h)

one-split : (xs : List VertexId) (w : VertexId) (k : ℕ) → IsOneOf (xs ++ w ∷ []) k → IsOneOf xs k ⊎ (w.0 ≡ k)
one-split [] w k (inl e) = inr e
one-split [] w k (inr h) = absurd h
one-split (x ∷ xs) w k (inl e) = inl (inl e)
one-split (x ∷ xs) w k (inr h) = elim (one-split xs w k h) [ inl a ↦ inl (inr a) | inr b ↦ inr b ]

falling-front : (xs : List VertexId) (w : VertexId) → AreFalling (xs ++ w ∷ []) → AreFalling xs
falling-front [] w f = tt
falling-front (x ∷ xs) w f = (λ k h. f.0 k (one-front xs w k h), falling-front xs w f.1)

last-lowest : (xs : List VertexId) (w : VertexId) (k : ℕ) → AreFalling (xs ++ w ∷ []) → IsOneOf (xs ++ w ∷ []) k → w.0 ≤ k
last-lowest [] w k f (inl e) = omega (arith, e)
last-lowest [] w k f (inr h) = absurd h
last-lowest (x ∷ xs) w k f (inl e) = let lt : w.0 < x.0 = f.0 w.0 (one-last xs w) in omega (arith, e, lt)
last-lowest (x ∷ xs) w k f (inr h) = last-lowest xs w k f.1 h

-- all that stand at the vertex's node below it are left at first
pub left-begins : (u : Unwound) (v : VertexId) (xs : List VertexId) → xs ≡ standing u.vertices (node_at u.vertices v.0) v.0 → AreLeft u v xs
left-begins u v xs e = subst (AreLeft u v) (sym e) (record {
  low = standing-low u.vertices (node_at u.vertices v.0) v.0;
  falling = standing-falls u.vertices (node_at u.vertices v.0) v.0;
  others = λ k lt none. other-node u v k (λ same. none (standing-all u.vertices (node_at u.vertices v.0) v.0 k.0 lt (sym same)));
})

-- the last of those that are left
pub left-low : (u : Unwound) (v w : VertexId) (all xs : List VertexId) → all ≡ xs ++ w ∷ [] → AreLeft u v all → w.0 < v.0
left-low u v w all xs e h = h.low w.0 (subst (λ (ys : List VertexId). IsOneOf ys w.0) (sym e) (one-last xs w))

pub left-lowest : (u : Unwound) (v w : VertexId) (all xs : List VertexId) → all ≡ xs ++ w ∷ [] → AreLeft u v all → NoneBelow u v w.0
left-lowest u v w all xs e h k lt =
    let low = left-low u v w all xs e h in
    h.others k (omega (arith, lt, low)) (λ is. (
    let le : w.0 ≤ k.0 = last-lowest xs w k.0 (subst AreFalling e h.falling) (subst (λ (ys : List VertexId). IsOneOf ys k.0) e is) in
    omega (arith, lt, le)))

pub left-fewer : (old new : Unwound) (v w : VertexId) (all xs : List VertexId) → all ≡ xs ++ w ∷ [] → IsTried old new v w false → AreLeft old v all → AreLeft new v xs
left-fewer old new v w all xs e tried h = record {
  low = λ k is. h.low k (subst (λ (ys : List VertexId). IsOneOf ys k) (sym e) (one-front xs w k is));
  falling = falling-front xs w (subst AreFalling e h.falling);
  others = λ k lt none. elim (cases_eq w.0 k.0) [
    | inl same ↦ subst (λ (n : ℕ). (let x : VertexId = record { 0 = n } in may_settle new v x ≡ false)) same (tried-none old new v w tried)
    | inr ne ↦ tried-others old new v w tried k (h.others k lt (λ is.
        elim (one-split xs w k.0 (subst (λ (ys : List VertexId). IsOneOf ys k.0) e is)) [ inl a ↦ none a | inr b ↦ ne b ]))
  ];
}

pub left-none : (u : Unwound) (v : VertexId) (xs : List VertexId) → xs ≡ [] → AreLeft u v xs → NoneBelow u v v.0
left-none u v xs e h k lt = h.others k lt (λ is. subst (λ (ys : List VertexId). IsOneOf ys k.0) e is)

-- a pair that is tried may be covered by its rule
pub may-cover : (g : Flow) (u : Unwound) (v w : VertexId) → HasTurn g u v → w.0 < v.0 → NoneBelow u v w.0 → may_settle u v w ≡ true → MayCover g u v w
may-cover g u v w turn low none may = ((low, may, none), turn)

pub cover-steered : (g : Flow) (old new : Unwound) (v w : VertexId) → Legal g old → Steered g old → MayCover g old v w → new ≡ after_cover old v w → Steered g new
cover-steered g old new v w legal s rule e = subst (Steered g) (sym e) (one_more_is_steered g old (CoverYes v w) legal s rule)

pub part-steered : (g : Flow) (old new : Unwound) (v w : VertexId) (store : List ℕ) → Legal g old → Steered g old → MayCover g old v w
    → new ≡ after_part old v w store → Steered g new
part-steered g old new v w store legal s rule e = subst (Steered g) (sym e) (one_more_is_steered g old (CoverNo v w store) legal s rule)
