-- Between two Refines an ordered pair is settled once at most.
use Rattle.std.proofs.Common.{◌≡◌, ◌∙◌, ℕ, ◌+◌, ◌*◌, ◌<◌, ◌≤◌, ◌==◌, ◌&&◌, ◌||◌, ◌⊎◌, inl, inr, Bool, true, false, not, List, [], ◌∷◌, ◌++◌, length, reverse, refl, sym, ap, subst, arith}
use Rattle.std.proofs.lemmas.Bool.{false≢true, eq-eqb, or_left, or_right}
use Rattle.c_graph.specs.declared.graph.EdgeId.{EdgeId}
use Rattle.c_graph.specs.Shape.{Flow, IsFlow, outs, widths_of}
use Rattle.c_graph.specs.Steps.{IsWhole}
use Rattle.reach_tree.specs.declared.vertex.VertexId.{VertexId}
use Rattle.reach_tree.specs.declared.vertex.Vertex.{Vertex}
use Rattle.reach_tree.specs.Trees.{vertex_at}
use Rattle.cover_engine.specs.declared.unit.Apart.{Apart}
use Rattle.cover_engine.specs.declared.unit.UnitDone.{UnitDone}
use Rattle.cover_engine.specs.declared.unit.UnitDone.TheVariants.{Expand, Refine, CoverYes, CoverNo}
use Rattle.cover_engine.specs.Unwindings.{Unwound, is_above, is_covered, may_pair, path_of, same, stays_apart, yes_since}
use Rattle.cover_engine.specs.Units.{Can, CanAll, Legal, Meets, after, apart_now}
use Rattle.cover_engine.specs.Settlings.{refines_in}
use Rattle.cover_engine.proofs.Growing.{Grown, grown}
use Rattle.cover_engine.proofs.LastSettled.{refines_append, yes_append}
use Rattle.unwinding_laws.proofs.Refining.{refined_length}
use Rattle.journal_length_laws.specs.Laws.{AreAllPaths}
use Rattle.journal_length_laws.proofs.Counting.{Distinct, In, digits-low, digits-same, keys, keys-few}
use Rattle.journal_length_laws.proofs.Moving.{legal-next, refines-few}
use Rattle.journal_length_laws.proofs.Trees.{vertices-few}

-- a pair behind so many Refines, as a number to the base p
abbrev code : ℕ → ℕ → VertexId → VertexId → ℕ
code p r v w = (r * p + v.0) * p + w.0

abbrev pub covers : ℕ → Unwound → UnitDone → List ℕ
covers p u (Expand v) = []
covers p u (Refine v fs) = []
covers p u (CoverYes v w) = code p (refines_in u.journal) v w ∷ []
covers p u (CoverNo v w store) = code p (refines_in u.journal) v w ∷ []

-- the pair was settled since the last Refine: it was covered, or is kept apart by a store with both labels as they are
abbrev Here : Flow → Unwound → VertexId → VertexId → Type 0
Here g u v w =
    (yes_since false u.journal v w ≡ true)
    ⊎ ((stays_apart u.apart u.vertices v w ≡ true)
    × ((store : List ℕ) × IsWhole (widths_of g.cells) store × Meets u.terms store (vertex_at u.vertices v.0).label
    × (Meets u.terms store (vertex_at u.vertices w.0).label → ⊥)))

record Settled (g : Flow) (p : ℕ) (u : Unwound) (c : ℕ) : Type 0 where
  behind : ℕ
  left : VertexId
  right : VertexId
  is : c ≡ code p behind left right
  left_there : left.0 < length u.vertices
  right_there : right.0 < length u.vertices
  how : (behind < refines_in u.journal) ⊎ ((behind ≡ refines_in u.journal) × Here g u left right)

-- what may be a pair
and-last : (a b : Bool) → (a && b) ≡ true → b ≡ true
and-last true b e = e
and-last false b e = absurd (false≢true e)

and-first : (a b : Bool) → (a && b) ≡ true → a ≡ true
and-first true b e = refl
and-first false b e = absurd (false≢true e)

not-both : (a : Bool) → not a ≡ true → a ≡ true → ⊥
not-both true e f = false≢true e
not-both false e f = false≢true f

pair-new : (u : Unwound) (v w : VertexId) → may_pair u v w ≡ true → yes_since false u.journal v w ≡ true → ⊥
pair-new u v w m =
    let a = and-last (not (same v w)) _ m in
    let b = and-last ((vertex_at u.vertices v.0).node.0 == (vertex_at u.vertices w.0).node.0) _ a in
    let c = and-last (not (is_covered u v)) _ b in
    let d = and-last (not (is_covered u w)) _ c in
    let e = and-last (not (is_above u.vertices v w)) (not (yes_since false u.journal v w)) d in
    not-both (yes_since false u.journal v w) e

vertex-same : (a b : VertexId) → a.0 ≡ b.0 → a ≡ b
vertex-same a b e = ap (λ (n : ℕ). let x : VertexId = record { 0 = n } in x) e

-- of a pair that was settled there is no further cover unit
module _ (g : Flow) (p : ℕ) (u : Unwound) (few : length u.vertices ≤ p) where
  same-pair : (v w : VertexId) (c : ℕ) → v.0 < length u.vertices → w.0 < length u.vertices → code p (refines_in u.journal) v w ≡ c → Settled g p u c → Here g u v w
  same-pair v w c lv lw e s =
      let sl = s.left_there in
      let sr = s.right_there in
      let (front, w-same) = digits-same (refines_in u.journal * p + v.0) (s.behind * p + s.left.0) p w.0 s.right.0 (omega (arith, lw, few)) (omega (arith, sr, few)) (e ∙ s.is) in
      let (r-same, v-same) = digits-same (refines_in u.journal) s.behind p v.0 s.left.0 (omega (arith, lv, few)) (omega (arith, sl, few)) front in
      elim s.how [
        | inl lt ↦ absurd (omega (arith, lt, r-same))
        | inr h ↦ subst (λ (x : VertexId). Here g u x w) (vertex-same s.left v (sym v-same)) (subst (λ (y : VertexId). Here g u s.left y) (vertex-same s.right w (sym w-same)) h.1)
      ]

  fresh : (x : UnitDone) (c : ℕ) → Can g u x → In (covers p u x) c → Settled g p u c → ⊥
  fresh (Expand v) c can h s = h
  fresh (Refine v fs) c can h s = h
  fresh (CoverYes v w) c can (inr h) s = h
  fresh (CoverYes v w) c can (inl e) s = elim (same-pair v w c can.left can.right e s) [
    | inl was ↦ pair-new u v w can.pair was
    | inr apart ↦ (let (stays, (store, whole, meets, misses)) = apart in misses (can.implies store whole meets))
  ]
  fresh (CoverNo v w store) c can (inr h) s = h
  fresh (CoverNo v w store) c can (inl e) s = elim (same-pair v w c can.left can.right e s) [
    | inl was ↦ pair-new u v w (and-first (may_pair u v w) (not (stays_apart u.apart u.vertices v w)) can.pair) was
    | inr apart ↦ not-both (stays_apart u.apart u.vertices v w) (and-last (may_pair u v w) (not (stays_apart u.apart u.vertices v w)) can.pair) apart.0
  ]

-- the pairs that are kept apart
apart-keeps : (xs : List Apart) (a : Apart) (vs : List Vertex) (v w : VertexId) → stays_apart xs vs v w ≡ true → stays_apart (xs ++ a ∷ []) vs v w ≡ true
apart-keeps [] a vs v w e = absurd (false≢true e)
apart-keeps (x ∷ xs) a vs v w e =
    keep (same x.left v && (same x.right w && (x.left_version == (vertex_at vs v.0).version && x.right_version == (vertex_at vs w.0).version)))
    (stays_apart xs vs v w) (stays_apart (xs ++ a ∷ []) vs v w) e (apart-keeps xs a vs v w)
  where
    keep : (b c d : Bool) → (b || c) ≡ true → (c ≡ true → d ≡ true) → (b || d) ≡ true
    keep true c d e f = refl
    keep false c d e f = f e

apart-last : (xs : List Apart) (vs : List Vertex) (v w : VertexId) → stays_apart (xs ++ apart_now vs v w ∷ []) vs v w ≡ true
apart-last [] vs v w =
    let a = (vertex_at vs v.0).version in
    let b = (vertex_at vs w.0).version in
    all-true (v.0 == v.0) (w.0 == w.0) (a == a) (b == b) (eq-eqb v.0 v.0 refl) (eq-eqb w.0 w.0 refl) (eq-eqb a a refl) (eq-eqb b b refl)
  where
    all-true : (a b c d : Bool) → a ≡ true → b ≡ true → c ≡ true → d ≡ true → ((a && (b && (c && d))) || false) ≡ true
    all-true true true true true p q r s = refl
    all-true false b c d p q r s = absurd (false≢true p)
    all-true true false c d p q r s = absurd (false≢true q)
    all-true true true false d p q r s = absurd (false≢true r)
    all-true true true true false p q r s = absurd (false≢true s)
apart-last (x ∷ xs) vs v w = or_right _ (stays_apart (xs ++ apart_now vs v w ∷ []) vs v w) (apart-last xs vs v w)

apart-moves : (xs : List Apart) (vs ws : List Vertex) (v w : VertexId) → (vertex_at ws v.0).version ≡ (vertex_at vs v.0).version
    → (vertex_at ws w.0).version ≡ (vertex_at vs w.0).version → stays_apart xs ws v w ≡ stays_apart xs vs v w
apart-moves [] vs ws v w a b = refl
apart-moves (x ∷ xs) vs ws v w a b =
    ap (λ (n : ℕ). (same x.left v && (same x.right w && (x.left_version == n && x.right_version == (vertex_at ws w.0).version))) || stays_apart xs ws v w) a
    ∙ ap (λ (n : ℕ). (same x.left v && (same x.right w && (x.left_version == (vertex_at vs v.0).version && x.right_version == n))) || stays_apart xs ws v w) b
    ∙ ap
    (λ (c : Bool). (same x.left v && (same x.right w && (x.left_version == (vertex_at vs v.0).version && x.right_version == (vertex_at vs w.0).version))) || c)
    (apart-moves xs vs ws v w a b)

same-self : (v w : VertexId) (b : Bool) → (b || (same v v && same w w)) ≡ true
same-self v w b = or_right b (same v v && same w w) (both (v.0 == v.0) (w.0 == w.0) (eq-eqb v.0 v.0 refl) (eq-eqb w.0 w.0 refl))
  where
    both : (a b : Bool) → a ≡ true → b ≡ true → (a && b) ≡ true
    both true b p q = q
    both false b p q = absurd (false≢true p)

-- a pair that a cover unit settles was settled then
done-yes : (g : Flow) (p : ℕ) (u : Unwound) (v w : VertexId) → Can g u (CoverYes v w) → Settled g p (after g u (CoverYes v w)) (code p (refines_in u.journal) v w)
done-yes g p u v w can =
    let r : refines_in (u.journal ++ CoverYes v w ∷ []) ≡ refines_in u.journal + 0 = refines_append u.journal (CoverYes v w) in
    let r' : refines_in u.journal ≡ refines_in (u.journal ++ CoverYes v w ∷ []) = omega (arith, r) in
    record {
      behind = refines_in u.journal;
      left = v;
      right = w;
      is = refl;
      left_there = can.left;
      right_there = can.right;
      how = inr (r', inl (yes_append false u.journal (CoverYes v w) v w ∙ same-self v w (yes_since false u.journal v w)));
    }

done-no : (g : Flow) (p : ℕ) (u : Unwound) (v w : VertexId) (store : List ℕ) → Can g u (CoverNo v w store)
    → Settled g p (after g u (CoverNo v w store)) (code p (refines_in u.journal) v w)
done-no g p u v w store can =
    let r : refines_in (u.journal ++ CoverNo v w store ∷ []) ≡ refines_in u.journal + 0 = refines_append u.journal (CoverNo v w store) in
    let r' : refines_in u.journal ≡ refines_in (u.journal ++ CoverNo v w store ∷ []) = omega (arith, r) in
    record {
      behind = refines_in u.journal;
      left = v;
      right = w;
      is = refl;
      left_there = can.left;
      right_there = can.right;
      how = inr (r', inr (apart-last u.apart u.vertices v w, (store, can.whole, can.meets, can.misses)));
    }

done : (g : Flow) (p : ℕ) (u : Unwound) (x : UnitDone) (c : ℕ) → Can g u x → In (covers p u x) c → Settled g p (after g u x) c
done g p u (Expand v) c can h = absurd h
done g p u (Refine v fs) c can h = absurd h
done g p u (CoverYes v w) c can (inl e) = subst (Settled g p (after g u (CoverYes v w))) e (done-yes g p u v w can)
done g p u (CoverYes v w) c can (inr h) = absurd h
done g p u (CoverNo v w store) c can (inl e) = subst (Settled g p (after g u (CoverNo v w store))) e (done-no g p u v w store can)
done g p u (CoverNo v w store) c can (inr h) = absurd h

-- what was settled stays so, or is behind a further Refine
stays-expand : (g : Flow) (p : ℕ) (u : Unwound) (y : VertexId) (c : ℕ) → Can g u (Expand y) → Settled g p u c → Settled g p (after g u (Expand y)) c
stays-expand g p u y c can s =
    let h : Grown u.vertices (after g u (Expand y)).vertices y (length (outs g (vertex_at u.vertices y.0).node)) = grown g u.vertices y can.vertex in
    let sized = h.sized in
    let sl = s.left_there in
    let sr = s.right_there in
    let r : refines_in (u.journal ++ Expand y ∷ []) ≡ refines_in u.journal + 0 = refines_append u.journal (Expand y) in
    record {
      behind = s.behind;
      left = s.left;
      right = s.right;
      is = s.is;
      left_there = omega (arith, sl, sized);
      right_there = omega (arith, sr, sized);
      how = elim s.how [
        | inl lt ↦ inl (omega (arith, lt, r))
        | inr (e, here) ↦ inr (
          omega (arith, e, r),
          elim here [
            | inl was ↦ inl (yes_append false u.journal (Expand y) s.left s.right ∙ was)
            | inr (stays, (store, whole, meets, misses)) ↦ inr (
              apart-moves u.apart u.vertices (after g u (Expand y)).vertices s.left s.right (h.version s.left.0) (h.version s.right.0) ∙ stays,
              (
                store,
                whole,
                subst (Meets u.terms store) (sym (h.label s.left.0 sl)) meets,
                λ m. misses (subst (Meets u.terms store) (h.label s.right.0 sr) m),
              ),
            )
          ],
        )
      ];
    }

stays-refine : (g : Flow) (p : ℕ) (u : Unwound) (y : VertexId) (fs : List _) (c : ℕ) → Settled g p u c → Settled g p (after g u (Refine y fs)) c
stays-refine g p u y fs c s =
    let sized = refined_length u.terms u.vertices (path_of u.vertices y) (reverse fs) in
    let sl = s.left_there in
    let sr = s.right_there in
    let r : refines_in (u.journal ++ Refine y fs ∷ []) ≡ refines_in u.journal + 1 = refines_append u.journal (Refine y fs) in
    record {
      behind = s.behind;
      left = s.left;
      right = s.right;
      is = s.is;
      left_there = omega (arith, sl, sized);
      right_there = omega (arith, sr, sized);
      how = elim s.how [ inl lt ↦ inl (omega (arith, lt, r)) | inr h ↦ (let e = h.0 in inl (omega (arith, e, r))) ];
    }

stays-yes : (g : Flow) (p : ℕ) (u : Unwound) (y z : VertexId) (c : ℕ) → Settled g p u c → Settled g p (after g u (CoverYes y z)) c
stays-yes g p u y z c s =
    let r : refines_in (u.journal ++ CoverYes y z ∷ []) ≡ refines_in u.journal + 0 = refines_append u.journal (CoverYes y z) in
    record {
      behind = s.behind;
      left = s.left;
      right = s.right;
      is = s.is;
      left_there = s.left_there;
      right_there = s.right_there;
      how = elim s.how [
        | inl lt ↦ inl (omega (arith, lt, r))
        | inr (e, here) ↦ inr (
          omega (arith, e, r),
          elim here [
            | inl was ↦ inl (yes_append false u.journal (CoverYes y z) s.left s.right ∙ or_left (yes_since false u.journal s.left s.right) (same y s.left && same z s.right) was)
            | inr apart ↦ inr apart
          ],
        )
      ];
    }

stays-no : (g : Flow) (p : ℕ) (u : Unwound) (y z : VertexId) (store : List ℕ) (c : ℕ) → Settled g p u c → Settled g p (after g u (CoverNo y z store)) c
stays-no g p u y z store c s =
    let r : refines_in (u.journal ++ CoverNo y z store ∷ []) ≡ refines_in u.journal + 0 = refines_append u.journal (CoverNo y z store) in
    record {
      behind = s.behind;
      left = s.left;
      right = s.right;
      is = s.is;
      left_there = s.left_there;
      right_there = s.right_there;
      how = elim s.how [
        | inl lt ↦ inl (omega (arith, lt, r))
        | inr (e, here) ↦ inr (
          omega (arith, e, r),
          elim here [
            | inl was ↦ inl (yes_append false u.journal (CoverNo y z store) s.left s.right ∙ was)
            | inr (stays, rest) ↦ inr (apart-keeps u.apart (apart_now u.vertices y z) u.vertices s.left s.right stays, rest)
          ],
        )
      ];
    }

stays : (g : Flow) (p : ℕ) (u : Unwound) (x : UnitDone) (c : ℕ) → Can g u x → Settled g p u c → Settled g p (after g u x) c
stays g p u (Expand y) c can s = stays-expand g p u y c can s
stays g p u (Refine y fs) c can s = stays-refine g p u y fs c s
stays g p u (CoverYes y z) c can s = stays-yes g p u y z c s
stays g p u (CoverNo y z store) c can s = stays-no g p u y z store c s

single : (p : ℕ) (u : Unwound) (x : UnitDone) → Distinct (covers p u x)
single p u (Expand v) = tt
single p u (Refine v fs) = tt
single p u (CoverYes v w) = (λ h. h, tt)
single p u (CoverNo v w store) = (λ h. h, tt)

code-low : (p r : ℕ) (v w : VertexId) → r ≤ p → v.0 < p → w.0 < p → code p r v w < (p + 1) * p * p
code-low p r v w lr lv lw =
    digits-low (r * p + v.0) ((p + 1) * p) p w.0 (digits-low r (p + 1) p v.0 (omega (arith, lr)) lv) lw

module _ (g : Flow) (paths : List (List EdgeId)) (flow : IsFlow g) (all : AreAllPaths g paths) where
  low : (u : Unwound) (x : UnitDone) (c : ℕ) → Legal g u → Can g u x → In (covers (length paths) u x) c → c < (length paths + 1) * length paths * length paths
  low u (Expand v) c l can h = absurd h
  low u (Refine v fs) c l can h = absurd h
  low u (CoverYes v w) c l can (inl e) =
      let few = vertices-few g u l paths all in
      let a = can.left in
      let b = can.right in
      subst (λ (n : ℕ). n < (length paths + 1) * length paths * length paths) e
      (code-low (length paths) (refines_in u.journal) v w (refines-few g paths flow all u l) (omega (arith, a, few)) (omega (arith, b, few)))
  low u (CoverYes v w) c l can (inr h) = absurd h
  low u (CoverNo v w store) c l can (inl e) =
      let few = vertices-few g u l paths all in
      let a = can.left in
      let b = can.right in
      subst (λ (n : ℕ). n < (length paths + 1) * length paths * length paths) e
      (code-low (length paths) (refines_in u.journal) v w (refines-few g paths flow all u l) (omega (arith, a, few)) (omega (arith, b, few)))
  low u (CoverNo v w store) c l can (inr h) = absurd h

  pub covers-few : (u : Unwound) (xs : List UnitDone) → Legal g u → CanAll g u xs
      → length (keys g (covers (length paths)) u xs) ≤ (length paths + 1) * length paths * length paths
  covers-few u xs l c =
      keys-few g (covers (length paths)) (Legal g) (Settled g (length paths)) (legal-next g)
      (λ v x k i d h s. fresh g (length paths) v (vertices-few g v i paths all) x k d h s) (λ v x k i d h. done g (length paths) v x k d h)
      (λ v x k i d s. stays g (length paths) v x k d s) (single (length paths)) ((length paths + 1) * length paths * length paths) low u xs l c
