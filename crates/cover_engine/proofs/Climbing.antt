-- What a climb from a vertex to the root has seen.
use Rattle.std.proofs.Common.{◌≡◌, ℕ, ◌-◌, ◌<◌, List, [], arith, ap, sym, ◌∙◌, refl, suc, zero, Bool, true, false, ◌||◌, Option, Some, None}
use Rattle.reach_tree.specs.declared.vertex.VertexId.{VertexId}
use Rattle.reach_tree.specs.declared.vertex.Vertex.{Vertex}
use Rattle.reach_tree.specs.Trees.{vertex_at}
use Rattle.cover_engine.specs.Unwindings.{any_of, path_up}

-- what is asked of a vertex that passes
pub any-found : (test : ℕ → Bool) (vs : List Vertex) (n v : ℕ) → 0 < n → test v ≡ true → any_of test (path_up vs n v) ≡ true
any-found test vs zero v lt e = absurd (omega arith)
any-found test vs (suc n) v lt e = rw e refl

or-false : (a b : Bool) → a ≡ false → a || b ≡ b
or-false true b e = absurd (cc)
or-false false b e = refl

-- of one that does not pass and has no parent
pub any-ends : (test : ℕ → Bool) (vs : List Vertex) (n v : ℕ) → 0 < n → test v ≡ false → (vertex_at vs v).parent ≡ None → any_of test (path_up vs n v) ≡ false
any-ends test vs zero v lt e p = absurd (omega arith)
any-ends test vs (suc n) v lt e p = up (vertex_at vs v).parent p
  where
    up : (r : Option VertexId) → r ≡ None → (test v || any_of test (elim r [ None ↦ [] | Some p ↦ path_up vs n p.0 ])) ≡ false
    up None q = or-false (test v) false e
    up (Some x) q = absurd (cc)

-- of one that does not pass and has a parent
pub any-climbs : (test : ℕ → Bool) (vs : List Vertex) (n v : ℕ) (p : VertexId) → 0 < n → test v ≡ false → (vertex_at vs v).parent ≡ Some p
    → any_of test (path_up vs n v) ≡ any_of test (path_up vs (n - 1) p.0)
any-climbs test vs zero v p lt e is = absurd (omega arith)
any-climbs test vs (suc n) v p lt e is =
    let z : suc n - 1 ≡ n = omega arith in
    up (vertex_at vs v).parent is ∙ ap (λ m. any_of test (path_up vs m p.0)) (sym z)
  where
    up : (r : Option VertexId) → r ≡ Some p → (test v || any_of test (elim r [ None ↦ [] | Some p ↦ path_up vs n p.0 ])) ≡ any_of test (path_up vs n p.0)
    up None q = absurd (cc)
    up (Some x) q =
        let same : x ≡ p = cc in
        or-false (test v) (any_of test (path_up vs n x.0)) e ∙ ap (λ (y : VertexId). any_of test (path_up vs n y.0)) same

pub ruleset climbing = (any-found, any-ends, any-climbs)
