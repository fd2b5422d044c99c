-- Steps of loops over places that wait.
use Rattle.std.proofs.Common.{◌≡◌, ℕ, ◌+◌, ◌<◌, ◌≤◌, List, [], ◌∷◌, ◌++◌, Option, Some, sym, ap, ◌∙◌, suc, length, drop, slice_get, append_assoc, add-one}
use Rattle.std.proofs.lemmas.Bool.{lt-ltb, le-ltb}
use Rattle.block_rule.specs.Rule.{Wait, with_wait}
use Rattle.walk_states.specs.declared.state.Waiting.{Waiting}
use Rattle.walk_states.specs.Walks.{waits_of}
use Rattle.walk_states.proofs.Following.{drop-step, drop-all, waits-last, with-step, with-here}

pub joined-step : (ws more next : List Waiting) (all : List Wait) (n : ℕ) (w : Waiting) → slice_get ws n ≡ Some w → next ≡ more ++ w ∷ []
    → all ≡ waits_of more ++ waits_of (drop n ws) → all ≡ waits_of next ++ waits_of (drop (n + 1) ws)
joined-step ws more next all n w get e h =
    let rest : List Wait = waits_of (drop (suc n) ws) in
    let one : Wait = record { node = w.node; guard = w.guard } in
    h ∙ ap (λ (xs : List Waiting). waits_of more ++ waits_of xs) (drop-step ws n w get)
    ∙ sym (append_assoc (waits_of more) (one ∷ []) rest)
    ∙ ap (λ (r : List Wait). r ++ rest) (sym (ap waits_of e ∙ waits-last more w))
    ∙ ap (λ (j : ℕ). waits_of next ++ waits_of (drop j ws)) (sym (add-one n))

-- a place that comes before the new one
pub with-on : (ws all more : List Waiting) (n v : ℕ) (g : Option ℕ) (w : Waiting) → slice_get ws n ≡ Some w → w.node < v → more ≡ all ++ w ∷ []
    → with_wait (waits_of ws) v g ≡ waits_of all ++ with_wait (waits_of (drop n ws)) v g
    → with_wait (waits_of ws) v g ≡ waits_of more ++ with_wait (waits_of (drop (n + 1) ws)) v g
with-on ws all more n v g w get less e h =
    with-step ws all more n v g w get (lt-ltb w.node v less) e h
    ∙ ap (λ (j : ℕ). waits_of more ++ with_wait (waits_of (drop j ws)) v g) (sym (add-one n))

-- the new place stands before the rest
pub with-found : (ws all next got : List Waiting) (n v : ℕ) (g : Option ℕ) (w x : Waiting) → slice_get ws n ≡ Some w → v ≤ w.node
    → x.node ≡ v → x.guard ≡ g → next ≡ all ++ x ∷ [] → with_wait (waits_of ws) v g ≡ waits_of all ++ with_wait (waits_of (drop n ws)) v g
    → waits_of got ≡ waits_of next ++ waits_of (drop n ws) → waits_of got ≡ with_wait (waits_of ws) v g
with-found ws all next got n v g w x get less d f e h i =
    let rest : List Wait = waits_of (drop n ws) in
    let one : Wait = record { node = v; guard = g } in
    let same : waits_of next ≡ waits_of all ++ one ∷ [] =
    ap waits_of e ∙ waits-last all x ∙ ap (λ (y : ℕ). waits_of all ++ record { node = y; guard = x.guard } ∷ []) d
    ∙ ap (λ (y : Option ℕ). waits_of all ++ record { node = v; guard = y } ∷ []) f in
    i ∙ ap (λ (r : List Wait). r ++ rest) same ∙ append_assoc (waits_of all) (one ∷ []) rest ∙ sym (with-here ws all n v g w get (le-ltb w.node v less) h)

-- the new place stands behind all
pub with-end : (ws all next : List Waiting) (n v : ℕ) (g : Option ℕ) (x : Waiting) → length ws ≤ n → x.node ≡ v → x.guard ≡ g → next ≡ all ++ x ∷ []
    → with_wait (waits_of ws) v g ≡ waits_of all ++ with_wait (waits_of (drop n ws)) v g → waits_of next ≡ with_wait (waits_of ws) v g
with-end ws all next n v g x le d f e h =
    let one : Wait = record { node = v; guard = g } in
    let same : waits_of next ≡ waits_of all ++ one ∷ [] =
    ap waits_of e ∙ waits-last all x ∙ ap (λ (y : ℕ). waits_of all ++ record { node = y; guard = x.guard } ∷ []) d
    ∙ ap (λ (y : Option ℕ). waits_of all ++ record { node = v; guard = y } ∷ []) f in
    same ∙ sym (h ∙ ap (λ (xs : List Waiting). waits_of all ++ with_wait (waits_of xs) v g) (drop-all ws n le))
