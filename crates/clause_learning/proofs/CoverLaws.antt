-- The variables of what is known are listed.
use Rattle.std.proofs.Common.{◌≡◌, ℕ, ◌+◌, ◌<◌, Bool, true, false, List, [], ◌∷◌, ◌++◌, Option, Some, None, slice_get, ◌⊎◌, inl, inr, refl, sym, ap, ◌∙◌, subst}
use Rattle.std.proofs.lemmas.Bool.{both_ways}
use Rattle.prop.specs.declared.Lit.{Lit}
use Rattle.prop.specs.Logic.{negated, positive_of}
use Rattle.prop.specs.Trues.{listed}
use Rattle.prop.specs.Steps.{has, Has, In, negative_of, without, resolved, crosses, one_way, resolve}
use Rattle.prop.proofs.Sets.{In-get, Has-head, Has-tail, Has-cons, Has-append, Has-without}
use Rattle.resolution_log.specs.Chains.{chain_from}
use Rattle.resolution_log.specs.Logs.{Same}
use Rattle.resolution_log.specs.Codes.{Covers, CoversAll}
use Rattle.resolution_log.proofs.Results.{step_parts}
use Rattle.clause_learning.specs.declared.Entry.{Entry}
use Rattle.clause_learning.specs.Trail.{ToldSet, Told}

pub covers_has : (vars : List ℕ) (c : List Lit) (l : Lit) → Covers vars c → Has c l → listed vars l.var ≡ true
covers_has vars [] l v h = absurd (both_ways false refl h)
covers_has vars (m ∷ c) l v h = elim (Has-cons m c l h) [ inl e ↦ subst (λ (w : Lit). listed vars w.var ≡ true) e v.0 | inr b ↦ covers_has vars c l v.1 b ]

pub covers_by : (vars : List ℕ) (c : List Lit) → ((l : Lit) → Has c l → listed vars l.var ≡ true) → Covers vars c
covers_by vars [] f = tt
covers_by vars (m ∷ c) f = (f m (Has-head m c), covers_by vars c (λ l h. f l (Has-tail m c l h)))

pub covers_in : (vars : List ℕ) (cs : List (List Lit)) (c : List Lit) → CoversAll vars cs → In cs c → Covers vars c
covers_in vars [] c v h = absurd h
covers_in vars (d ∷ cs) c v h = elim h [ inl e ↦ subst (Covers vars) (sym e) v.0 | inr t ↦ covers_in vars cs c v.1 t ]

pub covers_push : (vars : List ℕ) (cs : List (List Lit)) (c : List Lit) → CoversAll vars cs → Covers vars c → CoversAll vars (cs ++ (c ∷ []))
covers_push vars [] c v h = (h, tt)
covers_push vars (d ∷ cs) c v h = (v.0, covers_push vars cs c v.1 h)

covers_resolved : (vars : List ℕ) (l : Lit) (c d : List Lit) → Covers vars c → Covers vars d → Covers vars (resolved l c d)
covers_resolved vars l c d p q = covers_by vars (resolved l c d) (λ x h. elim (Has-append (without l c) (without (negated l) d) x h) [ inl a ↦ covers_has vars c x p (Has-without l c x a).0 | inr b ↦ covers_has vars d x q (Has-without (negated l) d x b).0 ])

covers_way : (vars : List ℕ) (a b : Bool) (v : ℕ) (c d e : List Lit) → one_way a b v c d ≡ Some e → Covers vars c → Covers vars d → Covers vars e
covers_way vars true true v c d e h p q = absurd cc
covers_way vars false false v c d e h p q = absurd cc
covers_way vars true false v c d e h p q = let g : resolved (positive_of v) c d ≡ e = cc in subst (Covers vars) g (covers_resolved vars (positive_of v) c d p q)
covers_way vars false true v c d e h p q = let g : resolved (negative_of v) c d ≡ e = cc in subst (Covers vars) g (covers_resolved vars (negative_of v) c d p q)

covers_chain : (vars : List ℕ) (known : List (List Lit)) (ps : List (ℕ × ℕ)) (c r : List Lit) → CoversAll vars known → Covers vars c → chain_from known c ps ≡ Some r → Covers vars r
covers_chain vars known [] c r all v h = let e : c ≡ r = cc in subst (Covers vars) e v
covers_chain vars known (p ∷ ps) c r all v h =
    let (d, e, gd, ge, h2) = step_parts known p ps c r h in
    covers_chain vars known ps e r all (covers_way vars (crosses (positive_of p.0) c d) (crosses (negative_of p.0) c d) p.0 c d e ge v (covers_in vars known d all (In-get known p.1 d gd))) h2

pub covers_told : (vars : List ℕ) (known : List (List Lit)) (level : ℕ) (t : List Entry) (first : ℕ) (d : List Lit) (pairs : List (ℕ × ℕ)) (u : Option Lit) → CoversAll vars known → ToldSet known level t first d pairs u → Covers vars d
covers_told vars known level t first d pairs u all g =
    let w = covers_chain vars known pairs g.told.start g.whole all (covers_in vars known g.told.start all (In-get known first g.told.start g.told.gets)) g.told.chain in
    covers_by vars d (λ l h. covers_has vars g.whole l w (g.same.from l h))
