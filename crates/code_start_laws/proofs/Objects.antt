-- The opening gives one object after the other its first values.
use Rattle.std.proofs.Common.{◌≡◌, ℕ, zero, suc, ◌+◌, ◌<◌, ◌≤◌, refl, sym, ap, ◌∙◌, subst, arith, map, List, [], ◌∷◌, ◌++◌, length, take, drop, Option, None, Some, slice_get, slice_set, ℤ}
use Rattle.std.proofs.lemmas.List.{append-nil, take_all, drop_all}
use Rattle.std.proofs.lemmas.Option.{none-some}
use Rattle.lv_base.specs.Integers.{residue, width_of}
use Rattle.c_typed.specs.declared.tree.Object.{Object}
use Rattle.c_typed.specs.Tree as t
use Rattle.c_typed.specs.Facts.{ObjectFits}
use Rattle.c_typed.specs.Run.{start_store}
use Rattle.c_typed.specs.View.{object_of}
use Rattle.c_graph.specs.Steps.{moment}
use Rattle.code_layout.specs.Layout.{elements_of}
use Rattle.code_moves.specs.Setting.{Setting}
use Rattle.code_moves.specs.Deeds.{Sets}
use Rattle.cfg_build.specs.Graphs.{first_value, first_sets, object_opens, opens}
use Rattle.code_move_laws.specs.Mirrors.{IsLaid, Mirrors}
use Rattle.code_move_laws.proofs.Rows.{stored-rows}
use Rattle.code_move_laws.proofs.Reaching.{Comes, behind, nothing}
use Rattle.code_move_laws.proofs.Elements.{begins, none-past}
use Rattle.code_start_laws.proofs.Zeros.{zero_rows, length-rows}
use Rattle.code_start_laws.proofs.Firsts.{values_of, first-is, length-values, range-values}

-- ---- Rows

abbrev starts : List Object → List (List ℤ)
starts os = start_store (map object_of os)

length-starts : (os : List Object) → length (starts os) ≡ length os
length-starts [] = refl
length-starts (o ∷ os) = ap suc (length-starts os)

-- the first so many rows are those of the start, and the others of zeros
abbrev rows_at : List Object → ℕ → List (List ℤ)
rows_at os n = take n (starts os) ++ drop n (zero_rows os)

row-next : (os : List Object) (n : ℕ) (o : Object) → slice_get os n ≡ Some o → slice_set (rows_at os n) n (values_of o) ≡ rows_at os (suc n)
row-next [] n o e = absurd (none-some o e)
row-next (x ∷ os) zero o e = let same : x ≡ o = cc in ap (λ (p : Object). values_of p ∷ zero_rows os) (sym same)
row-next (x ∷ os) (suc n) o e = ap (λ (rs : List (List ℤ)). values_of x ∷ rs) (row-next os n o e)

rows-end : (os : List Object) → rows_at os (length os) ≡ starts os
rows-end os =
    let all : length (starts os) ≤ length os = omega (arith, length-starts os) in
    let past : length (zero_rows os) ≤ length os = omega (arith, length-rows os) in
    ap (λ (rs : List (List ℤ)). rs ++ drop (length os) (zero_rows os)) (take_all (length os) (starts os) all)
    ∙ ap (λ (rs : List (List ℤ)). starts os ++ rs) (drop_all (length os) (zero_rows os) past)
    ∙ append-nil (starts os)

-- ---- The opening

module _ (g : Setting) (laid : IsLaid g) (functions : List t.Function) (fits : (k : ℕ) (o : Object) → slice_get g.objects k ≡ Some o → ObjectFits g.model (map object_of g.objects) functions (object_of o)) (slots : List ℤ) (store : List ℕ)
    (mirrors : Mirrors g slots (zero_rows g.objects) store) where
  -- one object
  object-comes : (k first : ℕ) (o : Object) (c : List ℕ) → slice_get g.objects k ≡ Some o → slice_get g.lay.firsts k ≡ Some first → Mirrors g slots (rows_at g.objects k) c
      → Comes g (first_sets first (width_of o.kind g.model) o (elements_of o)) c [] [] slots (rows_at g.objects (suc k))
  object-comes k first o c e b mir =
      subst (λ (rs : List (List ℤ)). Comes g (first_sets first (width_of o.kind g.model) o (elements_of o)) c [] [] slots rs) (row-next g.objects k o e)
      (stored-rows g laid slots (rows_at g.objects k) c mir k first o e b (values_of o) (length-values g.model (map object_of g.objects) functions o (fits k o e))
      (λ n lt. range-values g.model (map object_of g.objects) functions o (fits k o e) n)
      (first_sets first (width_of o.kind g.model) o) (λ n. Sets (first + n) (λ s. residue (width_of o.kind g.model) (first_value o n))) (λ n. []) refl (λ n. refl)
      (λ n lt vals s m. ap (λ (v : ℤ). Some (moment (slice_set s (first + n) (residue (width_of o.kind g.model) v)) [])) (first-is o n)))

  one-comes : (k : ℕ) (c : List ℕ) → k < length g.objects → Mirrors g slots (rows_at g.objects k) c
      → Comes g (object_opens g (slice_get g.lay.firsts k) (slice_get g.objects k)) c [] [] slots (rows_at g.objects (suc k))
  one-comes k c lt mir = go (slice_get g.objects k) refl
    where
      go : (p : Option Object) → slice_get g.objects k ≡ p → Comes g (object_opens g (slice_get g.lay.firsts k) (slice_get g.objects k)) c [] [] slots (rows_at g.objects (suc k))
      go None e = absurd (omega (arith, lt, none-past g.objects k e))
      go (Some o) e =
          let b = begins g k o laid e in
          subst (λ (p : Option Object). Comes g (object_opens g (slice_get g.lay.firsts k) p) c [] [] slots (rows_at g.objects (suc k))) (sym e)
          (subst (λ (q : Option ℕ). Comes g (object_opens g q (Some o)) c [] [] slots (rows_at g.objects (suc k))) (sym b.1)
          (object-comes k b.0 o c e b.1 mir))

  first-come : (k : ℕ) → k ≤ length g.objects → Comes g (opens g k) store [] [] slots (rows_at g.objects k)
  first-come zero le = nothing g store [] slots (rows_at g.objects 0) mirrors
  first-come (suc k) le =
      behind g (opens g k) (object_opens g (slice_get g.lay.firsts k) (slice_get g.objects k)) store [] [] [] slots slots (rows_at g.objects k) (rows_at g.objects (suc k))
      (first-come k (omega (arith, le))) (λ c mir. one-comes k c (omega (arith, le)) mir)

  -- all objects
  pub all-come : Comes g (opens g (length g.objects)) store [] [] slots (start_store (map object_of g.objects))
  all-come = subst (λ (rs : List (List ℤ)). Comes g (opens g (length g.objects)) store [] [] slots rs) (rows-end g.objects) (first-come (length g.objects) (omega arith))
