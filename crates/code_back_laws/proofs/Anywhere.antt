-- The opening gives each object its first values in any store.
use Rattle.std.proofs.Common.{◌≡◌, ℕ, zero, suc, ◌+◌, ◌<◌, ◌≤◌, refl, sym, ap, ◌∙◌, subst, arith, map, List, [], ◌∷◌, ◌++◌, length, take, drop, Option, None, Some, slice_get, slice_set, ℤ, pos}
use Rattle.std.specs.List.{All}
use Rattle.std.proofs.lemmas.Int.{ints}
use Rattle.std.proofs.lemmas.List.{append-nil, take_all, drop_all}
use Rattle.std.proofs.lemmas.List.Elements.{All-head, All-tail}
use Rattle.std.proofs.lemmas.Option.{none-some, same_Some}
use Rattle.lv_base.specs.Integers.{InAny, residue, width_of}
use Rattle.c_typed.specs.declared.tree.Object.{Object}
use Rattle.c_typed.specs.Tree as t
use Rattle.c_typed.specs.Facts.{ObjectFits}
use Rattle.c_typed.specs.Parts.{tree_of}
use Rattle.c_typed.specs.Run.{start_store}
use Rattle.c_typed.specs.View.{object_of}
use Rattle.c_graph.specs.Steps.{moment}
use Rattle.slot_code.specs.Slots.{put, slots_in}
use Rattle.code_layout.specs.Layout.{elements_of}
use Rattle.code_moves.specs.Setting.{Setting}
use Rattle.code_moves.specs.Deeds.{Sets}
use Rattle.cfg_build.specs.Graphs.{first_value, first_sets, object_opens, opens, program_code, program_setting}
use Rattle.code_move_laws.specs.Mirrors.{IsLaid, Mirrors}
use Rattle.code_move_laws.proofs.Laying.{laid}
use Rattle.code_move_laws.proofs.Rows.{stored-rows}
use Rattle.code_move_laws.proofs.Reaching.{Comes, behind, nothing}
use Rattle.code_move_laws.proofs.Stores.{unread-put}
use Rattle.code_move_laws.proofs.Elements.{begins, none-past}
use Rattle.code_start_laws.proofs.Firsts.{values_of, first-is, length-values, range-values}
use Rattle.code_back_laws.specs.Back.{StoresOpen}
use Rattle.code_back_laws.proofs.Reading.{read_rows, read_slots, mirrored}
use Rattle.code_back_laws.proofs.Unread.{returns-are-unread}

abbrev starts : List Object → List (List ℤ)
starts os = start_store (map object_of os)

length-starts : (os : List Object) → length (starts os) ≡ length os
length-starts [] = refl
length-starts (o ∷ os) = ap suc (length-starts os)

-- the first so many rows are those of the start, and the others are as they were
abbrev rows_at : List Object → List (List ℤ) → ℕ → List (List ℤ)
rows_at os rows n = take n (starts os) ++ drop n rows

row-next : (os : List Object) (rows : List (List ℤ)) (n : ℕ) (o : Object) → length rows ≡ length os → slice_get os n ≡ Some o → slice_set (rows_at os rows n) n (values_of o) ≡ rows_at os rows (suc n)
row-next [] rows n o len e = absurd (none-some o e)
row-next (x ∷ os) [] n o len e = absurd (omega (arith, len))
row-next (x ∷ os) (r ∷ rows) zero o len e = ap (λ (p : Object). values_of p ∷ rows) (sym (same_Some x o e))
row-next (x ∷ os) (r ∷ rows) (suc n) o len e = ap (λ (rs : List (List ℤ)). values_of x ∷ rs) (row-next os rows n o (omega (arith, len)) e)

rows-end : (os : List Object) (rows : List (List ℤ)) → length rows ≡ length os → rows_at os rows (length os) ≡ starts os
rows-end os rows len =
    let all : length (starts os) ≤ length os = omega (arith, length-starts os) in
    ap (λ (rs : List (List ℤ)). rs ++ drop (length os) rows) (take_all (length os) (starts os) all)
    ∙ ap (λ (rs : List (List ℤ)). starts os ++ rs) (drop_all (length os) rows (omega (arith, len)))
    ∙ append-nil (starts os)

module _ (g : Setting) (laid : IsLaid g) (functions : List t.Function) (fits : (k : ℕ) (o : Object) → slice_get g.objects k ≡ Some o → ObjectFits g.model (map object_of g.objects) functions (object_of o)) (slots : List ℤ) (rows : List (List ℤ)) (store : List ℕ)
    (mirrors : Mirrors g slots rows store) where
  object-comes : (k first : ℕ) (o : Object) (c : List ℕ) → slice_get g.objects k ≡ Some o → slice_get g.lay.firsts k ≡ Some first → Mirrors g slots (rows_at g.objects rows k) c
      → Comes g (first_sets first (width_of o.kind g.model) o (elements_of o)) c [] [] slots (rows_at g.objects rows (suc k))
  object-comes k first o c e b mir =
      subst (λ (rs : List (List ℤ)). Comes g (first_sets first (width_of o.kind g.model) o (elements_of o)) c [] [] slots rs) (row-next g.objects rows k o mirrors.objects e)
      (stored-rows g laid slots (rows_at g.objects rows k) c mir k first o e b (values_of o) (length-values g.model (map object_of g.objects) functions o (fits k o e))
      (λ n lt. range-values g.model (map object_of g.objects) functions o (fits k o e) n)
      (first_sets first (width_of o.kind g.model) o) (λ n. Sets (first + n) (λ s. residue (width_of o.kind g.model) (first_value o n))) (λ n. []) refl (λ n. refl)
      (λ n lt vals s m. ap (λ (v : ℤ). Some (moment (slice_set s (first + n) (residue (width_of o.kind g.model) v)) [])) (first-is o n)))

  one-comes : (k : ℕ) (c : List ℕ) → k < length g.objects → Mirrors g slots (rows_at g.objects rows k) c
      → Comes g (object_opens g (slice_get g.lay.firsts k) (slice_get g.objects k)) c [] [] slots (rows_at g.objects rows (suc k))
  one-comes k c lt mir = go (slice_get g.objects k) refl
    where
      go : (p : Option Object) → slice_get g.objects k ≡ p → Comes g (object_opens g (slice_get g.lay.firsts k) (slice_get g.objects k)) c [] [] slots (rows_at g.objects rows (suc k))
      go None e = absurd (omega (arith, lt, none-past g.objects k e))
      go (Some o) e =
          let b = begins g k o laid e in
          subst (λ (p : Option Object). Comes g (object_opens g (slice_get g.lay.firsts k) p) c [] [] slots (rows_at g.objects rows (suc k))) (sym e)
          (subst (λ (q : Option ℕ). Comes g (object_opens g q (Some o)) c [] [] slots (rows_at g.objects rows (suc k))) (sym b.1)
          (object-comes k b.0 o c e b.1 mir))

  first-come : (k : ℕ) → k ≤ length g.objects → Comes g (opens g k) store [] [] slots (rows_at g.objects rows k)
  first-come zero le = nothing g store [] slots (rows_at g.objects rows 0) mirrors
  first-come (suc k) le =
      behind g (opens g k) (object_opens g (slice_get g.lay.firsts k) (slice_get g.objects k)) store [] [] [] slots slots (rows_at g.objects rows k) (rows_at g.objects rows (suc k))
      (first-come k (omega (arith, le))) (λ c mir. one-comes k c (omega (arith, le)) mir)

  all-come : Comes g (opens g (length g.objects)) store [] [] slots (start_store (map object_of g.objects))
  all-come = subst (λ (rs : List (List ℤ)). Comes g (opens g (length g.objects)) store [] [] slots rs) (rows-end g.objects rows mirrors.objects) (first-come (length g.objects) (omega arith))

-- what holds of each object of a typed tree
held-at : (Q : t.Object → Type 0) (os : List Object) (k : ℕ) (o : Object) → All Q (map object_of os) → slice_get os k ≡ Some o → Q (object_of o)
held-at Q [] k o h e = absurd (none-some o e)
held-at Q (x ∷ os) zero o h e = subst (λ (p : Object). Q (object_of p)) (same_Some x o e) (All-head Q (object_of x) (map object_of os) h)
held-at Q (x ∷ os) (suc k) o h e = held-at Q os k o (All-tail Q (object_of x) (map object_of os) h) e

place-any : (n : ℕ) → n < 18446744073709551616 → InAny (pos n)
place-any n lt = (omega (arith, ints), omega (arith, ints, lt))

pub stores-open : StoresOpen
stores-open p order k l turns store typed few short link whole =
    let is_laid : IsLaid (program_setting p order) = laid p.objects p.model (program_code p order) (slots_in (program_code p order)) (omega arith) few in
    let slots : List ℤ = read_slots (program_setting p order).lay.slots store in
    let begun = unread-put (program_setting p order) is_laid (read_slots (program_setting p order).lay.slots store) (read_rows p.model store p.objects (program_setting p order).lay.firsts) store (mirrored (program_setting p order) is_laid store whole)
    l.slot (pos (length (program_code p order))) (returns-are-unread p order k l link) (place-any (length (program_code p order)) short) in
    let all = all-come (program_setting p order) is_laid (tree_of p).functions
    (λ k o e. held-at (ObjectFits p.model (map object_of p.objects) (tree_of p).functions) p.objects k o typed.objects e) (put (read_slots (program_setting p order).lay.slots store) l.slot (pos (length (program_code p order))))
    (read_rows p.model store p.objects (program_setting p order).lay.firsts) store begun in (
      read_slots (program_setting p order).lay.slots store,
      record {
        store = store;
        after = all.after;
        whole = whole;
        reaches = all.reaches;
        mirrors = all.mirrors;
      },
      refl,
    )
