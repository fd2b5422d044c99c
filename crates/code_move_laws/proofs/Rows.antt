-- All elements of an object are set, one after the other.
use Rattle.std.proofs.Common.{◌≡◌, ℕ, zero, suc, ◌+◌, ◌<◌, ◌≤◌, refl, sym, ap, ◌∙◌, subst, arith, List, [], ◌∷◌, ◌++◌, length, take, drop, Some, slice_get, slice_set, slice_index_or, ℤ, pos}
use Rattle.std.proofs.lemmas.List.{append-nil, get_or-set_same, set-set, set-get_or, take_all, drop_all}
use Rattle.std.proofs.lemmas.Option.{slice_get_within}
use Rattle.lv_base.specs.Integers.{InRange, residue, width_of}
use Rattle.c_typed.specs.declared.tree.Object.{Object}
use Rattle.c_graph.specs.Shape.{widths_of}
use Rattle.c_graph.specs.Steps.{moment}
use Rattle.code_layout.specs.Layout.{elements_of}
use Rattle.code_moves.specs.Setting.{Setting}
use Rattle.code_moves.specs.Deeds.{Deed}
use Rattle.code_move_laws.specs.Mirrors.{IsLaid, row, Mirrors}
use Rattle.code_move_laws.specs.Doing.{did, did_all}
use Rattle.code_move_laws.proofs.Stores.{element-set}
use Rattle.code_move_laws.proofs.Reaching.{Comes, behind, nothing}

row-next : (vs r : List ℤ) (n : ℕ) → n < length vs → length vs ≡ length r → slice_set (take n vs ++ drop n r) n (slice_index_or vs n (pos 0)) ≡ take (suc n) vs ++ drop (suc n) r
row-next [] r n lt e = absurd (omega (arith, lt))
row-next (v ∷ vs) [] n lt e = absurd (omega (arith, e))
row-next (v ∷ vs) (x ∷ r) zero lt e = refl
row-next (v ∷ vs) (x ∷ r) (suc n) lt e = ap (λ (ws : List ℤ). v ∷ ws) (row-next vs r n (omega (arith, lt)) (omega (arith, e)))

pub drop-next : (vs : List ℤ) (n : ℕ) → n < length vs → drop n vs ≡ slice_index_or vs n (pos 0) ∷ drop (suc n) vs
drop-next [] n lt = absurd (omega (arith, lt))
drop-next (v ∷ vs) zero lt = refl
drop-next (v ∷ vs) (suc n) lt = drop-next vs n (omega (arith, lt))

module _ (g : Setting) (laid : IsLaid g) (slots : List ℤ) (values : List (List ℤ)) (store : List ℕ) (h : Mirrors g slots values store) (object first : ℕ) (o : Object) (there : slice_get g.objects object ≡ Some o)
    (base : slice_get g.lay.firsts object ≡ Some first) (vs : List ℤ) (len : length vs ≡ elements_of o) (range : (n : ℕ) → n < elements_of o → InRange o.kind g.model (slice_index_or vs n (pos 0))) (deeds : ℕ → List Deed) (d : ℕ → Deed)
    (ins : ℕ → List ℤ) (none : deeds 0 ≡ []) (more : (n : ℕ) → deeds (suc n) ≡ deeds n ++ d n ∷ [])
    (one : (n : ℕ) → n < elements_of o → (vals : List (List ℤ)) (c : List ℕ) → Mirrors g slots vals c
    → did (widths_of g.lay.cells) (d n) (moment c (ins n)) ≡ Some (moment (slice_set c (first + n) (residue (width_of o.kind g.model) (slice_index_or vs n (pos 0)))) (ins (suc n)))) where
  -- the first so many are new
  abbrev row_at : ℕ → List ℤ
  row_at n = take n vs ++ drop n (row values object)

  abbrev values_at : ℕ → List (List ℤ)
  values_at n = slice_set values object (row_at n)

  in-values : object < length values
  in-values = omega (arith, slice_get_within g.objects object o there, h.objects)

  next : (n : ℕ) → n < elements_of o → slice_set (values_at n) object (slice_set (row (values_at n) object) n (slice_index_or vs n (pos 0))) ≡ values_at (suc n)
  next n lt =
      let here : row (values_at n) object ≡ row_at n = get_or-set_same values object (row_at n) [] in-values in
      ap (λ (r : List ℤ). slice_set (values_at n) object (slice_set r n (slice_index_or vs n (pos 0)))) here
      ∙ ap (slice_set (values_at n) object) (row-next vs (row values object) n (omega (arith, len, lt)) (len ∙ sym (h.rows object o there)))
      ∙ set-set values object (row_at n) (row_at (suc n))

  set-next : (n : ℕ) → n < elements_of o → (c : List ℕ) → Mirrors g slots (values_at n) c → Comes g (d n ∷ []) c (ins n) (ins (suc n)) slots (values_at (suc n))
  set-next n lt c mir =
      let x : ℕ = residue (width_of o.kind g.model) (slice_index_or vs n (pos 0)) in
      record {
        after = slice_set c (first + n) (residue (width_of o.kind g.model) (slice_index_or vs n (pos 0)));
        reaches = ap (did_all (widths_of g.lay.cells) []) (one n lt (values_at n) c mir);
        mirrors = subst (λ (v : List (List ℤ)). Mirrors g slots v (slice_set c (first + n) (residue (width_of o.kind g.model) (slice_index_or vs n (pos 0))))) (next n lt)
            (element-set g laid slots (values_at n) c mir object first n o (slice_index_or vs n (pos 0)) there base lt (range n lt));
      }

  rows : (n : ℕ) → n ≤ elements_of o → Comes g (deeds n) store (ins 0) (ins n) slots (values_at n)
  rows zero le =
      subst (λ (ds : List Deed). Comes g ds store (ins 0) (ins 0) slots (values_at 0)) (sym none)
      (nothing g store (ins 0) slots (values_at 0) (subst (λ (v : List (List ℤ)). Mirrors g slots v store) (sym (set-get_or values object [])) h))
  rows (suc n) le =
      subst (λ (ds : List Deed). Comes g ds store (ins 0) (ins (suc n)) slots (values_at (suc n))) (sym (more n))
      (behind g (deeds n) (d n ∷ []) store (ins 0) (ins n) (ins (suc n)) slots slots (values_at n) (values_at (suc n)) (rows n (omega (arith, le))) (λ c mir. set-next n (omega (arith, le)) c mir))

  pub stored-rows : Comes g (deeds (elements_of o)) store (ins 0) (ins (elements_of o)) slots (slice_set values object vs)
  stored-rows =
      let le : length vs ≤ elements_of o = omega (arith, len) in
      let past : length (row values object) ≤ elements_of o = omega (arith, h.rows object o there) in
      let all : row_at (elements_of o) ≡ vs = ap (λ (ws : List ℤ). ws ++ drop (elements_of o) (row values object)) (take_all (elements_of o) vs le) ∙ ap (λ (ws : List ℤ). vs ++ ws) (drop_all (elements_of o) (row values object) past) ∙ append-nil vs in
      subst (λ (r : List ℤ). Comes g (deeds (elements_of o)) store (ins 0) (ins (elements_of o)) slots (slice_set values object r)) all (rows (elements_of o) (omega arith))
