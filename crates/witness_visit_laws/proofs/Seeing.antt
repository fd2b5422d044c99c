-- A store that shows what the objects of an elaborated source hold tells their values.
use Rattle.std.proofs.Common.{◌≡◌, ◌∙◌, ap, sym, subst, refl, ℕ, zero, suc, ◌<◌, max, List, [], ◌∷◌, slice_index, ℤ, arith}
use Rattle.std.specs.Prelude.{Option, Some, None, slice_get, map}
use Rattle.lv_base.specs.declared.kind.Kind.{Kind}
use Rattle.lv_base.specs.declared.kind.Model.{Model}
use Rattle.lv_base.specs.Integers.{InRange, residue, width_of}
use Rattle.c_meaning.specs.Bindings.{Env, Object, size_of_object}
use Rattle.c_typed.specs.Tree as t
use Rattle.c_typed.specs.declared.tree.Object.{Object as ATyped}
use Rattle.c_typed.specs.View.{object_of}
use Rattle.c_types.specs.Elaborated.{length_of, objects_from}
use Rattle.c_types.specs.Fit.{LengthFits, ObjectsFit}
use Rattle.c_graph.specs.declared.graph.Cell.{Cell}
use Rattle.code_moves.specs.Setting.{Setting}
use Rattle.program_visits.specs.Visiting.{Shows}
use Rattle.witness_truth_laws.specs.Telling.{IsTold, value_at}
use Rattle.witness_visit_laws.specs.Visited.{IsStanding}

heads : {A : Type 0} (x y : A) (xs ys : List A) → x ∷ xs ≡ y ∷ ys → (x ≡ y) × (xs ≡ ys)
heads x y xs ys e = (cc, cc)

-- the typed object of a number is of the kind and the length of the source's
alike : (env : Env) (model : Model) (n : ℕ) (typed : List ATyped) (sources : List Object) → map object_of typed ≡ objects_from env model n sources
    → (k : ℕ) (a : ATyped) (o : Object) → slice_get typed k ≡ Some a → slice_get sources k ≡ Some o → (a.kind ≡ o.kind) × (a.length ≡ length_of o.length)
alike env model n [] sources e k a o f g = absurd cc
alike env model n (x ∷ xs) [] e k a o f g = absurd cc
alike env model n (x ∷ xs) (y ∷ ys) e zero a o f g =
    let h = heads _ _ _ _ e in
    let kinds : x.kind ≡ y.kind = ap (λ (z : t.Object). z.kind) h.0 in
    let lengths : x.length ≡ length_of y.length = ap (λ (z : t.Object). z.length) h.0 in
    let typed : x ≡ a = cc in
    let source : y ≡ o = cc in (
      sym (ap (λ (z : ATyped). z.kind) typed) ∙ kinds ∙ ap (λ (z : Object). z.kind) source,
      sym (ap (λ (z : ATyped). z.length) typed) ∙ lengths ∙ ap (λ (z : Object). length_of z.length) source,
    )
alike env model n (x ∷ xs) (y ∷ ys) e (suc k) a o f g = alike env model (suc n) xs ys (heads _ _ _ _ e).1 k a o f g

fit-at : (os : List Object) (k : ℕ) (o : Object) → ObjectsFit os → slice_get os k ≡ Some o → LengthFits o.length
fit-at [] k o h e = absurd cc
fit-at (x ∷ os) zero o h e = let same : x ≡ o = cc in subst (λ (z : Object). LengthFits z.length) same h.0
fit-at (x ∷ os) (suc k) o h e = fit-at os k o h.1 e

sized : (l : Option ℕ) (o : Object) (e : ℕ) → o.length ≡ l → LengthFits l → e < max (length_of l) 1 → e < size_of_object (Some o)
sized None o e same h lt =
    let one : size_of_object (Some o) ≡ 1 = ap (λ (x : Option ℕ). elim x [ None ↦ 1 | Some n ↦ n ]) same in
    omega (arith, one, lt)
sized (Some n) o e same h lt =
    let all : size_of_object (Some o) ≡ n = ap (λ (x : Option ℕ). elim x [ None ↦ 1 | Some n ↦ n ]) same in
    omega (arith, all, lt, h)

-- a cell that stands where the layout says holds the low bits of its element's value
pub shown : (env : Env) (s : Setting) (values : List (List ℤ)) (store : List ℕ) (c object element : ℕ) (cell : Cell) (o : Object)
    → map object_of s.objects ≡ objects_from env s.model 0 env.objects → ObjectsFit env.objects → Shows s values store → IsStanding s c cell object element
    → slice_get env.objects object ≡ Some o → IsTold s.model values store c cell object element o
shown env s values store c object element cell o typed fit shows stands known =
    let like = alike env s.model 0 s.objects env.objects typed object stands.told o stands.known known in
    let r = shows object stands.first element stands.told stands.known stands.begins stands.within in
    let within : element < max (length_of o.length) 1 = subst (λ (n : ℕ). element < max n 1) like.1 stands.within in
    record {
      there = sized o.length o element refl (fit-at env.objects object o fit known) within;
      wide = stands.wide ∙ ap (λ (k : Kind). width_of k s.model) like.0;
      low = ap (slice_index store) stands.place ∙ r.0 ∙ ap (λ (k : Kind). residue (width_of k s.model) (value_at values object element)) like.0;
      in_range = subst (λ (k : Kind). InRange k s.model (value_at values object element)) like.0 r.1;
    }
