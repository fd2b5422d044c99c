-- Inputs that operations draw are such that the machine draws them too.
use Rattle.std.proofs.Common.{◌≡◌, ℕ, zero, suc, ◌-◌, ◌<◌, ◌^◌, Bool, true, false, if◌then◌else◌, List, [], ◌∷◌, ◌++◌, length, refl, sym, ap, ◌∙◌, subst, arith, drop, Option, None, Some, slice_get, slice_set, slice_index, ℤ, pos, negsuc, ◌≤ℤ◌}
use Rattle.std.proofs.lemmas.Bool.{ltb-true}
use Rattle.std.proofs.lemmas.Int.{ints}
use Rattle.std.proofs.lemmas.Option.{none-some}
use Rattle.lv_base.specs.declared.kind.Kind.{Kind}
use Rattle.lv_base.specs.declared.kind.Model.{Model}
use Rattle.lv_base.specs.Integers.{InRange, width_of, is_signed, least_of, greatest_of}
use Rattle.bv_term.specs.WellFormed.{Table}
use Rattle.c_graph.specs.declared.graph.Operation.{Operation}
use Rattle.c_graph.specs.declared.graph.Operation.TheVariants.{Assume, Set, SetAt, Draw}
use Rattle.c_graph.specs.Steps.{moment, modulo, in_range_of, operated_all}
use Rattle.c_run.specs.Run.{State, Got, Value, Stop, BadInput, after, give, choose, drawn, draw, draw_all, with_taken}
use Rattle.code_moves.specs.Deeds.{Deed, Sets, SetsAt, Draws, AreDeeds}
use Rattle.typed_range_laws.proofs.Ranging.{in_range_test}

-- ---- Ranges

least_is : (kind : Kind) (model : Model) (b : Bool) → is_signed kind ≡ b → least_of kind model ≡ (if b then negsuc (2 ^ (width_of kind model - 1) - 1) else pos 0)
least_is kind model b e = ap (λ (c : Bool). if c then negsuc (2 ^ (width_of kind model - 1) - 1) else pos 0) e

greatest_is : (kind : Kind) (model : Model) (b : Bool) → is_signed kind ≡ b → greatest_of kind model ≡ (if b then pos (2 ^ (width_of kind model - 1) - 1) else pos (2 ^ width_of kind model - 1))
greatest_is kind model b e = ap (λ (c : Bool). if c then pos (2 ^ (width_of kind model - 1) - 1) else pos (2 ^ width_of kind model - 1)) e

-- a value that a draw of a kind's width takes is one of the kind
draw_in : (kind : Kind) (model : Model) (v : ℤ) → in_range_of (width_of kind model) (is_signed kind) v ≡ true → InRange kind model v
draw_in kind model v h = go (is_signed kind) refl v h
  where
    between : (b : Bool) (v : ℤ) → is_signed kind ≡ b → (if b then negsuc (2 ^ (width_of kind model - 1) - 1) else pos 0) ≤ℤ v → v ≤ℤ (if b then pos (2 ^ (width_of kind model - 1) - 1) else pos (2 ^ width_of kind model - 1)) → InRange kind model v
    between b v e low high = (subst (λ (z : ℤ). z ≤ℤ v) (sym (least_is kind model b e)) low, subst (λ (z : ℤ). v ≤ℤ z) (sym (greatest_is kind model b e)) high)

    go : (b : Bool) → is_signed kind ≡ b → (v : ℤ) → in_range_of (width_of kind model) (is_signed kind) v ≡ true → InRange kind model v
    go true e (pos n) h =
        let lt : n < 2 ^ (width_of kind model - 1) = ltb-true n (2 ^ (width_of kind model - 1)) (ap (λ (b : Bool). in_range_of (width_of kind model) b (pos n)) (sym e) ∙ h) in
        between true (pos n) e (omega (arith, ints, lt)) (omega (arith, ints, lt))
    go true e (negsuc n) h =
        let lt : n < 2 ^ (width_of kind model - 1) = ltb-true n (2 ^ (width_of kind model - 1)) (ap (λ (b : Bool). in_range_of (width_of kind model) b (negsuc n)) (sym e) ∙ h) in
        between true (negsuc n) e (omega (arith, ints, lt)) (omega (arith, ints, lt))
    go false e (pos n) h =
        let lt : n < 2 ^ width_of kind model = ltb-true n (2 ^ width_of kind model) (ap (λ (b : Bool). in_range_of (width_of kind model) b (pos n)) (sym e) ∙ h) in
        between false (pos n) e (omega (arith, ints, lt)) (omega (arith, ints, lt))
    go false e (negsuc n) h = let bad : false ≡ true = ap (λ (b : Bool). in_range_of (width_of kind model) b (negsuc n)) (sym e) ∙ h in absurd cc

-- ---- Lists

-- the next of what is left
draw-next : (inputs : List ℤ) (t : ℕ) (z : ℤ) (rest : List ℤ) → drop t inputs ≡ z ∷ rest → (slice_get inputs t ≡ Some z) × (drop (suc t) inputs ≡ rest)
draw-next [] zero z rest e = absurd cc
draw-next [] (suc t) z rest e = absurd cc
draw-next (x ∷ xs) zero z rest e = let p : x ≡ z = cc in let q : xs ≡ rest = cc in (ap (λ (y : ℤ). Some y) p, q)
draw-next (x ∷ xs) (suc t) z rest e = draw-next xs t z rest e

module _ (k : Kind) (model : Model) where
  -- the first so many are of the kind
  abbrev pub FirstIn : ℕ → List ℤ → Type 0
  FirstIn zero zs = Unit {0}
  FirstIn (suc n) [] = ⊥
  FirstIn (suc n) (z ∷ zs) = InRange k model z × FirstIn n zs

  -- ---- The machine

  drawn-value : (v : ℤ) (st : State) → InRange k model v → drawn k model (Some v) st ≡ Value v (with_taken st (suc st.taken))
  drawn-value v st h = ap (λ (b : Bool). choose b (Value v (with_taken st (suc (st.taken)))) (Stop (BadInput st.taken))) (in_range_test k model v h)

  pub draw-value : (inputs : List ℤ) (st : State) (v : ℤ) (rest : List ℤ) → drop st.taken inputs ≡ v ∷ rest → InRange k model v → draw inputs model k st ≡ Value v (with_taken st (suc st.taken))
  draw-value inputs st v rest e h = ap (λ (o : Option ℤ). drawn k model o st) (draw-next inputs st.taken v rest e).0 ∙ drawn-value v st h

  pub draw-values : (n : ℕ) (inputs : List ℤ) (st : State) (ins more : List ℤ) → drop st.taken inputs ≡ ins ++ more → FirstIn n ins → (vs : List ℤ) × (s : State) × (draw_all inputs model k n st ≡ Value vs s)
  draw-values zero inputs st ins more e h = ([], st, refl)
  draw-values (suc n) inputs st [] more e h = absurd h
  draw-values (suc n) inputs st (z ∷ zs) more e h =
      let next = draw-next inputs st.taken z (zs ++ more) e in
      let (vs, s, all) = draw-values n inputs (with_taken st (suc st.taken)) zs more next.1 h.1 in (
        z ∷ vs,
        s,
        ap (λ (got : Got ℤ). after got (λ v st1. after (draw_all inputs model k n st1) (λ ws. give (v ∷ ws)))) (draw-value inputs st z (zs ++ more) e h.0)
            ∙ ap (λ (got : Got (List ℤ)). after got (λ ws. give (z ∷ ws))) all,
      )

  -- ---- Operations

  -- the first so many are draws of the kind's values
  abbrev pub FirstDraw : List ℕ → ℕ → List Deed → Type 0
  FirstDraw cells zero ds = Unit {0}
  FirstDraw cells (suc n) [] = ⊥
  FirstDraw cells (suc n) (Draws c signed ∷ ds) = (slice_index cells c ≡ width_of k model) × (signed ≡ is_signed k) × FirstDraw cells n ds
  FirstDraw cells (suc n) (Sets c f ∷ ds) = ⊥
  FirstDraw cells (suc n) (SetsAt c m i f ∷ ds) = ⊥

  pub draw-more : (cells : List ℕ) (n : ℕ) (ds : List Deed) (c : ℕ) → length ds ≡ n → slice_index cells c ≡ width_of k model → FirstDraw cells n ds → FirstDraw cells (suc n) (ds ++ Draws c (is_signed k) ∷ [])
  draw-more cells zero [] c e wide h = (wide, refl, tt)
  draw-more cells zero (d ∷ ds) c e wide h = absurd (omega (arith, e))
  draw-more cells (suc n) [] c e wide h = absurd h
  draw-more cells (suc n) (Draws b signed ∷ ds) c e wide h = (h.0, h.1, draw-more cells n ds c (omega (arith, e)) wide h.2)
  draw-more cells (suc n) (Sets b f ∷ ds) c e wide h = absurd h
  draw-more cells (suc n) (SetsAt b m i f ∷ ds) c e wide h = absurd h

  none-on : (table : Table) (ops : List Operation) → operated_all table ops None ≡ None
  none-on table [] = refl
  none-on table (op ∷ ops) = refl

  pub first-drawn : (table : Table) (n : ℕ) (ops : List Operation) (ds : List Deed) (store : List ℕ) (ins : List ℤ) (after : List ℕ) → AreDeeds table ops ds → FirstDraw table.cells n ds
      → operated_all table ops (Some (moment store ins)) ≡ Some (moment after []) → FirstIn n ins
  first-drawn table zero ops ds store ins after deeds first leads = tt
  first-drawn table (suc n) ops [] store ins after deeds first leads = absurd first
  first-drawn table (suc n) [] (d ∷ ds) store ins after deeds first leads = absurd deeds
  first-drawn table (suc n) (op ∷ ops) (Sets c f ∷ ds) store ins after deeds first leads = absurd first
  first-drawn table (suc n) (op ∷ ops) (SetsAt c m i f ∷ ds) store ins after deeds first leads = absurd first
  first-drawn table (suc n) (Assume t ∷ ops) (Draws c signed ∷ ds) store ins after deeds first leads = absurd deeds.0
  first-drawn table (suc n) (Set d t ∷ ops) (Draws c signed ∷ ds) store ins after deeds first leads = absurd deeds.0
  first-drawn table (suc n) (SetAt d m i t ∷ ops) (Draws c signed ∷ ds) store ins after deeds first leads = absurd deeds.0
  first-drawn table (suc n) (Draw d kept ∷ ops) (Draws c signed ∷ ds) store [] after deeds first leads = absurd (none-some (moment after []) (sym (none-on table ops) ∙ leads))
  first-drawn table (suc n) (Draw d kept ∷ ops) (Draws c signed ∷ ds) store (z ∷ zs) after deeds first leads =
      by (in_range_of (slice_index table.cells d) kept z) refl (λ on. first-drawn table n ops ds (slice_set store d (modulo (slice_index table.cells d) z)) zs after deeds.1 first.2 on)
    where
      wide : slice_index table.cells d ≡ width_of k model
      wide = ap (slice_index table.cells) (deeds.0).0 ∙ first.0

      signs : kept ≡ is_signed k
      signs = (deeds.0).1 ∙ first.1

      by : (b : Bool) → in_range_of (slice_index table.cells d) kept z ≡ b
          → (operated_all table ops (Some (moment (slice_set store d (modulo (slice_index table.cells d) z)) zs)) ≡ Some (moment after []) → FirstIn n zs) → FirstIn (suc n) (z ∷ zs)
      by true e rest =
          let same : in_range_of (width_of k model) (is_signed k) z ≡ true = ap (λ (w : ℕ). in_range_of w (is_signed k) z) (sym wide) ∙ ap (λ (s : Bool). in_range_of (slice_index table.cells d) s z) (sym signs) ∙ e in
          let on : operated_all table ops (Some (moment (slice_set store d (modulo (slice_index table.cells d) z)) zs)) ≡ Some (moment after []) =
          ap (λ (b : Bool). operated_all table ops (if b then Some (moment (slice_set store d (modulo (slice_index table.cells d) z)) zs) else None)) (sym e) ∙ leads in
          (draw_in k model z same, rest on)
      by false e rest =
          absurd (none-some (moment after []) (sym (none-on table ops)
          ∙ ap (λ (b : Bool). operated_all table ops (if b then Some (moment (slice_set store d (modulo (slice_index table.cells d) z)) zs) else None)) (sym e) ∙ leads))
