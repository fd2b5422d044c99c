-- Names in a function's body find their own declarations, and none of a prototype's parameters.
use Rattle.std.proofs.Common.{◌≡◌, ◌⊎◌, inl, inr, ℕ, suc, ◌≤◌, Bool, true, false, ◌&&◌, not, if◌then◌else◌, List, [], ◌∷◌, ◌++◌, length, map, append_assoc, Option, None, Some, refl, sym, ap, ◌∙◌, subst, arith}
use Rattle.std.specs.Prelude.{slice_get, find, nat_eq, nat_le, bytes_eq}
use Rattle.std.proofs.lemmas.Bool.{eq-eqb, lt-leb}
use Rattle.lv_base.specs.declared.kind.Model.{Model}
use Rattle.c_tree.specs.Tree as t
use Rattle.c_meaning.specs.Scope as s
use Rattle.c_meaning.specs.Bindings.{Env, Entry, Object, Entity, anObjectOf, aFunctionOf, aConstantOf, aTypeOf, aTagOf, aNameOf, nothingOf, entity_of, entity_of_entry, visible_in, is_visible, inner, declared_at}
use Rattle.c_meaning.specs.Constants as c
use Rattle.elaboration_fit_laws.specs.Laws.{IsNoName}
use Rattle.elaboration_offset_laws.proofs.Logic.{and_right}
use Rattle.elaboration_offset_laws.proofs.Lying.{Known, AllApart, Distinct, Room, nowhere, within, NameLies, AllLie}
use Rattle.elaboration_offset_laws.proofs.Growing.{AllFail, found_here, other_offset, NameTold, AllNumbered, OwnTold, IsNew, AllOf, length_as, Step, step_of, next_numbered, Grown, grown, fetched_next}

-- ---- A declaration is found at its own offset

pub record FoundAt (env : Env) (at : ℕ) (owner : Option ℕ) : Type 0 where
  pub number : ℕ
  pub told : Object
  pub declared : declared_at env at ≡ anObjectOf number
  pub there : slice_get env.objects number ≡ Some told
  pub owned : told.owner ≡ owner

abbrev pub FormLength : t.Form → Option ℕ → Type 0
FormLength t.fPlain l = l ≡ None
FormLength f l = Unit {0}

-- what is declared in a function is found, a scalar with one element
abbrev pub FoundAs : Env → ℕ → Option ℕ → s.What → Bool → Type 0
FoundAs env at owner (s.anObject ws f i) false = (r : FoundAt env at owner) × FormLength f r.told.length
FoundAs env at owner (s.aParameter ws) b = (r : FoundAt env at owner) × (r.told.length ≡ None)
FoundAs env at owner w b = Unit {0}

abbrev pub AllFound : Env → List s.Declared → Type 0
AllFound env [] = Unit {0}
AllFound env (d ∷ ds) = FoundAs env d.at d.owner d.what (s.is_file d.scope) × AllFound env ds

pub found_left : (env : Env) (xs ys : List s.Declared) → AllFound env (xs ++ ys) → AllFound env xs
found_left env [] ys h = tt
found_left env (x ∷ xs) ys h = (h.0, found_left env xs ys h.1)

pub found_right : (env : Env) (xs ys : List s.Declared) → AllFound env (xs ++ ys) → AllFound env ys
found_right env [] ys h = h
found_right env (x ∷ xs) ys h = found_right env xs ys h.1

-- entries stand before declarations
abbrev pub AllBefore : List Entry → List s.Declared → Type 0
AllBefore [] ds = Unit {0}
AllBefore (x ∷ xs) ds = AllApart x.declared ds × AllBefore xs ds

pub before_fail : (xs : List Entry) (d : s.Declared) (ds : List s.Declared) → AllBefore xs (d ∷ ds) → AllFail (λ e. nat_eq e.declared.at d.at && not (s.is_tag e.declared.what)) xs
before_fail [] d ds h = tt
before_fail (x ∷ xs) d ds h = (other_offset x d.at h.0.0.differs, before_fail xs d ds h.1)

pub before_next : (xs : List Entry) (e : Entry) (d : s.Declared) (ds : List s.Declared) → AllBefore xs (d ∷ ds) → AllApart e.declared ds → AllBefore (xs ++ e ∷ []) ds
before_next [] e d ds h k = (k, tt)
before_next (x ∷ xs) e d ds h k = (h.0.1, before_next xs e d ds h.1 k)

pub own_test : (at : ℕ) (w : s.What) → s.is_tag w ≡ false → nat_eq at at && not (s.is_tag w) ≡ true
own_test at w h = ap (λ b. b && not (s.is_tag w)) (eq-eqb at at refl) ∙ ap not h

module _ (model : Model) (env : Env) (d : s.Declared) (ds : List s.Declared) (next last : Env) where
  pub entry_found : (w : s.What) (step : Step model env d w next) (g : Grown next ds last) → s.is_tag d.what ≡ false → AllBefore env.entries (d ∷ ds) → declared_at last d.at ≡ step.entity
  entry_found w step g q b =
      let own : Entry = record { declared = d; entity = step.entity } in
      ap (λ es. entity_of_entry (find (λ e. nat_eq e.declared.at d.at && not (s.is_tag e.declared.what)) es)) (g.entries ∙ ap (λ xs. xs ++ g.new) step.entries ∙ append_assoc env.entries (own ∷ []) g.new)
      ∙ ap entity_of_entry (found_here (λ e. nat_eq e.declared.at d.at && not (s.is_tag e.declared.what)) env.entries own g.new (before_fail env.entries d ds b) (own_test d.at d.what q))

  found_new : (w : s.What) (step : Step model env d w next) (g : Grown next ds last) → s.is_tag d.what ≡ false → AllBefore env.entries (d ∷ ds) → IsNew (length env.objects) step.entity step.more →
      (r : FoundAt last d.at d.owner) × (r.told.length ≡ length_as model env w)
  found_new w step g q b n =
      let o = n.0 in
      let told = subst (AllOf (length_as model env w) d.owner) n.2 step.all in (
        record {
          number = length env.objects;
          told = o;
          declared = entry_found w step g q b ∙ n.1;
          there = ap (λ os. slice_get os (length env.objects)) (g.objects ∙ ap (λ xs. xs ++ g.more) (step.objects ∙ ap (λ xs. env.objects ++ xs) n.2) ∙ append_assoc env.objects (o ∷ []) g.more) ∙ fetched_next env.objects o g.more;
          owned = told.1;
        },
        told.0,
      )

  form_length : (ws : t.Words) (f : t.Form) (i : t.Initial) (l : Option ℕ) → l ≡ length_as model env (s.anObject ws f i) → FormLength f l
  form_length ws t.fPlain i l h = h
  form_length ws (t.fArray a e b) i l h = tt
  form_length ws (t.fFunction ps) i l h = tt

  found_as : (w : s.What) (b : Bool) → d.what ≡ w → s.is_file d.scope ≡ b → (step : Step model env d w next) → Grown next ds last → AllBefore env.entries (d ∷ ds) → FoundAs last d.at d.owner w b
  found_as (s.anObject ws f i) false e k step g h =
      let r = found_new (s.anObject ws f i) step g (ap s.is_tag e) h (subst (λ x. OwnTold (s.anObject ws f i) x (length env.objects) step.entity step.more) k step.own) in
      (r.0, form_length ws f i r.0.told.length r.1)
  found_as (s.anObject ws f i) true e k step g h = tt
  found_as (s.aParameter ws) b e k step g h = found_new (s.aParameter ws) step g (ap s.is_tag e) h step.own
  found_as (s.aFunction ws ps x) b e k step g h = tt
  found_as (s.aTypedef ws) b e k step g h = tt
  found_as (s.anEnumerator es) b e k step g h = tt
  found_as (s.aTag es) b e k step g h = tt
  found_as (s.aName ws) b e k step g h = tt

pub all_found : (model : Model) (env last : Env) (ds : List s.Declared) → c.bind_from model env ds ≡ last → AllNumbered (length env.objects) env.entries → AllBefore env.entries ds → Distinct ds → AllFound last ds
all_found model env last [] e k b h = tt
all_found model env last (d ∷ ds) e k b h =
    let step = step_of model env d d.what k in
    let next = c.declare model env d d.what in
    let numbered = next_numbered model env d d.what next step k in
    let g = subst (Grown next ds) e (grown model next ds numbered) in (
      found_as model env d ds next last d.what (s.is_file d.scope) refl refl step g b,
      all_found model next last ds e numbered (subst (λ xs. AllBefore xs ds) (sym step.entries) (before_next env.entries _ d ds b h.0)) h.1,
    )

-- ---- No name of a prototype's parameter

abbrev pub AllTold : List Entry → Type 0
AllTold [] = Unit {0}
AllTold (e ∷ es) = NameTold e.declared.what e.entity × AllTold es

told_more : (es : List Entry) (e : Entry) → AllTold es → NameTold e.declared.what e.entity → AllTold (es ++ e ∷ [])
told_more [] e h k = (k, tt)
told_more (x ∷ es) e h k = (h.0, told_more es e h.1 k)

pub all_told : (model : Model) (env : Env) (ds : List s.Declared) → AllNumbered (length env.objects) env.entries → AllTold env.entries → AllTold (c.bind_from model env ds).entries
all_told model env [] k h = h
all_told model env (d ∷ ds) k h =
    let step = step_of model env d d.what k in
    all_told model (c.declare model env d d.what) ds (next_numbered model env d d.what _ step k) (subst AllTold (sym step.entries) (told_more env.entries _ h step.name))

module _ (low high : ℕ) where
  -- the scope holds none of these offsets
  abbrev pub NameFree : s.What → s.Scope → Type 0
  NameFree (s.aName ws) scope = (at : ℕ) → low ≤ at → suc at ≤ high → s.holds scope at ≡ false
  NameFree w scope = Unit {0}

  abbrev pub AllFree : List s.Declared → Type 0
  AllFree [] = Unit {0}
  AllFree (d ∷ ds) = NameFree d.what d.scope × AllFree ds

  pub free_both : (xs ys : List s.Declared) → AllFree xs → AllFree ys → AllFree (xs ++ ys)
  free_both [] ys h k = k
  free_both (x ∷ xs) ys h k = (h.0, free_both xs ys h.1 k)

  and_no : (a b : Bool) → b ≡ false → a && b ≡ false
  and_no true b h = h
  and_no false b h = refl

  no_and : (a b : Bool) → a ≡ false → a && b ≡ false
  no_and true b h = cc
  no_and false b h = refl

  -- the room lies before or behind
  abbrev pub Away : Room → Type 0
  Away nowhere = Unit {0}
  Away (within a b) = (b ≤ low) ⊎ (high ≤ a)

  free_by : (room : Room) (w : s.What) (scope : s.Scope) → Away room → NameLies room w scope → NameFree w scope
  free_by (within a b) (s.aName ws) (s.block x y) (inl l) h = λ at p q. and_no (nat_le x at) _ (lt-leb at y (omega (arith, l, h.1, p)))
  free_by (within a b) (s.aName ws) (s.block x y) (inr l) h = λ at p q. no_and (nat_le x at) _ (lt-leb x at (omega (arith, l, h.0, q)))
  free_by (within a b) (s.aName ws) s.file l h = absurd h
  free_by nowhere (s.aName ws) scope l h = absurd h
  free_by room (s.anObject ws f i) scope l h = tt
  free_by room (s.aParameter ws) scope l h = tt
  free_by room (s.aFunction ws ps b) scope l h = tt
  free_by room (s.aTypedef ws) scope l h = tt
  free_by room (s.anEnumerator es) scope l h = tt
  free_by room (s.aTag es) scope l h = tt

  pub free_of : (f : Known) (p : Room) (q : Bool) (lo hi : ℕ) (ds : List s.Declared) → Away p → AllLie f p q lo hi ds → AllFree ds
  free_of f p q lo hi [] l h = tt
  free_of f p q lo hi (d ∷ ds) l h = (free_by p d.what d.scope l h.0.name, free_of f p q lo hi ds l h.1)

  -- ---- Look-ups

  entry_named : (w : s.What) (x : Entity) (scope : s.Scope) (at : ℕ) → low ≤ at → suc at ≤ high → NameTold w x → NameFree w scope → s.holds scope at ≡ true → IsNoName x
  entry_named (s.aName ws) (aNameOf k y) scope at p q h f v = absurd (differ (f at p q) v)
    where
      differ : {b : Bool} → b ≡ false → b ≡ true → ⊥
      differ {b} e g = cc
  entry_named (s.anObject ws f i) (aNameOf k y) scope at p q h g v = absurd h
  entry_named (s.aParameter ws) (aNameOf k y) scope at p q h g v = absurd h
  entry_named (s.aFunction ws ps b) (aNameOf k y) scope at p q h g v = absurd h
  entry_named (s.aTypedef ws) (aNameOf k y) scope at p q h g v = absurd h
  entry_named (s.anEnumerator es) (aNameOf k y) scope at p q h g v = absurd h
  entry_named (s.aTag es) (aNameOf k y) scope at p q h g v = absurd h
  entry_named w (anObjectOf n) scope at p q h g v = tt
  entry_named w (aFunctionOf r ps) scope at p q h g v = tt
  entry_named w (aConstantOf z) scope at p q h g v = tt
  entry_named w (aTypeOf y z) scope at p q h g v = tt
  entry_named w (aTagOf y) scope at p q h g v = tt
  entry_named w nothingOf scope at p q h g v = tt

  inner_named : (best : Option Entry) (e : Entry) → IsNoName (entity_of_entry best) → IsNoName e.entity → IsNoName (inner best e).entity
  inner_named None e h k = k
  inner_named (Some x) e h k = by_test (nat_le (s.begin_of x.declared.scope) (s.begin_of e.declared.scope))
    where
      by_test : (b : Bool) → IsNoName (if b then e else x).entity
      by_test true = k
      by_test false = h

  step_named : (v : Bool) (best : Option Entry) (e : Entry) → IsNoName (entity_of_entry best) → (v ≡ true → IsNoName e.entity) → IsNoName (entity_of_entry (if v then Some (inner best e) else best))
  step_named true best e h k = inner_named best e h (k refl)
  step_named false best e h k = h

  visible_named : (n : List ℕ) (at : ℕ) (best : Option Entry) (es : List Entry) → low ≤ at → suc at ≤ high → IsNoName (entity_of_entry best) → AllTold es → AllFree (map (λ e. e.declared) es) → IsNoName (entity_of_entry (visible_in false n at best es))
  visible_named n at best [] p q h a f = h
  visible_named n at best (e ∷ es) p q h a f =
      visible_named n at (if is_visible false n at e then Some (inner best e) else best) es p q
      (step_named (is_visible false n at e) best e h
      (λ v. entry_named e.declared.what e.entity e.declared.scope at p q a.0 f.0 (and_right (nat_le e.declared.from at) _ (and_right (bytes_eq e.declared.name n) _ (and_right (if s.is_tag e.declared.what then false else true) _ v))))) a.1 f.1

  pub no_names : (env : Env) → AllTold env.entries → AllFree (map (λ e. e.declared) env.entries) → (n : List ℕ) (at : ℕ) → low ≤ at → suc at ≤ high → IsNoName (entity_of env n at)
  no_names env a f n at p q = visible_named n at None env.entries p q tt a f

name_inner : (lo hi low high : ℕ) (w : s.What) (scope : s.Scope) → lo ≤ low → high ≤ hi → NameFree lo hi w scope → NameFree low high w scope
name_inner lo hi low high (s.aName ws) scope x y h = λ at p q. h at (omega (arith, x, p)) (omega (arith, y, q))
name_inner lo hi low high (s.anObject ws f i) scope x y h = tt
name_inner lo hi low high (s.aParameter ws) scope x y h = tt
name_inner lo hi low high (s.aFunction ws ps b) scope x y h = tt
name_inner lo hi low high (s.aTypedef ws) scope x y h = tt
name_inner lo hi low high (s.anEnumerator es) scope x y h = tt
name_inner lo hi low high (s.aTag es) scope x y h = tt

pub free_inner : (lo hi low high : ℕ) (ds : List s.Declared) → lo ≤ low → high ≤ hi → AllFree lo hi ds → AllFree low high ds
free_inner lo hi low high [] x y h = tt
free_inner lo hi low high (d ∷ ds) x y h = (name_inner lo hi low high d.what d.scope x y h.0, free_inner lo hi low high ds x y h.1)
