-- Each object is as long as each of its declarations says, and has room for its initial value.
use Rattle.std.proofs.Common.{◌≡◌, ◌⊎◌, inl, inr, ℕ, zero, suc, ◌<◌, Bool, true, false, ◌&&◌, ◌||◌, not, if◌then◌else◌, List, [], ◌∷◌, ◌++◌, length, map, Option, None, Some, bytes_eq, refl, sym, ap, ◌∙◌, subst, arith}
use Rattle.std.specs.Prelude.{slice_get, find, nat_eq}
use Rattle.std.specs.List.{list_any}
use Rattle.std.proofs.lemmas.Bool.{eqb-true, lt-ltb}
use Rattle.std.proofs.lemmas.Slice.Eq.{bytes_eq-Decides}
use Rattle.c_run.specs.Breaking.{line}
use Rattle.c_tree.specs.Tree as t
use Rattle.c_meaning.specs.Scope as s
use Rattle.c_meaning.specs.Bindings.{Env, Entry, Object, Entity, anObjectOf, aFunctionOf, aConstantOf, aTypeOf, aTagOf, aNameOf, nothingOf, entity_of_entry}
use Rattle.c_meaning.specs.Constants as c
use Rattle.c_meaning.specs.Rules as rules
use Rattle.c_types.specs.Fit.{LengthFits}
use Rattle.elaboration_offset_laws.proofs.Naming.{is_object, AreNamed}
use Rattle.elaboration_offset_laws.proofs.Logic.{nil_left, nil_right, line_holds, and_left, and_right}
use Rattle.elaboration_offset_laws.proofs.Lying.{Known, Sized, Begun, Distinct, AllLie, Room}
use Rattle.elaboration_offset_laws.proofs.Growing.{AllNumbered, step_of, next_numbered, Grown, grown, fetched_next, if_false}
use Rattle.elaboration_offset_laws.proofs.Agreeing.{constant_of_same}
use Rattle.elaboration_offset_laws.proofs.Lengths.{Beyond, same_of, length_positive, AllBehind, behind_of, beyond_of}

-- ---- Lists

pub fetched_some : {A : Type 0} (xs ys : List A) (n : ℕ) (x : A) → slice_get xs n ≡ Some x → slice_get (xs ++ ys) n ≡ Some x
fetched_some [] ys zero x h = cc
fetched_some [] ys (suc n) x h = cc
fetched_some (z ∷ xs) ys zero x h = h
fetched_some (z ∷ xs) ys (suc n) x h = fetched_some xs ys n x h

abbrev pub Among : Entry → List Entry → Type 0
Among y [] = ⊥
Among y (x ∷ xs) = (x ≡ y) ⊎ Among y xs

or_left : (a b : Bool) → a || b ≡ false → a ≡ false
or_left true b h = cc
or_left false b h = refl

or_right : (a b : Bool) → a || b ≡ false → b ≡ false
or_right true b h = cc
or_right false b h = h

pub any_clear : (p : Entry → Bool) (xs : List Entry) → list_any p xs ≡ false → (y : Entry) → Among y xs → p y ≡ false
any_clear p [] h y m = absurd m
any_clear p (x ∷ xs) h y (inl q) = subst (λ z. p z ≡ false) q (or_left (p x) _ h)
any_clear p (x ∷ xs) h y (inr m) = any_clear p xs (or_right (p x) _ h) y m

pub record FoundOne (p : Entry → Bool) (es : List Entry) (y : Entry) : Type 0 where
  pub there : Among y es
  pub passes : p y ≡ true

abbrev pub FoundIn : (Entry → Bool) → List Entry → Option Entry → Type 0
FoundIn p es None = Unit {0}
FoundIn p es (Some y) = FoundOne p es y

found_later : (p : Entry → Bool) (e : Entry) (es : List Entry) (o : Option Entry) → FoundIn p es o → FoundIn p (e ∷ es) o
found_later p e es None h = tt
found_later p e es (Some y) h = record { there = inr h.there; passes = h.passes }

found_by : (p : Entry → Bool) (e : Entry) (es : List Entry) (b : Bool) → p e ≡ b → FoundIn p es (find p es) → FoundIn p (e ∷ es) (if b then Some e else find p es)
found_by p e es true k h = record { there = inl refl; passes = k }
found_by p e es false k h = found_later p e es (find p es) h

pub found_in : (p : Entry → Bool) (es : List Entry) → FoundIn p es (find p es)
found_in p [] = tt
found_in p (e ∷ es) = found_by p e es (p e) refl (found_in p es)

-- ---- Kept

module _ (f : Known) where
  abbrev pub Kept : List Object → s.What → Entity → Type 0
  Kept objects (s.anObject ws g i) x =
      (n : ℕ) × (o : Object) × (x ≡ anObjectOf n) × (slice_get objects n ≡ Some o) × (o.length ≡ c.object_length f.env f.model g i) × LengthFits o.length × Begun f (s.anObject ws g i)
  Kept objects w x = Unit {0}

  abbrev pub AllKept : List Object → List Entry → Type 0
  AllKept objects [] = Unit {0}
  AllKept objects (e ∷ es) = Kept objects e.declared.what e.entity × AllKept objects es

  kept_more : (objects more : List Object) (w : s.What) (x : Entity) → Kept objects w x → Kept (objects ++ more) w x
  kept_more objects more (s.anObject ws g i) x h = (h.0, h.1, h.2, fetched_some objects more h.0 h.1 h.3, h.4, h.5, h.6)
  kept_more objects more (s.aParameter ws) x h = tt
  kept_more objects more (s.aFunction ws ps b) x h = tt
  kept_more objects more (s.aTypedef ws) x h = tt
  kept_more objects more (s.anEnumerator es) x h = tt
  kept_more objects more (s.aTag es) x h = tt
  kept_more objects more (s.aName ws) x h = tt

  all_kept_more : (objects more : List Object) (es : List Entry) → AllKept objects es → AllKept (objects ++ more) es
  all_kept_more objects more [] h = tt
  all_kept_more objects more (e ∷ es) h = (kept_more objects more e.declared.what e.entity h.0, all_kept_more objects more es h.1)

  all_kept_and : (objects : List Object) (es : List Entry) (e : Entry) → AllKept objects es → Kept objects e.declared.what e.entity → AllKept objects (es ++ e ∷ [])
  all_kept_and objects [] e h k = (k, tt)
  all_kept_and objects (x ∷ es) e h k = (h.0, all_kept_and objects es e h.1 k)

  kept_among : (objects : List Object) (y : Entry) (es : List Entry) → Among y es → AllKept objects es → Kept objects y.declared.what y.entity
  kept_among objects y [] m h = absurd m
  kept_among objects y (x ∷ es) (inl q) h = subst (λ e. Kept objects e.declared.what e.entity) q h.0
  kept_among objects y (x ∷ es) (inr m) h = kept_among objects y es m h.1

  -- ---- Two declarations of one object

  equal_lengths : (n m : ℕ) (a b d : Bool) → nat_eq n m ≡ a → nat_eq n 0 ≡ b → nat_eq m 0 ≡ d → a || (b || d) ≡ true → 0 < n → 0 < m → n ≡ m
  equal_lengths n m true b d x y z h k l = eqb-true n m x
  equal_lengths n m false true d x y z h k l = let e = eqb-true n 0 y in absurd (omega (arith, e, k))
  equal_lengths n m false false true x y z h k l = let e = eqb-true m 0 z in absurd (omega (arith, e, l))
  equal_lengths n m false false false x y z h k l = cc

  lengths_same : (l m : Option ℕ) → rules.same_length f.env f.model f.bodies l m ≡ true → LengthFits l → LengthFits m → l ≡ m
  lengths_same None None h p q = refl
  lengths_same None (Some m) h p q = cc
  lengths_same (Some n) None h p q = cc
  lengths_same (Some n) (Some m) h p q = ap Some (equal_lengths n m (nat_eq n m) (nat_eq n 0) (nat_eq m 0) refl refl refl h p q)

  same_by : (objects : List Object) (w : s.What) (x : Entity) (n : ℕ) (ws : t.Words) (g : t.Form) (i : t.Initial) → x ≡ anObjectOf n → Kept objects w x → rules.agrees f.env f.model f.bodies w (s.anObject ws g i) ≡ true →
      LengthFits (c.object_length f.env f.model g i) → Begun f (s.anObject ws g i) → Kept objects (s.anObject ws g i) (anObjectOf n)
  same_by objects (s.anObject vs h j) x n ws g i e k a l b =
      let own : LengthFits (c.object_length f.env f.model h j) = subst LengthFits k.4 k.5 in
      let same = lengths_same (c.object_length f.env f.model h j) (c.object_length f.env f.model g i) (and_left _ _ (and_right (rules.is_same_kind _ _) _ a)) own l in
      (k.0, k.1, sym e ∙ k.2, k.3, k.4 ∙ same, k.5, b)
  same_by objects (s.aParameter vs) x n ws g i e k a l b = cc
  same_by objects (s.aFunction vs ps y) x n ws g i e k a l b = cc
  same_by objects (s.aTypedef vs) x n ws g i e k a l b = cc
  same_by objects (s.anEnumerator es) x n ws g i e k a l b = cc
  same_by objects (s.aTag es) x n ws g i e k a l b = cc
  same_by objects (s.aName vs) x n ws g i e k a l b = cc

  pub agreed : (m q a : Bool) → m ≡ true → m && not (q && a) ≡ false → a ≡ true
  agreed true true true h k = refl
  agreed true true false h k = cc
  agreed true false a h k = cc
  agreed false q a h k = cc

  pub both_true : (a b : Bool) → a ≡ true → b ≡ true → a && b ≡ true
  both_true true b h k = k
  both_true false b h k = cc

  pub file_same : (a b : s.Scope) → s.is_file a ≡ true → s.is_file b ≡ true → s.is_same a b ≡ true
  file_same s.file s.file h k = refl
  file_same s.file (s.block x y) h k = cc
  file_same (s.block x y) b h k = cc

  meet : (d : s.Declared) (y : Entry) → s.is_tag d.what ≡ false → s.is_file d.scope ≡ true → 0 < length d.name → s.is_file y.declared.scope && (not (s.is_tag y.declared.what) && bytes_eq y.declared.name d.name) ≡ true →
      rules.meets f.env f.model f.bodies d y.declared ≡ true
  meet d y g q n h =
      let rest = and_right (s.is_file y.declared.scope) _ h in
      let same = (bytes_eq-Decides y.declared.name d.name).0 (and_right (not (s.is_tag y.declared.what)) _ rest) in
      both_true _ _ (if_false (s.is_tag d.what) (s.is_tag y.declared.what) (not (s.is_tag y.declared.what)) g ∙ and_left (not (s.is_tag y.declared.what)) _ rest)
      (both_true _ _ (file_same d.scope y.declared.scope q (and_left (s.is_file y.declared.scope) _ h))
      (both_true _ _ ((bytes_eq-Decides d.name y.declared.name).1 (sym same)) (lt-ltb 0 (length d.name) n)))

  move : (x y : Entry) (xs before : List Entry) → Among y (x ∷ xs) ⊎ Among y before → Among y xs ⊎ Among y (x ∷ before)
  move x y xs before (inl (inl q)) = inr (inl q)
  move x y xs before (inl (inr m)) = inl m
  move x y xs before (inr m) = inr (inr m)

  pub clear_of : (before xs : List Entry) (e : Entry) (rest : List Entry) → rules.redeclared f.env f.model f.bodies before (xs ++ e ∷ rest) ≡ [] → (y : Entry) → Among y xs ⊎ Among y before → rules.clashes f.env f.model f.bodies e.declared y ≡ false
  clear_of before [] e rest h y (inl m) = absurd m
  clear_of before [] e rest h y (inr m) =
      any_clear (rules.clashes f.env f.model f.bodies e.declared) before (line_holds _ _ _ (nil_left (line (list_any (rules.clashes f.env f.model f.bodies e.declared) before) _ _) _ (nil_left _ _ h))) y m
  clear_of before (x ∷ xs) e rest h y m = clear_of (x ∷ before) xs e rest (nil_right _ _ h) y (move x y xs before m)

  -- ---- One more declaration

  positive_last : (at from : ℕ) (ws : t.Words) (g : t.Form) (i : t.Initial) → Sized f at from (s.anObject ws g i) → LengthFits (c.object_length f.env f.model g i)
  positive_last at from ws t.fPlain i z = tt
  positive_last at from ws (t.fArray x None y) i z = omega (arith, z)
  positive_last at from ws (t.fArray x (Some e) y) i z = length_positive f e z.0
  positive_last at from ws (t.fFunction ps) i z = tt

  module _ (right : rules.redeclared f.env f.model f.bodies [] f.env.entries ≡ []) (env : Env) (d : s.Declared) (ds : List s.Declared) (g : Grown env (d ∷ ds) f.env) (k : AllNumbered (length env.objects) env.entries)
      (kept : AllKept env.objects env.entries) where
    length_last : (ws : t.Words) (h : t.Form) (i : t.Initial) → Sized f d.at d.from (s.anObject ws h i) → AllBehind (s.anObject ws h i) d.from ds → c.object_length env f.model h i ≡ c.object_length f.env f.model h i
    length_last ws t.fPlain i z b = refl
    length_last ws (t.fArray x None y) i z b = refl
    length_last ws (t.fArray x (Some e) y) i z b =
        let own : Beyond (suc x) y d = record { from = omega (arith, z.3); away = (λ at l r q. omega (arith, z.2, l, q)) } in
        let same = same_of env f.env (d ∷ ds) (suc x) y g k (own, beyond_of ws (t.fArray x (Some e) y) i (suc x) y d.from ds (omega (arith, z.3)) b) in
        ap (λ v. Some (c.length_from v)) (constant_of_same env f.env f.model (suc x) y same e (suc x) y (omega arith) (omega arith) z.1)
    length_last ws (t.fFunction ps) i z b = refl

    clear_by : (new : List Entry) → map (λ e. e.declared) new ≡ d ∷ ds → f.env.entries ≡ env.entries ++ new → (y : Entry) → Among y env.entries → rules.clashes f.env f.model f.bodies d y ≡ false
    clear_by [] q e y m = cc
    clear_by (x ∷ new) q e y m =
        let same : x.declared ≡ d = cc in
        subst (λ z. rules.clashes f.env f.model f.bodies z y ≡ false) same (clear_of [] env.entries x new (subst (λ es. rules.redeclared f.env f.model f.bodies [] es ≡ []) e right) y (inl m))

    placed_new : (o : Object) → Kept (env.objects ++ o ∷ []) d.what (anObjectOf (length env.objects)) → AllKept (c.new_object env d o).objects (c.new_object env d o).entries
    placed_new o h = all_kept_and (env.objects ++ o ∷ []) env.entries _ (all_kept_more env.objects (o ∷ []) env.entries kept) h

    placed_old : (x : Entity) → Kept env.objects d.what x → AllKept (c.entered env d x).objects (c.entered env d x).entries
    placed_old x h = all_kept_and env.objects env.entries _ kept h

    object_by : (o : Object) (n : ℕ) (b : Bool) → (b ≡ true → Kept env.objects d.what (anObjectOf n)) → Kept (env.objects ++ o ∷ []) d.what (anObjectOf (length env.objects)) →
        AllKept (if b then c.entered env d (anObjectOf n) else c.new_object env d o).objects (if b then c.entered env d (anObjectOf n) else c.new_object env d o).entries
    object_by o n true h l = placed_old (anObjectOf n) (h refl)
    object_by o n false h l = placed_new o l

    object_kept : (o : Object) (x : Entity) → ((n : ℕ) → x ≡ anObjectOf n → s.is_file d.scope ≡ true → Kept env.objects d.what (anObjectOf n)) → Kept (env.objects ++ o ∷ []) d.what (anObjectOf (length env.objects)) →
        AllKept (c.object_or_same env d o x).objects (c.object_or_same env d o x).entries
    object_kept o (anObjectOf n) h l = object_by o n (s.is_file d.scope) (h n refl) l
    object_kept o (aFunctionOf r ps) h l = placed_new o l
    object_kept o (aConstantOf v) h l = placed_new o l
    object_kept o (aTypeOf x y) h l = placed_new o l
    object_kept o (aTagOf x) h l = placed_new o l
    object_kept o (aNameOf x y) h l = placed_new o l
    object_kept o nothingOf h l = placed_new o l

    module _ (named : is_object d.what ≡ true → s.is_file d.scope ≡ true → 0 < length d.name) (z : Sized f d.at d.from d.what) (b : Begun f d.what) (behind : AllBehind d.what d.from ds) where
      found_kept : (ws : t.Words) (h : t.Form) (i : t.Initial) → d.what ≡ s.anObject ws h i →
          (o : Option Entry) → FoundIn (λ e. s.is_file e.declared.scope && (not (s.is_tag e.declared.what) && bytes_eq e.declared.name d.name)) env.entries o →
          (n : ℕ) → entity_of_entry o ≡ anObjectOf n → s.is_file d.scope ≡ true → Kept env.objects d.what (anObjectOf n)
      found_kept ws h i e None m n q file = cc
      found_kept ws h i e (Some y) m n q file =
          let clear = clear_by g.new g.declares g.entries y m.there in
          let agree = agreed _ (s.is_file d.scope) _ (meet d y (ap s.is_tag e) file (named (ap is_object e) file) m.passes) clear in
          subst (λ w. Kept env.objects w (anObjectOf n)) (sym e)
          (same_by env.objects y.declared.what y.entity n ws h i q (kept_among env.objects y env.entries m.there kept) (subst (λ w. rules.agrees f.env f.model f.bodies y.declared.what w ≡ true) e agree)
          (positive_last d.at d.from ws h i (subst (Sized f d.at d.from) e z)) (subst (Begun f) e b))

      new_kept : (ws : t.Words) (h : t.Form) (i : t.Initial) (o : Object) → d.what ≡ s.anObject ws h i → o.length ≡ c.object_length env f.model h i → Kept (env.objects ++ o ∷ []) d.what (anObjectOf (length env.objects))
      new_kept ws h i o e l =
          let sized = subst (Sized f d.at d.from) e z in
          let same = l ∙ length_last ws h i sized (subst (λ w. AllBehind w d.from ds) e behind) in
          subst (λ w. Kept (env.objects ++ o ∷ []) w (anObjectOf (length env.objects))) (sym e)
          (length env.objects, o, refl, fetched_next env.objects o [], same, subst LengthFits (sym same) (positive_last d.at d.from ws h i sized), subst (Begun f) e b)

      other : (objects : List Object) (x : Entity) (w : s.What) → d.what ≡ w → Kept objects w x → Kept objects d.what x
      other objects x w e h = subst (λ v. Kept objects v x) (sym e) h

      kept_next : (w : s.What) → d.what ≡ w → AllKept (c.declare f.model env d w).objects (c.declare f.model env d w).entries
      kept_next (s.anObject ws h i) e = object_kept _ (c.earlier_in_file env d.name) (found_kept ws h i e _ (found_in _ env.entries)) (new_kept ws h i _ e refl)
      kept_next (s.aParameter ws) e = placed_new _ (other _ _ (s.aParameter ws) e tt)
      kept_next (s.aFunction ws ps y) e = placed_old _ (other _ _ (s.aFunction ws ps y) e tt)
      kept_next (s.aTypedef ws) e = placed_old _ (other _ _ (s.aTypedef ws) e tt)
      kept_next (s.anEnumerator es) e = placed_old _ (other _ _ (s.anEnumerator es) e tt)
      kept_next (s.aTag es) e = placed_old _ (other _ _ (s.aTag es) e tt)
      kept_next (s.aName ws) e = placed_old _ (other _ _ (s.aName ws) e tt)

  pub all_kept : rules.redeclared f.env f.model f.bodies [] f.env.entries ≡ [] → (p : Room) (q : Bool) (lo hi : ℕ) (env : Env) (ds : List s.Declared) → c.bind_from f.model env ds ≡ f.env → AllNumbered (length env.objects) env.entries →
      AllKept env.objects env.entries → AreNamed ds → AllLie f p q lo hi ds → Distinct ds → AllKept f.env.objects f.env.entries
  all_kept right p q lo hi env [] e k h n a b = subst (λ v. AllKept v.objects v.entries) e h
  all_kept right p q lo hi env (d ∷ ds) e k h n a b =
      let step = step_of f.model env d d.what k in
      let g = subst (Grown env (d ∷ ds)) e (grown f.model env (d ∷ ds) k) in
      all_kept right p q lo hi (c.declare f.model env d d.what) ds e (next_numbered f.model env d d.what _ step k)
      (kept_next right env d ds g k h n.0 a.0.sized a.0.begun (behind_of d ds b.0) d.what refl) n.1 a.1 b.1
