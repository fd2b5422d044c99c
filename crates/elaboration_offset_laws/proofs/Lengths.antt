-- Each array of a source that breaks no rule has elements.
use Rattle.std.proofs.Common.{◌≡◌, ℕ, suc, ◌≤◌, ◌<◌, Bool, true, false, ◌&&◌, ◌||◌, not, if◌then◌else◌, List, [], ◌∷◌, ◌++◌, length, map, Option, None, Some, ℤ, pos, negsuc, sym, ap, ◌∙◌, subst, arith}
use Rattle.std.proofs.lemmas.Bool.{leb-false, le-leb}
use Rattle.std.specs.Prelude.{min, slice_get, find, nat_eq, nat_le, int_le}
use Rattle.c_tree.specs.Tree as t
use Rattle.c_meaning.specs.Kinds.{is_kind}
use Rattle.c_meaning.specs.Types.{type_of}
use Rattle.c_meaning.specs.Scope as s
use Rattle.c_meaning.specs.Bindings.{Env, Entry, Object, Entity, anObjectOf, aFunctionOf, aConstantOf, aTypeOf, aTagOf, aNameOf, nothingOf, entity_of, entity_of_entry, visible_in, is_visible, inner}
use Rattle.c_meaning.specs.Constants as c
use Rattle.c_meaning.specs.Rules as rules
use Rattle.c_types.specs.Fit.{LengthFits, ObjectsFit}
use Rattle.elaboration_offset_laws.proofs.Logic.{nil_left, nil_right, line_holds, unless_lines}
use Rattle.elaboration_offset_laws.proofs.Lying.{Known, Sized, Behind, AllApart, Distinct, AllLie, Room}
use Rattle.elaboration_offset_laws.proofs.Growing.{AllFail, found_more, AllHidden, seen_more, other_offset, not_yet, Numbered, AllNumbered, AllOf, length_as, step_of, next_numbered, Grown, grown, fetched, if_true}
use Rattle.elaboration_offset_laws.proofs.Agreeing.{SameObject, Same, constant_of_same}

-- ---- What is declared behind these offsets doesn't matter there

pub record Beyond (low high : ℕ) (d : s.Declared) : Type 0 where
  pub from : high ≤ d.from
  pub away : (at : ℕ) → low ≤ at → suc at ≤ high → d.at ≡ at → ⊥

abbrev pub AllBeyond : ℕ → ℕ → List s.Declared → Type 0
AllBeyond low high [] = Unit {0}
AllBeyond low high (d ∷ ds) = Beyond low high d × AllBeyond low high ds

module _ (low high at : ℕ) (x : low ≤ at) (y : suc at ≤ high) where
  beyond_hidden : (tag : Bool) (name : List ℕ) (es : List Entry) → AllBeyond low high (map (λ e. e.declared) es) → AllHidden tag name at es
  beyond_hidden tag name [] h = tt
  beyond_hidden tag name (e ∷ es) h = (not_yet tag name e at (let l = h.0.from in omega (arith, y, l)), beyond_hidden tag name es h.1)

  beyond_fail : (es : List Entry) → AllBeyond low high (map (λ e. e.declared) es) → AllFail (λ e. nat_eq e.declared.at at && not (s.is_tag e.declared.what)) es
  beyond_fail [] h = tt
  beyond_fail (e ∷ es) h = (other_offset e at (h.0.away at x y), beyond_fail es h.1)

inner_numbered : (count : ℕ) (best : Option Entry) (e : Entry) → Numbered count (entity_of_entry best) → Numbered count e.entity → Numbered count (inner best e).entity
inner_numbered count None e h k = k
inner_numbered count (Some x) e h k = by_test (nat_le (s.begin_of x.declared.scope) (s.begin_of e.declared.scope))
  where
    by_test : (b : Bool) → Numbered count (if b then e else x).entity
    by_test true = k
    by_test false = h

step_numbered : (count : ℕ) (b : Bool) (best : Option Entry) (e : Entry) → Numbered count (entity_of_entry best) → Numbered count e.entity → Numbered count (entity_of_entry (if b then Some (inner best e) else best))
step_numbered count false best e h k = h
step_numbered count true best e h k = inner_numbered count best e h k

seen_numbered : (count : ℕ) (tag : Bool) (name : List ℕ) (at : ℕ) (best : Option Entry) (es : List Entry) → Numbered count (entity_of_entry best) → AllNumbered count es → Numbered count (entity_of_entry (visible_in tag name at best es))
seen_numbered count tag name at best [] h k = h
seen_numbered count tag name at best (e ∷ es) h k = seen_numbered count tag name at (if is_visible tag name at e then Some (inner best e) else best) es (step_numbered count (is_visible tag name at e) best e h k.0) k.1

same_numbered : (env other : Env) (more : List Object) (x : Entity) → other.objects ≡ env.objects ++ more → Numbered (length env.objects) x → SameObject env other x
same_numbered env other more (anObjectOf n) e h = sym (ap (λ os. slice_get os n) e ∙ fetched env.objects more n h)
same_numbered env other more (aFunctionOf r ps) e h = tt
same_numbered env other more (aConstantOf v) e h = tt
same_numbered env other more (aTypeOf x y) e h = tt
same_numbered env other more (aTagOf x) e h = tt
same_numbered env other more (aNameOf x y) e h = tt
same_numbered env other more nothingOf e h = tt

pub same_of : (env last : Env) (ds : List s.Declared) (low high : ℕ) → Grown env ds last → AllNumbered (length env.objects) env.entries → AllBeyond low high ds → Same env last low high
same_of env last ds low high g k b =
    let beyond = subst (AllBeyond low high) (sym g.declares) b in
    record {
      seen = (λ tag name at x y. sym (ap (visible_in tag name at None) g.entries ∙ seen_more tag name at None env.entries g.new (beyond_hidden low high at x y tag name g.new beyond)));
      found = (λ at x y. sym (ap (λ es. entity_of_entry (find (λ e. nat_eq e.declared.at at && not (s.is_tag e.declared.what)) es)) g.entries ∙ ap entity_of_entry (found_more _ env.entries g.new (beyond_fail low high at x y g.new beyond))));
      objects = (λ name at x y. same_numbered env last g.more (entity_of env name at) g.objects (seen_numbered (length env.objects) false name at None env.entries tt k));
    }

-- ---- A length that breaks no rule

positive : (v : ℤ) → int_le v (pos 0) ≡ false → 0 < c.length_from (Some v)
positive (pos n) h =
    let l : 0 < n = leb-false n 0 h in
    let m : 0 < min n 18446744073709551615 = omega (arith, l) in
    subst (λ k. 0 < k) (sym (if_true (int_le (pos 1) (pos n)) (min n 18446744073709551615) 0 (le-leb 1 n (omega (arith, l))))) m
positive (negsuc n) h = cc

length_by : (k : Option ℤ) → rules.is_none k ≡ false → not (rules.is_none k) && int_le (c.or_zero k) (pos 0) ≡ false → 0 < c.length_from k
length_by None h l = cc
length_by (Some v) h l = positive v l

constant_there : (b k n : Bool) → not k ≡ false → not b || (k && n) ≡ false → n ≡ false
constant_there true true n h l = l
constant_there false k n h l = cc
constant_there true false n h l = cc

pub length_positive : (f : Known) (e : t.Ex) → rules.faults_of_length f.env f.model f.bodies e ≡ [] → 0 < c.length_from (c.constant_of f.env f.model e)
length_positive f e h =
    let lines = unless_lines (rules.faults f.env f.model f.bodies e) _ h in
    let front = nil_left (rules.constant_lines f.env f.model f.bodies e) _ lines in
    length_by (c.constant_of f.env f.model e)
    (constant_there (c.is_constant f.env e) (is_kind (type_of f.env f.model e)) _ (line_holds _ _ _ (nil_left (rules.value_line f.env f.model f.bodies e) _ front)) (line_holds _ _ _ (nil_right (rules.value_line f.env f.model f.bodies e) _ front)))
    (line_holds _ _ _ (nil_right (rules.constant_lines f.env f.model f.bodies e) _ lines))

-- ---- All objects

abbrev pub AllBehind : s.What → ℕ → List s.Declared → Type 0
AllBehind w from [] = Unit {0}
AllBehind w from (e ∷ es) = Behind w from e.at e.from × AllBehind w from es

pub behind_of : (d : s.Declared) (es : List s.Declared) → AllApart d es → AllBehind d.what d.from es
behind_of d [] h = tt
behind_of d (e ∷ es) h = (h.0.behind, behind_of d es h.1)

pub beyond_of : (ws : t.Words) (f : t.Form) (i : t.Initial) (low high from : ℕ) (es : List s.Declared) → high ≤ from → AllBehind (s.anObject ws f i) from es → AllBeyond low high es
beyond_of ws f i low high from [] l h = tt
beyond_of ws f i low high from (e ∷ es) l h =
    let p = h.0 in
    (record { from = omega (arith, l, p.1); away = (λ at x y q. omega (arith, l, p.0, y, q)) }, beyond_of ws f i low high from es l h.1)

module _ (f : Known) where
  length_fits : (env : Env) (d : s.Declared) (ds : List s.Declared) (w : s.What) → Grown env (d ∷ ds) f.env → AllNumbered (length env.objects) env.entries →
      Sized f d.at d.from w → AllBehind w d.from ds → LengthFits (length_as f.model env w)
  length_fits env d ds (s.anObject ws t.fPlain i) g k z b = tt
  length_fits env d ds (s.anObject ws (t.fArray x None y) i) g k z b = omega (arith, z)
  length_fits env d ds (s.anObject ws (t.fArray x (Some e) y) i) g k z b =
      let own : Beyond (suc x) y d = record { from = omega (arith, z.3); away = (λ at l r q. omega (arith, z.2, l, q)) } in
      let same = same_of env f.env (d ∷ ds) (suc x) y g k (own, beyond_of ws (t.fArray x (Some e) y) i (suc x) y d.from ds (omega (arith, z.3)) b) in
      subst (λ o. 0 < c.length_from o) (sym (constant_of_same env f.env f.model (suc x) y same e (suc x) y (omega arith) (omega arith) z.1)) (length_positive f e z.0)
  length_fits env d ds (s.anObject ws (t.fFunction ps) i) g k z b = tt
  length_fits env d ds (s.aParameter ws) g k z b = tt
  length_fits env d ds (s.aFunction ws ps body) g k z b = tt
  length_fits env d ds (s.aTypedef ws) g k z b = tt
  length_fits env d ds (s.anEnumerator es) g k z b = tt
  length_fits env d ds (s.aTag es) g k z b = tt
  length_fits env d ds (s.aName ws) g k z b = tt

  fit_more : (length owner : Option ℕ) (os more : List Object) → ObjectsFit os → AllOf length owner more → LengthFits length → ObjectsFit (os ++ more)
  fit_more length owner [] [] h a l = tt
  fit_more length owner [] (o ∷ more) h a l = (subst LengthFits (sym a.0) l, fit_more length owner [] more h a.2 l)
  fit_more length owner (x ∷ os) more h a l = (h.0, fit_more length owner os more h.1 a l)

  pub objects_fit : (p : Room) (q : Bool) (lo hi : ℕ) (env : Env) (ds : List s.Declared) → c.bind_from f.model env ds ≡ f.env → AllNumbered (length env.objects) env.entries → ObjectsFit env.objects →
      AllLie f p q lo hi ds → Distinct ds → ObjectsFit (c.bind_from f.model env ds).objects
  objects_fit p q lo hi env [] e k h a b = h
  objects_fit p q lo hi env (d ∷ ds) e k h a b =
      let step = step_of f.model env d d.what k in
      let g = subst (Grown env (d ∷ ds)) e (grown f.model env (d ∷ ds) k) in
      let l = length_fits env d ds d.what g k a.0.sized (behind_of d ds b.0) in
      objects_fit p q lo hi (c.declare f.model env d d.what) ds e (next_numbered f.model env d d.what _ step k)
      (subst ObjectsFit (sym step.objects) (fit_more (length_as f.model env d.what) d.owner env.objects step.more h step.all l)) a.1 b.1
