-- A constant expression is the same in two environments that agree where it stands.
use Rattle.std.proofs.Common.{◌≡◌, ℕ, suc, ◌≤◌, Bool, true, false, ◌&&◌, not, if◌then◌else◌, List, Option, None, Some, ℤ, pos, refl, ap, ◌∙◌, arith}
use Rattle.std.specs.Prelude.{slice_get, int_lt}
use mathlib.Core.Path.{fun_ext}
use Rattle.lv_base.specs.declared.kind.Kind.TheVariants as kind
use Rattle.lv_base.specs.declared.kind.Model.{Model}
use Rattle.lv_base.specs.Integers.{truth}
use Rattle.c_tree.specs.declared.symbol.BinaryOp.TheVariants as op
use Rattle.c_tree.specs.declared.tree.PrefixOp.TheVariants as pre
use Rattle.c_tree.specs.Tree as t
use Rattle.c_run.specs.Run.{Run, give, ◌>>=◌, choose, read, located, is_true}
use Rattle.c_run.specs.Operators.{Use, used, dropped}
use Rattle.c_meaning.specs.Kinds.{kind_of, is_kind, size_of, as_type}
use Rattle.c_meaning.specs.Bindings.{Env, Entity, anObjectOf, aFunctionOf, aConstantOf, aTypeOf, aTagOf, aNameOf, nothingOf, entity_of, entity_of_entry, entity_type, object_number, object_type, size_of_object, count_of, visible, declared_at, constant_value, has_negative, named_kind, word_kind, named_in, or_kind, or_typing, typing_of, words_type}
use Rattle.c_meaning.specs.Types.{type_of, type_of_last, called_type, element_type, prefix_type, binary_type, arms_type}
use Rattle.c_meaning.specs.Constants.{is_object, is_constant, constant_context, no_state, got_value, only_if, constant_of}
use Rattle.c_meaning.specs.Value.{Context, value, base_of, named_value, element_at, prefixed, applied, cast_to}
use Rattle.elaboration_offset_laws.proofs.Standing.{In, InParts, InWords, InWord, InEnumerators, ordered, ordered_parts, ordered_words, ordered_word, ordered_enumerators}

-- ---- Equations

both : {A B C : Type 0} (f : A → B → C) (a a2 : A) (b b2 : B) → a ≡ a2 → b ≡ b2 → f a b ≡ f a2 b2
both f a a2 b b2 h k = ap (λ x. f x b) h ∙ ap (f a2) k

binds : {A B : Type 0} (m n : Run A) (f g : A → Run B) → m ≡ n → ((v : A) → f v ≡ g v) → (m >>= f) ≡ (n >>= g)
binds m n f g h k = ap (λ x. x >>= f) h ∙ ap (λ x. n >>= x) (fun_ext k)

and_first : (a b : Bool) → a && b ≡ true → a ≡ true
and_first true b h = refl
and_first false b h = cc

and_second : (a b : Bool) → a && b ≡ true → b ≡ true
and_second true b h = h
and_second false b h = cc

-- ---- Two environments that agree from one offset to another

abbrev pub SameObject : Env → Env → Entity → Type 0
SameObject env other (anObjectOf n) = slice_get env.objects n ≡ slice_get other.objects n
SameObject env other x = Unit {0}

pub record Same (env other : Env) (low high : ℕ) : Type 0 where
  pub seen : (tag : Bool) (name : List ℕ) (at : ℕ) → low ≤ at → suc at ≤ high → visible env tag name at ≡ visible other tag name at
  pub found : (at : ℕ) → low ≤ at → suc at ≤ high → declared_at env at ≡ declared_at other at
  pub objects : (name : List ℕ) (at : ℕ) → low ≤ at → suc at ≤ high → SameObject env other (entity_of env name at)

module _ (env other : Env) (model : Model) (low high : ℕ) (same : Same env other low high) where
  entity_same : (n : List ℕ) (at : ℕ) → low ≤ at → suc at ≤ high → entity_of env n at ≡ entity_of other n at
  entity_same n at x y = ap entity_of_entry (same.seen false n at x y)

  type_by : (x : Entity) → SameObject env other x → entity_type env x ≡ entity_type other x
  type_by (anObjectOf n) h = ap object_type h
  type_by (aFunctionOf r ps) h = refl
  type_by (aConstantOf v) h = refl
  type_by (aTypeOf k c) h = refl
  type_by (aTagOf k) h = refl
  type_by (aNameOf k c) h = refl
  type_by nothingOf h = refl

  -- ---- Words

  mutual
    negative_same : (es : t.Ens) (lo hi : ℕ) → low ≤ lo → hi ≤ high → InEnumerators lo es hi → has_negative env es ≡ has_negative other es
    negative_same t.no_enumerators lo hi x y h = refl
    negative_same (t.plain_and es c n at) lo hi x y h =
        let o = ordered_enumerators es lo h.0 h.1 in
        ap (λ v. if int_lt (constant_value v) (pos 0) then true else has_negative env es) (same.found at (omega (arith, x, o, h.2)) (omega (arith, h.3, y)))
        ∙ ap (λ b. if int_lt (constant_value (declared_at other at)) (pos 0) then true else b) (negative_same es lo h.0 x (omega (arith, h.2, h.3, y)) h.1)
    negative_same (t.valued_and es c n at a e) lo hi x y h =
        let o = ordered_enumerators es lo h.0 h.1 in
        let q = ordered e (suc a) hi h.4 in
        ap (λ v. if int_lt (constant_value v) (pos 0) then true else has_negative env es) (same.found at (omega (arith, x, o, h.2)) (omega (arith, h.3, q, y)))
        ∙ ap (λ b. if int_lt (constant_value (declared_at other at)) (pos 0) then true else b) (negative_same es lo h.0 x (omega (arith, h.2, h.3, q, y)) h.1)

    word_same : (w : t.Word) (lo hi : ℕ) → low ≤ lo → hi ≤ high → InWord lo w hi → word_kind env w ≡ word_kind other w
    word_same (t.wType w at) lo hi x y h = refl
    word_same (t.wStorage w at) lo hi x y h = refl
    word_same (t.wConst w at) lo hi x y h = refl
    word_same (t.wExtension at) lo hi x y h = refl
    word_same (t.wAttribute a) lo hi x y h = refl
    word_same (t.wTypedef n at) lo hi x y h = ap named_kind (entity_same n at (omega (arith, x, h.0)) (omega (arith, h.1, y)))
    word_same (t.wTag at n b) lo hi x y h = ap (λ o. named_kind (entity_of_entry o)) (same.seen true n b (omega (arith, x, h.0, h.1)) (omega (arith, h.2, y)))
    word_same (t.wEnum at a es c b) lo hi x y h = ap (λ v. Some (if v then kind.Int else kind.UInt)) (negative_same es (suc a) h.0 (omega (arith, x, h.1, h.2)) (omega (arith, h.4, h.5, y)) h.3)
    word_same (t.wTagEnum at n z a es c b) lo hi x y h = ap (λ v. Some (if v then kind.Int else kind.UInt)) (negative_same es (suc a) h.0 (omega (arith, x, h.1, h.2, h.3)) (omega (arith, h.5, h.6, y)) h.4)

  named_same : (ws : t.Words) (lo hi : ℕ) → low ≤ lo → hi ≤ high → InWords lo ws hi → named_in env ws ≡ named_in other ws
  named_same t.no_words lo hi x y h = refl
  named_same (t.words_and ws w) lo hi x y h =
      let o = ordered_words ws lo h.0 h.1 in
      let q = ordered_word w h.0 hi h.2 in
      both or_kind (word_kind env w) (word_kind other w) (named_in env ws) (named_in other ws) (word_same w h.0 hi (omega (arith, x, o)) y h.2) (named_same ws lo h.0 x (omega (arith, q, y)) h.1)

  pub words_same : (ws : t.Words) (lo hi : ℕ) → low ≤ lo → hi ≤ high → InWords lo ws hi → words_type env ws ≡ words_type other ws
  words_same ws lo hi x y h = ap (λ k. or_typing k (typing_of ws)) (named_same ws lo hi x y h)

  -- ---- Types

  mutual
    pub type_same : (e : t.Ex) (lo hi : ℕ) → low ≤ lo → hi ≤ high → In lo e hi → type_of env model e ≡ type_of other model e
    type_same (t.eName n at) lo hi x y h =
        let l : low ≤ at = omega (arith, x, h.0) in
        let r : suc at ≤ high = omega (arith, h.1, y) in
        type_by (entity_of env n at) (same.objects n at l r) ∙ ap (entity_type other) (entity_same n at l r)
    type_same (t.eNumber v f at) lo hi x y h = refl
    type_same (t.eLetter v at) lo hi x y h = refl
    type_same (t.eParen a e b) lo hi x y h = type_same e (suc a) b (omega (arith, x, h.0)) (omega (arith, h.2, y)) h.1
    type_same (t.eCall f a es b) lo hi x y h =
        let q = ordered_parts es (suc a) b h.1 in
        ap called_type (type_same f lo a x (omega (arith, q, h.2, y)) h.0)
    type_same (t.eIndex a z i w) lo hi x y h =
        let q = ordered i (suc z) w h.1 in
        ap element_type (type_same a lo z x (omega (arith, q, h.2, y)) h.0)
    type_same (t.ePostfix e c at) lo hi x y h = type_same e lo at x (omega (arith, h.1, y)) h.0
    type_same (t.ePrefix o at e) lo hi x y h = ap (prefix_type model o) (type_same e (suc at) hi (omega (arith, x, h.0)) y h.1)
    type_same (t.eSizeof at a ws b) lo hi x y h = refl
    type_same (t.eCast a ws b e) lo hi x y h =
        let q = ordered e (suc b) hi h.2 in
        words_same ws (suc a) b (omega (arith, x, h.0)) (omega (arith, q, y)) h.1
    type_same (t.eBinary a o at b) lo hi x y h =
        let p = ordered a lo at h.0 in
        let q = ordered b (suc at) hi h.1 in
        both (binary_type model o) _ _ _ _ (type_same a lo at x (omega (arith, q, y)) h.0) (type_same b (suc at) hi (omega (arith, x, p)) y h.1)
    type_same (t.eCond c z a w b) lo hi x y h =
        let p = ordered c lo z h.0 in
        let q = ordered a (suc z) w h.1 in
        let r = ordered b (suc w) hi h.2 in
        both (arms_type model) _ _ _ _ (type_same a (suc z) w (omega (arith, x, p)) (omega (arith, r, y)) h.1) (type_same b (suc w) hi (omega (arith, x, p, q)) y h.2)
    type_same (t.eAssign a o at b) lo hi x y h =
        let q = ordered b (suc at) hi h.1 in
        type_same a lo at x (omega (arith, q, y)) h.0
    type_same (t.eComma es) lo hi x y h = last_same es lo hi x y h

    last_same : (es : t.Parts) (lo hi : ℕ) → low ≤ lo → hi ≤ high → InParts lo es hi → type_of_last env model es ≡ type_of_last other model es
    last_same t.no_parts lo hi x y h = refl
    last_same (t.parts_and es c e) lo hi x y h =
        let p = ordered_parts es lo h.0 h.2 in
        type_same e h.1 hi (omega (arith, x, p, h.3)) y h.4

  -- ---- Constants

  constant_same : (e : t.Ex) (lo hi : ℕ) → low ≤ lo → hi ≤ high → In lo e hi → is_constant env e ≡ is_constant other e
  constant_same (t.eName n at) lo hi x y h = ap (λ v. not (is_object v)) (entity_same n at (omega (arith, x, h.0)) (omega (arith, h.1, y)))
  constant_same (t.eNumber v f at) lo hi x y h = refl
  constant_same (t.eLetter v at) lo hi x y h = refl
  constant_same (t.eParen a e b) lo hi x y h = constant_same e (suc a) b (omega (arith, x, h.0)) (omega (arith, h.2, y)) h.1
  constant_same (t.eCall f a es b) lo hi x y h = refl
  constant_same (t.eIndex a z i w) lo hi x y h =
      let p = ordered a lo z h.0 in
      let q = ordered i (suc z) w h.1 in
      both (λ c d. c && d) _ _ _ _ (constant_same a lo z x (omega (arith, q, h.2, y)) h.0) (constant_same i (suc z) w (omega (arith, x, p)) (omega (arith, h.2, y)) h.1)
  constant_same (t.ePostfix e c at) lo hi x y h = refl
  constant_same (t.ePrefix pre.Increment at e) lo hi x y h = refl
  constant_same (t.ePrefix pre.Decrement at e) lo hi x y h = refl
  constant_same (t.ePrefix pre.Sizeof at e) lo hi x y h = refl
  constant_same (t.ePrefix o at e) lo hi x y h = constant_same e (suc at) hi (omega (arith, x, h.0)) y h.1
  constant_same (t.eSizeof at a ws b) lo hi x y h = refl
  constant_same (t.eCast a ws b e) lo hi x y h =
      let p = ordered_words ws (suc a) b h.1 in
      constant_same e (suc b) hi (omega (arith, x, h.0, p)) y h.2
  constant_same (t.eBinary a o at b) lo hi x y h =
      let p = ordered a lo at h.0 in
      let q = ordered b (suc at) hi h.1 in
      both (λ c d. c && d) _ _ _ _ (constant_same a lo at x (omega (arith, q, y)) h.0) (constant_same b (suc at) hi (omega (arith, x, p)) y h.1)
  constant_same (t.eCond c z a w b) lo hi x y h =
      let p = ordered c lo z h.0 in
      let q = ordered a (suc z) w h.1 in
      let r = ordered b (suc w) hi h.2 in
      both (λ d e. d && e) _ _ _ _ (constant_same c lo z x (omega (arith, q, r, y)) h.0)
      (both (λ d e. d && e) _ _ _ _ (constant_same a (suc z) w (omega (arith, x, p)) (omega (arith, r, y)) h.1) (constant_same b (suc w) hi (omega (arith, x, p, q)) y h.2))
  constant_same (t.eAssign a o at b) lo hi x y h = refl
  constant_same (t.eComma es) lo hi x y h = refl

  -- ---- Values

  abbrev C : Context
  C = constant_context env model

  abbrev D : Context
  D = constant_context other model

  abbrev SameCount : Option ℕ → Type 0
  SameCount None = Unit {0}
  SameCount (Some n) = count_of env n ≡ count_of other n

  count_by : (x : Entity) → SameObject env other x → SameCount (object_number x)
  count_by (anObjectOf n) h = ap size_of_object h
  count_by (aFunctionOf r ps) h = tt
  count_by (aConstantOf v) h = tt
  count_by (aTypeOf k c) h = tt
  count_by (aTagOf k) h = tt
  count_by (aNameOf k c) h = tt
  count_by nothingOf h = tt

  element_by : (at : ℕ) (o : Option ℕ) (v : ℤ) → SameCount o → element_at C at o v ≡ element_at D at o v
  element_by at None v h = refl
  element_by at (Some n) v h = ap (λ k. located at n k v) h

  base_same : (e : t.Ex) (lo hi : ℕ) → low ≤ lo → hi ≤ high → In lo e hi → (base_of env e ≡ base_of other e) × SameCount (base_of env e)
  base_same (t.eName n at) lo hi x y h =
      let l : low ≤ at = omega (arith, x, h.0) in
      let r : suc at ≤ high = omega (arith, h.1, y) in
      (ap object_number (entity_same n at l r), count_by (entity_of env n at) (same.objects n at l r))
  base_same (t.eParen a e b) lo hi x y h = base_same e (suc a) b (omega (arith, x, h.0)) (omega (arith, h.2, y)) h.1
  base_same (t.ePrefix pre.Extension at e) lo hi x y h = base_same e (suc at) hi (omega (arith, x, h.0)) y h.1
  base_same (t.ePrefix o at e) lo hi x y h = (refl, tt)
  base_same (t.eNumber v f at) lo hi x y h = (refl, tt)
  base_same (t.eLetter v at) lo hi x y h = (refl, tt)
  base_same (t.eCall f a es b) lo hi x y h = (refl, tt)
  base_same (t.eIndex a z i w) lo hi x y h = (refl, tt)
  base_same (t.ePostfix e c at) lo hi x y h = (refl, tt)
  base_same (t.eSizeof at a ws b) lo hi x y h = (refl, tt)
  base_same (t.eCast a ws b e) lo hi x y h = (refl, tt)
  base_same (t.eBinary a o at b) lo hi x y h = (refl, tt)
  base_same (t.eCond c z a w b) lo hi x y h = (refl, tt)
  base_same (t.eAssign a o at b) lo hi x y h = (refl, tt)
  base_same (t.eComma es) lo hi x y h = (refl, tt)

  kind_same : (e : t.Ex) (lo hi : ℕ) → low ≤ lo → hi ≤ high → In lo e hi → kind_of (type_of env model e) ≡ kind_of (type_of other model e)
  kind_same e lo hi x y h = ap kind_of (type_same e lo hi x y h)

  value_same : (u : Use) (e : t.Ex) (lo hi : ℕ) → low ≤ lo → hi ≤ high → In lo e hi → is_constant env e ≡ true → value C u e ≡ value D u e
  value_same u (t.eName n at) lo hi x y h k = ap (named_value C) (entity_same n at (omega (arith, x, h.0)) (omega (arith, h.1, y)))
  value_same u (t.eNumber v f at) lo hi x y h k = refl
  value_same u (t.eLetter v at) lo hi x y h k = refl
  value_same u (t.eParen a e b) lo hi x y h k = value_same u e (suc a) b (omega (arith, x, h.0)) (omega (arith, h.2, y)) h.1 k
  value_same u (t.eCall f a es b) lo hi x y h k = cc
  value_same u (t.eIndex a z i w) lo hi x y h k =
      let p = ordered a lo z h.0 in
      let q = ordered i (suc z) w h.1 in
      let b = base_same a lo z x (omega (arith, q, h.2, y)) h.0 in
      binds (value C used i) (value D used i) (λ v. element_at C z (base_of env a) v >>= (λ e. read e)) (λ v. element_at D z (base_of other a) v >>= (λ e. read e))
      (value_same used i (suc z) w (omega (arith, x, p)) (omega (arith, h.2, y)) h.1 (and_second (is_constant env a) _ k))
      (λ v. ap (λ m. m >>= (λ e. read e)) (element_by z (base_of env a) v b.1 ∙ ap (λ o. element_at D z o v) b.0))
  value_same u (t.ePostfix e c at) lo hi x y h k = cc
  value_same u (t.ePrefix pre.Increment at e) lo hi x y h k = cc
  value_same u (t.ePrefix pre.Decrement at e) lo hi x y h k = cc
  value_same u (t.ePrefix pre.Extension at e) lo hi x y h k = value_same u e (suc at) hi (omega (arith, x, h.0)) y h.1 k
  value_same u (t.ePrefix pre.Sizeof at e) lo hi x y h k = ap (λ c. give (pos (size_of model c))) (type_same e (suc at) hi (omega (arith, x, h.0)) y h.1)
  value_same u (t.ePrefix o at e) lo hi x y h k =
      let l : low ≤ suc at = omega (arith, x, h.0) in
      binds (value C used e) (value D used e) (λ v. prefixed C at o (kind_of (type_of env model e)) v) (λ v. prefixed D at o (kind_of (type_of other model e)) v)
      (value_same used e (suc at) hi l y h.1 k) (λ v. ap (λ c. prefixed C at o c v) (kind_same e (suc at) hi l y h.1))
  value_same u (t.eSizeof at a ws b) lo hi x y h k = ap (λ c. give (pos (size_of model c))) (words_same ws (suc a) b (omega (arith, x, h.0, h.1)) (omega (arith, h.3, y)) h.2)
  value_same u (t.eCast a ws b e) lo hi x y h k =
      let p = ordered_words ws (suc a) b h.1 in
      let q = ordered e (suc b) hi h.2 in
      let l : low ≤ suc b = omega (arith, x, h.0, p) in
      ap (λ c. cast_to C c (value C used e) (value C dropped e)) (words_same ws (suc a) b (omega (arith, x, h.0)) (omega (arith, q, y)) h.1)
      ∙ both (λ m n. cast_to C (words_type other ws) m n) _ _ _ _ (value_same used e (suc b) hi l y h.2 k) (value_same dropped e (suc b) hi l y h.2 k)
  value_same u (t.eBinary a op.AndAlso at b) lo hi x y h k =
      let p = ordered a lo at h.0 in
      let q = ordered b (suc at) hi h.1 in
      binds (value C used a) (value D used a) _ (λ v. choose (is_true v) (value D used b >>= (λ w. give (truth (is_true w)))) (give (pos 0)))
      (value_same used a lo at x (omega (arith, q, y)) h.0 (and_first (is_constant env a) _ k))
      (λ v. ap (λ m. choose (is_true v) (m >>= (λ w. give (truth (is_true w)))) (give (pos 0))) (value_same used b (suc at) hi (omega (arith, x, p)) y h.1 (and_second (is_constant env a) _ k)))
  value_same u (t.eBinary a op.OrElse at b) lo hi x y h k =
      let p = ordered a lo at h.0 in
      let q = ordered b (suc at) hi h.1 in
      binds (value C used a) (value D used a) _ (λ v. choose (is_true v) (give (pos 1)) (value D used b >>= (λ w. give (truth (is_true w)))))
      (value_same used a lo at x (omega (arith, q, y)) h.0 (and_first (is_constant env a) _ k))
      (λ v. ap (λ m. choose (is_true v) (give (pos 1)) (m >>= (λ w. give (truth (is_true w))))) (value_same used b (suc at) hi (omega (arith, x, p)) y h.1 (and_second (is_constant env a) _ k)))
  value_same u (t.eBinary a o at b) lo hi x y h k =
      let p = ordered a lo at h.0 in
      let q = ordered b (suc at) hi h.1 in
      let l : low ≤ suc at = omega (arith, x, p) in
      let r : at ≤ high = omega (arith, q, y) in
      binds (value C used a) (value D used a) (λ v. value C used b >>= (λ w. applied C at o (kind_of (type_of env model a)) (kind_of (type_of env model b)) v w))
      (λ v. value D used b >>= (λ w. applied D at o (kind_of (type_of other model a)) (kind_of (type_of other model b)) v w))
      (value_same used a lo at x r h.0 (and_first (is_constant env a) _ k))
      (λ v. binds (value C used b) (value D used b) (λ w. applied C at o (kind_of (type_of env model a)) (kind_of (type_of env model b)) v w) (λ w. applied D at o (kind_of (type_of other model a)) (kind_of (type_of other model b)) v w)
      (value_same used b (suc at) hi l y h.1 (and_second (is_constant env a) _ k))
      (λ w. both (λ c d. applied C at o c d v w) _ _ _ _ (kind_same a lo at x r h.0) (kind_same b (suc at) hi l y h.1)))
  value_same u (t.eCond c z a w b) lo hi x y h k =
      let p = ordered c lo z h.0 in
      let q = ordered a (suc z) w h.1 in
      let r = ordered b (suc w) hi h.2 in
      let m = and_second (is_constant env c) _ k in
      binds (value C used c) (value D used c) (λ v. choose (is_true v) (value C used a) (value C used b) >>= (λ n. give (as_type model (type_of env model (t.eCond c z a w b)) n)))
      (λ v. choose (is_true v) (value D used a) (value D used b) >>= (λ n. give (as_type model (type_of other model (t.eCond c z a w b)) n)))
      (value_same used c lo z x (omega (arith, q, r, y)) h.0 (and_first (is_constant env c) _ k))
      (λ v. binds (choose (is_true v) (value C used a) (value C used b)) (choose (is_true v) (value D used a) (value D used b)) (λ n. give (as_type model (type_of env model (t.eCond c z a w b)) n)) (λ n. give (as_type model (type_of other model (t.eCond c z a w b)) n))
      (both (λ d e. choose (is_true v) d e) _ _ _ _ (value_same used a (suc z) w (omega (arith, x, p)) (omega (arith, r, y)) h.1 (and_first (is_constant env a) _ m)) (value_same used b (suc w) hi (omega (arith, x, p, q)) y h.2 (and_second (is_constant env a) _ m)))
      (λ n. ap (λ d. give (as_type model d n)) (type_same (t.eCond c z a w b) lo hi x y h)))
  value_same u (t.eAssign a o at b) lo hi x y h k = cc
  value_same u (t.eComma es) lo hi x y h k = cc

  constant_by : (b c k l : Bool) (o p : Option ℤ) → b ≡ c → k ≡ l → (b ≡ true → o ≡ p) → only_if (b && k) o ≡ only_if (c && l) p
  constant_by true true k l o p h g f = ap (λ x. only_if x o) g ∙ ap (only_if l) (f refl)
  constant_by true false k l o p h g f = cc
  constant_by false true k l o p h g f = cc
  constant_by false false k l o p h g f = refl

  pub constant_of_same : (e : t.Ex) (lo hi : ℕ) → low ≤ lo → hi ≤ high → In lo e hi → constant_of env model e ≡ constant_of other model e
  constant_of_same e lo hi x y h =
      constant_by (is_constant env e) (is_constant other e) (is_kind (type_of env model e)) (is_kind (type_of other model e)) _ _ (constant_same e lo hi x y h) (ap is_kind (type_same e lo hi x y h))
      (λ k. ap (λ m. got_value (m no_state)) (value_same used e lo hi x y h k))
