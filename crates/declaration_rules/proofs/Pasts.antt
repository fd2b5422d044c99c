-- What is known of all earlier declarations, from the last of them alone.
use Rattle.std.proofs.Common.{◌≡◌, ℕ, zero, suc, ◌+◌, ◌-◌, ◌<◌, ◌≤◌, Bool, true, false, ◌||◌, ◌&&◌, not, if◌then◌else◌, nat_eq, nat_lt, List, [], ◌∷◌, ◌++◌, length, take, slice_get, bytes_eq, Option, None, Some, refl, ap, ◌∙◌, sym, subst, arith, inl, inr, ◌⊎◌}
use Rattle.std.specs.List.{list_any}
use Rattle.std.proofs.lemmas.Bool.{and_parts, and_left, and_right, or_from, or_right, eqb-true, both_ways}
use Rattle.std.proofs.lemmas.List.{length-append}
use Rattle.std.proofs.lemmas.Slice.Eq.{bytes_eq-Decides}
use Rattle.lv_base.specs.declared.kind.Kind.{Kind}
use Rattle.lv_base.specs.declared.kind.Model.{Model}
use Rattle.lv_base.specs.Integers.{is_signed}
use Rattle.c_meaning.specs.Kinds.{rank}
use Rattle.c_meaning.specs.Scope as s
use Rattle.c_meaning.specs.Bindings.{Env, Entry, words_type, has_const, kind_in, kind_or_int, parameter_kinds}
use Rattle.c_meaning.specs.Constants.{object_length}
use Rattle.c_meaning.specs.Rules.{is_same_kind}
use Rattle.type_scopes.specs.Walking.{last_where}
use Rattle.declaration_rules.specs.declared.earlier.Past.{Past}
use Rattle.declaration_rules.specs.Earlier.{same_shape, or_zero, is_far, is_filled, alike, length_of, is_met, is_far_from, IsPast, IsPastAt, ArePasts, behind, behind_at, nothing, leave_no_room}
use Rattle.declaration_rules.specs.Twice as d
use Rattle.declaration_rules.proofs.KindRows.{and_assoc, and_true}
use Rattle.declaration_rules.proofs.Twins.{same_scope, last_any, last_is, any_taken}

-- ---- Tests over lists

module _ {A : Type 0} where
  any_same : (q r : A → Bool) → ((x : A) → q x ≡ r x) → (xs : List A) → list_any q xs ≡ list_any r xs
  any_same q r h [] = refl
  any_same q r h (x ∷ xs) = ap (λ z. z || list_any q xs) (h x) ∙ ap (λ z. r x || z) (any_same q r h xs)

  any_or : (q r : A → Bool) (xs : List A) → list_any (λ x. q x || r x) xs ≡ (list_any q xs || list_any r xs)
  any_or q r [] = refl
  any_or q r (x ∷ xs) = ap (λ z. (q x || r x) || z) (any_or q r xs) ∙ turn (q x) (r x) (list_any q xs) (list_any r xs)
    where
      turn : (a b c e : Bool) → ((a || b) || (c || e)) ≡ ((a || c) || (b || e))
      turn true b c e = refl
      turn false true true e = refl
      turn false true false e = refl
      turn false false c e = refl

  any_and : (q : A → Bool) (c : Bool) (xs : List A) → list_any (λ x. q x && c) xs ≡ (list_any q xs && c)
  any_and q c [] = refl
  any_and q c (x ∷ xs) = ap (λ z. (q x && c) || z) (any_and q c xs) ∙ turn (q x) (list_any q xs) c
    where
      turn : (a b c : Bool) → ((a && c) || (b && c)) ≡ ((a || b) && c)
      turn true true true = refl
      turn true true false = refl
      turn true false true = refl
      turn true false false = refl
      turn false b c = refl

-- ---- Agreement, in its parts

double : (t : Bool) → not (not t) ≡ t
double true = refl
double false = refl

split_length : (x y : Option ℕ) → d.same_length x y ≡ (same_shape x y && not (is_far (or_zero x) (or_zero y)))
split_length None None = refl
split_length None (Some m) = refl
split_length (Some n) None = refl
split_length (Some n) (Some m) = sym (double (nat_eq n m || (nat_eq n 0 || nat_eq m 0)))

turn_parts : (k t f c b : Bool) → (k && ((t && f) && (c && b))) ≡ ((k && (t && c)) && (f && b))
turn_parts false t f c b = refl
turn_parts true false f c b = refl
turn_parts true true true c b = refl
turn_parts true true false true b = refl
turn_parts true true false false b = refl

module _ (env : Env) (model : Model) where
  splits : (w v : s.What) → d.agrees env model w v ≡ (alike env model w v && (not (is_far (length_of env model w) (length_of env model v)) && not (is_filled w && is_filled v)))
  splits (s.anObject ws f i) (s.anObject vs g j) =
      let kind = is_same_kind (kind_or_int (words_type env ws)) (kind_or_int (words_type env vs)) in
      let const = d.same_const (has_const env ws) (has_const env vs) in
      let x = object_length env model f i in
      let y = object_length env model g j in
      ap (λ z. kind && (z && (const && not (d.begins i && d.begins j)))) (split_length x y)
      ∙ turn_parts kind (same_shape x y) (not (is_far (or_zero x) (or_zero y))) const (not (d.begins i && d.begins j))
  splits (s.aFunction ws ps b) (s.aFunction vs qs c) =
      and_assoc (d.same_result (kind_in (words_type env ws)) (kind_in (words_type env vs))) (d.same_kinds (parameter_kinds env ps) (parameter_kinds env qs)) (not (b && c))
  splits (s.anObject ws f i) v = refl
  splits (s.aFunction ws ps b) v = refl
  splits (s.aParameter ws) v = refl
  splits (s.aTypedef ws) v = refl
  splits (s.anEnumerator es) v = refl
  splits (s.aTag es) v = refl
  splits (s.aName ws) v = refl

-- ---- Declarations that are alike differ from the same ones

sign_same : (a b : Bool) → (if a then b else not b) ≡ true → a ≡ b
sign_same true b h = sym h
sign_same false true h = absurd (both_ways false refl h)
sign_same false false h = refl

kind_alike : (k l m : Kind) → is_same_kind k l ≡ true → is_same_kind m l ≡ is_same_kind m k
kind_alike k l m h =
    let parts = and_parts (nat_eq (rank k) (rank l)) (if is_signed k then is_signed l else not (is_signed l)) h in
    ap (λ r. nat_eq (rank m) r && (if is_signed m then is_signed l else not (is_signed l))) (sym (eqb-true (rank k) (rank l) parts.0))
    ∙ ap (λ t. nat_eq (rank m) (rank k) && (if is_signed m then t else not t)) (sym (sign_same (is_signed k) (is_signed l) parts.1))

shape_alike : (x y z : Option ℕ) → same_shape x y ≡ true → same_shape z y ≡ same_shape z x
shape_alike None None z h = refl
shape_alike None (Some m) z h = absurd (both_ways false refl h)
shape_alike (Some n) None z h = absurd (both_ways false refl h)
shape_alike (Some n) (Some m) None h = refl
shape_alike (Some n) (Some m) (Some o) h = refl

const_alike : (a b c : Bool) → d.same_const a b ≡ true → d.same_const c b ≡ d.same_const c a
const_alike true true c h = refl
const_alike true false c h = absurd (both_ways false refl h)
const_alike false true c h = absurd (both_ways false refl h)
const_alike false false c h = refl

result_alike : (x y z : Option Kind) → d.same_result x y ≡ true → d.same_result z y ≡ d.same_result z x
result_alike None None z h = refl
result_alike None (Some l) z h = absurd (both_ways false refl h)
result_alike (Some k) None z h = absurd (both_ways false refl h)
result_alike (Some k) (Some l) None h = refl
result_alike (Some k) (Some l) (Some m) h = kind_alike k l m h

kinds_alike : (ks ls ms : List Kind) → d.same_kinds ks ls ≡ true → d.same_kinds ms ls ≡ d.same_kinds ms ks
kinds_alike [] [] ms h = refl
kinds_alike [] (l ∷ ls) ms h = absurd (both_ways false refl h)
kinds_alike (k ∷ ks) [] ms h = absurd (both_ways false refl h)
kinds_alike (k ∷ ks) (l ∷ ls) [] h = refl
kinds_alike (k ∷ ks) (l ∷ ls) (m ∷ ms) h =
    let parts = and_parts (is_same_kind k l) (d.same_kinds ks ls) h in
    ap (λ z. z && d.same_kinds ms ls) (kind_alike k l m parts.0) ∙ ap (λ z. is_same_kind m k && z) (kinds_alike ks ls ms parts.1)

module _ (env : Env) (model : Model) where
  alike_same : (w v u : s.What) → alike env model w v ≡ true → alike env model u v ≡ alike env model u w
  alike_same (s.anObject ws f i) (s.anObject vs g j) (s.anObject us e k) h =
      let kind = kind_or_int (words_type env ws) in
      let other = kind_or_int (words_type env vs) in
      let this = kind_or_int (words_type env us) in
      let x = object_length env model f i in
      let y = object_length env model g j in
      let z = object_length env model e k in
      let a = and_parts (is_same_kind kind other) (same_shape x y && d.same_const (has_const env ws) (has_const env vs)) h in
      let c = and_parts (same_shape x y) (d.same_const (has_const env ws) (has_const env vs)) a.1 in
      ap (λ t. t && (same_shape z y && d.same_const (has_const env us) (has_const env vs))) (kind_alike kind other this a.0)
      ∙ ap (λ t. is_same_kind this kind && (t && d.same_const (has_const env us) (has_const env vs))) (shape_alike x y z c.0)
      ∙ ap (λ t. is_same_kind this kind && (same_shape z x && t)) (const_alike (has_const env ws) (has_const env vs) (has_const env us) c.1)
  alike_same (s.anObject ws f i) (s.anObject vs g j) u h = refl
  alike_same (s.aFunction ws ps b) (s.aFunction vs qs c) (s.aFunction us rs e) h =
      let r = kind_in (words_type env ws) in
      let o = kind_in (words_type env vs) in
      let t = kind_in (words_type env us) in
      let a = and_parts (d.same_result r o) (d.same_kinds (parameter_kinds env ps) (parameter_kinds env qs)) h in
      ap (λ z. z && d.same_kinds (parameter_kinds env rs) (parameter_kinds env qs)) (result_alike r o t a.0)
      ∙ ap (λ z. d.same_result t r && z) (kinds_alike (parameter_kinds env ps) (parameter_kinds env qs) (parameter_kinds env rs) a.1)
  alike_same (s.aFunction ws ps b) (s.aFunction vs qs c) u h = refl
  alike_same (s.anObject ws f i) v u h = absurd (both_ways false refl h)
  alike_same (s.aFunction ws ps b) v u h = absurd (both_ways false refl h)
  alike_same (s.aParameter ws) v u h = absurd (both_ways false refl h)
  alike_same (s.aTypedef ws) v u h = absurd (both_ways false refl h)
  alike_same (s.anEnumerator es) v u h = absurd (both_ways false refl h)
  alike_same (s.aTag es) v u h = absurd (both_ways false refl h)
  alike_same (s.aName ws) v u h = absurd (both_ways false refl h)

-- what a declaration meets meets the same ones
met_same : (x : s.Declared) (e : Entry) → is_met x e ≡ true → (f : Entry) → is_met x f ≡ is_met e.declared f
met_same x e h f =
    let y = e.declared in
    let z = f.declared in
    let a = and_parts (d.same_space x.what y.what) (s.is_same x.scope y.scope && (bytes_eq x.name y.name && nat_lt 0 (length x.name))) h in
    let c = and_parts (s.is_same x.scope y.scope) (bytes_eq x.name y.name && nat_lt 0 (length x.name)) a.1 in
    let n = and_parts (bytes_eq x.name y.name) (nat_lt 0 (length x.name)) c.1 in
    ap (λ t. (if t then s.is_tag z.what else not (s.is_tag z.what)) && (s.is_same x.scope z.scope && (bytes_eq x.name z.name && nat_lt 0 (length x.name)))) (sign_same (s.is_tag x.what) (s.is_tag y.what) a.0)
    ∙ ap (λ t. d.same_space y.what z.what && (s.is_same t z.scope && (bytes_eq x.name z.name && nat_lt 0 (length x.name)))) (same_scope x.scope y.scope c.0)
    ∙ ap (λ t. d.same_space y.what z.what && (s.is_same y.scope z.scope && (bytes_eq t z.name && nat_lt 0 (length t)))) ((bytes_eq-Decides x.name y.name).0 n.0)

-- ---- Lengths

far_left : (n m : ℕ) → nat_eq n 0 ≡ true → is_far n m ≡ false
far_left n m h = ap (λ t. not (nat_eq n m || (t || nat_eq m 0))) h ∙ by (nat_eq n m)
  where
    by : (t : Bool) → not (t || true) ≡ false
    by true = refl
    by false = refl

far_right : (n m : ℕ) → nat_eq m 0 ≡ true → is_far n m ≡ false
far_right n m h = ap (λ t. not (nat_eq n m || (nat_eq n 0 || t))) h ∙ by (nat_eq n m) (nat_eq n 0)
  where
    by : (t u : Bool) → not (t || (u || true)) ≡ false
    by true u = refl
    by false true = refl
    by false false = refl

none_far : (m : ℕ) → is_far 0 m ≡ false
none_far m = far_left 0 m refl

or_false : (t : Bool) → (t || false) ≡ t
or_false true = refl
or_false false = refl

turn_lengths : (e x : Bool) → (((e || x) && true) || false) ≡ ((e && true) || x)
turn_lengths true x = refl
turn_lengths false true = refl
turn_lengths false false = refl

-- behind one of the length n
abbrev Steps : Bool → ℕ → ℕ → ℕ → Type 0
Steps e l n m = (((e || is_far l n) && not (nat_eq m 0)) || is_far (if nat_eq n 0 then l else n) m) ≡ (is_far n m || ((e && not (nat_eq m 0)) || is_far l m))

step_none : (e : Bool) (l n m : ℕ) → nat_eq m 0 ≡ true → Steps e l n m
step_none e l n m y =
    or_from ((e || is_far l n) && not (nat_eq m 0)) (is_far (if nat_eq n 0 then l else n) m) (and_right (e || is_far l n) (not (nat_eq m 0)) (ap not y)) (far_right (if nat_eq n 0 then l else n) m y)
    ∙ sym (or_from (is_far n m) ((e && not (nat_eq m 0)) || is_far l m) (far_right n m y) (or_from (e && not (nat_eq m 0)) (is_far l m) (and_right e (not (nat_eq m 0)) (ap not y)) (far_right l m y)))

step_zero : (e : Bool) (l n m : ℕ) → nat_eq n 0 ≡ true → Steps e l n m
step_zero e l n m z =
    ap (λ u. ((e || u) && not (nat_eq m 0)) || is_far (if nat_eq n 0 then l else n) m) (far_right l n z)
    ∙ ap (λ u. (u && not (nat_eq m 0)) || is_far (if nat_eq n 0 then l else n) m) (or_false e)
    ∙ ap (λ (t : Bool). (e && not (nat_eq m 0)) || is_far (if t then l else n) m) z
    ∙ sym (ap (λ u. u || ((e && not (nat_eq m 0)) || is_far l m)) (far_left n m z))

step_same : (e : Bool) (l n m : ℕ) → nat_eq n 0 ≡ false → nat_eq m 0 ≡ false → nat_eq n m ≡ true → Steps e l n m
step_same e l n m z y a =
    let near : is_far n m ≡ false = ap (λ t. not (t || (nat_eq n 0 || nat_eq m 0))) a in
    ap (λ (t : Bool). ((e || is_far l n) && not (nat_eq m 0)) || is_far (if t then l else n) m) z
    ∙ ap (λ u. ((e || is_far l n) && not (nat_eq m 0)) || u) near
    ∙ ap (λ t. ((e || is_far l n) && not t) || false) y
    ∙ turn_lengths e (is_far l n)
    ∙ ap (λ k. (e && true) || is_far l k) (eqb-true n m a)
    ∙ sym (ap (λ u. u || ((e && not (nat_eq m 0)) || is_far l m)) near ∙ ap (λ t. (e && not t) || is_far l m) y)

step_other : (e : Bool) (l n m : ℕ) → nat_eq n 0 ≡ false → nat_eq m 0 ≡ false → nat_eq n m ≡ false → Steps e l n m
step_other e l n m z y a =
    let far : is_far n m ≡ true = ap (λ t. not (t || (nat_eq n 0 || nat_eq m 0))) a ∙ ap (λ t. not (t || nat_eq m 0)) z ∙ ap not y in
    ap (λ (t : Bool). ((e || is_far l n) && not (nat_eq m 0)) || is_far (if t then l else n) m) z
    ∙ ap (λ u. ((e || is_far l n) && not (nat_eq m 0)) || u) far
    ∙ or_right ((e || is_far l n) && not (nat_eq m 0)) true refl
    ∙ sym (ap (λ u. u || ((e && not (nat_eq m 0)) || is_far l m)) far)

lengths_step : (e : Bool) (l n m : ℕ) → Steps e l n m
lengths_step e l n m = by (nat_eq m 0) (nat_eq n 0) (nat_eq n m) refl refl refl
  where
    by : (y z a : Bool) → nat_eq m 0 ≡ y → nat_eq n 0 ≡ z → nat_eq n m ≡ a → Steps e l n m
    by true z a h i j = step_none e l n m h
    by false true a h i j = step_zero e l n m i
    by false false true h i j = step_same e l n m i h j
    by false false false h i j = step_other e l n m i h j

-- ---- What is known

module _ (env : Env) (model : Model) where
  three : (m a f b c : Bool) → ((m && not a) || ((m && f) || ((m && b) && c))) ≡ (m && not (a && (not f && not (b && c))))
  three false a f b c = refl
  three true false f b c = refl
  three true true true b c = refl
  three true true false b c = sym (double (b && c))

  -- they leave no room where one of them clashes
  pub room_is : (before : List Entry) (x : s.Declared) (past : Past) → IsPast env model before x past → leave_no_room env model past x ≡ list_any (d.clashes env model x) before
  room_is before x past known = by (s.is_file x.scope) refl
    where
      by : (t : Bool) → s.is_file x.scope ≡ t → leave_no_room env model past x ≡ list_any (d.clashes env model x) before
      by true is =
          let n = length_of env model x.what in
          let c = is_filled x.what in
          let apart = λ (e : Entry). is_met x e && not (alike env model e.declared.what x.what) in
          let far = λ (e : Entry). is_met x e && is_far (length_of env model e.declared.what) n in
          let full = λ (e : Entry). is_met x e && is_filled e.declared.what in
          ap (λ t. if t then past.apart || (is_far_from past n || (past.filled && c)) else past.met) is
          ∙ ap (λ z. z || (is_far_from past n || (past.filled && c))) known.apart
          ∙ ap (λ z. list_any apart before || (z || (past.filled && c))) (known.lengths n)
          ∙ ap (λ z. list_any apart before || (list_any far before || (z && c))) known.filled
          ∙ ap (λ z. list_any apart before || (list_any far before || z)) (sym (any_and full c before))
          ∙ ap (λ z. list_any apart before || z) (sym (any_or far (λ e. full e && c) before))
          ∙ sym (any_or apart (λ e. far e || (full e && c)) before)
          ∙ any_same (λ e. apart e || (far e || (full e && c))) (d.clashes env model x) (λ e.
          three (is_met x e) (alike env model e.declared.what x.what) (is_far (length_of env model e.declared.what) n) (is_filled e.declared.what) c
          ∙ ap (λ z. is_met x e && not z) (sym (splits env model e.declared.what x.what))
          ∙ sym (ap (λ t. is_met x e && not (t && d.agrees env model e.declared.what x.what)) is)) before
      by false is =
          ap (λ t. if t then past.apart || (is_far_from past (length_of env model x.what) || (past.filled && is_filled x.what)) else past.met) is
          ∙ known.met
          ∙ any_same (is_met x) (d.clashes env model x) (λ e. sym (and_true (is_met x e)) ∙ sym (ap (λ t. is_met x e && not (t && d.agrees env model e.declared.what x.what)) is)) before

  module _ (es : List Entry) (x : s.Declared) (k : ℕ) (few : k ≤ length es) where
    module _ (none : last_where (is_met x) es k ≡ 0) where
      none_any : (q : Entry → Bool) → ((e : Entry) → is_met x e ≡ false → q e ≡ false) → false ≡ list_any q (take k es)
      none_any q only = sym (ap (λ n. list_any q (take n es)) none) ∙ last_any (is_met x) es q only k few

      pub none_known : IsPast env model (take k es) x nothing
      none_known = record {
        met = none_any (is_met x) (λ e h. h);
        apart = none_any (λ e. is_met x e && not (alike env model e.declared.what x.what)) (λ e h. and_left (is_met x e) _ h);
        filled = none_any (λ e. is_met x e && is_filled e.declared.what) (λ e h. and_left (is_met x e) _ h);
        lengths = λ m. none_far m ∙ none_any (λ e. is_met x e && is_far (length_of env model e.declared.what) m) (λ e h. and_left (is_met x e) _ h);
      }

    module _ (j : ℕ) (y : Entry) (past : Past) (last : last_where (is_met x) es k ≡ suc j) (at : slice_get es j ≡ Some y) (is : is_met x y ≡ true) (known : IsPast env model (take j es) y.declared past) where
      some_any : (q : Entry → Bool) → ((e : Entry) → is_met x e ≡ false → q e ≡ false) → list_any q (take k es) ≡ (q y || list_any q (take j es))
      some_any q only = sym (last_any (is_met x) es q only k few) ∙ ap (λ n. list_any q (take n es)) last ∙ any_taken q es j y at

      any_is : (r : Entry → Bool) → (r y || list_any (λ e. is_met y.declared e && r e) (take j es)) ≡ list_any (λ e. is_met x e && r e) (take k es)
      any_is r =
          sym (some_any (λ e. is_met x e && r e) (λ e h. and_left (is_met x e) (r e) h)
          ∙ ap (λ t. (t && r y) || list_any (λ e. is_met x e && r e) (take j es)) is
          ∙ ap (λ z. r y || z) (any_same (λ e. is_met x e && r e) (λ e. is_met y.declared e && r e) (λ e. ap (λ t. t && r e) (met_same x y is e)) (take j es)))

      apart_is : (t : Bool) → alike env model y.declared.what x.what ≡ t →
          (not (alike env model y.declared.what x.what) || past.apart) ≡ (not (alike env model y.declared.what x.what) || list_any (λ e. is_met y.declared e && not (alike env model e.declared.what x.what)) (take j es))
      apart_is true same =
          ap (λ z. not (alike env model y.declared.what x.what) || z)
          (known.apart ∙ any_same (λ e. is_met y.declared e && not (alike env model e.declared.what y.declared.what)) (λ e. is_met y.declared e && not (alike env model e.declared.what x.what))
          (λ e. ap (λ z. is_met y.declared e && not z) (sym (alike_same env model y.declared.what x.what e.declared.what same))) (take j es))
      apart_is false same =
          ap (λ t. not t || past.apart) same
          ∙ sym (ap (λ t. not t || list_any (λ e. is_met y.declared e && not (alike env model e.declared.what x.what)) (take j es)) same)

      pub behind_known : IsPast env model (take k es) x (behind env model y.declared.what x.what past)
      behind_known = record {
        met = sym (some_any (is_met x) (λ e h. h) ∙ ap (λ t. t || list_any (is_met x) (take j es)) is);
        apart = apart_is (alike env model y.declared.what x.what) refl ∙ any_is (λ e. not (alike env model e.declared.what x.what));
        filled = ap (λ z. is_filled y.declared.what || z) known.filled ∙ any_is (λ e. is_filled e.declared.what);
        lengths = λ m.
            lengths_step past.lengths past.length (length_of env model y.declared.what) m
            ∙ ap (λ z. is_far (length_of env model y.declared.what) m || z) (known.lengths m)
            ∙ any_is (λ e. is_far (length_of env model e.declared.what) m);
      }

  -- ---- One after the other

  past_there : (pasts : List Past) (j : ℕ) → j < length pasts → (q : Past) × (slice_get pasts j ≡ Some q)
  past_there [] j l = absurd (none l)
    where
      none : j < 0 → ⊥
      none l = omega (arith, l)
  past_there (q ∷ pasts) zero l = (q, refl)
  past_there (q ∷ pasts) (suc j) l = past_there pasts j (omega (arith, l))

  pub past_known : (k left : ℕ) (x : s.Declared) (pasts : List Past) → k ≤ length env.entries → ArePasts env model k pasts → left ≡ last_where (is_met x) env.entries k → (left ≡ 0 → ⊥) →
      IsPast env model (take k env.entries) x (behind_at env model x.what (slice_get env.entries (left - 1)) (slice_get pasts (left - 1)))
  past_known k zero x pasts few all last some = absurd (some refl)
  past_known k (suc j) x pasts few all last some =
      let r = last_is (is_met x) env.entries k j few (sym last) in
      let less = r.0 in
      let long = all.0 in
      let q = past_there pasts j (omega (arith, less, long)) in
      let e : suc j - 1 ≡ j = omega arith in
      subst (λ n. IsPast env model (take k env.entries) x (behind_at env model x.what (slice_get env.entries n) (slice_get pasts n))) (sym e)
      (subst (λ o. IsPast env model (take k env.entries) x (behind_at env model x.what o (slice_get pasts j))) (sym r.2)
      (subst (λ u. IsPast env model (take k env.entries) x (behind_at env model x.what (Some r.1) u)) (sym q.1)
      (behind_known env.entries x k few j r.1 q.0 (sym last) r.2 r.3 (all.1 j q.0 q.1 r.1 r.2))))

  abbrev or_past : Past → Option Past → Past
  or_past q None = q
  or_past q (Some u) = u

  abbrev count_past : Option Past → ℕ
  count_past None = 0
  count_past (Some u) = 1

  no_past : (q : Past) → None ≡ Some q → ⊥
  no_past q h =
      let e : 0 ≡ 1 = ap count_past h in
      omega (arith, e)

  either : (pasts : List Past) (new : Past) (j : ℕ) (q : Past) → slice_get (pasts ++ new ∷ []) j ≡ Some q → (slice_get pasts j ≡ Some q) ⊎ ((j ≡ length pasts) × (new ≡ q))
  either [] new zero q h = inr (refl, ap (or_past new) h)
  either [] new (suc j) q h = absurd (no_past q h)
  either (u ∷ pasts) new zero q h = inl h
  either (u ∷ pasts) new (suc j) q h = elim (either pasts new j q h) [
    | inl r ↦ inl r
    | inr r ↦ inr (ap suc r.0, r.1)
  ]

  pub pasts_push : (k : ℕ) (pasts : List Past) (new : Past) → ArePasts env model k pasts → IsPastAt env model k new → ArePasts env model (k + 1) (pasts ++ new ∷ [])
  pasts_push k pasts new all is = (
    let a = length-append pasts (new ∷ []) in let long = all.0 in omega (arith, a, long),
    λ j q at. elim (either pasts new j q at) [
      | inl r ↦ all.1 j q r
      | inr r ↦ subst (λ u. IsPastAt env model j u) r.1 (subst (λ n. IsPastAt env model n new) (sym (r.0 ∙ all.0)) is)
    ],
  )

  pub room_at : (n place : ℕ) (y : Entry) (pasts : List Past) (past : Past) → ArePasts env model n pasts → slice_get env.entries place ≡ Some y → slice_get pasts place ≡ Some past →
      leave_no_room env model past y.declared ≡ list_any (d.clashes env model y.declared) (take place env.entries)
  room_at n place y pasts past all at there = room_is (take place env.entries) y.declared past (all.1 place past there y at)

  pub no_pasts : ArePasts env model 0 []
  no_pasts = (refl, λ k q h. absurd (no_past q h))
