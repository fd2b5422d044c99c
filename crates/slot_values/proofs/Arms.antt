-- What arms and loops of values give, by the answers of the calls in them.
use Rattle.std.proofs.Common.{◌≡◌, ℕ, suc, ◌<◌, ◌+◌, Bool, List, [], ◌∷◌, ◌++◌, length, take, drop, get_or, pos, append_assoc, Option, Result, Ok, Err, ap, ◌∙◌, sym, Vec, Global, arith}
use Rattle.std.specs.Prelude.{IfOk, Box}
use Rattle.lv_base.specs.declared.kind.Kind.{Kind}
use Rattle.c_run.specs.Operators.{Use, used, dropped}
use Rattle.c_typed.specs.declared.tree.Value.{Value}
use Rattle.c_typed.specs.declared.tree.Value.TheVariants as va
use Rattle.c_typed.specs.View.{value, values_of}
use Rattle.step_values.proofs.Rows.{values_taken}
use Rattle.slot_code.specs.declared.flat.Instruction.{Instruction}
use Rattle.slot_code.specs.declared.flat.Instruction.TheVariants as ins
use Rattle.slot_code.specs.Values.{number_of, is_needed, kept_code}
use Rattle.slot_values.specs.declared.scene.Scene.{Scene}
use Rattle.slot_values.specs.Ends as ends
use Rattle.slot_values.specs.Seen.{value_code, values_code, drops_code}
use Rattle.slot_values.proofs.Views.{value_Call, value_Comma, number_is}
use Rattle.slot_values.proofs.Rows.{take_front, drop_front}

-- ---- Parts that are skipped

skipped_is : (front second all : List Instruction) (y : Instruction) (slot at more : ℕ) → at ≡ length front → all ≡ (front ++ y ∷ []) ++ second →
    ends.skipped slot at more all ≡ front ++ ins.SkipZero slot (length second + more) ∷ second
skipped_is front second all y slot at more a e =
    ap (λ z. ends.skipped slot z more all) a ∙ ap (ends.skipped slot (length front) more) e
    ∙ ap (λ z. z ++ ins.SkipZero slot (length (drop (suc (length front)) ((front ++ y ∷ []) ++ second)) + more) ∷ drop (suc (length front)) ((front ++ y ∷ []) ++ second)) (take_front front second y)
    ∙ ap (λ z. front ++ ins.SkipZero slot (length z + more) ∷ z) (drop_front front second y)

jumped_is : (front second all : List Instruction) (y : Instruction) (at more : ℕ) → at ≡ length front → all ≡ (front ++ y ∷ []) ++ second →
    ends.jumped at more all ≡ front ++ ins.Jump (length second + more) ∷ second
jumped_is front second all y at more a e =
    ap (λ z. ends.jumped z more all) a ∙ ap (ends.jumped (length front) more) e
    ∙ ap (λ z. z ++ ins.Jump (length (drop (suc (length front)) ((front ++ y ∷ []) ++ second)) + more) ∷ drop (suc (length front)) ((front ++ y ∷ []) ++ second)) (take_front front second y)
    ∙ ap (λ z. front ++ ins.Jump (length z + more) ∷ z) (drop_front front second y)

module _ (s : Scene) (slot : ℕ) where
  -- code of a value that is used
  abbrev used_in : Value → List Instruction
  used_in x = value_code s used slot (value x)

  pub both_arm : {A B : Type 0} (u : Use) (x : Value) (p q : Box Value Global) (a b : Value) (old mid opened all new : List Instruction) (at : ℕ) (o : Result A B) →
      x ≡ va.Both p q → a ≡ p.value → b ≡ q.value → mid ≡ old ++ used_in a → opened ≡ mid ++ ins.SkipZero slot 0 ∷ [] → at ≡ length mid → all ≡ opened ++ used_in b →
      IfOk o (λ _. new ≡ ends.skipped slot at 2 all ++ ins.Truth slot ∷ ins.Jump 1 ∷ ins.Constant slot (pos 0) ∷ []) → IfOk o (λ _. new ≡ old ++ value_code s u slot (value x))
  both_arm u x p q a b old mid opened all new at (Ok y) is f g m k t w n =
      let tail : List Instruction = ins.Truth slot ∷ ins.Jump 1 ∷ ins.Constant slot (pos 0) ∷ [] in
      let half : List Instruction = ins.SkipZero slot (length (used_in b) + 2) ∷ used_in b in
      n ∙ ap (λ z. z ++ tail) (skipped_is mid (used_in b) all (ins.SkipZero slot 0) slot at 2 t (w ∙ ap (λ z. z ++ used_in b) k))
      ∙ ap (λ z. (z ++ half) ++ tail) m ∙ ap (λ z. z ++ tail) (append_assoc old (used_in a) half) ∙ append_assoc old (used_in a ++ half) tail
      ∙ ap (λ (z : Value). old ++ ((used_in z ++ half) ++ tail)) f
      ∙ ap (λ (z : Value). old ++ ((used_in p.value ++ (ins.SkipZero slot (length (used_in z) + 2) ∷ used_in z)) ++ tail)) g
      ∙ sym (ap (λ z. old ++ value_code s u slot (value z)) is)
  both_arm u x p q a b old mid opened all new at (Err y) is f g m k t w n = n

  pub either_arm : {A B : Type 0} (u : Use) (x : Value) (p q : Box Value Global) (a b : Value) (old mid opened all new : List Instruction) (at : ℕ) (o : Result A B) →
      x ≡ va.Either p q → a ≡ p.value → b ≡ q.value → mid ≡ old ++ used_in a → opened ≡ (mid ++ ins.SkipZero slot 2 ∷ ins.Constant slot (pos 1) ∷ []) ++ ins.Jump 0 ∷ [] →
      at ≡ length (mid ++ ins.SkipZero slot 2 ∷ ins.Constant slot (pos 1) ∷ []) → all ≡ opened ++ used_in b →
      IfOk o (λ _. new ≡ ends.jumped at 1 all ++ ins.Truth slot ∷ []) → IfOk o (λ _. new ≡ old ++ value_code s u slot (value x))
  either_arm u x p q a b old mid opened all new at (Ok y) is f g m k t w n =
      let tail : List Instruction = ins.Truth slot ∷ [] in
      let one : List Instruction = ins.SkipZero slot 2 ∷ ins.Constant slot (pos 1) ∷ [] in
      let half : List Instruction = ins.Jump (length (used_in b) + 1) ∷ used_in b in
      let whole : List Instruction = ins.SkipZero slot 2 ∷ ins.Constant slot (pos 1) ∷ ins.Jump (length (used_in b) + 1) ∷ used_in b in
      n ∙ ap (λ z. z ++ tail) (jumped_is (mid ++ one) (used_in b) all (ins.Jump 0) at 1 t (w ∙ ap (λ z. z ++ used_in b) k))
      ∙ ap (λ z. z ++ tail) (append_assoc mid one half)
      ∙ ap (λ z. (z ++ whole) ++ tail) m ∙ ap (λ z. z ++ tail) (append_assoc old (used_in a) whole) ∙ append_assoc old (used_in a ++ whole) tail
      ∙ ap (λ (z : Value). old ++ ((used_in z ++ whole) ++ tail)) f
      ∙ ap (λ (z : Value). old ++ ((used_in p.value ++ (ins.SkipZero slot 2 ∷ ins.Constant slot (pos 1) ∷ ins.Jump (length (used_in z) + 1) ∷ used_in z)) ++ tail)) g
      ∙ sym (ap (λ z. old ++ value_code s u slot (value z)) is)
  either_arm u x p q a b old mid opened all new at (Err y) is f g m k t w n = n

  pub cond_arm : {A B : Type 0} (u : Use) (x : Value) (kind : Option Kind) (r p q : Box Value Global) (test a b : Value) (old mid one first closed two second new : List Instruction) (at to : ℕ) (o : Result A B) →
      x ≡ va.Cond kind r p q → test ≡ r.value → a ≡ p.value → b ≡ q.value → mid ≡ old ++ used_in test → one ≡ mid ++ ins.SkipZero slot 0 ∷ [] → at ≡ length mid → first ≡ one ++ used_in a →
      closed ≡ ends.skipped slot at 1 first → two ≡ closed ++ ins.Jump 0 ∷ [] → to ≡ length closed → second ≡ two ++ used_in b →
      IfOk o (λ _. new ≡ ends.jumped to 0 second ++ kept_code slot kind) → IfOk o (λ _. new ≡ old ++ value_code s u slot (value x))
  cond_arm u x kind r p q test a b old mid one first closed two second new at to (Ok y) is e f g m k t w j l d v n =
      let tail : List Instruction = kept_code slot kind in
      let half : List Instruction = ins.SkipZero slot (length (used_in a) + 1) ∷ used_in a in
      let rest : List Instruction = ins.Jump (length (used_in b)) ∷ used_in b in
      let none : length (used_in b) + 0 ≡ length (used_in b) = omega arith in
      n ∙ ap (λ z. z ++ tail) (jumped_is closed (used_in b) second (ins.Jump 0) to 0 d (v ∙ ap (λ z. z ++ used_in b) l))
      ∙ ap (λ z. (closed ++ ins.Jump z ∷ used_in b) ++ tail) none
      ∙ ap (λ z. (z ++ rest) ++ tail) (j ∙ skipped_is mid (used_in a) first (ins.SkipZero slot 0) slot at 1 t (w ∙ ap (λ z. z ++ used_in a) k))
      ∙ ap (λ z. ((z ++ half) ++ rest) ++ tail) m
      ∙ ap (λ z. (z ++ rest) ++ tail) (append_assoc old (used_in test) half) ∙ ap (λ z. z ++ tail) (append_assoc old (used_in test ++ half) rest) ∙ append_assoc old ((used_in test ++ half) ++ rest) tail
      ∙ ap (λ (z : Value). old ++ (((used_in z ++ half) ++ rest) ++ tail)) e
      ∙ ap (λ (z : Value). old ++ (((used_in r.value ++ (ins.SkipZero slot (length (used_in z) + 1) ∷ used_in z)) ++ rest) ++ tail)) f
      ∙ ap (λ (z : Value). old ++ (((used_in r.value ++ (ins.SkipZero slot (length (used_in p.value) + 1) ∷ used_in p.value)) ++ (ins.Jump (length (used_in z)) ∷ used_in z)) ++ tail)) g
      ∙ sym (ap (λ z. old ++ value_code s u slot (value z)) is)
  cond_arm u x kind r p q test a b old mid one first closed two second new at to (Err y) is e f g m k t w j l d v n = n

  pub values_step : (xs : List Value) (i : ℕ) (x : Value) (place : ℕ) (old all new : List Instruction) → i < length xs → x ≡ get_or xs i x → place ≡ slot + number_of (values_of (take i xs)) →
      all ≡ old ++ values_code s slot (values_of (take i xs)) → new ≡ all ++ value_code s used place (value x) → new ≡ old ++ values_code s slot (values_of (take (i + 1) xs))
  values_step xs i x place old all new h e p m n =
      n ∙ ap (λ z. z ++ value_code s used place (value x)) m ∙ append_assoc old (values_code s slot (values_of (take i xs))) (value_code s used place (value x))
      ∙ ap (λ z. old ++ (values_code s slot (values_of (take i xs)) ++ value_code s used z (value x))) p
      ∙ ap (λ y. old ++ (values_code s slot (values_of (take i xs)) ++ value_code s used (slot + number_of (values_of (take i xs))) (value y))) e
      ∙ ap (λ z. old ++ values_code s slot z) (sym (values_taken xs i x h))

  pub place_step : (xs : List Value) (i : ℕ) (x : Value) (place next : ℕ) → i < length xs → place ≡ slot + number_of (values_of (take i xs)) → next ≡ suc place → next ≡ slot + number_of (values_of (take (i + 1) xs))
  place_step xs i x place next h p n =
      n ∙ ap suc p ∙ (let e : suc (slot + number_of (values_of (take i xs))) ≡ slot + suc (number_of (values_of (take i xs))) = omega arith in e) ∙ ap (λ z. slot + number_of z) (sym (values_taken xs i x h))

  pub drops_step : (xs : List Value) (i : ℕ) (x : Value) (old all new : List Instruction) → i < length xs → x ≡ get_or xs i x →
      all ≡ old ++ drops_code s slot (values_of (take i xs)) → new ≡ all ++ value_code s dropped slot (value x) → new ≡ old ++ drops_code s slot (values_of (take (i + 1) xs))
  drops_step xs i x old all new h e m n =
      n ∙ ap (λ z. z ++ value_code s dropped slot (value x)) m ∙ append_assoc old (drops_code s slot (values_of (take i xs))) (value_code s dropped slot (value x))
      ∙ ap (λ y. old ++ (drops_code s slot (values_of (take i xs)) ++ value_code s dropped slot (value y))) e
      ∙ ap (λ z. old ++ drops_code s slot z) (sym (values_taken xs i x h))

  pub call_arm : {A B : Type 0} (u : Use) (x : Value) (k : Option Kind) (at bracket f : ℕ) (vs : Vec Value Global) (list : List Value) (needed : Bool) (count : ℕ) (old mid new : List Instruction) (o : Result A B) →
      x ≡ va.Call k at bracket f vs → list ≡ vs.items → needed ≡ is_needed u k → count ≡ length list → mid ≡ old ++ values_code s slot (values_of list) →
      IfOk o (λ _. new ≡ mid ++ ends.call s slot at needed f count) → IfOk o (λ _. new ≡ old ++ value_code s u slot (value x))
  call_arm u x k at bracket f vs list needed count old mid new (Ok y) is a d l m n =
      n ∙ ap (λ z. mid ++ ends.call s slot at z f count) d
      ∙ ap (λ z. mid ++ ends.call s slot at (is_needed u k) f z) (l ∙ ap length a ∙ sym (number_is vs.items))
      ∙ ap (λ z. z ++ ends.call s slot at (is_needed u k) f (number_of (values_of vs.items))) (m ∙ ap (λ z. old ++ values_code s slot (values_of z)) a)
      ∙ append_assoc old (values_code s slot (values_of vs.items)) (ends.call s slot at (is_needed u k) f (number_of (values_of vs.items)))
      ∙ sym (ap (λ z. old ++ value_code s u slot (value z)) is ∙ ap (λ z. old ++ value_code s u slot z) (value_Call k at bracket f vs))
  call_arm u x k at bracket f vs list needed count old mid new (Err y) is a d l m n = n

  pub comma_arm : {A B : Type 0} (u : Use) (x : Value) (vs : Vec Value Global) (q : Box Value Global) (list : List Value) (last : Value) (old mid new : List Instruction) (o : Result A B) →
      x ≡ va.Comma vs q → list ≡ vs.items → last ≡ q.value → mid ≡ old ++ drops_code s slot (values_of list) →
      IfOk o (λ _. new ≡ mid ++ value_code s used slot (value last)) → IfOk o (λ _. new ≡ old ++ value_code s u slot (value x))
  comma_arm u x vs q list last old mid new (Ok y) is a b m n =
      n ∙ ap (λ z. mid ++ value_code s used slot (value z)) b ∙ ap (λ z. z ++ value_code s used slot (value q.value)) (m ∙ ap (λ z. old ++ drops_code s slot (values_of z)) a)
      ∙ append_assoc old (drops_code s slot (values_of vs.items)) (value_code s used slot (value q.value))
      ∙ sym (ap (λ z. old ++ value_code s u slot (value z)) is ∙ ap (λ z. old ++ value_code s u slot z) (value_Comma vs q))
  comma_arm u x vs q list last old mid new (Err y) is a b m n = n
