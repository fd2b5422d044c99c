-- The modes that the machine goes through, as long as the tree is not too high.
use Rattle.std.proofs.Common.{◌≡◌, ℕ, suc, ◌≤◌, ◌<◌, max, List, [], ◌∷◌, Option, None, Some, Bool, true, false, ◌&&◌, if◌then◌else◌, leb, refl, ap, ◌∙◌, arith, le-leb, leb-false, leb-true, le_trans}
use Rattle.c_tree.specs.declared.symbol.SymbolAt.{SymbolAt}
use Rattle.c_tree.specs.declared.tree.PrefixOp.{PrefixOp}
use Rattle.c_tree.specs.declared.tree.PrefixOp.TheVariants as pre
use Rattle.c_tree.specs.Spelling.{level, operand_level, level_of}
use Rattle.c_tree.specs.Shape as sh
use Rattle.c_tree.specs.Tree.{Ex, eName, eNumber, eLetter, eParen, eCall, eIndex, ePostfix, ePrefix, eSizeof, eCast, eBinary, eCond, eAssign, eComma, Parts, no_parts, parts_and}
use Rattle.parse_machine.specs.Contexts.{Part, Bind, bBinary, bPrefix, bCast, bAssign, bElse, bComma, Opened, oParen, oIndex, oArgument, oThen, Declaring, Declared, Base, baseStatement, baseTest, baseDo, baseReturn, baseCase, baseStart, baseMore, baseStep, baseLength, baseInitial, basePart, Inner, inBase, inBind, inOpen, inConstant, Around, aroundCast, aroundSizeof, aroundParameter, aroundPlace, Mode, Value}
use Rattle.parse_machine.specs.Making.{above, tall, part, bound, bind_level}
use Rattle.parse_machine.specs.Heights as ht
use Rattle.parse_machine.specs.Heights.{least, high, around_high, low, depth, is_list}
use Rattle.parse_laws.proofs.Parts.{level_le, part_real}
use Rattle.parse_machine.specs.Expressions as ex
use Rattle.c_tree.specs.Height.{height, height_parts, height_words}
use Rattle.parse_machine.specs.Declarations.{Turn, turn}
use Rattle.parse_machine.specs.Steps as steps
use Rattle.std.proofs.Common.{◌⊎◌, inl, inr}
use Rattle.std.proofs.lemmas.Bool.{lt-leb}

abbrev pub limit : Option Turn → Option Turn
limit None = None
limit (Some u) = if leb (low u.mode) 200 then Some u else None

abbrev pub move : SymbolAt → Option Turn → Option Turn
move t None = None
move t (Some u) = limit (steps.next u.names t u.mode)

abbrev pub walk : List SymbolAt → Option Turn → Option Turn
walk [] o = o
walk (t ∷ ts) o = walk ts (move t o)

abbrev pub stand : Mode → List (List ℕ) → Option Turn
stand m ns = Some (turn m ns)

pub if_true : {A : Type 0} (c : Bool) (x y : A) → c ≡ true → (if c then x else y) ≡ x
if_true c x y h = rw h refl

pub if_false : {A : Type 0} (c : Bool) (x y : A) → c ≡ false → (if c then x else y) ≡ y
if_false c x y h = rw h refl

pub low_stands : (m : Mode) (ns : List (List ℕ)) → low m ≤ 200 → limit (stand m ns) ≡ stand m ns
low_stands m ns h = if_true (leb (low m) 200) (stand m ns) None (le-leb _ _ h)

-- one token
pub go : (t : SymbolAt) (ts : List SymbolAt) (m n : Mode) (ns ms : List (List ℕ)) → steps.next ns t m ≡ stand n ms → low n ≤ 200 → walk (t ∷ ts) (stand m ns) ≡ walk ts (stand n ms)
go t ts m n ns ms e h = ap (λ o. walk ts (limit o)) e ∙ ap (walk ts) (low_stands n ms h)

pub when_true : (c : Bool) (m : Mode) → c ≡ true → ex.when c m ≡ Some m
when_true c m h = rw h refl

pub and_true : (c d : Bool) → c ≡ true → d ≡ true → (c && d) ≡ true
and_true true d h g = g
and_true false d h g = cc

-- Heights rise with their parts.

above_cases : (h : ℕ) → ((h ≤ 200) × (above h ≡ suc h)) ⊎ ((200 < h) × (above h ≡ h))
above_cases h = above_at h (leb h 200) refl
  where
    above_at : (h : ℕ) (c : Bool) → leb h 200 ≡ c → ((h ≤ 200) × ((if c then suc h else h) ≡ suc h)) ⊎ ((200 < h) × ((if c then suc h else h) ≡ h))
    above_at h true e = inl (leb-true _ _ e, refl)
    above_at h false e = inr (leb-false _ _ e, refl)

pub above_is : (h : ℕ) → h ≤ 200 → above h ≡ suc h
above_is h p = if_true (leb h 200) (suc h) h (le-leb _ _ p)

pub above_mono : (h g : ℕ) → h ≤ g → above h ≤ above g
above_mono h g p = above_two h g p (above_cases h) (above_cases g)
  where
    above_two : (h g : ℕ) → h ≤ g → ((h ≤ 200) × (above h ≡ suc h)) ⊎ ((200 < h) × (above h ≡ h)) → ((g ≤ 200) × (above g ≡ suc g)) ⊎ ((200 < g) × (above g ≡ g)) → above h ≤ above g
    above_two h g p (inl a) (inl c) = omega (arith, a.1, c.1)
    above_two h g p (inl a) (inr c) = omega (arith, a.0, a.1, c.0, c.1)
    above_two h g p (inr a) (inl c) = omega (arith, a.0, a.1, c.0, c.1)
    above_two h g p (inr a) (inr c) = omega (arith, a.1, c.1)

if_mono : (c : Bool) (a x b y : ℕ) → a ≤ x → b ≤ y → (if c then a else b) ≤ (if c then x else y)
if_mono true a x b y p q = p
if_mono false a x b y p q = q

pub declarator_mono : (d : Declaring) (h g : ℕ) → h ≤ g → ht.declarator_high d h ≤ ht.declarator_high d g
declarator_mono d h g p = omega (arith, above_mono h g p)

pub parameters_mono : (d : Declaring) (h g : ℕ) → h ≤ g → ht.parameters_high d h ≤ ht.parameters_high d g
parameters_mono d h g p = if_mono (ht.is_first d) (suc h) (suc g) _ _ (omega arith) (declarator_mono d h g p)

pub declared_mono : (d : Declared) (h g : ℕ) → h ≤ g → ht.declared_high d h ≤ ht.declared_high d g
declared_mono d h g p =
    if_mono (ht.is_function d.form.value) _ _ _ _ (parameters_mono d.around (max d.form.height h) (max d.form.height g) (omega arith)) (declarator_mono d.around (max (max d.form.height (ht.form_needs d.form.value)) h) (max (max d.form.height (ht.form_needs d.form.value)) g) (omega arith))

base_mono : (x : Base) (h g : ℕ) → h ≤ g → ht.base_high x h ≤ ht.base_high x g
base_mono (baseStatement o) h g p = omega arith
base_mono (baseTest t at a o) h g p = omega arith
base_mono (baseDo at s x a o) h g p = omega arith
base_mono (baseReturn at o) h g p = omega arith
base_mono (baseCase at o) h g p = omega arith
base_mono (baseStart m at a o) h g p = omega arith
base_mono (baseMore m at a s o) h g p = omega arith
base_mono (baseStep m at a s e x o) h g p = omega arith
base_mono (baseLength d a) h g p = declarator_mono d.around (max h 1) (max g 1) (omega arith)
base_mono (baseInitial d at) h g p = declared_mono d h g p
base_mono (basePart d at a es c) h g p = declared_mono d (above (max h 1)) (above (max g 1)) (above_mono (max h 1) (max g 1) (omega arith))

bind_mono : (x : Bind) (h g : ℕ) → h ≤ g → ht.bind_high x h ≤ ht.bind_high x g
bind_mono (bBinary a o at) h g p = above_mono (max a.height h) (max a.height g) (omega arith)
bind_mono (bPrefix o at) h g p = above_mono h g p
bind_mono (bCast a ws c) h g p = above_mono (max (above ws.height) h) (max (above ws.height) g) (omega arith)
bind_mono (bAssign a o at) h g p = above_mono (max a.height h) (max a.height g) (omega arith)
bind_mono (bElse c x a y) h g p = above_mono (max (max c.height a.height) h) (max (max c.height a.height) g) (omega arith)
bind_mono (bComma es at) h g p = above_mono (max es.height h) (max es.height g) (omega arith)

open_mono : (x : Opened) (h g : ℕ) → h ≤ g → ht.open_high x h ≤ ht.open_high x g
open_mono (oParen a) h g p = above_mono h g p
open_mono (oIndex f x) h g p = above_mono (max f.height h) (max f.height g) (omega arith)
open_mono (oArgument f a es c) h g p = above_mono (max (max f.height es.height) h) (max (max f.height es.height) g) (omega arith)
open_mono (oThen c x) h g p = above_mono (max c.height h) (max c.height g) (omega arith)

mutual
  pub high_mono : (k : Inner) (h g : ℕ) → h ≤ g → high k h ≤ high k g
  high_mono (inBase x) h g p = base_mono x h g p
  high_mono (inBind x k) h g p = high_mono k (ht.bind_high x h) (ht.bind_high x g) (bind_mono x h g p)
  high_mono (inOpen x k) h g p = high_mono k (ht.open_high x h) (ht.open_high x g) (open_mono x h g p)
  high_mono (inConstant w s e es c n at a) h g p =
      let i = above_mono h g p in
      let j = above_mono (max es.height (above h)) (max es.height (above g)) (omega (arith, i)) in
      around_mono w (max s.height (above (max es.height (above h)))) (max s.height (above (max es.height (above g)))) (omega (arith, j))

  pub around_mono : (w : Around) (h g : ℕ) → h ≤ g → around_high w h ≤ around_high w g
  around_mono (aroundCast a k) h g p = high_mono k (above (above h)) (above (above g)) (above_mono (above h) (above g) (above_mono h g p))
  around_mono (aroundSizeof at a k) h g p = high_mono k (above (above h)) (above (above g)) (above_mono (above h) (above g) (above_mono h g p))
  around_mono (aroundParameter d a ps c) h g p =
      let i = above_mono h g p in
      parameters_mono d.around (above (max ps.height (above h))) (above (max ps.height (above g))) (above_mono (max ps.height (above h)) (max ps.height (above g)) (omega (arith, i)))
  around_mono (aroundPlace q) h g p = omega (arith, above_mono h g p)

pub lower : (k : Inner) (h g : ℕ) → high k g ≤ 200 → h ≤ g → high k h ≤ 200
lower k h g p q = le_trans (high_mono k h g q) p

-- Expressions as they are.

abbrev pub whole : Ex → Part
whole e = record { value = e; level = level_of e; height = height e }

pub part_whole : (l h : ℕ) (e : Ex) → l ≡ level_of e → h ≡ height e → height e ≤ 200 → part l h e ≡ whole e
part_whole l h e p q r =
    ap (λ v. record { value = v; level = l; height = h }) (part_real l h e (omega (arith, q, r)))
    ∙ ap (λ x. record { value = e; level = x; height = h }) p
    ∙ ap (λ x. record { value = e; level = level_of e; height = x }) q

pub height_some : (e : Ex) → 1 ≤ height e
height_some (eName n at) = omega arith
height_some (eNumber v f at) = omega arith
height_some (eLetter v at) = omega arith
height_some (eParen a e c) = omega arith
height_some (eCall f a es c) = omega arith
height_some (eIndex a x i y) = omega arith
height_some (ePostfix e c at) = omega arith
height_some (ePrefix o at e) = omega arith
height_some (eSizeof at a ws c) = omega arith
height_some (eCast a ws c e) = omega arith
height_some (eBinary a o at c) = omega arith
height_some (eCond c x a y d) = omega arith
height_some (eAssign a o at c) = omega arith
height_some (eComma es) = omega arith

-- what is open once an expression's tokens are read
abbrev mutual
  pub opened : Ex → Inner → ex.Held
  opened (ePrefix o at e) k = opened e (inBind (bPrefix o at) k)
  opened (eCast a ws c e) k = opened e (inBind (bCast a (tall ws (height_words ws)) c) k)
  opened (eBinary a o at c) k = opened c (inBind (bBinary (whole a) o at) k)
  opened (eCond c x a y d) k = opened d (inBind (bElse (whole c) x (whole a) y) k)
  opened (eAssign a o at c) k = opened c (inBind (bAssign (whole a) o at) k)
  opened (eComma es) k = opened_parts es k
  opened (eName n at) k = ex.held (whole (eName n at)) k
  opened (eNumber v f at) k = ex.held (whole (eNumber v f at)) k
  opened (eLetter v at) k = ex.held (whole (eLetter v at)) k
  opened (eParen a e c) k = ex.held (whole (eParen a e c)) k
  opened (eCall f a es c) k = ex.held (whole (eCall f a es c)) k
  opened (eIndex a x i y) k = ex.held (whole (eIndex a x i y)) k
  opened (ePostfix e c at) k = ex.held (whole (ePostfix e c at)) k
  opened (eSizeof at a ws c) k = ex.held (whole (eSizeof at a ws c)) k

  -- the last part of a comma expression is open
  pub opened_parts : Parts → Inner → ex.Held
  opened_parts no_parts k = ex.held (whole (eComma no_parts)) k
  opened_parts (parts_and es None e) k = ex.held (whole (eComma (parts_and es None e))) k
  opened_parts (parts_and es (Some at) e) k = opened e (inBind (bComma (tall es (height_parts es)) at) k)

abbrev pub valued : ex.Held → Mode
valued h = Value h.value h.around

-- the greatest level at which an expression is made whole
abbrev pub pull : Ex → ℕ
pull (eBinary a o at c) = level o
pull (eCond c x a y d) = 1
pull (eAssign a o at c) = 1
pull (eComma es) = 0
pull _ = 15

pub pull_near : (e : Ex) → level_of e ≤ suc (pull e)
pull_near (eName n at) = omega arith
pull_near (eNumber v f at) = omega arith
pull_near (eLetter v at) = omega arith
pull_near (eParen a e c) = omega arith
pull_near (eCall f a es c) = omega arith
pull_near (eIndex a x i y) = omega arith
pull_near (ePostfix e c at) = omega arith
pull_near (ePrefix o at e) = omega arith
pull_near (eSizeof at a ws c) = omega arith
pull_near (eCast a ws c e) = omega arith
pull_near (eBinary a o at c) = omega arith
pull_near (eCond c x a y d) = omega arith
pull_near (eAssign a o at c) = omega arith
pull_near (eComma es) = omega arith

-- from the levels of binary operators on
pub pull_of : (e : Ex) (n : ℕ) → n ≤ 12 → n ≤ level_of e → 3 ≤ n → n ≤ pull e
pull_of (eName n at) x l p q = omega arith
pull_of (eNumber v f at) x l p q = omega arith
pull_of (eLetter v at) x l p q = omega arith
pull_of (eParen a e c) x l p q = omega arith
pull_of (eCall f a es c) x l p q = omega arith
pull_of (eIndex a y i z) x l p q = omega arith
pull_of (ePostfix e c at) x l p q = omega arith
pull_of (ePrefix o at e) x l p q = omega arith
pull_of (eSizeof at a ws c) x l p q = omega arith
pull_of (eCast a ws c e) x l p q = omega arith
pull_of (eBinary a o at c) x l p q = omega arith
pull_of (eCond c y a z d) x l p q = omega arith
pull_of (eAssign a o at c) x l p q = omega arith
pull_of (eComma es) x l p q = omega arith

abbrev pub refold : ℕ → ex.Held → ex.Held
refold n h = ex.fold h.around n h.value

pub operand_ge : (o : PrefixOp) → 13 ≤ operand_level o
operand_ge pre.Increment = omega arith
operand_ge pre.Decrement = omega arith
operand_ge pre.Plus = omega arith
operand_ge pre.Minus = omega arith
operand_ge pre.Complement = omega arith
operand_ge pre.Not = omega arith
operand_ge pre.Extension = omega arith
operand_ge pre.Sizeof = omega arith

-- an assignment or what binds tighter is made whole by a comma
pub pull_one : (e : Ex) → 1 ≤ level_of e → 1 ≤ pull e
pull_one (eName n at) h = omega arith
pull_one (eNumber v f at) h = omega arith
pull_one (eLetter v at) h = omega arith
pull_one (eParen a e c) h = omega arith
pull_one (eCall f a es c) h = omega arith
pull_one (eIndex a x i y) h = omega arith
pull_one (ePostfix e c at) h = omega arith
pull_one (ePrefix o at e) h = omega arith
pull_one (eSizeof at a ws c) h = omega arith
pull_one (eCast a ws c e) h = omega arith
pull_one (eBinary a o at c) h = omega arith
pull_one (eCond c x a y d) h = omega arith
pull_one (eAssign a o at c) h = omega arith
pull_one (eComma es) h = omega arith

-- an operator that is made whole
pub fold_bind : (x : Bind) (k : Inner) (n : ℕ) (e : Part) (v : Ex) → n ≤ bind_level x → bound x e ≡ whole v → ex.fold (inBind x k) n e ≡ ex.fold k n (whole v)
fold_bind x k n e v p q = if_true (leb n (bind_level x)) (ex.fold k n (bound x e)) (ex.held e (inBind x k)) (le-leb _ _ p) ∙ ap (ex.fold k n) q

mutual
  pub fold_opened : (ns : List (List ℕ)) (e : Ex) → sh.Shaped ns e → (k : Inner) (n : ℕ) → n ≤ pull e → n ≤ 12 → height e ≤ 200 → refold n (opened e k) ≡ ex.fold k n (whole e)
  fold_opened ns (eName x at) s k n p l h = refl
  fold_opened ns (eNumber v f at) s k n p l h = refl
  fold_opened ns (eLetter v at) s k n p l h = refl
  fold_opened ns (eParen a e c) s k n p l h = refl
  fold_opened ns (eCall f a es c) s k n p l h = refl
  fold_opened ns (eIndex a x i y) s k n p l h = refl
  fold_opened ns (ePostfix e c at) s k n p l h = refl
  fold_opened ns (eSizeof at a ws c) s k n p l h = refl
  fold_opened ns (ePrefix o at e) s k n p l h =
      fold_opened ns e s.1 (inBind (bPrefix o at) k) n (omega (arith, pull_near e, s.0, operand_ge o)) l (omega arith)
      ∙ fold_bind (bPrefix o at) k n (whole e) (ePrefix o at e) (omega arith) (part_whole 14 _ (ePrefix o at e) refl (above_is (height e) (omega arith)) h)
  fold_opened ns (eCast a ws c e) s k n p l h =
      fold_opened ns e s.3 (inBind (bCast a (tall ws (height_words ws)) c) k) n (omega (arith, pull_near e, s.0)) l (omega arith)
      ∙ fold_bind (bCast a (tall ws (height_words ws)) c) k n (whole e) (eCast a ws c e) (omega arith) (part_whole 13 _ (eCast a ws c e) refl (ap (λ z. above (max z (height e))) (above_is (height_words ws) (omega arith)) ∙ above_is (max (suc (height_words ws)) (height e)) (omega arith)) h)
  fold_opened ns (eBinary a o at c) s k n p l h =
      fold_opened ns c s.3 (inBind (bBinary (whole a) o at) k) n (omega (arith, pull_near c, s.1)) l (omega arith)
      ∙ fold_bind (bBinary (whole a) o at) k n (whole c) (eBinary a o at c) p (part_whole (level o) _ (eBinary a o at c) refl (above_is (max (height a) (height c)) (omega arith)) h)
  fold_opened ns (eCond c x a y d) s k n p l h =
      fold_opened ns d s.4 (inBind (bElse (whole c) x (whole a) y) k) n (omega (arith, pull_near d, s.1)) l (omega arith)
      ∙ fold_bind (bElse (whole c) x (whole a) y) k n (whole d) (eCond c x a y d) p (part_whole 2 _ (eCond c x a y d) refl (above_is (max (max (height c) (height a)) (height d)) (omega arith)) h)
  fold_opened ns (eAssign a o at c) s k n p l h =
      fold_opened ns c s.3 (inBind (bAssign (whole a) o at) k) n (omega (arith, pull_one c s.1, p)) l (omega arith)
      ∙ fold_bind (bAssign (whole a) o at) k n (whole c) (eAssign a o at c) p (part_whole 1 _ (eAssign a o at c) refl (above_is (max (height a) (height c)) (omega arith)) h)
  fold_opened ns (eComma es) s k n p l h = fold_parts ns es s.0 s.1 k n p l h

  fold_parts : (ns : List (List ℕ)) (es : Parts) → sh.are_several es ≡ true → sh.ShapedParts ns es → (k : Inner) (n : ℕ) → n ≤ 0 → n ≤ 12 → height (eComma es) ≤ 200 → refold n (opened_parts es k) ≡ ex.fold k n (whole (eComma es))
  fold_parts ns no_parts m s k n p l h = refl
  fold_parts ns (parts_and es None e) m s k n p l h = refl
  fold_parts ns (parts_and es (Some at) e) m s k n p l h =
      fold_opened ns e s.3 (inBind (bComma (tall es (height_parts es)) at) k) n (omega (arith, p)) l (omega arith)
      ∙ fold_bind (bComma (tall es (height_parts es)) at) k n (whole e) (eComma (parts_and es (Some at) e)) p (part_whole 0 _ (eComma (parts_and es (Some at) e)) refl (above_is (max (height_parts es) (height e)) (omega arith)) h)

-- where nothing is made whole
abbrev pub Stays : ℕ → Inner → Type 0
Stays n (inBind x k) = bind_level x < n
Stays n _ = Unit {0}

pub fold_stays : (k : Inner) (n : ℕ) (e : Part) → Stays n k → ex.fold k n e ≡ ex.held e k
fold_stays (inBind x k) n e h = if_false (leb n (bind_level x)) _ _ (lt-leb _ _ h)
fold_stays (inBase x) n e h = refl
fold_stays (inOpen x k) n e h = refl
fold_stays (inConstant w s y es c z at a) n e h = refl

pub stays_of : (k : Inner) (n : ℕ) → least k ≤ n → 2 ≤ n → n ≤ 12 → Stays n k
stays_of (inBind (bBinary a o at) k) n p q l = omega arith
stays_of (inBind (bPrefix o at) k) n p q l = absurd (omega (arith, operand_ge o))
stays_of (inBind (bCast a ws c) k) n p q l = absurd (omega arith)
stays_of (inBind (bAssign a o at) k) n p q l = omega arith
stays_of (inBind (bElse c x a y) k) n p q l = omega arith
stays_of (inBind (bComma es at) k) n p q l = omega arith
stays_of (inBase x) n p q l = tt
stays_of (inOpen x k) n p q l = tt
stays_of (inConstant w s y es c z at a) n p q l = tt

-- behind a postfix expression nothing is open
pub opened_postfix : (e : Ex) (k : Inner) → 15 ≤ level_of e → opened e k ≡ ex.held (whole e) k
opened_postfix (eName n at) k h = refl
opened_postfix (eNumber v f at) k h = refl
opened_postfix (eLetter v at) k h = refl
opened_postfix (eParen a e c) k h = refl
opened_postfix (eCall f a es c) k h = refl
opened_postfix (eIndex a x i y) k h = refl
opened_postfix (ePostfix e c at) k h = refl
opened_postfix (ePrefix o at e) k h = absurd (omega arith)
opened_postfix (eSizeof at a ws c) k h = absurd (omega arith)
opened_postfix (eCast a ws c e) k h = absurd (omega arith)
opened_postfix (eBinary a o at c) k h = absurd (omega (arith, level_le o))
opened_postfix (eCond c x a y d) k h = absurd (omega arith)
opened_postfix (eAssign a o at c) k h = absurd (omega arith)
opened_postfix (eComma es) k h = absurd (omega arith)
