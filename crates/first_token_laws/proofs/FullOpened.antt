-- What the machine that keeps each tree has open once an expression's tokens are read, and what makes it whole.
use Rattle.first_token_laws.proofs.Full as full
use Rattle.std.proofs.Common.{◌≡◌, ℕ, ◌≤◌, List, None, Some, true, refl, ◌∙◌, arith, le-leb, leb}
use Rattle.c_tree.specs.Shape as sh
use Rattle.c_tree.specs.Tree.{Ex, eName, eNumber, eLetter, eParen, eCall, eIndex, ePostfix, ePrefix, eSizeof, eCast, eBinary, eCond, eAssign, eComma, Parts, no_parts, parts_and}
use Rattle.parse_machine.specs.Contexts.{inBase, inOpen, inConstant, Part, Bind, bBinary, bPrefix, bCast, bAssign, bElse, bComma, Inner, inBind, Mode, Value}
use Rattle.parse_machine.specs.Making.{tall, bind_level}
use Rattle.parse_machine.specs.Expressions as ex
use Rattle.std.proofs.lemmas.Bool.{lt-leb}
use Rattle.parse_laws.proofs.Walk.{if_true, if_false, pull, pull_near, pull_one, operand_ge, Stays}
use Rattle.high_tree_laws.proofs.Kept.{counted_words}
use Rattle.first_token_laws.proofs.FullLeads.{whole, whole_parts}

abbrev mutual
  pub opened : Ex → Inner → ex.Held
  opened (ePrefix o at e) k = opened e (inBind (bPrefix o at) k)
  opened (eCast a ws c e) k = opened e (inBind (bCast a (tall ws (counted_words ws)) c) k)
  opened (eBinary a o at c) k = opened c (inBind (bBinary (whole a) o at) k)
  opened (eCond c x a y d) k = opened d (inBind (bElse (whole c) x (whole a) y) k)
  opened (eAssign a o at c) k = opened c (inBind (bAssign (whole a) o at) k)
  opened (eComma es) k = opened_parts es k
  opened (eName n at) k = ex.held (whole (eName n at)) k
  opened (eNumber v f at) k = ex.held (whole (eNumber v f at)) k
  opened (eLetter v at) k = ex.held (whole (eLetter v at)) k
  opened (eParen a e c) k = ex.held (whole (eParen a e c)) k
  opened (eCall f a es c) k = ex.held (whole (eCall f a es c)) k
  opened (eIndex a x i y) k = ex.held (whole (eIndex a x i y)) k
  opened (ePostfix e c at) k = ex.held (whole (ePostfix e c at)) k
  opened (eSizeof at a ws c) k = ex.held (whole (eSizeof at a ws c)) k

  -- the last part of a comma expression is open
  pub opened_parts : Parts → Inner → ex.Held
  opened_parts no_parts k = ex.held (whole (eComma no_parts)) k
  opened_parts (parts_and es None e) k = ex.held (whole (eComma (parts_and es None e))) k
  opened_parts (parts_and es (Some at) e) k = opened e (inBind (bComma (whole_parts es) at) k)

abbrev pub valued : ex.Held → Mode
valued h = Value h.value h.around

abbrev pub refold : ℕ → ex.Held → ex.Held
refold n h = full.fold h.around n h.value

-- where nothing is made whole
fold_stays : (k : Inner) (n : ℕ) (e : Part) → Stays n k → full.fold k n e ≡ ex.held e k
fold_stays (inBind x k) n e h = if_false (leb n (bind_level x)) _ _ (lt-leb _ _ h)
fold_stays (inBase x) n e h = refl
fold_stays (inOpen x k) n e h = refl
fold_stays (inConstant w s y es c z at a) n e h = refl

-- an operator that is made whole
pub fold_bind : (x : Bind) (k : Inner) (n : ℕ) (e : Part) → n ≤ bind_level x → full.fold (inBind x k) n e ≡ full.fold k n (full.bound x e)
fold_bind x k n e p = if_true (leb n (bind_level x)) (full.fold k n (full.bound x e)) (ex.held e (inBind x k)) (le-leb _ _ p)

mutual
  pub fold_opened : (ns : List (List ℕ)) (e : Ex) → sh.Shaped ns e → (k : Inner) (n : ℕ) → n ≤ pull e → n ≤ 12 → refold n (opened e k) ≡ full.fold k n (whole e)
  fold_opened ns (eName x at) s k n p l = refl
  fold_opened ns (eNumber v f at) s k n p l = refl
  fold_opened ns (eLetter v at) s k n p l = refl
  fold_opened ns (eParen a e c) s k n p l = refl
  fold_opened ns (eCall f a es c) s k n p l = refl
  fold_opened ns (eIndex a x i y) s k n p l = refl
  fold_opened ns (ePostfix e c at) s k n p l = refl
  fold_opened ns (eSizeof at a ws c) s k n p l = refl
  fold_opened ns (ePrefix o at e) s k n p l =
      fold_opened ns e s.1 (inBind (bPrefix o at) k) n (omega (arith, pull_near e, s.0, operand_ge o)) l ∙ fold_bind (bPrefix o at) k n (whole e) (omega arith)
  fold_opened ns (eCast a ws c e) s k n p l =
      fold_opened ns e s.3 (inBind (bCast a (tall ws (counted_words ws)) c) k) n (omega (arith, pull_near e, s.0)) l ∙ fold_bind (bCast a (tall ws (counted_words ws)) c) k n (whole e) (omega arith)
  fold_opened ns (eBinary a o at c) s k n p l =
      fold_opened ns c s.3 (inBind (bBinary (whole a) o at) k) n (omega (arith, pull_near c, s.1)) l ∙ fold_bind (bBinary (whole a) o at) k n (whole c) p
  fold_opened ns (eCond c x a y d) s k n p l =
      fold_opened ns d s.4 (inBind (bElse (whole c) x (whole a) y) k) n (omega (arith, pull_near d, s.1)) l ∙ fold_bind (bElse (whole c) x (whole a) y) k n (whole d) p
  fold_opened ns (eAssign a o at c) s k n p l =
      fold_opened ns c s.3 (inBind (bAssign (whole a) o at) k) n (omega (arith, pull_one c s.1, p)) l ∙ fold_bind (bAssign (whole a) o at) k n (whole c) p
  fold_opened ns (eComma es) s k n p l = fold_parts ns es s.0 s.1 k n p l

  fold_parts : (ns : List (List ℕ)) (es : Parts) → sh.are_several es ≡ true → sh.ShapedParts ns es → (k : Inner) (n : ℕ) → n ≤ 0 → n ≤ 12 → refold n (opened_parts es k) ≡ full.fold k n (whole (eComma es))
  fold_parts ns no_parts m s k n p l = refl
  fold_parts ns (parts_and es None e) m s k n p l = refl
  fold_parts ns (parts_and es (Some at) e) m s k n p l =
      fold_opened ns e s.3 (inBind (bComma (whole_parts es) at) k) n (omega (arith, p)) l ∙ fold_bind (bComma (whole_parts es) at) k n (whole e) p

-- what a token finds behind an expression
pub folded : (ns : List (List ℕ)) (e : Ex) (k : Inner) (n : ℕ) → sh.Shaped ns e → n ≤ pull e → n ≤ 12 → Stays n k → refold n (opened e k) ≡ ex.held (whole e) k
folded ns e k n s p l q = fold_opened ns e s k n p l ∙ fold_stays k n (whole e) q
