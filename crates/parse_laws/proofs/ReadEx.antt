-- The machine goes through each shaped expression that is not too high.
use Rattle.std.proofs.Common.{◌≡◌, ℕ, zero, suc, ◌≤◌, max, List, [], ◌∷◌, Option, None, Some, Bool, true, false, if◌then◌else◌, leb, refl, subst, sym, ap, ◌∙◌, arith, le-leb, le_trans}
use Rattle.c_tree.specs.declared.symbol.BinaryOp.{BinaryOp}
use Rattle.c_tree.specs.declared.symbol.BinaryOp.TheVariants as op
use Rattle.c_tree.specs.declared.symbol.Bracket.{Bracket}
use Rattle.c_tree.specs.declared.symbol.Bracket.TheVariants as br
use Rattle.c_tree.specs.declared.symbol.AttributeWord.{AttributeWord}
use Rattle.c_tree.specs.declared.symbol.Symbol.{Symbol}
use Rattle.c_tree.specs.declared.symbol.Symbol.TheVariants as sy
use Rattle.c_tree.specs.declared.symbol.SymbolAt.{SymbolAt}
use Rattle.c_tree.specs.declared.tree.PrefixOp.{PrefixOp}
use Rattle.c_tree.specs.declared.tree.PrefixOp.TheVariants as pre
use Rattle.c_tree.specs.declared.known.Site.{Site}
use Rattle.c_tree.specs.declared.known.Known.{Known}
use Rattle.c_tree.specs.Symbols.{sign}
use Rattle.c_tree.specs.Spelling.{level, operand_level, level_of, opening, closing, prefix_symbol, spell, spell_raw, spell_attribute}
use Rattle.c_tree.specs.Shape as sh
use Rattle.c_tree.specs.Words.{with_word}
use Rattle.c_tree.specs.Tree.{Raw, no_raw, raw_and, At, attribute, Ex, eName, eNumber, eLetter, eParen, eCall, eIndex, ePostfix, ePrefix, eSizeof, eCast, eBinary, eCond, eAssign, eComma, Parts, no_parts, Words, Word, wTag, Ens, no_enumerators, plain_and, valued_and}
use Rattle.parse_machine.specs.Tokens.{Prefix, prefix_of, Suffix, suffix_of, spec_of, SpecKind, spTypedef, spOther, start_of, is_else, Skip, skipOn, skipClose, skipEnd, skip_of, is_awaited}
use Rattle.parse_machine.specs.Contexts.{Part, Spoken, bBinary, bPrefix, bCast, bAssign, bElse, bComma, oParen, oIndex, oArgument, oThen, EnumHead, baseStatement, baseTest, baseDo, baseReturn, baseCase, baseStart, baseMore, baseStep, baseLength, baseInitial, basePart, Inner, inBase, inBind, inOpen, inConstant, Around, Listing, Attributed, forkCast, forkSizeof, waitAttribute, Mode, Specifiers, Tagged, Constant, Named, Attribute, Wait, Either, Operand, Sizeof}
use Rattle.parse_machine.specs.Making as mk
use Rattle.parse_machine.specs.Making.{above, tall, part, bound, bind_level}
use Rattle.parse_machine.specs.Heights as ht
use Rattle.parse_machine.specs.Heights.{least, high, around_high, low, depth, is_list}
use Rattle.parse_laws.proofs.Parts.{high_ge, level_le}
use Rattle.parse_machine.specs.Expressions as ex
use Rattle.c_tree.specs.Height.{height, height_parts, height_words}
use Rattle.parse_machine.specs.Declarations.{kept}
use Rattle.parse_machine.specs.Steps as steps
use Rattle.parse_machine.specs.Specifiers as sp
use Rattle.parse_laws.proofs.Walk.{limit, walk, stand, go, when_true, and_true, above_is, lower, whole, height_some, opened, valued, pull, pull_of, refold, fold_opened, Stays, fold_stays, stays_of, operand_ge}
use Rattle.parse_laws.proofs.First.{fork_low_first, first_fork}
use Rattle.std.specs.Option.{option_and_then}
use Rattle.c_tree.specs.Height.{height_enumerators}
use Rattle.parse_machine.specs.Tokens as tok

-- Words.

abbrev pub is_open_curly : Symbol → Bool
is_open_curly (sy.Open br.Curly) = true
is_open_curly _ = false

-- no `{` follows
abbrev pub NoOpen : List SymbolAt → Type 0
NoOpen [] = ⊥
NoOpen (t ∷ ts) = is_open_curly t.symbol ≡ false

abbrev pub worded : Words → Known → Spoken
worded ws k = mk.spoken ws k (height_words ws)

pub some_same : {A : Type 0} (a c : A) → Some a ≡ Some c → a ≡ c
some_same a c h = cc

pub record Before' (s : Site) (x : Word) (o : Option Known) (k : Known) : Type 0 where
  pub told : Known
  pub was : o ≡ Some told
  pub gives : with_word s x told ≡ Some k

pub known_before : (s : Site) (x : Word) (o : Option Known) (k : Known) → option_and_then (with_word s x) o ≡ Some k → Before' s x o k
known_before s x None k h = cc
known_before s x (Some z) k h = record { told = z; was = refl; gives = h }

tagged_on : (names : List (List ℕ)) (t : Symbol) (at x : ℕ) (n : List ℕ) (y : ℕ) (s : Spoken) (w : Around) → is_open_curly t ≡ false → sp.step_tagged names t at x n y s w ≡ sp.step_specs names t at (mk.said s s.told (wTag x n y) 1) w
tagged_on names (sy.Open br.Curly) at x n y s w h = cc
tagged_on names _ at x n y s w h = refl

-- behind a tag
pub tagged_reads : (ns : List (List ℕ)) (x : ℕ) (n : List ℕ) (y : ℕ) (s : Spoken) (w : Around) (rest : List SymbolAt) → NoOpen rest → walk rest (stand (Tagged x n y s w) ns) ≡ walk rest (stand (Specifiers (mk.said s s.told (wTag x n y) 1) w) ns)
tagged_reads ns x n y s w [] h = absurd h
tagged_reads ns x n y s w (t ∷ ts) h = ap (λ o. walk ts (limit (kept ns o))) (tagged_on ns t.symbol t.at x n y s w h)

-- tokens that are kept as they stand
skip_on : (ns : List (List ℕ)) (w : AttributeWord) (x a : ℕ) (r : Raw) (t : SymbolAt) (n m : ℕ) (y : Attributed) (rest : List SymbolAt) → skip_of br.Round t.symbol n ≡ skipOn m → ht.attributed_high y ≤ 200 → walk (t ∷ rest) (stand (Attribute w x a r n y) ns) ≡ walk rest (stand (Attribute w x a (raw_and r t) m y) ns)
skip_on ns w x a r t n m y rest e h = go t rest (Attribute w x a r n y) (Attribute w x a (raw_and r t) m y) ns ns (ap (λ k. kept ns (steps.attribute_skip k t w x a r y)) e) h

pub some_nat : (a c : ℕ) → Some a ≡ Some c → a ≡ c
some_nat a c h = cc

-- one token more keeps the depth
skip_depth : (t : Symbol) (n m : ℕ) → sh.depth_behind br.Round t n ≡ Some m → skip_of br.Round t n ≡ skipOn m
skip_depth (sy.Open br.Round) n m h = ap skipOn (some_nat (suc n) m h)
skip_depth (sy.Open br.Square) n m h = ap skipOn (some_nat n m h)
skip_depth (sy.Open br.Curly) n m h = ap skipOn (some_nat n m h)
skip_depth (sy.Close br.Round) zero m h = cc
skip_depth (sy.Close br.Round) (suc n) m h = ap skipOn (some_nat n m h)
skip_depth (sy.Close br.Square) n m h = ap skipOn (some_nat n m h)
skip_depth (sy.Close br.Curly) n m h = ap skipOn (some_nat n m h)
skip_depth sy.End n m h = cc
skip_depth t n m h = ap skipOn (some_nat n m h)

pub record Depth (c : Bracket) (s : Symbol) (o : Option ℕ) (m : ℕ) : Type 0 where
  pub depth : ℕ
  pub was : o ≡ Some depth
  pub gives : sh.depth_behind c s depth ≡ Some m

pub depth_before : (c : Bracket) (s : Symbol) (o : Option ℕ) (m : ℕ) → sh.depth_on c s o ≡ Some m → Depth c s o m
depth_before c s None m h = cc
depth_before c s (Some n) m h = record { depth = n; was = refl; gives = h }

raw_reads : (ns : List (List ℕ)) (w : AttributeWord) (x a : ℕ) (r : Raw) (m : ℕ) (y : Attributed) (rest : List SymbolAt) → sh.depth_of br.Round r ≡ Some m → ht.attributed_high y ≤ 200 → walk (spell_raw r rest) (stand (Attribute w x a no_raw 0 y) ns) ≡ walk rest (stand (Attribute w x a r m y) ns)
raw_reads ns w x a no_raw m y rest d h = ap (λ n. walk rest (stand (Attribute w x a no_raw n y) ns)) (some_nat 0 m d)
raw_reads ns w x a (raw_and r t) m y rest d h =
    let z = depth_before br.Round t.symbol (sh.depth_of br.Round r) m d in
    raw_reads ns w x a r z.depth y (t ∷ rest) z.was h ∙ skip_on ns w x a r t z.depth m y rest (skip_depth t.symbol z.depth m z.gives) h

-- an attribute
pub attribute_reads : (ns : List (List ℕ)) (x : At) (y : Attributed) (rest : List SymbolAt) (m : Mode) → sh.ShapedAttribute x → ((w : AttributeWord) (at : ℕ) → steps.next ns (sign (sy.Attribute w) at) m ≡ stand (Wait (waitAttribute w at y)) ns) → ht.attributed_high y ≤ 200 → low (steps.with_attribute y x) ≤ 200 → walk (spell_attribute x rest) (stand m ns) ≡ walk rest (stand (steps.with_attribute y x) ns)
attribute_reads ns (attribute w at a r z) y rest m d e h g =
    go (sign (sy.Attribute w) at) (opening br.Round a ∷ spell_raw r (closing br.Round z ∷ rest)) m (Wait (waitAttribute w at y)) ns ns (e w at) h
    ∙ go (opening br.Round a) (spell_raw r (closing br.Round z ∷ rest)) (Wait (waitAttribute w at y)) (Attribute w at a no_raw 0 y) ns ns refl h
    ∙ raw_reads ns w at a r 0 y (closing br.Round z ∷ rest) d h
    ∙ go (closing br.Round z) rest (Attribute w at a r 0 y) (steps.with_attribute y (attribute w at a r z)) ns ns refl g

-- Enumerations.

abbrev pub list_at : Around → Spoken → EnumHead → Ens → Option ℕ → Listing
list_at w s h es c = mk.listing w s h (tall es (height_enumerators es)) c

-- behind the last constant of a list
abbrev pub behind_constant : Around → Spoken → EnumHead → Ens → Mode
behind_constant w s h no_enumerators = Constant (list_at w s h no_enumerators None)
behind_constant w s h (plain_and es c n at) = Named (list_at w s h es c) n at
behind_constant w s h (valued_and es c n x a e) = valued (opened e (inConstant w s h (tall es (height_enumerators es)) c n x a))

abbrev pub enum_high : Around → Spoken → ℕ → ℕ
enum_high w s h = around_high w (max s.height (suc h))

-- `sizeof`

pub first_sizeof : (ns : List (List ℕ)) (x : ℕ) (k : Inner) (e : Ex) → sh.Shaped ns e → 14 ≤ level_of e → high (inBind (bPrefix pre.Sizeof x) k) (height e) ≤ 200 → (rest : List SymbolAt) → walk (spell e rest) (stand (Sizeof x k) ns) ≡ walk (spell e rest) (stand (Operand (inBind (bPrefix pre.Sizeof x) k)) ns)
first_sizeof ns x k (eName n at) s l h rest = refl
first_sizeof ns x k (eNumber v f at) s l h rest = refl
first_sizeof ns x k (eLetter v at) s l h rest = refl
first_sizeof ns x k (eParen a e c) s l h rest =
    let i = inBind (bPrefix pre.Sizeof x) k in
    let j : high (inOpen (oParen a) i) (height e) ≤ 200 = subst (λ z. high i z ≤ 200) (sym (above_is (height e) (omega (arith, high_ge i (suc (height e)), h)))) h in
    go (opening br.Round a) (spell e (closing br.Round c ∷ rest)) (Sizeof x k) (Either (forkSizeof x a k) []) ns ns refl (fork_low_first (forkSizeof x a k) (height e) (height_some e) j)
    ∙ first_fork ns (forkSizeof x a k) [] e s j (closing br.Round c ∷ rest)
    ∙ sym (go (opening br.Round a) (spell e (closing br.Round c ∷ rest)) (Operand i) (Operand (inOpen (oParen a) i)) ns ns refl (lower (inOpen (oParen a) i) 1 (height e) j (height_some e)))
first_sizeof ns x k (eCall f a es c) s l h rest = first_sizeof ns x k f s.1 (omega (arith, s.0)) (lower (inBind (bPrefix pre.Sizeof x) k) (height f) (height (eCall f a es c)) h (omega arith)) _
first_sizeof ns x k (eIndex f a i y) s l h rest = first_sizeof ns x k f s.1 (omega (arith, s.0)) (lower (inBind (bPrefix pre.Sizeof x) k) (height f) (height (eIndex f a i y)) h (omega arith)) _
first_sizeof ns x k (ePostfix e c at) s l h rest = first_sizeof ns x k e s.1 (omega (arith, s.0)) (lower (inBind (bPrefix pre.Sizeof x) k) (height e) (height (ePostfix e c at)) h (omega arith)) _
first_sizeof ns x k (ePrefix pre.Increment at e) s l h rest = refl
first_sizeof ns x k (ePrefix pre.Decrement at e) s l h rest = refl
first_sizeof ns x k (ePrefix pre.Plus at e) s l h rest = refl
first_sizeof ns x k (ePrefix pre.Minus at e) s l h rest = refl
first_sizeof ns x k (ePrefix pre.Complement at e) s l h rest = refl
first_sizeof ns x k (ePrefix pre.Not at e) s l h rest = refl
first_sizeof ns x k (ePrefix pre.Extension at e) s l h rest = refl
first_sizeof ns x k (ePrefix pre.Sizeof at e) s l h rest = refl
first_sizeof ns x k (eSizeof at a ws c) s l h rest = refl
first_sizeof ns x k (eCast a ws c e) s l h rest = absurd (omega (arith, l))
first_sizeof ns x k (eBinary a o at c) s l h rest = absurd (omega (arith, l, level_le o))
first_sizeof ns x k (eCond c y a z d) s l h rest = absurd (omega (arith, l))
first_sizeof ns x k (eAssign a o at c) s l h rest = absurd (omega (arith, l))
first_sizeof ns x k (eComma es) s l h rest = absurd (omega (arith, l))

-- Brackets.

pub paren_opens : (ns : List (List ℕ)) (a : ℕ) (k : Inner) (e : Ex) (c : Bool) → leb (least k) 13 ≡ c → sh.Shaped ns e → high (inOpen (oParen a) k) (height e) ≤ 200 → (rest : List SymbolAt) → walk (opening br.Round a ∷ spell e rest) (stand (Operand k) ns) ≡ walk (spell e rest) (stand (Operand (inOpen (oParen a) k)) ns)
paren_opens ns a k e true q s h rest =
    go (opening br.Round a) (spell e rest) (Operand k) (Either (forkCast a k) []) ns ns (ap (λ c. stand (if c then Either (forkCast a k) [] else Operand (inOpen (oParen a) k)) ns) q) (fork_low_first (forkCast a k) (height e) (height_some e) h)
    ∙ first_fork ns (forkCast a k) [] e s h rest
paren_opens ns a k e false q s h rest =
    go (opening br.Round a) (spell e rest) (Operand k) (Operand (inOpen (oParen a) k)) ns ns (ap (λ c. stand (if c then Either (forkCast a k) [] else Operand (inOpen (oParen a) k)) ns) q) (lower (inOpen (oParen a) k) 1 (height e) h (height_some e))

pub prefix_opens : (ns : List (List ℕ)) (o : PrefixOp) (at : ℕ) (k : Inner) (e : Ex) → sh.Shaped ns e → operand_level o ≤ level_of e → high (inBind (bPrefix o at) k) (height e) ≤ 200 → high k (suc (height e)) ≤ 200 → (rest : List SymbolAt) → walk (sign (prefix_symbol o) at ∷ spell e rest) (stand (Operand k) ns) ≡ walk (spell e rest) (stand (Operand (inBind (bPrefix o at) k)) ns)
prefix_opens ns pre.Increment at k e s l h g rest = go (sign (prefix_symbol pre.Increment) at) (spell e rest) (Operand k) (Operand (inBind (bPrefix pre.Increment at) k)) ns ns refl (lower (inBind (bPrefix pre.Increment at) k) 1 (height e) h (height_some e))
prefix_opens ns pre.Decrement at k e s l h g rest = go (sign (prefix_symbol pre.Decrement) at) (spell e rest) (Operand k) (Operand (inBind (bPrefix pre.Decrement at) k)) ns ns refl (lower (inBind (bPrefix pre.Decrement at) k) 1 (height e) h (height_some e))
prefix_opens ns pre.Plus at k e s l h g rest = go (sign (prefix_symbol pre.Plus) at) (spell e rest) (Operand k) (Operand (inBind (bPrefix pre.Plus at) k)) ns ns refl (lower (inBind (bPrefix pre.Plus at) k) 1 (height e) h (height_some e))
prefix_opens ns pre.Minus at k e s l h g rest = go (sign (prefix_symbol pre.Minus) at) (spell e rest) (Operand k) (Operand (inBind (bPrefix pre.Minus at) k)) ns ns refl (lower (inBind (bPrefix pre.Minus at) k) 1 (height e) h (height_some e))
prefix_opens ns pre.Complement at k e s l h g rest = go (sign (prefix_symbol pre.Complement) at) (spell e rest) (Operand k) (Operand (inBind (bPrefix pre.Complement at) k)) ns ns refl (lower (inBind (bPrefix pre.Complement at) k) 1 (height e) h (height_some e))
prefix_opens ns pre.Not at k e s l h g rest = go (sign (prefix_symbol pre.Not) at) (spell e rest) (Operand k) (Operand (inBind (bPrefix pre.Not at) k)) ns ns refl (lower (inBind (bPrefix pre.Not at) k) 1 (height e) h (height_some e))
prefix_opens ns pre.Extension at k e s l h g rest = go (sign (prefix_symbol pre.Extension) at) (spell e rest) (Operand k) (Operand (inBind (bPrefix pre.Extension at) k)) ns ns refl (lower (inBind (bPrefix pre.Extension at) k) 1 (height e) h (height_some e))
prefix_opens ns pre.Sizeof at k e s l h g rest =
    go (sign sy.Sizeof at) (spell e rest) (Operand k) (Sizeof at k) ns ns refl (lower k 2 (suc (height e)) g (omega (arith, height_some e)))
    ∙ first_sizeof ns at k e s l h rest

-- what a token finds behind an expression
pub folded : (ns : List (List ℕ)) (e : Ex) (k : Inner) (n : ℕ) → sh.Shaped ns e → n ≤ pull e → n ≤ 12 → high k (height e) ≤ 200 → Stays n k → refold n (opened e k) ≡ ex.held (whole e) k
folded ns e k n s p l h q = fold_opened ns e s k n p l (le_trans (high_ge k (height e)) h) ∙ fold_stays k n (whole e) q

pub level_ge : (o : BinaryOp) → 3 ≤ level o
level_ge op.OrElse = omega arith
level_ge op.AndAlso = omega arith
level_ge op.BitOr = omega arith
level_ge op.BitXor = omega arith
level_ge op.BitAnd = omega arith
level_ge op.Equal = omega arith
level_ge op.NotEqual = omega arith
level_ge op.Less = omega arith
level_ge op.Greater = omega arith
level_ge op.LessEqual = omega arith
level_ge op.GreaterEqual = omega arith
level_ge op.ShiftLeft = omega arith
level_ge op.ShiftRight = omega arith
level_ge op.Add = omega arith
level_ge op.Subtract = omega arith
level_ge op.Multiply = omega arith
level_ge op.Divide = omega arith
level_ge op.Remainder = omega arith

pub operator : (ns : List (List ℕ)) (o : BinaryOp) (at : ℕ) (a : Ex) (k : Inner) → sh.Shaped ns a → level o ≤ level_of a → least k ≤ level o → high k (height a) ≤ 200 → steps.next ns (sign (sy.Binary o) at) (valued (opened a k)) ≡ stand (Operand (inBind (bBinary (whole a) o at) k)) ns
operator ns o at a k s h l g =
    ap (λ x. kept ns (ex.step_held (tok.sufBinary o) at x)) (folded ns a k (level o) s (pull_of a (level o) (level_le o) h (level_ge o)) (level_le o) g (stays_of k (level o) l (omega (arith, level_ge o)) (level_le o)))
    ∙ ap (kept ns) (when_true _ (Operand (inBind (bBinary (whole a) o at) k)) (and_true (leb (least k) (level o)) (leb (level o) (level_of a)) (le-leb _ _ l) (le-leb _ _ h)))

abbrev pub argument : Ex → ℕ → Parts → Option ℕ → Inner → Inner
argument f a es c k = inOpen (oArgument (whole f) a (tall es (height_parts es)) c) k

-- where the first part of a comma expression may stand
pub sequence_is : (at : ℕ) (e : Part) (k : Inner) → least k ≤ 0 → 1 ≤ e.level → ex.comma at e k ≡ Some (Operand (inBind (bComma (mk.one_more (tall no_parts 0) None e) at) k))
sequence_is at e (inBase (baseStatement o)) h l = when_true _ _ (and_true true (leb 1 e.level) refl (le-leb _ _ l))
sequence_is at e (inBase (baseTest t x a o)) h l = when_true _ _ (and_true true (leb 1 e.level) refl (le-leb _ _ l))
sequence_is at e (inBase (baseDo x s y a o)) h l = when_true _ _ (and_true true (leb 1 e.level) refl (le-leb _ _ l))
sequence_is at e (inBase (baseReturn x o)) h l = when_true _ _ (and_true true (leb 1 e.level) refl (le-leb _ _ l))
sequence_is at e (inBase (baseCase x o)) h l = absurd (omega (arith, h))
sequence_is at e (inBase (baseStart m x a o)) h l = when_true _ _ (and_true true (leb 1 e.level) refl (le-leb _ _ l))
sequence_is at e (inBase (baseMore m x a s o)) h l = when_true _ _ (and_true true (leb 1 e.level) refl (le-leb _ _ l))
sequence_is at e (inBase (baseStep m x a s y z o)) h l = when_true _ _ (and_true true (leb 1 e.level) refl (le-leb _ _ l))
sequence_is at e (inBase (baseLength d a)) h l = absurd (omega (arith, h))
sequence_is at e (inBase (baseInitial d x)) h l = absurd (omega (arith, h))
sequence_is at e (inBase (basePart d x a es c)) h l = absurd (omega (arith, h))
sequence_is at e (inBind (bBinary a o x) k) h l = absurd (omega (arith, h))
sequence_is at e (inBind (bPrefix o x) k) h l = absurd (omega (arith, h, operand_ge o))
sequence_is at e (inBind (bCast a ws x) k) h l = absurd (omega (arith, h))
sequence_is at e (inBind (bAssign a o x) k) h l = absurd (omega (arith, h))
sequence_is at e (inBind (bElse c x a y) k) h l = absurd (omega (arith, h))
sequence_is at e (inBind (bComma es x) k) h l = absurd (omega (arith, h))
sequence_is at e (inOpen (oParen a) k) h l = when_true _ _ (and_true true (leb 1 e.level) refl (le-leb _ _ l))
sequence_is at e (inOpen (oIndex f x) k) h l = when_true _ _ (and_true true (leb 1 e.level) refl (le-leb _ _ l))
sequence_is at e (inOpen (oArgument f a es c) k) h l = absurd (omega (arith, h))
sequence_is at e (inOpen (oThen c x) k) h l = when_true _ _ (and_true true (leb 1 e.level) refl (le-leb _ _ l))
sequence_is at e (inConstant w s y es c n x a) h l = absurd (omega (arith, h))

pub stays_low : (k : Inner) → least k ≤ 0 → Stays 1 k
stays_low (inBind (bBinary a o x) k) h = absurd (omega (arith, h))
stays_low (inBind (bPrefix o x) k) h = absurd (omega (arith, h, operand_ge o))
stays_low (inBind (bCast a ws x) k) h = absurd (omega (arith, h))
stays_low (inBind (bAssign a o x) k) h = absurd (omega (arith, h))
stays_low (inBind (bElse c x a y) k) h = absurd (omega (arith, h))
stays_low (inBind (bComma es x) k) h = absurd (omega (arith, h))
stays_low (inBase x) h = tt
stays_low (inOpen x k) h = tt
stays_low (inConstant w s y es c n x a) h = tt
