-- The machine that keeps each tree goes through each shaped expression of any height.
use Rattle.first_token_laws.proofs.Full as full
use Rattle.std.proofs.Common.{◌≡◌, ℕ, zero, suc, ◌≤◌, List, [], ◌∷◌, Option, None, Some, Bool, true, false, if◌then◌else◌, leb, refl, ap, ◌∙◌, arith, le-leb}
use Rattle.c_tree.specs.declared.symbol.BinaryOp.{BinaryOp}
use Rattle.c_tree.specs.declared.symbol.Bracket.TheVariants as br
use Rattle.c_tree.specs.declared.symbol.AttributeWord.{AttributeWord}
use Rattle.c_tree.specs.declared.symbol.Symbol.{Symbol}
use Rattle.c_tree.specs.declared.symbol.Symbol.TheVariants as sy
use Rattle.c_tree.specs.declared.symbol.SymbolAt.{SymbolAt}
use Rattle.c_tree.specs.declared.tree.PrefixOp.{PrefixOp}
use Rattle.c_tree.specs.declared.tree.PrefixOp.TheVariants as pre
use Rattle.c_tree.specs.declared.known.Known.{Known}
use Rattle.c_tree.specs.Symbols.{sign}
use Rattle.c_tree.specs.Spelling.{level, operand_level, level_of, opening, closing, prefix_symbol, spell, spell_words, spell_raw, spell_attribute}
use Rattle.c_tree.specs.Shape as sh
use Rattle.c_tree.specs.Tree.{Raw, no_raw, raw_and, At, attribute, Ex, eName, eNumber, eLetter, eParen, eCall, eIndex, ePostfix, ePrefix, eSizeof, eCast, eBinary, eCond, eAssign, eComma, Parts, Words, wTag, Ens, no_enumerators, plain_and, valued_and}
use Rattle.parse_machine.specs.Tokens as tok
use Rattle.parse_machine.specs.Tokens.{preOperator, prefix_of, skipOn, skip_of}
use Rattle.parse_machine.specs.Contexts.{Spoken, bBinary, bPrefix, oParen, oArgument, EnumHead, Inner, inBind, inOpen, inConstant, Around, Listing, Attributed, forkCast, forkSizeof, waitAttribute, Mode, Specifiers, Tagged, Constant, Named, Attribute, Wait, Either, Operand, Sizeof}
use Rattle.parse_machine.specs.Making as mk
use Rattle.parse_machine.specs.Heights.{least}
use Rattle.parse_machine.specs.Declarations.{kept}
use Rattle.parse_machine.specs.Steps as steps
use Rattle.parse_laws.proofs.Parts.{level_le}
use Rattle.parse_laws.proofs.Walk.{when_true, and_true, pull_of, stays_of}
use Rattle.parse_laws.proofs.ReadEx.{NoOpen, is_open_curly, some_nat, depth_before, level_ge}
use Rattle.high_tree_laws.proofs.Kept.{counted_words}
use Rattle.first_token_laws.proofs.FullLeads.{whole, whole_parts, whole_constants}
use Rattle.first_token_laws.proofs.FullLeads.{Leads, stand, ◌then◌, stays, go, same}
use Rattle.first_token_laws.proofs.FullOpened.{opened, valued, folded}
use Rattle.first_token_laws.proofs.FullFirst.{first_fork, back}

-- Words.

abbrev pub worded : Words → Known → Spoken
worded ws k = mk.spoken ws k (counted_words ws)

abbrev pub argument : Ex → ℕ → Parts → Option ℕ → Inner → Inner
argument f a es c k = inOpen (oArgument (whole f) a (whole_parts es) c) k

tagged_on : (names : List (List ℕ)) (t : Symbol) (at x : ℕ) (n : List ℕ) (y : ℕ) (s : Spoken) (w : Around) → is_open_curly t ≡ false → full.step_tagged names t at x n y s w ≡ full.step_specs names t at (mk.said s s.told (wTag x n y) 1) w
tagged_on names (sy.Open br.Curly) at x n y s w h = cc
tagged_on names _ at x n y s w h = refl

-- behind a tag
pub tagged_reads : (ns : List (List ℕ)) (x : ℕ) (n : List ℕ) (y : ℕ) (s : Spoken) (w : Around) (rest : List SymbolAt) → NoOpen rest → Leads rest (stand (Tagged x n y s w) ns) rest (stand (Specifiers (mk.said s s.told (wTag x n y) 1) w) ns)
tagged_reads ns x n y s w [] h = absurd h
tagged_reads ns x n y s w (t ∷ ts) h = same t ts (stand (Tagged x n y s w) ns) (stand (Specifiers (mk.said s s.told (wTag x n y) 1) w) ns) (ap (kept ns) (tagged_on ns t.symbol t.at x n y s w h))

-- one token more keeps the depth
skip_depth : (t : Symbol) (n m : ℕ) → sh.depth_behind br.Round t n ≡ Some m → skip_of br.Round t n ≡ skipOn m
skip_depth (sy.Open br.Round) n m h = ap skipOn (some_nat (suc n) m h)
skip_depth (sy.Open br.Square) n m h = ap skipOn (some_nat n m h)
skip_depth (sy.Open br.Curly) n m h = ap skipOn (some_nat n m h)
skip_depth (sy.Close br.Round) zero m h = cc
skip_depth (sy.Close br.Round) (suc n) m h = ap skipOn (some_nat n m h)
skip_depth (sy.Close br.Square) n m h = ap skipOn (some_nat n m h)
skip_depth (sy.Close br.Curly) n m h = ap skipOn (some_nat n m h)
skip_depth sy.End n m h = cc
skip_depth t n m h = ap skipOn (some_nat n m h)

-- tokens that are kept as they stand
raw_reads : (ns : List (List ℕ)) (w : AttributeWord) (x a : ℕ) (r : Raw) (m : ℕ) (y : Attributed) (rest : List SymbolAt) → sh.depth_of br.Round r ≡ Some m → Leads (spell_raw r rest) (stand (Attribute w x a no_raw 0 y) ns) rest (stand (Attribute w x a r m y) ns)
raw_reads ns w x a no_raw m y rest d = stays rest (stand (Attribute w x a no_raw 0 y) ns) (stand (Attribute w x a no_raw m y) ns) (ap (λ n. stand (Attribute w x a no_raw n y) ns) (some_nat 0 m d))
raw_reads ns w x a (raw_and r t) m y rest d =
    let z = depth_before br.Round t.symbol (sh.depth_of br.Round r) m d in
    (
    raw_reads ns w x a r z.depth y (t ∷ rest) z.was
    then go t rest (Attribute w x a r z.depth y) (Attribute w x a (raw_and r t) m y) ns ns (ap (λ k. kept ns (steps.attribute_skip k t w x a r y)) (skip_depth t.symbol z.depth m z.gives)))

-- an attribute
pub attribute_reads : (ns : List (List ℕ)) (x : At) (y : Attributed) (rest : List SymbolAt) (m : Mode) → sh.ShapedAttribute x → ((w : AttributeWord) (at : ℕ) → full.next ns (sign (sy.Attribute w) at) m ≡ stand (Wait (waitAttribute w at y)) ns) → Leads (spell_attribute x rest) (stand m ns) rest (stand (steps.with_attribute y x) ns)
attribute_reads ns (attribute w at a r z) y rest m d e =
    (
    go (sign (sy.Attribute w) at) (opening br.Round a ∷ spell_raw r (closing br.Round z ∷ rest)) m (Wait (waitAttribute w at y)) ns ns (e w at)
    then go (opening br.Round a) (spell_raw r (closing br.Round z ∷ rest)) (Wait (waitAttribute w at y)) (Attribute w at a no_raw 0 y) ns ns refl
    then raw_reads ns w at a r 0 y (closing br.Round z ∷ rest) d
    then go (closing br.Round z) rest (Attribute w at a r 0 y) (steps.with_attribute y (attribute w at a r z)) ns ns refl)

-- Enumerations.

abbrev pub list_at : Around → Spoken → EnumHead → Ens → Option ℕ → Listing
list_at w s h es c = mk.listing w s h (whole_constants es) c

-- behind the last constant of a list
abbrev pub behind_constant : Around → Spoken → EnumHead → Ens → Mode
behind_constant w s h no_enumerators = Constant (list_at w s h no_enumerators None)
behind_constant w s h (plain_and es c n at) = Named (list_at w s h es c) n at
behind_constant w s h (valued_and es c n x a e) = valued (opened e (inConstant w s h (whole_constants es) c n x a))

-- `sizeof`

pub first_sizeof : (ns : List (List ℕ)) (x : ℕ) (k : Inner) (e : Ex) → sh.Shaped ns e → 14 ≤ level_of e → (rest : List SymbolAt) → Leads (spell e rest) (stand (Sizeof x k) ns) (spell e rest) (stand (Operand (inBind (bPrefix pre.Sizeof x) k)) ns)
first_sizeof ns x k (eName n at) s l rest = same (sign (sy.Name n) at) rest (stand (Sizeof x k) ns) (stand (Operand (inBind (bPrefix pre.Sizeof x) k)) ns) refl
first_sizeof ns x k (eNumber v f at) s l rest = same (sign (sy.Number v f) at) rest (stand (Sizeof x k) ns) (stand (Operand (inBind (bPrefix pre.Sizeof x) k)) ns) refl
first_sizeof ns x k (eLetter v at) s l rest = same (sign (sy.Letter v) at) rest (stand (Sizeof x k) ns) (stand (Operand (inBind (bPrefix pre.Sizeof x) k)) ns) refl
first_sizeof ns x k (eParen a e c) s l rest =
    let i = inBind (bPrefix pre.Sizeof x) k in
    (
    go (opening br.Round a) (spell e (closing br.Round c ∷ rest)) (Sizeof x k) (Either (forkSizeof x a k) []) ns ns refl
    then first_fork ns (forkSizeof x a k) [] e s (closing br.Round c ∷ rest)
    then back (opening br.Round a) ns (Operand i) (inOpen (oParen a) i) e s (closing br.Round c ∷ rest) refl)
first_sizeof ns x k (eCall f a es c) s l rest = first_sizeof ns x k f s.1 (omega (arith, s.0)) _
first_sizeof ns x k (eIndex f a i y) s l rest = first_sizeof ns x k f s.1 (omega (arith, s.0)) _
first_sizeof ns x k (ePostfix e c at) s l rest = first_sizeof ns x k e s.1 (omega (arith, s.0)) _
first_sizeof ns x k (ePrefix pre.Increment at e) s l rest = same (sign (prefix_symbol pre.Increment) at) (spell e rest) (stand (Sizeof x k) ns) (stand (Operand (inBind (bPrefix pre.Sizeof x) k)) ns) refl
first_sizeof ns x k (ePrefix pre.Decrement at e) s l rest = same (sign (prefix_symbol pre.Decrement) at) (spell e rest) (stand (Sizeof x k) ns) (stand (Operand (inBind (bPrefix pre.Sizeof x) k)) ns) refl
first_sizeof ns x k (ePrefix pre.Plus at e) s l rest = same (sign (prefix_symbol pre.Plus) at) (spell e rest) (stand (Sizeof x k) ns) (stand (Operand (inBind (bPrefix pre.Sizeof x) k)) ns) refl
first_sizeof ns x k (ePrefix pre.Minus at e) s l rest = same (sign (prefix_symbol pre.Minus) at) (spell e rest) (stand (Sizeof x k) ns) (stand (Operand (inBind (bPrefix pre.Sizeof x) k)) ns) refl
first_sizeof ns x k (ePrefix pre.Complement at e) s l rest = same (sign (prefix_symbol pre.Complement) at) (spell e rest) (stand (Sizeof x k) ns) (stand (Operand (inBind (bPrefix pre.Sizeof x) k)) ns) refl
first_sizeof ns x k (ePrefix pre.Not at e) s l rest = same (sign (prefix_symbol pre.Not) at) (spell e rest) (stand (Sizeof x k) ns) (stand (Operand (inBind (bPrefix pre.Sizeof x) k)) ns) refl
first_sizeof ns x k (ePrefix pre.Extension at e) s l rest = same (sign (prefix_symbol pre.Extension) at) (spell e rest) (stand (Sizeof x k) ns) (stand (Operand (inBind (bPrefix pre.Sizeof x) k)) ns) refl
first_sizeof ns x k (ePrefix pre.Sizeof at e) s l rest = same (sign (prefix_symbol pre.Sizeof) at) (spell e rest) (stand (Sizeof x k) ns) (stand (Operand (inBind (bPrefix pre.Sizeof x) k)) ns) refl
first_sizeof ns x k (eSizeof at a ws c) s l rest = same (sign sy.Sizeof at) (opening br.Round a ∷ spell_words ws (closing br.Round c ∷ rest)) (stand (Sizeof x k) ns) (stand (Operand (inBind (bPrefix pre.Sizeof x) k)) ns) refl
first_sizeof ns x k (eCast a ws c e) s l rest = absurd (omega (arith, l))
first_sizeof ns x k (eBinary a o at c) s l rest = absurd (omega (arith, l, level_le o))
first_sizeof ns x k (eCond c y a z d) s l rest = absurd (omega (arith, l))
first_sizeof ns x k (eAssign a o at c) s l rest = absurd (omega (arith, l))
first_sizeof ns x k (eComma es) s l rest = absurd (omega (arith, l))

-- Brackets.

pub paren_opens : (ns : List (List ℕ)) (a : ℕ) (k : Inner) (e : Ex) (c : Bool) → leb (least k) 13 ≡ c → sh.Shaped ns e → (rest : List SymbolAt) → Leads (opening br.Round a ∷ spell e rest) (stand (Operand k) ns) (spell e rest) (stand (Operand (inOpen (oParen a) k)) ns)
paren_opens ns a k e true q s rest =
    (
    go (opening br.Round a) (spell e rest) (Operand k) (Either (forkCast a k) []) ns ns (ap (λ c. stand (if c then Either (forkCast a k) [] else Operand (inOpen (oParen a) k)) ns) q)
    then first_fork ns (forkCast a k) [] e s rest)
paren_opens ns a k e false q s rest =
    (go (opening br.Round a) (spell e rest) (Operand k) (Operand (inOpen (oParen a) k)) ns ns (ap (λ c. stand (if c then Either (forkCast a k) [] else Operand (inOpen (oParen a) k)) ns) q))

-- an operator that is no `sizeof`
operator_opens : (ns : List (List ℕ)) (o : PrefixOp) (at : ℕ) (k : Inner) (ts : List SymbolAt) → prefix_of (prefix_symbol o) ≡ preOperator o → Leads (sign (prefix_symbol o) at ∷ ts) (stand (Operand k) ns) ts (stand (Operand (inBind (bPrefix o at) k)) ns)
operator_opens ns o at k ts h = (go (sign (prefix_symbol o) at) ts (Operand k) (Operand (inBind (bPrefix o at) k)) ns ns (ap (λ p. kept ns (full.step_operand ns p at k)) h))

pub prefix_opens : (ns : List (List ℕ)) (o : PrefixOp) (at : ℕ) (k : Inner) (e : Ex) → sh.Shaped ns e → operand_level o ≤ level_of e → (rest : List SymbolAt) → Leads (sign (prefix_symbol o) at ∷ spell e rest) (stand (Operand k) ns) (spell e rest) (stand (Operand (inBind (bPrefix o at) k)) ns)
prefix_opens ns pre.Sizeof at k e s l rest =
    (
    go (sign sy.Sizeof at) (spell e rest) (Operand k) (Sizeof at k) ns ns refl
    then first_sizeof ns at k e s l rest)
prefix_opens ns pre.Increment at k e s l rest = operator_opens ns pre.Increment at k (spell e rest) refl
prefix_opens ns pre.Decrement at k e s l rest = operator_opens ns pre.Decrement at k (spell e rest) refl
prefix_opens ns pre.Plus at k e s l rest = operator_opens ns pre.Plus at k (spell e rest) refl
prefix_opens ns pre.Minus at k e s l rest = operator_opens ns pre.Minus at k (spell e rest) refl
prefix_opens ns pre.Complement at k e s l rest = operator_opens ns pre.Complement at k (spell e rest) refl
prefix_opens ns pre.Not at k e s l rest = operator_opens ns pre.Not at k (spell e rest) refl
prefix_opens ns pre.Extension at k e s l rest = operator_opens ns pre.Extension at k (spell e rest) refl

pub operator : (ns : List (List ℕ)) (o : BinaryOp) (at : ℕ) (a : Ex) (k : Inner) → sh.Shaped ns a → level o ≤ level_of a → least k ≤ level o → full.next ns (sign (sy.Binary o) at) (valued (opened a k)) ≡ stand (Operand (inBind (bBinary (whole a) o at) k)) ns
operator ns o at a k s h l =
    ap (λ x. kept ns (full.step_held (tok.sufBinary o) at x)) (folded ns a k (level o) s (pull_of a (level o) (level_le o) h (level_ge o)) (level_le o) (stays_of k (level o) l (omega (arith, level_ge o)) (level_le o)))
    ∙ ap (kept ns) (when_true _ (Operand (inBind (bBinary (whole a) o at) k)) (and_true (leb (least k) (level o)) (leb (level o) (level_of a)) (le-leb _ _ l) (le-leb _ _ h)))
