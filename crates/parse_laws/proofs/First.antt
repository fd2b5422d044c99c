-- The first token of an expression or of a word does the same in two modes.
use Rattle.std.proofs.Common.{◌≡◌, ℕ, suc, ◌≤◌, List, [], ◌∷◌, ◌++◌, None, Some, Bool, true, false, not, if◌then◌else◌, refl, subst, sym, ap, ◌∙◌, arith, le_trans, le_refl}
use Rattle.c_tree.specs.declared.symbol.BinaryOp.TheVariants as op
use Rattle.c_tree.specs.declared.symbol.Crement.TheVariants as cr
use Rattle.c_tree.specs.declared.symbol.Bracket.TheVariants as br
use Rattle.c_tree.specs.declared.symbol.Symbol.{Symbol}
use Rattle.c_tree.specs.declared.symbol.Symbol.TheVariants as sy
use Rattle.c_tree.specs.declared.symbol.SymbolAt.{SymbolAt}
use Rattle.c_tree.specs.declared.tree.PrefixOp.{PrefixOp}
use Rattle.c_tree.specs.declared.tree.PrefixOp.TheVariants as pre
use Rattle.c_tree.specs.Symbols.{sign}
use Rattle.c_tree.specs.Spelling.{opening, closing, prefix_symbol, spell, spell_parts, spell_words}
use Rattle.c_tree.specs.Shape as sh
use Rattle.c_tree.specs.Tree.{Ex, eName, eNumber, eLetter, eParen, eCall, eIndex, ePostfix, ePrefix, eSizeof, eCast, eBinary, eCond, eAssign, eComma, Parts, no_parts, parts_and}
use Rattle.parse_machine.specs.Tokens.{spTypedef, spOther}
use Rattle.parse_machine.specs.Contexts.{bPrefix, Inner, inBind, Fork, forkCast, forkSizeof, forkBlock, forkFor, Mode, Either, Operand, Maybe}
use Rattle.parse_machine.specs.Making.{above}
use Rattle.parse_machine.specs.Heights as ht
use Rattle.parse_machine.specs.Heights.{least, high, around_high, low, depth, is_list}
use Rattle.parse_laws.proofs.Parts.{high_ge, above_ge}
use Rattle.c_tree.specs.Height.{height, height_parts}
use Rattle.parse_machine.specs.Declarations.{kept}
use Rattle.parse_machine.specs.Steps as steps
use Rattle.parse_machine.specs.Statements as stt
use Rattle.parse_laws.proofs.Walk.{limit, walk, stand, go, above_is, above_mono, high_mono, lower, height_some}

-- an expression may begin so
abbrev pub Begins' : List (List ℕ) → Symbol → Type 0
Begins' ns (sy.Name n) = sh.has ns n ≡ false
Begins' ns (sy.Number v f) = Unit {0}
Begins' ns (sy.Letter v) = Unit {0}
Begins' ns (sy.Open br.Round) = Unit {0}
Begins' ns sy.Sizeof = Unit {0}
Begins' ns (sy.Crement c) = Unit {0}
Begins' ns (sy.Binary op.Add) = Unit {0}
Begins' ns (sy.Binary op.Subtract) = Unit {0}
Begins' ns sy.Tilde = Unit {0}
Begins' ns sy.Bang = Unit {0}
Begins' ns sy.Extension = Unit {0}
Begins' ns _ = ⊥

prefix_begins : (ns : List (List ℕ)) (o : PrefixOp) → Begins' ns (prefix_symbol o)
prefix_begins ns pre.Increment = tt
prefix_begins ns pre.Decrement = tt
prefix_begins ns pre.Plus = tt
prefix_begins ns pre.Minus = tt
prefix_begins ns pre.Complement = tt
prefix_begins ns pre.Not = tt
prefix_begins ns pre.Extension = tt
prefix_begins ns pre.Sizeof = tt

-- two modes that do the same with each token that may begin an expression
abbrev pub Alike : List (List ℕ) → Mode → Mode → Type 0
Alike ns m n = (t : Symbol) (at : ℕ) → Begins' ns t → steps.next ns (sign t at) m ≡ steps.next ns (sign t at) n

alike : (ns : List (List ℕ)) (m n : Mode) (t : Symbol) (at : ℕ) (rest : List SymbolAt) → Alike ns m n → Begins' ns t → walk (sign t at ∷ rest) (stand m ns) ≡ walk (sign t at ∷ rest) (stand n ns)
alike ns m n t at rest a h = ap (λ o. walk rest (limit o)) (a t at h)

not_no : (c : Bool) → not c ≡ true → c ≡ false
not_no true h = cc
not_no false h = refl

mutual
  pub first : (ns : List (List ℕ)) (m n : Mode) → Alike ns m n → (e : Ex) → sh.Shaped ns e → (rest : List SymbolAt) → walk (spell e rest) (stand m ns) ≡ walk (spell e rest) (stand n ns)
  first ns m n a (eName x at) s rest = alike ns m n (sy.Name x) at rest a s
  first ns m n a (eNumber v f at) s rest = alike ns m n (sy.Number v f) at rest a tt
  first ns m n a (eLetter v at) s rest = alike ns m n (sy.Letter v) at rest a tt
  first ns m n a (eParen x e c) s rest = alike ns m n (sy.Open br.Round) x (spell e (closing br.Round c ∷ rest)) a tt
  first ns m n a (eCall f x es c) s rest = first ns m n a f s.1 _
  first ns m n a (eIndex f x i y) s rest = first ns m n a f s.1 _
  first ns m n a (ePostfix e c at) s rest = first ns m n a e s.1 _
  first ns m n a (ePrefix o at e) s rest = alike ns m n (prefix_symbol o) at (spell e rest) a (prefix_begins ns o)
  first ns m n a (eSizeof at x ws c) s rest = alike ns m n sy.Sizeof at (opening br.Round x ∷ spell_words ws (closing br.Round c ∷ rest)) a tt
  first ns m n a (eCast x ws c e) s rest = alike ns m n (sy.Open br.Round) x (spell_words ws (closing br.Round c ∷ spell e rest)) a tt
  first ns m n a (eBinary x o at y) s rest = first ns m n a x s.2 _
  first ns m n a (eCond c x y z d) s rest = first ns m n a c s.2 _
  first ns m n a (eAssign x o at y) s rest = first ns m n a x s.2 _
  first ns m n a (eComma es) s rest = first_parts ns m n a es s.0 s.1 rest

  first_parts : (ns : List (List ℕ)) (m n : Mode) → Alike ns m n → (es : Parts) → sh.are_several es ≡ true → sh.ShapedParts ns es → (rest : List SymbolAt) → walk (spell_parts es rest) (stand m ns) ≡ walk (spell_parts es rest) (stand n ns)
  first_parts ns m n a no_parts h s rest = cc
  first_parts ns m n a (parts_and es c e) h s rest = first_some ns m n a es s.2 (not_no (sh.are_no_parts es) h) _

  first_some : (ns : List (List ℕ)) (m n : Mode) → Alike ns m n → (es : Parts) → sh.ShapedParts ns es → sh.are_no_parts es ≡ false → (rest : List SymbolAt) → walk (spell_parts es rest) (stand m ns) ≡ walk (spell_parts es rest) (stand n ns)
  first_some ns m n a no_parts s h rest = cc
  first_some ns m n a (parts_and no_parts None e) s h rest = first ns m n a e s.3 rest
  first_some ns m n a (parts_and no_parts (Some at) e) s h rest = absurd s.0
  first_some ns m n a (parts_and (parts_and es d x) c e) s h rest = first_some ns m n a (parts_and es d x) s.2 refl _

maybe_alike : (ns : List (List ℕ)) (k : Inner) → Alike ns (Maybe k) (Operand k)
maybe_alike ns k (sy.Open br.Square) at h = absurd h
maybe_alike ns k (sy.Open br.Curly) at h = absurd h
maybe_alike ns k (sy.Close c) at h = absurd h
maybe_alike ns k sy.Semicolon at h = absurd h
maybe_alike ns k _ at h = refl

-- where an expression may be left out, and it is not
pub first_maybe : (ns : List (List ℕ)) (k : Inner) (e : Ex) → sh.Shaped ns e → (rest : List SymbolAt) → walk (spell e rest) (stand (Maybe k) ns) ≡ walk (spell e rest) (stand (Operand k) ns)
first_maybe ns k e s rest = first ns (Maybe k) (Operand k) (maybe_alike ns k) e s rest

-- Words or an expression, and it is an expression.

pub binds_more : (ats : List ℕ) (x : ℕ) (k : Inner) → stt.extension_binds (ats ++ x ∷ []) k ≡ inBind (bPrefix pre.Extension x) (stt.extension_binds ats k)
binds_more [] x k = refl
binds_more (y ∷ ats) x k = binds_more ats x (inBind (bPrefix pre.Extension y) k)

binds_high : (ats : List ℕ) (k : Inner) (h : ℕ) → high k h ≤ high (stt.extension_binds ats k) h
binds_high [] k h = le_refl _
binds_high (y ∷ ats) k h = le_trans (high_mono k h (above h) (above_ge h)) (binds_high ats (inBind (bPrefix pre.Extension y) k) h)

-- how high a fork is at least, behind `__extension__`
fork_low : (f : Fork) (ats : List ℕ) (h : ℕ) → 2 ≤ h → high (stt.fork_inner f) h ≤ 200 → ht.fork_high f ats ≤ 200
fork_low (forkCast a k) ats h p q = le_trans (high_mono k 2 (above h) (omega (arith, above_ge h, p))) q
fork_low (forkSizeof at a k) ats h p q = le_trans (high_mono k 2 (above (above h)) (omega (arith, above_ge h, above_ge (above h), p))) q
fork_low (forkBlock o) ats h p q = omega (arith, p, q)
fork_low (forkFor m at a o) [] h p q = omega (arith, p, q)
fork_low (forkFor m at a o) (x ∷ ats) h p q = omega (arith, p, q)

-- an expression of at least one node
pub fork_low_first : (f : Fork) (h : ℕ) → 1 ≤ h → high (stt.fork_inner f) h ≤ 200 → ht.fork_high f [] ≤ 200
fork_low_first (forkCast a k) h p q = le_trans (high_mono k 2 (above h) (omega (arith, above_mono 1 h p))) q
fork_low_first (forkSizeof at a k) h p q = le_trans (high_mono k 2 (above (above h)) (omega (arith, above_mono 1 h p, above_ge (above h)))) q
fork_low_first (forkBlock o) h p q = omega (arith, p, q)
fork_low_first (forkFor m at a o) h p q = omega (arith, p, q)

fork_token : (ns : List (List ℕ)) (f : Fork) (ats : List ℕ) (t : Symbol) (at : ℕ) → Begins' ns t → (t ≡ sy.Extension → ⊥) → steps.next ns (sign t at) (Either f ats) ≡ steps.next ns (sign t at) (Operand (stt.extension_binds ats (stt.fork_inner f)))
fork_token ns f ats (sy.Name n) at h e = ap (λ c. kept ns (stt.fork_kind ns (if c then spTypedef n else spOther) (sy.Name n) at f ats)) h
fork_token ns f ats sy.Extension at h e = absurd (e refl)
fork_token ns f ats (sy.Number v g) at h e = refl
fork_token ns f ats (sy.Letter v) at h e = refl
fork_token ns f ats (sy.Open br.Round) at h e = refl
fork_token ns f ats sy.Sizeof at h e = refl
fork_token ns f ats (sy.Crement cr.Increment) at h e = refl
fork_token ns f ats (sy.Crement cr.Decrement) at h e = refl
fork_token ns f ats (sy.Binary op.Add) at h e = refl
fork_token ns f ats (sy.Binary op.Subtract) at h e = refl
fork_token ns f ats sy.Tilde at h e = refl
fork_token ns f ats sy.Bang at h e = refl
fork_token ns f ats _ at h e = absurd h

fork_walks : (ns : List (List ℕ)) (f : Fork) (ats : List ℕ) (t : Symbol) (at : ℕ) (rest : List SymbolAt) → Begins' ns t → (t ≡ sy.Extension → ⊥) → walk (sign t at ∷ rest) (stand (Either f ats) ns) ≡ walk (sign t at ∷ rest) (stand (Operand (stt.extension_binds ats (stt.fork_inner f))) ns)
fork_walks ns f ats t at rest h e = ap (λ o. walk rest (limit o)) (fork_token ns f ats t at h e)

mutual
  pub first_fork : (ns : List (List ℕ)) (f : Fork) (ats : List ℕ) (e : Ex) → sh.Shaped ns e → high (stt.extension_binds ats (stt.fork_inner f)) (height e) ≤ 200 → (rest : List SymbolAt) → walk (spell e rest) (stand (Either f ats) ns) ≡ walk (spell e rest) (stand (Operand (stt.extension_binds ats (stt.fork_inner f))) ns)
  first_fork ns f ats (eName x at) s h rest = fork_walks ns f ats (sy.Name x) at rest s (λ x. cc)
  first_fork ns f ats (eNumber v g at) s h rest = fork_walks ns f ats (sy.Number v g) at rest tt (λ x. cc)
  first_fork ns f ats (eLetter v at) s h rest = fork_walks ns f ats (sy.Letter v) at rest tt (λ x. cc)
  first_fork ns f ats (eParen x e c) s h rest = fork_walks ns f ats (sy.Open br.Round) x (spell e (closing br.Round c ∷ rest)) tt (λ x. cc)
  first_fork ns f ats (eCall g x es c) s h rest = first_fork ns f ats g s.1 (lower (stt.extension_binds ats (stt.fork_inner f)) (height g) (height (eCall g x es c)) h (omega arith)) _
  first_fork ns f ats (eIndex g x i y) s h rest = first_fork ns f ats g s.1 (lower (stt.extension_binds ats (stt.fork_inner f)) (height g) (height (eIndex g x i y)) h (omega arith)) _
  first_fork ns f ats (ePostfix e c at) s h rest = first_fork ns f ats e s.1 (lower (stt.extension_binds ats (stt.fork_inner f)) (height e) (height (ePostfix e c at)) h (omega arith)) _
  first_fork ns f ats (ePrefix pre.Extension at e) s h rest =
      let k = stt.extension_binds ats (stt.fork_inner f) in
      let two : 2 ≤ suc (height e) = omega (arith, height_some e) in
      let l : ht.fork_high f (ats ++ at ∷ []) ≤ 200 = fork_low f (ats ++ at ∷ []) (suc (height e)) two (le_trans (binds_high ats (stt.fork_inner f) (suc (height e))) h) in
      let i : high (inBind (bPrefix pre.Extension at) k) (height e) ≤ 200 = subst (λ z. high k z ≤ 200) (sym (above_is (height e) (omega (arith, high_ge k (suc (height e)), h)))) h in
      let j : high (stt.extension_binds (ats ++ at ∷ []) (stt.fork_inner f)) (height e) ≤ 200 = subst (λ z. high z (height e) ≤ 200) (sym (binds_more ats at (stt.fork_inner f))) i in
      go (sign sy.Extension at) (spell e rest) (Either f ats) (Either f (ats ++ at ∷ [])) ns ns refl l
      ∙ first_fork ns f (ats ++ at ∷ []) e s.1 j rest
      ∙ ap (λ z. walk (spell e rest) (stand (Operand z) ns)) (binds_more ats at (stt.fork_inner f))
      ∙ sym (go (sign sy.Extension at) (spell e rest) (Operand k) (Operand (inBind (bPrefix pre.Extension at) k)) ns ns refl (lower (inBind (bPrefix pre.Extension at) k) 1 (height e) i (height_some e)))
  first_fork ns f ats (ePrefix pre.Increment at e) s h rest = fork_walks ns f ats (sy.Crement cr.Increment) at (spell e rest) tt (λ x. cc)
  first_fork ns f ats (ePrefix pre.Decrement at e) s h rest = fork_walks ns f ats (sy.Crement cr.Decrement) at (spell e rest) tt (λ x. cc)
  first_fork ns f ats (ePrefix pre.Plus at e) s h rest = fork_walks ns f ats (sy.Binary op.Add) at (spell e rest) tt (λ x. cc)
  first_fork ns f ats (ePrefix pre.Minus at e) s h rest = fork_walks ns f ats (sy.Binary op.Subtract) at (spell e rest) tt (λ x. cc)
  first_fork ns f ats (ePrefix pre.Complement at e) s h rest = fork_walks ns f ats sy.Tilde at (spell e rest) tt (λ x. cc)
  first_fork ns f ats (ePrefix pre.Not at e) s h rest = fork_walks ns f ats sy.Bang at (spell e rest) tt (λ x. cc)
  first_fork ns f ats (ePrefix pre.Sizeof at e) s h rest = fork_walks ns f ats sy.Sizeof at (spell e rest) tt (λ x. cc)
  first_fork ns f ats (eSizeof at x ws c) s h rest = fork_walks ns f ats sy.Sizeof at (opening br.Round x ∷ spell_words ws (closing br.Round c ∷ rest)) tt (λ x. cc)
  first_fork ns f ats (eCast x ws c e) s h rest = fork_walks ns f ats (sy.Open br.Round) x (spell_words ws (closing br.Round c ∷ spell e rest)) tt (λ x. cc)
  first_fork ns f ats (eBinary x o at y) s h rest = first_fork ns f ats x s.2 (lower (stt.extension_binds ats (stt.fork_inner f)) (height x) (height (eBinary x o at y)) h (omega arith)) _
  first_fork ns f ats (eCond c x y z d) s h rest = first_fork ns f ats c s.2 (lower (stt.extension_binds ats (stt.fork_inner f)) (height c) (height (eCond c x y z d)) h (omega arith)) _
  first_fork ns f ats (eAssign x o at y) s h rest = first_fork ns f ats x s.2 (lower (stt.extension_binds ats (stt.fork_inner f)) (height x) (height (eAssign x o at y)) h (omega arith)) _
  first_fork ns f ats (eComma es) s h rest = fork_parts ns f ats es s.0 s.1 (lower (stt.extension_binds ats (stt.fork_inner f)) (height_parts es) (height (eComma es)) h (omega arith)) rest

  fork_parts : (ns : List (List ℕ)) (f : Fork) (ats : List ℕ) (es : Parts) → sh.are_several es ≡ true → sh.ShapedParts ns es → high (stt.extension_binds ats (stt.fork_inner f)) (height_parts es) ≤ 200 → (rest : List SymbolAt) → walk (spell_parts es rest) (stand (Either f ats) ns) ≡ walk (spell_parts es rest) (stand (Operand (stt.extension_binds ats (stt.fork_inner f))) ns)
  fork_parts ns f ats no_parts m s h rest = cc
  fork_parts ns f ats (parts_and es c e) m s h rest = fork_some ns f ats es s.2 (not_no (sh.are_no_parts es) m) (lower (stt.extension_binds ats (stt.fork_inner f)) (height_parts es) (height_parts (parts_and es c e)) h (omega arith)) _

  fork_some : (ns : List (List ℕ)) (f : Fork) (ats : List ℕ) (es : Parts) → sh.ShapedParts ns es → sh.are_no_parts es ≡ false → high (stt.extension_binds ats (stt.fork_inner f)) (height_parts es) ≤ 200 → (rest : List SymbolAt) → walk (spell_parts es rest) (stand (Either f ats) ns) ≡ walk (spell_parts es rest) (stand (Operand (stt.extension_binds ats (stt.fork_inner f))) ns)
  fork_some ns f ats no_parts s m h rest = cc
  fork_some ns f ats (parts_and no_parts None e) s m h rest = first_fork ns f ats e s.3 (lower (stt.extension_binds ats (stt.fork_inner f)) (height e) (height_parts (parts_and no_parts None e)) h (omega arith)) rest
  fork_some ns f ats (parts_and no_parts (Some at) e) s m h rest = absurd s.0
  fork_some ns f ats (parts_and (parts_and es d x) c e) s m h rest = fork_some ns f ats (parts_and es d x) s.2 refl (lower (stt.extension_binds ats (stt.fork_inner f)) (height_parts (parts_and es d x)) (height_parts (parts_and (parts_and es d x) c e)) h (omega arith)) _
