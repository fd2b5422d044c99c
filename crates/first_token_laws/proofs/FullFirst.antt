-- The first token of an expression or of a word does the same in two modes of the machine that keeps each tree.
use Rattle.first_token_laws.proofs.Full as full
use Rattle.std.proofs.Common.{◌≡◌, ℕ, List, [], ◌∷◌, ◌++◌, None, Some, Bool, true, false, not, if◌then◌else◌, refl, subst, sym, ap}
use Rattle.c_tree.specs.declared.symbol.BinaryOp.TheVariants as op
use Rattle.c_tree.specs.declared.symbol.Crement.TheVariants as cr
use Rattle.c_tree.specs.declared.symbol.Bracket.TheVariants as br
use Rattle.c_tree.specs.declared.symbol.Symbol.{Symbol}
use Rattle.c_tree.specs.declared.symbol.Symbol.TheVariants as sy
use Rattle.c_tree.specs.declared.symbol.SymbolAt.{SymbolAt}
use Rattle.c_tree.specs.declared.tree.PrefixOp.{PrefixOp}
use Rattle.c_tree.specs.declared.tree.PrefixOp.TheVariants as pre
use Rattle.c_tree.specs.Symbols.{sign}
use Rattle.c_tree.specs.Spelling.{opening, closing, prefix_symbol, spell, spell_parts, spell_words}
use Rattle.c_tree.specs.Shape as sh
use Rattle.c_tree.specs.Tree.{Ex, eName, eNumber, eLetter, eParen, eCall, eIndex, ePostfix, ePrefix, eSizeof, eCast, eBinary, eCond, eAssign, eComma, Parts, no_parts, parts_and}
use Rattle.parse_machine.specs.Tokens.{spTypedef, spOther}
use Rattle.parse_machine.specs.Contexts.{bPrefix, Inner, inBind, Fork, Mode, Either, Operand, Maybe}
use Rattle.parse_machine.specs.Declarations.{kept}
use Rattle.parse_machine.specs.Statements as stt
use Rattle.parse_laws.proofs.First.{Begins', binds_more}
use Rattle.first_token_laws.proofs.FullLeads.{Leads, walk, stand, ◌then◌, stays, go, same}

-- the first token of an expression
record Beginning (ns : List (List ℕ)) (ts : List SymbolAt) : Type 0 where
  token : Symbol
  at : ℕ
  behind : List SymbolAt
  is : ts ≡ sign token at ∷ behind
  begins : Begins' ns token

prefix_begins : (ns : List (List ℕ)) (o : PrefixOp) → Begins' ns (prefix_symbol o)
prefix_begins ns pre.Increment = tt
prefix_begins ns pre.Decrement = tt
prefix_begins ns pre.Plus = tt
prefix_begins ns pre.Minus = tt
prefix_begins ns pre.Complement = tt
prefix_begins ns pre.Not = tt
prefix_begins ns pre.Extension = tt
prefix_begins ns pre.Sizeof = tt

not_no : (c : Bool) → not c ≡ true → c ≡ false
not_no true h = cc
not_no false h = refl

mutual
  beginning : (ns : List (List ℕ)) (e : Ex) → sh.Shaped ns e → (rest : List SymbolAt) → Beginning ns (spell e rest)
  beginning ns (eName x at) s rest = record { token = sy.Name x; at = at; behind = rest; is = refl; begins = s }
  beginning ns (eNumber v f at) s rest = record { token = sy.Number v f; at = at; behind = rest; is = refl; begins = tt }
  beginning ns (eLetter v at) s rest = record { token = sy.Letter v; at = at; behind = rest; is = refl; begins = tt }
  beginning ns (eParen x e c) s rest = record { token = sy.Open br.Round; at = x; behind = spell e (closing br.Round c ∷ rest); is = refl; begins = tt }
  beginning ns (eCall f x es c) s rest = beginning ns f s.1 _
  beginning ns (eIndex f x i y) s rest = beginning ns f s.1 _
  beginning ns (ePostfix e c at) s rest = beginning ns e s.1 _
  beginning ns (ePrefix o at e) s rest = record { token = prefix_symbol o; at = at; behind = spell e rest; is = refl; begins = prefix_begins ns o }
  beginning ns (eSizeof at x ws c) s rest = record { token = sy.Sizeof; at = at; behind = opening br.Round x ∷ spell_words ws (closing br.Round c ∷ rest); is = refl; begins = tt }
  beginning ns (eCast x ws c e) s rest = record { token = sy.Open br.Round; at = x; behind = spell_words ws (closing br.Round c ∷ spell e rest); is = refl; begins = tt }
  beginning ns (eBinary x o at y) s rest = beginning ns x s.2 _
  beginning ns (eCond c x y z d) s rest = beginning ns c s.2 _
  beginning ns (eAssign x o at y) s rest = beginning ns x s.2 _
  beginning ns (eComma es) s rest = beginning_parts ns es s.0 s.1 rest

  beginning_parts : (ns : List (List ℕ)) (es : Parts) → sh.are_several es ≡ true → sh.ShapedParts ns es → (rest : List SymbolAt) → Beginning ns (spell_parts es rest)
  beginning_parts ns no_parts h s rest = cc
  beginning_parts ns (parts_and es c e) h s rest = beginning_some ns es s.2 (not_no (sh.are_no_parts es) h) _

  beginning_some : (ns : List (List ℕ)) (es : Parts) → sh.ShapedParts ns es → sh.are_no_parts es ≡ false → (rest : List SymbolAt) → Beginning ns (spell_parts es rest)
  beginning_some ns no_parts s h rest = cc
  beginning_some ns (parts_and no_parts None e) s h rest = beginning ns e s.3 rest
  beginning_some ns (parts_and no_parts (Some at) e) s h rest = absurd s.0
  beginning_some ns (parts_and (parts_and es d x) c e) s h rest = beginning_some ns (parts_and es d x) s.2 refl _

-- each token that begins an expression does the same
abbrev pub Alike : List (List ℕ) → Mode → Mode → Type 0
Alike ns m n = (t : Symbol) (at : ℕ) → Begins' ns t → full.next ns (sign t at) m ≡ full.next ns (sign t at) n

pub first : (ns : List (List ℕ)) (m n : Mode) → Alike ns m n → (e : Ex) → sh.Shaped ns e → (rest : List SymbolAt) → Leads (spell e rest) (stand m ns) (spell e rest) (stand n ns)
first ns m n a e s rest =
    let b = beginning ns e s rest in subst (λ z. Leads z (stand m ns) z (stand n ns)) (sym b.is) (same (sign b.token b.at) b.behind (stand m ns) (stand n ns) (a b.token b.at b.begins))

maybe_alike : (ns : List (List ℕ)) (k : Inner) → Alike ns (Maybe k) (Operand k)
maybe_alike ns k (sy.Open br.Square) at h = absurd h
maybe_alike ns k (sy.Open br.Curly) at h = absurd h
maybe_alike ns k (sy.Close c) at h = absurd h
maybe_alike ns k sy.Semicolon at h = absurd h
maybe_alike ns k _ at h = refl

-- where an expression may be left out, and it is not
pub first_maybe : (ns : List (List ℕ)) (k : Inner) (e : Ex) → sh.Shaped ns e → (rest : List SymbolAt) → Leads (spell e rest) (stand (Maybe k) ns) (spell e rest) (stand (Operand k) ns)
first_maybe ns k e s rest = first ns (Maybe k) (Operand k) (maybe_alike ns k) e s rest

-- back before the token that leads to an operand
pub back : (t : SymbolAt) (ns : List (List ℕ)) (m : Mode) (k : Inner) (e : Ex) → sh.Shaped ns e → (rest : List SymbolAt) → full.next ns t m ≡ stand (Operand k) ns → Leads (spell e rest) (stand (Operand k) ns) (t ∷ spell e rest) (stand m ns)
back t ns m k e s rest h = record { goes = sym (ap (walk (spell e rest)) h) }

-- Words or an expression, and it is an expression.

fork_token : (ns : List (List ℕ)) (f : Fork) (ats : List ℕ) (t : Symbol) (at : ℕ) → Begins' ns t → (t ≡ sy.Extension → ⊥) → full.next ns (sign t at) (Either f ats) ≡ full.next ns (sign t at) (Operand (stt.extension_binds ats (stt.fork_inner f)))
fork_token ns f ats (sy.Name n) at h e = ap (λ c. kept ns (full.fork_kind ns (if c then spTypedef n else spOther) (sy.Name n) at f ats)) h
fork_token ns f ats sy.Extension at h e = absurd (e refl)
fork_token ns f ats (sy.Number v g) at h e = refl
fork_token ns f ats (sy.Letter v) at h e = refl
fork_token ns f ats (sy.Open br.Round) at h e = refl
fork_token ns f ats sy.Sizeof at h e = refl
fork_token ns f ats (sy.Crement cr.Increment) at h e = refl
fork_token ns f ats (sy.Crement cr.Decrement) at h e = refl
fork_token ns f ats (sy.Binary op.Add) at h e = refl
fork_token ns f ats (sy.Binary op.Subtract) at h e = refl
fork_token ns f ats sy.Tilde at h e = refl
fork_token ns f ats sy.Bang at h e = refl
fork_token ns f ats _ at h e = absurd h

fork_leads : (ns : List (List ℕ)) (f : Fork) (ats : List ℕ) (t : Symbol) (at : ℕ) (rest : List SymbolAt) → Begins' ns t → (t ≡ sy.Extension → ⊥) → Leads (sign t at ∷ rest) (stand (Either f ats) ns) (sign t at ∷ rest) (stand (Operand (stt.extension_binds ats (stt.fork_inner f))) ns)
fork_leads ns f ats t at rest h e = same (sign t at) rest (stand (Either f ats) ns) (stand (Operand (stt.extension_binds ats (stt.fork_inner f))) ns) (fork_token ns f ats t at h e)

mutual
  pub first_fork : (ns : List (List ℕ)) (f : Fork) (ats : List ℕ) (e : Ex) → sh.Shaped ns e → (rest : List SymbolAt) → Leads (spell e rest) (stand (Either f ats) ns) (spell e rest) (stand (Operand (stt.extension_binds ats (stt.fork_inner f))) ns)
  first_fork ns f ats (eName x at) s rest = fork_leads ns f ats (sy.Name x) at rest s (λ x. cc)
  first_fork ns f ats (eNumber v g at) s rest = fork_leads ns f ats (sy.Number v g) at rest tt (λ x. cc)
  first_fork ns f ats (eLetter v at) s rest = fork_leads ns f ats (sy.Letter v) at rest tt (λ x. cc)
  first_fork ns f ats (eParen x e c) s rest = fork_leads ns f ats (sy.Open br.Round) x (spell e (closing br.Round c ∷ rest)) tt (λ x. cc)
  first_fork ns f ats (eCall g x es c) s rest = first_fork ns f ats g s.1 _
  first_fork ns f ats (eIndex g x i y) s rest = first_fork ns f ats g s.1 _
  first_fork ns f ats (ePostfix e c at) s rest = first_fork ns f ats e s.1 _
  first_fork ns f ats (ePrefix pre.Extension at e) s rest =
      let k = stt.extension_binds ats (stt.fork_inner f) in
      (
      go (sign sy.Extension at) (spell e rest) (Either f ats) (Either f (ats ++ at ∷ [])) ns ns refl
      then first_fork ns f (ats ++ at ∷ []) e s.1 rest
      then stays (spell e rest) (stand (Operand (stt.extension_binds (ats ++ at ∷ []) (stt.fork_inner f))) ns) (stand (Operand (inBind (bPrefix pre.Extension at) k)) ns) (ap (λ z. stand (Operand z) ns) (binds_more ats at (stt.fork_inner f)))
      then back (sign sy.Extension at) ns (Operand k) (inBind (bPrefix pre.Extension at) k) e s.1 rest refl)
  first_fork ns f ats (ePrefix pre.Increment at e) s rest = fork_leads ns f ats (sy.Crement cr.Increment) at (spell e rest) tt (λ x. cc)
  first_fork ns f ats (ePrefix pre.Decrement at e) s rest = fork_leads ns f ats (sy.Crement cr.Decrement) at (spell e rest) tt (λ x. cc)
  first_fork ns f ats (ePrefix pre.Plus at e) s rest = fork_leads ns f ats (sy.Binary op.Add) at (spell e rest) tt (λ x. cc)
  first_fork ns f ats (ePrefix pre.Minus at e) s rest = fork_leads ns f ats (sy.Binary op.Subtract) at (spell e rest) tt (λ x. cc)
  first_fork ns f ats (ePrefix pre.Complement at e) s rest = fork_leads ns f ats sy.Tilde at (spell e rest) tt (λ x. cc)
  first_fork ns f ats (ePrefix pre.Not at e) s rest = fork_leads ns f ats sy.Bang at (spell e rest) tt (λ x. cc)
  first_fork ns f ats (ePrefix pre.Sizeof at e) s rest = fork_leads ns f ats sy.Sizeof at (spell e rest) tt (λ x. cc)
  first_fork ns f ats (eSizeof at x ws c) s rest = fork_leads ns f ats sy.Sizeof at (opening br.Round x ∷ spell_words ws (closing br.Round c ∷ rest)) tt (λ x. cc)
  first_fork ns f ats (eCast x ws c e) s rest = fork_leads ns f ats (sy.Open br.Round) x (spell_words ws (closing br.Round c ∷ spell e rest)) tt (λ x. cc)
  first_fork ns f ats (eBinary x o at y) s rest = first_fork ns f ats x s.2 _
  first_fork ns f ats (eCond c x y z d) s rest = first_fork ns f ats c s.2 _
  first_fork ns f ats (eAssign x o at y) s rest = first_fork ns f ats x s.2 _
  first_fork ns f ats (eComma es) s rest = fork_parts ns f ats es s.0 s.1 rest

  fork_parts : (ns : List (List ℕ)) (f : Fork) (ats : List ℕ) (es : Parts) → sh.are_several es ≡ true → sh.ShapedParts ns es → (rest : List SymbolAt) → Leads (spell_parts es rest) (stand (Either f ats) ns) (spell_parts es rest) (stand (Operand (stt.extension_binds ats (stt.fork_inner f))) ns)
  fork_parts ns f ats no_parts m s rest = cc
  fork_parts ns f ats (parts_and es c e) m s rest = fork_some ns f ats es s.2 (not_no (sh.are_no_parts es) m) _

  fork_some : (ns : List (List ℕ)) (f : Fork) (ats : List ℕ) (es : Parts) → sh.ShapedParts ns es → sh.are_no_parts es ≡ false → (rest : List SymbolAt) → Leads (spell_parts es rest) (stand (Either f ats) ns) (spell_parts es rest) (stand (Operand (stt.extension_binds ats (stt.fork_inner f))) ns)
  fork_some ns f ats no_parts s m rest = cc
  fork_some ns f ats (parts_and no_parts None e) s m rest = first_fork ns f ats e s.3 rest
  fork_some ns f ats (parts_and no_parts (Some at) e) s m rest = absurd s.0
  fork_some ns f ats (parts_and (parts_and es d x) c e) s m rest = fork_some ns f ats (parts_and es d x) s.2 refl _
