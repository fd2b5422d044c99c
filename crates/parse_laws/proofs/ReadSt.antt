-- The machine goes through each shaped statement.
use Rattle.std.proofs.Common.{◌≡◌, ℕ, suc, ◌≤◌, ◌+◌, List, [], ◌∷◌, length, take, Option, None, Some, Bool, true, false, if◌then◌else◌, refl, sym, ap, ◌∙◌, arith}
use Rattle.c_tree.specs.declared.symbol.BinaryOp.TheVariants as op
use Rattle.c_tree.specs.declared.symbol.Bracket.TheVariants as br
use Rattle.c_tree.specs.declared.symbol.StatementWord.TheVariants as key
use Rattle.c_tree.specs.declared.symbol.Symbol.{Symbol}
use Rattle.c_tree.specs.declared.symbol.Symbol.TheVariants as sy
use Rattle.c_tree.specs.declared.symbol.SymbolAt.{SymbolAt}
use Rattle.c_tree.specs.declared.tree.PrefixOp.TheVariants as pre
use Rattle.c_tree.specs.declared.known.Site.{Site}
use Rattle.c_tree.specs.declared.known.Site.TheVariants as site
use Rattle.c_tree.specs.Symbols.{sign}
use Rattle.c_tree.specs.Spelling.{opening, closing, word, comma, spell, spell_parts, spell_words, spell_word, spell_enumerators, spell_raw, spell_option, spell_declarators, spell_head, spell_for_start, spell_for_head, spell_statement}
use Rattle.c_tree.specs.Shape as sh
use Rattle.c_tree.specs.Words.{is_typed, nothing_known}
use Rattle.c_tree.specs.Tree.{attribute, Ats, Ex, eName, eNumber, eLetter, eParen, eCall, eIndex, ePostfix, ePrefix, eSizeof, eCast, eBinary, eCond, eAssign, eComma, Parts, no_parts, parts_and, Words, no_words, words_and, Word, wType, wStorage, wConst, wExtension, wAttribute, wTypedef, wTag, wEnum, wTagEnum, named, Decs, no_declarators, declarators_and, declares, Head, head, ForStart, forDeclares, forExpr, ForHead, for_head, St, sDeclaration, sBlock, sEmpty, sExpr, sIf, sIfElse, sWhile, sSwitch, sDo, sFor, sCase, sDefault, sLabel, sGoto, sBreak, sContinue, sReturn}
use Rattle.parse_machine.specs.Tokens.{Prefix, prefix_of, Suffix, suffix_of, spec_of, SpecKind, spTypedef, spOther, start_of, is_else, Skip, skipOn, skipClose, skipEnd, skip_of, is_awaited}
use Rattle.parse_machine.specs.Contexts.{Test, testIf, testWhile, testSwitch, wThen, wElse, wWhile, wSwitch, wFor, wCase, wDefault, wLabel, Outer, outWrap, placeFor, Base, baseStatement, baseTest, baseStart, baseMore, baseStep, inBase, forkBlock, forkFor, waitTest, waitWhile, waitFor, Begin, Wait, Either, Operand, Maybe, Label, Whole}
use Rattle.parse_machine.specs.Making as mk
use Rattle.parse_machine.specs.Making.{above, tall, part, bound, bind_level}
use Rattle.parse_machine.specs.Heights as ht
use Rattle.parse_machine.specs.Heights.{least, high, around_high, low, depth, is_list}
use Rattle.parse_laws.proofs.Before as b
use Rattle.parse_machine.specs.Expressions as ex
use Rattle.c_tree.specs.Height as hg
use Rattle.c_tree.specs.Height.{height, height_parts, height_words}
use Rattle.parse_machine.specs.Declarations.{Turn, kept}
use Rattle.parse_machine.specs.Statements as stt
use Rattle.parse_laws.proofs.Walk.{limit, walk, stand, if_false, go, above_is, lower, whole, height_some, opened, valued, refold}
use Rattle.parse_laws.proofs.First.{Alike, first, first_maybe, first_fork}
use Rattle.c_tree.specs.Height.{height_word, height_enumerators}
use Rattle.parse_machine.specs.Tokens as tok
use Rattle.parse_laws.proofs.ReadEx.{NoOpen, some_same, folded}
use Rattle.parse_laws.proofs.WholeEx.{fork_typed, fork_words, reads, some_not}
use Rattle.parse_laws.proofs.ReadDeclaration.{declared_read}
use Rattle.parse_laws.proofs.Scopes.{left_for}
use Rattle.c_tree.specs.Height.{height_statement, height_statements}

-- what is open once a statement's tokens are read
pub record Left : Type 0 where
  pub what : St
  pub around : Outer
  pub names : List (List ℕ)

abbrev pub left : St → Outer → List (List ℕ) → Left
left s o ns = record { what = s; around = o; names = ns }

abbrev pub left_open : St → Outer → List (List ℕ) → Left
left_open (sIf h s) o ns = left_open s (outWrap (wThen h) o) ns
left_open (sIfElse h a at s) o ns = left_open s (outWrap (wElse h a at) o) ns
left_open (sWhile h s) o ns = left_open s (outWrap (wWhile h) o) ns
left_open (sSwitch h s) o ns = left_open s (outWrap (wSwitch h) o) ns
left_open (sFor h s) o ns = left_open s (outWrap (wFor (length ns) h) o) (sh.for_names h ns)
left_open (sCase at e c s) o ns = left_open s (outWrap (wCase at e c) o) ns
left_open (sDefault at c s) o ns = left_open s (outWrap (wDefault at c) o) ns
left_open (sLabel n at c ats s) o ns = left_open s (outWrap (wLabel n at c ats) o) ns
left_open (sDeclaration d) o ns = left (sDeclaration d) o (sh.names_behind site.Block d ns)
left_open s o ns = left s o ns

abbrev pub ended_left : Left → Option Turn
ended_left l = stand (Whole l.what l.around) l.names

abbrev pub settle_left : Left → stt.Settled
settle_left l = stt.settle l.names l.around l.what

plain_names : (s : St) (ns : List (List ℕ)) → sh.IsStatement s → sh.statement_names s ns ≡ ns
plain_names (sDeclaration d) ns h = absurd h
plain_names _ ns h = refl

pub settles : (s : St) (o : Outer) (ns : List (List ℕ)) → sh.ShapedStatement s ns → settle_left (left_open s o ns) ≡ stt.settle (sh.statement_names s ns) o s
settles (sIf h s) o ns t = settles s (outWrap (wThen h) o) ns t.2 ∙ ap (λ z. stt.settle z o (sIf h s)) (plain_names s ns t.1)
settles (sIfElse h a at s) o ns t = settles s (outWrap (wElse h a at) o) ns t.5 ∙ ap (λ z. stt.settle z o (sIfElse h a at s)) (plain_names s ns t.3)
settles (sWhile h s) o ns t = settles s (outWrap (wWhile h) o) ns t.2 ∙ ap (λ z. stt.settle z o (sWhile h s)) (plain_names s ns t.1)
settles (sSwitch h s) o ns t = settles s (outWrap (wSwitch h) o) ns t.2 ∙ ap (λ z. stt.settle z o (sSwitch h s)) (plain_names s ns t.1)
settles (sFor h s) o ns t = settles s (outWrap (wFor (length ns) h) o) (sh.for_names h ns) t.2 ∙ ap (λ z. stt.settle (take (length ns) z) o (sFor h s)) (plain_names s (sh.for_names h ns) t.1) ∙ ap (λ z. stt.settle z o (sFor h s)) (left_for (length ns) h ns refl)
settles (sCase at e c s) o ns t = settles s (outWrap (wCase at e c) o) ns t.3 ∙ ap (λ z. stt.settle z o (sCase at e c s)) (plain_names s ns t.2)
settles (sDefault at c s) o ns t = settles s (outWrap (wDefault at c) o) ns t.1 ∙ ap (λ z. stt.settle z o (sDefault at c s)) (plain_names s ns t.0)
settles (sLabel n at c ats s) o ns t = settles s (outWrap (wLabel n at c ats) o) ns t.3 ∙ ap (λ z. stt.settle z o (sLabel n at c ats s)) (plain_names s ns t.2)
settles (sDeclaration d) o ns t = refl
settles (sBlock a ss c) o ns t = refl
settles (sEmpty at) o ns t = refl
settles (sExpr e at) o ns t = refl
settles (sDo at s h c) o ns t = refl
settles (sGoto at n x c) o ns t = refl
settles (sBreak at c) o ns t = refl
settles (sContinue at c) o ns t = refl
settles (sReturn at e c) o ns t = refl

abbrev pub else_left : ℕ → Left → Option Turn
else_left at l = stt.otherwise l.names at l.around l.what

pub goes_on : (s : St) (o : Outer) (ns : List (List ℕ)) (x : ℕ) → sh.ShapedStatement s ns → sh.Closed s → else_left x (left_open s o ns) ≡ stt.otherwise (sh.statement_names s ns) x o s
goes_on (sIf h s) o ns x t c = absurd c
goes_on (sIfElse h a at s) o ns x t c = goes_on s (outWrap (wElse h a at) o) ns x t.5 c ∙ ap (λ z. stt.otherwise z x o (sIfElse h a at s)) (plain_names s ns t.3)
goes_on (sWhile h s) o ns x t c = goes_on s (outWrap (wWhile h) o) ns x t.2 c ∙ ap (λ z. stt.otherwise z x o (sWhile h s)) (plain_names s ns t.1)
goes_on (sSwitch h s) o ns x t c = goes_on s (outWrap (wSwitch h) o) ns x t.2 c ∙ ap (λ z. stt.otherwise z x o (sSwitch h s)) (plain_names s ns t.1)
goes_on (sFor h s) o ns x t c = goes_on s (outWrap (wFor (length ns) h) o) (sh.for_names h ns) x t.2 c ∙ ap (λ z. stt.otherwise (take (length ns) z) x o (sFor h s)) (plain_names s (sh.for_names h ns) t.1) ∙ ap (λ z. stt.otherwise z x o (sFor h s)) (left_for (length ns) h ns refl)
goes_on (sCase at e y s) o ns x t c = goes_on s (outWrap (wCase at e y) o) ns x t.3 c ∙ ap (λ z. stt.otherwise z x o (sCase at e y s)) (plain_names s ns t.2)
goes_on (sDefault at y s) o ns x t c = goes_on s (outWrap (wDefault at y) o) ns x t.1 c ∙ ap (λ z. stt.otherwise z x o (sDefault at y s)) (plain_names s ns t.0)
goes_on (sLabel n at y ats s) o ns x t c = goes_on s (outWrap (wLabel n at y ats) o) ns x t.3 c ∙ ap (λ z. stt.otherwise z x o (sLabel n at y ats s)) (plain_names s ns t.2)
goes_on (sDeclaration d) o ns x t c = refl
goes_on (sBlock a ss y) o ns x t c = refl
goes_on (sEmpty at) o ns x t c = refl
goes_on (sExpr e at) o ns x t c = refl
goes_on (sDo at s h y) o ns x t c = refl
goes_on (sGoto at n z y) o ns x t c = refl
goes_on (sBreak at y) o ns x t c = refl
goes_on (sContinue at y) o ns x t c = refl
goes_on (sReturn at e y) o ns x t c = refl

-- The first token of a statement.

abbrev pub is_plain_start : Symbol → Bool
is_plain_start (sy.Attribute w) = false
is_plain_start (sy.Statement key.Else) = false
is_plain_start _ = true

-- it is no `else` and begins no attribute
abbrev pub Heads : List SymbolAt → Type 0
Heads [] = ⊥
Heads (t ∷ ts) = is_plain_start t.symbol ≡ true

abbrev pub NoElse : List SymbolAt → Type 0
NoElse [] = ⊥
NoElse (t ∷ ts) = is_else t.symbol ≡ false

plain_no_else : (t : Symbol) → is_plain_start t ≡ true → is_else t ≡ false
plain_no_else (sy.Statement key.Else) h = cc
plain_no_else _ h = refl

pub heads_no_else : (ts : List SymbolAt) → Heads ts → NoElse ts
heads_no_else [] h = absurd h
heads_no_else (t ∷ ts) h = plain_no_else t.symbol h

several_some : (es : Parts) → sh.are_several es ≡ true → sh.are_no_parts es ≡ false
several_some no_parts h = cc
several_some (parts_and es c e) h = refl

mutual
  ex_heads : (ns : List (List ℕ)) (e : Ex) → sh.Shaped ns e → (rest : List SymbolAt) → Heads (spell e rest)
  ex_heads ns (eName n at) s rest = refl
  ex_heads ns (eNumber v f at) s rest = refl
  ex_heads ns (eLetter v at) s rest = refl
  ex_heads ns (eParen a e c) s rest = refl
  ex_heads ns (eCall f a es c) s rest = ex_heads ns f s.1 _
  ex_heads ns (eIndex f x i y) s rest = ex_heads ns f s.1 _
  ex_heads ns (ePostfix e c at) s rest = ex_heads ns e s.1 _
  ex_heads ns (ePrefix pre.Increment at e) s rest = refl
  ex_heads ns (ePrefix pre.Decrement at e) s rest = refl
  ex_heads ns (ePrefix pre.Plus at e) s rest = refl
  ex_heads ns (ePrefix pre.Minus at e) s rest = refl
  ex_heads ns (ePrefix pre.Complement at e) s rest = refl
  ex_heads ns (ePrefix pre.Not at e) s rest = refl
  ex_heads ns (ePrefix pre.Extension at e) s rest = refl
  ex_heads ns (ePrefix pre.Sizeof at e) s rest = refl
  ex_heads ns (eSizeof at a ws c) s rest = refl
  ex_heads ns (eCast a ws c e) s rest = refl
  ex_heads ns (eBinary a o at c) s rest = ex_heads ns a s.2 _
  ex_heads ns (eCond c x a y d) s rest = ex_heads ns c s.2 _
  ex_heads ns (eAssign a o at c) s rest = ex_heads ns a s.2 _
  ex_heads ns (eComma es) s rest = parts_heads ns es (several_some es s.0) s.1 rest

  parts_heads : (ns : List (List ℕ)) (es : Parts) → sh.are_no_parts es ≡ false → sh.ShapedParts ns es → (rest : List SymbolAt) → Heads (spell_parts es rest)
  parts_heads ns no_parts h s rest = cc
  parts_heads ns (parts_and no_parts None e) h s rest = ex_heads ns e s.3 rest
  parts_heads ns (parts_and no_parts (Some at) e) h s rest = absurd s.0
  parts_heads ns (parts_and (parts_and es d x) None e) h s rest = absurd s.0
  parts_heads ns (parts_and es (Some at) e) h s rest = parts_heads ns es (some_not (sh.are_no_parts es) at s.0) s.2 _

pub st_heads : (s : St) (ns : List (List ℕ)) → sh.ShapedStatement s ns → sh.IsStatement s → (rest : List SymbolAt) → Heads (spell_statement s rest)
st_heads (sDeclaration d) ns t i rest = absurd i
st_heads (sExpr e at) ns t i rest = ex_heads ns e t _
st_heads (sIf (head x y e z) s) ns t i rest = refl
st_heads (sIfElse (head x y e z) a at s) ns t i rest = refl
st_heads (sWhile (head x y e z) s) ns t i rest = refl
st_heads (sSwitch (head x y e z) s) ns t i rest = refl
st_heads (sFor (for_head at a st e x v c) s) ns t i rest = refl
st_heads (sCase at e c s) ns t i rest = refl
st_heads (sDefault at c s) ns t i rest = refl
st_heads (sLabel n at c ats s) ns t i rest = refl
st_heads (sBlock a ss c) ns t i rest = refl
st_heads (sEmpty at) ns t i rest = refl
st_heads (sDo at s h c) ns t i rest = refl
st_heads (sGoto at n x c) ns t i rest = refl
st_heads (sBreak at c) ns t i rest = refl
st_heads (sContinue at c) ns t i rest = refl
st_heads (sReturn at e c) ns t i rest = refl

word_no_else : (x : Word) (rest : List SymbolAt) → NoElse (spell_word x rest)
word_no_else (wType x at) rest = refl
word_no_else (wStorage x at) rest = refl
word_no_else (wConst x at) rest = refl
word_no_else (wExtension at) rest = refl
word_no_else (wTypedef n at) rest = refl
word_no_else (wAttribute (attribute w at a r z)) rest = refl
word_no_else (wTag at n y) rest = refl
word_no_else (wEnum at a es c y) rest = refl
word_no_else (wTagEnum at n x a es c y) rest = refl

words_no_else : (ws : Words) (x : Word) (rest : List SymbolAt) → NoElse (spell_words ws (spell_word x rest))
words_no_else no_words x rest = word_no_else x rest
words_no_else (words_and ws y) x rest = words_no_else ws y (spell_word x rest)

pub typed_no_else : (s : Site) (ws : Words) → sh.AreSpecs s ws → (rest : List SymbolAt) → NoElse (spell_words ws rest)
typed_no_else s no_words f rest = let n : nothing_known ≡ f.told = some_same nothing_known f.told f.together in let r : false ≡ true = ap (λ z. is_typed z.typing) n ∙ f.typed in cc
typed_no_else s (words_and ws x) f rest = words_no_else ws x rest

pub st_no_else : (s : St) (ns : List (List ℕ)) → sh.ShapedStatement s ns → (rest : List SymbolAt) → NoElse (spell_statement s rest)
st_no_else (sDeclaration (declares ws ds x)) ns t rest = typed_no_else site.Block ws t.specs _
st_no_else (sBlock a ss c) ns t rest = heads_no_else (spell_statement (sBlock a ss c) rest) (st_heads (sBlock a ss c) ns t tt rest)
st_no_else (sEmpty at) ns t rest = heads_no_else (spell_statement (sEmpty at) rest) (st_heads (sEmpty at) ns t tt rest)
st_no_else (sExpr e at) ns t rest = heads_no_else (spell_statement (sExpr e at) rest) (st_heads (sExpr e at) ns t tt rest)
st_no_else (sIf h s) ns t rest = heads_no_else (spell_statement (sIf h s) rest) (st_heads (sIf h s) ns t tt rest)
st_no_else (sIfElse h a at s) ns t rest = heads_no_else (spell_statement (sIfElse h a at s) rest) (st_heads (sIfElse h a at s) ns t tt rest)
st_no_else (sWhile h s) ns t rest = heads_no_else (spell_statement (sWhile h s) rest) (st_heads (sWhile h s) ns t tt rest)
st_no_else (sSwitch h s) ns t rest = heads_no_else (spell_statement (sSwitch h s) rest) (st_heads (sSwitch h s) ns t tt rest)
st_no_else (sDo at s h c) ns t rest = heads_no_else (spell_statement (sDo at s h c) rest) (st_heads (sDo at s h c) ns t tt rest)
st_no_else (sFor h s) ns t rest = heads_no_else (spell_statement (sFor h s) rest) (st_heads (sFor h s) ns t tt rest)
st_no_else (sCase at e c s) ns t rest = heads_no_else (spell_statement (sCase at e c s) rest) (st_heads (sCase at e c s) ns t tt rest)
st_no_else (sDefault at c s) ns t rest = heads_no_else (spell_statement (sDefault at c s) rest) (st_heads (sDefault at c s) ns t tt rest)
st_no_else (sLabel n at c ats s) ns t rest = heads_no_else (spell_statement (sLabel n at c ats s) rest) (st_heads (sLabel n at c ats s) ns t tt rest)
st_no_else (sGoto at n x c) ns t rest = heads_no_else (spell_statement (sGoto at n x c) rest) (st_heads (sGoto at n x c) ns t tt rest)
st_no_else (sBreak at c) ns t rest = heads_no_else (spell_statement (sBreak at c) rest) (st_heads (sBreak at c) ns t tt rest)
st_no_else (sContinue at c) ns t rest = heads_no_else (spell_statement (sContinue at c) rest) (st_heads (sContinue at c) ns t tt rest)
st_no_else (sReturn at e c) ns t rest = heads_no_else (spell_statement (sReturn at e c) rest) (st_heads (sReturn at e c) ns t tt rest)

-- behind a label
pub label_token : (ns : List (List ℕ)) (n : List ℕ) (x y : ℕ) (ats : Ats) (o : Outer) (ts : List SymbolAt) → Heads ts → walk ts (stand (Label n x y ats o) ns) ≡ walk ts (stand (Begin (outWrap (wLabel n x y ats) o)) ns)
label_token ns n x y ats o [] h = absurd h
label_token ns n x y ats o (t ∷ ts) h = ap (λ z. walk ts (limit z)) (label_at ns t.symbol t.at n x y ats o h)
  where
    label_at : (ns : List (List ℕ)) (t : Symbol) (at : ℕ) (n : List ℕ) (x y : ℕ) (ats : Ats) (o : Outer) → is_plain_start t ≡ true → stt.step_label ns t at n x y ats o ≡ stt.step_begin ns t at (outWrap (wLabel n x y ats) o)
    label_at ns (sy.Attribute w) at n x y ats o h = cc
    label_at ns _ at n x y ats o h = refl

-- behind a statement in a block, and in a `do`
pub block_next : (l : Left) (o : Outer) (ms : List (List ℕ)) (ts : List SymbolAt) → settle_left l ≡ stt.inBlock o ms → NoElse ts → walk ts (ended_left l) ≡ walk ts (stand (Begin o) ms)
block_next l o ms [] e h = absurd h
block_next l o ms (t ∷ ts) e h = ap (λ z. walk ts (limit z)) (if_false (is_else t.symbol) _ (stt.step_settled t.symbol t.at (settle_left l)) h ∙ ap (stt.step_settled t.symbol t.at) e)

pub do_next : (l : Left) (x : ℕ) (s : St) (o : Outer) (ms : List (List ℕ)) (ts : List SymbolAt) → settle_left l ≡ stt.inDo x s o ms → NoElse ts → walk ts (ended_left l) ≡ walk ts (stand (Wait (waitWhile x s o)) ms)
do_next l x s o ms [] e h = absurd h
do_next l x s o ms (t ∷ ts) e h = ap (λ z. walk ts (limit z)) (if_false (is_else t.symbol) _ (stt.step_settled t.symbol t.at (settle_left l)) h ∙ ap (stt.step_settled t.symbol t.at) e)

-- The first token where a statement is to come.

begin_fork : (ns : List (List ℕ)) (o : Outer) → is_list o ≡ true → Alike ns (Begin o) (Either (forkBlock o) [])
begin_fork ns o e (sy.Name n) at h = ap (λ q0. kept ns (if q0 then stt.step_either ns (sy.Name n) at (forkBlock o) [] else ex.step_operand ns (prefix_of (sy.Name n)) at (inBase (baseStatement o)))) e
begin_fork ns o e (sy.Number v f) at h = ap (λ q0. kept ns (if q0 then stt.step_either ns (sy.Number v f) at (forkBlock o) [] else ex.step_operand ns (prefix_of (sy.Number v f)) at (inBase (baseStatement o)))) e
begin_fork ns o e (sy.Letter v) at h = ap (λ q0. kept ns (if q0 then stt.step_either ns (sy.Letter v) at (forkBlock o) [] else ex.step_operand ns (prefix_of (sy.Letter v)) at (inBase (baseStatement o)))) e
begin_fork ns o e (sy.Open br.Round) at h = ap (λ q0. kept ns (if q0 then stt.step_either ns (sy.Open br.Round) at (forkBlock o) [] else ex.step_operand ns (prefix_of (sy.Open br.Round)) at (inBase (baseStatement o)))) e
begin_fork ns o e (sy.Sizeof) at h = ap (λ q0. kept ns (if q0 then stt.step_either ns (sy.Sizeof) at (forkBlock o) [] else ex.step_operand ns (prefix_of (sy.Sizeof)) at (inBase (baseStatement o)))) e
begin_fork ns o e (sy.Crement c) at h = ap (λ q0. kept ns (if q0 then stt.step_either ns (sy.Crement c) at (forkBlock o) [] else ex.step_operand ns (prefix_of (sy.Crement c)) at (inBase (baseStatement o)))) e
begin_fork ns o e (sy.Binary op.Add) at h = ap (λ q0. kept ns (if q0 then stt.step_either ns (sy.Binary op.Add) at (forkBlock o) [] else ex.step_operand ns (prefix_of (sy.Binary op.Add)) at (inBase (baseStatement o)))) e
begin_fork ns o e (sy.Binary op.Subtract) at h = ap (λ q0. kept ns (if q0 then stt.step_either ns (sy.Binary op.Subtract) at (forkBlock o) [] else ex.step_operand ns (prefix_of (sy.Binary op.Subtract)) at (inBase (baseStatement o)))) e
begin_fork ns o e (sy.Tilde) at h = ap (λ q0. kept ns (if q0 then stt.step_either ns (sy.Tilde) at (forkBlock o) [] else ex.step_operand ns (prefix_of (sy.Tilde)) at (inBase (baseStatement o)))) e
begin_fork ns o e (sy.Bang) at h = ap (λ q0. kept ns (if q0 then stt.step_either ns (sy.Bang) at (forkBlock o) [] else ex.step_operand ns (prefix_of (sy.Bang)) at (inBase (baseStatement o)))) e
begin_fork ns o e (sy.Extension) at h = ap (λ q0. kept ns (if q0 then stt.step_either ns (sy.Extension) at (forkBlock o) [] else ex.step_operand ns (prefix_of (sy.Extension)) at (inBase (baseStatement o)))) e
begin_fork ns o e _ at h = absurd h

begin_plain : (ns : List (List ℕ)) (o : Outer) → is_list o ≡ false → Alike ns (Begin o) (Operand (inBase (baseStatement o)))
begin_plain ns o e (sy.Name n) at h = ap (λ q0. kept ns (if q0 then stt.step_either ns (sy.Name n) at (forkBlock o) [] else ex.step_operand ns (prefix_of (sy.Name n)) at (inBase (baseStatement o)))) e
begin_plain ns o e (sy.Number v f) at h = ap (λ q0. kept ns (if q0 then stt.step_either ns (sy.Number v f) at (forkBlock o) [] else ex.step_operand ns (prefix_of (sy.Number v f)) at (inBase (baseStatement o)))) e
begin_plain ns o e (sy.Letter v) at h = ap (λ q0. kept ns (if q0 then stt.step_either ns (sy.Letter v) at (forkBlock o) [] else ex.step_operand ns (prefix_of (sy.Letter v)) at (inBase (baseStatement o)))) e
begin_plain ns o e (sy.Open br.Round) at h = ap (λ q0. kept ns (if q0 then stt.step_either ns (sy.Open br.Round) at (forkBlock o) [] else ex.step_operand ns (prefix_of (sy.Open br.Round)) at (inBase (baseStatement o)))) e
begin_plain ns o e (sy.Sizeof) at h = ap (λ q0. kept ns (if q0 then stt.step_either ns (sy.Sizeof) at (forkBlock o) [] else ex.step_operand ns (prefix_of (sy.Sizeof)) at (inBase (baseStatement o)))) e
begin_plain ns o e (sy.Crement c) at h = ap (λ q0. kept ns (if q0 then stt.step_either ns (sy.Crement c) at (forkBlock o) [] else ex.step_operand ns (prefix_of (sy.Crement c)) at (inBase (baseStatement o)))) e
begin_plain ns o e (sy.Binary op.Add) at h = ap (λ q0. kept ns (if q0 then stt.step_either ns (sy.Binary op.Add) at (forkBlock o) [] else ex.step_operand ns (prefix_of (sy.Binary op.Add)) at (inBase (baseStatement o)))) e
begin_plain ns o e (sy.Binary op.Subtract) at h = ap (λ q0. kept ns (if q0 then stt.step_either ns (sy.Binary op.Subtract) at (forkBlock o) [] else ex.step_operand ns (prefix_of (sy.Binary op.Subtract)) at (inBase (baseStatement o)))) e
begin_plain ns o e (sy.Tilde) at h = ap (λ q0. kept ns (if q0 then stt.step_either ns (sy.Tilde) at (forkBlock o) [] else ex.step_operand ns (prefix_of (sy.Tilde)) at (inBase (baseStatement o)))) e
begin_plain ns o e (sy.Bang) at h = ap (λ q0. kept ns (if q0 then stt.step_either ns (sy.Bang) at (forkBlock o) [] else ex.step_operand ns (prefix_of (sy.Bang)) at (inBase (baseStatement o)))) e
begin_plain ns o e (sy.Extension) at h = ap (λ q0. kept ns (if q0 then stt.step_either ns (sy.Extension) at (forkBlock o) [] else ex.step_operand ns (prefix_of (sy.Extension)) at (inBase (baseStatement o)))) e
begin_plain ns o e _ at h = absurd h

begin_at : (ns : List (List ℕ)) (o : Outer) (e : Ex) (c : Bool) → is_list o ≡ c → sh.Shaped ns e → depth o + suc (height e) ≤ 200 → (rest : List SymbolAt) → walk (spell e rest) (stand (Begin o) ns) ≡ walk (spell e rest) (stand (Operand (inBase (baseStatement o))) ns)
begin_at ns o e true q s h rest = first ns (Begin o) (Either (forkBlock o) []) (begin_fork ns o q) e s rest ∙ first_fork ns (forkBlock o) [] e s (omega (arith, h)) rest
begin_at ns o e false q s h rest = first ns (Begin o) (Operand (inBase (baseStatement o))) (begin_plain ns o q) e s rest

-- an expression where a statement is to come
pub begin_reads : (ns : List (List ℕ)) (o : Outer) (e : Ex) → sh.Shaped ns e → depth o + suc (height e) ≤ 200 → (rest : List SymbolAt) → walk (spell e rest) (stand (Begin o) ns) ≡ walk rest (stand (valued (opened e (inBase (baseStatement o)))) ns)
begin_reads ns o e s h rest = begin_at ns o e (is_list o) refl s h rest ∙ reads e (inBase (baseStatement o)) ns s (omega arith) (omega (arith, h)) rest

begin_word_token : (ns : List (List ℕ)) (o : Outer) (x : Word) (rest : List SymbolAt) → is_list o ≡ true → walk (spell_word x rest) (stand (Begin o) ns) ≡ walk (spell_word x rest) (stand (Either (forkBlock o) []) ns)
begin_word_token ns o (wType x at) rest e = ap (λ q0. walk (rest) (limit (kept ns (if q0 then stt.step_either ns (sy.Type x) at (forkBlock o) [] else ex.step_operand ns (prefix_of (sy.Type x)) at (inBase (baseStatement o)))))) e
begin_word_token ns o (wStorage x at) rest e = ap (λ q0. walk (rest) (limit (kept ns (if q0 then stt.step_either ns (sy.Storage x) at (forkBlock o) [] else ex.step_operand ns (prefix_of (sy.Storage x)) at (inBase (baseStatement o)))))) e
begin_word_token ns o (wConst x at) rest e = ap (λ q0. walk (rest) (limit (kept ns (if q0 then stt.step_either ns (sy.Const x) at (forkBlock o) [] else ex.step_operand ns (prefix_of (sy.Const x)) at (inBase (baseStatement o)))))) e
begin_word_token ns o (wExtension at) rest e = ap (λ q0. walk (rest) (limit (kept ns (if q0 then stt.step_either ns (sy.Extension) at (forkBlock o) [] else ex.step_operand ns (prefix_of (sy.Extension)) at (inBase (baseStatement o)))))) e
begin_word_token ns o (wTypedef n at) rest e = ap (λ q0. walk (rest) (limit (kept ns (if q0 then stt.step_either ns (sy.Name n) at (forkBlock o) [] else ex.step_operand ns (prefix_of (sy.Name n)) at (inBase (baseStatement o)))))) e
begin_word_token ns o (wAttribute (attribute w at a r z)) rest e = ap (λ q0. walk (opening br.Round a ∷ spell_raw r (closing br.Round z ∷ rest)) (limit (kept ns (if q0 then stt.step_either ns (sy.Attribute w) at (forkBlock o) [] else ex.step_operand ns (prefix_of (sy.Attribute w)) at (inBase (baseStatement o)))))) e
begin_word_token ns o (wTag at n y) rest e = ap (λ q0. walk (sign (sy.Name n) y ∷ rest) (limit (kept ns (if q0 then stt.step_either ns (sy.Enum) at (forkBlock o) [] else ex.step_operand ns (prefix_of (sy.Enum)) at (inBase (baseStatement o)))))) e
begin_word_token ns o (wEnum at a es c y) rest e = ap (λ q0. walk (opening br.Curly a ∷ spell_enumerators es (comma c (closing br.Curly y ∷ rest))) (limit (kept ns (if q0 then stt.step_either ns (sy.Enum) at (forkBlock o) [] else ex.step_operand ns (prefix_of (sy.Enum)) at (inBase (baseStatement o)))))) e
begin_word_token ns o (wTagEnum at n x a es c y) rest e = ap (λ q0. walk (sign (sy.Name n) x ∷ opening br.Curly a ∷ spell_enumerators es (comma c (closing br.Curly y ∷ rest))) (limit (kept ns (if q0 then stt.step_either ns (sy.Enum) at (forkBlock o) [] else ex.step_operand ns (prefix_of (sy.Enum)) at (inBase (baseStatement o)))))) e

begin_words : (ns : List (List ℕ)) (o : Outer) (ws : Words) (x : Word) (rest : List SymbolAt) → is_list o ≡ true → walk (spell_words ws (spell_word x rest)) (stand (Begin o) ns) ≡ walk (spell_words ws (spell_word x rest)) (stand (Either (forkBlock o) []) ns)
begin_words ns o no_words x rest e = begin_word_token ns o x rest e
begin_words ns o (words_and ws y) x rest e = begin_words ns o ws y (spell_word x rest) e

pub begin_typed : (ns : List (List ℕ)) (o : Outer) (s : Site) (ws : Words) → sh.AreSpecs s ws → (rest : List SymbolAt) → is_list o ≡ true → walk (spell_words ws rest) (stand (Begin o) ns) ≡ walk (spell_words ws rest) (stand (Either (forkBlock o) []) ns)
begin_typed ns o s no_words f rest e = let n : nothing_known ≡ f.told = some_same nothing_known f.told f.together in let r : false ≡ true = ap (λ z. is_typed z.typing) n ∙ f.typed in cc
begin_typed ns o s (words_and ws x) f rest e = begin_words ns o ws x rest e

pub decs_no_open : (ds : Decs) (rest : List SymbolAt) → NoOpen rest → NoOpen (spell_declarators ds rest)
decs_no_open no_declarators rest h = h
decs_no_open (declarators_and ds None (named n at) f ats v) rest h = decs_no_open ds _ refl
decs_no_open (declarators_and ds (Some x) (named n at) f ats v) rest h = decs_no_open ds _ refl

-- Heads of statements.

pub fold_end : (ns : List (List ℕ)) (e : Ex) (x : Base) → sh.Shaped ns e → high (inBase x) (height e) ≤ 200 → refold 0 (opened e (inBase x)) ≡ ex.held (whole e) (inBase x)
fold_end ns e x s h = folded ns e (inBase x) 0 s (omega arith) (omega arith) h tt

pub head_read : (ns : List (List ℕ)) (t : Test) (h : Head) (o : Outer) → sh.ShapedHead ns h → depth o + suc (hg.height_head h) ≤ 200 → depth o + 2 ≤ 200 → (rest : List SymbolAt) → walk (spell_head (b.test_word t) h rest) (stand (Begin o) ns) ≡ walk rest (stand (Begin (outWrap (mk.tested t h) o)) ns)
head_read ns testIf (head at a e c) o s l m rest =
    let k = inBase (baseTest testIf at a o) in
    let i : high k (height e) ≤ 200 = omega (arith, l) in
    go (word key.If at) (opening br.Round a ∷ spell e (closing br.Round c ∷ rest)) (Begin o) (Wait (waitTest testIf at o)) ns ns refl (omega (arith, m))
    ∙ go (opening br.Round a) (spell e (closing br.Round c ∷ rest)) (Wait (waitTest testIf at o)) (Operand k) ns ns refl (lower k 1 (height e) i (height_some e))
    ∙ reads e k ns s (omega arith) i (closing br.Round c ∷ rest)
    ∙ go (closing br.Round c) rest (valued (opened e k)) (Begin (outWrap (wThen (head at a e c)) o)) ns ns (ap (λ z. kept ns (ex.step_held (tok.sufClose br.Round) c z)) (fold_end ns e (baseTest testIf at a o) s i)) (omega (arith, m))
head_read ns testWhile (head at a e c) o s l m rest =
    let k = inBase (baseTest testWhile at a o) in
    let i : high k (height e) ≤ 200 = omega (arith, l) in
    go (word key.While at) (opening br.Round a ∷ spell e (closing br.Round c ∷ rest)) (Begin o) (Wait (waitTest testWhile at o)) ns ns refl (omega (arith, m))
    ∙ go (opening br.Round a) (spell e (closing br.Round c ∷ rest)) (Wait (waitTest testWhile at o)) (Operand k) ns ns refl (lower k 1 (height e) i (height_some e))
    ∙ reads e k ns s (omega arith) i (closing br.Round c ∷ rest)
    ∙ go (closing br.Round c) rest (valued (opened e k)) (Begin (outWrap (wWhile (head at a e c)) o)) ns ns (ap (λ z. kept ns (ex.step_held (tok.sufClose br.Round) c z)) (fold_end ns e (baseTest testWhile at a o) s i)) (omega (arith, m))
head_read ns testSwitch (head at a e c) o s l m rest =
    let k = inBase (baseTest testSwitch at a o) in
    let i : high k (height e) ≤ 200 = omega (arith, l) in
    go (word key.Switch at) (opening br.Round a ∷ spell e (closing br.Round c ∷ rest)) (Begin o) (Wait (waitTest testSwitch at o)) ns ns refl (omega (arith, m))
    ∙ go (opening br.Round a) (spell e (closing br.Round c ∷ rest)) (Wait (waitTest testSwitch at o)) (Operand k) ns ns refl (lower k 1 (height e) i (height_some e))
    ∙ reads e k ns s (omega arith) i (closing br.Round c ∷ rest)
    ∙ go (closing br.Round c) rest (valued (opened e k)) (Begin (outWrap (wSwitch (head at a e c)) o)) ns ns (ap (λ z. kept ns (ex.step_held (tok.sufClose br.Round) c z)) (fold_end ns e (baseTest testSwitch at a o) s i)) (omega (arith, m))

for_low : (o : Outer) (m at a : ℕ) → depth o + 3 ≤ 200 → (ats : List ℕ) → ht.fork_high (forkFor m at a o) ats ≤ 200
for_low o m at a h [] = omega (arith, h)
for_low o m at a h (x ∷ ats) = omega (arith, h)

-- `for`
for_start_read : (ns : List (List ℕ)) (s : ForStart) (m at a : ℕ) (o : Outer) → sh.ShapedForStart ns s → depth o + suc (hg.height_for_start s) ≤ 200 → depth o + 2 ≤ 200 → (rest : List SymbolAt) → walk (spell_for_start s rest) (stand (Either (forkFor m at a o) []) ns) ≡ walk rest (stand (Maybe (inBase (baseMore m at a s o))) (sh.start_names s ns))
for_start_read ns (forExpr None y) m at a o t l n rest = go (sign sy.Semicolon y) rest (Either (forkFor m at a o) []) (Maybe (inBase (baseMore m at a (forExpr None y) o))) ns ns refl (omega (arith, n))
for_start_read ns (forExpr (Some e) y) m at a o t l n rest =
    let k = inBase (baseStart m at a o) in
    let i : high k (height e) ≤ 200 = omega (arith, l, height_some e) in
    first_fork ns (forkFor m at a o) [] e t.1 i (sign sy.Semicolon y ∷ rest)
    ∙ reads e k ns t.1 (omega arith) i (sign sy.Semicolon y ∷ rest)
    ∙ go (sign sy.Semicolon y) rest (valued (opened e k)) (Maybe (inBase (baseMore m at a (forExpr (Some e) y) o))) ns ns (ap (λ z. kept ns (ex.step_held tok.sufSemicolon y z)) (fold_end ns e (baseStart m at a o) t.1 i)) (omega (arith, n))
for_start_read ns (forDeclares (declares ws ds x)) m at a o t l n rest =
    let p = placeFor m at a o in
    let u : suc (depth o) + above (height_words ws) ≤ 200 = omega (arith, l, above_is (height_words ws) (omega (arith, l))) in
    let v : suc (suc (depth o)) + above (height_words ws) ≤ 200 = omega (arith, l, above_is (height_words ws) (omega (arith, l))) in
    fork_words ws (forkFor m at a o) ns t.specs.told t.specs.together t.words v (for_low o m at a (omega (arith, l))) (spell_declarators ds (sign sy.Semicolon x ∷ rest)) (decs_no_open ds (sign sy.Semicolon x ∷ rest) refl)
    ∙ ap (λ z. walk (spell_declarators ds (sign sy.Semicolon x ∷ rest)) (stand z ns)) (fork_typed ws t.specs.told (forkFor m at a o) t.specs.together t.specs.typed)
    ∙ declared_read ws ds x ns p t (omega (arith, l)) rest
    ∙ ap (λ q. walk rest (stand (Maybe (inBase (baseMore m at a (forDeclares (declares ws ds x)) o))) (sh.declared_with q ds ns))) (sym t.specs.together)

for_test : (ms : List (List ℕ)) (e : Option Ex) (m at a : ℕ) (s : ForStart) (o : Outer) (x : ℕ) → sh.ShapedOption ms 0 e → depth o + suc (hg.height_option e) ≤ 200 → depth o + 2 ≤ 200 → (rest : List SymbolAt) → walk (spell_option e (sign sy.Semicolon x ∷ rest)) (stand (Maybe (inBase (baseMore m at a s o))) ms) ≡ walk rest (stand (Maybe (inBase (baseStep m at a s e x o))) ms)
for_test ms None m at a s o x t l n rest = go (sign sy.Semicolon x) rest (Maybe (inBase (baseMore m at a s o))) (Maybe (inBase (baseStep m at a s None x o))) ms ms refl (omega (arith, n))
for_test ms (Some e) m at a s o x t l n rest =
    let k = inBase (baseMore m at a s o) in
    let i : high k (height e) ≤ 200 = omega (arith, l, height_some e) in
    first_maybe ms k e t.1 (sign sy.Semicolon x ∷ rest)
    ∙ reads e k ms t.1 (omega arith) i (sign sy.Semicolon x ∷ rest)
    ∙ go (sign sy.Semicolon x) rest (valued (opened e k)) (Maybe (inBase (baseStep m at a s (Some e) x o))) ms ms (ap (λ z. kept ms (ex.step_held tok.sufSemicolon x z)) (fold_end ms e (baseMore m at a s o) t.1 i)) (omega (arith, n))

for_step : (ms : List (List ℕ)) (i : Option Ex) (m at a : ℕ) (s : ForStart) (e : Option Ex) (x : ℕ) (o : Outer) (c : ℕ) → sh.ShapedOption ms 0 i → depth o + suc (hg.height_option i) ≤ 200 → depth o + 2 ≤ 200 → (rest : List SymbolAt) → walk (spell_option i (closing br.Round c ∷ rest)) (stand (Maybe (inBase (baseStep m at a s e x o))) ms) ≡ walk rest (stand (Begin (outWrap (wFor m (for_head at a s e x i c)) o)) ms)
for_step ms None m at a s e x o c t l n rest = go (closing br.Round c) rest (Maybe (inBase (baseStep m at a s e x o))) (Begin (outWrap (wFor m (for_head at a s e x None c)) o)) ms ms refl (omega (arith, n))
for_step ms (Some v) m at a s e x o c t l n rest =
    let k = inBase (baseStep m at a s e x o) in
    let i : high k (height v) ≤ 200 = omega (arith, l, height_some v) in
    first_maybe ms k v t.1 (closing br.Round c ∷ rest)
    ∙ reads v k ms t.1 (omega arith) i (closing br.Round c ∷ rest)
    ∙ go (closing br.Round c) rest (valued (opened v k)) (Begin (outWrap (wFor m (for_head at a s e x (Some v) c)) o)) ms ms (ap (λ z. kept ms (ex.step_held (tok.sufClose br.Round) c z)) (fold_end ms v (baseStep m at a s e x o) t.1 i)) (omega (arith, n))

pub for_head_read : (ns : List (List ℕ)) (h : ForHead) (o : Outer) → sh.ShapedForHead ns h → depth o + suc (hg.height_for_head h) ≤ 200 → depth o + 2 ≤ 200 → (rest : List SymbolAt) → walk (spell_for_head h rest) (stand (Begin o) ns) ≡ walk rest (stand (Begin (outWrap (wFor (length ns) h) o)) (sh.for_names h ns))
for_head_read ns (for_head at a s e x i c) o t l n rest =
    let m = length ns in
    let ms = sh.start_names s ns in
    go (word key.For at) (opening br.Round a ∷ spell_for_start s (spell_option e (sign sy.Semicolon x ∷ spell_option i (closing br.Round c ∷ rest)))) (Begin o) (Wait (waitFor at o)) ns ns refl (omega (arith, n))
    ∙ go (opening br.Round a) (spell_for_start s (spell_option e (sign sy.Semicolon x ∷ spell_option i (closing br.Round c ∷ rest)))) (Wait (waitFor at o)) (Either (forkFor m at a o) []) ns ns refl (omega (arith, n))
    ∙ for_start_read ns s m at a o t.0 (omega (arith, l)) n (spell_option e (sign sy.Semicolon x ∷ spell_option i (closing br.Round c ∷ rest)))
    ∙ for_test ms e m at a s o x t.1 (omega (arith, l)) n (spell_option i (closing br.Round c ∷ rest))
    ∙ for_step ms i m at a s e x o c t.2 (omega (arith, l)) n rest
