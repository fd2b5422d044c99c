-- The machine that keeps each tree goes through each shaped statement, whatever its height.
use Rattle.first_token_laws.proofs.Full as full
use Rattle.std.proofs.Common.{◌≡◌, ℕ, List, [], ◌∷◌, length, take, Option, None, Some, Bool, true, false, if◌then◌else◌, refl, sym, ap, ◌∙◌, arith}
use Rattle.c_tree.specs.declared.symbol.BinaryOp.TheVariants as op
use Rattle.c_tree.specs.declared.symbol.Bracket.TheVariants as br
use Rattle.c_tree.specs.declared.symbol.StatementWord.TheVariants as key
use Rattle.c_tree.specs.declared.symbol.Symbol.{Symbol}
use Rattle.c_tree.specs.declared.symbol.Symbol.TheVariants as sy
use Rattle.c_tree.specs.declared.symbol.SymbolAt.{SymbolAt}
use Rattle.c_tree.specs.declared.known.Site.{Site}
use Rattle.c_tree.specs.declared.known.Site.TheVariants as site
use Rattle.c_tree.specs.Symbols.{sign}
use Rattle.c_tree.specs.Spelling.{opening, closing, word, spell, spell_words, spell_word, spell_option, spell_declarators, spell_head, spell_for_start, spell_for_head}
use Rattle.c_tree.specs.Shape as sh
use Rattle.c_tree.specs.Words.{is_typed, nothing_known}
use Rattle.c_tree.specs.Tree.{attribute, Ats, Ex, Words, no_words, words_and, Word, wType, wStorage, wConst, wExtension, wAttribute, wTypedef, wTag, wEnum, wTagEnum, declares, Head, head, ForStart, forDeclares, forExpr, ForHead, for_head, St, sDeclaration, sBlock, sEmpty, sExpr, sIf, sIfElse, sWhile, sSwitch, sDo, sFor, sCase, sDefault, sLabel, sGoto, sBreak, sContinue, sReturn}
use Rattle.parse_machine.specs.Tokens.{prefix_of, is_else}
use Rattle.parse_machine.specs.Contexts.{Test, testIf, testWhile, testSwitch, wThen, wElse, wWhile, wSwitch, wFor, wCase, wDefault, wLabel, Outer, outWrap, placeFor, Base, baseStatement, baseTest, baseStart, baseMore, baseStep, inBase, forkBlock, forkFor, waitTest, waitWhile, waitFor, Begin, Wait, Either, Operand, Maybe, Label}
use Rattle.parse_machine.specs.Making as mk
use Rattle.parse_machine.specs.Heights.{is_list}
use Rattle.parse_laws.proofs.Before as b
use Rattle.parse_machine.specs.Expressions as ex
use Rattle.parse_machine.specs.Declarations.{kept}
use Rattle.parse_machine.specs.Statements as stt
use Rattle.parse_machine.specs.Tokens as tok
use Rattle.parse_laws.proofs.Walk.{if_false}
use Rattle.first_token_laws.proofs.FullFirst.{Alike}
use Rattle.parse_laws.proofs.ReadEx.{some_same}
use Rattle.parse_laws.proofs.Scopes.{left_for}
use Rattle.parse_laws.proofs.ReadSt.{Left, left, ended_left, settle_left, else_left, is_plain_start, Heads, NoElse, decs_no_open}
use Rattle.first_token_laws.proofs.FullLeads.{whole}
use Rattle.first_token_laws.proofs.FullLeads.{Leads, ◌then◌, go, stays, same, stand}
use Rattle.first_token_laws.proofs.FullOpened.{opened, valued, refold, folded}
use Rattle.first_token_laws.proofs.FullFirst.{first, first_maybe, first_fork}
use Rattle.first_token_laws.proofs.FullWholeEx.{fork_typed, fork_words, reads}
use Rattle.first_token_laws.proofs.FullReadDeclaration.{declared_read}

-- what is open once a statement's tokens are read
abbrev pub left_open : St → Outer → List (List ℕ) → Left
left_open (sIf h s) o ns = left_open s (outWrap (wThen h) o) ns
left_open (sIfElse h a at s) o ns = left_open s (outWrap (wElse h a at) o) ns
left_open (sWhile h s) o ns = left_open s (outWrap (wWhile h) o) ns
left_open (sSwitch h s) o ns = left_open s (outWrap (wSwitch h) o) ns
left_open (sFor h s) o ns = left_open s (outWrap (wFor (length ns) h) o) (sh.for_names h ns)
left_open (sCase at e c s) o ns = left_open s (outWrap (wCase at e c) o) ns
left_open (sDefault at c s) o ns = left_open s (outWrap (wDefault at c) o) ns
left_open (sLabel n at c ats s) o ns = left_open s (outWrap (wLabel n at c ats) o) ns
left_open (sDeclaration d) o ns = left (sDeclaration d) o (sh.names_behind site.Block d ns)
left_open s o ns = left s o ns

pub plain_names : (s : St) (ns : List (List ℕ)) → sh.IsStatement s → sh.statement_names s ns ≡ ns
plain_names (sDeclaration d) ns h = absurd h
plain_names _ ns h = refl

pub settles : (s : St) (o : Outer) (ns : List (List ℕ)) → sh.ShapedStatement s ns → settle_left (left_open s o ns) ≡ stt.settle (sh.statement_names s ns) o s
settles (sIf h s) o ns t = settles s (outWrap (wThen h) o) ns t.2 ∙ ap (λ z. stt.settle z o (sIf h s)) (plain_names s ns t.1)
settles (sIfElse h a at s) o ns t = settles s (outWrap (wElse h a at) o) ns t.5 ∙ ap (λ z. stt.settle z o (sIfElse h a at s)) (plain_names s ns t.3)
settles (sWhile h s) o ns t = settles s (outWrap (wWhile h) o) ns t.2 ∙ ap (λ z. stt.settle z o (sWhile h s)) (plain_names s ns t.1)
settles (sSwitch h s) o ns t = settles s (outWrap (wSwitch h) o) ns t.2 ∙ ap (λ z. stt.settle z o (sSwitch h s)) (plain_names s ns t.1)
settles (sFor h s) o ns t = settles s (outWrap (wFor (length ns) h) o) (sh.for_names h ns) t.2 ∙ ap (λ z. stt.settle (take (length ns) z) o (sFor h s)) (plain_names s (sh.for_names h ns) t.1) ∙ ap (λ z. stt.settle z o (sFor h s)) (left_for (length ns) h ns refl)
settles (sCase at e c s) o ns t = settles s (outWrap (wCase at e c) o) ns t.3 ∙ ap (λ z. stt.settle z o (sCase at e c s)) (plain_names s ns t.2)
settles (sDefault at c s) o ns t = settles s (outWrap (wDefault at c) o) ns t.1 ∙ ap (λ z. stt.settle z o (sDefault at c s)) (plain_names s ns t.0)
settles (sLabel n at c ats s) o ns t = settles s (outWrap (wLabel n at c ats) o) ns t.3 ∙ ap (λ z. stt.settle z o (sLabel n at c ats s)) (plain_names s ns t.2)
settles (sDeclaration d) o ns t = refl
settles (sBlock a ss c) o ns t = refl
settles (sEmpty at) o ns t = refl
settles (sExpr e at) o ns t = refl
settles (sDo at s h c) o ns t = refl
settles (sGoto at n x c) o ns t = refl
settles (sBreak at c) o ns t = refl
settles (sContinue at c) o ns t = refl
settles (sReturn at e c) o ns t = refl

pub goes_on : (s : St) (o : Outer) (ns : List (List ℕ)) (x : ℕ) → sh.ShapedStatement s ns → sh.Closed s → else_left x (left_open s o ns) ≡ stt.otherwise (sh.statement_names s ns) x o s
goes_on (sIf h s) o ns x t c = absurd c
goes_on (sIfElse h a at s) o ns x t c = goes_on s (outWrap (wElse h a at) o) ns x t.5 c ∙ ap (λ z. stt.otherwise z x o (sIfElse h a at s)) (plain_names s ns t.3)
goes_on (sWhile h s) o ns x t c = goes_on s (outWrap (wWhile h) o) ns x t.2 c ∙ ap (λ z. stt.otherwise z x o (sWhile h s)) (plain_names s ns t.1)
goes_on (sSwitch h s) o ns x t c = goes_on s (outWrap (wSwitch h) o) ns x t.2 c ∙ ap (λ z. stt.otherwise z x o (sSwitch h s)) (plain_names s ns t.1)
goes_on (sFor h s) o ns x t c = goes_on s (outWrap (wFor (length ns) h) o) (sh.for_names h ns) x t.2 c ∙ ap (λ z. stt.otherwise (take (length ns) z) x o (sFor h s)) (plain_names s (sh.for_names h ns) t.1) ∙ ap (λ z. stt.otherwise z x o (sFor h s)) (left_for (length ns) h ns refl)
goes_on (sCase at e y s) o ns x t c = goes_on s (outWrap (wCase at e y) o) ns x t.3 c ∙ ap (λ z. stt.otherwise z x o (sCase at e y s)) (plain_names s ns t.2)
goes_on (sDefault at y s) o ns x t c = goes_on s (outWrap (wDefault at y) o) ns x t.1 c ∙ ap (λ z. stt.otherwise z x o (sDefault at y s)) (plain_names s ns t.0)
goes_on (sLabel n at y ats s) o ns x t c = goes_on s (outWrap (wLabel n at y ats) o) ns x t.3 c ∙ ap (λ z. stt.otherwise z x o (sLabel n at y ats s)) (plain_names s ns t.2)
goes_on (sDeclaration d) o ns x t c = refl
goes_on (sBlock a ss y) o ns x t c = refl
goes_on (sEmpty at) o ns x t c = refl
goes_on (sExpr e at) o ns x t c = refl
goes_on (sDo at s h y) o ns x t c = refl
goes_on (sGoto at n z y) o ns x t c = refl
goes_on (sBreak at y) o ns x t c = refl
goes_on (sContinue at y) o ns x t c = refl
goes_on (sReturn at e y) o ns x t c = refl

-- behind a label
pub label_token : (ns : List (List ℕ)) (n : List ℕ) (x y : ℕ) (ats : Ats) (o : Outer) (ts : List SymbolAt) → Heads ts → Leads ts (stand (Label n x y ats o) ns) ts (stand (Begin (outWrap (wLabel n x y ats) o)) ns)
label_token ns n x y ats o [] h = absurd h
label_token ns n x y ats o (t ∷ ts) h = same t ts _ _ (label_at ns t.symbol t.at n x y ats o h)
  where
    label_at : (ns : List (List ℕ)) (t : Symbol) (at : ℕ) (n : List ℕ) (x y : ℕ) (ats : Ats) (o : Outer) → is_plain_start t ≡ true → full.step_label ns t at n x y ats o ≡ full.step_begin ns t at (outWrap (wLabel n x y ats) o)
    label_at ns (sy.Attribute w) at n x y ats o h = cc
    label_at ns _ at n x y ats o h = refl

-- behind a statement in a block, and in a `do`
pub block_next : (l : Left) (o : Outer) (ms : List (List ℕ)) (ts : List SymbolAt) → settle_left l ≡ stt.inBlock o ms → NoElse ts → Leads ts (ended_left l) ts (stand (Begin o) ms)
block_next l o ms [] e h = absurd h
block_next l o ms (t ∷ ts) e h = same t ts _ _ (if_false (is_else t.symbol) _ (full.step_settled t.symbol t.at (settle_left l)) h ∙ ap (full.step_settled t.symbol t.at) e)

pub do_next : (l : Left) (x : ℕ) (s : St) (o : Outer) (ms : List (List ℕ)) (ts : List SymbolAt) → settle_left l ≡ stt.inDo x s o ms → NoElse ts → Leads ts (ended_left l) ts (stand (Wait (waitWhile x s o)) ms)
do_next l x s o ms [] e h = absurd h
do_next l x s o ms (t ∷ ts) e h = same t ts _ _ (if_false (is_else t.symbol) _ (full.step_settled t.symbol t.at (settle_left l)) h ∙ ap (full.step_settled t.symbol t.at) e)

-- The first token where a statement is to come.

begin_fork : (ns : List (List ℕ)) (o : Outer) → is_list o ≡ true → Alike ns (Begin o) (Either (forkBlock o) [])
begin_fork ns o e (sy.Name n) at h = ap (λ q0. kept ns (if q0 then full.step_either ns (sy.Name n) at (forkBlock o) [] else full.step_operand ns (prefix_of (sy.Name n)) at (inBase (baseStatement o)))) e
begin_fork ns o e (sy.Number v f) at h = ap (λ q0. kept ns (if q0 then full.step_either ns (sy.Number v f) at (forkBlock o) [] else full.step_operand ns (prefix_of (sy.Number v f)) at (inBase (baseStatement o)))) e
begin_fork ns o e (sy.Letter v) at h = ap (λ q0. kept ns (if q0 then full.step_either ns (sy.Letter v) at (forkBlock o) [] else full.step_operand ns (prefix_of (sy.Letter v)) at (inBase (baseStatement o)))) e
begin_fork ns o e (sy.Open br.Round) at h = ap (λ q0. kept ns (if q0 then full.step_either ns (sy.Open br.Round) at (forkBlock o) [] else full.step_operand ns (prefix_of (sy.Open br.Round)) at (inBase (baseStatement o)))) e
begin_fork ns o e (sy.Sizeof) at h = ap (λ q0. kept ns (if q0 then full.step_either ns (sy.Sizeof) at (forkBlock o) [] else full.step_operand ns (prefix_of (sy.Sizeof)) at (inBase (baseStatement o)))) e
begin_fork ns o e (sy.Crement c) at h = ap (λ q0. kept ns (if q0 then full.step_either ns (sy.Crement c) at (forkBlock o) [] else full.step_operand ns (prefix_of (sy.Crement c)) at (inBase (baseStatement o)))) e
begin_fork ns o e (sy.Binary op.Add) at h = ap (λ q0. kept ns (if q0 then full.step_either ns (sy.Binary op.Add) at (forkBlock o) [] else full.step_operand ns (prefix_of (sy.Binary op.Add)) at (inBase (baseStatement o)))) e
begin_fork ns o e (sy.Binary op.Subtract) at h = ap (λ q0. kept ns (if q0 then full.step_either ns (sy.Binary op.Subtract) at (forkBlock o) [] else full.step_operand ns (prefix_of (sy.Binary op.Subtract)) at (inBase (baseStatement o)))) e
begin_fork ns o e (sy.Tilde) at h = ap (λ q0. kept ns (if q0 then full.step_either ns (sy.Tilde) at (forkBlock o) [] else full.step_operand ns (prefix_of (sy.Tilde)) at (inBase (baseStatement o)))) e
begin_fork ns o e (sy.Bang) at h = ap (λ q0. kept ns (if q0 then full.step_either ns (sy.Bang) at (forkBlock o) [] else full.step_operand ns (prefix_of (sy.Bang)) at (inBase (baseStatement o)))) e
begin_fork ns o e (sy.Extension) at h = ap (λ q0. kept ns (if q0 then full.step_either ns (sy.Extension) at (forkBlock o) [] else full.step_operand ns (prefix_of (sy.Extension)) at (inBase (baseStatement o)))) e
begin_fork ns o e _ at h = absurd h

begin_plain : (ns : List (List ℕ)) (o : Outer) → is_list o ≡ false → Alike ns (Begin o) (Operand (inBase (baseStatement o)))
begin_plain ns o e (sy.Name n) at h = ap (λ q0. kept ns (if q0 then full.step_either ns (sy.Name n) at (forkBlock o) [] else full.step_operand ns (prefix_of (sy.Name n)) at (inBase (baseStatement o)))) e
begin_plain ns o e (sy.Number v f) at h = ap (λ q0. kept ns (if q0 then full.step_either ns (sy.Number v f) at (forkBlock o) [] else full.step_operand ns (prefix_of (sy.Number v f)) at (inBase (baseStatement o)))) e
begin_plain ns o e (sy.Letter v) at h = ap (λ q0. kept ns (if q0 then full.step_either ns (sy.Letter v) at (forkBlock o) [] else full.step_operand ns (prefix_of (sy.Letter v)) at (inBase (baseStatement o)))) e
begin_plain ns o e (sy.Open br.Round) at h = ap (λ q0. kept ns (if q0 then full.step_either ns (sy.Open br.Round) at (forkBlock o) [] else full.step_operand ns (prefix_of (sy.Open br.Round)) at (inBase (baseStatement o)))) e
begin_plain ns o e (sy.Sizeof) at h = ap (λ q0. kept ns (if q0 then full.step_either ns (sy.Sizeof) at (forkBlock o) [] else full.step_operand ns (prefix_of (sy.Sizeof)) at (inBase (baseStatement o)))) e
begin_plain ns o e (sy.Crement c) at h = ap (λ q0. kept ns (if q0 then full.step_either ns (sy.Crement c) at (forkBlock o) [] else full.step_operand ns (prefix_of (sy.Crement c)) at (inBase (baseStatement o)))) e
begin_plain ns o e (sy.Binary op.Add) at h = ap (λ q0. kept ns (if q0 then full.step_either ns (sy.Binary op.Add) at (forkBlock o) [] else full.step_operand ns (prefix_of (sy.Binary op.Add)) at (inBase (baseStatement o)))) e
begin_plain ns o e (sy.Binary op.Subtract) at h = ap (λ q0. kept ns (if q0 then full.step_either ns (sy.Binary op.Subtract) at (forkBlock o) [] else full.step_operand ns (prefix_of (sy.Binary op.Subtract)) at (inBase (baseStatement o)))) e
begin_plain ns o e (sy.Tilde) at h = ap (λ q0. kept ns (if q0 then full.step_either ns (sy.Tilde) at (forkBlock o) [] else full.step_operand ns (prefix_of (sy.Tilde)) at (inBase (baseStatement o)))) e
begin_plain ns o e (sy.Bang) at h = ap (λ q0. kept ns (if q0 then full.step_either ns (sy.Bang) at (forkBlock o) [] else full.step_operand ns (prefix_of (sy.Bang)) at (inBase (baseStatement o)))) e
begin_plain ns o e (sy.Extension) at h = ap (λ q0. kept ns (if q0 then full.step_either ns (sy.Extension) at (forkBlock o) [] else full.step_operand ns (prefix_of (sy.Extension)) at (inBase (baseStatement o)))) e
begin_plain ns o e _ at h = absurd h

begin_at : (ns : List (List ℕ)) (o : Outer) (e : Ex) (c : Bool) → is_list o ≡ c → sh.Shaped ns e → (rest : List SymbolAt) → Leads (spell e rest) (stand (Begin o) ns) (spell e rest) (stand (Operand (inBase (baseStatement o))) ns)
begin_at ns o e true q s rest = first ns (Begin o) (Either (forkBlock o) []) (begin_fork ns o q) e s rest then first_fork ns (forkBlock o) [] e s rest
begin_at ns o e false q s rest = first ns (Begin o) (Operand (inBase (baseStatement o))) (begin_plain ns o q) e s rest

-- an expression where a statement is to come
pub begin_reads : (ns : List (List ℕ)) (o : Outer) (e : Ex) → sh.Shaped ns e → (rest : List SymbolAt) → Leads (spell e rest) (stand (Begin o) ns) rest (stand (valued (opened e (inBase (baseStatement o)))) ns)
begin_reads ns o e s rest = (begin_at ns o e (is_list o) refl s rest then reads e (inBase (baseStatement o)) ns s (omega arith) rest)

begin_word_token : (ns : List (List ℕ)) (o : Outer) (x : Word) (rest : List SymbolAt) → is_list o ≡ true → Leads (spell_word x rest) (stand (Begin o) ns) (spell_word x rest) (stand (Either (forkBlock o) []) ns)
begin_word_token ns o (wType x at) rest e = same _ _ _ _ (ap (λ q0. kept ns (if q0 then full.step_either ns (sy.Type x) at (forkBlock o) [] else full.step_operand ns (prefix_of (sy.Type x)) at (inBase (baseStatement o)))) e)
begin_word_token ns o (wStorage x at) rest e = same _ _ _ _ (ap (λ q0. kept ns (if q0 then full.step_either ns (sy.Storage x) at (forkBlock o) [] else full.step_operand ns (prefix_of (sy.Storage x)) at (inBase (baseStatement o)))) e)
begin_word_token ns o (wConst x at) rest e = same _ _ _ _ (ap (λ q0. kept ns (if q0 then full.step_either ns (sy.Const x) at (forkBlock o) [] else full.step_operand ns (prefix_of (sy.Const x)) at (inBase (baseStatement o)))) e)
begin_word_token ns o (wExtension at) rest e = same _ _ _ _ (ap (λ q0. kept ns (if q0 then full.step_either ns (sy.Extension) at (forkBlock o) [] else full.step_operand ns (prefix_of (sy.Extension)) at (inBase (baseStatement o)))) e)
begin_word_token ns o (wTypedef n at) rest e = same _ _ _ _ (ap (λ q0. kept ns (if q0 then full.step_either ns (sy.Name n) at (forkBlock o) [] else full.step_operand ns (prefix_of (sy.Name n)) at (inBase (baseStatement o)))) e)
begin_word_token ns o (wAttribute (attribute w at a r z)) rest e = same _ _ _ _ (ap (λ q0. kept ns (if q0 then full.step_either ns (sy.Attribute w) at (forkBlock o) [] else full.step_operand ns (prefix_of (sy.Attribute w)) at (inBase (baseStatement o)))) e)
begin_word_token ns o (wTag at n y) rest e = same _ _ _ _ (ap (λ q0. kept ns (if q0 then full.step_either ns (sy.Enum) at (forkBlock o) [] else full.step_operand ns (prefix_of (sy.Enum)) at (inBase (baseStatement o)))) e)
begin_word_token ns o (wEnum at a es c y) rest e = same _ _ _ _ (ap (λ q0. kept ns (if q0 then full.step_either ns (sy.Enum) at (forkBlock o) [] else full.step_operand ns (prefix_of (sy.Enum)) at (inBase (baseStatement o)))) e)
begin_word_token ns o (wTagEnum at n x a es c y) rest e = same _ _ _ _ (ap (λ q0. kept ns (if q0 then full.step_either ns (sy.Enum) at (forkBlock o) [] else full.step_operand ns (prefix_of (sy.Enum)) at (inBase (baseStatement o)))) e)

begin_words : (ns : List (List ℕ)) (o : Outer) (ws : Words) (x : Word) (rest : List SymbolAt) → is_list o ≡ true → Leads (spell_words ws (spell_word x rest)) (stand (Begin o) ns) (spell_words ws (spell_word x rest)) (stand (Either (forkBlock o) []) ns)
begin_words ns o no_words x rest e = begin_word_token ns o x rest e
begin_words ns o (words_and ws y) x rest e = begin_words ns o ws y (spell_word x rest) e

pub begin_typed : (ns : List (List ℕ)) (o : Outer) (s : Site) (ws : Words) → sh.AreSpecs s ws → (rest : List SymbolAt) → is_list o ≡ true → Leads (spell_words ws rest) (stand (Begin o) ns) (spell_words ws rest) (stand (Either (forkBlock o) []) ns)
begin_typed ns o s no_words f rest e = let n : nothing_known ≡ f.told = some_same nothing_known f.told f.together in let r : false ≡ true = ap (λ z. is_typed z.typing) n ∙ f.typed in cc
begin_typed ns o s (words_and ws x) f rest e = begin_words ns o ws x rest e

-- Heads of statements.

pub fold_end : (ns : List (List ℕ)) (e : Ex) (x : Base) → sh.Shaped ns e → refold 0 (opened e (inBase x)) ≡ ex.held (whole e) (inBase x)
fold_end ns e x s = folded ns e (inBase x) 0 s (omega arith) (omega arith) tt

pub head_read : (ns : List (List ℕ)) (t : Test) (h : Head) (o : Outer) → sh.ShapedHead ns h → (rest : List SymbolAt) → Leads (spell_head (b.test_word t) h rest) (stand (Begin o) ns) rest (stand (Begin (outWrap (mk.tested t h) o)) ns)
head_read ns testIf (head at a e c) o s rest =
    let k = inBase (baseTest testIf at a o) in
    (go (word key.If at) (opening br.Round a ∷ spell e (closing br.Round c ∷ rest)) (Begin o) (Wait (waitTest testIf at o)) ns ns refl
    then go (opening br.Round a) (spell e (closing br.Round c ∷ rest)) (Wait (waitTest testIf at o)) (Operand k) ns ns refl
    then reads e k ns s (omega arith) (closing br.Round c ∷ rest)
    then go (closing br.Round c) rest (valued (opened e k)) (Begin (outWrap (wThen (head at a e c)) o)) ns ns (ap (λ z. kept ns (full.step_held (tok.sufClose br.Round) c z)) (fold_end ns e (baseTest testIf at a o) s)))
head_read ns testWhile (head at a e c) o s rest =
    let k = inBase (baseTest testWhile at a o) in
    (go (word key.While at) (opening br.Round a ∷ spell e (closing br.Round c ∷ rest)) (Begin o) (Wait (waitTest testWhile at o)) ns ns refl
    then go (opening br.Round a) (spell e (closing br.Round c ∷ rest)) (Wait (waitTest testWhile at o)) (Operand k) ns ns refl
    then reads e k ns s (omega arith) (closing br.Round c ∷ rest)
    then go (closing br.Round c) rest (valued (opened e k)) (Begin (outWrap (wWhile (head at a e c)) o)) ns ns (ap (λ z. kept ns (full.step_held (tok.sufClose br.Round) c z)) (fold_end ns e (baseTest testWhile at a o) s)))
head_read ns testSwitch (head at a e c) o s rest =
    let k = inBase (baseTest testSwitch at a o) in
    (go (word key.Switch at) (opening br.Round a ∷ spell e (closing br.Round c ∷ rest)) (Begin o) (Wait (waitTest testSwitch at o)) ns ns refl
    then go (opening br.Round a) (spell e (closing br.Round c ∷ rest)) (Wait (waitTest testSwitch at o)) (Operand k) ns ns refl
    then reads e k ns s (omega arith) (closing br.Round c ∷ rest)
    then go (closing br.Round c) rest (valued (opened e k)) (Begin (outWrap (wSwitch (head at a e c)) o)) ns ns (ap (λ z. kept ns (full.step_held (tok.sufClose br.Round) c z)) (fold_end ns e (baseTest testSwitch at a o) s)))

-- `for`
for_start_read : (ns : List (List ℕ)) (s : ForStart) (m at a : ℕ) (o : Outer) → sh.ShapedForStart ns s → (rest : List SymbolAt) → Leads (spell_for_start s rest) (stand (Either (forkFor m at a o) []) ns) rest (stand (Maybe (inBase (baseMore m at a s o))) (sh.start_names s ns))
for_start_read ns (forExpr None y) m at a o t rest = (go (sign sy.Semicolon y) rest (Either (forkFor m at a o) []) (Maybe (inBase (baseMore m at a (forExpr None y) o))) ns ns refl)
for_start_read ns (forExpr (Some e) y) m at a o t rest =
    let k = inBase (baseStart m at a o) in
    (first_fork ns (forkFor m at a o) [] e t.1 (sign sy.Semicolon y ∷ rest)
    then reads e k ns t.1 (omega arith) (sign sy.Semicolon y ∷ rest)
    then go (sign sy.Semicolon y) rest (valued (opened e k)) (Maybe (inBase (baseMore m at a (forExpr (Some e) y) o))) ns ns (ap (λ z. kept ns (full.step_held tok.sufSemicolon y z)) (fold_end ns e (baseStart m at a o) t.1)))
for_start_read ns (forDeclares (declares ws ds x)) m at a o t rest =
    let p = placeFor m at a o in
    let ts = spell_declarators ds (sign sy.Semicolon x ∷ rest) in
    let d = forDeclares (declares ws ds x) in
    (fork_words ws (forkFor m at a o) ns t.specs.told t.specs.together t.words ts (decs_no_open ds (sign sy.Semicolon x ∷ rest) refl)
    then stays ts _ _ (ap (λ z. stand z ns) (fork_typed ws t.specs.told (forkFor m at a o) t.specs.together t.specs.typed))
    then declared_read ws ds x ns p t rest
    then stays rest _ _ (ap (λ q. stand (Maybe (inBase (baseMore m at a d o))) (sh.declared_with q ds ns)) (sym t.specs.together)))

for_test : (ms : List (List ℕ)) (e : Option Ex) (m at a : ℕ) (s : ForStart) (o : Outer) (x : ℕ) → sh.ShapedOption ms 0 e → (rest : List SymbolAt) → Leads (spell_option e (sign sy.Semicolon x ∷ rest)) (stand (Maybe (inBase (baseMore m at a s o))) ms) rest (stand (Maybe (inBase (baseStep m at a s e x o))) ms)
for_test ms None m at a s o x t rest = (go (sign sy.Semicolon x) rest (Maybe (inBase (baseMore m at a s o))) (Maybe (inBase (baseStep m at a s None x o))) ms ms refl)
for_test ms (Some e) m at a s o x t rest =
    let k = inBase (baseMore m at a s o) in
    (first_maybe ms k e t.1 (sign sy.Semicolon x ∷ rest)
    then reads e k ms t.1 (omega arith) (sign sy.Semicolon x ∷ rest)
    then go (sign sy.Semicolon x) rest (valued (opened e k)) (Maybe (inBase (baseStep m at a s (Some e) x o))) ms ms (ap (λ z. kept ms (full.step_held tok.sufSemicolon x z)) (fold_end ms e (baseMore m at a s o) t.1)))

for_step : (ms : List (List ℕ)) (i : Option Ex) (m at a : ℕ) (s : ForStart) (e : Option Ex) (x : ℕ) (o : Outer) (c : ℕ) → sh.ShapedOption ms 0 i → (rest : List SymbolAt) → Leads (spell_option i (closing br.Round c ∷ rest)) (stand (Maybe (inBase (baseStep m at a s e x o))) ms) rest (stand (Begin (outWrap (wFor m (for_head at a s e x i c)) o)) ms)
for_step ms None m at a s e x o c t rest = (go (closing br.Round c) rest (Maybe (inBase (baseStep m at a s e x o))) (Begin (outWrap (wFor m (for_head at a s e x None c)) o)) ms ms refl)
for_step ms (Some v) m at a s e x o c t rest =
    let k = inBase (baseStep m at a s e x o) in
    (first_maybe ms k v t.1 (closing br.Round c ∷ rest)
    then reads v k ms t.1 (omega arith) (closing br.Round c ∷ rest)
    then go (closing br.Round c) rest (valued (opened v k)) (Begin (outWrap (wFor m (for_head at a s e x (Some v) c)) o)) ms ms (ap (λ z. kept ms (full.step_held (tok.sufClose br.Round) c z)) (fold_end ms v (baseStep m at a s e x o) t.1)))

pub for_head_read : (ns : List (List ℕ)) (h : ForHead) (o : Outer) → sh.ShapedForHead ns h → (rest : List SymbolAt) → Leads (spell_for_head h rest) (stand (Begin o) ns) rest (stand (Begin (outWrap (wFor (length ns) h) o)) (sh.for_names h ns))
for_head_read ns (for_head at a s e x i c) o t rest =
    let m = length ns in
    let ms = sh.start_names s ns in
    (go (word key.For at) (opening br.Round a ∷ spell_for_start s (spell_option e (sign sy.Semicolon x ∷ spell_option i (closing br.Round c ∷ rest)))) (Begin o) (Wait (waitFor at o)) ns ns refl
    then go (opening br.Round a) (spell_for_start s (spell_option e (sign sy.Semicolon x ∷ spell_option i (closing br.Round c ∷ rest)))) (Wait (waitFor at o)) (Either (forkFor m at a o) []) ns ns refl
    then for_start_read ns s m at a o t.0 (spell_option e (sign sy.Semicolon x ∷ spell_option i (closing br.Round c ∷ rest)))
    then for_test ms e m at a s o x t.1 (spell_option i (closing br.Round c ∷ rest))
    then for_step ms i m at a s e x o c t.2 rest)
