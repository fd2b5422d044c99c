-- The machine that keeps each tree goes through each shaped statement, and through the statements of a block, whatever their height.
use Rattle.first_token_laws.proofs.Full as full
use Rattle.std.proofs.Common.{ℕ, suc, List, ◌∷◌, length, None, Some, not, leb, refl, sym, ap, ◌∙◌, arith, le-leb}
use Rattle.c_tree.specs.declared.symbol.Bracket.TheVariants as br
use Rattle.c_tree.specs.declared.symbol.StatementWord.TheVariants as key
use Rattle.c_tree.specs.declared.symbol.Symbol.TheVariants as sy
use Rattle.c_tree.specs.declared.symbol.SymbolAt.{SymbolAt}
use Rattle.c_tree.specs.declared.known.Site.TheVariants as site
use Rattle.c_tree.specs.Symbols.{sign}
use Rattle.c_tree.specs.Spelling.{level_of, opening, closing, word, spell, spell_attribute, spell_attributes, spell_declarators, spell_head, spell_statement, spell_statements}
use Rattle.c_tree.specs.Shape as sh
use Rattle.c_tree.specs.Tree.{Ats, no_attributes, attributes_and, eName, declares, Head, head, St, sDeclaration, sBlock, sEmpty, sExpr, sIf, sIfElse, sWhile, sSwitch, sDo, sFor, sCase, sDefault, sLabel, sGoto, sBreak, sContinue, sReturn, Sts, no_statements, statements_and}
use Rattle.parse_machine.specs.Contexts.{testIf, testWhile, testSwitch, wThen, wElse, wWhile, wSwitch, wFor, wCase, wDefault, wLabel, Outer, outBlock, outDo, outWrap, placeBlock, baseStatement, baseDo, baseReturn, baseCase, inBase, onLabel, forkBlock, waitWhile, waitDo, waitDone, waitDefault, waitGoto, waitBreak, waitContinue, Begin, Wait, Goto, Operand, Maybe, Value, Label, Whole}
use Rattle.parse_machine.specs.Heights.{depth}
use Rattle.parse_laws.proofs.Before as b
use Rattle.parse_laws.proofs.Fits.{Stands}
use Rattle.parse_machine.specs.Expressions as ex
use Rattle.parse_machine.specs.Declarations.{kept}
use Rattle.parse_machine.specs.Statements as stt
use Rattle.parse_laws.proofs.Walk.{when_true}
use Rattle.parse_machine.specs.Tokens as tok
use Rattle.parse_laws.proofs.Scopes.{left_block}
use Rattle.parse_laws.proofs.ReadSt.{ended_left, NoElse, st_heads, st_no_else, decs_no_open}
use Rattle.parse_laws.proofs.WholeSt.{List'}
use Rattle.first_token_laws.proofs.FullLeads.{whole}
use Rattle.first_token_laws.proofs.FullLeads.{Leads, ◌then◌, go, stays, stand}
use Rattle.first_token_laws.proofs.FullOpened.{opened, valued}
use Rattle.first_token_laws.proofs.FullFirst.{first_maybe}
use Rattle.first_token_laws.proofs.FullReadEx.{attribute_reads}
use Rattle.first_token_laws.proofs.FullWholeEx.{fork_typed, fork_words, reads}
use Rattle.first_token_laws.proofs.FullReadDeclaration.{declared_read}
use Rattle.first_token_laws.proofs.FullReadSt.{left_open, plain_names, settles, goes_on, label_token, block_next, do_next, begin_reads, begin_typed, fold_end, head_read, for_head_read}

-- attributes of a label
label_attributes : (ats : Ats) (ns : List (List ℕ)) (n : List ℕ) (x y : ℕ) (o : Outer) → sh.ShapedAttributes ats → (rest : List SymbolAt) → Leads (spell_attributes ats rest) (stand (Label n x y no_attributes o) ns) rest (stand (Label n x y ats o) ns)
label_attributes no_attributes ns n x y o t rest = stays rest _ _ refl
label_attributes (attributes_and ats z) ns n x y o t rest =
    (label_attributes ats ns n x y o t.0 (spell_attribute z rest)
    then attribute_reads ns z (onLabel n x y ats o) rest (Label n x y ats o) t.1 (λ w at. refl))

stands : (s : St) (o : Outer) → sh.IsStatement s → Stands s o
stands (sDeclaration d) o h = absurd h
stands _ o h = tt

stands_list : (s : St) (list : Sts → Outer) (d : ℕ) (l : List' list d) (ss : Sts) → Stands s (list ss)
stands_list (sDeclaration x) list d l ss = l.is ss
stands_list _ list d l ss = tt

-- behind the condition of a `do`
do_end : (ns : List (List ℕ)) (at : ℕ) (s : St) (h : Head) (c : ℕ) (o : Outer) → sh.ShapedHead ns h → (rest : List SymbolAt) → Leads (spell_head key.While h (sign sy.Semicolon c ∷ rest)) (stand (Wait (waitWhile at s o)) ns) rest (stand (Whole (sDo at s h c) o) ns)
do_end ns at s (head x a e y) c o t rest =
    let k = inBase (baseDo at s x a o) in
    let h = (head x a e y) in
    (go (word key.While x) (opening br.Round a ∷ spell e (closing br.Round y ∷ sign sy.Semicolon c ∷ rest)) (Wait (waitWhile at s o)) (Wait (waitDo at s x o)) ns ns refl
    then go (opening br.Round a) (spell e (closing br.Round y ∷ sign sy.Semicolon c ∷ rest)) (Wait (waitDo at s x o)) (Operand k) ns ns refl
    then reads e k ns t (omega arith) (closing br.Round y ∷ sign sy.Semicolon c ∷ rest)
    then go (closing br.Round y) (sign sy.Semicolon c ∷ rest) (valued (opened e k)) (Wait (waitDone at s h o)) ns ns (ap (λ z. kept ns (full.step_held (tok.sufClose br.Round) y z)) (fold_end ns e (baseDo at s x a o) t))
    then go (sign sy.Semicolon c) rest (Wait (waitDone at s h o)) (Whole (sDo at s h c) o) ns ns refl)

while_no_else : (h : Head) (rest : List SymbolAt) → NoElse (spell_head key.While h rest)
while_no_else (head x a e y) rest = refl

else_on : (ns : List (List ℕ)) (h : Head) (a : St) (at : ℕ) (o : Outer) (rest : List SymbolAt) → sh.ShapedStatement a ns → sh.Closed a → sh.IsStatement a → Leads (word key.Else at ∷ rest) (ended_left (left_open a (outWrap (wThen h) o) ns)) rest (stand (Begin (outWrap (wElse h a at) o)) ns)
else_on ns h a at o rest t c i =
    let l = left_open a (outWrap (wThen h) o) ns in
    let n = Begin (outWrap (wElse h a at) o) in
    (go (word key.Else at) rest (Whole l.what l.around) n l.names ns (goes_on a (outWrap (wThen h) o) ns at t c ∙ ap (stand n) (plain_names a ns i)))

mutual
  pub statement_read : (s : St) (o : Outer) (ns : List (List ℕ)) → sh.ShapedStatement s ns → Stands s o → (rest : List SymbolAt) → Leads (spell_statement s rest) (stand (Begin o) ns) rest (ended_left (left_open s o ns))
  statement_read (sDeclaration (declares ws ds x)) o ns t k rest =
      let p = placeBlock o in
      let ts = spell_declarators ds (sign sy.Semicolon x ∷ rest) in
      let d = (declares ws ds x) in
      (begin_typed ns o site.Block ws t.specs ts k
      then fork_words ws (forkBlock o) ns t.specs.told t.specs.together t.words ts (decs_no_open ds (sign sy.Semicolon x ∷ rest) refl)
      then stays ts _ _ (ap (λ z. stand z ns) (fork_typed ws t.specs.told (forkBlock o) t.specs.together t.specs.typed))
      then declared_read ws ds x ns p t rest
      then stays rest _ _ (ap (λ q. stand (Whole (sDeclaration d) o) (sh.declared_with q ds ns)) (sym t.specs.together)))
  statement_read (sBlock a ss c) o ns t k rest =
      (go (opening br.Curly a) (spell_statements ss (closing br.Curly c ∷ rest)) (Begin o) (Begin (outBlock (length ns) a no_statements o)) ns ns refl
      then statements_read ss ns (λ z. outBlock (length ns) a z o) (suc (depth o)) (record { is = λ z. refl; deep = λ z. refl; settle = λ z s m. refl }) t (closing br.Curly c ∷ rest) refl
      then go (closing br.Curly c) rest (Begin (outBlock (length ns) a ss o)) (Whole (sBlock a ss c) o) (sh.block_names ss ns) ns (ap (stand (Whole (sBlock a ss c) o)) (left_block (length ns) ss ns refl)))
  statement_read (sEmpty at) o ns t k rest = (go (sign sy.Semicolon at) rest (Begin o) (Whole (sEmpty at) o) ns ns refl)
  statement_read (sExpr e at) o ns t k rest =
      (begin_reads ns o e t (sign sy.Semicolon at ∷ rest)
      then go (sign sy.Semicolon at) rest (valued (opened e (inBase (baseStatement o)))) (Whole (sExpr e at) o) ns ns (ap (λ z. kept ns (full.step_held tok.sufSemicolon at z)) (fold_end ns e (baseStatement o) t)))
  statement_read (sIf h s) o ns t k rest =
      (head_read ns testIf h o t.0 (spell_statement s rest)
      then statement_read s (outWrap (wThen h) o) ns t.2 (stands s (outWrap (wThen h) o) t.1) rest)
  statement_read (sIfElse h a at s) o ns t k rest =
      let p = outWrap (wThen h) o in
      let q = outWrap (wElse h a at) o in
      (head_read ns testIf h o t.0 (spell_statement a (word key.Else at ∷ spell_statement s rest))
      then statement_read a p ns t.4 (stands a p t.2) (word key.Else at ∷ spell_statement s rest)
      then else_on ns h a at o (spell_statement s rest) t.4 t.1 t.2
      then statement_read s q ns t.5 (stands s q t.3) rest)
  statement_read (sWhile h s) o ns t k rest =
      (head_read ns testWhile h o t.0 (spell_statement s rest)
      then statement_read s (outWrap (wWhile h) o) ns t.2 (stands s (outWrap (wWhile h) o) t.1) rest)
  statement_read (sSwitch h s) o ns t k rest =
      (head_read ns testSwitch h o t.0 (spell_statement s rest)
      then statement_read s (outWrap (wSwitch h) o) ns t.2 (stands s (outWrap (wSwitch h) o) t.1) rest)
  statement_read (sDo at s h c) o ns t k rest =
      (go (word key.Do at) (spell_statement s (spell_head key.While h (sign sy.Semicolon c ∷ rest))) (Begin o) (Begin (outDo at o)) ns ns refl
      then statement_read s (outDo at o) ns t.2 (stands s (outDo at o) t.1) (spell_head key.While h (sign sy.Semicolon c ∷ rest))
      then do_next (left_open s (outDo at o) ns) at s o ns (spell_head key.While h (sign sy.Semicolon c ∷ rest)) (settles s (outDo at o) ns t.2 ∙ ap (stt.inDo at s o) (plain_names s ns t.1)) (while_no_else h (sign sy.Semicolon c ∷ rest))
      then do_end ns at s h c o t.0 rest)
  statement_read (sFor h s) o ns t k rest =
      let q = outWrap (wFor (length ns) h) o in
      (for_head_read ns h o t.0 (spell_statement s rest)
      then statement_read s q (sh.for_names h ns) t.2 (stands s q t.1) rest)
  statement_read (sCase at e c s) o ns t k rest =
      let q = inBase (baseCase at o) in
      let w = outWrap (wCase at e c) o in
      (go (word key.Case at) (spell e (sign sy.Colon c ∷ spell_statement s rest)) (Begin o) (Operand q) ns ns refl
      then reads e q ns t.1 t.0 (sign sy.Colon c ∷ spell_statement s rest)
      then go (sign sy.Colon c) (spell_statement s rest) (valued (opened e q)) (Begin w) ns ns (ap (λ z. kept ns (full.step_held tok.sufColon c z)) (fold_end ns e (baseCase at o) t.1) ∙ ap (kept ns) (when_true (leb 2 (level_of e)) (Begin w) (le-leb _ _ t.0)))
      then statement_read s w ns t.3 (stands s w t.2) rest)
  statement_read (sDefault at c s) o ns t k rest =
      (go (word key.Default at) (sign sy.Colon c ∷ spell_statement s rest) (Begin o) (Wait (waitDefault at o)) ns ns refl
      then go (sign sy.Colon c) (spell_statement s rest) (Wait (waitDefault at o)) (Begin (outWrap (wDefault at c) o)) ns ns refl
      then statement_read s (outWrap (wDefault at c) o) ns t.1 (stands s (outWrap (wDefault at c) o) t.0) rest)
  statement_read (sLabel n at c ats s) o ns t k rest =
      let q = outWrap (wLabel n at c ats) o in
      (begin_reads ns o (eName n at) t.0 (sign sy.Colon c ∷ spell_attributes ats (spell_statement s rest))
      then go (sign sy.Colon c) (spell_attributes ats (spell_statement s rest)) (Value (whole (eName n at)) (inBase (baseStatement o))) (Label n at c no_attributes o) ns ns refl
      then label_attributes ats ns n at c o t.1 (spell_statement s rest)
      then label_token ns n at c ats o (spell_statement s rest) (st_heads s ns t.3 t.2 rest)
      then statement_read s q ns t.3 (stands s q t.2) rest)
  statement_read (sGoto at n x c) o ns t k rest =
      (go (word key.Goto at) (b.name_sign n x ∷ sign sy.Semicolon c ∷ rest) (Begin o) (Goto at o) ns ns refl
      then go (b.name_sign n x) (sign sy.Semicolon c ∷ rest) (Goto at o) (Wait (waitGoto at n x o)) ns ns (ap (λ q. kept ns (ex.when (not q) (Wait (waitGoto at n x o)))) t)
      then go (sign sy.Semicolon c) rest (Wait (waitGoto at n x o)) (Whole (sGoto at n x c) o) ns ns refl)
  statement_read (sBreak at c) o ns t k rest =
      (go (word key.Break at) (sign sy.Semicolon c ∷ rest) (Begin o) (Wait (waitBreak at o)) ns ns refl
      then go (sign sy.Semicolon c) rest (Wait (waitBreak at o)) (Whole (sBreak at c) o) ns ns refl)
  statement_read (sContinue at c) o ns t k rest =
      (go (word key.Continue at) (sign sy.Semicolon c ∷ rest) (Begin o) (Wait (waitContinue at o)) ns ns refl
      then go (sign sy.Semicolon c) rest (Wait (waitContinue at o)) (Whole (sContinue at c) o) ns ns refl)
  statement_read (sReturn at None c) o ns t k rest =
      (go (word key.Return at) (sign sy.Semicolon c ∷ rest) (Begin o) (Maybe (inBase (baseReturn at o))) ns ns refl
      then go (sign sy.Semicolon c) rest (Maybe (inBase (baseReturn at o))) (Whole (sReturn at None c) o) ns ns refl)
  statement_read (sReturn at (Some e) c) o ns t k rest =
      let q = inBase (baseReturn at o) in
      (go (word key.Return at) (spell e (sign sy.Semicolon c ∷ rest)) (Begin o) (Maybe q) ns ns refl
      then first_maybe ns q e t.1 (sign sy.Semicolon c ∷ rest)
      then reads e q ns t.1 (omega arith) (sign sy.Semicolon c ∷ rest)
      then go (sign sy.Semicolon c) rest (valued (opened e q)) (Whole (sReturn at (Some e) c) o) ns ns (ap (λ z. kept ns (full.step_held tok.sufSemicolon c z)) (fold_end ns e (baseReturn at o) t.1)))

  pub statements_read : (ss : Sts) (ns : List (List ℕ)) (list : Sts → Outer) (d : ℕ) (w : List' list d) → sh.ShapedStatements ss ns → (rest : List SymbolAt) → NoElse rest → Leads (spell_statements ss rest) (stand (Begin (list no_statements)) ns) rest (stand (Begin (list ss)) (sh.block_names ss ns))
  statements_read no_statements ns list d w t rest n = stays rest _ _ refl
  statements_read (statements_and ss s) ns list d w t rest n =
      let ms = sh.block_names ss ns in
      let l = list ss in
      (statements_read ss ns list d w t.0 (spell_statement s rest) (st_no_else s ms t.1 rest)
      then statement_read s l ms t.1 (stands_list s list d w ss) rest
      then block_next (left_open s l ms) (list (statements_and ss s)) (sh.statement_names s ms) rest (settles s l ms t.1 ∙ w.settle ss s (sh.statement_names s ms)) n)
