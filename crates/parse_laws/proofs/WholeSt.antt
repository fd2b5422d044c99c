-- The machine goes through each shaped statement, and through the statements of a block.
use Rattle.std.proofs.Common.{◌≡◌, ℕ, suc, ◌≤◌, ◌+◌, List, ◌∷◌, length, None, Some, true, not, leb, refl, subst, sym, ap, ◌∙◌, arith, le-leb}
use Rattle.c_tree.specs.declared.symbol.Bracket.TheVariants as br
use Rattle.c_tree.specs.declared.symbol.StatementWord.TheVariants as key
use Rattle.c_tree.specs.declared.symbol.Symbol.TheVariants as sy
use Rattle.c_tree.specs.declared.symbol.SymbolAt.{SymbolAt}
use Rattle.c_tree.specs.declared.known.Site.TheVariants as site
use Rattle.c_tree.specs.Symbols.{sign}
use Rattle.c_tree.specs.Spelling.{level_of, opening, closing, word, spell, spell_attribute, spell_attributes, spell_declarators, spell_head, spell_statement, spell_statements}
use Rattle.c_tree.specs.Shape as sh
use Rattle.c_tree.specs.Tree.{Ats, no_attributes, attributes_and, eName, declares, Head, head, St, sDeclaration, sBlock, sEmpty, sExpr, sIf, sIfElse, sWhile, sSwitch, sDo, sFor, sCase, sDefault, sLabel, sGoto, sBreak, sContinue, sReturn, Sts, no_statements, statements_and}
use Rattle.parse_machine.specs.Tokens.{Prefix, prefix_of, Suffix, suffix_of, spec_of, SpecKind, spTypedef, spOther, start_of, is_else, Skip, skipOn, skipClose, skipEnd, skip_of, is_awaited}
use Rattle.parse_machine.specs.Contexts.{testIf, testWhile, testSwitch, wThen, wElse, wWhile, wSwitch, wFor, wCase, wDefault, wLabel, Outer, outBlock, outDo, outWrap, placeBlock, baseStatement, baseDo, baseReturn, baseCase, inBase, onLabel, forkBlock, waitWhile, waitDo, waitDone, waitDefault, waitGoto, waitBreak, waitContinue, Begin, Wait, Goto, Operand, Maybe, Value, Label, Whole}
use Rattle.parse_machine.specs.Heights.{high, low, depth, is_list}
use Rattle.parse_laws.proofs.Before as b
use Rattle.parse_laws.proofs.Fits.{Stands}
use Rattle.parse_machine.specs.Expressions as ex
use Rattle.c_tree.specs.Height as hg
use Rattle.c_tree.specs.Height.{height, height_parts, height_words}
use Rattle.parse_machine.specs.Declarations.{kept}
use Rattle.parse_machine.specs.Statements as stt
use Rattle.parse_laws.proofs.Walk.{limit, walk, stand, if_true, low_stands, go, when_true, above_is, lower, whole, height_some, opened, valued}
use Rattle.parse_laws.proofs.First.{first_maybe}
use Rattle.c_tree.specs.Height.{height_word, height_enumerators}
use Rattle.parse_machine.specs.Tokens as tok
use Rattle.parse_laws.proofs.ReadEx.{attribute_reads}
use Rattle.parse_laws.proofs.WholeEx.{fork_typed, fork_words, reads}
use Rattle.parse_laws.proofs.ReadDeclaration.{declared_read}
use Rattle.parse_laws.proofs.Scopes.{left_block}
use Rattle.c_tree.specs.Height.{height_statement, height_statements}
use Rattle.parse_laws.proofs.ReadSt.{left_open, ended_left, settles, goes_on, NoElse, st_heads, st_no_else, label_token, block_next, do_next, begin_reads, begin_typed, decs_no_open, fold_end, head_read, for_head_read}

st_some : (s : St) → 1 ≤ height_statement s
st_some (sDeclaration (declares ws ds x)) = omega arith
st_some (sBlock a ss c) = omega arith
st_some (sEmpty at) = omega arith
st_some (sExpr e at) = omega arith
st_some (sIf h s) = omega arith
st_some (sIfElse h a at s) = omega arith
st_some (sWhile h s) = omega arith
st_some (sSwitch h s) = omega arith
st_some (sDo at s h c) = omega arith
st_some (sFor h s) = omega arith
st_some (sCase at e c s) = omega arith
st_some (sDefault at c s) = omega arith
st_some (sLabel n at c ats s) = omega arith
st_some (sGoto at n x c) = omega arith
st_some (sBreak at c) = omega arith
st_some (sContinue at c) = omega arith
st_some (sReturn at e c) = omega arith

-- attributes of a label
label_attributes : (ats : Ats) (ns : List (List ℕ)) (n : List ℕ) (x y : ℕ) (o : Outer) → sh.ShapedAttributes ats → depth o + 2 ≤ 200 → (rest : List SymbolAt) → walk (spell_attributes ats rest) (stand (Label n x y no_attributes o) ns) ≡ walk rest (stand (Label n x y ats o) ns)
label_attributes no_attributes ns n x y o t l rest = refl
label_attributes (attributes_and ats z) ns n x y o t l rest =
    label_attributes ats ns n x y o t.0 l (spell_attribute z rest)
    ∙ attribute_reads ns z (onLabel n x y ats o) rest (Label n x y ats o) t.1 (λ w at. refl) (omega (arith, l)) (omega (arith, l))

stands : (s : St) (o : Outer) → sh.IsStatement s → Stands s o
stands (sDeclaration d) o h = absurd h
stands _ o h = tt

-- a list of statements in a function's block or in another
pub record List' (list : Sts → Outer) (d : ℕ) : Type 0 where
  pub is : (ss : Sts) → is_list (list ss) ≡ true
  pub deep : (ss : Sts) → depth (list ss) ≡ d
  pub settle : (ss : Sts) (s : St) (ns : List (List ℕ)) → stt.settle ns (list ss) s ≡ stt.inBlock (list (statements_and ss s)) ns

stands_list : (s : St) (list : Sts → Outer) (d : ℕ) (l : List' list d) (ss : Sts) → Stands s (list ss)
stands_list (sDeclaration x) list d l ss = l.is ss
stands_list _ list d l ss = tt

begin_low : (list : Sts → Outer) (d : ℕ) (l : List' list d) (ss : Sts) → d ≤ 200 → low (Begin (list ss)) ≤ 200
begin_low list d l ss h = subst (λ z. z ≤ 200) (sym (if_true (is_list (list ss)) (depth (list ss)) (suc (depth (list ss))) (l.is ss) ∙ l.deep ss)) h

-- behind the condition of a `do`
do_end : (ns : List (List ℕ)) (at : ℕ) (s : St) (h : Head) (c : ℕ) (o : Outer) → sh.ShapedHead ns h → depth o + suc (hg.height_head h) ≤ 200 → depth o + 2 ≤ 200 → (rest : List SymbolAt) → walk (spell_head key.While h (sign sy.Semicolon c ∷ rest)) (stand (Wait (waitWhile at s o)) ns) ≡ walk rest (stand (Whole (sDo at s h c) o) ns)
do_end ns at s (head x a e y) c o t l n rest =
    let k = inBase (baseDo at s x a o) in
    let i : high k (height e) ≤ 200 = omega (arith, l) in
    go (word key.While x) (opening br.Round a ∷ spell e (closing br.Round y ∷ sign sy.Semicolon c ∷ rest)) (Wait (waitWhile at s o)) (Wait (waitDo at s x o)) ns ns refl (omega (arith, n))
    ∙ go (opening br.Round a) (spell e (closing br.Round y ∷ sign sy.Semicolon c ∷ rest)) (Wait (waitDo at s x o)) (Operand k) ns ns refl (lower k 1 (height e) i (height_some e))
    ∙ reads e k ns t (omega arith) i (closing br.Round y ∷ sign sy.Semicolon c ∷ rest)
    ∙ go (closing br.Round y) (sign sy.Semicolon c ∷ rest) (valued (opened e k)) (Wait (waitDone at s (head x a e y) o)) ns ns (ap (λ z. kept ns (ex.step_held (tok.sufClose br.Round) y z)) (fold_end ns e (baseDo at s x a o) t i)) (omega (arith, n))
    ∙ go (sign sy.Semicolon c) rest (Wait (waitDone at s (head x a e y) o)) (Whole (sDo at s (head x a e y) c) o) ns ns refl (omega (arith, n))

while_no_else : (h : Head) (rest : List SymbolAt) → NoElse (spell_head key.While h rest)
while_no_else (head x a e y) rest = refl

plain_again : (s : St) (ns : List (List ℕ)) → sh.IsStatement s → sh.statement_names s ns ≡ ns
plain_again (sDeclaration d) ns h = absurd h
plain_again _ ns h = refl

else_on : (ns : List (List ℕ)) (h : Head) (a : St) (at : ℕ) (o : Outer) (rest : List SymbolAt) → sh.ShapedStatement a ns → sh.Closed a → sh.IsStatement a → depth o + 2 ≤ 200 → walk (word key.Else at ∷ rest) (ended_left (left_open a (outWrap (wThen h) o) ns)) ≡ walk rest (stand (Begin (outWrap (wElse h a at) o)) ns)
else_on ns h a at o rest t c i l =
    ap (λ z. walk rest (limit z)) (goes_on a (outWrap (wThen h) o) ns at t c ∙ ap (stand (Begin (outWrap (wElse h a at) o))) (plain_again a ns i))
    ∙ ap (walk rest) (low_stands (Begin (outWrap (wElse h a at) o)) ns (omega (arith, l)))

mutual
  pub statement_read : (s : St) (o : Outer) (ns : List (List ℕ)) → sh.ShapedStatement s ns → Stands s o → depth o + height_statement s ≤ 200 → (rest : List SymbolAt) → walk (spell_statement s rest) (stand (Begin o) ns) ≡ walk rest (ended_left (left_open s o ns))
  statement_read (sDeclaration (declares ws ds x)) o ns t k l rest =
      let p = placeBlock o in
      let u = above_is (height_words ws) (omega (arith, l)) in
      begin_typed ns o site.Block ws t.specs (spell_declarators ds (sign sy.Semicolon x ∷ rest)) k
      ∙ fork_words ws (forkBlock o) ns t.specs.told t.specs.together t.words (omega (arith, l, u)) (λ ats. omega (arith, l)) (spell_declarators ds (sign sy.Semicolon x ∷ rest)) (decs_no_open ds (sign sy.Semicolon x ∷ rest) refl)
      ∙ ap (λ z. walk (spell_declarators ds (sign sy.Semicolon x ∷ rest)) (stand z ns)) (fork_typed ws t.specs.told (forkBlock o) t.specs.together t.specs.typed)
      ∙ declared_read ws ds x ns p t (omega (arith, l)) rest
      ∙ ap (λ q. walk rest (stand (Whole (sDeclaration (declares ws ds x)) o) (sh.declared_with q ds ns))) (sym t.specs.together)
  statement_read (sBlock a ss c) o ns t k l rest =
      go (opening br.Curly a) (spell_statements ss (closing br.Curly c ∷ rest)) (Begin o) (Begin (outBlock (length ns) a no_statements o)) ns ns refl (omega (arith, l))
      ∙ statements_read ss ns (λ z. outBlock (length ns) a z o) (suc (depth o)) (record { is = λ z. refl; deep = λ z. refl; settle = λ z s m. refl }) t (omega (arith, l)) (closing br.Curly c ∷ rest) refl
      ∙ go (closing br.Curly c) rest (Begin (outBlock (length ns) a ss o)) (Whole (sBlock a ss c) o) (sh.block_names ss ns) ns (ap (stand (Whole (sBlock a ss c) o)) (left_block (length ns) ss ns refl)) (omega (arith, l))
  statement_read (sEmpty at) o ns t k l rest = go (sign sy.Semicolon at) rest (Begin o) (Whole (sEmpty at) o) ns ns refl (omega (arith, l))
  statement_read (sExpr e at) o ns t k l rest =
      begin_reads ns o e t l (sign sy.Semicolon at ∷ rest)
      ∙ go (sign sy.Semicolon at) rest (valued (opened e (inBase (baseStatement o)))) (Whole (sExpr e at) o) ns ns (ap (λ z. kept ns (ex.step_held tok.sufSemicolon at z)) (fold_end ns e (baseStatement o) t (omega (arith, l)))) (omega (arith, l))
  statement_read (sIf h s) o ns t k l rest =
      head_read ns testIf h o t.0 (omega (arith, l)) (omega (arith, l, st_some s)) (spell_statement s rest)
      ∙ statement_read s (outWrap (wThen h) o) ns t.2 (stands s (outWrap (wThen h) o) t.1) (omega (arith, l)) rest
  statement_read (sIfElse h a at s) o ns t k l rest =
      head_read ns testIf h o t.0 (omega (arith, l)) (omega (arith, l, st_some s)) (spell_statement a (word key.Else at ∷ spell_statement s rest))
      ∙ statement_read a (outWrap (wThen h) o) ns t.4 (stands a (outWrap (wThen h) o) t.2) (omega (arith, l)) (word key.Else at ∷ spell_statement s rest)
      ∙ else_on ns h a at o (spell_statement s rest) t.4 t.1 t.2 (omega (arith, l, st_some s))
      ∙ statement_read s (outWrap (wElse h a at) o) ns t.5 (stands s (outWrap (wElse h a at) o) t.3) (omega (arith, l)) rest
  statement_read (sWhile h s) o ns t k l rest =
      head_read ns testWhile h o t.0 (omega (arith, l)) (omega (arith, l, st_some s)) (spell_statement s rest)
      ∙ statement_read s (outWrap (wWhile h) o) ns t.2 (stands s (outWrap (wWhile h) o) t.1) (omega (arith, l)) rest
  statement_read (sSwitch h s) o ns t k l rest =
      head_read ns testSwitch h o t.0 (omega (arith, l)) (omega (arith, l, st_some s)) (spell_statement s rest)
      ∙ statement_read s (outWrap (wSwitch h) o) ns t.2 (stands s (outWrap (wSwitch h) o) t.1) (omega (arith, l)) rest
  statement_read (sDo at s h c) o ns t k l rest =
      go (word key.Do at) (spell_statement s (spell_head key.While h (sign sy.Semicolon c ∷ rest))) (Begin o) (Begin (outDo at o)) ns ns refl (omega (arith, l, st_some s))
      ∙ statement_read s (outDo at o) ns t.2 (stands s (outDo at o) t.1) (omega (arith, l)) (spell_head key.While h (sign sy.Semicolon c ∷ rest))
      ∙ do_next (left_open s (outDo at o) ns) at s o ns (spell_head key.While h (sign sy.Semicolon c ∷ rest)) (settles s (outDo at o) ns t.2 ∙ ap (stt.inDo at s o) (plain_again s ns t.1)) (while_no_else h (sign sy.Semicolon c ∷ rest))
      ∙ do_end ns at s h c o t.0 (omega (arith, l)) (omega (arith, l, st_some s)) rest
  statement_read (sFor h s) o ns t k l rest =
      for_head_read ns h o t.0 (omega (arith, l)) (omega (arith, l, st_some s)) (spell_statement s rest)
      ∙ statement_read s (outWrap (wFor (length ns) h) o) (sh.for_names h ns) t.2 (stands s (outWrap (wFor (length ns) h) o) t.1) (omega (arith, l)) rest
  statement_read (sCase at e c s) o ns t k l rest =
      let q = inBase (baseCase at o) in
      let i : high q (height e) ≤ 200 = omega (arith, l) in
      go (word key.Case at) (spell e (sign sy.Colon c ∷ spell_statement s rest)) (Begin o) (Operand q) ns ns refl (lower q 1 (height e) i (height_some e))
      ∙ reads e q ns t.1 t.0 i (sign sy.Colon c ∷ spell_statement s rest)
      ∙ go (sign sy.Colon c) (spell_statement s rest) (valued (opened e q)) (Begin (outWrap (wCase at e c) o)) ns ns
      (ap (λ z. kept ns (ex.step_held tok.sufColon c z)) (fold_end ns e (baseCase at o) t.1 i) ∙ ap (kept ns) (when_true (leb 2 (level_of e)) (Begin (outWrap (wCase at e c) o)) (le-leb _ _ t.0))) (omega (arith, l, st_some s))
      ∙ statement_read s (outWrap (wCase at e c) o) ns t.3 (stands s (outWrap (wCase at e c) o) t.2) (omega (arith, l)) rest
  statement_read (sDefault at c s) o ns t k l rest =
      go (word key.Default at) (sign sy.Colon c ∷ spell_statement s rest) (Begin o) (Wait (waitDefault at o)) ns ns refl (omega (arith, l, st_some s))
      ∙ go (sign sy.Colon c) (spell_statement s rest) (Wait (waitDefault at o)) (Begin (outWrap (wDefault at c) o)) ns ns refl (omega (arith, l, st_some s))
      ∙ statement_read s (outWrap (wDefault at c) o) ns t.1 (stands s (outWrap (wDefault at c) o) t.0) (omega (arith, l)) rest
  statement_read (sLabel n at c ats s) o ns t k l rest =
      begin_reads ns o (eName n at) t.0 (omega (arith, l, st_some s)) (sign sy.Colon c ∷ spell_attributes ats (spell_statement s rest))
      ∙ go (sign sy.Colon c) (spell_attributes ats (spell_statement s rest)) (Value (whole (eName n at)) (inBase (baseStatement o))) (Label n at c no_attributes o) ns ns refl (omega (arith, l, st_some s))
      ∙ label_attributes ats ns n at c o t.1 (omega (arith, l, st_some s)) (spell_statement s rest)
      ∙ label_token ns n at c ats o (spell_statement s rest) (st_heads s ns t.3 t.2 rest)
      ∙ statement_read s (outWrap (wLabel n at c ats) o) ns t.3 (stands s (outWrap (wLabel n at c ats) o) t.2) (omega (arith, l)) rest
  statement_read (sGoto at n x c) o ns t k l rest =
      go (word key.Goto at) (b.name_sign n x ∷ sign sy.Semicolon c ∷ rest) (Begin o) (Goto at o) ns ns refl (omega (arith, l))
      ∙ go (b.name_sign n x) (sign sy.Semicolon c ∷ rest) (Goto at o) (Wait (waitGoto at n x o)) ns ns (ap (λ q. kept ns (ex.when (not q) (Wait (waitGoto at n x o)))) t) (omega (arith, l))
      ∙ go (sign sy.Semicolon c) rest (Wait (waitGoto at n x o)) (Whole (sGoto at n x c) o) ns ns refl (omega (arith, l))
  statement_read (sBreak at c) o ns t k l rest =
      go (word key.Break at) (sign sy.Semicolon c ∷ rest) (Begin o) (Wait (waitBreak at o)) ns ns refl (omega (arith, l))
      ∙ go (sign sy.Semicolon c) rest (Wait (waitBreak at o)) (Whole (sBreak at c) o) ns ns refl (omega (arith, l))
  statement_read (sContinue at c) o ns t k l rest =
      go (word key.Continue at) (sign sy.Semicolon c ∷ rest) (Begin o) (Wait (waitContinue at o)) ns ns refl (omega (arith, l))
      ∙ go (sign sy.Semicolon c) rest (Wait (waitContinue at o)) (Whole (sContinue at c) o) ns ns refl (omega (arith, l))
  statement_read (sReturn at None c) o ns t k l rest =
      go (word key.Return at) (sign sy.Semicolon c ∷ rest) (Begin o) (Maybe (inBase (baseReturn at o))) ns ns refl (omega (arith, l))
      ∙ go (sign sy.Semicolon c) rest (Maybe (inBase (baseReturn at o))) (Whole (sReturn at None c) o) ns ns refl (omega (arith, l))
  statement_read (sReturn at (Some e) c) o ns t k l rest =
      let q = inBase (baseReturn at o) in
      let i : high q (height e) ≤ 200 = omega (arith, l) in
      go (word key.Return at) (spell e (sign sy.Semicolon c ∷ rest)) (Begin o) (Maybe q) ns ns refl (lower q 0 (height e) i (omega arith))
      ∙ first_maybe ns q e t.1 (sign sy.Semicolon c ∷ rest)
      ∙ reads e q ns t.1 (omega arith) i (sign sy.Semicolon c ∷ rest)
      ∙ go (sign sy.Semicolon c) rest (valued (opened e q)) (Whole (sReturn at (Some e) c) o) ns ns (ap (λ z. kept ns (ex.step_held tok.sufSemicolon c z)) (fold_end ns e (baseReturn at o) t.1 i)) (omega (arith, l))

  pub statements_read : (ss : Sts) (ns : List (List ℕ)) (list : Sts → Outer) (d : ℕ) (w : List' list d) → sh.ShapedStatements ss ns → d + height_statements ss ≤ 200 → (rest : List SymbolAt) → NoElse rest → walk (spell_statements ss rest) (stand (Begin (list no_statements)) ns) ≡ walk rest (stand (Begin (list ss)) (sh.block_names ss ns))
  statements_read no_statements ns list d w t l rest n = refl
  statements_read (statements_and ss s) ns list d w t l rest n =
      let ms = sh.block_names ss ns in
      statements_read ss ns list d w t.0 (omega (arith, l)) (spell_statement s rest) (st_no_else s ms t.1 rest)
      ∙ statement_read s (list ss) ms t.1 (stands_list s list d w ss) (subst (λ z. z + height_statement s ≤ 200) (sym (w.deep ss)) (omega (arith, l))) rest
      ∙ block_next (left_open s (list ss) ms) (list (statements_and ss s)) (sh.statement_names s ms) rest (settles s (list ss) ms t.1 ∙ w.settle ss s (sh.statement_names s ms)) n
