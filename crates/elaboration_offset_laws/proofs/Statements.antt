-- Where statements and items stand whose tokens rise.
use Rattle.std.proofs.Common.{ℕ, suc, ◌≤◌, List, ◌∷◌, Option, None, Some, arith}
use Rattle.c_tree.specs.declared.symbol.Bracket.TheVariants as br
use Rattle.c_tree.specs.declared.symbol.StatementWord.{StatementWord}
use Rattle.c_tree.specs.declared.symbol.StatementWord.TheVariants as key
use Rattle.c_tree.specs.declared.symbol.StorageWord.TheVariants as storage
use Rattle.c_tree.specs.declared.symbol.Symbol.TheVariants as sy
use Rattle.c_tree.specs.declared.symbol.SymbolAt.{SymbolAt}
use Rattle.c_tree.specs.Symbols.{sign}
use Rattle.c_tree.specs.Tree as t
use Rattle.c_tree.specs.Spelling as sp
use Rattle.c_tree.specs.Spelling.{opening, closing, comma, word, extension}
use Rattle.elaboration_offset_laws.proofs.Standing.{In, InParts, InWords, InOption, InParameters, ordered, ordered_parts, ordered_words, ordered_option, ordered_parameters, RisesTo, first, starts, again, past, between, weaker, raw_past, attributes_past, read, read_parts, read_words, read_option, read_parameters}

-- ---- Places

abbrev pub InForm : ℕ → t.Form → ℕ → Type 0
InForm lo t.fPlain hi = lo ≤ hi
InForm lo (t.fArray a e b) hi = (lo ≤ a) × InOption (suc a) e b × (suc b ≤ hi)
InForm lo (t.fFunction ps) hi = InParameters lo ps hi

abbrev pub InInitial : ℕ → t.Initial → ℕ → Type 0
InInitial lo t.iNothing hi = lo ≤ hi
InInitial lo (t.iValue at e) hi = (lo ≤ at) × In (suc at) e hi
InInitial lo (t.iList at a es c b) hi = (m : ℕ) × (lo ≤ at) × (suc at ≤ a) × InParts (suc a) es m × (m ≤ b) × (suc b ≤ hi)

abbrev pub InDeclarators : ℕ → t.Decs → ℕ → Type 0
InDeclarators lo t.no_declarators hi = lo ≤ hi
InDeclarators lo (t.declarators_and ds c (t.named n at) f ats i) hi = (m : ℕ) × (k : ℕ) × (l : ℕ) × InDeclarators lo ds m × (m ≤ at) × InForm (suc at) f k × (k ≤ l) × InInitial l i hi

abbrev pub InDeclaration : ℕ → t.Declaration → ℕ → Type 0
InDeclaration lo (t.declares ws ds b) hi = (m : ℕ) × InWords lo ws m × InDeclarators m ds b × (suc b ≤ hi)

abbrev pub InHead : ℕ → t.Head → ℕ → Type 0
InHead lo (t.head at a e b) hi = (lo ≤ at) × (suc at ≤ a) × In (suc a) e b × (suc b ≤ hi)

abbrev pub InStart : ℕ → t.ForStart → ℕ → Type 0
InStart lo (t.forDeclares d) hi = InDeclaration lo d hi
InStart lo (t.forExpr e at) hi = InOption lo e at × (suc at ≤ hi)

abbrev pub InFor : ℕ → t.ForHead → ℕ → Type 0
InFor lo (t.for_head at a s e x i b) hi = (m : ℕ) × (lo ≤ at) × (suc at ≤ a) × InStart (suc a) s m × InOption m e x × InOption (suc x) i b × (suc b ≤ hi)

abbrev mutual
  pub InStatement : ℕ → t.St → ℕ → Type 0
  InStatement lo (t.sDeclaration d) hi = InDeclaration lo d hi
  InStatement lo (t.sBlock a ss b) hi = (lo ≤ a) × InStatements (suc a) ss b × (suc b ≤ hi)
  InStatement lo (t.sEmpty at) hi = lo ≤ hi
  InStatement lo (t.sExpr e at) hi = In lo e at × (suc at ≤ hi)
  InStatement lo (t.sIf h s) hi = (m : ℕ) × InHead lo h m × InStatement m s hi
  InStatement lo (t.sIfElse h s at x) hi = (m : ℕ) × InHead lo h m × InStatement m s at × InStatement (suc at) x hi
  InStatement lo (t.sWhile h s) hi = (m : ℕ) × InHead lo h m × InStatement m s hi
  InStatement lo (t.sSwitch h s) hi = (m : ℕ) × InHead lo h m × InStatement m s hi
  InStatement lo (t.sDo at s h b) hi = (m : ℕ) × (lo ≤ at) × InStatement (suc at) s m × InHead m h b × (suc b ≤ hi)
  InStatement lo (t.sFor h s) hi = (m : ℕ) × InFor lo h m × InStatement m s hi
  InStatement lo (t.sCase at e b s) hi = (lo ≤ at) × In (suc at) e b × InStatement (suc b) s hi
  InStatement lo (t.sDefault at b s) hi = (lo ≤ at) × (suc at ≤ b) × InStatement (suc b) s hi
  InStatement lo (t.sLabel n at b ats s) hi = (m : ℕ) × (lo ≤ m) × InStatement m s hi
  InStatement lo (t.sGoto at n x b) hi = lo ≤ hi
  InStatement lo (t.sBreak at b) hi = lo ≤ hi
  InStatement lo (t.sContinue at b) hi = lo ≤ hi
  InStatement lo (t.sReturn at e b) hi = (lo ≤ at) × InOption (suc at) e b × (suc b ≤ hi)

  pub InStatements : ℕ → t.Sts → ℕ → Type 0
  InStatements lo t.no_statements hi = lo ≤ hi
  InStatements lo (t.statements_and ss s) hi = (m : ℕ) × InStatements lo ss m × InStatement m s hi

abbrev pub InBody : ℕ → t.Body → ℕ → Type 0
InBody lo (t.bBlock a ss b) hi = (lo ≤ a) × InStatements (suc a) ss b × (suc b ≤ hi)
InBody lo (t.bSkipped a r b) hi = lo ≤ hi

abbrev pub InItem : ℕ → t.Item → ℕ → Type 0
InItem lo (t.tSkipped x at r b) hi = lo ≤ hi
InItem lo (t.tFunction ws (t.named n at) ps ats body) hi = (m : ℕ) × (k : ℕ) × (l : ℕ) × InWords lo ws m × (m ≤ at) × InParameters (suc at) ps k × (k ≤ l) × InBody l body hi
InItem lo (t.tDeclaration d) hi = InDeclaration lo d hi
InItem lo (t.tEmpty at) hi = lo ≤ hi

abbrev pub InItems : ℕ → t.Items → ℕ → Type 0
InItems lo t.no_items hi = lo ≤ hi
InItems lo (t.items_and is i) hi = (m : ℕ) × InItems lo is m × InItem m i hi

-- ---- From the tokens

module _ (top : ℕ) where
  -- one token
  token_past : (s : SymbolAt) (rest : List SymbolAt) (lo : ℕ) → RisesTo top lo (s ∷ rest) → RisesTo top lo rest
  token_past s rest lo h = weaker top rest (suc s.at) lo (let e = h.0 in omega (arith, e)) h.1

  read_form : (f : t.Form) (rest : List SymbolAt) (lo : ℕ) → RisesTo top lo (sp.spell_form f rest) → InForm lo f (first top rest) × RisesTo top (first top rest) rest
  read_form t.fPlain rest lo h = (starts top rest lo h, again top rest lo h)
  read_form (t.fArray a e b) rest lo h =
      let r = read_option top e (closing br.Square b ∷ rest) (suc a) h.1 in
      ((h.0, r.0, starts top rest _ r.1.1), again top rest _ r.1.1)
  read_form (t.fFunction ps) rest lo h = read_parameters top ps rest lo h

  read_initial : (i : t.Initial) (rest : List SymbolAt) (lo : ℕ) → RisesTo top lo (sp.spell_initial i rest) → InInitial lo i (first top rest) × RisesTo top (first top rest) rest
  read_initial t.iNothing rest lo h = (starts top rest lo h, again top rest lo h)
  read_initial (t.iValue at e) rest lo h =
      let r = read top e rest (suc at) h.1 in
      ((h.0, r.0), r.1)
  read_initial (t.iList at a es c b) rest lo h =
      let tail = closing br.Curly b ∷ rest in
      let r = read_parts top es (comma c tail) (suc a) h.1.1 in
      let p = past top c tail (first top (comma c tail)) r.1 in
      ((first top (comma c tail), h.0, h.1.0, r.0, between _ _ _ p.1 p.2.0, starts top rest _ p.2.1), again top rest _ p.2.1)

  read_declarators : (ds : t.Decs) (rest : List SymbolAt) (lo : ℕ) → RisesTo top lo (sp.spell_declarators ds rest) → InDeclarators lo ds (first top rest) × RisesTo top (first top rest) rest
  read_declarators t.no_declarators rest lo h = (starts top rest lo h, again top rest lo h)
  read_declarators (t.declarators_and ds c (t.named n at) f ats i) rest lo h =
      let last = sp.spell_initial i rest in
      let mid = sp.spell_attributes ats last in
      let tail = sign (sy.Name n) at ∷ sp.spell_form f mid in
      let r = read_declarators ds (comma c tail) lo h in
      let p = past top c tail (first top (comma c tail)) r.1 in
      let q = read_form f mid (suc at) p.2.1 in
      let o = attributes_past top ats last (first top mid) q.1 in
      let l = read_initial i rest (first top last) (again top last _ o) in
      ((first top (comma c tail), first top mid, first top last, r.0, between _ _ _ p.1 p.2.0, q.0, starts top last _ o, l.0), l.1)

  read_declaration : (d : t.Declaration) (rest : List SymbolAt) (lo : ℕ) → RisesTo top lo (sp.spell_declaration d rest) → InDeclaration lo d (first top rest) × RisesTo top (first top rest) rest
  read_declaration (t.declares ws ds b) rest lo h =
      let tail = sign sy.Semicolon b ∷ rest in
      let r = read_words top ws (sp.spell_declarators ds tail) lo h in
      let q = read_declarators ds tail (first top (sp.spell_declarators ds tail)) r.1 in
      ((first top (sp.spell_declarators ds tail), r.0, q.0, starts top rest _ q.1.1), again top rest _ q.1.1)

  read_head : (w : StatementWord) (h : t.Head) (rest : List SymbolAt) (lo : ℕ) → RisesTo top lo (sp.spell_head w h rest) → InHead lo h (first top rest) × RisesTo top (first top rest) rest
  read_head w (t.head at a e b) rest lo h =
      let r = read top e (closing br.Round b ∷ rest) (suc a) h.1.1 in
      ((h.0, h.1.0, r.0, starts top rest _ r.1.1), again top rest _ r.1.1)

  read_start : (s : t.ForStart) (rest : List SymbolAt) (lo : ℕ) → RisesTo top lo (sp.spell_for_start s rest) → InStart lo s (first top rest) × RisesTo top (first top rest) rest
  read_start (t.forDeclares d) rest lo h = read_declaration d rest lo h
  read_start (t.forExpr e at) rest lo h =
      let r = read_option top e (sign sy.Semicolon at ∷ rest) lo h in
      ((r.0, starts top rest _ r.1.1), again top rest _ r.1.1)

  read_for : (h : t.ForHead) (rest : List SymbolAt) (lo : ℕ) → RisesTo top lo (sp.spell_for_head h rest) → InFor lo h (first top rest) × RisesTo top (first top rest) rest
  read_for (t.for_head at a s e x i b) rest lo h =
      let last = sp.spell_option i (closing br.Round b ∷ rest) in
      let tail = sp.spell_option e (sign sy.Semicolon x ∷ last) in
      let r = read_start s tail (suc a) h.1.1 in
      let q = read_option top e (sign sy.Semicolon x ∷ last) (first top tail) r.1 in
      let p = read_option top i (closing br.Round b ∷ rest) (suc x) q.1.1 in
      ((first top tail, h.0, h.1.0, r.0, q.0, p.0, starts top rest _ p.1.1), again top rest _ p.1.1)

  mutual
    read_statement : (s : t.St) (rest : List SymbolAt) (lo : ℕ) → RisesTo top lo (sp.spell_statement s rest) → InStatement lo s (first top rest) × RisesTo top (first top rest) rest
    read_statement (t.sDeclaration d) rest lo h = read_declaration d rest lo h
    read_statement (t.sBlock a ss b) rest lo h =
        let r = read_statements ss (closing br.Curly b ∷ rest) (suc a) h.1 in
        ((h.0, r.0, starts top rest _ r.1.1), again top rest _ r.1.1)
    read_statement (t.sEmpty at) rest lo h = let p = token_past (sign sy.Semicolon at) rest lo h in (starts top rest lo p, again top rest lo p)
    read_statement (t.sExpr e at) rest lo h =
        let r = read top e (sign sy.Semicolon at ∷ rest) lo h in
        ((r.0, starts top rest _ r.1.1), again top rest _ r.1.1)
    read_statement (t.sIf g s) rest lo h =
        let r = read_head key.If g (sp.spell_statement s rest) lo h in
        let q = read_statement s rest (first top (sp.spell_statement s rest)) r.1 in
        ((first top (sp.spell_statement s rest), r.0, q.0), q.1)
    read_statement (t.sIfElse g s at x) rest lo h =
        let last = word key.Else at ∷ sp.spell_statement x rest in
        let r = read_head key.If g (sp.spell_statement s last) lo h in
        let q = read_statement s last (first top (sp.spell_statement s last)) r.1 in
        let p = read_statement x rest (suc at) q.1.1 in
        ((first top (sp.spell_statement s last), r.0, q.0, p.0), p.1)
    read_statement (t.sWhile g s) rest lo h =
        let r = read_head key.While g (sp.spell_statement s rest) lo h in
        let q = read_statement s rest (first top (sp.spell_statement s rest)) r.1 in
        ((first top (sp.spell_statement s rest), r.0, q.0), q.1)
    read_statement (t.sSwitch g s) rest lo h =
        let r = read_head key.Switch g (sp.spell_statement s rest) lo h in
        let q = read_statement s rest (first top (sp.spell_statement s rest)) r.1 in
        ((first top (sp.spell_statement s rest), r.0, q.0), q.1)
    read_statement (t.sDo at s g b) rest lo h =
        let last = sp.spell_head key.While g (sign sy.Semicolon b ∷ rest) in
        let r = read_statement s last (suc at) h.1 in
        let q = read_head key.While g (sign sy.Semicolon b ∷ rest) (first top last) r.1 in
        ((first top last, h.0, r.0, q.0, starts top rest _ q.1.1), again top rest _ q.1.1)
    read_statement (t.sFor g s) rest lo h =
        let r = read_for g (sp.spell_statement s rest) lo h in
        let q = read_statement s rest (first top (sp.spell_statement s rest)) r.1 in
        ((first top (sp.spell_statement s rest), r.0, q.0), q.1)
    read_statement (t.sCase at e b s) rest lo h =
        let r = read top e (sign sy.Colon b ∷ sp.spell_statement s rest) (suc at) h.1 in
        let q = read_statement s rest (suc b) r.1.1 in
        ((h.0, r.0, q.0), q.1)
    read_statement (t.sDefault at b s) rest lo h =
        let q = read_statement s rest (suc b) h.1.1 in
        ((h.0, h.1.0, q.0), q.1)
    read_statement (t.sLabel n at b ats s) rest lo h =
        let tail = sp.spell_statement s rest in
        let p = attributes_past top ats tail lo (weaker top (sp.spell_attributes ats tail) (suc b) lo (omega (arith, h.0, h.1.0)) h.1.1) in
        let q = read_statement s rest (first top tail) (again top tail lo p) in
        ((first top tail, starts top tail lo p, q.0), q.1)
    read_statement (t.sGoto at n x b) rest lo h =
        let p = weaker top rest (suc b) lo (omega (arith, h.0, h.1.0, h.1.1.0)) h.1.1.1 in
        (starts top rest lo p, again top rest lo p)
    read_statement (t.sBreak at b) rest lo h =
        let p = weaker top rest (suc b) lo (omega (arith, h.0, h.1.0)) h.1.1 in
        (starts top rest lo p, again top rest lo p)
    read_statement (t.sContinue at b) rest lo h =
        let p = weaker top rest (suc b) lo (omega (arith, h.0, h.1.0)) h.1.1 in
        (starts top rest lo p, again top rest lo p)
    read_statement (t.sReturn at e b) rest lo h =
        let r = read_option top e (sign sy.Semicolon b ∷ rest) (suc at) h.1 in
        ((h.0, r.0, starts top rest _ r.1.1), again top rest _ r.1.1)

    read_statements : (ss : t.Sts) (rest : List SymbolAt) (lo : ℕ) → RisesTo top lo (sp.spell_statements ss rest) → InStatements lo ss (first top rest) × RisesTo top (first top rest) rest
    read_statements t.no_statements rest lo h = (starts top rest lo h, again top rest lo h)
    read_statements (t.statements_and ss s) rest lo h =
        let r = read_statements ss (sp.spell_statement s rest) lo h in
        let q = read_statement s rest (first top (sp.spell_statement s rest)) r.1 in
        ((first top (sp.spell_statement s rest), r.0, q.0), q.1)

  read_body : (b : t.Body) (rest : List SymbolAt) (lo : ℕ) → RisesTo top lo (sp.spell_body b rest) → InBody lo b (first top rest) × RisesTo top (first top rest) rest
  read_body (t.bBlock a ss b) rest lo h =
      let r = read_statements ss (closing br.Curly b ∷ rest) (suc a) h.1 in
      ((h.0, r.0, starts top rest _ r.1.1), again top rest _ r.1.1)
  read_body (t.bSkipped a r b) rest lo h =
      let p = token_past (closing br.Curly b) rest lo (raw_past top r (closing br.Curly b ∷ rest) lo (token_past (opening br.Curly a) (sp.spell_raw r (closing br.Curly b ∷ rest)) lo h)) in
      (starts top rest lo p, again top rest lo p)

  extension_past : (x : Option ℕ) (rest : List SymbolAt) (lo : ℕ) → RisesTo top lo (extension x rest) → RisesTo top lo rest
  extension_past None rest lo h = h
  extension_past (Some at) rest lo h = token_past (sign sy.Extension at) rest lo h

  read_item : (i : t.Item) (rest : List SymbolAt) (lo : ℕ) → RisesTo top lo (sp.spell_item i rest) → InItem lo i (first top rest) × RisesTo top (first top rest) rest
  read_item (t.tSkipped x at r b) rest lo h =
      let tail = sign sy.Semicolon b ∷ rest in
      let p = token_past (sign sy.Semicolon b) rest lo (raw_past top r tail lo (token_past (sign (sy.Storage storage.Extern) at) (sp.spell_raw r tail) lo (extension_past x (sign (sy.Storage storage.Extern) at ∷ sp.spell_raw r tail) lo h))) in
      (starts top rest lo p, again top rest lo p)
  read_item (t.tFunction ws (t.named n at) ps ats b) rest lo h =
      let last = sp.spell_body b rest in
      let mid = sp.spell_attributes ats last in
      let r = read_words top ws (sign (sy.Name n) at ∷ sp.spell_parameters ps mid) lo h in
      let q = read_parameters top ps mid (suc at) r.1.1 in
      let o = attributes_past top ats last (first top mid) q.1 in
      let l = read_body b rest (first top last) (again top last _ o) in
      ((at, first top mid, first top last, r.0, r.1.0, q.0, starts top last _ o, l.0), l.1)
  read_item (t.tDeclaration d) rest lo h = read_declaration d rest lo h
  read_item (t.tEmpty at) rest lo h = let p = token_past (sign sy.Semicolon at) rest lo h in (starts top rest lo p, again top rest lo p)

  pub read_items : (is : t.Items) (rest : List SymbolAt) (lo : ℕ) → RisesTo top lo (sp.spell_items is rest) → InItems lo is (first top rest) × RisesTo top (first top rest) rest
  read_items t.no_items rest lo h = (starts top rest lo h, again top rest lo h)
  read_items (t.items_and is i) rest lo h =
      let r = read_items is (sp.spell_item i rest) lo h in
      let q = read_item i rest (first top (sp.spell_item i rest)) r.1 in
      ((first top (sp.spell_item i rest), r.0, q.0), q.1)

-- ---- A part ends no earlier than it begins

pub ordered_form : (f : t.Form) (lo hi : ℕ) → InForm lo f hi → lo ≤ hi
ordered_form t.fPlain lo hi h = h
ordered_form (t.fArray a e b) lo hi h = let r = ordered_option e (suc a) b h.1 in omega (arith, h.0, r, h.2)
ordered_form (t.fFunction ps) lo hi h = ordered_parameters ps lo hi h

pub ordered_initial : (i : t.Initial) (lo hi : ℕ) → InInitial lo i hi → lo ≤ hi
ordered_initial t.iNothing lo hi h = h
ordered_initial (t.iValue at e) lo hi h = let r = ordered e (suc at) hi h.1 in omega (arith, h.0, r)
ordered_initial (t.iList at a es c b) lo hi h = let r = ordered_parts es (suc a) h.0 h.3 in omega (arith, h.1, h.2, r, h.4, h.5)

pub ordered_declarators : (ds : t.Decs) (lo hi : ℕ) → InDeclarators lo ds hi → lo ≤ hi
ordered_declarators t.no_declarators lo hi h = h
ordered_declarators (t.declarators_and ds c (t.named n at) f ats i) lo hi h =
    let r = ordered_declarators ds lo h.0 h.3 in
    let q = ordered_form f (suc at) h.1 h.5 in
    let p = ordered_initial i h.2 hi h.7 in
    omega (arith, r, h.4, q, h.6, p)

pub ordered_declaration : (d : t.Declaration) (lo hi : ℕ) → InDeclaration lo d hi → lo ≤ hi
ordered_declaration (t.declares ws ds b) lo hi h = let r = ordered_words ws lo h.0 h.1 in let q = ordered_declarators ds h.0 b h.2 in omega (arith, r, q, h.3)

pub ordered_head : (g : t.Head) (lo hi : ℕ) → InHead lo g hi → lo ≤ hi
ordered_head (t.head at a e b) lo hi h = let r = ordered e (suc a) b h.2 in omega (arith, h.0, h.1, r, h.3)

pub ordered_start : (g : t.ForStart) (lo hi : ℕ) → InStart lo g hi → lo ≤ hi
ordered_start (t.forDeclares d) lo hi h = ordered_declaration d lo hi h
ordered_start (t.forExpr e at) lo hi h = let r = ordered_option e lo at h.0 in omega (arith, r, h.1)

pub ordered_for : (g : t.ForHead) (lo hi : ℕ) → InFor lo g hi → lo ≤ hi
ordered_for (t.for_head at a g e x i b) lo hi h =
    let r = ordered_start g (suc a) h.0 h.3 in
    let q = ordered_option e h.0 x h.4 in
    let p = ordered_option i (suc x) b h.5 in
    omega (arith, h.1, h.2, r, q, p, h.6)

mutual
  pub ordered_statement : (s : t.St) (lo hi : ℕ) → InStatement lo s hi → lo ≤ hi
  ordered_statement (t.sDeclaration d) lo hi h = ordered_declaration d lo hi h
  ordered_statement (t.sBlock a ss b) lo hi h = let r = ordered_statements ss (suc a) b h.1 in omega (arith, h.0, r, h.2)
  ordered_statement (t.sEmpty at) lo hi h = h
  ordered_statement (t.sExpr e at) lo hi h = let r = ordered e lo at h.0 in omega (arith, r, h.1)
  ordered_statement (t.sIf g s) lo hi h = let r = ordered_head g lo h.0 h.1 in let q = ordered_statement s h.0 hi h.2 in omega (arith, r, q)
  ordered_statement (t.sIfElse g s at x) lo hi h = let r = ordered_head g lo h.0 h.1 in let q = ordered_statement s h.0 at h.2 in let p = ordered_statement x (suc at) hi h.3 in omega (arith, r, q, p)
  ordered_statement (t.sWhile g s) lo hi h = let r = ordered_head g lo h.0 h.1 in let q = ordered_statement s h.0 hi h.2 in omega (arith, r, q)
  ordered_statement (t.sSwitch g s) lo hi h = let r = ordered_head g lo h.0 h.1 in let q = ordered_statement s h.0 hi h.2 in omega (arith, r, q)
  ordered_statement (t.sDo at s g b) lo hi h = let r = ordered_statement s (suc at) h.0 h.2 in let q = ordered_head g h.0 b h.3 in omega (arith, h.1, r, q, h.4)
  ordered_statement (t.sFor g s) lo hi h = let r = ordered_for g lo h.0 h.1 in let q = ordered_statement s h.0 hi h.2 in omega (arith, r, q)
  ordered_statement (t.sCase at e b s) lo hi h = let r = ordered e (suc at) b h.1 in let q = ordered_statement s (suc b) hi h.2 in omega (arith, h.0, r, q)
  ordered_statement (t.sDefault at b s) lo hi h = let q = ordered_statement s (suc b) hi h.2 in omega (arith, h.0, h.1, q)
  ordered_statement (t.sLabel n at b ats s) lo hi h = let q = ordered_statement s h.0 hi h.2 in omega (arith, h.1, q)
  ordered_statement (t.sGoto at n x b) lo hi h = h
  ordered_statement (t.sBreak at b) lo hi h = h
  ordered_statement (t.sContinue at b) lo hi h = h
  ordered_statement (t.sReturn at e b) lo hi h = let r = ordered_option e (suc at) b h.1 in omega (arith, h.0, r, h.2)

  pub ordered_statements : (ss : t.Sts) (lo hi : ℕ) → InStatements lo ss hi → lo ≤ hi
  ordered_statements t.no_statements lo hi h = h
  ordered_statements (t.statements_and ss s) lo hi h = let r = ordered_statements ss lo h.0 h.1 in let q = ordered_statement s h.0 hi h.2 in omega (arith, r, q)
