-- Each object that a file declares has a name with a letter, where each name among its tokens has one.
use Rattle.std.proofs.Common.{◌≡◌, ℕ, suc, ◌<◌, Bool, true, false, List, [], ◌∷◌, ◌++◌, length, Option, None, Some, refl}
use Rattle.c_tree.specs.declared.symbol.Bracket.TheVariants as br
use Rattle.c_tree.specs.declared.symbol.AssignOp.TheVariants as to
use Rattle.c_tree.specs.declared.symbol.StatementWord.{StatementWord}
use Rattle.c_tree.specs.declared.symbol.StatementWord.TheVariants as key
use Rattle.c_tree.specs.declared.symbol.StorageWord.TheVariants as storage
use Rattle.c_tree.specs.declared.symbol.Symbol.TheVariants as sy
use Rattle.c_tree.specs.declared.symbol.SymbolAt.{SymbolAt}
use Rattle.c_tree.specs.Symbols.{sign}
use Rattle.c_tree.specs.Tree as t
use Rattle.c_tree.specs.Spelling as sp
use Rattle.c_tree.specs.Spelling.{opening, closing, comma, word, extension}
use Rattle.c_meaning.specs.Tokens.{open_of, close_of, end_of}
use Rattle.c_meaning.specs.Scope as s
use Rattle.elaboration_offset_laws.specs.Laws.{HaveLetters}

abbrev pub is_object : s.What → Bool
is_object (s.anObject ws f i) = true
is_object w = false

abbrev pub AreNamed : List s.Declared → Type 0
AreNamed [] = Unit {0}
AreNamed (d ∷ ds) = (is_object d.what ≡ true → s.is_file d.scope ≡ true → 0 < length d.name) × AreNamed ds

named_both : (xs ys : List s.Declared) → AreNamed xs → AreNamed ys → AreNamed (xs ++ ys)
named_both [] ys h k = k
named_both (x ∷ xs) ys h k = (h.0, named_both xs ys h.1 k)

no_object : (n : List ℕ) → false ≡ true → 0 < length n
no_object n h = cc

in_block : {A : Type 0} (b : Bool) → b ≡ false → b ≡ true → A
in_block true h k = cc
in_block false h k = cc

module _ (scope : s.Scope) (owner : Option ℕ) where
  mutual
    named_expression : (e : t.Ex) → AreNamed (s.in_expression scope owner e)
    named_expression (t.eName n at) = tt
    named_expression (t.eNumber v f at) = tt
    named_expression (t.eLetter v at) = tt
    named_expression (t.eParen a e b) = named_expression e
    named_expression (t.eCall f a es b) = named_both _ _ (named_expression f) (named_parts es)
    named_expression (t.eIndex a x i y) = named_both _ _ (named_expression a) (named_expression i)
    named_expression (t.ePostfix e x at) = named_expression e
    named_expression (t.ePrefix o at e) = named_expression e
    named_expression (t.eSizeof at a ws b) = named_words ws
    named_expression (t.eCast a ws b e) = named_both _ _ (named_words ws) (named_expression e)
    named_expression (t.eBinary a o at b) = named_both _ _ (named_expression a) (named_expression b)
    named_expression (t.eCond g x a y b) = named_both _ _ (named_both _ _ (named_expression g) (named_expression a)) (named_expression b)
    named_expression (t.eAssign a o at b) = named_both _ _ (named_expression a) (named_expression b)
    named_expression (t.eComma es) = named_parts es

    named_parts : (es : t.Parts) → AreNamed (s.in_parts scope owner es)
    named_parts t.no_parts = tt
    named_parts (t.parts_and es x e) = named_both _ _ (named_parts es) (named_expression e)

    named_words : (ws : t.Words) → AreNamed (s.in_words scope owner ws)
    named_words t.no_words = tt
    named_words (t.words_and ws w) = named_both _ _ (named_words ws) (named_word w)

    named_word : (w : t.Word) → AreNamed (s.in_word scope owner w)
    named_word (t.wType v at) = tt
    named_word (t.wStorage v at) = tt
    named_word (t.wConst v at) = tt
    named_word (t.wExtension at) = tt
    named_word (t.wAttribute a) = tt
    named_word (t.wTypedef n at) = tt
    named_word (t.wTag at n b) = tt
    named_word (t.wEnum at a es x b) = named_enumerators es
    named_word (t.wTagEnum at n y a es x b) = named_both _ _ (named_enumerators es) ((λ o q. no_object _ o), tt)

    named_enumerators : (es : t.Ens) → AreNamed (s.in_enumerators scope owner es)
    named_enumerators t.no_enumerators = tt
    named_enumerators (t.plain_and es x n at) = named_both _ _ (named_enumerators es) ((λ o q. no_object _ o), tt)
    named_enumerators (t.valued_and es x n at a e) = named_both _ _ (named_both _ _ (named_enumerators es) (named_expression e)) ((λ o q. no_object _ o), tt)

  named_option : (e : Option t.Ex) → AreNamed (s.in_option scope owner e)
  named_option None = tt
  named_option (Some e) = named_expression e

  named_params : (ps : t.Params) → AreNamed (s.in_params scope owner ps)
  named_params t.no_params = tt
  named_params (t.params_and ps x ws None) = named_both _ _ (named_both _ _ (named_params ps) (named_words ws)) ((λ o q. no_object [] o), tt)
  named_params (t.params_and ps x ws (Some (t.named n at))) = named_both _ _ (named_both _ _ (named_params ps) (named_words ws)) ((λ o q. no_object _ o), tt)

  named_parameters : (ps : t.Parameters) → AreNamed (s.in_parameters scope owner ps)
  named_parameters (t.pUnknown a b) = tt
  named_parameters (t.pVoid a at b) = tt
  named_parameters (t.pSome a ps b) = named_params ps

  named_named : (ps : t.Params) → AreNamed (s.in_named scope owner ps)
  named_named t.no_params = tt
  named_named (t.params_and ps x ws None) = named_both _ _ (named_named ps) (named_words ws)
  named_named (t.params_and ps x ws (Some (t.named n at))) = named_both _ _ (named_both _ _ (named_named ps) (named_words ws)) ((λ o q. no_object _ o), tt)

  named_names : (ps : t.Parameters) → AreNamed (s.in_names scope owner ps)
  named_names (t.pUnknown a b) = tt
  named_names (t.pVoid a at b) = tt
  named_names (t.pSome a ps b) = named_named ps

named_prototype : (ps : t.Parameters) → AreNamed (s.in_prototype ps)
named_prototype ps = named_names (s.block (open_of ps) (close_of ps)) None ps

abbrev DecsNamed : t.Decs → Type 0
DecsNamed t.no_declarators = Unit {0}
DecsNamed (t.declarators_and ds x (t.named n at) f ats i) = DecsNamed ds × (0 < length n)

abbrev DeclarationNamed : t.Declaration → Type 0
DeclarationNamed (t.declares ws ds b) = DecsNamed ds

module _ (scope : s.Scope) (owner : Option ℕ) where
  named_declarator : (ws : t.Words) (n : List ℕ) (at : ℕ) (f : t.Form) (i : t.Initial) → (s.is_file scope ≡ true → 0 < length n) → AreNamed (s.in_declarator scope owner ws n at f i)
  named_declarator ws n at t.fPlain i h = ((λ o q. h q), tt)
  named_declarator ws n at (t.fArray a e b) i h = named_both _ _ (named_option scope owner e) ((λ o q. h q), tt)
  named_declarator ws n at (t.fFunction ps) i h = named_both _ _ (named_prototype ps) ((λ o q. h q), tt)

  named_initial : (i : t.Initial) → AreNamed (s.in_initial scope owner i)
  named_initial t.iNothing = tt
  named_initial (t.iValue at e) = named_expression scope owner e
  named_initial (t.iList at a es x b) = named_parts scope owner es

  named_declarators : (ws : t.Words) (ds : t.Decs) → (s.is_file scope ≡ true → DecsNamed ds) → AreNamed (s.in_declarators scope owner ws ds)
  named_declarators ws t.no_declarators h = tt
  named_declarators ws (t.declarators_and ds x (t.named n at) f ats i) h =
      named_both _ _ (named_both _ _ (named_declarators ws ds (λ q. (h q).0)) (named_declarator ws n at f i (λ q. (h q).1))) (named_initial i)

  named_declaration : (d : t.Declaration) → (s.is_file scope ≡ true → DeclarationNamed d) → AreNamed (s.in_declaration scope owner d)
  named_declaration (t.declares ws ds b) h = named_both _ _ (named_words scope owner ws) (named_declarators ws ds h)

  named_start : (g : t.ForStart) → s.is_file scope ≡ false → AreNamed (s.in_start scope owner g)
  named_start (t.forDeclares d) k = named_declaration d (λ q. in_block (s.is_file scope) k q)
  named_start (t.forExpr e at) k = named_option scope owner e

module _ (owner : Option ℕ) where
  mutual
    named_statement : (scope : s.Scope) → s.is_file scope ≡ false → (x : t.St) → AreNamed (s.in_statement owner scope x)
    named_statement scope k (t.sDeclaration d) = named_declaration scope owner d (λ q. in_block (s.is_file scope) k q)
    named_statement scope k (t.sBlock a ss b) = named_statements (s.block a b) refl ss
    named_statement scope k (t.sEmpty at) = tt
    named_statement scope k (t.sExpr e at) = named_expression scope owner e
    named_statement scope k (t.sIf (t.head at a e b) x) = named_both _ _ (named_expression (s.block at (end_of x)) owner e) (named_statement (s.block b (end_of x)) refl x)
    named_statement scope k (t.sIfElse (t.head at a e b) x y z) =
        named_both _ _ (named_both _ _ (named_expression (s.block at (end_of z)) owner e) (named_statement (s.block b (end_of x)) refl x)) (named_statement (s.block y (end_of z)) refl z)
    named_statement scope k (t.sWhile (t.head at a e b) x) = named_both _ _ (named_expression (s.block at (end_of x)) owner e) (named_statement (s.block b (end_of x)) refl x)
    named_statement scope k (t.sSwitch (t.head at a e b) x) = named_both _ _ (named_expression (s.block at (end_of x)) owner e) (named_statement (s.block b (end_of x)) refl x)
    named_statement scope k (t.sDo at x (t.head v a e b) y) = named_both _ _ (named_statement (s.block (suc at) (end_of x)) refl x) (named_expression (s.block at y) owner e)
    named_statement scope k (t.sFor (t.for_head at a g test x step b) y) =
        named_both _ _ (named_both _ _ (named_both _ _ (named_start (s.block at (end_of y)) owner g refl) (named_option (s.block at (end_of y)) owner test))
        (named_option (s.block at (end_of y)) owner step)) (named_statement (s.block b (end_of y)) refl y)
    named_statement scope k (t.sCase at e b x) = named_both _ _ (named_expression scope owner e) (named_statement scope k x)
    named_statement scope k (t.sDefault at b x) = named_statement scope k x
    named_statement scope k (t.sLabel n at b ats x) = named_statement scope k x
    named_statement scope k (t.sGoto at n x b) = tt
    named_statement scope k (t.sBreak at b) = tt
    named_statement scope k (t.sContinue at b) = tt
    named_statement scope k (t.sReturn at e b) = named_option scope owner e

    named_statements : (scope : s.Scope) → s.is_file scope ≡ false → (ss : t.Sts) → AreNamed (s.in_statements owner scope ss)
    named_statements scope k t.no_statements = tt
    named_statements scope k (t.statements_and ss x) = named_both _ _ (named_statements scope k ss) (named_statement scope k x)

named_function : (number : ℕ) (ws : t.Words) (n : List ℕ) (at : ℕ) (ps : t.Parameters) (a z : ℕ) (ss : t.Sts) → AreNamed (s.in_function number ws n at ps (t.bBlock a ss z))
named_function number ws n at ps a z ss =
    let scope = s.block (open_of ps) z in
    named_both _ _ (named_both _ _ (named_both _ _ (named_words s.file None ws) (named_parameters scope (Some number) ps)) ((λ o q. no_object _ o), tt)) (named_statements (Some number) scope refl ss)

named_skipped : (number : ℕ) (ws : t.Words) (n : List ℕ) (at : ℕ) (ps : t.Parameters) (a z : ℕ) (r : t.Raw) → AreNamed (s.in_function number ws n at ps (t.bSkipped a r z))
named_skipped number ws n at ps a z r = named_both _ _ (named_both _ _ (named_words s.file None ws) (named_prototype ps)) ((λ o q. no_object _ o), tt)

-- ---- Tokens behind a part

abbrev H : List SymbolAt → Type 0
H signs = HaveLetters signs

past_comma : (c : Option ℕ) (rest : List SymbolAt) → H (comma c rest) → H rest
past_comma None rest h = h
past_comma (Some at) rest h = h.1

past_raw : (r : t.Raw) (rest : List SymbolAt) → H (sp.spell_raw r rest) → H rest
past_raw t.no_raw rest h = h
past_raw (t.raw_and r s) rest h = (past_raw r (s ∷ rest) h).1

past_attribute : (a : t.At) (rest : List SymbolAt) → H (sp.spell_attribute a rest) → H rest
past_attribute (t.attribute w at a r b) rest h = (past_raw r (closing br.Round b ∷ rest) h.1.1).1

past_attributes : (ats : t.Ats) (rest : List SymbolAt) → H (sp.spell_attributes ats rest) → H rest
past_attributes t.no_attributes rest h = h
past_attributes (t.attributes_and ats a) rest h = past_attribute a rest (past_attributes ats (sp.spell_attribute a rest) h)

mutual
  past : (e : t.Ex) (rest : List SymbolAt) → H (sp.spell e rest) → H rest
  past (t.eName n at) rest h = h.1
  past (t.eNumber v f at) rest h = h.1
  past (t.eLetter v at) rest h = h.1
  past (t.eParen a e b) rest h = (past e (closing br.Round b ∷ rest) h.1).1
  past (t.eCall f a es b) rest h = (past_parts es (closing br.Round b ∷ rest) (past f (opening br.Round a ∷ sp.spell_parts es (closing br.Round b ∷ rest)) h).1).1
  past (t.eIndex a x i y) rest h = (past i (closing br.Square y ∷ rest) (past a (opening br.Square x ∷ sp.spell i (closing br.Square y ∷ rest)) h).1).1
  past (t.ePostfix e c at) rest h = (past e (sign (sy.Crement c) at ∷ rest) h).1
  past (t.ePrefix o at e) rest h = past e rest h.1
  past (t.eSizeof at a ws b) rest h = (past_words ws (closing br.Round b ∷ rest) h.1.1).1
  past (t.eCast a ws b e) rest h = past e rest (past_words ws (closing br.Round b ∷ sp.spell e rest) h.1).1
  past (t.eBinary a o at b) rest h = past b rest (past a (sign (sy.Binary o) at ∷ sp.spell b rest) h).1
  past (t.eCond c x a y b) rest h = past b rest (past a (sign sy.Colon y ∷ sp.spell b rest) (past c (sign sy.Question x ∷ sp.spell a (sign sy.Colon y ∷ sp.spell b rest)) h).1).1
  past (t.eAssign a o at b) rest h = past b rest (past a (sign (sy.Assign o) at ∷ sp.spell b rest) h).1
  past (t.eComma es) rest h = past_parts es rest h

  past_parts : (es : t.Parts) (rest : List SymbolAt) → H (sp.spell_parts es rest) → H rest
  past_parts t.no_parts rest h = h
  past_parts (t.parts_and es c e) rest h = past e rest (past_comma c (sp.spell e rest) (past_parts es (comma c (sp.spell e rest)) h))

  past_words : (ws : t.Words) (rest : List SymbolAt) → H (sp.spell_words ws rest) → H rest
  past_words t.no_words rest h = h
  past_words (t.words_and ws w) rest h = past_word w rest (past_words ws (sp.spell_word w rest) h)

  past_word : (w : t.Word) (rest : List SymbolAt) → H (sp.spell_word w rest) → H rest
  past_word (t.wType w at) rest h = h.1
  past_word (t.wStorage w at) rest h = h.1
  past_word (t.wConst w at) rest h = h.1
  past_word (t.wExtension at) rest h = h.1
  past_word (t.wAttribute a) rest h = past_attribute a rest h
  past_word (t.wTypedef n at) rest h = h.1
  past_word (t.wTag at n b) rest h = h.1.1
  past_word (t.wEnum at a es c b) rest h = (past_comma c (closing br.Curly b ∷ rest) (past_enumerators es (comma c (closing br.Curly b ∷ rest)) h.1.1)).1
  past_word (t.wTagEnum at n x a es c b) rest h = (past_comma c (closing br.Curly b ∷ rest) (past_enumerators es (comma c (closing br.Curly b ∷ rest)) h.1.1.1)).1

  past_enumerators : (es : t.Ens) (rest : List SymbolAt) → H (sp.spell_enumerators es rest) → H rest
  past_enumerators t.no_enumerators rest h = h
  past_enumerators (t.plain_and es c n at) rest h = (past_comma c (sign (sy.Name n) at ∷ rest) (past_enumerators es (comma c (sign (sy.Name n) at ∷ rest)) h)).1
  past_enumerators (t.valued_and es c n at a e) rest h =
      let tail = sign (sy.Name n) at ∷ sign (sy.Assign to.Plain) a ∷ sp.spell e rest in
      past e rest (past_comma c tail (past_enumerators es (comma c tail) h)).1.1

past_option : (e : Option t.Ex) (rest : List SymbolAt) → H (sp.spell_option e rest) → H rest
past_option None rest h = h
past_option (Some e) rest h = past e rest h

past_option_name : (n : Option t.Name) (rest : List SymbolAt) → H (sp.spell_option_name n rest) → H rest
past_option_name None rest h = h
past_option_name (Some (t.named n at)) rest h = h.1

past_params : (ps : t.Params) (rest : List SymbolAt) → H (sp.spell_params ps rest) → H rest
past_params t.no_params rest h = h
past_params (t.params_and ps c ws n) rest h =
    let tail = sp.spell_words ws (sp.spell_option_name n rest) in
    past_option_name n rest (past_words ws (sp.spell_option_name n rest) (past_comma c tail (past_params ps (comma c tail) h)))

past_parameters : (ps : t.Parameters) (rest : List SymbolAt) → H (sp.spell_parameters ps rest) → H rest
past_parameters (t.pUnknown a b) rest h = h.1.1
past_parameters (t.pVoid a at b) rest h = h.1.1.1
past_parameters (t.pSome a ps b) rest h = (past_params ps (closing br.Round b ∷ rest) h.1).1

past_form : (f : t.Form) (rest : List SymbolAt) → H (sp.spell_form f rest) → H rest
past_form t.fPlain rest h = h
past_form (t.fArray a e b) rest h = (past_option e (closing br.Square b ∷ rest) h.1).1
past_form (t.fFunction ps) rest h = past_parameters ps rest h

past_initial : (i : t.Initial) (rest : List SymbolAt) → H (sp.spell_initial i rest) → H rest
past_initial t.iNothing rest h = h
past_initial (t.iValue at e) rest h = past e rest h.1
past_initial (t.iList at a es c b) rest h = (past_comma c (closing br.Curly b ∷ rest) (past_parts es (comma c (closing br.Curly b ∷ rest)) h.1.1)).1

past_declarators : (ds : t.Decs) (rest : List SymbolAt) → H (sp.spell_declarators ds rest) → DecsNamed ds × H rest
past_declarators t.no_declarators rest h = (tt, h)
past_declarators (t.declarators_and ds c (t.named n at) f ats i) rest h =
    let last = sp.spell_initial i rest in
    let mid = sp.spell_attributes ats last in
    let tail = sign (sy.Name n) at ∷ sp.spell_form f mid in
    let front = past_declarators ds (comma c tail) h in
    let own = past_comma c tail front.1 in
    ((front.0, own.0), past_initial i rest (past_attributes ats last (past_form f mid own.1)))

past_declaration : (d : t.Declaration) (rest : List SymbolAt) → H (sp.spell_declaration d rest) → DeclarationNamed d × H rest
past_declaration (t.declares ws ds b) rest h =
    let r = past_declarators ds (sign sy.Semicolon b ∷ rest) (past_words ws (sp.spell_declarators ds (sign sy.Semicolon b ∷ rest)) h) in
    (r.0, r.1.1)

past_head : (w : StatementWord) (g : t.Head) (rest : List SymbolAt) → H (sp.spell_head w g rest) → H rest
past_head w (t.head at a e b) rest h = (past e (closing br.Round b ∷ rest) h.1.1).1

past_start : (g : t.ForStart) (rest : List SymbolAt) → H (sp.spell_for_start g rest) → H rest
past_start (t.forDeclares d) rest h = (past_declaration d rest h).1
past_start (t.forExpr e at) rest h = (past_option e (sign sy.Semicolon at ∷ rest) h).1

past_for : (g : t.ForHead) (rest : List SymbolAt) → H (sp.spell_for_head g rest) → H rest
past_for (t.for_head at a g e x i b) rest h =
    let last = closing br.Round b ∷ rest in
    let mid = sign sy.Semicolon x ∷ sp.spell_option i last in
    (past_option i last (past_option e mid (past_start g (sp.spell_option e mid) h.1.1)).1).1

mutual
  past_statement : (x : t.St) (rest : List SymbolAt) → H (sp.spell_statement x rest) → H rest
  past_statement (t.sDeclaration d) rest h = (past_declaration d rest h).1
  past_statement (t.sBlock a ss b) rest h = (past_statements ss (closing br.Curly b ∷ rest) h.1).1
  past_statement (t.sEmpty at) rest h = h.1
  past_statement (t.sExpr e at) rest h = (past e (sign sy.Semicolon at ∷ rest) h).1
  past_statement (t.sIf g x) rest h = past_statement x rest (past_head key.If g (sp.spell_statement x rest) h)
  past_statement (t.sIfElse g x at y) rest h =
      let tail = word key.Else at ∷ sp.spell_statement y rest in
      past_statement y rest (past_statement x tail (past_head key.If g (sp.spell_statement x tail) h)).1
  past_statement (t.sWhile g x) rest h = past_statement x rest (past_head key.While g (sp.spell_statement x rest) h)
  past_statement (t.sSwitch g x) rest h = past_statement x rest (past_head key.Switch g (sp.spell_statement x rest) h)
  past_statement (t.sDo at x g b) rest h =
      let tail = sp.spell_head key.While g (sign sy.Semicolon b ∷ rest) in
      (past_head key.While g (sign sy.Semicolon b ∷ rest) (past_statement x tail h.1)).1
  past_statement (t.sFor g x) rest h = past_statement x rest (past_for g (sp.spell_statement x rest) h)
  past_statement (t.sCase at e b x) rest h = past_statement x rest (past e (sign sy.Colon b ∷ sp.spell_statement x rest) h.1).1
  past_statement (t.sDefault at b x) rest h = past_statement x rest h.1.1
  past_statement (t.sLabel n at b ats x) rest h = past_statement x rest (past_attributes ats (sp.spell_statement x rest) h.1.1)
  past_statement (t.sGoto at n x b) rest h = h.1.1.1
  past_statement (t.sBreak at b) rest h = h.1.1
  past_statement (t.sContinue at b) rest h = h.1.1
  past_statement (t.sReturn at e b) rest h = (past_option e (sign sy.Semicolon b ∷ rest) h.1).1

  past_statements : (ss : t.Sts) (rest : List SymbolAt) → H (sp.spell_statements ss rest) → H rest
  past_statements t.no_statements rest h = h
  past_statements (t.statements_and ss x) rest h = past_statement x rest (past_statements ss (sp.spell_statement x rest) h)

past_body : (b : t.Body) (rest : List SymbolAt) → H (sp.spell_body b rest) → H rest
past_body (t.bBlock a ss b) rest h = (past_statements ss (closing br.Curly b ∷ rest) h.1).1
past_body (t.bSkipped a r b) rest h = (past_raw r (closing br.Curly b ∷ rest) h.1).1

past_extension : (x : Option ℕ) (rest : List SymbolAt) → H (extension x rest) → H rest
past_extension None rest h = h
past_extension (Some at) rest h = h.1

past_function : (ws : t.Words) (n : t.Name) (ps : t.Parameters) (ats : t.Ats) (b : t.Body) (rest : List SymbolAt) → H (sp.spell_item (t.tFunction ws n ps ats b) rest) → H rest
past_function ws (t.named n at) ps ats b rest h =
    let last = sp.spell_body b rest in
    let mid = sp.spell_attributes ats last in
    past_body b rest (past_attributes ats last (past_parameters ps mid (past_words ws (sign (sy.Name n) at ∷ sp.spell_parameters ps mid) h).1))

pub named_items : (is : t.Items) (rest : List SymbolAt) → H (sp.spell_items is rest) → AreNamed (s.in_items is) × H rest
named_items t.no_items rest h = (tt, h)
named_items (t.items_and is (t.tSkipped x at r b)) rest h =
    let last = sign sy.Semicolon b ∷ rest in
    let mid = sign (sy.Storage storage.Extern) at ∷ sp.spell_raw r last in
    let front = named_items is (extension x mid) h in
    (front.0, (past_raw r last (past_extension x mid front.1).1).1)
named_items (t.items_and is (t.tEmpty at)) rest h =
    let front = named_items is (sign sy.Semicolon at ∷ rest) h in
    (front.0, front.1.1)
named_items (t.items_and is (t.tDeclaration d)) rest h =
    let front = named_items is (sp.spell_declaration d rest) h in
    let own = past_declaration d rest front.1 in
    (named_both _ _ front.0 (named_declaration s.file None d (λ q. own.0)), own.1)
named_items (t.items_and is (t.tFunction ws (t.named n at) ps ats (t.bSkipped a r z))) rest h =
    let front = named_items is (sp.spell_item (t.tFunction ws (t.named n at) ps ats (t.bSkipped a r z)) rest) h in
    (named_both _ _ front.0 (named_skipped (s.count_bodies is) ws n at ps a z r), past_function ws (t.named n at) ps ats (t.bSkipped a r z) rest front.1)
named_items (t.items_and is (t.tFunction ws (t.named n at) ps ats (t.bBlock a ss z))) rest h =
    let front = named_items is (sp.spell_item (t.tFunction ws (t.named n at) ps ats (t.bBlock a ss z)) rest) h in
    (named_both _ _ front.0 (named_function (s.count_bodies is) ws n at ps a z ss), past_function ws (t.named n at) ps ats (t.bBlock a ss z) rest front.1)
