-- The numbers and character constants of a tree are tokens of it, so that each is in the range of its kind.
use Rattle.std.proofs.Common.{ℕ, ◌<◌, List, [], ◌∷◌, ◌++◌, length, Option, None, Some}
use Rattle.lv_base.specs.declared.kind.Model.{Model}
use Rattle.c_tree.specs.declared.symbol.Bracket.TheVariants as br
use Rattle.c_tree.specs.declared.symbol.AssignOp.TheVariants as to
use Rattle.c_tree.specs.declared.symbol.StatementWord.TheVariants as key
use Rattle.c_tree.specs.declared.symbol.StorageWord.TheVariants as storage
use Rattle.c_tree.specs.declared.symbol.Symbol.TheVariants as sy
use Rattle.c_tree.specs.declared.symbol.SymbolAt.{SymbolAt}
use Rattle.c_tree.specs.Symbols.{sign}
use Rattle.c_tree.specs.Tree as t
use Rattle.c_tree.specs.Spelling as sp
use Rattle.c_tree.specs.Spelling.{opening, closing, comma, word, extension}
use Rattle.c_meaning.specs.Bindings.{Env}
use Rattle.c_meaning.specs.Jumps.{all_parts, all_option, all_initial, all_declarators, all_declaration, all_start, all_for, all_expressions, all_of_all}
use Rattle.c_meaning.specs.Program.{Function, functions_of}
use Rattle.elaboration_body_laws.specs.Held.{Held, AllHeld, HeldIn, BodiesHeld, HeldSigns}

-- ---- Names have letters

abbrev pub LetteredWord : t.Word → Type 0
LetteredWord (t.wTypedef n at) = 0 < length n
LetteredWord (t.wTag at n b) = 0 < length n
LetteredWord w = Unit {0}

abbrev pub Lettered : t.Words → Type 0
Lettered t.no_words = Unit {0}
Lettered (t.words_and ws w) = Lettered ws × LetteredWord w

abbrev pub LetteredParams : t.Params → Type 0
LetteredParams t.no_params = Unit {0}
LetteredParams (t.params_and ps c ws n) = LetteredParams ps × Lettered ws

abbrev pub LetteredParameters : t.Parameters → Type 0
LetteredParameters (t.pSome a ps b) = LetteredParams ps
LetteredParameters ps = Unit {0}

-- those of functions with a body, and of their parameters' types
abbrev pub ItemsLettered : t.Items → Type 0
ItemsLettered t.no_items = Unit {0}
ItemsLettered (t.items_and is (t.tFunction ws (t.named n at) ps ats (t.bBlock a ss z))) = ItemsLettered is × (0 < length n) × LetteredParameters ps
ItemsLettered (t.items_and is i) = ItemsLettered is

-- ---- Lists of expressions

held_both : (model : Model) (xs ys : List t.Ex) → HeldIn model xs → HeldIn model ys → HeldIn model (xs ++ ys)
held_both model [] ys h k = k
held_both model (x ∷ xs) ys h k = (h.0, held_both model xs ys h.1 k)

held_parts : (model : Model) (es : t.Parts) → AllHeld model es → HeldIn model (all_parts es)
held_parts model t.no_parts h = tt
held_parts model (t.parts_and es c e) h = held_both model (all_parts es) (e ∷ []) (held_parts model es h.0) (h.1, tt)

bodies_more : (model : Model) (fs : List Function) (f : Function) → BodiesHeld model fs → HeldIn model (all_of_all f.body) → BodiesHeld model (fs ++ f ∷ [])
bodies_more model [] f h k = (k, tt)
bodies_more model (g ∷ fs) f h k = (h.0, bodies_more model fs f h.1 k)

module _ (model : Model) where
  -- ---- Tokens behind a part

  abbrev H : List SymbolAt → Type 0
  H signs = HeldSigns model signs

  past_comma : (c : Option ℕ) (rest : List SymbolAt) → H (comma c rest) → H rest
  past_comma None rest h = h
  past_comma (Some at) rest h = h.1

  past_raw : (r : t.Raw) (rest : List SymbolAt) → H (sp.spell_raw r rest) → H rest
  past_raw t.no_raw rest h = h
  past_raw (t.raw_and r s) rest h = (past_raw r (s ∷ rest) h).1

  past_attribute : (a : t.At) (rest : List SymbolAt) → H (sp.spell_attribute a rest) → H rest
  past_attribute (t.attribute w at a r b) rest h = (past_raw r (closing br.Round b ∷ rest) h.1.1).1

  past_attributes : (ats : t.Ats) (rest : List SymbolAt) → H (sp.spell_attributes ats rest) → H rest
  past_attributes t.no_attributes rest h = h
  past_attributes (t.attributes_and ats a) rest h = past_attribute a rest (past_attributes ats (sp.spell_attribute a rest) h)

  mutual
    held : (e : t.Ex) (rest : List SymbolAt) → H (sp.spell e rest) → Held model e × H rest
    held (t.eName n at) rest h = (tt, h.1)
    held (t.eNumber v f at) rest h = (h.0, h.1)
    held (t.eLetter v at) rest h = (h.0, h.1)
    held (t.eParen a e b) rest h = let r = held e (closing br.Round b ∷ rest) h.1 in (r.0, r.1.1)
    held (t.eCall f a es b) rest h =
        let p = held f (opening br.Round a ∷ sp.spell_parts es (closing br.Round b ∷ rest)) h in
        let q = all_held es (closing br.Round b ∷ rest) p.1.1 in
        ((p.0, q.0), q.1.1)
    held (t.eIndex a x i y) rest h =
        let p = held a (opening br.Square x ∷ sp.spell i (closing br.Square y ∷ rest)) h in
        let q = held i (closing br.Square y ∷ rest) p.1.1 in
        ((p.0, q.0), q.1.1)
    held (t.ePostfix e c at) rest h = let r = held e (sign (sy.Crement c) at ∷ rest) h in (r.0, r.1.1)
    held (t.ePrefix o at e) rest h = held e rest h.1
    held (t.eSizeof at a ws b) rest h = (tt, (past_words ws (closing br.Round b ∷ rest) h.1.1).1.1)
    held (t.eCast a ws b e) rest h = held e rest (past_words ws (closing br.Round b ∷ sp.spell e rest) h.1).1.1
    held (t.eBinary a o at b) rest h =
        let p = held a (sign (sy.Binary o) at ∷ sp.spell b rest) h in
        let q = held b rest p.1.1 in
        ((p.0, q.0), q.1)
    held (t.eCond c x a y b) rest h =
        let p = held c (sign sy.Question x ∷ sp.spell a (sign sy.Colon y ∷ sp.spell b rest)) h in
        let q = held a (sign sy.Colon y ∷ sp.spell b rest) p.1.1 in
        let r = held b rest q.1.1 in
        ((p.0, q.0, r.0), r.1)
    held (t.eAssign a o at b) rest h =
        let p = held a (sign (sy.Assign o) at ∷ sp.spell b rest) h in
        let q = held b rest p.1.1 in
        ((p.0, q.0), q.1)
    held (t.eComma es) rest h = all_held es rest h

    all_held : (es : t.Parts) (rest : List SymbolAt) → H (sp.spell_parts es rest) → AllHeld model es × H rest
    all_held t.no_parts rest h = (tt, h)
    all_held (t.parts_and es c e) rest h =
        let p = all_held es (comma c (sp.spell e rest)) h in
        let q = held e rest (past_comma c (sp.spell e rest) p.1) in
        ((p.0, q.0), q.1)

    past_words : (ws : t.Words) (rest : List SymbolAt) → H (sp.spell_words ws rest) → Lettered ws × H rest
    past_words t.no_words rest h = (tt, h)
    past_words (t.words_and ws w) rest h =
        let p = past_words ws (sp.spell_word w rest) h in
        let q = past_word w rest p.1 in
        ((p.0, q.0), q.1)

    past_word : (w : t.Word) (rest : List SymbolAt) → H (sp.spell_word w rest) → LetteredWord w × H rest
    past_word (t.wType w at) rest h = (tt, h.1)
    past_word (t.wStorage w at) rest h = (tt, h.1)
    past_word (t.wConst w at) rest h = (tt, h.1)
    past_word (t.wExtension at) rest h = (tt, h.1)
    past_word (t.wAttribute a) rest h = (tt, past_attribute a rest h)
    past_word (t.wTypedef n at) rest h = (h.0, h.1)
    past_word (t.wTag at n b) rest h = (h.1.0, h.1.1)
    past_word (t.wEnum at a es c b) rest h = (tt, (past_comma c (closing br.Curly b ∷ rest) (past_enumerators es (comma c (closing br.Curly b ∷ rest)) h.1.1)).1)
    past_word (t.wTagEnum at n x a es c b) rest h = (tt, (past_comma c (closing br.Curly b ∷ rest) (past_enumerators es (comma c (closing br.Curly b ∷ rest)) h.1.1.1)).1)

    past_enumerators : (es : t.Ens) (rest : List SymbolAt) → H (sp.spell_enumerators es rest) → H rest
    past_enumerators t.no_enumerators rest h = h
    past_enumerators (t.plain_and es c n at) rest h = (past_comma c (sign (sy.Name n) at ∷ rest) (past_enumerators es (comma c (sign (sy.Name n) at ∷ rest)) h)).1
    past_enumerators (t.valued_and es c n at a e) rest h =
        let tail = sign (sy.Name n) at ∷ sign (sy.Assign to.Plain) a ∷ sp.spell e rest in
        let r = held e rest (past_comma c tail (past_enumerators es (comma c tail) h)).1.1 in
        r.1

  past : (e : t.Ex) (rest : List SymbolAt) → H (sp.spell e rest) → H rest
  past e rest h = (held e rest h).1

  held_option : (e : Option t.Ex) (rest : List SymbolAt) → H (sp.spell_option e rest) → HeldIn model (all_option e) × H rest
  held_option None rest h = (tt, h)
  held_option (Some e) rest h = let r = held e rest h in ((r.0, tt), r.1)

  past_option : (e : Option t.Ex) (rest : List SymbolAt) → H (sp.spell_option e rest) → H rest
  past_option e rest h = (held_option e rest h).1

  past_option_name : (n : Option t.Name) (rest : List SymbolAt) → H (sp.spell_option_name n rest) → H rest
  past_option_name None rest h = h
  past_option_name (Some (t.named n at)) rest h = h.1

  past_params : (ps : t.Params) (rest : List SymbolAt) → H (sp.spell_params ps rest) → LetteredParams ps × H rest
  past_params t.no_params rest h = (tt, h)
  past_params (t.params_and ps c ws n) rest h =
      let tail = sp.spell_words ws (sp.spell_option_name n rest) in
      let p = past_params ps (comma c tail) h in
      let q = past_words ws (sp.spell_option_name n rest) (past_comma c tail p.1) in
      ((p.0, q.0), past_option_name n rest q.1)

  past_parameters : (ps : t.Parameters) (rest : List SymbolAt) → H (sp.spell_parameters ps rest) → LetteredParameters ps × H rest
  past_parameters (t.pUnknown a b) rest h = (tt, h.1.1)
  past_parameters (t.pVoid a at b) rest h = (tt, h.1.1.1)
  past_parameters (t.pSome a ps b) rest h = let p = past_params ps (closing br.Round b ∷ rest) h.1 in (p.0, p.1.1)

  past_form : (f : t.Form) (rest : List SymbolAt) → H (sp.spell_form f rest) → H rest
  past_form t.fPlain rest h = h
  past_form (t.fArray a e b) rest h = (past_option e (closing br.Square b ∷ rest) h.1).1
  past_form (t.fFunction ps) rest h = (past_parameters ps rest h).1

  held_initial : (i : t.Initial) (rest : List SymbolAt) → H (sp.spell_initial i rest) → HeldIn model (all_initial i) × H rest
  held_initial t.iNothing rest h = (tt, h)
  held_initial (t.iValue at e) rest h = let r = held e rest h.1 in ((r.0, tt), r.1)
  held_initial (t.iList at a es c b) rest h =
      let r = all_held es (comma c (closing br.Curly b ∷ rest)) h.1.1 in
      (held_parts model es r.0, (past_comma c (closing br.Curly b ∷ rest) r.1).1)

  held_declarators : (ds : t.Decs) (rest : List SymbolAt) → H (sp.spell_declarators ds rest) → HeldIn model (all_declarators ds) × H rest
  held_declarators t.no_declarators rest h = (tt, h)
  held_declarators (t.declarators_and ds c (t.named n at) f ats i) rest h =
      let last = sp.spell_initial i rest in
      let mid = sp.spell_attributes ats last in
      let tail = sign (sy.Name n) at ∷ sp.spell_form f mid in
      let front = held_declarators ds (comma c tail) h in
      let own = past_comma c tail front.1 in
      let r = held_initial i rest (past_attributes ats last (past_form f mid own.1)) in
      (held_both model (all_declarators ds) _ front.0 r.0, r.1)

  held_declaration : (d : t.Declaration) (rest : List SymbolAt) → H (sp.spell_declaration d rest) → HeldIn model (all_declaration d) × H rest
  held_declaration (t.declares ws ds b) rest h =
      let r = held_declarators ds (sign sy.Semicolon b ∷ rest) (past_words ws (sp.spell_declarators ds (sign sy.Semicolon b ∷ rest)) h).1 in
      (r.0, r.1.1)

  held_start : (g : t.ForStart) (rest : List SymbolAt) → H (sp.spell_for_start g rest) → HeldIn model (all_start g) × H rest
  held_start (t.forDeclares d) rest h = held_declaration d rest h
  held_start (t.forExpr e at) rest h = let r = held_option e (sign sy.Semicolon at ∷ rest) h in (r.0, r.1.1)

  held_for : (g : t.ForHead) (rest : List SymbolAt) → H (sp.spell_for_head g rest) → HeldIn model (all_for g) × H rest
  held_for (t.for_head at a g e x i b) rest h =
      let last = closing br.Round b ∷ rest in
      let mid = sign sy.Semicolon x ∷ sp.spell_option i last in
      let p = held_start g (sp.spell_option e mid) h.1.1 in
      let q = held_option e mid p.1 in
      let r = held_option i last q.1.1 in
      (held_both model (all_start g ++ all_option e) _ (held_both model (all_start g) _ p.0 q.0) r.0, r.1.1)

  mutual
    held_statement : (x : t.St) (rest : List SymbolAt) → H (sp.spell_statement x rest) → HeldIn model (all_expressions x) × H rest
    held_statement (t.sDeclaration d) rest h = held_declaration d rest h
    held_statement (t.sBlock a ss b) rest h = let r = held_statements ss (closing br.Curly b ∷ rest) h.1 in (r.0, r.1.1)
    held_statement (t.sEmpty at) rest h = (tt, h.1)
    held_statement (t.sExpr e at) rest h = let r = held e (sign sy.Semicolon at ∷ rest) h in ((r.0, tt), r.1.1)
    held_statement (t.sIf (t.head at a e b) x) rest h =
        let p = held e (closing br.Round b ∷ sp.spell_statement x rest) h.1.1 in
        let q = held_statement x rest p.1.1 in
        ((p.0, q.0), q.1)
    held_statement (t.sIfElse (t.head at a e b) x z y) rest h =
        let tail = word key.Else z ∷ sp.spell_statement y rest in
        let p = held e (closing br.Round b ∷ sp.spell_statement x tail) h.1.1 in
        let q = held_statement x tail p.1.1 in
        let r = held_statement y rest q.1.1 in
        ((p.0, held_both model (all_expressions x) _ q.0 r.0), r.1)
    held_statement (t.sWhile (t.head at a e b) x) rest h =
        let p = held e (closing br.Round b ∷ sp.spell_statement x rest) h.1.1 in
        let q = held_statement x rest p.1.1 in
        ((p.0, q.0), q.1)
    held_statement (t.sSwitch (t.head at a e b) x) rest h =
        let p = held e (closing br.Round b ∷ sp.spell_statement x rest) h.1.1 in
        let q = held_statement x rest p.1.1 in
        ((p.0, q.0), q.1)
    held_statement (t.sDo at x (t.head c a e b) y) rest h =
        let last = sign sy.Semicolon y ∷ rest in
        let p = held_statement x (sp.spell_head key.While (t.head c a e b) last) h.1 in
        let q = held e (closing br.Round b ∷ last) p.1.1.1 in
        (held_both model (all_expressions x) (e ∷ []) p.0 (q.0, tt), q.1.1.1)
    held_statement (t.sFor g x) rest h =
        let p = held_for g (sp.spell_statement x rest) h in
        let q = held_statement x rest p.1 in
        (held_both model (all_for g) _ p.0 q.0, q.1)
    held_statement (t.sCase at e b x) rest h = held_statement x rest (past e (sign sy.Colon b ∷ sp.spell_statement x rest) h.1).1
    held_statement (t.sDefault at b x) rest h = held_statement x rest h.1.1
    held_statement (t.sLabel n at b ats x) rest h = held_statement x rest (past_attributes ats (sp.spell_statement x rest) h.1.1)
    held_statement (t.sGoto at n x b) rest h = (tt, h.1.1.1)
    held_statement (t.sBreak at b) rest h = (tt, h.1.1)
    held_statement (t.sContinue at b) rest h = (tt, h.1.1)
    held_statement (t.sReturn at e b) rest h = let r = held_option e (sign sy.Semicolon b ∷ rest) h.1 in (r.0, r.1.1)

    held_statements : (ss : t.Sts) (rest : List SymbolAt) → H (sp.spell_statements ss rest) → HeldIn model (all_of_all ss) × H rest
    held_statements t.no_statements rest h = (tt, h)
    held_statements (t.statements_and ss x) rest h =
        let p = held_statements ss (sp.spell_statement x rest) h in
        let q = held_statement x rest p.1 in
        (held_both model (all_of_all ss) _ p.0 q.0, q.1)

  past_extension : (x : Option ℕ) (rest : List SymbolAt) → H (extension x rest) → H rest
  past_extension None rest h = h
  past_extension (Some at) rest h = h.1

  -- what stands before a function's body
  past_front : (ws : t.Words) (n : List ℕ) (at : ℕ) (ps : t.Parameters) (ats : t.Ats) (b : t.Body) (rest : List SymbolAt) → H (sp.spell_item (t.tFunction ws (t.named n at) ps ats b) rest) → (0 < length n) × LetteredParameters ps × H (sp.spell_body b rest)
  past_front ws n at ps ats b rest h =
      let last = sp.spell_body b rest in
      let mid = sp.spell_attributes ats last in
      let p = past_words ws (sign (sy.Name n) at ∷ sp.spell_parameters ps mid) h in
      let q = past_parameters ps mid p.1.1 in
      (p.1.0, q.0, past_attributes ats last q.1)

  pub held_items : (env : Env) (is : t.Items) (rest : List SymbolAt) → H (sp.spell_items is rest) → BodiesHeld model (functions_of env is) × ItemsLettered is × H rest
  held_items env t.no_items rest h = (tt, tt, h)
  held_items env (t.items_and is (t.tSkipped x at r b)) rest h =
      let last = sign sy.Semicolon b ∷ rest in
      let mid = sign (sy.Storage storage.Extern) at ∷ sp.spell_raw r last in
      let front = held_items env is (extension x mid) h in
      (front.0, front.1, (past_raw r last (past_extension x mid front.2).1).1)
  held_items env (t.items_and is (t.tEmpty at)) rest h =
      let front = held_items env is (sign sy.Semicolon at ∷ rest) h in
      (front.0, front.1, front.2.1)
  held_items env (t.items_and is (t.tDeclaration d)) rest h =
      let front = held_items env is (sp.spell_declaration d rest) h in
      (front.0, front.1, (held_declaration d rest front.2).1)
  held_items env (t.items_and is (t.tFunction ws (t.named n at) ps ats (t.bSkipped a r z))) rest h =
      let front = held_items env is (sp.spell_item (t.tFunction ws (t.named n at) ps ats (t.bSkipped a r z)) rest) h in
      let own = past_front ws n at ps ats (t.bSkipped a r z) rest front.2 in
      (front.0, front.1, (past_raw r (closing br.Curly z ∷ rest) own.2.1).1)
  held_items env (t.items_and is (t.tFunction ws (t.named n at) ps ats (t.bBlock a ss z))) rest h =
      let front = held_items env is (sp.spell_item (t.tFunction ws (t.named n at) ps ats (t.bBlock a ss z)) rest) h in
      let own = past_front ws n at ps ats (t.bBlock a ss z) rest front.2 in
      let r = held_statements ss (closing br.Curly z ∷ rest) own.2.1 in
      (bodies_more model (functions_of env is) _ front.0 r.0, (front.1, own.0, own.1), r.1.1)
