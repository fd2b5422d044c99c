-- The machine that keeps each tree goes through each shaped item that is not skipped.
use Rattle.first_token_laws.proofs.Full as full
use Rattle.std.proofs.Common.{◌≡◌, ℕ, zero, suc, List, ◌∷◌, length, Option, None, Some, Bool, true, false, not, if◌then◌else◌, refl, sym, ap, ◌∙◌}
use Rattle.c_tree.specs.declared.symbol.Bracket.TheVariants as br
use Rattle.c_tree.specs.declared.symbol.Symbol.{Symbol}
use Rattle.c_tree.specs.declared.symbol.Symbol.TheVariants as sy
use Rattle.c_tree.specs.declared.symbol.SymbolAt.{SymbolAt}
use Rattle.c_tree.specs.declared.known.Site.TheVariants as site
use Rattle.c_tree.specs.Symbols.{sign}
use Rattle.c_tree.specs.Spelling.{opening, closing, spell_words, spell_word, spell_raw, spell_attribute, spell_attributes, spell_parameters, spell_declarators, spell_declaration, spell_statements, spell_body, spell_item}
use Rattle.c_tree.specs.Shape as sh
use Rattle.c_tree.specs.Words.{is_typed, nothing_known}
use Rattle.c_tree.specs.Tree.{Raw, no_raw, raw_and, attribute, Ats, no_attributes, attributes_and, Words, no_words, words_and, Word, wType, wStorage, wConst, wExtension, wAttribute, wTypedef, wTag, wEnum, wTagEnum, named, Parameters, fFunction, Decs, no_declarators, declares, no_statements, Body, bBlock, bSkipped, Item, tSkipped, tFunction, tDeclaration, tEmpty}
use Rattle.parse_machine.specs.Tokens.{skipOn, skip_of}
use Rattle.parse_machine.specs.Contexts.{Spoken, Header, outBody, placeFile, aroundPlace, onDeclared, Mode, File, Ended, Specifiers, Behind, Skipped, Begin}
use Rattle.parse_machine.specs.Making as mk
use Rattle.parse_machine.specs.Making.{above}
use Rattle.parse_laws.proofs.Before as b
use Rattle.parse_machine.specs.Declarations as decl
use Rattle.parse_machine.specs.Declarations.{kept}
use Rattle.parse_machine.specs.Steps as steps
use Rattle.parse_machine.specs.Statements as stt
use Rattle.parse_laws.proofs.Scopes.{left_block}
use Rattle.parse_laws.proofs.ReadEx.{some_same}
use Rattle.parse_laws.proofs.ReadSt.{decs_no_open}
use Rattle.parse_laws.proofs.ReadItem.{CurlyDepth, IsRead}
use Rattle.first_token_laws.proofs.FullLeads.{Leads, ◌then◌, go, stays, same, stand}
use Rattle.first_token_laws.proofs.FullReadEx.{worded, attribute_reads}
use Rattle.first_token_laws.proofs.FullReadDecl.{words_read, parameters_read}
use Rattle.first_token_laws.proofs.FullReadDecs.{so_far, entire}
use Rattle.first_token_laws.proofs.FullReadDeclaration.{declared_read, first_name}
use Rattle.first_token_laws.proofs.FullWholeSt.{statements_read}

file_token : (ns : List (List ℕ)) (x : Word) (rest : List SymbolAt) → Leads (spell_word x rest) (stand File ns) (spell_word x rest) (stand (Specifiers mk.unspoken (aroundPlace placeFile)) ns)
file_token ns (wType x at) rest = same _ _ _ _ refl
file_token ns (wStorage x at) rest = same _ _ _ _ refl
file_token ns (wConst x at) rest = same _ _ _ _ refl
file_token ns (wExtension at) rest = same _ _ _ _ refl
file_token ns (wTypedef n at) rest = same _ _ _ _ refl
file_token ns (wAttribute (attribute w at a r z)) rest = same _ _ _ _ refl
file_token ns (wTag at n y) rest = same _ _ _ _ refl
file_token ns (wEnum at a es c y) rest = same _ _ _ _ refl
file_token ns (wTagEnum at n x a es c y) rest = same _ _ _ _ refl

file_words : (ns : List (List ℕ)) (ws : Words) (x : Word) (rest : List SymbolAt) → Leads (spell_words ws (spell_word x rest)) (stand File ns) (spell_words ws (spell_word x rest)) (stand (Specifiers mk.unspoken (aroundPlace placeFile)) ns)
file_words ns no_words x rest = file_token ns x rest
file_words ns (words_and ws y) x rest = file_words ns ws y (spell_word x rest)

file_typed : (ns : List (List ℕ)) (ws : Words) → sh.AreSpecs site.File ws → (rest : List SymbolAt) → Leads (spell_words ws rest) (stand File ns) (spell_words ws rest) (stand (Specifiers mk.unspoken (aroundPlace placeFile)) ns)
file_typed ns no_words f rest = let n : nothing_known ≡ f.told = some_same nothing_known f.told f.together in let r : false ≡ true = ap (λ z. is_typed z.typing) n ∙ f.typed in cc
file_typed ns (words_and ws x) f rest = file_words ns ws x rest

-- attributes of a function
function_attributes : (ats : Ats) (ns : List (List ℕ)) (s : Spoken) (n : List ℕ) (at : ℕ) (ps : Parameters) → sh.ShapedAttributes ats → (rest : List SymbolAt) → Leads (spell_attributes ats rest) (stand (Behind (entire placeFile s no_declarators None n at (fFunction ps) no_attributes)) ns) rest (stand (Behind (entire placeFile s no_declarators None n at (fFunction ps) ats)) ns)
function_attributes no_attributes ns s n at ps t rest = stays rest _ _ refl
function_attributes (attributes_and ats x) ns s n at ps t rest =
    let d = entire placeFile s no_declarators None n at (fFunction ps) ats in
    (function_attributes ats ns s n at ps t.0 (spell_attribute x rest)
    then attribute_reads ns x (onDeclared d) rest (Behind d) t.1 (λ w y. refl))

-- a block that is skipped
some_number : (a c : ℕ) → Some a ≡ Some c → a ≡ c
some_number a c h = cc

curly_depth : (t : Symbol) (n m : ℕ) → sh.depth_behind br.Curly t n ≡ Some m → skip_of br.Curly t n ≡ skipOn m
curly_depth (sy.Open br.Round) n m h = ap skipOn (some_number n m h)
curly_depth (sy.Open br.Square) n m h = ap skipOn (some_number n m h)
curly_depth (sy.Open br.Curly) n m h = ap skipOn (some_number (suc n) m h)
curly_depth (sy.Close br.Round) n m h = ap skipOn (some_number n m h)
curly_depth (sy.Close br.Square) n m h = ap skipOn (some_number n m h)
curly_depth (sy.Close br.Curly) zero m h = cc
curly_depth (sy.Close br.Curly) (suc n) m h = ap skipOn (some_number n m h)
curly_depth sy.End n m h = cc
curly_depth t n m h = ap skipOn (some_number n m h)

curly_before : (s : Symbol) (o : Option ℕ) (m : ℕ) → sh.depth_on br.Curly s o ≡ Some m → CurlyDepth s o m
curly_before s None m h = cc
curly_before s (Some n) m h = record { depth = n; was = refl; gives = h }

body_raw : (ns : List (List ℕ)) (h : Header) (a : ℕ) (r : Raw) (m : ℕ) (rest : List SymbolAt) → sh.depth_of br.Curly r ≡ Some m → Leads (spell_raw r rest) (stand (Skipped h a no_raw 0) ns) rest (stand (Skipped h a r m) ns)
body_raw ns h a no_raw m rest d = stays rest _ _ (ap (λ n. stand (Skipped h a no_raw n) ns) (some_number 0 m d))
body_raw ns h a (raw_and r t) m rest d =
    let z = curly_before t.symbol (sh.depth_of br.Curly r) m d in
    (body_raw ns h a r z.depth (t ∷ rest) z.was
    then go t rest (Skipped h a r z.depth) (Skipped h a (raw_and r t) m) ns ns (ap (λ k. kept ns (steps.body_skip k t h a r)) (curly_depth t.symbol z.depth m z.gives)))

body_read : (ns : List (List ℕ)) (h : Header) (x : Body) (c : Bool) → sh.is_skipped_name h.name ≡ c → sh.ShapedBody c ns x → (m : Mode) → ((at : ℕ) → full.next ns (opening br.Curly at) m ≡ stand (decl.body_of_header ns at h) ns) → (rest : List SymbolAt) → Leads (spell_body x rest) (stand m ns) rest (stand (Ended (stt.function_item h x) 0) ns)
body_read ns h (bBlock a ss y) true e t m q rest = absurd t
body_read ns h (bSkipped a r y) false e t m q rest = absurd t
body_read ns h (bBlock a ss y) false e t m q rest =
    let i = stt.function_item h (bBlock a ss y) in
    (go (opening br.Curly a) (spell_statements ss (closing br.Curly y ∷ rest)) m (Begin (outBody (length ns) h a no_statements)) ns ns (q a ∙ ap (λ z. stand (if z then Skipped h a no_raw 0 else Begin (outBody (length ns) h a no_statements)) ns) e)
    then statements_read ss ns (λ z. outBody (length ns) h a z) 2 (record { is = λ z. refl; deep = λ z. refl; settle = λ z s k. refl }) t (closing br.Curly y ∷ rest) refl
    then go (closing br.Curly y) rest (Begin (outBody (length ns) h a ss)) (Ended i 0) (sh.block_names ss ns) ns (ap (stand (Ended i 0)) (left_block (length ns) ss ns refl)))
body_read ns h (bSkipped a r y) true e t m q rest =
    (go (opening br.Curly a) (spell_raw r (closing br.Curly y ∷ rest)) m (Skipped h a no_raw 0) ns ns (q a ∙ ap (λ z. stand (if z then Skipped h a no_raw 0 else Begin (outBody (length ns) h a no_statements)) ns) e)
    then body_raw ns h a r 0 (closing br.Curly y ∷ rest) t
    then go (closing br.Curly y) rest (Skipped h a r 0) (Ended (stt.function_item h (bSkipped a r y)) 0) ns ns refl)

function_read : (ns : List (List ℕ)) (ws : Words) (n : List ℕ) (at : ℕ) (ps : Parameters) (ats : Ats) (x : Body) (f : sh.ShapedFunction ns ws (named n at) ps ats x) → (rest : List SymbolAt) → Leads (spell_item (tFunction ws (named n at) ps ats x) rest) (stand File ns) rest (stand (Ended (tFunction ws (named n at) ps ats x) 0) ns)
function_read ns ws n at ps ats x f rest =
    let p = placeFile in
    let s = worded ws f.specs.told in
    let d = mk.declared_plain (so_far p s no_declarators) None n at in
    let g = entire p s no_declarators None n at (fFunction ps) ats in
    (file_typed ns ws f.specs (b.name_sign n at ∷ spell_parameters ps (spell_attributes ats (spell_body x rest)))
    then words_read ws (aroundPlace p) ns f.specs.told f.specs.together f.words (b.name_sign n at ∷ spell_parameters ps (spell_attributes ats (spell_body x rest))) refl
    then first_name ns p s n at f.name f.specs.typed (spell_parameters ps (spell_attributes ats (spell_body x rest)))
    then parameters_read ps ns d f.parameters (ap not f.no_typedef) (spell_attributes ats (spell_body x rest))
    then function_attributes ats ns s n at ps f.attributes (spell_body x rest)
    then body_read ns (decl.header g ps) x (sh.is_skipped_name (named n at)) refl f.body (Behind g) (λ y. refl) rest)

declaration_read : (ns : List (List ℕ)) (ws : Words) (ds : Decs) (x : ℕ) (f : sh.ShapedDeclares site.File ns ws ds) → (rest : List SymbolAt) → Leads (spell_declaration (declares ws ds x) rest) (stand File ns) rest (stand (Ended (tDeclaration (declares ws ds x)) (mk.declaration_height (so_far placeFile (worded ws f.specs.told) ds))) (sh.names_behind site.File (declares ws ds x) ns))
declaration_read ns ws ds x f rest =
    let ts = spell_declarators ds (sign sy.Semicolon x ∷ rest) in
    let s = worded ws f.specs.told in
    (file_typed ns ws f.specs ts
    then words_read ws (aroundPlace placeFile) ns f.specs.told f.specs.together f.words ts (decs_no_open ds (sign sy.Semicolon x ∷ rest) refl)
    then declared_read ws ds x ns placeFile f rest
    then stays rest _ _ (ap (λ q. stand (Ended (tDeclaration (declares ws ds x)) (mk.declaration_height (so_far placeFile s ds))) (sh.declared_with q ds ns)) (sym f.specs.together)))

pub record ItemRead (i : Item) (ns : List (List ℕ)) (rest : List SymbolAt) : Type 0 where
  pub height : ℕ
  pub reads : Leads (spell_item i rest) (stand File ns) rest (stand (Ended i height) (sh.item_names i ns))

pub item_read : (i : Item) (ns : List (List ℕ)) → IsRead i → sh.ShapedItem i ns → (rest : List SymbolAt) → ItemRead i ns rest
item_read (tSkipped x a r c) ns n t rest = absurd n
item_read (tFunction ws (named m at) ps ats x) ns n t rest = record { height = 0; reads = function_read ns ws m at ps ats x t.0 rest }
item_read (tDeclaration (declares ws ds x)) ns n t rest = record { height = mk.declaration_height (so_far placeFile (worded ws t.0.specs.told) ds); reads = declaration_read ns ws ds x t.0 rest }
item_read (tEmpty at) ns n t rest = record { height = 0; reads = go (sign sy.Semicolon at) rest File (Ended (tEmpty at) 0) ns ns refl }
