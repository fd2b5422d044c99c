-- The machine goes through each shaped item that is not skipped.
use Rattle.std.proofs.Common.{◌≡◌, ℕ, zero, suc, ◌≤◌, max, List, ◌∷◌, length, Option, None, Some, Bool, true, false, not, if◌then◌else◌, refl, sym, ap, ◌∙◌, arith}
use Rattle.c_tree.specs.declared.symbol.Bracket.TheVariants as br
use Rattle.c_tree.specs.declared.symbol.Symbol.{Symbol}
use Rattle.c_tree.specs.declared.symbol.Symbol.TheVariants as sy
use Rattle.c_tree.specs.declared.symbol.SymbolAt.{SymbolAt}
use Rattle.c_tree.specs.declared.known.Site.TheVariants as site
use Rattle.c_tree.specs.Symbols.{sign}
use Rattle.c_tree.specs.Spelling.{opening, closing, spell_words, spell_word, spell_raw, spell_attribute, spell_attributes, spell_parameters, spell_declarators, spell_declaration, spell_statements, spell_body, spell_item}
use Rattle.c_tree.specs.Shape as sh
use Rattle.c_tree.specs.Words.{is_typed, nothing_known}
use Rattle.c_tree.specs.Tree.{Raw, no_raw, raw_and, attribute, Ats, no_attributes, attributes_and, Words, no_words, words_and, Word, wType, wStorage, wConst, wExtension, wAttribute, wTypedef, wTag, wEnum, wTagEnum, named, Parameters, fFunction, Decs, no_declarators, declares, no_statements, Body, bBlock, bSkipped, Item, tSkipped, tFunction, tDeclaration, tEmpty}
use Rattle.parse_machine.specs.Tokens.{skipOn, skip_of}
use Rattle.parse_machine.specs.Contexts.{Spoken, Header, outBody, placeFile, aroundPlace, onDeclared, Mode, File, Ended, Specifiers, Behind, Skipped, Begin}
use Rattle.parse_machine.specs.Making as mk
use Rattle.parse_machine.specs.Making.{above, tall, part, bound, bind_level}
use Rattle.parse_laws.proofs.Before as b
use Rattle.c_tree.specs.Height as hg
use Rattle.c_tree.specs.Height.{height, height_parts, height_words}
use Rattle.parse_machine.specs.Declarations as decl
use Rattle.parse_machine.specs.Declarations.{Turn, turn, kept}
use Rattle.parse_machine.specs.Steps as steps
use Rattle.parse_machine.specs.Statements as stt
use Rattle.parse_laws.proofs.Walk.{walk, stand, go, above_is}
use Rattle.c_tree.specs.Height.{height_word, height_enumerators}
use Rattle.parse_laws.proofs.ReadEx.{worded, some_same, attribute_reads}
use Rattle.parse_laws.proofs.ReadDecl.{words_read, parameters_read}
use Rattle.parse_laws.proofs.ReadDecs.{so_far, entire}
use Rattle.parse_laws.proofs.ReadDeclaration.{declared_read, first_name}
use Rattle.parse_laws.proofs.Scopes.{left_block}
use Rattle.c_tree.specs.Height.{height_statement, height_statements}
use Rattle.parse_laws.proofs.ReadSt.{decs_no_open}
use Rattle.parse_laws.proofs.WholeSt.{statements_read}

file_token : (ns : List (List ℕ)) (x : Word) (rest : List SymbolAt) → walk (spell_word x rest) (stand File ns) ≡ walk (spell_word x rest) (stand (Specifiers mk.unspoken (aroundPlace placeFile)) ns)
file_token ns (wType x at) rest = refl
file_token ns (wStorage x at) rest = refl
file_token ns (wConst x at) rest = refl
file_token ns (wExtension at) rest = refl
file_token ns (wTypedef n at) rest = refl
file_token ns (wAttribute (attribute w at a r z)) rest = refl
file_token ns (wTag at n y) rest = refl
file_token ns (wEnum at a es c y) rest = refl
file_token ns (wTagEnum at n x a es c y) rest = refl

file_words : (ns : List (List ℕ)) (ws : Words) (x : Word) (rest : List SymbolAt) → walk (spell_words ws (spell_word x rest)) (stand File ns) ≡ walk (spell_words ws (spell_word x rest)) (stand (Specifiers mk.unspoken (aroundPlace placeFile)) ns)
file_words ns no_words x rest = file_token ns x rest
file_words ns (words_and ws y) x rest = file_words ns ws y (spell_word x rest)

file_typed : (ns : List (List ℕ)) (ws : Words) → sh.AreSpecs site.File ws → (rest : List SymbolAt) → walk (spell_words ws rest) (stand File ns) ≡ walk (spell_words ws rest) (stand (Specifiers mk.unspoken (aroundPlace placeFile)) ns)
file_typed ns no_words f rest = let n : nothing_known ≡ f.told = some_same nothing_known f.told f.together in let r : false ≡ true = ap (λ z. is_typed z.typing) n ∙ f.typed in cc
file_typed ns (words_and ws x) f rest = file_words ns ws x rest

-- attributes of a function
ats_one : (ats : Ats) → hg.height_attributes ats ≤ 1
ats_one no_attributes = omega arith
ats_one (attributes_and ats x) = omega arith

function_attributes : (ats : Ats) (ns : List (List ℕ)) (s : Spoken) (n : List ℕ) (at : ℕ) (ps : Parameters) → sh.ShapedAttributes ats → suc (max (hg.height_parameters ps) (hg.height_attributes ats)) ≤ 200 → (rest : List SymbolAt) → walk (spell_attributes ats rest) (stand (Behind (entire placeFile s no_declarators None n at (fFunction ps) no_attributes)) ns) ≡ walk rest (stand (Behind (entire placeFile s no_declarators None n at (fFunction ps) ats)) ns)
function_attributes no_attributes ns s n at ps t l rest = refl
function_attributes (attributes_and ats x) ns s n at ps t l rest =
    let d = entire placeFile s no_declarators None n at (fFunction ps) ats in
    function_attributes ats ns s n at ps t.0 (omega (arith, l, ats_one ats)) (spell_attribute x rest)
    ∙ attribute_reads ns x (onDeclared d) rest (Behind d) t.1 (λ w y. refl) (omega (arith, l)) (omega (arith, l))

-- a block that is skipped
some_number : (a c : ℕ) → Some a ≡ Some c → a ≡ c
some_number a c h = cc

curly_depth : (t : Symbol) (n m : ℕ) → sh.depth_behind br.Curly t n ≡ Some m → skip_of br.Curly t n ≡ skipOn m
curly_depth (sy.Open br.Round) n m h = ap skipOn (some_number n m h)
curly_depth (sy.Open br.Square) n m h = ap skipOn (some_number n m h)
curly_depth (sy.Open br.Curly) n m h = ap skipOn (some_number (suc n) m h)
curly_depth (sy.Close br.Round) n m h = ap skipOn (some_number n m h)
curly_depth (sy.Close br.Square) n m h = ap skipOn (some_number n m h)
curly_depth (sy.Close br.Curly) zero m h = cc
curly_depth (sy.Close br.Curly) (suc n) m h = ap skipOn (some_number n m h)
curly_depth sy.End n m h = cc
curly_depth t n m h = ap skipOn (some_number n m h)

pub record CurlyDepth (s : Symbol) (o : Option ℕ) (m : ℕ) : Type 0 where
  pub depth : ℕ
  pub was : o ≡ Some depth
  pub gives : sh.depth_behind br.Curly s depth ≡ Some m

curly_before : (s : Symbol) (o : Option ℕ) (m : ℕ) → sh.depth_on br.Curly s o ≡ Some m → CurlyDepth s o m
curly_before s None m h = cc
curly_before s (Some n) m h = record { depth = n; was = refl; gives = h }

body_raw : (ns : List (List ℕ)) (h : Header) (a : ℕ) (r : Raw) (m : ℕ) (rest : List SymbolAt) → sh.depth_of br.Curly r ≡ Some m → walk (spell_raw r rest) (stand (Skipped h a no_raw 0) ns) ≡ walk rest (stand (Skipped h a r m) ns)
body_raw ns h a no_raw m rest d = ap (λ n. walk rest (stand (Skipped h a no_raw n) ns)) (some_number 0 m d)
body_raw ns h a (raw_and r t) m rest d =
    let z = curly_before t.symbol (sh.depth_of br.Curly r) m d in
    body_raw ns h a r z.depth (t ∷ rest) z.was
    ∙ go t rest (Skipped h a r z.depth) (Skipped h a (raw_and r t) m) ns ns (ap (λ k. kept ns (steps.body_skip k t h a r)) (curly_depth t.symbol z.depth m z.gives)) (omega arith)

body_read : (ns : List (List ℕ)) (h : Header) (x : Body) (c : Bool) → sh.is_skipped_name h.name ≡ c → sh.ShapedBody c ns x → suc (hg.height_body x) ≤ 200 → (m : Mode) → ((at : ℕ) → steps.next ns (opening br.Curly at) m ≡ stand (decl.body_of_header ns at h) ns) → (rest : List SymbolAt) → walk (spell_body x rest) (stand m ns) ≡ walk rest (stand (Ended (stt.function_item h x) 0) ns)
body_read ns h (bBlock a ss y) true e t l m q rest = absurd t
body_read ns h (bSkipped a r y) false e t l m q rest = absurd t
body_read ns h (bBlock a ss y) false e t l m q rest =
    go (opening br.Curly a) (spell_statements ss (closing br.Curly y ∷ rest)) m (Begin (outBody (length ns) h a no_statements)) ns ns (q a ∙ ap (λ z. stand (if z then Skipped h a no_raw 0 else Begin (outBody (length ns) h a no_statements)) ns) e) (omega arith)
    ∙ statements_read ss ns (λ z. outBody (length ns) h a z) 2 (record { is = λ z. refl; deep = λ z. refl; settle = λ z s k. refl }) t (omega (arith, l)) (closing br.Curly y ∷ rest) refl
    ∙ go (closing br.Curly y) rest (Begin (outBody (length ns) h a ss)) (Ended (stt.function_item h (bBlock a ss y)) 0) (sh.block_names ss ns) ns (ap (stand (Ended (stt.function_item h (bBlock a ss y)) 0)) (left_block (length ns) ss ns refl)) (omega arith)
body_read ns h (bSkipped a r y) true e t l m q rest =
    go (opening br.Curly a) (spell_raw r (closing br.Curly y ∷ rest)) m (Skipped h a no_raw 0) ns ns (q a ∙ ap (λ z. stand (if z then Skipped h a no_raw 0 else Begin (outBody (length ns) h a no_statements)) ns) e) (omega arith)
    ∙ body_raw ns h a r 0 (closing br.Curly y ∷ rest) t
    ∙ go (closing br.Curly y) rest (Skipped h a r 0) (Ended (stt.function_item h (bSkipped a r y)) 0) ns ns refl (omega arith)

function_read : (ns : List (List ℕ)) (ws : Words) (n : List ℕ) (at : ℕ) (ps : Parameters) (ats : Ats) (x : Body) (f : sh.ShapedFunction ns ws (named n at) ps ats x) → hg.height_item (tFunction ws (named n at) ps ats x) ≤ 200 → (rest : List SymbolAt) → walk (spell_item (tFunction ws (named n at) ps ats x) rest) (stand File ns) ≡ walk rest (stand (Ended (tFunction ws (named n at) ps ats x) 0) ns)
function_read ns ws n at ps ats x f l rest =
    let p = placeFile in
    let s = worded ws f.specs.told in
    let d = mk.declared_plain (so_far p s no_declarators) None n at in
    let u = above_is (height_words ws) (omega (arith, l)) in
    file_typed ns ws f.specs (b.name_sign n at ∷ spell_parameters ps (spell_attributes ats (spell_body x rest)))
    ∙ words_read ws (aroundPlace p) ns f.specs.told f.specs.together f.words (omega (arith, l, u)) (b.name_sign n at ∷ spell_parameters ps (spell_attributes ats (spell_body x rest))) refl
    ∙ first_name ns p s n at f.name f.specs.typed (spell_parameters ps (spell_attributes ats (spell_body x rest))) (omega (arith, above_is 0 (omega arith)))
    ∙ parameters_read ps ns d f.parameters (ap not f.no_typedef) (omega (arith, l)) (omega (arith, l)) (spell_attributes ats (spell_body x rest))
    ∙ function_attributes ats ns s n at ps f.attributes (omega (arith, l)) (spell_body x rest)
    ∙ body_read ns (decl.header (entire p s no_declarators None n at (fFunction ps) ats) ps) x (sh.is_skipped_name (named n at)) refl f.body (omega (arith, l)) (Behind (entire p s no_declarators None n at (fFunction ps) ats)) (λ y. refl) rest

declaration_read : (ns : List (List ℕ)) (ws : Words) (ds : Decs) (x : ℕ) (f : sh.ShapedDeclares site.File ns ws ds) → hg.height_declaration (declares ws ds x) ≤ 200 → (rest : List SymbolAt) → walk (spell_declaration (declares ws ds x) rest) (stand File ns) ≡ walk rest (stand (Ended (tDeclaration (declares ws ds x)) (mk.declaration_height (so_far placeFile (worded ws f.specs.told) ds))) (sh.names_behind site.File (declares ws ds x) ns))
declaration_read ns ws ds x f l rest =
    let u = above_is (height_words ws) (omega (arith, l)) in
    file_typed ns ws f.specs (spell_declarators ds (sign sy.Semicolon x ∷ rest))
    ∙ words_read ws (aroundPlace placeFile) ns f.specs.told f.specs.together f.words (omega (arith, l, u)) (spell_declarators ds (sign sy.Semicolon x ∷ rest)) (decs_no_open ds (sign sy.Semicolon x ∷ rest) refl)
    ∙ declared_read ws ds x ns placeFile f (omega (arith, l)) rest
    ∙ ap (λ q. walk rest (stand (Ended (tDeclaration (declares ws ds x)) (mk.declaration_height (so_far placeFile (worded ws f.specs.told) ds))) (sh.declared_with q ds ns))) (sym f.specs.together)

-- behind an item that is not skipped
pub record ItemRead (i : Item) (ns : List (List ℕ)) (rest : List SymbolAt) : Type 0 where
  pub height : ℕ
  pub reads : walk (spell_item i rest) (stand File ns) ≡ walk rest (stand (Ended i height) (sh.item_names i ns))

abbrev pub IsRead : Item → Type 0
IsRead (tSkipped x a r c) = ⊥
IsRead _ = Unit {0}

pub item_read : (i : Item) (ns : List (List ℕ)) → IsRead i → sh.ShapedItem i ns → hg.height_item i ≤ 200 → (rest : List SymbolAt) → ItemRead i ns rest
item_read (tSkipped x a r c) ns n t l rest = absurd n
item_read (tFunction ws (named m at) ps ats x) ns n t l rest = record { height = 0; reads = function_read ns ws m at ps ats x t.0 l rest }
item_read (tDeclaration (declares ws ds x)) ns n t l rest = record { height = mk.declaration_height (so_far placeFile (worded ws t.0.specs.told) ds); reads = declaration_read ns ws ds x t.0 l rest }
item_read (tEmpty at) ns n t l rest = record { height = 0; reads = go (sign sy.Semicolon at) rest File (Ended (tEmpty at) 0) ns ns refl (omega arith) }
