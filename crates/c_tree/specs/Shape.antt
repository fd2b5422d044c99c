-- Which trees are shaped. Typedef names in scope are a list, the first declared first.
use Rattle.std.specs.Prelude.{◌≡◌, ℕ, zero, suc, ◌≤◌, List, [], ◌∷◌, ◌++◌, Option, None, Some, Bool, true, false, ◌&&◌, ◌||◌, not, if◌then◌else◌, codes}
use Rattle.std.specs.List.{list_any}
use Rattle.std.specs.Str.{bytes_eq}
use Rattle.c_tree.specs.declared.symbol.Bracket.{Bracket}
use Rattle.c_tree.specs.declared.symbol.Bracket.TheVariants as br
use Rattle.c_tree.specs.declared.symbol.BinaryOp.TheVariants as op
use Rattle.c_tree.specs.declared.symbol.AssignOp.TheVariants as to
use Rattle.c_tree.specs.declared.symbol.StorageWord.TheVariants as storage
use Rattle.c_tree.specs.declared.symbol.Symbol.{Symbol}
use Rattle.c_tree.specs.declared.symbol.Symbol.TheVariants as sy
use Rattle.c_tree.specs.declared.symbol.SymbolAt.{SymbolAt}
use Rattle.c_tree.specs.declared.known.Site.{Site}
use Rattle.c_tree.specs.declared.known.Site.TheVariants as site
use Rattle.c_tree.specs.declared.known.Known.{Known}
use Rattle.c_tree.specs.Words.{known, is_typed, is_typedef, is_void}
use Rattle.c_tree.specs.Spelling.{level, operand_level, level_of, spell_item}
use Rattle.c_tree.specs.Tree.{Raw, no_raw, raw_and, At, attribute, Ats, no_attributes, attributes_and, Ex, eName, eNumber, eLetter, eParen, eCall, eIndex, ePostfix, ePrefix, eSizeof, eCast, eBinary, eCond, eAssign, eComma, Parts, no_parts, parts_and, Words, no_words, words_and, Word, wType, wStorage, wConst, wExtension, wAttribute, wTypedef, wTag, wEnum, wTagEnum, Ens, no_enumerators, plain_and, valued_and, Name, named, Params, no_params, params_and, Parameters, pUnknown, pVoid, pSome, Form, fPlain, fArray, fFunction, Initial, iNothing, iValue, iList, Decs, no_declarators, declarators_and, Declaration, declares, Head, head, ForStart, forDeclares, forExpr, ForHead, for_head, St, sDeclaration, sBlock, sEmpty, sExpr, sIf, sIfElse, sWhile, sSwitch, sDo, sFor, sCase, sDefault, sLabel, sGoto, sBreak, sContinue, sReturn, Sts, no_statements, statements_and, Body, bBlock, bSkipped, Item, tSkipped, tFunction, tDeclaration, tEmpty, Items, no_items, items_and}

-- Lists.

-- the first part of a list has no comma before it, and each other part has one
abbrev pub IsComma : Bool → Option ℕ → Type 0
IsComma true None = Unit {0}
IsComma true (Some at) = ⊥
IsComma false None = ⊥
IsComma false (Some at) = Unit {0}

abbrev pub are_no_parts : Parts → Bool
are_no_parts no_parts = true
are_no_parts (parts_and es c e) = false

abbrev pub are_no_enumerators : Ens → Bool
are_no_enumerators no_enumerators = true
are_no_enumerators _ = false

abbrev pub are_no_params : Params → Bool
are_no_params no_params = true
are_no_params _ = false

abbrev pub are_no_declarators : Decs → Bool
are_no_declarators no_declarators = true
are_no_declarators _ = false

-- at least two parts
abbrev pub are_several : Parts → Bool
are_several no_parts = false
are_several (parts_and es c e) = not (are_no_parts es)

-- Brackets.

abbrev pub is_bracket : Bracket → Bracket → Bool
is_bracket br.Round br.Round = true
is_bracket br.Square br.Square = true
is_bracket br.Curly br.Curly = true
is_bracket _ _ = false

abbrev pub closed_by : ℕ → Option ℕ
closed_by zero = None
closed_by (suc n) = Some n

-- how many brackets of this kind are open behind one more token
abbrev pub depth_behind : Bracket → Symbol → ℕ → Option ℕ
depth_behind b (sy.Open c) n = if is_bracket b c then Some (suc n) else Some n
depth_behind b (sy.Close c) n = if is_bracket b c then closed_by n else Some n
depth_behind b sy.End n = None
depth_behind b _ n = Some n

abbrev pub depth_on : Bracket → Symbol → Option ℕ → Option ℕ
depth_on b s None = None
depth_on b s (Some n) = depth_behind b s n

abbrev pub depth_of : Bracket → Raw → Option ℕ
depth_of b no_raw = Some 0
depth_of b (raw_and r s) = depth_on b s.symbol (depth_of b r)

abbrev pub IsBalanced : Bracket → Raw → Type 0
IsBalanced b r = depth_of b r ≡ Some 0

-- in an attribute round brackets balance
abbrev pub ShapedAttribute : At → Type 0
ShapedAttribute (attribute w at a r b) = IsBalanced br.Round r

abbrev pub ShapedAttributes : Ats → Type 0
ShapedAttributes no_attributes = Unit {0}
ShapedAttributes (attributes_and ats a) = ShapedAttributes ats × ShapedAttribute a

-- Names.

abbrev pub has : List (List ℕ) → List ℕ → Bool
has names n = list_any (λ m. bytes_eq m n) names

-- The words stand together, and there is a type among them.
pub record AreSpecs (place : Site) (ws : Words) : Type 0 where
  pub told : Known
  pub together : known place ws ≡ Some told
  pub typed : is_typed told.typing ≡ true

module _ (names : List (List ℕ)) where
  -- Expressions, with the precedence of C11 6.5.
  abbrev mutual
    pub Shaped : Ex → Type 0
    Shaped (eName n at) = has names n ≡ false
    Shaped (eNumber v f at) = Unit {0}
    Shaped (eLetter v at) = Unit {0}
    Shaped (eParen a e b) = Shaped e
    Shaped (eCall f a es b) = (15 ≤ level_of f) × Shaped f × ShapedParts es
    Shaped (eIndex a x i y) = (15 ≤ level_of a) × Shaped a × Shaped i
    Shaped (ePostfix e c at) = (15 ≤ level_of e) × Shaped e
    Shaped (ePrefix o at e) = (operand_level o ≤ level_of e) × Shaped e
    Shaped (eSizeof at a ws b) = AreSpecs site.Bare ws × ShapedWords ws
    Shaped (eCast a ws b e) = (13 ≤ level_of e) × AreSpecs site.Cast ws × ShapedWords ws × Shaped e
    Shaped (eBinary a o at b) = (level o ≤ level_of a) × (suc (level o) ≤ level_of b) × Shaped a × Shaped b
    Shaped (eCond c x a y b) = (3 ≤ level_of c) × (2 ≤ level_of b) × Shaped c × Shaped a × Shaped b
    Shaped (eAssign a o at b) = (14 ≤ level_of a) × (1 ≤ level_of b) × Shaped a × Shaped b
    Shaped (eComma es) = (are_several es ≡ true) × ShapedParts es

    pub ShapedParts : Parts → Type 0
    ShapedParts no_parts = Unit {0}
    ShapedParts (parts_and es c e) = IsComma (are_no_parts es) c × (1 ≤ level_of e) × ShapedParts es × Shaped e

    pub ShapedWords : Words → Type 0
    ShapedWords no_words = Unit {0}
    ShapedWords (words_and ws w) = ShapedWords ws × ShapedWord w

    pub ShapedWord : Word → Type 0
    ShapedWord (wType w at) = Unit {0}
    ShapedWord (wStorage w at) = Unit {0}
    ShapedWord (wConst w at) = Unit {0}
    ShapedWord (wExtension at) = Unit {0}
    ShapedWord (wAttribute a) = ShapedAttribute a
    ShapedWord (wTypedef n at) = has names n ≡ true
    ShapedWord (wTag at n b) = has names n ≡ false
    ShapedWord (wEnum at a es c b) = (are_no_enumerators es ≡ false) × ShapedEnumerators es
    ShapedWord (wTagEnum at n x a es c b) = (has names n ≡ false) × (are_no_enumerators es ≡ false) × ShapedEnumerators es

    pub ShapedEnumerators : Ens → Type 0
    ShapedEnumerators no_enumerators = Unit {0}
    ShapedEnumerators (plain_and es c n at) = IsComma (are_no_enumerators es) c × (has names n ≡ false) × ShapedEnumerators es
    ShapedEnumerators (valued_and es c n at a e) = IsComma (are_no_enumerators es) c × (has names n ≡ false) × (2 ≤ level_of e) × ShapedEnumerators es × Shaped e

  -- an expression that may be left out, of at least this level
  abbrev pub ShapedOption : ℕ → Option Ex → Type 0
  ShapedOption l None = Unit {0}
  ShapedOption l (Some e) = (l ≤ level_of e) × Shaped e

  abbrev pub ShapedName : Name → Type 0
  ShapedName (named n at) = has names n ≡ false

  abbrev pub ShapedOptionName : Option Name → Type 0
  ShapedOptionName None = Unit {0}
  ShapedOptionName (Some n) = ShapedName n

  -- no parameter has the type `void`
  abbrev pub ShapedParams : Params → Type 0
  ShapedParams no_params = Unit {0}
  ShapedParams (params_and ps c ws n) = IsComma (are_no_params ps) c × AreSpecs site.Bare ws × ShapedWords ws × ShapedOptionName n × ShapedParams ps

  abbrev pub ShapedParameters : Parameters → Type 0
  ShapedParameters (pUnknown a b) = Unit {0}
  ShapedParameters (pVoid a at b) = Unit {0}
  ShapedParameters (pSome a ps b) = (are_no_params ps ≡ false) × ShapedParams ps

  abbrev pub ShapedForm : Form → Type 0
  ShapedForm fPlain = Unit {0}
  ShapedForm (fArray a e b) = ShapedOption 2 e
  ShapedForm (fFunction ps) = ShapedParameters ps

  abbrev pub ShapedInitial : Initial → Type 0
  ShapedInitial iNothing = Unit {0}
  ShapedInitial (iValue at e) = (1 ≤ level_of e) × Shaped e
  ShapedInitial (iList at a es c b) = (are_no_parts es ≡ false) × ShapedParts es

-- Declarations.

abbrev pub is_file : Site → Bool
is_file site.File = true
is_file _ = false

-- An object: a name with or without a value, or an array, which has a length or a list.
-- A function stands at file scope. What a typedef declares is a name alone.
abbrev pub may_declare : Site → Known → Form → Initial → Bool
may_declare s k fPlain iNothing = not (is_void k.typing)
may_declare s k fPlain (iValue at e) = not (is_void k.typing) && not (is_typedef k.storage)
may_declare s k fPlain (iList at a es c b) = false
may_declare s k (fArray a None b) (iList at x es c y) = not (is_void k.typing) && not (is_typedef k.storage)
may_declare s k (fArray a (Some e) b) (iList at x es c y) = not (is_void k.typing) && not (is_typedef k.storage)
may_declare s k (fArray a (Some e) b) iNothing = not (is_void k.typing) && not (is_typedef k.storage)
may_declare s k (fArray a e b) _ = false
may_declare s k (fFunction ps) iNothing = is_file s && not (is_typedef k.storage)
may_declare s k (fFunction ps) _ = false

abbrev pub name_text : Name → List ℕ
name_text (named n at) = n

-- the typedef names behind the declared names
abbrev pub declared : Known → Decs → List (List ℕ) → List (List ℕ)
declared k no_declarators names = names
declared k (declarators_and ds c n f ats i) names = if is_typedef k.storage then declared k ds names ++ name_text n ∷ [] else declared k ds names

abbrev pub ShapedDeclarators : Site → Known → List (List ℕ) → Decs → Type 0
ShapedDeclarators s k names no_declarators = Unit {0}
ShapedDeclarators s k names (declarators_and ds c n f ats i) =
    ShapedDeclarators s k names ds × IsComma (are_no_declarators ds) c × (may_declare s k f i ≡ true) × ShapedName (declared k ds names) n × ShapedForm (declared k ds names) f × ShapedAttributes ats × ShapedInitial (declared k ds names) i

-- a type that declares nothing is not `void`
abbrev pub may_end : Known → Decs → Bool
may_end k no_declarators = not (is_void k.typing)
may_end k _ = true

pub record ShapedDeclares (place : Site) (names : List (List ℕ)) (ws : Words) (ds : Decs) : Type 0 where
  pub specs : AreSpecs place ws
  pub words : ShapedWords names ws
  pub ends : may_end specs.told ds ≡ true
  pub declarators : ShapedDeclarators place specs.told names ds

abbrev pub ShapedDeclaration : Site → List (List ℕ) → Declaration → Type 0
ShapedDeclaration s names (declares ws ds b) = ShapedDeclares s names ws ds

-- the typedef names behind words and the declared names
abbrev pub declared_with : Option Known → Decs → List (List ℕ) → List (List ℕ)
declared_with None ds names = names
declared_with (Some k) ds names = declared k ds names

abbrev pub names_behind : Site → Declaration → List (List ℕ) → List (List ℕ)
names_behind s (declares ws ds b) names = declared_with (known s ws) ds names

-- Statements.

abbrev pub ShapedHead : List (List ℕ) → Head → Type 0
ShapedHead names (head at a e b) = Shaped names e

abbrev pub ShapedForStart : List (List ℕ) → ForStart → Type 0
ShapedForStart names (forDeclares d) = ShapedDeclaration site.Block names d
ShapedForStart names (forExpr e at) = ShapedOption names 0 e

abbrev pub start_names : ForStart → List (List ℕ) → List (List ℕ)
start_names (forDeclares d) names = names_behind site.Block d names
start_names (forExpr e at) names = names

-- the typedef names in the scope of a `for`
abbrev pub for_names : ForHead → List (List ℕ) → List (List ℕ)
for_names (for_head at a s e x i b) names = start_names s names

abbrev pub ShapedForHead : List (List ℕ) → ForHead → Type 0
ShapedForHead names (for_head at a s e x i b) = ShapedForStart names s × ShapedOption (start_names s names) 0 e × ShapedOption (start_names s names) 0 i

-- no `if` at its end is without an `else`
abbrev pub Closed : St → Type 0
Closed (sIf h s) = ⊥
Closed (sIfElse h a at b) = Closed b
Closed (sWhile h s) = Closed s
Closed (sSwitch h s) = Closed s
Closed (sFor h s) = Closed s
Closed (sCase at e b s) = Closed s
Closed (sDefault at b s) = Closed s
Closed (sLabel n at b ats s) = Closed s
Closed _ = Unit {0}

-- a declaration stands directly in a block
abbrev pub IsStatement : St → Type 0
IsStatement (sDeclaration d) = ⊥
IsStatement _ = Unit {0}

abbrev pub statement_names : St → List (List ℕ) → List (List ℕ)
statement_names (sDeclaration d) names = names_behind site.Block d names
statement_names _ names = names

-- the typedef names behind statements of a block
abbrev pub block_names : Sts → List (List ℕ) → List (List ℕ)
block_names no_statements names = names
block_names (statements_and ss s) names = statement_names s (block_names ss names)

abbrev mutual
  pub ShapedStatement : St → List (List ℕ) → Type 0
  ShapedStatement (sDeclaration d) names = ShapedDeclaration site.Block names d
  ShapedStatement (sBlock a ss b) names = ShapedStatements ss names
  ShapedStatement (sEmpty at) names = Unit {0}
  ShapedStatement (sExpr e at) names = Shaped names e
  ShapedStatement (sIf h s) names = ShapedHead names h × IsStatement s × ShapedStatement s names
  ShapedStatement (sIfElse h a at b) names = ShapedHead names h × Closed a × IsStatement a × IsStatement b × ShapedStatement a names × ShapedStatement b names
  ShapedStatement (sWhile h s) names = ShapedHead names h × IsStatement s × ShapedStatement s names
  ShapedStatement (sSwitch h s) names = ShapedHead names h × IsStatement s × ShapedStatement s names
  ShapedStatement (sDo at s h b) names = ShapedHead names h × IsStatement s × ShapedStatement s names
  ShapedStatement (sFor h s) names = ShapedForHead names h × IsStatement s × ShapedStatement s (for_names h names)
  ShapedStatement (sCase at e b s) names = (2 ≤ level_of e) × Shaped names e × IsStatement s × ShapedStatement s names
  ShapedStatement (sDefault at b s) names = IsStatement s × ShapedStatement s names
  ShapedStatement (sLabel n at b ats s) names = (has names n ≡ false) × ShapedAttributes ats × IsStatement s × ShapedStatement s names
  ShapedStatement (sGoto at n x b) names = has names n ≡ false
  ShapedStatement (sBreak at b) names = Unit {0}
  ShapedStatement (sContinue at b) names = Unit {0}
  ShapedStatement (sReturn at e b) names = ShapedOption names 0 e

  pub ShapedStatements : Sts → List (List ℕ) → Type 0
  ShapedStatements no_statements names = Unit {0}
  ShapedStatements (statements_and ss s) names = ShapedStatements ss names × ShapedStatement s (block_names ss names)

-- Items.

-- the name of the function whose block is skipped
abbrev pub is_skipped_name : Name → Bool
is_skipped_name (named n at) = bytes_eq n (codes "reach_error")

abbrev pub ShapedBody : Bool → List (List ℕ) → Body → Type 0
ShapedBody false names (bBlock a ss b) = ShapedStatements ss names
ShapedBody true names (bSkipped a r b) = IsBalanced br.Curly r
ShapedBody _ names _ = ⊥

-- `*`, `...`, `float`, `double`, `struct`, `union`
abbrev pub is_listed : Symbol → Bool
is_listed (sy.Binary op.Multiply) = true
is_listed sy.Ellipsis = true
is_listed (sy.Listed n) = true
is_listed _ = false

-- `;`, `=`, `{`, `}`, or the end of the source
abbrev pub is_stop : Symbol → Bool
is_stop sy.Semicolon = true
is_stop (sy.Assign to.Plain) = true
is_stop (sy.Open br.Curly) = true
is_stop (sy.Close br.Curly) = true
is_stop sy.End = true
is_stop _ = false

abbrev pub has_listed : Raw → Bool
has_listed no_raw = false
has_listed (raw_and r s) = is_listed s.symbol || has_listed r

abbrev pub has_stop : Raw → Bool
has_stop no_raw = false
has_stop (raw_and r s) = is_stop s.symbol || has_stop r

-- no such token stands before the first `;`, `=` or `{`
abbrev pub has_no_listed : List SymbolAt → Bool
has_no_listed [] = true
has_no_listed (s ∷ tokens) = if is_stop s.symbol then true else (not (is_listed s.symbol) && has_no_listed tokens)

abbrev pub unlisted_extern : Symbol → List SymbolAt → Bool
unlisted_extern (sy.Storage storage.Extern) tokens = has_no_listed tokens
unlisted_extern _ tokens = true

abbrev pub unlisted_extension : List SymbolAt → Bool
unlisted_extension [] = true
unlisted_extension (s ∷ tokens) = unlisted_extern s.symbol tokens

abbrev pub unlisted_from : Symbol → List SymbolAt → Bool
unlisted_from sy.Extension tokens = unlisted_extension tokens
unlisted_from s tokens = unlisted_extern s tokens

-- this holds where they begin with `extern` or `__extension__ extern`
abbrev pub is_unlisted : List SymbolAt → Bool
is_unlisted [] = true
is_unlisted (s ∷ tokens) = unlisted_from s.symbol tokens

pub record ShapedFunction (names : List (List ℕ)) (ws : Words) (n : Name) (ps : Parameters) (ats : Ats) (b : Body) : Type 0 where
  pub specs : AreSpecs site.File ws
  pub words : ShapedWords names ws
  pub no_typedef : is_typedef specs.told.storage ≡ false
  pub name : ShapedName names n
  pub parameters : ShapedParameters names ps
  pub attributes : ShapedAttributes ats
  pub body : ShapedBody (is_skipped_name n) names b

abbrev pub ShapedItem : Item → List (List ℕ) → Type 0
ShapedItem (tSkipped x at r b) names = (has_listed r ≡ true) × (has_stop r ≡ false)
ShapedItem (tFunction ws n ps ats b) names = ShapedFunction names ws n ps ats b × (is_unlisted (spell_item (tFunction ws n ps ats b) []) ≡ true)
ShapedItem (tDeclaration d) names = ShapedDeclaration site.File names d × (is_unlisted (spell_item (tDeclaration d) []) ≡ true)
ShapedItem (tEmpty at) names = Unit {0}

abbrev pub item_names : Item → List (List ℕ) → List (List ℕ)
item_names (tDeclaration d) names = names_behind site.File d names
item_names _ names = names

-- the typedef names of a file
abbrev pub file_names : Items → List (List ℕ)
file_names no_items = []
file_names (items_and is i) = item_names i (file_names is)

abbrev pub ShapedItems : Items → Type 0
ShapedItems no_items = Unit {0}
ShapedItems (items_and is i) = ShapedItems is × ShapedItem i (file_names is)
