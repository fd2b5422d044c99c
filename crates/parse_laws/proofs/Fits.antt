-- What a state keeps: its parts are shaped, and they fit their places. The names are the typedef names in scope, of which
-- the file's are those before its item.
use Rattle.std.proofs.Common.{◌≡◌, ℕ, ◌≤◌, List, length, Some, true, false}
use Rattle.c_tree.specs.declared.symbol.Bracket.TheVariants as br
use Rattle.c_tree.specs.declared.known.Site.{Site}
use Rattle.c_tree.specs.declared.known.Site.TheVariants as site
use Rattle.c_tree.specs.declared.known.Known.{Known}
use Rattle.c_tree.specs.Words.{known, with_named, is_typed, is_typedef}
use Rattle.c_tree.specs.Spelling.{level, level_of}
use Rattle.c_tree.specs.Tree.{Form, fPlain, fArray, fFunction, St, sDeclaration, Item, tSkipped, tFunction, tDeclaration, tEmpty}
use Rattle.c_tree.specs.Shape as sh
use Rattle.parse_machine.specs.Contexts.{Part, Spoken, Bind, bBinary, bPrefix, bCast, bAssign, bElse, bComma, Opened, oParen, oIndex, oArgument, oThen, Wrap, wThen, wElse, wWhile, wSwitch, wFor, wCase, wDefault, wLabel, Header, Outer, outBody, outBlock, outDo, outWrap, Place, placeFile, placeBlock, placeFor, Declaring, Declared, EnumHead, headBare, headTagged, Base, baseStatement, baseTest, baseDo, baseReturn, baseCase, baseStart, baseMore, baseStep, baseLength, baseInitial, basePart, Inner, inBase, inBind, inOpen, inConstant, Around, aroundCast, aroundSizeof, aroundParameter, aroundPlace, Listing, Attributed, onWords, onDeclared, onLabel, Fork, forkCast, forkSizeof, forkBlock, forkFor, Waiting, waitTest, waitWhile, waitDo, waitDone, waitFor, waitDefault, waitGoto, waitBreak, waitContinue, waitVoid, waitList, waitAttribute, Mode, File, Ended, Specifiers, Enumeration, Tagged, Constant, Named, Attribute, Next, Behind, Listed, Parameters', Parameter, Skipped, Begin, Wait, Either, Goto, Operand, Maybe, Sizeof, Value, Label, Whole, Finished}
use Rattle.parse_machine.specs.Heights.{least, is_list, is_placed_in_file, site_of_place}
use Rattle.parse_machine.specs.Specifiers.{site_of}
use Rattle.parse_machine.specs.Declarations.{is_plain, is_bare, is_object}

-- Typedef names.

abbrev pub wrap_names : Wrap → List (List ℕ) → List (List ℕ)
wrap_names (wFor m h) ns = sh.for_names h ns
wrap_names _ ns = ns

module _ (file : List (List ℕ)) where
  -- in the scope of a statement that is to come
  abbrev pub scope : Outer → List (List ℕ)
  scope (outBody m h a ss) = sh.block_names ss file
  scope (outBlock m a ss o) = sh.block_names ss (scope o)
  scope (outDo at o) = scope o
  scope (outWrap w o) = wrap_names w (scope o)

  abbrev pub place_names : Place → List (List ℕ)
  place_names placeFile = file
  place_names (placeBlock o) = scope o
  place_names (placeFor m at a o) = scope o

  -- behind the declared names so far
  abbrev pub declaring_names : Declaring → List (List ℕ)
  declaring_names d = sh.declared d.spoken.told d.before.value (place_names d.place)

  abbrev pub declared_names : Declared → List (List ℕ)
  declared_names d = declaring_names d.around

  abbrev pub base_names : Base → List (List ℕ)
  base_names (baseStatement o) = scope o
  base_names (baseTest t at a o) = scope o
  base_names (baseDo at s x a o) = scope o
  base_names (baseReturn at o) = scope o
  base_names (baseCase at o) = scope o
  base_names (baseStart m at a o) = scope o
  base_names (baseMore m at a s o) = sh.start_names s (scope o)
  base_names (baseStep m at a s e x o) = sh.start_names s (scope o)
  base_names (baseLength d a) = declared_names d
  base_names (baseInitial d at) = declared_names d
  base_names (basePart d at a es c) = declared_names d

  abbrev mutual
    pub inner_names : Inner → List (List ℕ)
    inner_names (inBase b) = base_names b
    inner_names (inBind b k) = inner_names k
    inner_names (inOpen o k) = inner_names k
    inner_names (inConstant w s h es c n at a) = around_names w

    pub around_names : Around → List (List ℕ)
    around_names (aroundCast a k) = inner_names k
    around_names (aroundSizeof at a k) = inner_names k
    around_names (aroundParameter d a ps c) = declared_names d
    around_names (aroundPlace p) = place_names p

  abbrev pub listing_names : Listing → List (List ℕ)
  listing_names l = around_names l.around

  abbrev pub attributed_names : Attributed → List (List ℕ)
  attributed_names (onWords s w) = around_names w
  attributed_names (onDeclared d) = declared_names d
  attributed_names (onLabel n at b ats o) = scope o

  abbrev pub fork_names : Fork → List (List ℕ)
  fork_names (forkCast a k) = inner_names k
  fork_names (forkSizeof at a k) = inner_names k
  fork_names (forkBlock o) = scope o
  fork_names (forkFor m at a o) = scope o

  abbrev pub waiting_names : Waiting → List (List ℕ)
  waiting_names (waitTest t at o) = scope o
  waiting_names (waitWhile at s o) = scope o
  waiting_names (waitDo at s x o) = scope o
  waiting_names (waitDone at s h o) = scope o
  waiting_names (waitFor at o) = scope o
  waiting_names (waitDefault at o) = scope o
  waiting_names (waitGoto at n x o) = scope o
  waiting_names (waitBreak at o) = scope o
  waiting_names (waitContinue at o) = scope o
  waiting_names (waitVoid d a at) = declared_names d
  waiting_names (waitList d at) = declared_names d
  waiting_names (waitAttribute w at x) = attributed_names x

  abbrev pub names_of : Mode → List (List ℕ)
  names_of File = file
  names_of (Ended i h) = sh.item_names i file
  names_of (Specifiers s w) = around_names w
  names_of (Enumeration at s w) = around_names w
  names_of (Tagged at n x s w) = around_names w
  names_of (Constant l) = listing_names l
  names_of (Named l n at) = listing_names l
  names_of (Attribute w at a t n x) = attributed_names x
  names_of (Next d at) = declaring_names d
  names_of (Behind d) = declared_names d
  names_of (Listed d) = declaring_names d
  names_of (Parameters' d a) = declared_names d
  names_of (Parameter d a ps c s n at) = declared_names d
  names_of (Skipped h a t n) = file
  names_of (Begin o) = scope o
  names_of (Wait x) = waiting_names x
  names_of (Either f ats) = fork_names f
  names_of (Goto at o) = scope o
  names_of (Operand k) = inner_names k
  names_of (Maybe k) = inner_names k
  names_of (Sizeof at k) = inner_names k
  names_of (Value e k) = inner_names k
  names_of (Label n at b ats o) = scope o
  names_of (Whole s o) = sh.statement_names s (scope o)
  names_of Finished = file

-- Parts.

pub record FitPart (ns : List (List ℕ)) (e : Part) : Type 0 where
  pub level : level_of e.value ≡ e.level
  pub shaped : sh.Shaped ns e.value

-- words that may stand together
pub record FitSpoken (s : Site) (ns : List (List ℕ)) (x : Spoken) : Type 0 where
  pub told : known s x.words ≡ Some x.told
  pub shaped : sh.ShapedWords ns x.words

-- words, and an enumeration that is to come
pub record FitNamed (s : Site) (ns : List (List ℕ)) (x : Spoken) : Type 0 where
  pub before : Known
  pub told : known s x.words ≡ Some before
  pub named : with_named before ≡ Some x.told
  pub shaped : sh.ShapedWords ns x.words

abbrev pub FitWrap : List (List ℕ) → Wrap → Type 0
FitWrap ns (wThen h) = sh.ShapedHead ns h
FitWrap ns (wElse h s at) = sh.ShapedHead ns h × sh.Closed s × sh.IsStatement s × sh.ShapedStatement s ns
FitWrap ns (wWhile h) = sh.ShapedHead ns h
FitWrap ns (wSwitch h) = sh.ShapedHead ns h
FitWrap ns (wFor m h) = (m ≡ length ns) × sh.ShapedForHead ns h
FitWrap ns (wCase at e b) = (2 ≤ level_of e) × sh.Shaped ns e
FitWrap ns (wDefault at b) = Unit {0}
FitWrap ns (wLabel n at b ats) = (sh.has ns n ≡ false) × sh.ShapedAttributes ats

pub record FitHeader (ns : List (List ℕ)) (h : Header) : Type 0 where
  pub specs : sh.AreSpecs site.File h.words
  pub words : sh.ShapedWords ns h.words
  pub no_typedef : is_typedef specs.told.storage ≡ false
  pub name : sh.ShapedName ns h.name
  pub parameters : sh.ShapedParameters ns h.parameters
  pub attributes : sh.ShapedAttributes h.attributes

-- an object's form, or a function's
abbrev pub FitForm : Declaring → Form → Type 0
FitForm d fPlain = Unit {0}
FitForm d (fArray a e b) = is_object d.spoken.told ≡ true
FitForm d (fFunction ps) = (is_placed_in_file d.place ≡ true) × (is_typedef d.spoken.told.storage ≡ false)

-- a declaration is whole only directly in a block
abbrev pub Stands : St → Outer → Type 0
Stands (sDeclaration d) o = is_list o ≡ true
Stands _ o = Unit {0}

abbrev pub IsArray : Form → Type 0
IsArray (fArray a e b) = Unit {0}
IsArray _ = ⊥

module _ (file : List (List ℕ)) where
  abbrev pub FitOuter : Outer → Type 0
  FitOuter (outBody m h a ss) = (m ≡ length file) × FitHeader file h × (sh.is_skipped_name h.name ≡ false) × sh.ShapedStatements ss file
  FitOuter (outBlock m a ss o) = (m ≡ length (scope file o)) × sh.ShapedStatements ss (scope file o) × FitOuter o
  FitOuter (outDo at o) = FitOuter o
  FitOuter (outWrap w o) = FitWrap (scope file o) w × FitOuter o

  abbrev pub FitPlace : Place → Type 0
  FitPlace placeFile = Unit {0}
  FitPlace (placeBlock o) = (is_list o ≡ true) × FitOuter o
  FitPlace (placeFor m at a o) = (m ≡ length (scope file o)) × FitOuter o

  pub record FitDeclaring (d : Declaring) : Type 0 where
    pub place : FitPlace d.place
    pub spoken : FitSpoken (site_of_place d.place) (place_names file d.place) d.spoken
    pub typed : is_typed d.spoken.told.typing ≡ true
    pub before : sh.ShapedDeclarators (site_of_place d.place) d.spoken.told (place_names file d.place) d.before.value

  pub record FitDeclared (d : Declared) : Type 0 where
    pub around : FitDeclaring d.around
    pub comma : sh.IsComma (sh.are_no_declarators d.around.before.value) d.comma
    pub name : sh.has (declared_names file d) d.name ≡ false
    pub shaped : sh.ShapedForm (declared_names file d) d.form.value
    pub attributes : sh.ShapedAttributes d.attributes
    pub form : FitForm d.around d.form.value

  -- a name behind which parameters may stand
  pub record FitFunction (d : Declared) : Type 0 where
    pub declared : FitDeclared d
    pub bare : is_bare d ≡ true
    pub place : is_placed_in_file d.around.place ≡ true
    pub storage : is_typedef d.around.spoken.told.storage ≡ false

  abbrev pub FitBase : Base → Type 0
  FitBase (baseStatement o) = FitOuter o
  FitBase (baseTest t at a o) = FitOuter o
  FitBase (baseDo at s x a o) = sh.IsStatement s × sh.ShapedStatement s (scope file o) × FitOuter o
  FitBase (baseReturn at o) = FitOuter o
  FitBase (baseCase at o) = FitOuter o
  FitBase (baseStart m at a o) = (m ≡ length (scope file o)) × FitOuter o
  FitBase (baseMore m at a s o) = (m ≡ length (scope file o)) × sh.ShapedForStart (scope file o) s × FitOuter o
  FitBase (baseStep m at a s e x o) = (m ≡ length (scope file o)) × sh.ShapedForStart (scope file o) s × sh.ShapedOption (sh.start_names s (scope file o)) 0 e × FitOuter o
  FitBase (baseLength d a) = FitDeclared d × (is_bare d ≡ true) × (is_object d.around.spoken.told ≡ true)
  FitBase (baseInitial d at) = FitDeclared d × (is_plain d.form.value ≡ true) × (is_object d.around.spoken.told ≡ true)
  FitBase (basePart d at a es c) = FitDeclared d × IsArray d.form.value × (is_object d.around.spoken.told ≡ true) × sh.ShapedParts (declared_names file d) es.value × sh.IsComma (sh.are_no_parts es.value) c

-- an operator at a place of this level
abbrev pub FitBind : List (List ℕ) → ℕ → Bind → Type 0
FitBind ns l (bBinary a o at) = (l ≤ level o) × (level o ≤ level_of a.value) × sh.Shaped ns a.value
FitBind ns l (bPrefix o at) = Unit {0}
FitBind ns l (bCast a ws b) = (l ≤ 13) × sh.AreSpecs site.Cast ws.value × sh.ShapedWords ns ws.value
FitBind ns l (bAssign a o at) = (l ≤ 1) × (14 ≤ level_of a.value) × sh.Shaped ns a.value
FitBind ns l (bElse c x a y) = (l ≤ 2) × (3 ≤ level_of c.value) × sh.Shaped ns c.value × sh.Shaped ns a.value
FitBind ns l (bComma es at) = (l ≤ 0) × (sh.are_no_parts es.value ≡ false) × sh.ShapedParts ns es.value

abbrev pub FitOpened : List (List ℕ) → ℕ → Opened → Type 0
FitOpened ns l (oParen a) = Unit {0}
FitOpened ns l (oIndex f x) = (15 ≤ level_of f.value) × sh.Shaped ns f.value
FitOpened ns l (oArgument f a es c) = (15 ≤ level_of f.value) × sh.Shaped ns f.value × sh.ShapedParts ns es.value × sh.IsComma (sh.are_no_parts es.value) c
FitOpened ns l (oThen c x) = (l ≤ 2) × (3 ≤ level_of c.value) × sh.Shaped ns c.value

abbrev pub FitHead : List (List ℕ) → EnumHead → Type 0
FitHead ns (headBare at a) = Unit {0}
FitHead ns (headTagged at n x a) = sh.has ns n ≡ false

module _ (file : List (List ℕ)) where
  abbrev mutual
    pub FitInner : Inner → Type 0
    FitInner (inBase b) = FitBase file b
    FitInner (inBind b k) = FitBind (inner_names file k) (least k) b × FitInner k
    FitInner (inOpen o k) = FitOpened (inner_names file k) (least k) o × FitInner k
    FitInner (inConstant w s h es c n at a) = FitAround w × FitNamed (site_of w) (around_names file w) s × FitHead (around_names file w) h × sh.ShapedEnumerators (around_names file w) es.value × sh.IsComma (sh.are_no_enumerators es.value) c × (sh.has (around_names file w) n ≡ false)

    pub FitAround : Around → Type 0
    FitAround (aroundCast a k) = (least k ≤ 13) × FitInner k
    FitAround (aroundSizeof at a k) = FitInner k
    FitAround (aroundParameter d a ps c) = FitFunction file d × sh.ShapedParams (declared_names file d) ps.value × sh.IsComma (sh.are_no_params ps.value) c
    FitAround (aroundPlace p) = FitPlace file p

  pub record FitListing (l : Listing) : Type 0 where
    pub around : FitAround l.around
    pub named : FitNamed (site_of l.around) (around_names file l.around) l.spoken
    pub head : FitHead (around_names file l.around) l.head
    pub before : sh.ShapedEnumerators (around_names file l.around) l.before.value
    pub comma : sh.IsComma (sh.are_no_enumerators l.before.value) l.comma

  abbrev pub FitWords : Spoken → Around → Type 0
  FitWords s w = FitSpoken (site_of w) (around_names file w) s × FitAround w

  abbrev pub FitAttributed : Attributed → Type 0
  FitAttributed (onWords s w) = FitWords s w
  FitAttributed (onDeclared d) = FitDeclared file d
  FitAttributed (onLabel n at b ats o) = (sh.has (scope file o) n ≡ false) × sh.ShapedAttributes ats × FitOuter file o

  abbrev pub FitFork : Fork → Type 0
  FitFork (forkCast a k) = (least k ≤ 13) × FitInner k
  FitFork (forkSizeof at a k) = FitInner k
  FitFork (forkBlock o) = (is_list o ≡ true) × FitOuter file o
  FitFork (forkFor m at a o) = (m ≡ length (scope file o)) × FitOuter file o

  abbrev pub FitWaiting : Waiting → Type 0
  FitWaiting (waitTest t at o) = FitOuter file o
  FitWaiting (waitWhile at s o) = sh.IsStatement s × sh.ShapedStatement s (scope file o) × FitOuter file o
  FitWaiting (waitDo at s x o) = sh.IsStatement s × sh.ShapedStatement s (scope file o) × FitOuter file o
  FitWaiting (waitDone at s h o) = sh.IsStatement s × sh.ShapedStatement s (scope file o) × sh.ShapedHead (scope file o) h × FitOuter file o
  FitWaiting (waitFor at o) = FitOuter file o
  FitWaiting (waitDefault at o) = FitOuter file o
  FitWaiting (waitGoto at n x o) = (sh.has (scope file o) n ≡ false) × FitOuter file o
  FitWaiting (waitBreak at o) = FitOuter file o
  FitWaiting (waitContinue at o) = FitOuter file o
  FitWaiting (waitVoid d a at) = FitFunction file d
  FitWaiting (waitList d at) = FitDeclared file d × IsArray d.form.value × (is_object d.around.spoken.told ≡ true)
  FitWaiting (waitAttribute w at x) = FitAttributed x

  -- an item, but for what stands before the first `;`, `=` or `{`
  abbrev pub FitItem : Item → Type 0
  FitItem (tSkipped x at r b) = sh.ShapedItem (tSkipped x at r b) file
  FitItem (tFunction ws n ps ats b) = sh.ShapedFunction file ws n ps ats b
  FitItem (tDeclaration d) = sh.ShapedDeclaration site.File file d
  FitItem (tEmpty at) = Unit {0}

  abbrev pub Fit : Mode → Type 0
  Fit File = Unit {0}
  Fit (Ended i h) = FitItem i
  Fit (Specifiers s w) = FitWords s w
  Fit (Enumeration at s w) = FitNamed (site_of w) (around_names file w) s × FitAround w
  Fit (Tagged at n x s w) = FitNamed (site_of w) (around_names file w) s × (sh.has (around_names file w) n ≡ false) × FitAround w
  Fit (Constant l) = FitListing l
  Fit (Named l n at) = FitListing l × (sh.has (listing_names file l) n ≡ false)
  Fit (Attribute w at a t n x) = FitAttributed x × (sh.depth_of br.Round t ≡ Some n)
  Fit (Next d at) = FitDeclaring file d × (sh.are_no_declarators d.before.value ≡ false)
  Fit (Behind d) = FitDeclared file d
  Fit (Listed d) = FitDeclaring file d × (sh.are_no_declarators d.before.value ≡ false)
  Fit (Parameters' d a) = FitFunction file d
  Fit (Parameter d a ps c s n at) = FitAround (aroundParameter d a ps c) × FitSpoken site.Bare (declared_names file d) s × (is_typed s.told.typing ≡ true) × (sh.has (declared_names file d) n ≡ false)
  Fit (Skipped h a t n) = FitHeader file h × (sh.is_skipped_name h.name ≡ true) × (sh.depth_of br.Curly t ≡ Some n)
  Fit (Begin o) = FitOuter file o
  Fit (Wait x) = FitWaiting x
  Fit (Either f ats) = FitFork f
  Fit (Goto at o) = FitOuter file o
  Fit (Operand k) = FitInner k
  Fit (Maybe k) = FitInner k
  Fit (Sizeof at k) = FitInner k
  Fit (Value e k) = (least k ≤ e.level) × FitPart (inner_names file k) e × FitInner k
  Fit (Label n at b ats o) = (sh.has (scope file o) n ≡ false) × sh.ShapedAttributes ats × FitOuter file o
  Fit (Whole s o) = sh.Closed s × Stands s o × sh.ShapedStatement s (scope file o) × FitOuter file o
  Fit Finished = Unit {0}
