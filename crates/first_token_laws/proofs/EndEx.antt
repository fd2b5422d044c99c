-- How an item ends that is read into an expression, or into words.
use Rattle.std.proofs.Common.{◌≡◌, ℕ, ◌≤◌, List, ◌∷◌, Option, None, Some, Bool, true, false, refl, ap, ◌∙◌, arith}
use Rattle.std.specs.Option.{option_and_then}
use Rattle.c_tree.specs.declared.symbol.Bracket.TheVariants as br
use Rattle.c_tree.specs.declared.symbol.TypeWord.TheVariants as type
use Rattle.c_tree.specs.declared.symbol.Symbol.TheVariants as sy
use Rattle.c_tree.specs.declared.symbol.SymbolAt.{SymbolAt}
use Rattle.c_tree.specs.declared.known.Site.{Site}
use Rattle.c_tree.specs.declared.known.Known.{Known}
use Rattle.c_tree.specs.Symbols.{sign}
use Rattle.c_tree.specs.Spelling.{level_of, closing, comma, spell, spell_words, spell_enumerators}
use Rattle.c_tree.specs.Shape as sh
use Rattle.c_tree.specs.Words.{known, with_word, with_named, is_typed}
use Rattle.c_tree.specs.Tree.{Ex, eParen, eCall, eIndex, ePrefix, eSizeof, eCast, eBinary, eCond, eAssign, eComma, parts_and, Words, words_and, wType, wEnum, wTagEnum, Ens, valued_and, params_and, pSome, fArray, iNothing, iValue, iList, head, forExpr, for_head, sEmpty, sExpr, sIf, sWhile, sSwitch, sDo, sFor, sCase, sReturn}
use Rattle.parse_machine.specs.Contexts.{Spoken, Bind, bBinary, bPrefix, bCast, bAssign, bElse, bComma, oParen, oIndex, oArgument, oThen, testIf, testWhile, testSwitch, Declared, EnumHead, headBare, headTagged, Base, baseStatement, baseTest, baseDo, baseReturn, baseCase, baseStart, baseMore, baseStep, baseLength, baseInitial, basePart, Inner, inBase, inBind, inOpen, inConstant, Around, aroundCast, aroundSizeof, aroundParameter, aroundPlace}
use Rattle.parse_machine.specs.Making as mk
use Rattle.parse_machine.specs.Making.{tall}
use Rattle.parse_machine.specs.Heights as ht
use Rattle.parse_machine.specs.Heights.{least}
use Rattle.parse_machine.specs.Specifiers.{site_of}
use Rattle.parse_laws.proofs.Before as b
use Rattle.parse_laws.proofs.Fits.{declared_names, base_names, inner_names, around_names, FitBase, FitBind, FitHead, FitInner, FitAround, FitNamed, FitWords}
use Rattle.parse_laws.proofs.Parts.{least_le, several, comma_some}
use Rattle.parse_laws.proofs.SoundEx.{may_value, may_list}
use Rattle.parse_laws.proofs.SoundEnds.{formed_reads, with_form_fits}
use Rattle.first_token_laws.proofs.Fillers.{one, with_int, named_is_typed}
use Rattle.first_token_laws.proofs.EndSt.{Ends, ends_on, outer_ends}
use Rattle.first_token_laws.proofs.EndDecl.{declared_ends, function_ends, words_place_ends}

-- the length of an array
length_ends : (file : List (List ℕ)) (d : Declared) (a : ℕ) (e : Ex) → FitBase file (baseLength d a) → 2 ≤ level_of e → sh.Shaped (declared_names file d) e → Ends file (λ r. b.base (baseLength d a) (spell e r))
length_ends file d a e f l g =
    let x = tall (fArray a (Some e) 0) 0 in
    ends_on file _ _ (λ r. closing br.Square 0 ∷ r) (formed_reads d x f.1) (declared_ends file (mk.with_form d x) iNothing (with_form_fits file d x f.0 (l, g) f.2) f.2 tt)

-- outside of all expressions
base_ends : (file : List (List ℕ)) (x : Base) (e : Ex) → FitBase file x → ht.least_base x ≤ level_of e → sh.Shaped (base_names file x) e → Ends file (λ r. b.base x (spell e r))
base_ends file (baseStatement o) e f l g = ends_on file _ _ (λ r. sign sy.Semicolon 0 ∷ r) (λ r. refl) (outer_ends file o (sExpr e 0) f tt g)
base_ends file (baseTest testIf at a o) e f l g = ends_on file _ _ (λ r. closing br.Round 0 ∷ sign sy.Semicolon 0 ∷ r) (λ r. refl) (outer_ends file o (sIf (head at a e 0) (sEmpty 0)) f tt (g, tt, tt))
base_ends file (baseTest testWhile at a o) e f l g = ends_on file _ _ (λ r. closing br.Round 0 ∷ sign sy.Semicolon 0 ∷ r) (λ r. refl) (outer_ends file o (sWhile (head at a e 0) (sEmpty 0)) f tt (g, tt, tt))
base_ends file (baseTest testSwitch at a o) e f l g = ends_on file _ _ (λ r. closing br.Round 0 ∷ sign sy.Semicolon 0 ∷ r) (λ r. refl) (outer_ends file o (sSwitch (head at a e 0) (sEmpty 0)) f tt (g, tt, tt))
base_ends file (baseDo at s x a o) e f l g = ends_on file _ _ (λ r. closing br.Round 0 ∷ sign sy.Semicolon 0 ∷ r) (λ r. refl) (outer_ends file o (sDo at s (head x a e 0) 0) f.2 tt (g, f.0, f.1))
base_ends file (baseReturn at o) e f l g = ends_on file _ _ (λ r. sign sy.Semicolon 0 ∷ r) (λ r. refl) (outer_ends file o (sReturn at (Some e) 0) f tt (l, g))
base_ends file (baseCase at o) e f l g = ends_on file _ _ (λ r. sign sy.Colon 0 ∷ sign sy.Semicolon 0 ∷ r) (λ r. refl) (outer_ends file o (sCase at e 0 (sEmpty 0)) f tt (l, g, tt, tt))
base_ends file (baseStart m at a o) e f l g =
    ends_on file _ _ (λ r. sign sy.Semicolon 0 ∷ sign sy.Semicolon 0 ∷ closing br.Round 0 ∷ sign sy.Semicolon 0 ∷ r) (λ r. refl)
    (outer_ends file o (sFor (for_head at a (forExpr (Some e) 0) None 0 None 0) (sEmpty 0)) f.1 tt (((l, g), tt, tt), tt, tt))
base_ends file (baseMore m at a s o) e f l g =
    ends_on file _ _ (λ r. sign sy.Semicolon 0 ∷ closing br.Round 0 ∷ sign sy.Semicolon 0 ∷ r) (λ r. refl)
    (outer_ends file o (sFor (for_head at a s (Some e) 0 None 0) (sEmpty 0)) f.2 tt ((f.1, (l, g), tt), tt, tt))
base_ends file (baseStep m at a s y x o) e f l g =
    ends_on file _ _ (λ r. closing br.Round 0 ∷ sign sy.Semicolon 0 ∷ r) (λ r. refl)
    (outer_ends file o (sFor (for_head at a s y x (Some e) 0) (sEmpty 0)) f.3 tt ((f.1, f.2, (l, g)), tt, tt))
base_ends file (baseLength d a) e f l g = length_ends file d a e f l g
base_ends file (baseInitial d at) e f l g = declared_ends file d (iValue at e) f.0 (may_value (ht.site_of_place d.around.place) _ _ at e f.2 f.1) (l, g)
base_ends file (basePart d at a es c) e f l g =
    ends_on file _ _ (λ r. closing br.Curly 0 ∷ r) (λ r. refl)
    (declared_ends file d (iList at a (parts_and es.value c e) None 0) f.0 (may_list (ht.site_of_place d.around.place) _ _ at a (parts_and es.value c e) None 0 f.2 f.1) (refl, (f.4, l, f.3, g)))

-- an operator with its last operand
abbrev bound : Bind → Ex → Ex
bound (bBinary a o at) e = eBinary a.value o at e
bound (bPrefix o at) e = ePrefix o at e
bound (bCast a ws c) e = eCast a ws.value c e
bound (bAssign a o at) e = eAssign a.value o at e
bound (bElse c x a y) e = eCond c.value x a.value y e
bound (bComma es at) e = eComma (parts_and es.value (Some at) e)

bound_spells : (x : Bind) (e : Ex) (r : List SymbolAt) → spell (bound x e) r ≡ b.bind x (spell e r)
bound_spells (bBinary a o at) e r = refl
bound_spells (bPrefix o at) e r = refl
bound_spells (bCast a ws c) e r = refl
bound_spells (bAssign a o at) e r = refl
bound_spells (bElse c x a y) e r = refl
bound_spells (bComma es at) e r = refl

bound_shaped : (ns : List (List ℕ)) (l : ℕ) (x : Bind) (e : Ex) → l ≤ 14 → FitBind ns l x → ht.least_bind x ≤ level_of e → sh.Shaped ns e → (l ≤ level_of (bound x e)) × sh.Shaped ns (bound x e)
bound_shaped ns l (bBinary a o at) e z f m g = (f.0, (f.1, m, f.2, g))
bound_shaped ns l (bPrefix o at) e z f m g = (z, (m, g))
bound_shaped ns l (bCast a ws c) e z f m g = (f.0, (m, f.1, f.2, g))
bound_shaped ns l (bAssign a o at) e z f m g = (f.0, (f.1, m, f.2, g))
bound_shaped ns l (bElse c x a y) e z f m g = (f.0, (f.1, m, f.2, f.3, g))
bound_shaped ns l (bComma es at) e z f m g = (f.0, (several es.value (Some at) e f.1, (comma_some _ at f.1, m, f.2, g)))

-- an enumeration that is whole
enum_told : (s : Site) (ws : Words) (h : EnumHead) (es : Ens) (c : Option ℕ) (k n : Known) → known s ws ≡ Some k → with_named k ≡ Some n → known s (words_and ws (mk.enumeration h es c 0)) ≡ Some n
enum_told s ws (headBare at a) es c k n e g = ap (option_and_then (with_word s (wEnum at a es c 0))) e ∙ g
enum_told s ws (headTagged at x y a) es c k n e g = ap (option_and_then (with_word s (wTagEnum at x y a es c 0))) e ∙ g

enum_shaped : (ns : List (List ℕ)) (h : EnumHead) (es : Ens) (c : Option ℕ) → FitHead ns h → sh.are_no_enumerators es ≡ false → sh.ShapedEnumerators ns es → sh.ShapedWord ns (mk.enumeration h es c 0)
enum_shaped ns (headBare at a) es c f n g = (n, g)
enum_shaped ns (headTagged at x y a) es c f n g = (f, n, g)

enum_spells : (s : Spoken) (w : Around) (h : EnumHead) (es : Ens) (c : Option ℕ) (r : List SymbolAt) → b.around w (spell_words (words_and s.words (mk.enumeration h es c 0)) r) ≡ b.said s w (b.enum_head h (spell_enumerators es (comma c (closing br.Curly 0 ∷ r))))
enum_spells s w (headBare at a) es c r = refl
enum_spells s w (headTagged at x y a) es c r = refl

mutual
  -- behind an expression
  pub inner_ends : (file : List (List ℕ)) (k : Inner) (e : Ex) → FitInner file k → least k ≤ level_of e → sh.Shaped (inner_names file k) e → Ends file (λ r. b.inner k (spell e r))
  inner_ends file (inBase x) e f l g = base_ends file x e f l g
  inner_ends file (inBind x k) e f l g =
      let m = bound_shaped (inner_names file k) (least k) x e (least_le k) f.0 l g in
      ends_on file _ _ (λ r. r) (λ r. ap (b.inner k) (bound_spells x e r)) (inner_ends file k (bound x e) f.1 m.0 m.1)
  inner_ends file (inOpen (oParen a) k) e f l g =
      ends_on file _ _ (λ r. closing br.Round 0 ∷ r) (λ r. refl) (inner_ends file k (eParen a e 0) f.1 (omega (arith, least_le k)) g)
  inner_ends file (inOpen (oIndex v x) k) e f l g =
      ends_on file _ _ (λ r. closing br.Square 0 ∷ r) (λ r. refl) (inner_ends file k (eIndex v.value x e 0) f.1 (omega (arith, least_le k)) (f.0.0, f.0.1, g))
  inner_ends file (inOpen (oArgument v a es c) k) e f l g =
      ends_on file _ _ (λ r. closing br.Round 0 ∷ r) (λ r. refl) (inner_ends file k (eCall v.value a (parts_and es.value c e) 0) f.1 (omega (arith, least_le k)) (f.0.0, f.0.1, (f.0.3, l, f.0.2, g)))
  inner_ends file (inOpen (oThen c x) k) e f l g =
      ends_on file _ _ (λ r. sign sy.Colon 0 ∷ spell one r) (λ r. refl) (inner_ends file k (eCond c.value x e 0 one) f.1 f.0.0 (f.0.1, omega arith, f.0.2, g, tt))
  inner_ends file (inConstant w s h es c n at a) e f l g =
      let x = valued_and es.value c n at a e in
      let z = f.1 in
      ends_on file _ _ (λ r. closing br.Curly 0 ∷ r) (λ r. enum_spells s w h x None r)
      (words_end file w (words_and s.words (mk.enumeration h x None 0)) s.told f.0 (enum_told (site_of w) s.words h x None z.before s.told z.told z.named) (z.shaped, enum_shaped (around_names file w) h x None f.2 refl (f.4, f.5, l, f.3, g)) (named_is_typed z.before s.told z.named))

  -- behind words
  pub words_end : (file : List (List ℕ)) (w : Around) (ws : Words) (k : Known) → FitAround file w → known (site_of w) ws ≡ Some k → sh.ShapedWords (around_names file w) ws → is_typed k.typing ≡ true → Ends file (λ r. b.around w (spell_words ws r))
  words_end file (aroundCast a i) ws k f e g t =
      ends_on file _ _ (λ r. closing br.Round 0 ∷ spell one r) (λ r. refl) (inner_ends file i (eCast a ws 0 one) f.1 f.0 (omega arith, record { told = k; together = e; typed = t }, g, tt))
  words_end file (aroundSizeof at a i) ws k f e g t =
      ends_on file _ _ (λ r. closing br.Round 0 ∷ r) (λ r. refl) (inner_ends file i (eSizeof at a ws 0) f (least_le i) (record { told = k; together = e; typed = t }, g))
  words_end file (aroundParameter d a ps c) ws k f e g t =
      ends_on file _ _ (λ r. closing br.Round 0 ∷ r) (λ r. refl) (function_ends file d (pSome a (params_and ps.value c ws None) 0) f.0 (refl, (f.2, record { told = k; together = e; typed = t }, g, tt, f.1)))
  words_end file (aroundPlace p) ws k f e g t = words_place_ends file p (mk.spoken ws k 0) f (record { told = e; shaped = g }) t

-- behind the constants of an enumeration
pub enum_ends : (file : List (List ℕ)) (w : Around) (s : Spoken) (h : EnumHead) (es : Ens) → FitAround file w → FitNamed (site_of w) (around_names file w) s → FitHead (around_names file w) h → sh.are_no_enumerators es ≡ false → sh.ShapedEnumerators (around_names file w) es → Ends file (λ r. b.said s w (b.enum_head h (spell_enumerators es (closing br.Curly 0 ∷ r))))
enum_ends file w s h es f z y n g =
    ends_on file _ _ (λ r. r) (enum_spells s w h es None)
    (words_end file w (words_and s.words (mk.enumeration h es None 0)) s.told f (enum_told (site_of w) s.words h es None z.before s.told z.told z.named) (z.shaped, enum_shaped (around_names file w) h es None y n g) (named_is_typed z.before s.told z.named))

-- behind words, with a type or without one
said_at : (file : List (List ℕ)) (s : Spoken) (w : Around) (c : Bool) → is_typed s.told.typing ≡ c → FitWords file s w → Ends file (b.said s w)
said_at file s w true e f = words_end file w s.words s.told f.1 f.0.told f.0.shaped e
said_at file s w false e f =
    let z = with_int (site_of w) s.words s.told f.0.told e in
    ends_on file _ _ (λ r. sign (sy.Type type.Int) 0 ∷ r) (λ r. refl) (words_end file w (words_and s.words (wType type.Int 0)) z.told f.1 z.together (f.0.shaped, tt) z.typed)

pub said_ends : (file : List (List ℕ)) (s : Spoken) (w : Around) → FitWords file s w → Ends file (b.said s w)
said_ends file s w f = said_at file s w (is_typed s.told.typing) refl f

-- where an operand is to come
pub operand_ends : (file : List (List ℕ)) (k : Inner) → FitInner file k → Ends file (b.inner k)
operand_ends file k f = ends_on file _ _ (λ r. spell one r) (λ r. refl) (inner_ends file k one f (omega (arith, least_le k)) tt)
