-- How the machine ends behind an expression, or behind words.
use Rattle.std.proofs.Common.{◌≡◌, ℕ, ◌≤◌, max, List, None, Some, Bool, true, false, not, if◌then◌else◌, leb, refl, subst, sym, ap, ◌∙◌, arith, le-leb}
use Rattle.std.specs.Option.{option_map, option_and_then}
use Rattle.c_tree.specs.declared.symbol.Bracket.TheVariants as br
use Rattle.c_tree.specs.declared.symbol.TypeWord.TheVariants as type
use Rattle.c_tree.specs.declared.symbol.Symbol.{Symbol}
use Rattle.c_tree.specs.declared.symbol.Symbol.TheVariants as sy
use Rattle.c_tree.specs.declared.symbol.SymbolAt.{SymbolAt}
use Rattle.c_tree.specs.declared.known.Site.{Site}
use Rattle.c_tree.specs.declared.known.Typing.{Typing}
use Rattle.c_tree.specs.declared.known.Typing.TheVariants as ty
use Rattle.c_tree.specs.declared.known.Known.{Known}
use Rattle.c_tree.specs.Symbols.{sign}
use Rattle.c_tree.specs.Height.{height_attributes}
use Rattle.c_tree.specs.Words as wd
use Rattle.c_tree.specs.Words.{known, with_word, with_named, is_typed, is_typedef, is_void, may_be_void}
use Rattle.c_tree.specs.Tree.{eParen, eCall, eIndex, eSizeof, words_and, wType, fPlain, fArray, pSome, Form, fFunction, iValue, head, forExpr, for_head, sExpr, sReturn, sDo, Items}
use Rattle.parse_machine.specs.Tokens.{sufColon, sufSemicolon, sufClose, spTypedef, spOther}
use Rattle.parse_machine.specs.Contexts.{Part, Spoken, Bind, bBinary, bPrefix, bCast, bAssign, bElse, bComma, oParen, oIndex, oArgument, oThen, wFor, wCase, outWrap, Place, Declared, Base, baseStatement, baseTest, baseDo, baseReturn, baseCase, baseStart, baseMore, baseStep, baseLength, baseInitial, basePart, Inner, inBase, inBind, inOpen, inConstant, Around, aroundCast, aroundSizeof, aroundParameter, aroundPlace, waitDone, Specifiers, Behind, Begin, Wait, Operand, Maybe, Value, Whole}
use Rattle.parse_machine.specs.Making as mk
use Rattle.parse_machine.specs.Making.{above, tall, part}
use Rattle.parse_machine.specs.Heights as ht
use Rattle.parse_machine.specs.Heights.{place_depth, least, high, around_high, low}
use Rattle.parse_machine.specs.Expressions as ex
use Rattle.parse_machine.specs.Specifiers as sp
use Rattle.parse_machine.specs.Specifiers.{site_of}
use Rattle.parse_machine.specs.Declarations as decl
use Rattle.parse_machine.specs.Declarations.{Turn, turn, kept}
use Rattle.parse_machine.specs.Machine as ma
use Rattle.parse_machine.specs.Steps as steps
use Rattle.parse_laws.proofs.Fits.{inner_names, IsArray, FitBase, FitBind, FitInner, FitAround}
use Rattle.parse_laws.proofs.Good.{both_right}
use Rattle.parse_laws.proofs.Parts.{least_le}
use Rattle.first_token_laws.proofs.Fillers.{one, free_name, free_name_is_free, with_int, named_is_typed, void_stands}
use Rattle.low_beginning_laws.proofs.Room.{RoomDeclaring, RoomBase, RoomInner, RoomAround}
use Rattle.low_beginning_laws.proofs.Above.{above_some, above_grows}
use Rattle.low_beginning_laws.proofs.RoomEx.{bound_high}
use Rattle.low_beginning_laws.proofs.Close.{Closes, on}
use Rattle.low_beginning_laws.proofs.CloseSt.{round_close, curly_close, semicolon, operand_on, done_closes, whole_closes, begin_closes, step_closes, more_closes}
use Rattle.low_beginning_laws.proofs.CloseDecl.{ends_value, ValueLeads, by_value, when_holds, declaring_low, declaring_closes, attributes_low, initial_low, formed_closes, formed_low, void_closes, void_file, list_leads, behind_closes}

-- Outside of all expressions.

plain_no_function : (f : Form) → decl.is_plain f ≡ true → ht.is_function f ≡ false
plain_no_function fPlain h = refl
plain_no_function (fArray a e c) h = refl
plain_no_function (fFunction ps) h = cc

pub array_no_function : (f : Form) → IsArray f → ht.is_function f ≡ false
array_no_function fPlain h = absurd h
array_no_function (fArray a e c) h = refl
array_no_function (fFunction ps) h = absurd h

-- the length of an array
length_leads : (file : List (List ℕ)) (is : Items) (names : List (List ℕ)) (d : Declared) (a : ℕ) (e : Part) → FitBase file (baseLength d a) → RoomDeclaring d.around → 2 ≤ e.level → 1 ≤ e.height → ht.declarator_high d.around (max e.height 1) ≤ 200 → ValueLeads is names e (inBase (baseLength d a))
length_leads file is names d a e f r g o l =
    let x = fArray a (Some e.value) 0 in
    let z = mk.with_form d (tall x e.height) in
    let n = height_attributes d.attributes in
    let q : ht.declared_high z n ≤ 200 = omega (arith, l, above_grows (max (max e.height 0) n) (max e.height 1) (omega (arith, attributes_low d.attributes))) in
    record {
      token = sign (sy.Close br.Square) 0;
      ends = refl;
      turned = turn (Behind z) names;
      goes = ap (kept names) (when_holds (leb 2 e.level) (Behind z) (le-leb _ _ g));
      within = q;
      closes = behind_closes file is names z x refl f.0.around f.2 (λ h. both_right (decl.is_plain d.form.value) (decl.are_no_attributes d.attributes) f.1) r q;
    }

-- an initial value
value_leads : (is : Items) (names : List (List ℕ)) (d : Declared) (x : ℕ) (e : Part) → decl.is_plain d.form.value ≡ true → RoomDeclaring d.around → 1 ≤ e.level → 1 ≤ e.height → ht.declared_high d e.height ≤ 200 → ValueLeads is names e (inBase (baseInitial d x))
value_leads is names d x e f r g o l =
    let z = mk.with_initial d (iValue x e.value) e.height in
    let q : RoomDeclaring z = (r.0, omega (arith, r.1, initial_low d e.height (plain_no_function d.form.value f) l (omega (arith, o, attributes_low d.attributes)))) in
    record { token = semicolon; ends = refl; turned = turn (ex.ended z 0) names; goes = ap (kept names) (when_holds (leb 1 e.level) (ex.ended z 0) (le-leb _ _ g)); within = declaring_low z q; closes = declaring_closes is names z q }

base_leads : (file : List (List ℕ)) (is : Items) (names : List (List ℕ)) (x : Base) (e : Part) → ht.least_base x ≤ e.level → 1 ≤ e.height → ht.base_high x e.height ≤ 200 → FitBase file x → RoomBase x → ValueLeads is names e (inBase x)
base_leads file is names (baseStatement o) e g p l f r =
    record { token = semicolon; ends = refl; turned = turn (Whole (sExpr e.value 0) o) names; goes = refl; within = omega (arith, l); closes = whole_closes is names (sExpr e.value 0) o (omega (arith, l)) }
base_leads file is names (baseTest t at a o) e g p l f r =
    let w = outWrap (mk.tested t (head at a e.value 0)) o in
    record { token = round_close; ends = refl; turned = turn (Begin w) names; goes = refl; within = omega (arith, l, p); closes = begin_closes is names w (omega (arith, l, p)) }
base_leads file is names (baseDo at s x a o) e g p l f r =
    let h = head x a e.value 0 in
    record { token = round_close; ends = refl; turned = turn (Wait (waitDone at s h o)) names; goes = refl; within = omega (arith, l); closes = done_closes is names at s h o (omega (arith, l)) (whole_closes is names (sDo at s h 0) o (omega (arith, l))) }
base_leads file is names (baseReturn at o) e g p l f r =
    let s = sReturn at (Some e.value) 0 in
    record { token = semicolon; ends = refl; turned = turn (Whole s o) names; goes = refl; within = omega (arith, l); closes = whole_closes is names s o (omega (arith, l)) }
base_leads file is names (baseCase at o) e g p l f r =
    let w = outWrap (wCase at e.value 0) o in
    record { token = sign sy.Colon 0; ends = refl; turned = turn (Begin w) names; goes = ap (kept names) (when_holds (leb 2 e.level) (Begin w) (le-leb _ _ g)); within = omega (arith, l, p); closes = begin_closes is names w (omega (arith, l, p)) }
base_leads file is names (baseStart m at a o) e g p l f r =
    let s = forExpr (Some e.value) 0 in
    record { token = semicolon; ends = refl; turned = turn (Maybe (inBase (baseMore m at a s o))) names; goes = refl; within = omega (arith, l, p); closes = more_closes is names m at a s o (omega (arith, l, p)) }
base_leads file is names (baseMore m at a s o) e g p l f r =
    record { token = semicolon; ends = refl; turned = turn (Maybe (inBase (baseStep m at a s (Some e.value) 0 o))) names; goes = refl; within = omega (arith, l, p); closes = step_closes is names m at a s (Some e.value) 0 o (omega (arith, l, p)) }
base_leads file is names (baseStep m at a s y x o) e g p l f r =
    let w = outWrap (wFor m (for_head at a s y x (Some e.value) 0)) o in
    record { token = round_close; ends = refl; turned = turn (Begin w) names; goes = refl; within = omega (arith, l, p); closes = begin_closes is names w (omega (arith, l, p)) }
base_leads file is names (baseLength d a) e g p l f r = length_leads file is names d a e f r g p l
base_leads file is names (baseInitial d at) e g p l f r = value_leads is names d at e f.1 r g p l
base_leads file is names (basePart d at a es c) e g p l f r = list_leads is names d at a es c e (array_no_function d.form.value f.1) r.0 r.1 g l

-- An operator is whole with its last operand.

fold_bind : (x : Bind) (k : Inner) (e : Part) → ex.fold (inBind x k) 0 e ≡ ex.fold k 0 (mk.bound x e)
fold_bind x k e = ap (λ c. if c then ex.fold k 0 (mk.bound x e) else ex.held e (inBind x k)) (le-leb 0 (mk.bind_level x) (omega arith))

bind_same : (names : List (List ℕ)) (t : Symbol) (at : ℕ) (e : Part) (x : Bind) (k : Inner) → ends_value t ≡ true → steps.next names (sign t at) (Value e (inBind x k)) ≡ steps.next names (sign t at) (Value (mk.bound x e) k)
bind_same names sy.Semicolon at e x k h = ap (λ z. kept names (ex.step_held sufSemicolon at z)) (fold_bind x k e)
bind_same names sy.Colon at e x k h = ap (λ z. kept names (ex.step_held sufColon at z)) (fold_bind x k e)
bind_same names (sy.Close c) at e x k h = ap (λ z. kept names (ex.step_held (sufClose c) at z)) (fold_bind x k e)
bind_same names _ at e x k h = cc

bind_leads : (is : Items) (names : List (List ℕ)) (e : Part) (x : Bind) (k : Inner) → ValueLeads is names (mk.bound x e) k → ValueLeads is names e (inBind x k)
bind_leads is names e x k w = record { token = w.token; ends = w.ends; turned = w.turned; goes = bind_same names w.token.symbol w.token.at e x k w.ends ∙ w.goes; within = w.within; closes = w.closes }

bound_level : (ns : List (List ℕ)) (l : ℕ) (x : Bind) (e : Part) → l ≤ 14 → FitBind ns l x → l ≤ (mk.bound x e).level
bound_level ns l (bBinary a o at) e z f = f.0
bound_level ns l (bPrefix o at) e z f = z
bound_level ns l (bCast a ws c) e z f = f.0
bound_level ns l (bAssign a o at) e z f = f.0
bound_level ns l (bElse c x a y) e z f = f.0
bound_level ns l (bComma es at) e z f = f.0

bound_some : (x : Bind) (e : Part) → 1 ≤ (mk.bound x e).height
bound_some (bBinary a o at) e = above_some (max a.height e.height)
bound_some (bPrefix o at) e = above_some e.height
bound_some (bCast a ws c) e = above_some (max (above ws.height) e.height)
bound_some (bAssign a o at) e = above_some (max a.height e.height)
bound_some (bElse c x a y) e = above_some (max (max c.height a.height) e.height)
bound_some (bComma es at) e = above_some (max es.height e.height)

-- Words.

abbrev pub VoidFits : Site → Known → Type 0
VoidFits s k = is_void k.typing ≡ true → (may_be_void s ≡ true) × (is_typedef k.storage ≡ false)

abbrev pub opens_list : Symbol → Bool
opens_list (sy.Open br.Curly) = true
opens_list _ = false

pub record WordsLeads (is : Items) (names : List (List ℕ)) (s : Spoken) (w : Around) : Type 0 where
  pub token : SymbolAt
  pub no_list : opens_list token.symbol ≡ false
  pub unopened : ma.opens token.symbol token.at (Specifiers s w) ≡ None
  pub turned : Turn
  pub goes : kept names (sp.step_specs names token.symbol token.at s w) ≡ Some turned
  pub within : low turned.mode ≤ 200
  pub closes : Closes is turned.names turned.mode

pub by_words : (is : Items) (names : List (List ℕ)) (s : Spoken) (w : Around) → WordsLeads is names s w → Closes is names (Specifiers s w)
by_words is names s w z = on is names z.turned.names (Specifiers s w) z.turned.mode z.token refl z.unopened z.goes z.within z.closes

-- an enumeration that is whole is no `void`
named_no_void : (k n : Known) (y : Typing) → option_map (wd.known_type k) (wd.alone ty.Named y) ≡ Some n → is_void n.typing ≡ false
named_no_void k n ty.Untyped h = ap (λ z. is_void z.typing) (sym (some_known (wd.known_type k ty.Named) n h))
  where
    some_known : (a c : Known) → Some a ≡ Some c → a ≡ c
    some_known a c h = cc
named_no_void k n _ h = cc

pub named_fits : (s : Site) (k n : Known) → with_named k ≡ Some n → VoidFits s n
named_fits s k n h v = let q : true ≡ false = sym v ∙ named_no_void k n k.typing h in cc

-- words that are whole, where a declaration stands
place_leads : (is : Items) (names : List (List ℕ)) (p : Place) (s : Spoken) (c : Bool) → is_void s.told.typing ≡ c → is_typed s.told.typing ≡ true → VoidFits (site_of (aroundPlace p)) s.told → around_high (aroundPlace p) s.height ≤ 200 → WordsLeads is names s (aroundPlace p)
place_leads is names p s true v t f l =
    let n = free_name names in
    let w = aroundPlace p in
    let d = mk.declared_plain (mk.declaring p s mk.no_more) None n 0 in
    let z = f v in
    record {
      token = sign (sy.Name n) 0;
      no_list = refl;
      unopened = refl;
      turned = turn (Behind d) names;
      goes = ap (λ c. kept names (sp.step_kind (if c then spTypedef n else spOther) (sy.Name n) 0 s w)) (free_name_is_free names) ∙ ap (λ c. kept names (if c then sp.behind_words (sy.Name n) 0 s w else None)) t;
      within = omega (arith, l, above_some s.height);
      closes = void_closes is names d refl (void_file p z.0) z.1 (l, omega (arith, l));
    }
place_leads is names p s false v t f l =
    let d = mk.declaring p s mk.no_more in
    let w = aroundPlace p in
    let r : RoomDeclaring d = (l, omega (arith, l)) in
    record {
      token = semicolon;
      no_list = refl;
      unopened = refl;
      turned = turn (ex.ended d 0) names;
      goes = ap (λ c. kept names (if c then sp.behind_words sy.Semicolon 0 s w else None)) t ∙ ap (λ c. kept names (ex.when (not c) (ex.ended d 0))) v;
      within = declaring_low d r;
      closes = declaring_closes is names d r;
    }

-- one is the least
most : (h : ℕ) → 1 ≤ h → h ≡ max h 1
most h p = omega (arith, p)

mutual
  -- behind an expression
  pub inner_leads : (file : List (List ℕ)) (is : Items) (names : List (List ℕ)) (k : Inner) (e : Part) → least k ≤ e.level → 1 ≤ e.height → high k e.height ≤ 200 → FitInner file k → RoomInner k → ValueLeads is names e k
  inner_leads file is names (inBase x) e g p l f r = base_leads file is names x e g p l f r
  inner_leads file is names (inBind x k) e g p l f r =
      bind_leads is names e x k
      (inner_leads file is names k (mk.bound x e) (bound_level (inner_names file k) (least k) x e (least_le k) f.0) (bound_some x e) (subst (λ h. high k h ≤ 200) (sym (bound_high x e)) l) f.1 r)
  inner_leads file is names (inOpen (oParen a) k) e g p l f r =
      let v = part 15 (above e.height) (eParen a e.value 0) in
      record { token = round_close; ends = refl; turned = turn (Value v k) names; goes = refl; within = l; closes = by_value is names v k (inner_leads file is names k v (omega (arith, least_le k)) (above_some e.height) l f.1 r) }
  inner_leads file is names (inOpen (oIndex i x) k) e g p l f r =
      let v = part 15 (above (max i.height e.height)) (eIndex i.value x e.value 0) in
      record { token = sign (sy.Close br.Square) 0; ends = refl; turned = turn (Value v k) names; goes = refl; within = l; closes = by_value is names v k (inner_leads file is names k v (omega (arith, least_le k)) (above_some (max i.height e.height)) l f.1 r) }
  inner_leads file is names (inOpen (oArgument i a es c) k) e g p l f r =
      let m = mk.one_more es c e in
      let v = part 15 (above (max i.height m.height)) (eCall i.value a m.value 0) in
      let same : max (max i.height es.height) e.height ≡ max i.height (max es.height e.height) = omega arith in
      let q : high k v.height ≤ 200 = subst (λ h. high k (above h) ≤ 200) same l in
      record {
        token = round_close;
        ends = refl;
        turned = turn (Value v k) names;
        goes = ap (kept names) (when_holds (leb 1 e.level) (Value v k) (le-leb _ _ g));
        within = q;
        closes = by_value is names v k (inner_leads file is names k v (omega (arith, least_le k)) (above_some (max i.height m.height)) q f.1 r);
      }
  inner_leads file is names (inOpen (oThen c x) k) e g p l f r =
      let b = bElse c x e 0 in
      let v = part 15 1 one in
      let same : max c.height e.height ≡ max (max c.height e.height) 1 = omega (arith, p) in
      let q : high k (mk.bound b v).height ≤ 200 = subst (λ h. high k (above h) ≤ 200) same l in
      record {
        token = sign sy.Colon 0;
        ends = refl;
        turned = turn (Operand (inBind b k)) names;
        goes = refl;
        within = q;
        closes = operand_on is names (inBind b k) q (by_value is names v (inBind b k) (bind_leads is names v b k (inner_leads file is names k (mk.bound b v) f.0.0 (bound_some b v) q f.1 r)));
      }
  inner_leads file is names (inConstant w s h es c n x a) e g p l f r =
      let m = mk.valued_more (mk.listing w s h es c) n x a e in
      let z = mk.said s s.told (mk.enumeration h m.value None 0) (above m.height) in
      let y = f.1 in
      record {
        token = curly_close;
        ends = refl;
        turned = turn (Specifiers z w) names;
        goes = ap (kept names) (when_holds (leb 2 e.level) (Specifiers z w) (le-leb _ _ g));
        within = l;
        closes = by_words is names z w (words_leads file is names w z (named_is_typed y.before s.told y.named) (named_fits (site_of w) y.before s.told y.named) l f.0 r);
      }

  -- behind words that are whole
  pub words_leads : (file : List (List ℕ)) (is : Items) (names : List (List ℕ)) (w : Around) (s : Spoken) → is_typed s.told.typing ≡ true → VoidFits (site_of w) s.told → around_high w s.height ≤ 200 → FitAround file w → RoomAround w → WordsLeads is names s w
  words_leads file is names (aroundCast a k) s t v l f r =
      let b = bCast a (mk.tall_words s) 0 in
      let x = part 15 1 one in
      let same : above (above s.height) ≡ above (max (above s.height) 1) = ap above (most (above s.height) (above_some s.height)) in
      let q : high k (mk.bound b x).height ≤ 200 = subst (λ h. high k h ≤ 200) same l in
      record {
        token = round_close;
        no_list = refl;
        unopened = refl;
        turned = turn (Operand (inBind b k)) names;
        goes = ap (λ c. kept names (if c then sp.behind_words (sy.Close br.Round) 0 s (aroundCast a k) else None)) t;
        within = q;
        closes = operand_on is names (inBind b k) q (by_value is names x (inBind b k) (bind_leads is names x b k (inner_leads file is names k (mk.bound b x) f.0 (bound_some b x) q f.1 r)));
      }
  words_leads file is names (aroundSizeof at a k) s t v l f r =
      let x = part 14 (above (above s.height)) (eSizeof at a s.words 0) in
      record {
        token = round_close;
        no_list = refl;
        unopened = refl;
        turned = turn (Value x k) names;
        goes = ap (λ c. kept names (if c then sp.behind_words (sy.Close br.Round) 0 s (aroundSizeof at a k) else None)) t;
        within = l;
        closes = by_value is names x k (inner_leads file is names k x (least_le k) (above_some (above s.height)) l f r);
      }
  words_leads file is names (aroundParameter d a ps c) s t v l f r =
      let m = mk.param_more ps c s None in
      let y = pSome a m.value 0 in
      let h = above m.height in
      record {
        token = round_close;
        no_list = refl;
        unopened = refl;
        turned = turn (Behind (mk.with_form d (tall (fFunction y) h))) names;
        goes = ap (λ z. kept names (if z then sp.behind_words (sy.Close br.Round) 0 s (aroundParameter d a ps c) else None)) t;
        within = formed_low d y h (above_some m.height) l;
        closes = formed_closes is names d y h f.0.place f.0.storage r (above_some m.height) l;
      }
  words_leads file is names (aroundPlace p) s t v l f r = place_leads is names p s (is_void s.told.typing) refl t v l

-- behind words, with a type or without one
said_at : (file : List (List ℕ)) (is : Items) (names : List (List ℕ)) (w : Around) (s : Spoken) (c : Bool) → is_typed s.told.typing ≡ c → known (site_of w) s.words ≡ Some s.told → around_high w s.height ≤ 200 → FitAround file w → RoomAround w → Closes is names (Specifiers s w)
said_at file is names w s true e k l f r = by_words is names s w (words_leads file is names w s e (void_stands (site_of w) s.words s.told k) l f r)
said_at file is names w s false e k l f r =
    let z = with_int (site_of w) s.words s.told k e in
    let x = mk.said s z.told (wType type.Int 0) 0 in
    let told : wd.with_type (site_of w) type.Int s.told ≡ Some z.told = sym (ap (option_and_then (with_word (site_of w) (wType type.Int 0))) k) ∙ z.together in
    let same : s.height ≡ max s.height 0 = omega arith in
    let q : around_high w x.height ≤ 200 = subst (λ h. around_high w h ≤ 200) same l in
    on is names names (Specifiers s w) (Specifiers x w) (sign (sy.Type type.Int) 0) refl refl (ap (λ o. kept names (sp.with_word_said s w (wType type.Int 0) o)) told) q
    (by_words is names x w (words_leads file is names w x z.typed (void_stands (site_of w) (words_and s.words (wType type.Int 0)) z.told z.together) q f r))

pub said_closes : (file : List (List ℕ)) (is : Items) (names : List (List ℕ)) (w : Around) (s : Spoken) → known (site_of w) s.words ≡ Some s.told → around_high w s.height ≤ 200 → FitAround file w → RoomAround w → Closes is names (Specifiers s w)
said_closes file is names w s k l f r = said_at file is names w s (is_typed s.told.typing) refl k l f r

-- where an operand is to come
pub operand_closes : (file : List (List ℕ)) (is : Items) (names : List (List ℕ)) (k : Inner) → high k 1 ≤ 200 → FitInner file k → RoomInner k → Closes is names (Operand k)
operand_closes file is names k l f r = operand_on is names k l (by_value is names (part 15 1 one) k (inner_leads file is names k (part 15 1 one) (omega (arith, least_le k)) (omega arith) l f r))
