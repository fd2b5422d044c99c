-- The machine that keeps each tree goes through each shaped expression of any height, and through the words of casts and of `sizeof`.
use Rattle.first_token_laws.proofs.Full as full
use Rattle.std.proofs.Common.{◌≡◌, ℕ, ◌≤◌, List, [], ◌∷◌, ◌++◌, Option, None, Some, true, false, not, if◌then◌else◌, leb, refl, subst, sym, ap, ◌∙◌, arith, le-leb}
use Rattle.c_tree.specs.declared.symbol.AssignOp.TheVariants as to
use Rattle.c_tree.specs.declared.symbol.Bracket.TheVariants as br
use Rattle.c_tree.specs.declared.symbol.Symbol.TheVariants as sy
use Rattle.c_tree.specs.declared.symbol.SymbolAt.{SymbolAt}
use Rattle.c_tree.specs.declared.known.Site.{Site}
use Rattle.c_tree.specs.declared.known.Known.{Known}
use Rattle.c_tree.specs.Symbols.{sign}
use Rattle.c_tree.specs.Spelling.{level_of, opening, closing, comma, spell, spell_parts, spell_raw, spell_words, spell_word, spell_enumerators}
use Rattle.c_tree.specs.Shape as sh
use Rattle.c_tree.specs.Words.{known, with_word, is_typed, nothing_known}
use Rattle.c_tree.specs.Tree.{attribute, Ex, eName, eNumber, eLetter, eParen, eCall, eIndex, ePostfix, ePrefix, eSizeof, eCast, eBinary, eCond, eAssign, eComma, Parts, no_parts, parts_and, Words, no_words, words_and, Word, wType, wStorage, wConst, wExtension, wAttribute, wTypedef, wTag, wEnum, wTagEnum, Ens, no_enumerators, plain_and, valued_and}
use Rattle.parse_machine.specs.Tokens as tok
use Rattle.parse_machine.specs.Tokens.{spTypedef, spOther}
use Rattle.parse_machine.specs.Contexts.{Spoken, bBinary, bPrefix, bCast, bAssign, bElse, bComma, oParen, oIndex, oThen, EnumHead, headBare, headTagged, Inner, inBind, inOpen, inConstant, Around, aroundCast, aroundSizeof, onWords, Fork, forkCast, forkSizeof, Mode, Specifiers, Enumeration, Tagged, Constant, Named, Either, Operand, Maybe, Sizeof, Value}
use Rattle.parse_machine.specs.Making as mk
use Rattle.parse_machine.specs.Making.{above, tall}
use Rattle.parse_machine.specs.Heights.{least}
use Rattle.parse_machine.specs.Expressions as ex
use Rattle.parse_machine.specs.Declarations.{kept}
use Rattle.parse_machine.specs.Statements as stt
use Rattle.parse_machine.specs.Specifiers as sp
use Rattle.std.specs.Option.{option_map, option_and_then}
use Rattle.parse_laws.proofs.Parts.{level_le, least_le, comma_some}
use Rattle.parse_laws.proofs.Walk.{if_true, when_true, and_true, pull_near, pull_one, stays_of}
use Rattle.parse_laws.proofs.ReadEx.{NoOpen, some_same, known_before, sequence_is, stays_low}
use Rattle.parse_laws.proofs.WholeEx.{exts, several_not, some_not, word_no_open}
use Rattle.high_tree_laws.proofs.Kept.{counted_word, counted_words, counted_constants}
use Rattle.first_token_laws.proofs.FullLeads.{whole, whole_parts, whole_constants}
use Rattle.first_token_laws.proofs.FullLeads.{Leads, stand, ◌then◌, stays, go, same}
use Rattle.first_token_laws.proofs.FullOpened.{opened, opened_parts, valued, folded}
use Rattle.first_token_laws.proofs.FullFirst.{first_maybe}
use Rattle.first_token_laws.proofs.FullReadEx.{worded, argument, tagged_reads, attribute_reads, list_at, behind_constant, paren_opens, prefix_opens, operator}

-- behind a postfix expression nothing is open
pub opened_postfix : (e : Ex) (k : Inner) → 15 ≤ level_of e → opened e k ≡ ex.held (whole e) k
opened_postfix (eName n at) k h = refl
opened_postfix (eNumber v f at) k h = refl
opened_postfix (eLetter v at) k h = refl
opened_postfix (eParen a e c) k h = refl
opened_postfix (eCall f a es c) k h = refl
opened_postfix (eIndex a x i y) k h = refl
opened_postfix (ePostfix e c at) k h = refl
opened_postfix (ePrefix o at e) k h = absurd (omega arith)
opened_postfix (eSizeof at a ws c) k h = absurd (omega arith)
opened_postfix (eCast a ws c e) k h = absurd (omega arith)
opened_postfix (eBinary a o at c) k h = absurd (omega (arith, level_le o))
opened_postfix (eCond c x a y d) k h = absurd (omega arith)
opened_postfix (eAssign a o at c) k h = absurd (omega arith)
opened_postfix (eComma es) k h = absurd (omega arith)

-- Words where an expression might stand too.

abbrev pub fork_mode : Option (List ℕ) → Words → Known → Fork → Mode
fork_mode (Some ats) ws k f = Either f ats
fork_mode None ws k f = Specifiers (worded ws k) (stt.fork_around f)

map_none : (f : List ℕ → List ℕ) (o : Option (List ℕ)) → o ≡ None → option_map f o ≡ None
map_none f o e = rw e refl

exts_none : (ws : Words) (x : Word) → exts ws ≡ None → exts (words_and ws x) ≡ None
exts_none ws (wExtension at) e = map_none _ (exts ws) e
exts_none ws _ e = refl

record MapBefore (f : List ℕ → List ℕ) (o : Option (List ℕ)) (c : List ℕ) : Type 0 where
  before : List ℕ
  was : o ≡ Some before
  gives : f before ≡ c

map_before : (f : List ℕ → List ℕ) (o : Option (List ℕ)) (c : List ℕ) → option_map f o ≡ Some c → MapBefore f o c
map_before f None c h = cc
map_before f (Some z) c h = record { before = z; was = refl; gives = some_same (f z) c h }

words_snoc : (ats : List ℕ) (at : ℕ) (s : Spoken) → mk.extension_words (ats ++ at ∷ []) s ≡ mk.said (mk.extension_words ats s) (mk.extension_words ats s).told (wExtension at) 0
words_snoc [] at s = refl
words_snoc (x ∷ ats) at s = words_snoc ats at (mk.said s s.told (wExtension x) 0)

-- nothing but `__extension__`
ext_worded : (ws : Words) (ats : List ℕ) → exts ws ≡ Some ats → mk.extension_words ats mk.unspoken ≡ worded ws nothing_known
ext_worded no_words ats e = ap (λ z. mk.extension_words z mk.unspoken) (sym (some_same [] ats e))
ext_worded (words_and ws (wExtension at)) ats e =
    let m = map_before (λ l. l ++ at ∷ []) (exts ws) ats e in
    ap (λ z. mk.extension_words z mk.unspoken) (sym m.gives) ∙ words_snoc m.before at mk.unspoken ∙ ap (λ z. mk.said z z.told (wExtension at) 0) (ext_worded ws m.before m.was)
ext_worded (words_and ws _) ats e = cc

ext_known : (s : Site) (ws : Words) (ats : List ℕ) → exts ws ≡ Some ats → known s ws ≡ Some nothing_known
ext_known s no_words ats e = refl
ext_known s (words_and ws (wExtension at)) ats e =
    let m = map_before (λ l. l ++ at ∷ []) (exts ws) ats e in ap (option_and_then (with_word s (wExtension at))) (ext_known s ws m.before m.was)
ext_known s (words_and ws _) ats e = cc

typed_none : (ws : Words) (k : Known) (s : Site) (o : Option (List ℕ)) → exts ws ≡ o → known s ws ≡ Some k → is_typed k.typing ≡ true → o ≡ None
typed_none ws k s None q e t = refl
typed_none ws k s (Some ats) q e t =
    let n : nothing_known ≡ k = some_same nothing_known k (sym (ext_known s ws ats q) ∙ e) in
    let r : false ≡ true = ap (λ z. is_typed z.typing) n ∙ t in
    cc

-- behind a type an expression can't stand
pub fork_typed : (ws : Words) (k : Known) (f : Fork) → known (sp.site_of (stt.fork_around f)) ws ≡ Some k → is_typed k.typing ≡ true → fork_mode (exts ws) ws k f ≡ Specifiers (worded ws k) (stt.fork_around f)
fork_typed ws k f e t = ap (λ o. fork_mode o ws k f) (typed_none ws k (sp.site_of (stt.fork_around f)) (exts ws) refl e t)

-- a token that does the same behind nothing but `__extension__` and behind words
fork_same : (t : SymbolAt) (ts : List SymbolAt) (f : Fork) (ats : List ℕ) (ns : List (List ℕ)) → full.step_either ns t.symbol t.at f ats ≡ full.step_specs ns t.symbol t.at (mk.extension_words ats mk.unspoken) (stt.fork_around f) → Leads (t ∷ ts) (stand (Either f ats) ns) (t ∷ ts) (stand (Specifiers (mk.extension_words ats mk.unspoken) (stt.fork_around f)) ns)
fork_same t ts f ats ns e = same t ts (stand (Either f ats) ns) (stand (Specifiers (mk.extension_words ats mk.unspoken) (stt.fork_around f)) ns) (ap (kept ns) e)

-- the first token of a word that is no `__extension__`
fork_first : (x : Word) (f : Fork) (ats : List ℕ) (ns : List (List ℕ)) → exts (words_and no_words x) ≡ None → sh.ShapedWord ns x → (rest : List SymbolAt) → Leads (spell_word x rest) (stand (Either f ats) ns) (spell_word x rest) (stand (Specifiers (mk.extension_words ats mk.unspoken) (stt.fork_around f)) ns)
fork_first (wType x at) f ats ns q g rest = fork_same (sign (sy.Type x) at) rest f ats ns refl
fork_first (wStorage x at) f ats ns q g rest = fork_same (sign (sy.Storage x) at) rest f ats ns refl
fork_first (wConst x at) f ats ns q g rest = fork_same (sign (sy.Const x) at) rest f ats ns refl
fork_first (wExtension at) f ats ns q g rest = cc
fork_first (wTypedef n at) f ats ns q g rest = fork_same (sign (sy.Name n) at) rest f ats ns (ap (λ c. full.fork_kind ns (if c then spTypedef n else spOther) (sy.Name n) at f ats) g)
fork_first (wAttribute (attribute w at a r z)) f ats ns q g rest = fork_same (sign (sy.Attribute w) at) (opening br.Round a ∷ spell_raw r (closing br.Round z ∷ rest)) f ats ns refl
fork_first (wTag at n y) f ats ns q g rest = fork_same (sign sy.Enum at) (sign (sy.Name n) y ∷ rest) f ats ns refl
fork_first (wEnum at a es c y) f ats ns q g rest = fork_same (sign sy.Enum at) (opening br.Curly a ∷ spell_enumerators es (comma c (closing br.Curly y ∷ rest))) f ats ns refl
fork_first (wTagEnum at n x a es c y) f ats ns q g rest = fork_same (sign sy.Enum at) (sign (sy.Name n) x ∷ opening br.Curly a ∷ spell_enumerators es (comma c (closing br.Curly y ∷ rest))) f ats ns refl

abbrev Reading : Word → Around → List (List ℕ) → List SymbolAt → Type 0
Reading x w ns rest = (s : Spoken) (k : Known) → with_word (sp.site_of w) x s.told ≡ Some k → Leads (spell_word x rest) (stand (Specifiers s w) ns) rest (stand (Specifiers (mk.said s k x (counted_word x)) w) ns)

fork_other : (x : Word) (ws : Words) (f : Fork) (ns : List (List ℕ)) (z k : Known) (ats : List ℕ) → exts (words_and no_words x) ≡ None → exts ws ≡ Some ats → known (sp.site_of (stt.fork_around f)) ws ≡ Some z → with_word (sp.site_of (stt.fork_around f)) x z ≡ Some k → sh.ShapedWord ns x → (rest : List SymbolAt) → Reading x (stt.fork_around f) ns rest → Leads (spell_word x rest) (stand (Either f ats) ns) rest (stand (Specifiers (worded (words_and ws x) k) (stt.fork_around f)) ns)
fork_other x ws f ns z k ats q e b0 v g rest read =
    let n : nothing_known ≡ z = some_same nothing_known z (sym (ext_known (sp.site_of (stt.fork_around f)) ws ats e) ∙ b0) in
    (
    fork_first x f ats ns q g rest
    then stays (spell_word x rest) (stand (Specifiers (mk.extension_words ats mk.unspoken) (stt.fork_around f)) ns) (stand (Specifiers (worded ws z) (stt.fork_around f)) ns) (ap (λ y. stand (Specifiers y (stt.fork_around f)) ns) (ext_worded ws ats e ∙ ap (worded ws) n))
    then read (worded ws z) k v)

-- where a word leads to
abbrev ForkWord : Words → Word → Fork → List (List ℕ) → Known → Known → Option (List ℕ) → Option (List ℕ) → List SymbolAt → Type 0
ForkWord ws x f ns z k o p rest = Leads (spell_word x rest) (stand (fork_mode o ws z f) ns) rest (stand (fork_mode p (words_and ws x) k f) ns)

fork_word : (x : Word) (ws : Words) (f : Fork) (ns : List (List ℕ)) (z k : Known) (o : Option (List ℕ)) → exts ws ≡ o → known (sp.site_of (stt.fork_around f)) ws ≡ Some z → with_word (sp.site_of (stt.fork_around f)) x z ≡ Some k → sh.ShapedWord ns x → (rest : List SymbolAt) → Reading x (stt.fork_around f) ns rest → ForkWord ws x f ns z k o (exts (words_and ws x)) rest
fork_word x ws f ns z k None e b0 v g rest read = subst (λ q. ForkWord ws x f ns z k None q rest) (sym (exts_none ws x e)) (read (worded ws z) k v)
fork_word (wExtension at) ws f ns z k (Some ats) e b0 v g rest read =
    subst (λ q. ForkWord ws (wExtension at) f ns z k (Some ats) (option_map (λ l. l ++ at ∷ []) q) rest) (sym e)
    ((go (sign sy.Extension at) rest (Either f ats) (Either f (ats ++ at ∷ [])) ns ns refl))
fork_word (wType x at) ws f ns z k (Some ats) e b0 v g rest read = fork_other (wType x at) ws f ns z k ats refl e b0 v g rest read
fork_word (wStorage x at) ws f ns z k (Some ats) e b0 v g rest read = fork_other (wStorage x at) ws f ns z k ats refl e b0 v g rest read
fork_word (wConst x at) ws f ns z k (Some ats) e b0 v g rest read = fork_other (wConst x at) ws f ns z k ats refl e b0 v g rest read
fork_word (wTypedef x at) ws f ns z k (Some ats) e b0 v g rest read = fork_other (wTypedef x at) ws f ns z k ats refl e b0 v g rest read
fork_word (wAttribute x) ws f ns z k (Some ats) e b0 v g rest read = fork_other (wAttribute x) ws f ns z k ats refl e b0 v g rest read
fork_word (wTag at x y) ws f ns z k (Some ats) e b0 v g rest read = fork_other (wTag at x y) ws f ns z k ats refl e b0 v g rest read
fork_word (wEnum at a es c y) ws f ns z k (Some ats) e b0 v g rest read = fork_other (wEnum at a es c y) ws f ns z k ats refl e b0 v g rest read
fork_word (wTagEnum at x y a es c q) ws f ns z k (Some ats) e b0 v g rest read = fork_other (wTagEnum at x y a es c q) ws f ns z k ats refl e b0 v g rest read

-- Constants of an enumeration.

-- what is known of the last constant
abbrev ConstantLevel : List (List ℕ) → Ens → Type 0
ConstantLevel ns no_enumerators = Unit {0}
ConstantLevel ns (plain_and es c n at) = Unit {0}
ConstantLevel ns (valued_and es c n x a e) = (2 ≤ level_of e) × sh.Shaped ns e

constants_levels : (ns : List (List ℕ)) (es : Ens) → sh.ShapedEnumerators ns es → ConstantLevel ns es
constants_levels ns no_enumerators t = tt
constants_levels ns (plain_and es c n at) t = tt
constants_levels ns (valued_and es c n x a e) t = (t.2, t.4)

constants_comma : (es : Ens) (w : Around) (s : Spoken) (h : EnumHead) (ns : List (List ℕ)) (c : Option ℕ) → sh.IsComma (sh.are_no_enumerators es) c → ConstantLevel ns es → (rest : List SymbolAt) → Leads (comma c rest) (stand (behind_constant w s h es) ns) rest (stand (Constant (list_at w s h es c)) ns)
constants_comma no_enumerators w s h ns None t v rest = stays rest (stand (Constant (list_at w s h no_enumerators None)) ns) (stand (Constant (list_at w s h no_enumerators None)) ns) refl
constants_comma no_enumerators w s h ns (Some at) t v rest = absurd t
constants_comma (plain_and es d n x) w s h ns None t v rest = absurd t
constants_comma (plain_and es d n x) w s h ns (Some at) t v rest = (go (sign sy.Comma at) rest (Named (list_at w s h es d) n x) (Constant (list_at w s h (plain_and es d n x) (Some at))) ns ns refl)
constants_comma (valued_and es d n x a e) w s h ns None t v rest = absurd t
constants_comma (valued_and es d n x a e) w s h ns (Some at) t v rest =
    let k = inConstant w s h (whole_constants es) d n x a in
    let o = Constant (list_at w s h (valued_and es d n x a e) (Some at)) in
    (
    go (sign sy.Comma at) rest (valued (opened e k)) o ns ns
    (ap (λ z. kept ns (full.step_held tok.sufComma at z)) (folded ns e k 1 v.1 (pull_one e (omega (arith, v.0))) (omega arith) tt)
    ∙ ap (kept ns) (when_true (leb 2 (level_of e)) o (le-leb _ _ v.0))))

-- behind an enumeration
abbrev listed : Around → Spoken → EnumHead → Ens → Option ℕ → ℕ → Mode
listed w s h es c y = Specifiers (mk.said s s.told (mk.enumeration h es c y) (above (counted_constants es))) w

constants_close : (es : Ens) (w : Around) (s : Spoken) (h : EnumHead) (ns : List (List ℕ)) (c : Option ℕ) (y : ℕ) → sh.are_no_enumerators es ≡ false → ConstantLevel ns es → (rest : List SymbolAt) → Leads (comma c (closing br.Curly y ∷ rest)) (stand (behind_constant w s h es) ns) rest (stand (listed w s h es c y) ns)
constants_close es w s h ns (Some at) y e v rest =
    (
    constants_comma es w s h ns (Some at) (comma_some _ at e) v (closing br.Curly y ∷ rest)
    then go (closing br.Curly y) rest (Constant (list_at w s h es (Some at))) (listed w s h es (Some at) y) ns ns refl)
constants_close no_enumerators w s h ns None y e v rest = cc
constants_close (plain_and es d n x) w s h ns None y e v rest = go (closing br.Curly y) rest (Named (list_at w s h es d) n x) (listed w s h (plain_and es d n x) None y) ns ns refl
constants_close (valued_and es d n x a e0) w s h ns None y e v rest =
    let k = inConstant w s h (whole_constants es) d n x a in
    let o = listed w s h (valued_and es d n x a e0) None y in
    go (closing br.Curly y) rest (valued (opened e0 k)) o ns ns
    (ap (λ z. kept ns (full.step_held (tok.sufClose br.Curly) y z)) (folded ns e0 k 0 v.1 (omega arith) (omega arith) tt)
    ∙ ap (kept ns) (when_true (leb 2 (level_of e0)) o (le-leb _ _ v.0)))

mutual
  pub reads : (e : Ex) (k : Inner) (ns : List (List ℕ)) → sh.Shaped ns e → least k ≤ level_of e → (rest : List SymbolAt) → Leads (spell e rest) (stand (Operand k) ns) rest (stand (valued (opened e k)) ns)
  reads (eName n at) k ns s l rest = go (sign (sy.Name n) at) rest (Operand k) (Value (whole (eName n at)) k) ns ns (ap (λ c. kept ns (ex.when (not c) (full.operand (eName n at) k))) s)
  reads (eNumber v f at) k ns s l rest = go (sign (sy.Number v f) at) rest (Operand k) (Value (whole (eNumber v f at)) k) ns ns refl
  reads (eLetter v at) k ns s l rest = go (sign (sy.Letter v) at) rest (Operand k) (Value (whole (eLetter v at)) k) ns ns refl
  reads (eParen a e c) k ns s l rest =
      let q = inOpen (oParen a) k in
      (
      paren_opens ns a k e (leb (least k) 13) refl s (closing br.Round c ∷ rest)
      then reads e q ns s (omega arith) (closing br.Round c ∷ rest)
      then go (closing br.Round c) rest (valued (opened e q)) (Value (whole (eParen a e c)) k) ns ns
      (ap (λ x. kept ns (full.step_held (tok.sufClose br.Round) c x)) (folded ns e q 0 s (omega arith) (omega arith) tt)))
  reads (eCall f a es c) k ns s l rest =
      let t = spell_parts es (closing br.Round c ∷ rest) in
      let m = Maybe (argument f a no_parts None k) in
      (
      reads f k ns s.1 (omega (arith, least_le k, s.0)) (opening br.Round a ∷ t)
      then stays (opening br.Round a ∷ t) (stand (valued (opened f k)) ns) (stand (Value (whole f) k) ns) (ap (λ x. stand (valued x) ns) (opened_postfix f k s.0))
      then go (opening br.Round a) t (Value (whole f) k) m ns ns (ap (kept ns) (if_true (leb 15 (level_of f)) (Some m) None (le-leb _ _ s.0)))
      then reads_call es f a k ns c s.2 rest)
  reads (eIndex f x i y) k ns s l rest =
      let q = inOpen (oIndex (whole f) x) k in
      let t = spell i (closing br.Square y ∷ rest) in
      (
      reads f k ns s.1 (omega (arith, least_le k, s.0)) (opening br.Square x ∷ t)
      then stays (opening br.Square x ∷ t) (stand (valued (opened f k)) ns) (stand (Value (whole f) k) ns) (ap (λ z. stand (valued z) ns) (opened_postfix f k s.0))
      then go (opening br.Square x) t (Value (whole f) k) (Operand q) ns ns (ap (kept ns) (if_true (leb 15 (level_of f)) (Some (Operand q)) None (le-leb _ _ s.0)))
      then reads i q ns s.2 (omega arith) (closing br.Square y ∷ rest)
      then go (closing br.Square y) rest (valued (opened i q)) (Value (whole (eIndex f x i y)) k) ns ns
      (ap (λ z. kept ns (full.step_held (tok.sufClose br.Square) y z)) (folded ns i q 0 s.2 (omega arith) (omega arith) tt)))
  reads (ePostfix e c at) k ns s l rest =
      let v = Value (whole (ePostfix e c at)) k in
      (
      reads e k ns s.1 (omega (arith, least_le k, s.0)) (sign (sy.Crement c) at ∷ rest)
      then stays (sign (sy.Crement c) at ∷ rest) (stand (valued (opened e k)) ns) (stand (Value (whole e) k) ns) (ap (λ z. stand (valued z) ns) (opened_postfix e k s.0))
      then go (sign (sy.Crement c) at) rest (Value (whole e) k) v ns ns (ap (kept ns) (if_true (leb 15 (level_of e)) (Some v) None (le-leb _ _ s.0))))
  reads (ePrefix o at e) k ns s l rest =
      let q = inBind (bPrefix o at) k in
      (prefix_opens ns o at k e s.1 s.0 rest then reads e q ns s.1 s.0 rest)
  reads (eSizeof at a ws c) k ns s l rest =
      let f = forkSizeof at a k in
      (
      go (sign sy.Sizeof at) (opening br.Round a ∷ spell_words ws (closing br.Round c ∷ rest)) (Operand k) (Sizeof at k) ns ns refl
      then go (opening br.Round a) (spell_words ws (closing br.Round c ∷ rest)) (Sizeof at k) (Either f []) ns ns refl
      then fork_words ws f ns s.0.told s.0.together s.1 (closing br.Round c ∷ rest) refl
      then stays (closing br.Round c ∷ rest) (stand (fork_mode (exts ws) ws s.0.told f) ns) (stand (Specifiers (worded ws s.0.told) (aroundSizeof at a k)) ns) (ap (λ m. stand m ns) (fork_typed ws s.0.told f s.0.together s.0.typed))
      then go (closing br.Round c) rest (Specifiers (worded ws s.0.told) (aroundSizeof at a k)) (Value (whole (eSizeof at a ws c)) k) ns ns
      (ap (kept ns) (if_true (is_typed s.0.told.typing) (full.behind_words (sy.Close br.Round) c (worded ws s.0.told) (aroundSizeof at a k)) None s.0.typed)))
  reads (eCast a ws c e) k ns s l rest =
      let f = forkCast a k in
      let q = inBind (bCast a (tall ws (counted_words ws)) c) k in
      (
      go (opening br.Round a) (spell_words ws (closing br.Round c ∷ spell e rest)) (Operand k) (Either f []) ns ns (ap (λ z. stand z ns) (if_true (leb (least k) 13) (Either f []) (Operand (inOpen (oParen a) k)) (le-leb _ _ l)))
      then fork_words ws f ns s.1.told s.1.together s.2 (closing br.Round c ∷ spell e rest) refl
      then stays (closing br.Round c ∷ spell e rest) (stand (fork_mode (exts ws) ws s.1.told f) ns) (stand (Specifiers (worded ws s.1.told) (aroundCast a k)) ns) (ap (λ m. stand m ns) (fork_typed ws s.1.told f s.1.together s.1.typed))
      then go (closing br.Round c) (spell e rest) (Specifiers (worded ws s.1.told) (aroundCast a k)) (Operand q) ns ns
      (ap (kept ns) (if_true (is_typed s.1.told.typing) (full.behind_words (sy.Close br.Round) c (worded ws s.1.told) (aroundCast a k)) None s.1.typed))
      then reads e q ns s.3 s.0 rest)
  reads (eBinary a o at c) k ns s l rest =
      let q = inBind (bBinary (whole a) o at) k in
      (
      reads a k ns s.2 (omega (arith, l, s.0)) (sign (sy.Binary o) at ∷ spell c rest)
      then go (sign (sy.Binary o) at) (spell c rest) (valued (opened a k)) (Operand q) ns ns (operator ns o at a k s.2 s.0 l)
      then reads c q ns s.3 s.1 rest)
  reads (eCond c x a y d) k ns s l rest =
      let q = inOpen (oThen (whole c) x) k in
      let r = inBind (bElse (whole c) x (whole a) y) k in
      (
      reads c k ns s.2 (omega (arith, l, s.0)) (sign sy.Question x ∷ spell a (sign sy.Colon y ∷ spell d rest))
      then go (sign sy.Question x) (spell a (sign sy.Colon y ∷ spell d rest)) (valued (opened c k)) (Operand q) ns ns
      (ap (λ z. kept ns (full.step_held tok.sufQuestion x z)) (folded ns c k 2 s.2 (omega (arith, pull_near c, s.0)) (omega arith) (stays_of k 2 l (omega arith) (omega arith)))
      ∙ ap (kept ns) (when_true _ (Operand q) (and_true (leb (least k) 2) (leb 3 (level_of c)) (le-leb _ _ l) (le-leb _ _ s.0))))
      then reads a q ns s.3 (omega arith) (sign sy.Colon y ∷ spell d rest)
      then go (sign sy.Colon y) (spell d rest) (valued (opened a q)) (Operand r) ns ns (ap (λ z. kept ns (full.step_held tok.sufColon y z)) (folded ns a q 0 s.3 (omega arith) (omega arith) tt))
      then reads d r ns s.4 s.1 rest)
  reads (eAssign a o at c) k ns s l rest =
      let q = inBind (bAssign (whole a) o at) k in
      (
      reads a k ns s.2 (omega (arith, l, s.0)) (sign (sy.Assign o) at ∷ spell c rest)
      then go (sign (sy.Assign o) at) (spell c rest) (valued (opened a k)) (Operand q) ns ns
      (ap (λ z. kept ns (full.step_held (tok.sufAssign o) at z)) (folded ns a k 2 s.2 (omega (arith, pull_near a, s.0)) (omega arith) (stays_of k 2 (omega (arith, l)) (omega arith) (omega arith)))
      ∙ ap (kept ns) (when_true _ (Operand q) (and_true (leb (least k) 1) (leb 14 (level_of a)) (le-leb _ _ l) (le-leb _ _ s.0))))
      then reads c q ns s.3 s.1 rest)
  reads (eComma es) k ns s l rest = reads_comma es k ns s.0 s.1 l rest

  -- the arguments of a call, and its `)`
  reads_call : (es : Parts) (f : Ex) (a : ℕ) (k : Inner) (ns : List (List ℕ)) (c : ℕ) → sh.ShapedParts ns es → (rest : List SymbolAt) → Leads (spell_parts es (closing br.Round c ∷ rest)) (stand (Maybe (argument f a no_parts None k)) ns) rest (stand (Value (whole (eCall f a es c)) k) ns)
  reads_call no_parts f a k ns c s rest = go (closing br.Round c) rest (Maybe (argument f a no_parts None k)) (Value (whole (eCall f a no_parts c)) k) ns ns refl
  reads_call (parts_and es d e) f a k ns c s rest =
      let q = argument f a es d k in
      (
      reads_some es d e f a k ns s.2 s.0 s.3 (closing br.Round c ∷ rest)
      then reads e q ns s.3 s.1 (closing br.Round c ∷ rest)
      then go (closing br.Round c) rest (valued (opened e q)) (Value (whole (eCall f a (parts_and es d e) c)) k) ns ns
      (ap (λ z. kept ns (full.step_held (tok.sufClose br.Round) c z)) (folded ns e q 0 s.3 (omega arith) (omega arith) tt)
      ∙ ap (kept ns) (when_true (leb 1 (level_of e)) (full.called (whole f) a (whole_parts (parts_and es d e)) c k) (le-leb _ _ s.1))))

  -- the arguments before one
  reads_some : (es : Parts) (d : Option ℕ) (e : Ex) (f : Ex) (a : ℕ) (k : Inner) (ns : List (List ℕ)) → sh.ShapedParts ns es → sh.IsComma (sh.are_no_parts es) d → sh.Shaped ns e → (rest : List SymbolAt) → Leads (spell_parts es (comma d (spell e rest))) (stand (Maybe (argument f a no_parts None k)) ns) (spell e rest) (stand (Operand (argument f a es d k)) ns)
  reads_some no_parts None e f a k ns s c t rest = first_maybe ns (argument f a no_parts None k) e t rest
  reads_some no_parts (Some at) e f a k ns s c t rest = absurd c
  reads_some (parts_and es d x) None e f a k ns s c t rest = absurd c
  reads_some (parts_and es d x) (Some at) e f a k ns s c t rest =
      let q = argument f a es d k in
      let o = Operand (argument f a (parts_and es d x) (Some at) k) in
      (
      reads_some es d x f a k ns s.2 s.0 s.3 (sign sy.Comma at ∷ spell e rest)
      then reads x q ns s.3 s.1 (sign sy.Comma at ∷ spell e rest)
      then go (sign sy.Comma at) (spell e rest) (valued (opened x q)) o ns ns
      (ap (λ z. kept ns (full.step_held tok.sufComma at z)) (folded ns x q 1 s.3 (pull_one x s.1) (omega arith) tt)
      ∙ ap (kept ns) (when_true (leb 1 (level_of x)) o (le-leb _ _ s.1))))

  reads_comma : (es : Parts) (k : Inner) (ns : List (List ℕ)) → sh.are_several es ≡ true → sh.ShapedParts ns es → least k ≤ 0 → (rest : List SymbolAt) → Leads (spell_parts es rest) (stand (Operand k) ns) rest (stand (valued (opened_parts es k)) ns)
  reads_comma no_parts k ns m s l rest = cc
  reads_comma (parts_and es None e) k ns m s l rest = absurd (subst (λ q. sh.IsComma q None) (several_not (sh.are_no_parts es) m) s.0)
  reads_comma (parts_and es (Some at) e) k ns m s l rest =
      (
      reads_sequence es at k ns (several_not (sh.are_no_parts es) m) s.2 l (spell e rest)
      then reads e (inBind (bComma (whole_parts es) at) k) ns s.3 s.1 rest)

  -- the parts of a comma expression before the last
  reads_sequence : (es : Parts) (at : ℕ) (k : Inner) (ns : List (List ℕ)) → sh.are_no_parts es ≡ false → sh.ShapedParts ns es → least k ≤ 0 → (rest : List SymbolAt) → Leads (spell_parts es (sign sy.Comma at ∷ rest)) (stand (Operand k) ns) rest (stand (Operand (inBind (bComma (whole_parts es) at) k)) ns)
  reads_sequence no_parts at k ns m s l rest = cc
  reads_sequence (parts_and no_parts None e) at k ns m s l rest =
      let q = inBind (bComma (whole_parts (parts_and no_parts None e)) at) k in
      (
      reads e k ns s.3 (omega (arith, l)) (sign sy.Comma at ∷ rest)
      then go (sign sy.Comma at) rest (valued (opened e k)) (Operand q) ns ns
      (ap (λ z. kept ns (full.step_held tok.sufComma at z)) (folded ns e k 1 s.3 (pull_one e s.1) (omega arith) (stays_low k l))
      ∙ ap (kept ns) (sequence_is at (whole e) k l s.1)))
  reads_sequence (parts_and (parts_and es d x) None e) at k ns m s l rest = absurd s.0
  reads_sequence (parts_and es (Some c) e) at k ns m s l rest =
      let r = inBind (bComma (whole_parts es) c) k in
      let q = inBind (bComma (whole_parts (parts_and es (Some c) e)) at) k in
      (
      reads_sequence es c k ns (some_not (sh.are_no_parts es) c s.0) s.2 l (spell e (sign sy.Comma at ∷ rest))
      then reads e r ns s.3 s.1 (sign sy.Comma at ∷ rest)
      then go (sign sy.Comma at) rest (valued (opened e r)) (Operand q) ns ns
      (ap (λ z. kept ns (full.step_held tok.sufComma at z)) (folded ns e r 1 s.3 (pull_one e s.1) (omega arith) (omega arith))
      ∙ ap (kept ns) (when_true (leb 1 (level_of e)) (Operand q) (le-leb _ _ s.1))))

  -- words where an expression might stand too
  pub fork_words : (ws : Words) (f : Fork) (ns : List (List ℕ)) (k : Known) → known (sp.site_of (stt.fork_around f)) ws ≡ Some k → sh.ShapedWords ns ws → (rest : List SymbolAt) → NoOpen rest → Leads (spell_words ws rest) (stand (Either f []) ns) rest (stand (fork_mode (exts ws) ws k f) ns)
  fork_words no_words f ns k e s rest n = stays rest (stand (Either f []) ns) (stand (Either f []) ns) refl
  fork_words (words_and ws x) f ns k e s rest n =
      let z = known_before (sp.site_of (stt.fork_around f)) x (known (sp.site_of (stt.fork_around f)) ws) k e in
      (
      fork_words ws f ns z.told z.was s.0 (spell_word x rest) (word_no_open x rest)
      then fork_word x ws f ns z.told k (exts ws) refl z.was z.gives s.1 rest (λ y q r. reads_word x y (stt.fork_around f) ns q r s.1 rest n))

  -- one word more
  pub reads_word : (x : Word) (s : Spoken) (w : Around) (ns : List (List ℕ)) (k : Known) → with_word (sp.site_of w) x s.told ≡ Some k → sh.ShapedWord ns x → (rest : List SymbolAt) → NoOpen rest → Leads (spell_word x rest) (stand (Specifiers s w) ns) rest (stand (Specifiers (mk.said s k x (counted_word x)) w) ns)
  reads_word (wType x at) s w ns k e g rest n = go (sign (sy.Type x) at) rest (Specifiers s w) (Specifiers (mk.said s k (wType x at) 0) w) ns ns (ap (λ o. kept ns (sp.with_word_said s w (wType x at) o)) e)
  reads_word (wStorage x at) s w ns k e g rest n = go (sign (sy.Storage x) at) rest (Specifiers s w) (Specifiers (mk.said s k (wStorage x at) 0) w) ns ns (ap (λ o. kept ns (sp.with_word_said s w (wStorage x at) o)) e)
  reads_word (wConst x at) s w ns k e g rest n = go (sign (sy.Const x) at) rest (Specifiers s w) (Specifiers (mk.said s k (wConst x at) 0) w) ns ns (ap (λ o. kept ns (sp.with_word_said s w (wConst x at) o)) e)
  reads_word (wExtension at) s w ns k e g rest n = go (sign sy.Extension at) rest (Specifiers s w) (Specifiers (mk.said s k (wExtension at) 0) w) ns ns (ap (λ o. kept ns (sp.with_word_said s w (wExtension at) o)) e)
  reads_word (wTypedef x at) s w ns k e g rest n =
      go (sign (sy.Name x) at) rest (Specifiers s w) (Specifiers (mk.said s k (wTypedef x at) 0) w) ns ns
      (ap (λ c. kept ns (full.step_kind (if c then spTypedef x else spOther) (sy.Name x) at s w)) g ∙ ap (λ o. kept ns (sp.with_word_said s w (wTypedef x at) o)) e)
  reads_word (wAttribute x) s w ns k e g rest n =
      subst (λ q. Leads (spell_word (wAttribute x) rest) (stand (Specifiers s w) ns) rest (stand (Specifiers (mk.said s q (wAttribute x) 1) w) ns)) (some_same s.told k e)
      (attribute_reads ns x (onWords s w) rest (Specifiers s w) g (λ v at. refl))
  reads_word (wTag at x y) s w ns k e g rest n =
      let z = mk.spoken s.words k s.height in
      (
      go (sign sy.Enum at) (sign (sy.Name x) y ∷ rest) (Specifiers s w) (Enumeration at z w) ns ns (ap (λ o. kept ns (sp.enum_word at s w o)) e)
      then go (sign (sy.Name x) y) rest (Enumeration at z w) (Tagged at x y z w) ns ns (ap (λ c. kept ns (ex.when (not c) (Tagged at x y z w))) g)
      then tagged_reads ns at x y z w rest n)
  reads_word (wEnum at a es c y) s w ns k e g rest n =
      let z = mk.spoken s.words k s.height in
      let t = spell_enumerators es (comma c (closing br.Curly y ∷ rest)) in
      (
      go (sign sy.Enum at) (opening br.Curly a ∷ t) (Specifiers s w) (Enumeration at z w) ns ns (ap (λ v. kept ns (sp.enum_word at s w v)) e)
      then go (opening br.Curly a) t (Enumeration at z w) (Constant (list_at w z (headBare at a) no_enumerators None)) ns ns refl
      then reads_constants es w z (headBare at a) ns g.1 (comma c (closing br.Curly y ∷ rest))
      then constants_close es w z (headBare at a) ns c y g.0 (constants_levels ns es g.1) rest)
  reads_word (wTagEnum at x v a es c y) s w ns k e g rest n =
      let z = mk.spoken s.words k s.height in
      let t = spell_enumerators es (comma c (closing br.Curly y ∷ rest)) in
      (
      go (sign sy.Enum at) (sign (sy.Name x) v ∷ opening br.Curly a ∷ t) (Specifiers s w) (Enumeration at z w) ns ns (ap (λ q. kept ns (sp.enum_word at s w q)) e)
      then go (sign (sy.Name x) v) (opening br.Curly a ∷ t) (Enumeration at z w) (Tagged at x v z w) ns ns (ap (λ c. kept ns (ex.when (not c) (Tagged at x v z w))) g.0)
      then go (opening br.Curly a) t (Tagged at x v z w) (Constant (list_at w z (headTagged at x v a) no_enumerators None)) ns ns refl
      then reads_constants es w z (headTagged at x v a) ns g.2 (comma c (closing br.Curly y ∷ rest))
      then constants_close es w z (headTagged at x v a) ns c y g.1 (constants_levels ns es g.2) rest)

  -- the constants of an enumeration
  reads_constants : (es : Ens) (w : Around) (s : Spoken) (h : EnumHead) (ns : List (List ℕ)) → sh.ShapedEnumerators ns es → (rest : List SymbolAt) → Leads (spell_enumerators es rest) (stand (Constant (list_at w s h no_enumerators None)) ns) rest (stand (behind_constant w s h es) ns)
  reads_constants no_enumerators w s h ns t rest = stays rest (stand (Constant (list_at w s h no_enumerators None)) ns) (stand (Constant (list_at w s h no_enumerators None)) ns) refl
  reads_constants (plain_and es c n at) w s h ns t rest =
      (
      reads_constants es w s h ns t.2 (comma c (sign (sy.Name n) at ∷ rest))
      then constants_comma es w s h ns c t.0 (constants_levels ns es t.2) (sign (sy.Name n) at ∷ rest)
      then go (sign (sy.Name n) at) rest (Constant (list_at w s h es c)) (Named (list_at w s h es c) n at) ns ns (ap (λ q. kept ns (ex.when (not q) (Named (list_at w s h es c) n at))) t.1))
  reads_constants (valued_and es c n x a e) w s h ns t rest =
      let k = inConstant w s h (whole_constants es) c n x a in
      let r = sign (sy.Name n) x ∷ sign (sy.Assign to.Plain) a ∷ spell e rest in
      (
      reads_constants es w s h ns t.3 (comma c r)
      then constants_comma es w s h ns c t.0 (constants_levels ns es t.3) r
      then go (sign (sy.Name n) x) (sign (sy.Assign to.Plain) a ∷ spell e rest) (Constant (list_at w s h es c)) (Named (list_at w s h es c) n x) ns ns (ap (λ q. kept ns (ex.when (not q) (Named (list_at w s h es c) n x))) t.1)
      then go (sign (sy.Assign to.Plain) a) (spell e rest) (Named (list_at w s h es c) n x) (Operand k) ns ns refl
      then reads e k ns t.4 t.2 rest)
