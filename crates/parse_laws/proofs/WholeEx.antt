-- The machine goes through each shaped expression, and through the words of casts and of `sizeof`.
use Rattle.std.proofs.Common.{◌≡◌, ℕ, suc, ◌≤◌, max, List, [], ◌∷◌, ◌++◌, Option, None, Some, Bool, true, false, not, if◌then◌else◌, leb, refl, subst, sym, ap, ◌∙◌, arith, le-leb, le_trans}
use Rattle.c_tree.specs.declared.symbol.AssignOp.TheVariants as to
use Rattle.c_tree.specs.declared.symbol.Bracket.TheVariants as br
use Rattle.c_tree.specs.declared.symbol.Symbol.TheVariants as sy
use Rattle.c_tree.specs.declared.symbol.SymbolAt.{SymbolAt}
use Rattle.c_tree.specs.declared.known.Site.{Site}
use Rattle.c_tree.specs.declared.known.Known.{Known}
use Rattle.c_tree.specs.Symbols.{sign}
use Rattle.c_tree.specs.Spelling.{level_of, opening, closing, comma, spell, spell_parts, spell_words, spell_word, spell_enumerators}
use Rattle.c_tree.specs.Shape as sh
use Rattle.c_tree.specs.Words.{known, with_word, is_typed, nothing_known}
use Rattle.c_tree.specs.Tree.{attribute, Ex, eName, eNumber, eLetter, eParen, eCall, eIndex, ePostfix, ePrefix, eSizeof, eCast, eBinary, eCond, eAssign, eComma, Parts, no_parts, parts_and, Words, no_words, words_and, Word, wType, wStorage, wConst, wExtension, wAttribute, wTypedef, wTag, wEnum, wTagEnum, Ens, no_enumerators, plain_and, valued_and}
use Rattle.parse_machine.specs.Tokens.{Prefix, prefix_of, Suffix, suffix_of, spec_of, SpecKind, spTypedef, spOther, start_of, is_else, Skip, skipOn, skipClose, skipEnd, skip_of, is_awaited}
use Rattle.parse_machine.specs.Contexts.{Tall, Spoken, bBinary, bPrefix, bCast, bAssign, bElse, bComma, oParen, oIndex, oThen, EnumHead, headBare, headTagged, Inner, inBind, inOpen, inConstant, Around, aroundCast, aroundSizeof, onWords, Fork, forkCast, forkSizeof, Mode, Specifiers, Enumeration, Tagged, Constant, Named, Either, Operand, Maybe, Sizeof, Value}
use Rattle.parse_machine.specs.Making as mk
use Rattle.parse_machine.specs.Making.{above, tall, part, bound, bind_level}
use Rattle.parse_machine.specs.Heights as ht
use Rattle.parse_machine.specs.Heights.{least, high, around_high, low, depth, is_list}
use Rattle.parse_laws.proofs.Parts.{high_ge, around_ge, least_le, comma_some}
use Rattle.parse_machine.specs.Expressions as ex
use Rattle.c_tree.specs.Height.{height, height_parts, height_words}
use Rattle.parse_machine.specs.Declarations.{kept}
use Rattle.parse_machine.specs.Statements as stt
use Rattle.parse_machine.specs.Specifiers as sp
use Rattle.parse_laws.proofs.Walk.{limit, walk, stand, if_true, go, when_true, and_true, above_is, around_mono, lower, whole, part_whole, height_some, opened, opened_parts, valued, pull_near, refold, fold_opened, stays_of, opened_postfix, pull_one}
use Rattle.parse_laws.proofs.First.{first_maybe}
use Rattle.c_tree.specs.Height.{height_word, height_enumerators}
use Rattle.parse_machine.specs.Tokens as tok
use Rattle.parse_laws.proofs.ReadEx.{NoOpen, worded, some_same, known_before, tagged_reads, attribute_reads, list_at, behind_constant, paren_opens, prefix_opens, folded, operator, argument, sequence_is, stays_low}
use Rattle.std.specs.Option.{option_map, option_and_then}

pub arg_high : (k : Inner) (a c d : ℕ) → high k (suc (max a (max c d))) ≤ 200 → high k (above (max (max a c) d)) ≤ 200
arg_high k a c d h = lower k (above (max (max a c) d)) (suc (max a (max c d))) h (omega (arith, above_is (max (max a c) d) (omega (arith, high_ge k (suc (max a (max c d))), h))))

pub pair_high : (k : Inner) (a c : ℕ) → high k (suc (max a c)) ≤ 200 → high k (above (max a c)) ≤ 200
pair_high k a c h = subst (λ z. high k z ≤ 200) (sym (above_is (max a c) (omega (arith, high_ge k (suc (max a c)), h)))) h

pub one_high : (k : Inner) (a : ℕ) → high k (suc a) ≤ 200 → high k (above a) ≤ 200
one_high k a h = subst (λ z. high k z ≤ 200) (sym (above_is a (omega (arith, high_ge k (suc a), h)))) h

pub under : (k : Inner) (a : ℕ) → high k (suc a) ≤ 200 → a ≤ 200
under k a h = omega (arith, high_ge k (suc a), h)

pub value_is : (ns : List (List ℕ)) (k : Inner) (l h : ℕ) (e : Ex) → l ≡ level_of e → h ≡ height e → height e ≤ 200 → stand (Value (part l h e) k) ns ≡ stand (Value (whole e) k) ns
value_is ns k l h e p q r = ap (λ z. stand (Value z k) ns) (part_whole l h e p q r)

pub several_not : (c : Bool) → not c ≡ true → c ≡ false
several_not true h = cc
several_not false h = refl

pub some_not : (x : Bool) (c : ℕ) → sh.IsComma x (Some c) → x ≡ false
some_not true c h = absurd h
some_not false c h = refl

abbrev pub exts : Words → Option (List ℕ)
exts no_words = Some []
exts (words_and ws (wExtension at)) = option_map (λ l. l ++ at ∷ []) (exts ws)
exts (words_and ws _) = None

abbrev pub fork_mode : Option (List ℕ) → Words → Known → Fork → Mode
fork_mode (Some ats) ws k f = Either f ats
fork_mode None ws k f = Specifiers (worded ws k) (stt.fork_around f)

map_none : (f : List ℕ → List ℕ) (o : Option (List ℕ)) → o ≡ None → option_map f o ≡ None
map_none f o e = rw e refl

exts_none : (ws : Words) (x : Word) → exts ws ≡ None → exts (words_and ws x) ≡ None
exts_none ws (wExtension at) e = map_none _ (exts ws) e
exts_none ws _ e = refl

pub record MapBefore (f : List ℕ → List ℕ) (o : Option (List ℕ)) (c : List ℕ) : Type 0 where
  pub before : List ℕ
  pub was : o ≡ Some before
  pub gives : f before ≡ c

map_before : (f : List ℕ → List ℕ) (o : Option (List ℕ)) (c : List ℕ) → option_map f o ≡ Some c → MapBefore f o c
map_before f None c h = cc
map_before f (Some z) c h = record { before = z; was = refl; gives = some_same (f z) c h }

words_snoc : (ats : List ℕ) (at : ℕ) (s : Spoken) → mk.extension_words (ats ++ at ∷ []) s ≡ mk.said (mk.extension_words ats s) (mk.extension_words ats s).told (wExtension at) 0
words_snoc [] at s = refl
words_snoc (x ∷ ats) at s = words_snoc ats at (mk.said s s.told (wExtension x) 0)

-- nothing but `__extension__`
ext_worded : (ws : Words) (ats : List ℕ) → exts ws ≡ Some ats → mk.extension_words ats mk.unspoken ≡ worded ws nothing_known
ext_worded no_words ats e = ap (λ z. mk.extension_words z mk.unspoken) (sym (some_same [] ats e))
ext_worded (words_and ws (wExtension at)) ats e =
    let m = map_before (λ l. l ++ at ∷ []) (exts ws) ats e in
    ap (λ z. mk.extension_words z mk.unspoken) (sym m.gives) ∙ words_snoc m.before at mk.unspoken ∙ ap (λ z. mk.said z z.told (wExtension at) 0) (ext_worded ws m.before m.was)
ext_worded (words_and ws _) ats e = cc

ext_known : (s : Site) (ws : Words) (ats : List ℕ) → exts ws ≡ Some ats → known s ws ≡ Some nothing_known
ext_known s no_words ats e = refl
ext_known s (words_and ws (wExtension at)) ats e =
    let m = map_before (λ l. l ++ at ∷ []) (exts ws) ats e in ap (option_and_then (with_word s (wExtension at))) (ext_known s ws m.before m.was)
ext_known s (words_and ws _) ats e = cc

fork_typed_at : (ws : Words) (k : Known) (f : Fork) (o : Option (List ℕ)) → exts ws ≡ o → known (sp.site_of (stt.fork_around f)) ws ≡ Some k → is_typed k.typing ≡ true → fork_mode o ws k f ≡ Specifiers (worded ws k) (stt.fork_around f)
fork_typed_at ws k f None q e t = refl
fork_typed_at ws k f (Some ats) q e t =
    let n : nothing_known ≡ k = some_same nothing_known k (sym (ext_known (sp.site_of (stt.fork_around f)) ws ats q) ∙ e) in
    let r : false ≡ true = ap (λ z. is_typed z.typing) n ∙ t in
    cc

-- behind a type an expression can't stand
pub fork_typed : (ws : Words) (k : Known) (f : Fork) → known (sp.site_of (stt.fork_around f)) ws ≡ Some k → is_typed k.typing ≡ true → fork_mode (exts ws) ws k f ≡ Specifiers (worded ws k) (stt.fork_around f)
fork_typed ws k f e t = fork_typed_at ws k f (exts ws) refl e t

pub word_no_open : (x : Word) (rest : List SymbolAt) → NoOpen (spell_word x rest)
word_no_open (wType x at) rest = refl
word_no_open (wStorage x at) rest = refl
word_no_open (wConst x at) rest = refl
word_no_open (wExtension at) rest = refl
word_no_open (wTypedef n at) rest = refl
word_no_open (wAttribute (attribute w at a r z)) rest = refl
word_no_open (wTag at n y) rest = refl
word_no_open (wEnum at a es c y) rest = refl
word_no_open (wTagEnum at n x a es c y) rest = refl

-- the first token of a word that is no `__extension__`
fork_first : (x : Word) (f : Fork) (ats : List ℕ) (ns : List (List ℕ)) → exts (words_and no_words x) ≡ None → sh.ShapedWord ns x → (rest : List SymbolAt) → walk (spell_word x rest) (stand (Either f ats) ns) ≡ walk (spell_word x rest) (stand (Specifiers (mk.extension_words ats mk.unspoken) (stt.fork_around f)) ns)
fork_first (wType x at) f ats ns q g rest = refl
fork_first (wStorage x at) f ats ns q g rest = refl
fork_first (wConst x at) f ats ns q g rest = refl
fork_first (wExtension at) f ats ns q g rest = cc
fork_first (wTypedef n at) f ats ns q g rest = ap (λ c. walk rest (limit (kept ns (stt.fork_kind ns (if c then spTypedef n else spOther) (sy.Name n) at f ats)))) g
fork_first (wAttribute (attribute w at a r z)) f ats ns q g rest = refl
fork_first (wTag at n y) f ats ns q g rest = refl
fork_first (wEnum at a es c y) f ats ns q g rest = refl
fork_first (wTagEnum at n x a es c y) f ats ns q g rest = refl

abbrev Reading : Word → Around → List (List ℕ) → List SymbolAt → Type 0
Reading x w ns rest = (s : Spoken) (k : Known) → with_word (sp.site_of w) x s.told ≡ Some k → around_high w (max s.height (height_word x)) ≤ 200 → walk (spell_word x rest) (stand (Specifiers s w) ns) ≡ walk rest (stand (Specifiers (mk.said s k x (height_word x)) w) ns)

fork_other : (x : Word) (ws : Words) (f : Fork) (ns : List (List ℕ)) (z k : Known) (ats : List ℕ) → exts (words_and no_words x) ≡ None → exts ws ≡ Some ats → known (sp.site_of (stt.fork_around f)) ws ≡ Some z → with_word (sp.site_of (stt.fork_around f)) x z ≡ Some k → sh.ShapedWord ns x → around_high (stt.fork_around f) (max (height_words ws) (height_word x)) ≤ 200 → (rest : List SymbolAt) → Reading x (stt.fork_around f) ns rest → walk (spell_word x rest) (stand (Either f ats) ns) ≡ walk rest (stand (Specifiers (worded (words_and ws x) k) (stt.fork_around f)) ns)
fork_other x ws f ns z k ats q e b0 v g h rest read =
    let n : nothing_known ≡ z = some_same nothing_known z (sym (ext_known (sp.site_of (stt.fork_around f)) ws ats e) ∙ b0) in
    fork_first x f ats ns q g rest
    ∙ ap (λ y. walk (spell_word x rest) (stand (Specifiers y (stt.fork_around f)) ns)) (ext_worded ws ats e ∙ ap (worded ws) n)
    ∙ read (worded ws z) k v h

fork_word : (x : Word) (ws : Words) (f : Fork) (ns : List (List ℕ)) (z k : Known) (o : Option (List ℕ)) → exts ws ≡ o → known (sp.site_of (stt.fork_around f)) ws ≡ Some z → with_word (sp.site_of (stt.fork_around f)) x z ≡ Some k → sh.ShapedWord ns x → around_high (stt.fork_around f) (max (height_words ws) (height_word x)) ≤ 200 → ((ats : List ℕ) → ht.fork_high f ats ≤ 200) → (rest : List SymbolAt) → Reading x (stt.fork_around f) ns rest → walk (spell_word x rest) (stand (fork_mode o ws z f) ns) ≡ walk rest (stand (fork_mode (exts (words_and ws x)) (words_and ws x) k f) ns)
fork_word x ws f ns z k None e b0 v g h l rest read = read (worded ws z) k v h ∙ ap (λ q. walk rest (stand (fork_mode q (words_and ws x) k f) ns)) (sym (exts_none ws x e))
fork_word (wExtension at) ws f ns z k (Some ats) e b0 v g h l rest read =
    go (sign sy.Extension at) rest (Either f ats) (Either f (ats ++ at ∷ [])) ns ns refl (l (ats ++ at ∷ []))
    ∙ ap (λ q. walk rest (stand (fork_mode (option_map (λ l. l ++ at ∷ []) q) (words_and ws (wExtension at)) k f) ns)) (sym e)
fork_word (wType x at) ws f ns z k (Some ats) e b0 v g h l rest read = fork_other (wType x at) ws f ns z k ats refl e b0 v g h rest read
fork_word (wStorage x at) ws f ns z k (Some ats) e b0 v g h l rest read = fork_other (wStorage x at) ws f ns z k ats refl e b0 v g h rest read
fork_word (wConst x at) ws f ns z k (Some ats) e b0 v g h l rest read = fork_other (wConst x at) ws f ns z k ats refl e b0 v g h rest read
fork_word (wTypedef x at) ws f ns z k (Some ats) e b0 v g h l rest read = fork_other (wTypedef x at) ws f ns z k ats refl e b0 v g h rest read
fork_word (wAttribute x) ws f ns z k (Some ats) e b0 v g h l rest read = fork_other (wAttribute x) ws f ns z k ats refl e b0 v g h rest read
fork_word (wTag at x y) ws f ns z k (Some ats) e b0 v g h l rest read = fork_other (wTag at x y) ws f ns z k ats refl e b0 v g h rest read
fork_word (wEnum at a es c y) ws f ns z k (Some ats) e b0 v g h l rest read = fork_other (wEnum at a es c y) ws f ns z k ats refl e b0 v g h rest read
fork_word (wTagEnum at x y a es c q) ws f ns z k (Some ats) e b0 v g h l rest read = fork_other (wTagEnum at x y a es c q) ws f ns z k ats refl e b0 v g h rest read

-- Constants of an enumeration.

wide : (w : Around) (s h g : ℕ) → around_high w (max s g) ≤ 200 → h ≤ g → around_high w (max s h) ≤ 200
wide w s h g p q = le_trans (around_mono w (max s h) (max s g) (omega (arith, q))) p

some_constant : (es : Ens) → sh.are_no_enumerators es ≡ false → 1 ≤ height_enumerators es
some_constant no_enumerators h = cc
some_constant (plain_and es c n at) h = omega arith
some_constant (valued_and es c n x a e) h = omega arith

wide_under : (w : Around) (s g : ℕ) → around_high w (max s (suc g)) ≤ 200 → suc g ≤ 200
wide_under w s g h = omega (arith, around_ge w (max s (suc g)), h)

listed_low : (w : Around) (s : Spoken) (es : Ens) (g : ℕ) → 1 ≤ g → height_enumerators es ≤ g → around_high w (max s.height (suc g)) ≤ 200 → around_high w (max s.height (above (max (height_enumerators es) 1))) ≤ 200
listed_low w s es g o i l = wide w s.height (above (max (height_enumerators es) 1)) (suc g) l (omega (arith, o, i, above_is (max (height_enumerators es) 1) (omega (arith, o, i, wide_under w s.height g l))))

constant_low : (w : Around) (s : Spoken) (es : Ens) (h g : ℕ) → height_enumerators es ≤ g → suc h ≤ g → around_high w (max s.height (suc g)) ≤ 200 → around_high w (max s.height (above (max (height_enumerators es) (above h)))) ≤ 200
constant_low w s es h g i j l =
    let u = wide_under w s.height g l in
    let v = above_is h (omega (arith, j, u)) in
    wide w s.height (above (max (height_enumerators es) (above h))) (suc g) l (omega (arith, i, j, v, above_is (max (height_enumerators es) (above h)) (omega (arith, i, j, v, u))))

-- what is known of the last constant
abbrev ConstantLevel : List (List ℕ) → Ens → Type 0
ConstantLevel ns no_enumerators = Unit {0}
ConstantLevel ns (plain_and es c n at) = Unit {0}
ConstantLevel ns (valued_and es c n x a e) = (2 ≤ level_of e) × sh.Shaped ns e

constants_levels : (ns : List (List ℕ)) (es : Ens) → sh.ShapedEnumerators ns es → ConstantLevel ns es
constants_levels ns no_enumerators t = tt
constants_levels ns (plain_and es c n at) t = tt
constants_levels ns (valued_and es c n x a e) t = (t.2, t.4)

constant_folds : (ns : List (List ℕ)) (e : Ex) (m : ℕ) (w : Around) (s : Spoken) (h : EnumHead) (es : Tall Ens) (c : Option ℕ) (n : List ℕ) (x a : ℕ) → sh.Shaped ns e → 2 ≤ level_of e → m ≤ 1 → height e ≤ 200 → refold m (opened e (inConstant w s h es c n x a)) ≡ ex.held (whole e) (inConstant w s h es c n x a)
constant_folds ns e m w s h es c n x a t l q i = fold_opened ns e t (inConstant w s h es c n x a) m (omega (arith, q, pull_one e (omega (arith, l)))) (omega (arith, q)) i

valued_same : (es : Ens) (c : Option ℕ) (n : List ℕ) (x a : ℕ) (e : Ex) → height e ≤ 200 → tall (valued_and es c n x a e) (max (height_enumerators es) (above (height e))) ≡ tall (valued_and es c n x a e) (height_enumerators (valued_and es c n x a e))
valued_same es c n x a e h = ap (λ z. tall (valued_and es c n x a e) (max (height_enumerators es) z)) (above_is (height e) h)

constants_comma : (es : Ens) (w : Around) (s : Spoken) (h : EnumHead) (ns : List (List ℕ)) (c : Option ℕ) → sh.IsComma (sh.are_no_enumerators es) c → ConstantLevel ns es → (g : ℕ) → 1 ≤ g → height_enumerators es ≤ g → around_high w (max s.height (suc g)) ≤ 200 → (rest : List SymbolAt) → walk (comma c rest) (stand (behind_constant w s h es) ns) ≡ walk rest (stand (Constant (list_at w s h es c)) ns)
constants_comma no_enumerators w s h ns None t v g o i l rest = refl
constants_comma no_enumerators w s h ns (Some at) t v g o i l rest = absurd t
constants_comma (plain_and es d n x) w s h ns None t v g o i l rest = absurd t
constants_comma (plain_and es d n x) w s h ns (Some at) t v g o i l rest = go (sign sy.Comma at) rest (Named (list_at w s h es d) n x) (Constant (list_at w s h (plain_and es d n x) (Some at))) ns ns refl (listed_low w s (plain_and es d n x) g o i l)
constants_comma (valued_and es d n x a e) w s h ns None t v g o i l rest = absurd t
constants_comma (valued_and es d n x a e) w s h ns (Some at) t v g o i l rest =
    let u : height e ≤ 200 = omega (arith, i, wide_under w s.height g l) in
    go (sign sy.Comma at) rest (valued (opened e (inConstant w s h (tall es (height_enumerators es)) d n x a))) (Constant (list_at w s h (valued_and es d n x a e) (Some at))) ns ns
    (ap (λ z. kept ns (ex.step_held tok.sufComma at z)) (constant_folds ns e 1 w s h (tall es (height_enumerators es)) d n x a v.1 v.0 (omega arith) u)
    ∙ ap (kept ns) (when_true (leb 2 (level_of e)) (Constant (mk.listing w s h (tall (valued_and es d n x a e) (max (height_enumerators es) (above (height e)))) (Some at))) (le-leb _ _ v.0))
    ∙ ap (λ z. stand (Constant (mk.listing w s h z (Some at))) ns) (valued_same es d n x a e u))
    (listed_low w s (valued_and es d n x a e) g o i l)

enum_ends : (w : Around) (s : Spoken) (h : EnumHead) (es : Ens) (c : Option ℕ) (b0 : ℕ) (ns : List (List ℕ)) → height_enumerators es ≤ 200 → stand (Specifiers (mk.said s s.told (mk.enumeration h es c b0) (above (height_enumerators es))) w) ns ≡ stand (Specifiers (mk.said s s.told (mk.enumeration h es c b0) (suc (height_enumerators es))) w) ns
enum_ends w s h es c b0 ns i = ap (λ z. stand (Specifiers (mk.said s s.told (mk.enumeration h es c b0) z) w) ns) (above_is (height_enumerators es) i)

constants_close : (es : Ens) (w : Around) (s : Spoken) (h : EnumHead) (ns : List (List ℕ)) (c : Option ℕ) (b0 : ℕ) → sh.are_no_enumerators es ≡ false → ConstantLevel ns es → around_high w (max s.height (suc (height_enumerators es))) ≤ 200 → (rest : List SymbolAt) → walk (comma c (closing br.Curly b0 ∷ rest)) (stand (behind_constant w s h es) ns) ≡ walk rest (stand (Specifiers (mk.said s s.told (mk.enumeration h es c b0) (suc (height_enumerators es))) w) ns)
constants_close es w s h ns (Some at) b0 e v l rest =
    let o = some_constant es e in
    let u = wide_under w s.height (height_enumerators es) l in
    constants_comma es w s h ns (Some at) (comma_some _ at e) v (height_enumerators es) o (omega arith) l (closing br.Curly b0 ∷ rest)
    ∙ go (closing br.Curly b0) rest (Constant (list_at w s h es (Some at))) (Specifiers (mk.said s s.told (mk.enumeration h es (Some at) b0) (suc (height_enumerators es))) w) ns ns (enum_ends w s h es (Some at) b0 ns (omega (arith, u))) l
constants_close no_enumerators w s h ns None b0 e v l rest = cc
constants_close (plain_and es d n x) w s h ns None b0 e v l rest =
    let u = wide_under w s.height (height_enumerators (plain_and es d n x)) l in
    go (closing br.Curly b0) rest (Named (list_at w s h es d) n x) (Specifiers (mk.said s s.told (mk.enumeration h (plain_and es d n x) None b0) (suc (max (height_enumerators es) 1))) w) ns ns (enum_ends w s h (plain_and es d n x) None b0 ns (omega (arith, u))) l
constants_close (valued_and es d n x a e0) w s h ns None b0 e v l rest =
    let u = wide_under w s.height (height_enumerators (valued_and es d n x a e0)) l in
    let y : height e0 ≤ 200 = omega (arith, u) in
    go (closing br.Curly b0) rest (valued (opened e0 (inConstant w s h (tall es (height_enumerators es)) d n x a))) (Specifiers (mk.said s s.told (mk.enumeration h (valued_and es d n x a e0) None b0) (suc (max (height_enumerators es) (suc (height e0))))) w) ns ns
    (ap (λ z. kept ns (ex.step_held (tok.sufClose br.Curly) b0 z)) (constant_folds ns e0 0 w s h (tall es (height_enumerators es)) d n x a v.1 v.0 (omega arith) y)
    ∙ ap (kept ns) (when_true (leb 2 (level_of e0)) (ex.enumerated (list_at w s h es d) (tall (valued_and es d n x a e0) (max (height_enumerators es) (above (height e0)))) None b0) (le-leb _ _ v.0))
    ∙ ap (λ z. stand (ex.enumerated (list_at w s h es d) z None b0) ns) (valued_same es d n x a e0 y)
    ∙ enum_ends w s h (valued_and es d n x a e0) None b0 ns (omega (arith, u))) l

mutual
  pub reads : (e : Ex) (k : Inner) (ns : List (List ℕ)) → sh.Shaped ns e → least k ≤ level_of e → high k (height e) ≤ 200 → (rest : List SymbolAt) → walk (spell e rest) (stand (Operand k) ns) ≡ walk rest (stand (valued (opened e k)) ns)
  reads (eName n at) k ns s l h rest = go (sign (sy.Name n) at) rest (Operand k) (Value (whole (eName n at)) k) ns ns (ap (λ c. kept ns (ex.when (not c) (ex.operand (eName n at) k))) s) h
  reads (eNumber v f at) k ns s l h rest = go (sign (sy.Number v f) at) rest (Operand k) (Value (whole (eNumber v f at)) k) ns ns refl h
  reads (eLetter v at) k ns s l h rest = go (sign (sy.Letter v) at) rest (Operand k) (Value (whole (eLetter v at)) k) ns ns refl h
  reads (eParen a e c) k ns s l h rest =
      let q = inOpen (oParen a) k in
      let i : high q (height e) ≤ 200 = one_high k (height e) h in
      paren_opens ns a k e (leb (least k) 13) refl s i (closing br.Round c ∷ rest)
      ∙ reads e q ns s (omega arith) i (closing br.Round c ∷ rest)
      ∙ go (closing br.Round c) rest (valued (opened e q)) (Value (whole (eParen a e c)) k) ns ns
      (ap (λ x. kept ns (ex.step_held (tok.sufClose br.Round) c x)) (folded ns e q 0 s (omega arith) (omega arith) i tt)
      ∙ value_is ns k 15 (above (height e)) (eParen a e c) refl (above_is (height e) (under k (height e) h)) (le_trans (high_ge k (suc (height e))) h)) h
  reads (eCall f a es c) k ns s l h rest =
      let m : high k (above (max (max (height f) 0) 0)) ≤ 200 = lower k (above (max (max (height f) 0) 0)) (suc (max (height f) (height_parts es))) h (omega (arith, above_is (max (max (height f) 0) 0) (omega (arith, under k (max (height f) (height_parts es)) h)))) in
      reads f k ns s.1 (omega (arith, least_le k, s.0)) (lower k (height f) (suc (max (height f) (height_parts es))) h (omega arith)) (opening br.Round a ∷ spell_parts es (closing br.Round c ∷ rest))
      ∙ ap (λ x. walk (opening br.Round a ∷ spell_parts es (closing br.Round c ∷ rest)) (stand (valued x) ns)) (opened_postfix f k s.0)
      ∙ go (opening br.Round a) (spell_parts es (closing br.Round c ∷ rest)) (Value (whole f) k) (Maybe (argument f a no_parts None k)) ns ns (ap (kept ns) (if_true (leb 15 (level_of f)) (Some (Maybe (argument f a no_parts None k))) None (le-leb _ _ s.0))) m
      ∙ reads_call es f a k ns c s.2 h rest
  reads (eIndex f x i y) k ns s l h rest =
      let q = inOpen (oIndex (whole f) x) k in
      let j : high q (height i) ≤ 200 = pair_high k (height f) (height i) h in
      reads f k ns s.1 (omega (arith, least_le k, s.0)) (lower k (height f) (suc (max (height f) (height i))) h (omega arith)) (opening br.Square x ∷ spell i (closing br.Square y ∷ rest))
      ∙ ap (λ z. walk (opening br.Square x ∷ spell i (closing br.Square y ∷ rest)) (stand (valued z) ns)) (opened_postfix f k s.0)
      ∙ go (opening br.Square x) (spell i (closing br.Square y ∷ rest)) (Value (whole f) k) (Operand q) ns ns (ap (kept ns) (if_true (leb 15 (level_of f)) (Some (Operand q)) None (le-leb _ _ s.0))) (lower q 1 (height i) j (height_some i))
      ∙ reads i q ns s.2 (omega arith) j (closing br.Square y ∷ rest)
      ∙ go (closing br.Square y) rest (valued (opened i q)) (Value (whole (eIndex f x i y)) k) ns ns
      (ap (λ z. kept ns (ex.step_held (tok.sufClose br.Square) y z)) (folded ns i q 0 s.2 (omega arith) (omega arith) j tt)
      ∙ value_is ns k 15 (above (max (height f) (height i))) (eIndex f x i y) refl (above_is (max (height f) (height i)) (under k (max (height f) (height i)) h)) (le_trans (high_ge k (suc (max (height f) (height i)))) h)) h
  reads (ePostfix e c at) k ns s l h rest =
      reads e k ns s.1 (omega (arith, least_le k, s.0)) (lower k (height e) (suc (height e)) h (omega arith)) (sign (sy.Crement c) at ∷ rest)
      ∙ ap (λ z. walk (sign (sy.Crement c) at ∷ rest) (stand (valued z) ns)) (opened_postfix e k s.0)
      ∙ go (sign (sy.Crement c) at) rest (Value (whole e) k) (Value (whole (ePostfix e c at)) k) ns ns
      (ap (kept ns) (if_true (leb 15 (level_of e)) (Some (Value (part 15 (above (height e)) (ePostfix e c at)) k)) None (le-leb _ _ s.0))
      ∙ value_is ns k 15 (above (height e)) (ePostfix e c at) refl (above_is (height e) (under k (height e) h)) (le_trans (high_ge k (suc (height e))) h)) h
  reads (ePrefix o at e) k ns s l h rest =
      let q = inBind (bPrefix o at) k in
      let i : high q (height e) ≤ 200 = one_high k (height e) h in
      prefix_opens ns o at k e s.1 s.0 i h rest ∙ reads e q ns s.1 s.0 i rest
  reads (eSizeof at a ws c) k ns s l h rest =
      let i : around_high (aroundSizeof at a k) (height_words ws) ≤ 200 = subst (λ z. high k z ≤ 200) (sym (ap above (above_is (height_words ws) (omega (arith, high_ge k (suc (suc (height_words ws))), h))) ∙ above_is (suc (height_words ws)) (under k (suc (height_words ws)) h))) h in
      go (sign sy.Sizeof at) (opening br.Round a ∷ spell_words ws (closing br.Round c ∷ rest)) (Operand k) (Sizeof at k) ns ns refl (lower k 2 (suc (suc (height_words ws))) h (omega arith))
      ∙ go (opening br.Round a) (spell_words ws (closing br.Round c ∷ rest)) (Sizeof at k) (Either (forkSizeof at a k) []) ns ns refl (lower k 2 (suc (suc (height_words ws))) h (omega arith))
      ∙ fork_words ws (forkSizeof at a k) ns s.0.told s.0.together s.1 i (λ ats. lower k 2 (suc (suc (height_words ws))) h (omega arith)) (closing br.Round c ∷ rest) refl
      ∙ ap (λ m. walk (closing br.Round c ∷ rest) (stand m ns)) (fork_typed ws s.0.told (forkSizeof at a k) s.0.together s.0.typed)
      ∙ go (closing br.Round c) rest (Specifiers (worded ws s.0.told) (aroundSizeof at a k)) (Value (whole (eSizeof at a ws c)) k) ns ns
      (ap (kept ns) (if_true (is_typed s.0.told.typing) (sp.behind_words (sy.Close br.Round) c (worded ws s.0.told) (aroundSizeof at a k)) None s.0.typed)
      ∙ value_is ns k 14 (above (above (height_words ws))) (eSizeof at a ws c) refl (ap above (above_is (height_words ws) (omega (arith, high_ge k (suc (suc (height_words ws))), h))) ∙ above_is (suc (height_words ws)) (under k (suc (height_words ws)) h)) (le_trans (high_ge k (suc (suc (height_words ws)))) h)) h
  reads (eCast a ws c e) k ns s l h rest =
      let u : max (suc (height_words ws)) (height e) ≤ 200 = under k (max (suc (height_words ws)) (height e)) h in
      let v : above (height_words ws) ≡ suc (height_words ws) = above_is (height_words ws) (omega (arith, u)) in
      let i : around_high (aroundCast a k) (height_words ws) ≤ 200 = lower k (above (above (height_words ws))) (suc (max (suc (height_words ws)) (height e))) h (omega (arith, v, ap above v, above_is (suc (height_words ws)) (omega (arith, u)))) in
      let q = inBind (bCast a (tall ws (height_words ws)) c) k in
      let j : high q (height e) ≤ 200 = lower k (above (max (above (height_words ws)) (height e))) (suc (max (suc (height_words ws)) (height e))) h (omega (arith, v, above_is (max (above (height_words ws)) (height e)) (omega (arith, u, v)))) in
      go (opening br.Round a) (spell_words ws (closing br.Round c ∷ spell e rest)) (Operand k) (Either (forkCast a k) []) ns ns (ap (λ z. stand z ns) (if_true (leb (least k) 13) (Either (forkCast a k) []) (Operand (inOpen (oParen a) k)) (le-leb _ _ l))) (lower k 2 (suc (max (suc (height_words ws)) (height e))) h (omega arith))
      ∙ fork_words ws (forkCast a k) ns s.1.told s.1.together s.2 i (λ ats. lower k 2 (suc (max (suc (height_words ws)) (height e))) h (omega arith)) (closing br.Round c ∷ spell e rest) refl
      ∙ ap (λ m. walk (closing br.Round c ∷ spell e rest) (stand m ns)) (fork_typed ws s.1.told (forkCast a k) s.1.together s.1.typed)
      ∙ go (closing br.Round c) (spell e rest) (Specifiers (worded ws s.1.told) (aroundCast a k)) (Operand q) ns ns
      (ap (kept ns) (if_true (is_typed s.1.told.typing) (sp.behind_words (sy.Close br.Round) c (worded ws s.1.told) (aroundCast a k)) None s.1.typed)) (lower q 1 (height e) j (height_some e))
      ∙ reads e q ns s.3 s.0 j rest
  reads (eBinary a o at c) k ns s l h rest =
      let q = inBind (bBinary (whole a) o at) k in
      let i : high k (height a) ≤ 200 = lower k (height a) (suc (max (height a) (height c))) h (omega arith) in
      let j : high q (height c) ≤ 200 = pair_high k (height a) (height c) h in
      reads a k ns s.2 (omega (arith, l, s.0)) i (sign (sy.Binary o) at ∷ spell c rest)
      ∙ go (sign (sy.Binary o) at) (spell c rest) (valued (opened a k)) (Operand q) ns ns (operator ns o at a k s.2 s.0 l i) (lower q 1 (height c) j (height_some c))
      ∙ reads c q ns s.3 s.1 j rest
  reads (eCond c x a y d) k ns s l h rest =
      let q = inOpen (oThen (whole c) x) k in
      let r = inBind (bElse (whole c) x (whole a) y) k in
      let u : max (max (height c) (height a)) (height d) ≤ 200 = under k (max (max (height c) (height a)) (height d)) h in
      let i : high k (height c) ≤ 200 = lower k (height c) (suc (max (max (height c) (height a)) (height d))) h (omega arith) in
      let j : high q (height a) ≤ 200 = lower k (above (max (height c) (height a))) (suc (max (max (height c) (height a)) (height d))) h (omega (arith, above_is (max (height c) (height a)) (omega (arith, u)))) in
      let m : high r (height d) ≤ 200 = one_high k (max (max (height c) (height a)) (height d)) h in
      reads c k ns s.2 (omega (arith, l, s.0)) i (sign sy.Question x ∷ spell a (sign sy.Colon y ∷ spell d rest))
      ∙ go (sign sy.Question x) (spell a (sign sy.Colon y ∷ spell d rest)) (valued (opened c k)) (Operand q) ns ns
      (ap (λ z. kept ns (ex.step_held tok.sufQuestion x z)) (folded ns c k 2 s.2 (omega (arith, pull_near c, s.0)) (omega arith) i (stays_of k 2 l (omega arith) (omega arith)))
      ∙ ap (kept ns) (when_true _ (Operand q) (and_true (leb (least k) 2) (leb 3 (level_of c)) (le-leb _ _ l) (le-leb _ _ s.0)))) (lower q 1 (height a) j (height_some a))
      ∙ reads a q ns s.3 (omega arith) j (sign sy.Colon y ∷ spell d rest)
      ∙ go (sign sy.Colon y) (spell d rest) (valued (opened a q)) (Operand r) ns ns (ap (λ z. kept ns (ex.step_held tok.sufColon y z)) (folded ns a q 0 s.3 (omega arith) (omega arith) j tt)) (lower r 1 (height d) m (height_some d))
      ∙ reads d r ns s.4 s.1 m rest
  reads (eAssign a o at c) k ns s l h rest =
      let q = inBind (bAssign (whole a) o at) k in
      let i : high k (height a) ≤ 200 = lower k (height a) (suc (max (height a) (height c))) h (omega arith) in
      let j : high q (height c) ≤ 200 = pair_high k (height a) (height c) h in
      reads a k ns s.2 (omega (arith, l, s.0)) i (sign (sy.Assign o) at ∷ spell c rest)
      ∙ go (sign (sy.Assign o) at) (spell c rest) (valued (opened a k)) (Operand q) ns ns
      (ap (λ z. kept ns (ex.step_held (tok.sufAssign o) at z)) (folded ns a k 2 s.2 (omega (arith, pull_near a, s.0)) (omega arith) i (stays_of k 2 (omega (arith, l)) (omega arith) (omega arith)))
      ∙ ap (kept ns) (when_true _ (Operand q) (and_true (leb (least k) 1) (leb 14 (level_of a)) (le-leb _ _ l) (le-leb _ _ s.0)))) (lower q 1 (height c) j (height_some c))
      ∙ reads c q ns s.3 s.1 j rest
  reads (eComma es) k ns s l h rest = reads_comma es k ns s.0 s.1 l h rest

  -- the arguments of a call, and its `)`
  reads_call : (es : Parts) (f : Ex) (a : ℕ) (k : Inner) (ns : List (List ℕ)) (c : ℕ) → sh.ShapedParts ns es → high k (suc (max (height f) (height_parts es))) ≤ 200 → (rest : List SymbolAt) → walk (spell_parts es (closing br.Round c ∷ rest)) (stand (Maybe (argument f a no_parts None k)) ns) ≡ walk rest (stand (Value (whole (eCall f a es c)) k) ns)
  reads_call no_parts f a k ns c s h rest =
      go (closing br.Round c) rest (Maybe (argument f a no_parts None k)) (Value (whole (eCall f a no_parts c)) k) ns ns (value_is ns k 15 (above (max (height f) 0)) (eCall f a no_parts c) refl (above_is (max (height f) 0) (under k (max (height f) 0) h)) (le_trans (high_ge k (suc (max (height f) 0))) h)) h
  reads_call (parts_and es d e) f a k ns c s h rest =
      let q = argument f a es d k in
      let i : high q (height e) ≤ 200 = arg_high k (height f) (height_parts es) (height e) h in
      reads_some es d e f a k ns s.2 s.0 s.3 h (closing br.Round c ∷ rest)
      ∙ reads e q ns s.3 s.1 i (closing br.Round c ∷ rest)
      ∙ go (closing br.Round c) rest (valued (opened e q)) (Value (whole (eCall f a (parts_and es d e) c)) k) ns ns
      (ap (λ z. kept ns (ex.step_held (tok.sufClose br.Round) c z)) (folded ns e q 0 s.3 (omega arith) (omega arith) i tt)
      ∙ ap (kept ns) (when_true (leb 1 (level_of e)) (ex.called (whole f) a (mk.one_more (tall es (height_parts es)) d (whole e)) c k) (le-leb _ _ s.1))
      ∙ value_is ns k 15 (above (max (height f) (max (height_parts es) (height e)))) (eCall f a (parts_and es d e) c) refl (above_is (max (height f) (max (height_parts es) (height e))) (under k (max (height f) (max (height_parts es) (height e))) h)) (le_trans (high_ge k (suc (max (height f) (max (height_parts es) (height e))))) h)) h

  -- the arguments before one
  reads_some : (es : Parts) (d : Option ℕ) (e : Ex) (f : Ex) (a : ℕ) (k : Inner) (ns : List (List ℕ)) → sh.ShapedParts ns es → sh.IsComma (sh.are_no_parts es) d → sh.Shaped ns e → high k (suc (max (height f) (max (height_parts es) (height e)))) ≤ 200 → (rest : List SymbolAt) → walk (spell_parts es (comma d (spell e rest))) (stand (Maybe (argument f a no_parts None k)) ns) ≡ walk (spell e rest) (stand (Operand (argument f a es d k)) ns)
  reads_some no_parts None e f a k ns s c t h rest = first_maybe ns (argument f a no_parts None k) e t rest
  reads_some no_parts (Some at) e f a k ns s c t h rest = absurd c
  reads_some (parts_and es d x) None e f a k ns s c t h rest = absurd c
  reads_some (parts_and es d x) (Some at) e f a k ns s c t h rest =
      let q = argument f a es d k in
      let g : high k (suc (max (height f) (max (height_parts es) (height x)))) ≤ 200 = lower k (suc (max (height f) (max (height_parts es) (height x)))) (suc (max (height f) (max (max (height_parts es) (height x)) (height e)))) h (omega arith) in
      let i : high q (height x) ≤ 200 = arg_high k (height f) (height_parts es) (height x) g in
      let j : high (argument f a (parts_and es d x) (Some at) k) (height e) ≤ 200 = arg_high k (height f) (max (height_parts es) (height x)) (height e) h in
      reads_some es d x f a k ns s.2 s.0 s.3 g (sign sy.Comma at ∷ spell e rest)
      ∙ reads x q ns s.3 s.1 i (sign sy.Comma at ∷ spell e rest)
      ∙ go (sign sy.Comma at) (spell e rest) (valued (opened x q)) (Operand (argument f a (parts_and es d x) (Some at) k)) ns ns
      (ap (λ z. kept ns (ex.step_held tok.sufComma at z)) (folded ns x q 1 s.3 (pull_one x s.1) (omega arith) i tt)
      ∙ ap (kept ns) (when_true (leb 1 (level_of x)) (Operand (argument f a (parts_and es d x) (Some at) k)) (le-leb _ _ s.1))) (lower (argument f a (parts_and es d x) (Some at) k) 1 (height e) j (height_some e))

  reads_comma : (es : Parts) (k : Inner) (ns : List (List ℕ)) → sh.are_several es ≡ true → sh.ShapedParts ns es → least k ≤ 0 → high k (suc (height_parts es)) ≤ 200 → (rest : List SymbolAt) → walk (spell_parts es rest) (stand (Operand k) ns) ≡ walk rest (stand (valued (opened_parts es k)) ns)
  reads_comma no_parts k ns m s l h rest = cc
  reads_comma (parts_and es None e) k ns m s l h rest = absurd (subst (λ q. sh.IsComma q None) (several_not (sh.are_no_parts es) m) s.0)
  reads_comma (parts_and es (Some at) e) k ns m s l h rest =
      reads_sequence es at k ns (several_not (sh.are_no_parts es) m) s.2 l (height e) (height_some e) h (spell e rest)
      ∙ reads e (inBind (bComma (tall es (height_parts es)) at) k) ns s.3 s.1 (pair_high k (height_parts es) (height e) h) rest

  -- the parts of a comma expression before the last
  reads_sequence : (es : Parts) (at : ℕ) (k : Inner) (ns : List (List ℕ)) → sh.are_no_parts es ≡ false → sh.ShapedParts ns es → least k ≤ 0 → (g : ℕ) → 1 ≤ g → high k (suc (max (height_parts es) g)) ≤ 200 → (rest : List SymbolAt) → walk (spell_parts es (sign sy.Comma at ∷ rest)) (stand (Operand k) ns) ≡ walk rest (stand (Operand (inBind (bComma (tall es (height_parts es)) at) k)) ns)
  reads_sequence no_parts at k ns m s l g o h rest = cc
  reads_sequence (parts_and no_parts None e) at k ns m s l g o h rest =
      let q = inBind (bComma (tall (parts_and no_parts None e) (max 0 (height e))) at) k in
      let i : high k (height e) ≤ 200 = lower k (height e) (suc (max (max 0 (height e)) g)) h (omega arith) in
      let j : high q g ≤ 200 = pair_high k (max 0 (height e)) g h in
      reads e k ns s.3 (omega (arith, l)) i (sign sy.Comma at ∷ rest)
      ∙ go (sign sy.Comma at) rest (valued (opened e k)) (Operand q) ns ns
      (ap (λ z. kept ns (ex.step_held tok.sufComma at z)) (folded ns e k 1 s.3 (pull_one e s.1) (omega arith) i (stays_low k l))
      ∙ ap (kept ns) (sequence_is at (whole e) k l s.1)) (lower q 1 g j o)
  reads_sequence (parts_and (parts_and es d x) None e) at k ns m s l g o h rest = absurd s.0
  reads_sequence (parts_and es (Some c) e) at k ns m s l g o h rest =
      let r = inBind (bComma (tall es (height_parts es)) c) k in
      let q = inBind (bComma (tall (parts_and es (Some c) e) (max (height_parts es) (height e))) at) k in
      let h0 : high k (suc (max (height_parts es) (height e))) ≤ 200 = lower k (suc (max (height_parts es) (height e))) (suc (max (max (height_parts es) (height e)) g)) h (omega arith) in
      let i : high r (height e) ≤ 200 = pair_high k (height_parts es) (height e) h0 in
      let j : high q g ≤ 200 = pair_high k (max (height_parts es) (height e)) g h in
      reads_sequence es c k ns (some_not (sh.are_no_parts es) c s.0) s.2 l (height e) (height_some e) h0 (spell e (sign sy.Comma at ∷ rest))
      ∙ reads e r ns s.3 s.1 i (sign sy.Comma at ∷ rest)
      ∙ go (sign sy.Comma at) rest (valued (opened e r)) (Operand q) ns ns
      (ap (λ z. kept ns (ex.step_held tok.sufComma at z)) (folded ns e r 1 s.3 (pull_one e s.1) (omega arith) i (omega arith))
      ∙ ap (kept ns) (when_true (leb 1 (level_of e)) (Operand q) (le-leb _ _ s.1))) (lower q 1 g j o)

  -- words where an expression might stand too
  pub fork_words : (ws : Words) (f : Fork) (ns : List (List ℕ)) (k : Known) → known (sp.site_of (stt.fork_around f)) ws ≡ Some k → sh.ShapedWords ns ws → around_high (stt.fork_around f) (height_words ws) ≤ 200 → ((ats : List ℕ) → ht.fork_high f ats ≤ 200) → (rest : List SymbolAt) → NoOpen rest → walk (spell_words ws rest) (stand (Either f []) ns) ≡ walk rest (stand (fork_mode (exts ws) ws k f) ns)
  fork_words no_words f ns k e s h l rest n = refl
  fork_words (words_and ws x) f ns k e s h l rest n =
      let z = known_before (sp.site_of (stt.fork_around f)) x (known (sp.site_of (stt.fork_around f)) ws) k e in
      fork_words ws f ns z.told z.was s.0 (le_trans (around_mono (stt.fork_around f) (height_words ws) (max (height_words ws) (height_word x)) (omega arith)) h) l (spell_word x rest) (word_no_open x rest)
      ∙ fork_word x ws f ns z.told k (exts ws) refl z.was z.gives s.1 h l rest (λ y q r v. reads_word x y (stt.fork_around f) ns q r s.1 v rest n)

  -- one word more
  pub reads_word : (x : Word) (s : Spoken) (w : Around) (ns : List (List ℕ)) (k : Known) → with_word (sp.site_of w) x s.told ≡ Some k → sh.ShapedWord ns x → around_high w (max s.height (height_word x)) ≤ 200 → (rest : List SymbolAt) → NoOpen rest → walk (spell_word x rest) (stand (Specifiers s w) ns) ≡ walk rest (stand (Specifiers (mk.said s k x (height_word x)) w) ns)
  reads_word (wType x at) s w ns k e g h rest n = go (sign (sy.Type x) at) rest (Specifiers s w) (Specifiers (mk.said s k (wType x at) 0) w) ns ns (ap (λ o. kept ns (sp.with_word_said s w (wType x at) o)) e) h
  reads_word (wStorage x at) s w ns k e g h rest n = go (sign (sy.Storage x) at) rest (Specifiers s w) (Specifiers (mk.said s k (wStorage x at) 0) w) ns ns (ap (λ o. kept ns (sp.with_word_said s w (wStorage x at) o)) e) h
  reads_word (wConst x at) s w ns k e g h rest n = go (sign (sy.Const x) at) rest (Specifiers s w) (Specifiers (mk.said s k (wConst x at) 0) w) ns ns (ap (λ o. kept ns (sp.with_word_said s w (wConst x at) o)) e) h
  reads_word (wExtension at) s w ns k e g h rest n = go (sign sy.Extension at) rest (Specifiers s w) (Specifiers (mk.said s k (wExtension at) 0) w) ns ns (ap (λ o. kept ns (sp.with_word_said s w (wExtension at) o)) e) h
  reads_word (wTypedef x at) s w ns k e g h rest n =
      go (sign (sy.Name x) at) rest (Specifiers s w) (Specifiers (mk.said s k (wTypedef x at) 0) w) ns ns
      (ap (λ c. kept ns (sp.step_kind (if c then spTypedef x else spOther) (sy.Name x) at s w)) g ∙ ap (λ o. kept ns (sp.with_word_said s w (wTypedef x at) o)) e) h
  reads_word (wAttribute x) s w ns k e g h rest n =
      attribute_reads ns x (onWords s w) rest (Specifiers s w) g (λ v at. refl) h h
      ∙ ap (λ q. walk rest (stand (Specifiers (mk.said s q (wAttribute x) 1) w) ns)) (some_same s.told k e)
  reads_word (wTag at x b0) s w ns k e g h rest n =
      let z = mk.spoken s.words k s.height in
      go (sign sy.Enum at) (sign (sy.Name x) b0 ∷ rest) (Specifiers s w) (Enumeration at z w) ns ns (ap (λ o. kept ns (sp.enum_word at s w o)) e) h
      ∙ go (sign (sy.Name x) b0) rest (Enumeration at z w) (Tagged at x b0 z w) ns ns (ap (λ c. kept ns (ex.when (not c) (Tagged at x b0 z w))) g) h
      ∙ tagged_reads ns at x b0 z w rest n
  reads_word (wEnum at a es c b0) s w ns k e g h rest n =
      let z = mk.spoken s.words k s.height in
      let o = some_constant es g.0 in
      go (sign sy.Enum at) (opening br.Curly a ∷ spell_enumerators es (comma c (closing br.Curly b0 ∷ rest))) (Specifiers s w) (Enumeration at z w) ns ns (ap (λ y. kept ns (sp.enum_word at s w y)) e) (wide w s.height 1 (suc (height_enumerators es)) h (omega arith))
      ∙ go (opening br.Curly a) (spell_enumerators es (comma c (closing br.Curly b0 ∷ rest))) (Enumeration at z w) (Constant (list_at w z (headBare at a) no_enumerators None)) ns ns refl (wide w s.height (above (max 0 1)) (suc (height_enumerators es)) h (omega (arith, o)))
      ∙ reads_constants es w z (headBare at a) ns g.1 (height_enumerators es) o (omega arith) h (comma c (closing br.Curly b0 ∷ rest))
      ∙ constants_close es w z (headBare at a) ns c b0 g.0 (constants_levels ns es g.1) h rest
  reads_word (wTagEnum at x y a es c b0) s w ns k e g h rest n =
      let z = mk.spoken s.words k s.height in
      let o = some_constant es g.1 in
      go (sign sy.Enum at) (sign (sy.Name x) y ∷ opening br.Curly a ∷ spell_enumerators es (comma c (closing br.Curly b0 ∷ rest))) (Specifiers s w) (Enumeration at z w) ns ns (ap (λ q. kept ns (sp.enum_word at s w q)) e) (wide w s.height 1 (suc (height_enumerators es)) h (omega arith))
      ∙ go (sign (sy.Name x) y) (opening br.Curly a ∷ spell_enumerators es (comma c (closing br.Curly b0 ∷ rest))) (Enumeration at z w) (Tagged at x y z w) ns ns (ap (λ c. kept ns (ex.when (not c) (Tagged at x y z w))) g.0) (wide w s.height 1 (suc (height_enumerators es)) h (omega arith))
      ∙ go (opening br.Curly a) (spell_enumerators es (comma c (closing br.Curly b0 ∷ rest))) (Tagged at x y z w) (Constant (list_at w z (headTagged at x y a) no_enumerators None)) ns ns refl (wide w s.height (above (max 0 1)) (suc (height_enumerators es)) h (omega (arith, o)))
      ∙ reads_constants es w z (headTagged at x y a) ns g.2 (height_enumerators es) o (omega arith) h (comma c (closing br.Curly b0 ∷ rest))
      ∙ constants_close es w z (headTagged at x y a) ns c b0 g.1 (constants_levels ns es g.2) h rest

  -- the constants of an enumeration
  reads_constants : (es : Ens) (w : Around) (s : Spoken) (h : EnumHead) (ns : List (List ℕ)) → sh.ShapedEnumerators ns es → (g : ℕ) → 1 ≤ g → height_enumerators es ≤ g → around_high w (max s.height (suc g)) ≤ 200 → (rest : List SymbolAt) → walk (spell_enumerators es rest) (stand (Constant (list_at w s h no_enumerators None)) ns) ≡ walk rest (stand (behind_constant w s h es) ns)
  reads_constants no_enumerators w s h ns t g o i l rest = refl
  reads_constants (plain_and es c n at) w s h ns t g o i l rest =
      reads_constants es w s h ns t.2 g o (omega (arith, i)) l (comma c (sign (sy.Name n) at ∷ rest))
      ∙ constants_comma es w s h ns c t.0 (constants_levels ns es t.2) g o (omega (arith, i)) l (sign (sy.Name n) at ∷ rest)
      ∙ go (sign (sy.Name n) at) rest (Constant (list_at w s h es c)) (Named (list_at w s h es c) n at) ns ns (ap (λ q. kept ns (ex.when (not q) (Named (list_at w s h es c) n at))) t.1) (listed_low w s es g o (omega (arith, i)) l)
  reads_constants (valued_and es c n x a e) w s h ns t g o i l rest =
      let k = inConstant w s h (tall es (height_enumerators es)) c n x a in
      let j : high k (height e) ≤ 200 = constant_low w s es (height e) g (omega (arith, i)) (omega (arith, i)) l in
      reads_constants es w s h ns t.3 g o (omega (arith, i)) l (comma c (sign (sy.Name n) x ∷ sign (sy.Assign to.Plain) a ∷ spell e rest))
      ∙ constants_comma es w s h ns c t.0 (constants_levels ns es t.3) g o (omega (arith, i)) l (sign (sy.Name n) x ∷ sign (sy.Assign to.Plain) a ∷ spell e rest)
      ∙ go (sign (sy.Name n) x) (sign (sy.Assign to.Plain) a ∷ spell e rest) (Constant (list_at w s h es c)) (Named (list_at w s h es c) n x) ns ns (ap (λ q. kept ns (ex.when (not q) (Named (list_at w s h es c) n x))) t.1) (listed_low w s es g o (omega (arith, i)) l)
      ∙ go (sign (sy.Assign to.Plain) a) (spell e rest) (Named (list_at w s h es c) n x) (Operand k) ns ns refl (lower k 1 (height e) j (height_some e))
      ∙ reads e k ns t.4 t.2 j rest
