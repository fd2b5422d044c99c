-- The declarations of expressions, words and parameters lie where these stand.
use Rattle.std.proofs.Common.{◌≡◌, ℕ, suc, ◌≤◌, Bool, true, false, List, [], ◌∷◌, Option, None, Some, sym, subst, append_assoc, arith}
use Rattle.c_tree.specs.Tree as t
use Rattle.c_tree.specs.declared.known.Site.TheVariants as site
use Rattle.c_tree.specs.declared.known.Known.{Known as Told}
use Rattle.c_tree.specs.Words.{nothing_known, is_typed}
use Rattle.c_tree.specs.Shape.{Shaped, ShapedParts, ShapedWords, ShapedWord, ShapedEnumerators, ShapedOption, ShapedParams, ShapedParameters, AreSpecs}
use Rattle.c_meaning.specs.Tokens.{last_of, first_of_word, first_of_words, close_of}
use Rattle.c_meaning.specs.Scope as s
use Rattle.elaboration_offset_laws.proofs.Standing.{In, InParts, InWords, InWord, InEnumerators, InOption, InParams, InParameters, ordered, ordered_enumerators, ordered_params, itself}
use Rattle.elaboration_offset_laws.proofs.Lying.{Known, nowhere, within, Lies, Placed, stretch, join, empty, one, late, lift}

-- ---- The first and the last token

-- an expression ends behind its last token
pub tight : (names : List (List ℕ)) (e : t.Ex) (lo hi : ℕ) → Shaped names e → In lo e hi → In lo e (suc (last_of e)) × (suc (last_of e) ≤ hi)
tight names (t.eName n at) lo hi w h = ((h.0, itself (suc at)), h.1)
tight names (t.eNumber v f at) lo hi w h = ((h.0, itself (suc at)), h.1)
tight names (t.eLetter v at) lo hi w h = ((h.0, itself (suc at)), h.1)
tight names (t.eParen a e b) lo hi w h = ((h.0, h.1, itself (suc b)), h.2)
tight names (t.eCall f a es b) lo hi w h = ((h.0, h.1, itself (suc b)), h.2)
tight names (t.eIndex a x i y) lo hi w h = ((h.0, h.1, itself (suc y)), h.2)
tight names (t.ePostfix e c at) lo hi w h = ((h.0, itself (suc at)), h.1)
tight names (t.ePrefix o at e) lo hi w h = let r = tight names e (suc at) hi w.1 h.1 in ((h.0, r.0), r.1)
tight names (t.eSizeof at a ws b) lo hi w h = ((h.0, h.1, h.2, itself (suc b)), h.3)
tight names (t.eCast a ws b e) lo hi w h = let r = tight names e (suc b) hi w.3 h.2 in ((h.0, h.1, r.0), r.1)
tight names (t.eBinary a o at b) lo hi w h = let r = tight names b (suc at) hi w.3 h.1 in ((h.0, r.0), r.1)
tight names (t.eCond c x a y b) lo hi w h = let r = tight names b (suc y) hi w.4 h.2 in ((h.0, h.1, r.0), r.1)
tight names (t.eAssign a o at b) lo hi w h = let r = tight names b (suc at) hi w.3 h.1 in ((h.0, r.0), r.1)
tight names (t.eComma t.no_parts) lo hi w h = cc
tight names (t.eComma (t.parts_and es c e)) lo hi w h = let r = tight names e h.1 hi w.1.3 h.4 in ((h.0, h.1, h.2, h.3, r.0), r.1)

first_low : (w : t.Word) (lo hi : ℕ) → InWord lo w hi → lo ≤ first_of_word w
first_low (t.wType w at) lo hi h = h.0
first_low (t.wStorage w at) lo hi h = h.0
first_low (t.wConst w at) lo hi h = h.0
first_low (t.wExtension at) lo hi h = h.0
first_low (t.wAttribute (t.attribute w at a r b)) lo hi h = h.0
first_low (t.wTypedef n at) lo hi h = h.0
first_low (t.wTag at n b) lo hi h = h.0
first_low (t.wEnum at a es c b) lo hi h = h.1
first_low (t.wTagEnum at n x a es c b) lo hi h = h.1

module _ (c : Known) (scope : s.Scope) (owner : Option ℕ) (names : List (List ℕ)) where
  mutual
    pub placed : (e : t.Ex) (lo hi : ℕ) → Shaped names e → In lo e hi → Placed c nowhere false lo hi (s.in_expression scope owner e)
    placed (t.eName n at) lo hi w h = empty (omega (arith, h.0, h.1))
    placed (t.eNumber v f at) lo hi w h = empty (omega (arith, h.0, h.1))
    placed (t.eLetter v at) lo hi w h = empty (omega (arith, h.0, h.1))
    placed (t.eParen a e b) lo hi w h = stretch lo hi (placed e (suc a) b w h.1) (omega (arith, h.0)) (omega (arith, h.2))
    placed (t.eCall f a es b) lo hi w h = join (placed f lo a w.1 h.0) (stretch (suc a) hi (placed_parts es (suc a) b w.2 h.1) (itself (suc a)) (omega (arith, h.2))) (omega arith)
    placed (t.eIndex a x i y) lo hi w h = join (placed a lo x w.1 h.0) (stretch (suc x) hi (placed i (suc x) y w.2 h.1) (itself (suc x)) (omega (arith, h.2))) (omega arith)
    placed (t.ePostfix e x at) lo hi w h = stretch lo hi (placed e lo at w.1 h.0) (itself lo) (omega (arith, h.1))
    placed (t.ePrefix o at e) lo hi w h = stretch lo hi (placed e (suc at) hi w.1 h.1) (omega (arith, h.0)) (itself hi)
    placed (t.eSizeof at a ws b) lo hi w h = stretch lo hi (placed_words ws (suc a) b w.1 h.2) (omega (arith, h.0, h.1)) (omega (arith, h.3))
    placed (t.eCast a ws b e) lo hi w h = join (stretch lo b (placed_words ws (suc a) b w.2 h.1) (omega (arith, h.0)) (itself b)) (placed e (suc b) hi w.3 h.2) (omega arith)
    placed (t.eBinary a o at b) lo hi w h = join (placed a lo at w.2 h.0) (placed b (suc at) hi w.3 h.1) (omega arith)
    placed (t.eCond g x a y b) lo hi w h = join (join (placed g lo x w.2 h.0) (placed a (suc x) y w.3 h.1) (omega arith)) (placed b (suc y) hi w.4 h.2) (omega arith)
    placed (t.eAssign a o at b) lo hi w h = join (placed a lo at w.2 h.0) (placed b (suc at) hi w.3 h.1) (omega arith)
    placed (t.eComma es) lo hi w h = placed_parts es lo hi w.1 h

    pub placed_parts : (es : t.Parts) (lo hi : ℕ) → ShapedParts names es → InParts lo es hi → Placed c nowhere false lo hi (s.in_parts scope owner es)
    placed_parts t.no_parts lo hi w h = empty h
    placed_parts (t.parts_and es x e) lo hi w h = join (placed_parts es lo h.0 w.2 h.2) (placed e h.1 hi w.3 h.4) h.3

    pub placed_words : (ws : t.Words) (lo hi : ℕ) → ShapedWords names ws → InWords lo ws hi → Placed c nowhere false lo hi (s.in_words scope owner ws)
    placed_words t.no_words lo hi w h = empty h
    placed_words (t.words_and ws v) lo hi w h =
        let l = first_low v h.0 hi h.2 in
        join (placed_words ws lo h.0 w.0 h.1) (stretch h.0 hi (placed_word v h.0 hi w.1 h.2) (omega (arith, l)) (itself hi)) (itself h.0)

    -- behind its first token
    pub placed_word : (v : t.Word) (lo hi : ℕ) → ShapedWord names v → InWord lo v hi → Placed c nowhere false (suc (first_of_word v)) hi (s.in_word scope owner v)
    placed_word (t.wType v at) lo hi w h = empty h.1
    placed_word (t.wStorage v at) lo hi w h = empty h.1
    placed_word (t.wConst v at) lo hi w h = empty h.1
    placed_word (t.wExtension at) lo hi w h = empty h.1
    placed_word (t.wAttribute (t.attribute v at a r b)) lo hi w h = empty h.1
    placed_word (t.wTypedef n at) lo hi w h = empty h.1
    placed_word (t.wTag at n b) lo hi w h = empty (omega (arith, h.1, h.2))
    placed_word (t.wEnum at a es x b) lo hi w h = stretch (suc at) hi (placed_enumerators es (suc a) h.0 w.1 h.3) (omega (arith, h.2)) (omega (arith, h.4, h.5))
    placed_word (t.wTagEnum at n y a es x b) lo hi w h =
        let o = ordered_enumerators es (suc a) h.0 h.4 in
        late (placed_enumerators es (suc a) h.0 w.2 h.4) (omega (arith, h.2, h.3)) (omega (arith, h.5, h.6))
        (record { low = h.2; high = omega (arith, h.3, o, h.5, h.6); own = omega (arith, h.3, o, h.5); stop = h.6; name = tt; object = tt; sized = tt; begun = tt })
        (omega (arith, h.3))

    placed_enumerators : (es : t.Ens) (lo hi : ℕ) → ShapedEnumerators names es → InEnumerators lo es hi → Placed c nowhere false lo hi (s.in_enumerators scope owner es)
    placed_enumerators t.no_enumerators lo hi w h = empty h
    placed_enumerators (t.plain_and es x n at) lo hi w h =
        join (placed_enumerators es lo h.0 w.2 h.1) (one (record { low = itself at; high = h.3; own = itself (suc at); stop = h.3; name = tt; object = tt; sized = tt; begun = tt })) h.2
    placed_enumerators (t.valued_and es x n at a e) lo hi w h =
        let r = tight names e (suc a) hi w.4 h.4 in
        let o = ordered e (suc a) (suc (last_of e)) r.0 in
        let d = s.declared scope owner n at (last_of e) (s.anEnumerator (t.valued_and es x n at a e)) in
        let own : Lies c nowhere false at hi d = record { low = itself at; high = omega (arith, h.3, o, r.1); own = omega (arith, h.3, o); stop = r.1; name = tt; object = tt; sized = tt; begun = tt } in
        subst (Placed c nowhere false lo hi) (sym (append_assoc (s.in_enumerators scope owner es) (s.in_expression scope owner e) (d ∷ [])))
        (join (placed_enumerators es lo h.0 w.3 h.1) (late (placed e (suc a) (suc (last_of e)) w.4 r.0) (omega (arith, h.3)) r.1 own (omega (arith, h.3))) h.2)

  pub placed_option : (l : ℕ) (e : Option t.Ex) (lo hi : ℕ) → ShapedOption names l e → InOption lo e hi → Placed c nowhere false lo hi (s.in_option scope owner e)
  placed_option l None lo hi w h = empty h
  placed_option l (Some e) lo hi w h = placed e lo hi w.1 h

-- ---- Parameters

abbrev pub AreSome : t.Words → Type 0
AreSome t.no_words = ⊥
AreSome (t.words_and ws w) = Unit {0}

untyped : (k : Told) → Some nothing_known ≡ Some k → is_typed k.typing ≡ true → ⊥
untyped k h e = no_typed (subst (λ o. typed_in o ≡ true) (sym h) e)
  where
    typed_in : Option Told → Bool
    typed_in None = false
    typed_in (Some k) = is_typed k.typing

    no_typed : typed_in (Some nothing_known) ≡ true → ⊥
    no_typed h = cc

module _ (c : Known) (scope : s.Scope) (owner : Option ℕ) (names : List (List ℕ)) where
  -- words are not empty, and declare behind their first token
  pub not_empty : (ws : t.Words) → AreSpecs site.Bare ws → AreSome ws
  not_empty t.no_words h = untyped h.told h.together h.typed
  not_empty (t.words_and ws w) h = tt

  pub words_from : (ws : t.Words) (lo hi : ℕ) → AreSome ws → ShapedWords names ws → InWords lo ws hi → (lo ≤ first_of_words ws) × Placed c nowhere false (suc (first_of_words ws)) hi (s.in_words scope owner ws)
  words_from t.no_words lo hi x w h = absurd x
  words_from (t.words_and t.no_words v) lo hi x w h = let l = first_low v h.0 hi h.2 in (omega (arith, h.1, l), placed_word c scope owner names v h.0 hi w.1 h.2)
  words_from (t.words_and (t.words_and ws u) v) lo hi x w h =
      let r = words_from (t.words_and ws u) lo h.0 tt w.0 h.1 in
      let l = first_low v h.0 hi h.2 in
      (r.0, join r.1 (stretch h.0 hi (placed_word c scope owner names v h.0 hi w.1 h.2) (omega (arith, l)) (itself hi)) (itself h.0))

  pub placed_params : (ps : t.Params) (lo hi : ℕ) → ShapedParams names ps → InParams lo ps hi → Placed c nowhere false lo hi (s.in_params scope owner ps)
  placed_params t.no_params lo hi w h = empty h
  placed_params (t.params_and ps x ws None) lo hi w h =
      let r = words_from ws h.1 h.2 (not_empty ws w.1) w.2 h.5 in
      let o = r.1.ordered in
      let d = s.declared scope owner [] (first_of_words ws) (first_of_words ws) (s.aParameter ws) in
      let own : Lies c nowhere false h.1 hi d = record { low = r.0; high = omega (arith, o, h.6); own = itself (suc (first_of_words ws)); stop = omega (arith, o, h.6); name = tt; object = tt; sized = tt; begun = tt } in
      subst (Placed c nowhere false lo hi) (sym (append_assoc (s.in_params scope owner ps) (s.in_words scope owner ws) (d ∷ [])))
      (join (placed_params ps lo h.0 w.4 h.3) (late r.1 (omega (arith, r.0)) h.6 own (itself (suc (first_of_words ws)))) h.4)
  placed_params (t.params_and ps x ws (Some (t.named n at))) lo hi w h =
      join (join (placed_params ps lo h.0 w.4 h.3) (placed_words c scope owner names ws h.1 h.2 w.2 h.5) h.4)
      (one (record { low = itself at; high = h.6.1; own = itself (suc at); stop = h.6.1; name = tt; object = tt; sized = tt; begun = tt })) h.6.0

  pub placed_parameters : (ps : t.Parameters) (lo hi : ℕ) → ShapedParameters names ps → InParameters lo ps hi → Placed c nowhere false lo hi (s.in_parameters scope owner ps)
  placed_parameters (t.pUnknown a b) lo hi w h = empty (omega (arith, h.0, h.1, h.2))
  placed_parameters (t.pVoid a at b) lo hi w h = empty (omega (arith, h.0, h.1, h.2, h.3))
  placed_parameters (t.pSome a ps b) lo hi w h = stretch lo hi (placed_params ps (suc a) b w.1 h.1) (omega (arith, h.0)) (omega (arith, h.2))

pub close_in : (ps : t.Parameters) (lo hi : ℕ) → InParameters lo ps hi → (lo ≤ close_of ps) × (suc (close_of ps) ≤ hi)
close_in (t.pUnknown a b) lo hi h = (omega (arith, h.0, h.1), h.2)
close_in (t.pVoid a at b) lo hi h = (omega (arith, h.0, h.1, h.2), h.3)
close_in (t.pSome a ps b) lo hi h = let o = ordered_params ps (suc a) b h.1 in (omega (arith, h.0, o), h.2)

module _ (c : Known) (names : List (List ℕ)) (first last low high : ℕ) (x : low ≤ first) (y : suc last ≤ high) where
  placed_named : (ps : t.Params) (lo hi : ℕ) → ShapedParams names ps → InParams lo ps hi → Placed c (within low high) false lo hi (s.in_named (s.block first last) None ps)
  placed_named t.no_params lo hi w h = empty h
  placed_named (t.params_and ps z ws None) lo hi w h =
      stretch lo hi (join (placed_named ps lo h.0 w.4 h.3) (lift (placed_words c (s.block first last) None names ws h.1 h.2 w.2 h.5)) h.4) (itself lo) h.6
  placed_named (t.params_and ps z ws (Some (t.named n at))) lo hi w h =
      join (join (placed_named ps lo h.0 w.4 h.3) (lift (placed_words c (s.block first last) None names ws h.1 h.2 w.2 h.5)) h.4)
      (one (record { low = itself at; high = h.6.1; own = itself (suc at); stop = h.6.1; name = (x, y); object = tt; sized = tt; begun = tt })) h.6.0

pub placed_prototype : (c : Known) (names : List (List ℕ)) (ps : t.Parameters) (lo hi : ℕ) → ShapedParameters names ps → InParameters lo ps hi → Placed c (within lo hi) false lo hi (s.in_prototype ps)
placed_prototype c names (t.pUnknown a b) lo hi w h = empty (omega (arith, h.0, h.1, h.2))
placed_prototype c names (t.pVoid a at b) lo hi w h = empty (omega (arith, h.0, h.1, h.2, h.3))
placed_prototype c names (t.pSome a ps b) lo hi w h =
    stretch lo hi (placed_named c names a b lo hi h.0 h.2 ps (suc a) b w.1 h.1) (omega (arith, h.0)) (omega (arith, h.2))
