-- Words of types mean the same in two environments that agree, for names with letters, where they stand.
use Rattle.std.proofs.Common.{◌≡◌, ◌⊎◌, inl, inr, ℕ, suc, ◌≤◌, ◌<◌, Bool, true, false, ◌&&◌, not, if◌then◌else◌, List, [], ◌∷◌, ◌++◌, length, map, Option, None, Some, bytes_eq, pos, refl, ap, sym, ◌∙◌, subst, arith}
use Rattle.std.specs.Prelude.{nat_eq, nat_le, int_lt, find}
use Rattle.lv_base.specs.declared.kind.Kind.TheVariants as kind
use Rattle.lv_base.specs.declared.kind.Model.{Model}
use Rattle.c_tree.specs.Tree as t
use Rattle.c_meaning.specs.Scope as s
use Rattle.c_meaning.specs.Tokens.{first_of_word, first_of_words}
use Rattle.c_meaning.specs.Bindings.{Env, Entry, entity_of_entry, visible, visible_in, is_visible, declared_at, constant_value, has_negative, named_kind, word_kind, named_in, or_kind, or_typing, typing_of, words_type, kind_or_int, params_kinds, parameter_kinds}
use Rattle.elaboration_fit_laws.proofs.Knowing.{same_name}
use Rattle.elaboration_offset_laws.proofs.Standing.{InWords, InWord, InEnumerators, InParams, InOptionName, itself, ordered, ordered_words, ordered_word, ordered_enumerators, ordered_params}
use Rattle.elaboration_offset_laws.proofs.Growing.{AllFail, AllHidden, found_more, seen_more, other_offset, not_yet, Grown}
use Rattle.elaboration_offset_laws.proofs.Agreeing.{Same, words_same}
use Rattle.elaboration_body_laws.proofs.Numbers.{LetteredWord, Lettered}

both : {A B C : Type 0} (f : A → B → C) (a a2 : A) (b b2 : B) → a ≡ a2 → b ≡ b2 → f a b ≡ f a2 b2
both f a a2 b b2 h k = ap (λ x. f x b) h ∙ ap (f a2) k

-- ---- Kinds of parameters

name_after : (n : Option t.Name) (lo hi : ℕ) → InOptionName lo n hi → lo ≤ hi
name_after None lo hi h = h
name_after (Some (t.named n at)) lo hi h = omega (arith, h.0, h.1)

pub params_same : (env other : Env) (model : Model) (low high : ℕ) → Same env other low high → (ps : t.Params) (lo hi : ℕ) → low ≤ lo → hi ≤ high → InParams lo ps hi → params_kinds env ps ≡ params_kinds other ps
params_same env other model low high same t.no_params lo hi x y h = refl
params_same env other model low high same (t.params_and ps c ws n) lo hi x y h =
    let q = ordered_words ws h.1 h.2 h.5 in
    let o = name_after n h.2 hi h.6 in
    let p = ordered_params ps lo h.0 h.3 in
    both (λ ks k. ks ++ k ∷ []) _ _ _ _ (params_same env other model low high same ps lo h.0 x (omega (arith, h.4, q, o, y)) h.3)
    (ap kind_or_int (words_same env other model low high same ws h.1 h.2 (omega (arith, x, p, h.4)) (omega (arith, o, y)) h.5))

pub parameters_same : (env other : Env) (model : Model) (a b : ℕ) (ps : t.Params) → Same env other (suc a) b → InParams (suc a) ps b → parameter_kinds env (t.pSome a ps b) ≡ parameter_kinds other (t.pSome a ps b)
parameters_same env other model a b ps same h = params_same env other model (suc a) b same ps (suc a) b (itself (suc a)) (itself b) h

-- ---- Two environments that agree for names with letters

pub record Alike (env other : Env) (low high : ℕ) : Type 0 where
  pub seen : (tag : Bool) (name : List ℕ) (at : ℕ) → 0 < length name → low ≤ at → suc at ≤ high → visible env tag name at ≡ visible other tag name at
  pub found : (at : ℕ) → suc low ≤ at → suc at ≤ high → declared_at env at ≡ declared_at other at

module _ (env other : Env) (low high : ℕ) (same : Alike env other low high) where
  negative_alike : (es : t.Ens) (lo hi : ℕ) → suc low ≤ lo → hi ≤ high → InEnumerators lo es hi → has_negative env es ≡ has_negative other es
  negative_alike t.no_enumerators lo hi x y h = refl
  negative_alike (t.plain_and es c n at) lo hi x y h =
      let o = ordered_enumerators es lo h.0 h.1 in
      ap (λ v. if int_lt (constant_value v) (pos 0) then true else has_negative env es) (same.found at (omega (arith, x, o, h.2)) (omega (arith, h.3, y)))
      ∙ ap (λ b. if int_lt (constant_value (declared_at other at)) (pos 0) then true else b) (negative_alike es lo h.0 x (omega (arith, h.2, h.3, y)) h.1)
  negative_alike (t.valued_and es c n at a e) lo hi x y h =
      let o = ordered_enumerators es lo h.0 h.1 in
      let q = ordered e (suc a) hi h.4 in
      ap (λ v. if int_lt (constant_value v) (pos 0) then true else has_negative env es) (same.found at (omega (arith, x, o, h.2)) (omega (arith, h.3, q, y)))
      ∙ ap (λ b. if int_lt (constant_value (declared_at other at)) (pos 0) then true else b) (negative_alike es lo h.0 x (omega (arith, h.2, h.3, q, y)) h.1)

  word_alike : (w : t.Word) (lo hi : ℕ) → low ≤ lo → hi ≤ high → InWord lo w hi → LetteredWord w → word_kind env w ≡ word_kind other w
  word_alike (t.wType w at) lo hi x y h l = refl
  word_alike (t.wStorage w at) lo hi x y h l = refl
  word_alike (t.wConst w at) lo hi x y h l = refl
  word_alike (t.wExtension at) lo hi x y h l = refl
  word_alike (t.wAttribute a) lo hi x y h l = refl
  word_alike (t.wTypedef n at) lo hi x y h l = ap (λ o. named_kind (entity_of_entry o)) (same.seen false n at l (omega (arith, x, h.0)) (omega (arith, h.1, y)))
  word_alike (t.wTag at n b) lo hi x y h l = ap (λ o. named_kind (entity_of_entry o)) (same.seen true n b l (omega (arith, x, h.0, h.1)) (omega (arith, h.2, y)))
  word_alike (t.wEnum at a es c b) lo hi x y h l = ap (λ v. Some (if v then kind.Int else kind.UInt)) (negative_alike es (suc a) h.0 (omega (arith, x, h.1, h.2)) (omega (arith, h.4, h.5, y)) h.3)
  word_alike (t.wTagEnum at n z a es c b) lo hi x y h l = ap (λ v. Some (if v then kind.Int else kind.UInt)) (negative_alike es (suc a) h.0 (omega (arith, x, h.1, h.2, h.3)) (omega (arith, h.5, h.6, y)) h.4)

  named_alike : (ws : t.Words) (lo hi : ℕ) → low ≤ lo → hi ≤ high → InWords lo ws hi → Lettered ws → named_in env ws ≡ named_in other ws
  named_alike t.no_words lo hi x y h l = refl
  named_alike (t.words_and ws w) lo hi x y h l =
      let o = ordered_words ws lo h.0 h.1 in
      let q = ordered_word w h.0 hi h.2 in
      both or_kind (word_kind env w) (word_kind other w) (named_in env ws) (named_in other ws) (word_alike w h.0 hi (omega (arith, x, o)) y h.2 l.1) (named_alike ws lo h.0 x (omega (arith, q, y)) h.1 l.0)

  pub words_alike : (ws : t.Words) → InWords low ws high → Lettered ws → words_type env ws ≡ words_type other ws
  words_alike ws h l = ap (λ k. or_typing k (typing_of ws)) (named_alike ws low high (itself low) (itself high) h l)

-- ---- Words from their first token on

own_word : (w : t.Word) (lo hi : ℕ) → InWord lo w hi → InWord (first_of_word w) w hi
own_word (t.wType w at) lo hi h = (itself at, h.1)
own_word (t.wStorage w at) lo hi h = (itself at, h.1)
own_word (t.wConst w at) lo hi h = (itself at, h.1)
own_word (t.wExtension at) lo hi h = (itself at, h.1)
own_word (t.wAttribute (t.attribute w at a r b)) lo hi h = (itself at, h.1)
own_word (t.wTypedef n at) lo hi h = (itself at, h.1)
own_word (t.wTag at n b) lo hi h = (itself at, h.1, h.2)
own_word (t.wEnum at a es c b) lo hi h = (h.0, itself at, h.2, h.3, h.4, h.5)
own_word (t.wTagEnum at n x a es c b) lo hi h = (h.0, itself at, h.2, h.3, h.4, h.5, h.6)

pub tight_words : (ws : t.Words) (lo hi : ℕ) → InWords lo ws hi → InWords (first_of_words ws) ws hi
tight_words t.no_words lo hi h = omega arith
tight_words (t.words_and t.no_words w) lo hi h = (first_of_word w, itself (first_of_word w), own_word w h.0 hi h.2)
tight_words (t.words_and (t.words_and ws u) w) lo hi h = (h.0, tight_words (t.words_and ws u) lo h.0 h.1, h.2)

-- ---- Declarations that don't matter to words

-- what is declared behind these offsets or has no name, at none of the offsets behind the first
pub record Aside (low high : ℕ) (d : s.Declared) : Type 0 where
  pub from : (high ≤ d.from) ⊎ (d.name ≡ [])
  pub away : (at : ℕ) → suc low ≤ at → suc at ≤ high → d.at ≡ at → ⊥

abbrev pub AllAside : ℕ → ℕ → List s.Declared → Type 0
AllAside low high [] = Unit {0}
AllAside low high (d ∷ ds) = Aside low high d × AllAside low high ds

middle_false : (a b c : Bool) → b ≡ false → a && (b && c) ≡ false
middle_false true true c h = cc
middle_false true false c h = refl
middle_false false b c h = refl

other_name : (b : Bool) (name other : List ℕ) → bytes_eq name other ≡ b → name ≡ [] → 0 < length other → b ≡ false
other_name false name other e h l = refl
other_name true name other e h l =
    let q : [] ≡ other = sym h ∙ same_name name other e in
    absurd (subst (λ n. 0 < length n → ⊥) q (λ k. omega (arith, k)) l)

module _ (low high at : ℕ) where
  entry_hidden : (tag : Bool) (name : List ℕ) (e : Entry) → 0 < length name → suc at ≤ high → (high ≤ e.declared.from) ⊎ (e.declared.name ≡ []) → is_visible tag name at e ≡ false
  entry_hidden tag name e l y (inl h) = not_yet tag name e at (omega (arith, y, h))
  entry_hidden tag name e l y (inr h) =
      middle_false (if s.is_tag e.declared.what then tag else not tag) (bytes_eq e.declared.name name) (nat_le e.declared.from at && s.holds e.declared.scope at) (other_name (bytes_eq e.declared.name name) e.declared.name name refl h l)

  aside_hidden : (tag : Bool) (name : List ℕ) (es : List Entry) → 0 < length name → suc at ≤ high → AllAside low high (map (λ e. e.declared) es) → AllHidden tag name at es
  aside_hidden tag name [] l y h = tt
  aside_hidden tag name (e ∷ es) l y h = (entry_hidden tag name e l y h.0.from, aside_hidden tag name es l y h.1)

  aside_fail : (es : List Entry) → suc low ≤ at → suc at ≤ high → AllAside low high (map (λ e. e.declared) es) → AllFail (λ e. nat_eq e.declared.at at && not (s.is_tag e.declared.what)) es
  aside_fail [] x y h = tt
  aside_fail (e ∷ es) x y h = (other_offset e at (h.0.away at x y), aside_fail es x y h.1)

pub alike_of : (env last : Env) (ds : List s.Declared) (low high : ℕ) → Grown env ds last → AllAside low high ds → Alike env last low high
alike_of env last ds low high g b =
    let aside = subst (AllAside low high) (sym g.declares) b in
    record {
      seen = (λ tag name at l x y. sym (ap (visible_in tag name at None) g.entries ∙ seen_more tag name at None env.entries g.new (aside_hidden low high at tag name g.new l y aside)));
      found = (λ at x y. sym (ap (λ es. entity_of_entry (find (λ e. nat_eq e.declared.at at && not (s.is_tag e.declared.what)) es)) g.entries ∙ ap entity_of_entry (found_more _ env.entries g.new (aside_fail low high at g.new x y aside))));
    }
