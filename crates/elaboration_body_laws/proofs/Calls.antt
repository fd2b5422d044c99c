-- A called name has the result and the parameters of the function that is called.
use Rattle.std.proofs.Common.{◌≡◌, ◌⊎◌, inl, inr, ℕ, zero, suc, ◌<◌, Bool, true, false, ◌&&◌, not, if◌then◌else◌, List, [], ◌∷◌, ◌++◌, length, append_assoc, Option, None, Some, bytes_eq, refl, ap, sym, ◌∙◌, subst}
use Rattle.std.specs.Prelude.{nat_eq}
use Rattle.std.proofs.lemmas.Bool.{eqb-true, lt-ltb}
use Rattle.lv_base.specs.declared.kind.Kind.{Kind}
use Rattle.lv_base.specs.declared.kind.Kind.TheVariants as kind
use Rattle.lv_base.specs.Integers.{is_signed}
use Rattle.c_tree.specs.Tree as t
use Rattle.c_meaning.specs.Kinds.{rank}
use Rattle.c_meaning.specs.Scope as s
use Rattle.c_meaning.specs.Bindings.{Entry, words_type, kind_in, parameter_kinds}
use Rattle.c_meaning.specs.Rules as rules
use Rattle.elaboration_fit_laws.proofs.Fitting.{and_left, and_right}
use Rattle.elaboration_fit_laws.proofs.Knowing.{own_name}
use Rattle.elaboration_offset_laws.proofs.Lying.{Known}
use Rattle.elaboration_offset_laws.proofs.Keeping.{Among, clear_of}

-- ---- Kinds that are one

abbrev kind_at : ℕ → Bool → Kind
kind_at zero sign = kind.Bool
kind_at (suc zero) sign = if sign then kind.Char else kind.UChar
kind_at (suc (suc zero)) sign = if sign then kind.Short else kind.UShort
kind_at (suc (suc (suc zero))) sign = if sign then kind.Int else kind.UInt
kind_at (suc (suc (suc (suc zero)))) sign = if sign then kind.Long else kind.ULong
kind_at _ sign = if sign then kind.LongLong else kind.ULongLong

kind_back : (k : Kind) → kind_at (rank k) (is_signed k) ≡ k
kind_back kind.Bool = refl
kind_back kind.Char = refl
kind_back kind.UChar = refl
kind_back kind.Short = refl
kind_back kind.UShort = refl
kind_back kind.Int = refl
kind_back kind.UInt = refl
kind_back kind.Long = refl
kind_back kind.ULong = refl
kind_back kind.LongLong = refl
kind_back kind.ULongLong = refl

sign_same : (a b : Bool) → (if a then b else not b) ≡ true → a ≡ b
sign_same true b h = sym h
sign_same false true h = cc
sign_same false false h = refl

kind_same : (k l : Kind) → rules.is_same_kind k l ≡ true → k ≡ l
kind_same k l h =
    sym (kind_back k) ∙ ap (λ r. kind_at r (is_signed k)) (eqb-true (rank k) (rank l) (and_left (nat_eq (rank k) (rank l)) _ h))
    ∙ ap (kind_at (rank l)) (sign_same (is_signed k) (is_signed l) (and_right (nat_eq (rank k) (rank l)) _ h)) ∙ kind_back l

both_true : (a b : Bool) → a ≡ true → b ≡ true → a && b ≡ true
both_true true b h k = k
both_true false b h k = cc

agreed : (m q a : Bool) → m ≡ true → m && not (q && a) ≡ false → a ≡ true
agreed true true true h k = refl
agreed true true false h k = cc
agreed true false a h k = cc
agreed false q a h k = cc

file_same : (a b : s.Scope) → s.is_file a ≡ true → s.is_file b ≡ true → s.is_same a b ≡ true
file_same s.file s.file h k = refl
file_same s.file (s.block x y) h k = cc
file_same (s.block x y) b h k = cc

-- ---- Two entries of a list

split_among : (y : Entry) (es : List Entry) → Among y es → (front : List Entry) × (back : List Entry) × (es ≡ front ++ y ∷ back)
split_among y [] m = absurd m
split_among y (x ∷ es) (inl q) = ([], es, ap (λ z. z ∷ es) q)
split_among y (x ∷ es) (inr m) = let r = split_among y es m in (x ∷ r.0, r.1, ap (λ zs. x ∷ zs) r.2)

where_among : (z y : Entry) (front back : List Entry) → Among z (front ++ y ∷ back) → Among z front ⊎ ((y ≡ z) ⊎ Among z back)
where_among z y [] back (inl q) = inr (inl q)
where_among z y [] back (inr m) = inr (inr m)
where_among z y (x ∷ front) back (inl q) = inl (inl q)
where_among z y (x ∷ front) back (inr m) = inside (where_among z y front back m)
  where
    inside : Among z front ⊎ ((y ≡ z) ⊎ Among z back) → Among z (x ∷ front) ⊎ ((y ≡ z) ⊎ Among z back)
    inside (inl p) = inl (inr p)
    inside (inr p) = inr p

middle_among : (y : Entry) (front back : List Entry) → Among y (front ++ y ∷ back)
middle_among y [] back = inl refl
middle_among y (x ∷ front) back = inr (middle_among y front back)

module _ (f : Known) (right : rules.redeclared f.env f.model f.bodies [] f.env.entries ≡ []) where
  abbrev pub Clear : Entry → Entry → Type 0
  Clear d y = rules.clashes f.env f.model f.bodies d.declared y ≡ false

  clear_in : (front : List Entry) (e : Entry) (back : List Entry) → f.env.entries ≡ front ++ e ∷ back → (y : Entry) → Among y front → Clear e y
  clear_in front e back q y m = clear_of f [] front e back (subst (λ es. rules.redeclared f.env f.model f.bodies [] es ≡ []) q right) y (inl m)

  pub pair : (y z : Entry) → Among y f.env.entries → Among z f.env.entries → (y ≡ z) ⊎ (Clear y z ⊎ Clear z y)
  pair y z m n = by_place sp.0 sp.1 sp.2 (where_among z y sp.0 sp.1 (subst (Among z) sp.2 n))
    where
      sp : (front : List Entry) × (back : List Entry) × (f.env.entries ≡ front ++ y ∷ back)
      sp = split_among y f.env.entries m

      later : (front back : List Entry) → f.env.entries ≡ front ++ y ∷ back → Among z back → Clear z y
      later front back q p =
          let r = split_among z back p in
          clear_in (front ++ y ∷ r.0) z r.1 (q ∙ ap (λ es. front ++ y ∷ es) r.2 ∙ sym (append_assoc front (y ∷ r.0) (z ∷ r.1))) y (middle_among y front r.0)

      by_place : (front back : List Entry) → f.env.entries ≡ front ++ y ∷ back → Among z front ⊎ ((y ≡ z) ⊎ Among z back) → (y ≡ z) ⊎ (Clear y z ⊎ Clear z y)
      by_place front back q (inl p) = inr (inl (clear_in front y back q z p))
      by_place front back q (inr (inl e)) = inl e
      by_place front back q (inr (inr p)) = inr (inr (later front back q p))

  -- ---- Two declarations of one function

  abbrev pub result_of : t.Words → Option Kind
  result_of ws = kind_in (words_type f.env ws)

  results_same : (k l : Option Kind) → rules.same_result f.env f.model f.bodies k l ≡ true → k ≡ l
  results_same None None h = refl
  results_same None (Some l) h = cc
  results_same (Some k) None h = cc
  results_same (Some k) (Some l) h = ap Some (kind_same k l h)

  kinds_same : (ks ls : List Kind) → rules.same_kinds f.env f.model f.bodies ks ls ≡ true → ks ≡ ls
  kinds_same [] [] h = refl
  kinds_same [] (l ∷ ls) h = cc
  kinds_same (k ∷ ks) [] h = cc
  kinds_same (k ∷ ks) (l ∷ ls) h =
      ap (λ x. x ∷ ks) (kind_same k l (and_left (rules.is_same_kind k l) _ h)) ∙ ap (λ xs. l ∷ xs) (kinds_same ks ls (and_right (rules.is_same_kind k l) _ h))

  -- an entry that declares a function in the file
  pub record Declares (e : Entry) (name : List ℕ) (ws : t.Words) (ps : t.Parameters) : Type 0 where
    pub has_body : Bool
    pub what : e.declared.what ≡ s.aFunction ws ps has_body
    pub file : s.is_file e.declared.scope ≡ true
    pub named : e.declared.name ≡ name
    pub there : Among e f.env.entries

  meeting : (name : List ℕ) (d e : Entry) (ws vs : t.Words) (ps qs : t.Parameters) → 0 < length name → Declares d name ws ps → Declares e name vs qs → rules.meets f.env f.model f.bodies d.declared e.declared ≡ true
  meeting name d e ws vs ps qs l h k =
      both_true _ _
      (ap (λ w. rules.same_space f.env f.model f.bodies w e.declared.what) h.what ∙ ap (λ w. rules.same_space f.env f.model f.bodies (s.aFunction ws ps h.has_body) w) k.what)
      (both_true _ _ (file_same d.declared.scope e.declared.scope h.file k.file)
      (both_true _ _ (ap (bytes_eq d.declared.name) (k.named ∙ sym h.named) ∙ own_name d.declared.name) (lt-ltb 0 (length d.declared.name) (subst (λ n. 0 < length n) (sym h.named) l))))

  clear_same : (name : List ℕ) (d e : Entry) (ws vs : t.Words) (ps qs : t.Parameters) → 0 < length name → Declares d name ws ps → Declares e name vs qs → Clear d e →
      (result_of vs ≡ result_of ws) × (parameter_kinds f.env qs ≡ parameter_kinds f.env ps)
  clear_same name d e ws vs ps qs l h k c =
      let a = agreed _ (s.is_file d.declared.scope) _ (meeting name d e ws vs ps qs l h k) c in
      let b = subst (λ w. rules.agrees f.env f.model f.bodies w (s.aFunction ws ps h.has_body) ≡ true) k.what (subst (λ w. rules.agrees f.env f.model f.bodies e.declared.what w ≡ true) h.what a) in
      (results_same (result_of vs) (result_of ws) (and_left _ _ b), kinds_same (parameter_kinds f.env qs) (parameter_kinds f.env ps) (and_left _ _ (and_right (rules.same_result f.env f.model f.bodies (result_of vs) (result_of ws)) _ b)))

  pub one_function : (y z : Entry) (name : List ℕ) (ws vs : t.Words) (ps qs : t.Parameters) → 0 < length name → Declares y name ws ps → Declares z name vs qs → (y ≡ z) ⊎ (Clear y z ⊎ Clear z y) →
      (result_of vs ≡ result_of ws) × (parameter_kinds f.env qs ≡ parameter_kinds f.env ps)
  one_function y z name ws vs ps qs l h k (inl e) = same_what (sym k.what ∙ sym (ap (λ x. x.declared.what) e) ∙ h.what)
    where
      same_what : {b c : Bool} → s.aFunction vs qs b ≡ s.aFunction ws ps c → (result_of vs ≡ result_of ws) × (parameter_kinds f.env qs ≡ parameter_kinds f.env ps)
      same_what {b} {c} q =
          let x : vs ≡ ws = cc in
          let y : qs ≡ ps = cc in
          (ap result_of x, ap (parameter_kinds f.env) y)
  one_function y z name ws vs ps qs l h k (inr (inl c)) = clear_same name y z ws vs ps qs l h k c
  one_function y z name ws vs ps qs l h k (inr (inr c)) = let r = clear_same name z y vs ws qs ps l k h c in (sym r.0, sym r.1)
