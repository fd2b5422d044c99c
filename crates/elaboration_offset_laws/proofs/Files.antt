-- The declarations of a file lie where its items stand.
use Rattle.std.proofs.Common.{◌≡◌, ℕ, suc, ◌≤◌, Bool, true, false, List, [], ◌∷◌, ◌++◌, None, Some, sym, subst, append_assoc, arith}
use Rattle.c_tree.specs.Tree as t
use Rattle.c_tree.specs.declared.known.Site.TheVariants as site
use Rattle.c_tree.specs.Shape as sh
use Rattle.c_tree.specs.Shape.{ShapedBody, ShapedFunction, ShapedItems, ShapedStatements}
use Rattle.c_meaning.specs.Tokens.{open_of, close_of}
use Rattle.c_meaning.specs.Bindings.{kind_in, words_type}
use Rattle.c_meaning.specs.Scope as s
use Rattle.c_meaning.specs.Rules as rules
use Rattle.elaboration_offset_laws.proofs.Logic.{nil_left, nil_right}
use Rattle.elaboration_offset_laws.proofs.Standing.{InWords, InParameters, itself, ordered_words}
use Rattle.elaboration_offset_laws.proofs.Statements.{InBody, InItems}
use Rattle.elaboration_offset_laws.proofs.Lying.{Known, nowhere, within, Lies, Placed, wider, stretch, join, empty, late, lift, alike, same_room}
use Rattle.elaboration_offset_laws.proofs.Placing.{placed_words, placed_parameters, placed_prototype, close_in}
use Rattle.elaboration_offset_laws.proofs.Declaring.{placed_declaration, placed_statements}

pub body_shaped : (b : Bool) (names : List (List ℕ)) (a z : ℕ) (ss : t.Sts) → ShapedBody b names (t.bBlock a ss z) → ShapedStatements ss names
body_shaped false names a z ss h = h
body_shaped true names a z ss h = absurd h

module _ (c : Known) (names : List (List ℕ)) where
  pub placed_function : (number : ℕ) (ws : t.Words) (n : List ℕ) (at : ℕ) (ps : t.Parameters) (ats : t.Ats) (a z : ℕ) (ss : t.Sts) (m k l lo hi : ℕ) →
      ShapedFunction names ws (t.named n at) ps ats (t.bBlock a ss z) → InWords lo ws m → m ≤ at → InParameters (suc at) ps k → k ≤ l → InBody l (t.bBlock a ss z) hi →
      rules.faults_of_statements c.env c.model c.bodies (kind_in (words_type c.env ws)) ss ≡ [] → Placed c nowhere true lo hi (s.in_function number ws n at ps (t.bBlock a ss z))
  placed_function number ws n at ps ats a z ss m k l lo hi w h x p y b f =
      let scope = s.block (open_of ps) z in
      let d = s.declared s.file None n at (close_of ps) (s.aFunction ws ps true) in
      let q = close_in ps (suc at) k p in
      let own : Lies c nowhere true at k d = record { low = itself at; high = omega (arith, q.0, q.1); own = omega (arith, q.0); stop = q.1; name = tt; object = tt; sized = tt; begun = tt } in
      let head = late (placed_parameters c scope (Some number) names ps (suc at) k w.parameters p) (omega arith) (itself k) own (itself (suc at)) in
      let front = subst (Placed c nowhere true lo k) (sym (append_assoc (s.in_words s.file None ws) (s.in_parameters scope (Some number) ps) (d ∷ [])))
      (join (lift (placed_words c s.file None names ws lo m w.words h)) head x) in
      join front (stretch l hi (placed_statements c (Some number) (kind_in (words_type c.env ws)) scope ss names (suc a) z (body_shaped _ names a z ss w.body) b.1 f) (omega (arith, b.0)) (omega (arith, b.2))) y

  pub placed_skipped : (number : ℕ) (ws : t.Words) (n : List ℕ) (at : ℕ) (ps : t.Parameters) (ats : t.Ats) (a z : ℕ) (r : t.Raw) (m k l lo hi : ℕ) →
      ShapedFunction names ws (t.named n at) ps ats (t.bSkipped a r z) → InWords lo ws m → m ≤ at → InParameters (suc at) ps k → k ≤ l → l ≤ hi →
      Placed c (within lo hi) true lo hi (s.in_function number ws n at ps (t.bSkipped a r z))
  placed_skipped number ws n at ps ats a z r m k l lo hi w h x p y b =
      let d = s.declared s.file None n at (close_of ps) (s.aFunction ws ps true) in
      let q = close_in ps (suc at) k p in
      let o = ordered_words ws lo m h in
      let own : Lies c (within lo hi) true at hi d = record { low = itself at; high = omega (arith, q.0, q.1, y, b); own = omega (arith, q.0); stop = omega (arith, q.1, y, b); name = tt; object = tt; sized = tt; begun = tt } in
      let head = late (wider (placed_prototype c names ps (suc at) k w.parameters p) (omega (arith, o, x), omega (arith, y, b)) (alike false) (itself (suc at)) (itself k)) (omega arith) (omega (arith, y, b)) own (itself (suc at)) in
      subst (Placed c (within lo hi) true lo hi) (sym (append_assoc (s.in_words s.file None ws) (s.in_prototype ps) (d ∷ [])))
      (join (lift (placed_words c s.file None names ws lo m w.words h)) head x)

module _ (c : Known) where
  pub whole_room : {lo hi low high : ℕ} {ds : List s.Declared} → Placed c (within lo hi) true lo hi ds → low ≤ lo → hi ≤ high → Placed c (within low high) true lo hi ds
  whole_room {lo} {hi} h x y = wider h (x, y) (alike true) (itself lo) (itself hi)

  pub placed_items : (is : t.Items) (lo hi : ℕ) → ShapedItems is → InItems lo is hi → rules.faults_of_items c.env c.model c.bodies is ≡ [] → Placed c (within lo hi) true lo hi (s.in_items is)
  placed_items t.no_items lo hi w h l = empty h
  placed_items (t.items_and is (t.tSkipped x at r b)) lo hi w h l =
      let q = placed_items is lo h.0 w.0 h.1 (nil_left _ _ l) in
      wider q (itself lo, h.2) (alike true) (itself lo) h.2
  placed_items (t.items_and is (t.tEmpty at)) lo hi w h l =
      let q = placed_items is lo h.0 w.0 h.1 (nil_left _ _ l) in
      wider q (itself lo, h.2) (alike true) (itself lo) h.2
  placed_items (t.items_and is (t.tDeclaration d)) lo hi w h l =
      let q = placed_items is lo h.0 w.0 h.1 (nil_left _ _ l) in
      let o = q.ordered in
      let e = placed_declaration c s.file None (sh.file_names is) site.File true (within h.0 hi) d h.0 hi w.1.0 h.2 (nil_right (rules.faults_of_items c.env c.model c.bodies is) _ l) (λ x. same_room (within h.0 hi)) in
      let p = e.ordered in
      join (whole_room q (itself lo) p) (whole_room e o (itself hi)) (itself h.0)
  placed_items (t.items_and is (t.tFunction ws (t.named n at) ps ats (t.bSkipped a r z))) lo hi w h l =
      let q = placed_items is lo h.0 w.0 h.1 (nil_left _ _ l) in
      let o = q.ordered in
      let g = h.2 in
      let e = placed_skipped c (sh.file_names is) (s.count_bodies is) ws n at ps ats a z r g.0 g.1 g.2 h.0 hi w.1.0 g.3 g.4 g.5 g.6 g.7 in
      let p = e.ordered in
      join (whole_room q (itself lo) p) (whole_room e o (itself hi)) (itself h.0)
  placed_items (t.items_and is (t.tFunction ws (t.named n at) ps ats (t.bBlock a ss z))) lo hi w h l =
      let q = placed_items is lo h.0 w.0 h.1 (nil_left _ _ l) in
      let g = h.2 in
      let own = nil_right (rules.faults_of_items c.env c.model c.bodies is) _ l in
      let e = placed_function c (sh.file_names is) (s.count_bodies is) ws n at ps ats a z ss g.0 g.1 g.2 h.0 hi w.1.0 g.3 g.4 g.5 g.6 g.7
      (nil_right (rules.faults_of_words c.env c.model c.bodies ws ++ rules.faults_of_parameters c.env c.model c.bodies ps) _ own) in
      let p = e.ordered in
      join (whole_room q (itself lo) p) (wider e tt (alike true) (itself h.0) (itself hi)) (itself h.0)
