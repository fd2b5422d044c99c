-- The names of a scope begin with those of the scope around it.
use Rattle.std.proofs.Common.{◌≡◌, ℕ, List, [], ◌∷◌, ◌++◌, length, take, Option, None, Some, Bool, true, false, if◌then◌else◌, sym, ap, ◌∙◌}
use Rattle.c_tree.specs.declared.known.Site.{Site}
use Rattle.c_tree.specs.declared.known.Site.TheVariants as site
use Rattle.c_tree.specs.declared.known.Known.{Known}
use Rattle.c_tree.specs.Shape as sh
use Rattle.c_tree.specs.Words.{known, is_typedef}
use Rattle.c_tree.specs.Tree.{Decs, no_declarators, declarators_and, Declaration, declares, ForStart, forDeclares, forExpr, ForHead, for_head, St, sDeclaration, Sts, no_statements, statements_and}
use Rattle.std.proofs.Math.Seq.{take-append_seam}
use Rattle.std.proofs.lemmas.List.{append_assoc, append-nil}

abbrev Extends : List (List ℕ) → List (List ℕ) → Type 0
Extends a c = (x : List (List ℕ)) × (c ≡ a ++ x)

extends_same : (a : List (List ℕ)) → Extends a a
extends_same a = ([], sym (append-nil a))

extends_one : (a c : List (List ℕ)) (n : List ℕ) → Extends a c → Extends a (c ++ n ∷ [])
extends_one a c n e = (e.0 ++ n ∷ [], ap (λ x. x ++ n ∷ []) e.1 ∙ append_assoc a e.0 (n ∷ []))

extends_then : (a c d : List (List ℕ)) → Extends a c → Extends c d → Extends a d
extends_then a c d e f = (e.0 ++ f.0, f.1 ∙ ap (λ x. x ++ f.0) e.1 ∙ append_assoc a e.0 f.0)

extends_if : (q : Bool) (a x y : List (List ℕ)) → Extends a x → Extends a y → Extends a (if q then x else y)
extends_if true a x y e f = e
extends_if false a x y e f = f

extends_declared : (k : Known) (ds : Decs) (a : List (List ℕ)) → Extends a (sh.declared k ds a)
extends_declared k no_declarators a = extends_same a
extends_declared k (declarators_and ds c n f ats i) a =
    let e = extends_declared k ds a in extends_if (is_typedef k.storage) a _ _ (extends_one a (sh.declared k ds a) (sh.name_text n) e) e

extends_with : (o : Option Known) (ds : Decs) (a : List (List ℕ)) → Extends a (sh.declared_with o ds a)
extends_with None ds a = extends_same a
extends_with (Some k) ds a = extends_declared k ds a

extends_behind : (s : Site) (d : Declaration) (a : List (List ℕ)) → Extends a (sh.names_behind s d a)
extends_behind s (declares ws ds c) a = extends_with (known s ws) ds a

extends_statement : (s : St) (a : List (List ℕ)) → Extends a (sh.statement_names s a)
extends_statement (sDeclaration d) a = extends_behind site.Block d a
extends_statement _ a = extends_same a

extends_block : (ss : Sts) (a : List (List ℕ)) → Extends a (sh.block_names ss a)
extends_block no_statements a = extends_same a
extends_block (statements_and ss s) a = extends_then a (sh.block_names ss a) _ (extends_block ss a) (extends_statement s (sh.block_names ss a))

extends_start : (s : ForStart) (a : List (List ℕ)) → Extends a (sh.start_names s a)
extends_start (forDeclares d) a = extends_behind site.Block d a
extends_start (forExpr e at) a = extends_same a

extends_for : (h : ForHead) (a : List (List ℕ)) → Extends a (sh.for_names h a)
extends_for (for_head at x s e y i z) a = extends_start s a

taken : (m : ℕ) (a c : List (List ℕ)) → m ≡ length a → Extends a c → take m c ≡ a
taken m a c h e = ap (λ n. take n c) h ∙ ap (take (length a)) e.1 ∙ take-append_seam a e.0

-- the end of a block
pub left_block : (m : ℕ) (ss : Sts) (a : List (List ℕ)) → m ≡ length a → take m (sh.block_names ss a) ≡ a
left_block m ss a h = taken m a _ h (extends_block ss a)

-- the end of a `for`
pub left_for : (m : ℕ) (h : ForHead) (a : List (List ℕ)) → m ≡ length a → take m (sh.for_names h a) ≡ a
left_for m h a e = taken m a _ e (extends_for h a)
