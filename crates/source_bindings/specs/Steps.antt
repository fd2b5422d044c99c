-- What the parts of declarations, statements and items add, and one element more of a list.
use Rattle.std.specs.Prelude.{ℕ, suc, Bool, true, List, Option, None, Some}
use Rattle.lv_base.specs.declared.kind.Model.{Model}
use Rattle.c_tree.specs.declared.tree.Enumerator.{Enumerator, Plain, Valued'}
use Rattle.c_tree.specs.declared.symbol.StorageWord.TheVariants as storage
use Rattle.c_tree.specs.Tree as t
use Rattle.c_tree.specs.View.{expr}
use Rattle.c_meaning.specs.Tokens.{last_of, open_of, close_of, end_of}
use Rattle.c_meaning.specs.Scope as s
use Rattle.c_meaning.specs.Bindings.{Env}
use Rattle.name_bindings.specs.Bound as bd

-- the words say `typedef`, or this one does
abbrev pub typedef_with : t.Word → Bool → Bool
typedef_with (t.wStorage storage.Typedef at) found = true
typedef_with _ found = found

-- a declared name is declared behind its declarator
abbrev pub behind : ℕ → t.Form → ℕ
behind at t.fPlain = at
behind at (t.fArray a e b) = b
behind at (t.fFunction ps) = close_of ps

-- the functions with a body, with this item
abbrev pub bodies_with : ℕ → t.Item → ℕ
bodies_with n (t.tFunction ws name ps ats (t.bBlock a ss b)) = suc n
bodies_with n _ = n

module _ (model : Model) where
  module _ (scope : s.Scope) (owner : Option ℕ) where
    abbrev pub tagged : Env → List ℕ → ℕ → ℕ → t.Ens → Env
    tagged env n at close es = bd.one model env (s.declared scope owner n at close (s.aTag es))

    -- what the value of a constant declares
    abbrev pub value_in : Env → Enumerator → Env
    value_in env (Plain c n at) = env
    value_in env (Valued' c n at a p e) = bd.expression model scope owner env (expr e)

    -- a constant behind these
    abbrev pub constant_with : Env → t.Ens → Enumerator → Env
    constant_with env es (Plain c n at) = bd.one model env (s.declared scope owner n at at (s.anEnumerator (t.plain_and es c n at)))
    constant_with env es (Valued' c n at a p e) = bd.one model env (s.declared scope owner n at (last_of (expr e)) (s.anEnumerator (t.valued_and es c n at a (expr e))))

    -- what stands behind a declared name
    abbrev pub form_in : Env → t.Form → Env
    form_in env t.fPlain = env
    form_in env (t.fArray a e b) = bd.option model scope owner env e
    form_in env (t.fFunction ps) = bd.prototype model env ps

  -- the condition of a statement that ends at this token
  abbrev pub condition_in : Option ℕ → Env → t.Head → ℕ → Env
  condition_in owner env (t.head at a e b) last = bd.expression model (s.block at last) owner env e

  abbrev pub do_condition_in : Option ℕ → Env → ℕ → t.Head → ℕ → Env
  do_condition_in owner env first (t.head at a e b) last = bd.expression model (s.block first last) owner env e

  abbrev pub for_head_in : Option ℕ → Env → t.ForHead → ℕ → Env
  for_head_in owner env (t.for_head at a begin test x step b) last =
      bd.option model (s.block at last) owner (bd.option model (s.block at last) owner (bd.start model (s.block at last) owner env begin) test) step

  -- a statement that is a block from this token on
  abbrev pub inside : Option ℕ → Env → ℕ → t.St → Env
  inside owner env first u = bd.statement model owner (s.block first (end_of u)) env u

  abbrev pub skipped : Env → t.Words → t.Name → t.Parameters → Env
  skipped env ws (t.named n at) ps = bd.whole_function model (bd.prototype model (bd.words model s.file None env ws) ps) ws n at ps

  abbrev pub with_body : ℕ → Env → t.Words → t.Name → t.Parameters → t.Sts → ℕ → Env
  with_body number env ws (t.named n at) ps ss b =
      bd.statements model (Some number) (s.block (open_of ps) b) (bd.whole_function model (bd.parameters model (s.block (open_of ps) b) (Some number) (bd.words model s.file None env ws) ps) ws n at ps) ss
