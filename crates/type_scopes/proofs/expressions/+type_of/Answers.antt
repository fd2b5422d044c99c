use Rattle.std.proofs.Common.{ap, sym, ◌∙◌}
use Rattle.c_tree.specs.View.{expr}
use Rattle.c_tree.proofs.Views.{expr_Cast}
use Rattle.c_meaning.specs.Types as ty
use Rattle.type_scopes.specs.Seen.{env_of}
use Rattle.type_scopes.proofs.expressions.+type_of.Goals as goal

pub type_of-returns-in-Cast : goal.type_of-returns-in-Cast
type_of-returns-in-Cast t c =
    c.words_type.ensures
    ∙ sym (ap (λ x. ty.type_of (env_of c.args.env.now) c.args.model (expr x)) c.in-Cast.is
    ∙ ap (ty.type_of (env_of c.args.env.now) c.args.model) (expr_Cast c.in-Cast.field-0 c.in-Cast.specs c.in-Cast.field-2 c.in-Cast.field-3))
