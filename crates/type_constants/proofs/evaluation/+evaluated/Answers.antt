use Rattle.std.proofs.Common.{ap, sym, ◌∙◌}
use Rattle.c_tree.specs.View.{expr, words_of}
use Rattle.c_tree.proofs.Views.{expr_Cast, expr_SizeofType}
use Rattle.c_meaning.specs.Bindings.{words_type}
use Rattle.type_constants.specs.Evaluated as ev
use Rattle.type_scopes.specs.Seen.{env_of}
use Rattle.type_constants.proofs.evaluation.+evaluated.Goals as goal

pub returns-in-SizeofType : goal.returns-in-SizeofType
returns-in-SizeofType t c =
    c.size_of_words.ensures
    ∙ sym (ap (λ x. ev.evaluated (env_of c.args.env.now) c.args.model (expr x)) c.in-SizeofType.is
    ∙ ap (ev.evaluated (env_of c.args.env.now) c.args.model) (expr_SizeofType c.in-SizeofType.field-0 c.in-SizeofType.field-1 c.in-SizeofType.specs c.in-SizeofType.field-3))

pub returns-in-Cast : goal.returns-in-Cast
returns-in-Cast t c =
    c.cast_of.ensures
    ∙ ap (ev.cast_constant c.args.model (words_type (env_of c.args.env.now) (words_of c.in-Cast.specs))) (c.evaluated-value-in-Cast.ensures ∙ ap (λ x. ev.evaluated (env_of c.args.env.now) c.args.model (expr x)) c.deref-in-Cast.ensures)
    ∙ sym (ap (λ x. ev.evaluated (env_of c.args.env.now) c.args.model (expr x)) c.in-Cast.is
    ∙ ap (ev.evaluated (env_of c.args.env.now) c.args.model) (expr_Cast c.in-Cast.field-0 c.in-Cast.specs c.in-Cast.field-2 c.in-Cast.e))
