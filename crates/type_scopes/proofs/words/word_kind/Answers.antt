use Rattle.std.proofs.Common.{ap, sym, ◌∙◌, Some}
use Rattle.c_tree.specs.View.{word, enumerators_of}
use Rattle.c_meaning.specs.Bindings.{word_kind, enum_kind}
use Rattle.type_scopes.specs.Seen.{env_of}
use Rattle.type_scopes.proofs.Rows.{kind_of_Enum, kind_of_TagEnum}
use Rattle.type_scopes.proofs.words.word_kind.Goals as goal

pub returns-in-Enum : goal.returns-in-Enum
returns-in-Enum c =
    ap Some (c.enum_kind.ensures ∙ ap (λ es. enum_kind (env_of c.args.env.now) (enumerators_of es)) c.deref.ensures.value)
    ∙ sym (ap (λ w. word_kind (env_of c.args.env.now) (word w)) c.in-Enum.is ∙ kind_of_Enum (env_of c.args.env.now) c.in-Enum.field-0 c.in-Enum.field-1 c.in-Enum.constants c.in-Enum.field-3 c.in-Enum.field-4)

pub returns-in-TagEnum : goal.returns-in-TagEnum
returns-in-TagEnum c =
    ap Some (c.enum_kind-in-TagEnum.ensures ∙ ap (λ es. enum_kind (env_of c.args.env.now) (enumerators_of es)) c.deref-in-TagEnum.ensures.value)
    ∙ sym (ap (λ w. word_kind (env_of c.args.env.now) (word w)) c.in-TagEnum.is ∙ kind_of_TagEnum (env_of c.args.env.now) c.in-TagEnum.field-0 c.in-TagEnum.field-1 c.in-TagEnum.field-2 c.in-TagEnum.field-3 c.in-TagEnum.constants c.in-TagEnum.field-5 c.in-TagEnum.field-6)
