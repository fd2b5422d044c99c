use Rattle.request_words.proofs.FileLaws.{names_apart}
use Rattle.request_words.proofs.asking.names_are_apart.Goals as goal

pub returns : goal.returns
returns c = names_apart
