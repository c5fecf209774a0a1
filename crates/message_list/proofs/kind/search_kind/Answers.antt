use Rattle.std.proofs.Common.{sym, ap}
use Rattle.std.specs.Option.{option_map}
use Rattle.mail_search.proofs.FoundLemmas.{found, none_found}
use Rattle.message_list.specs.declared.list.Kind.TheVariants.{Search}
use Rattle.message_list.proofs.kind.search_kind.Goals as goal

pub returns-in-Ok : goal.returns-in-Ok
returns-in-Ok c = sym (ap (option_map Search) (found c.args.word.now c.in-Ok.criterion c.in-Ok.ensures.ok))

pub returns-in-Err-Syntax : goal.returns-in-Err-Syntax
returns-in-Err-Syntax c = sym (ap (option_map Search) (none_found c.args.word.now (c.in-Err-Syntax.ensures.err c.in-Err-Syntax.field-0-is)))
