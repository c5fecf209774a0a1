use Rattle.line_words.proofs.NamedLaws.{each_named}
use Rattle.line_words.proofs.SpellingLaws.{names_one, spellings_name, names_ascend}
use Rattle.line_words.proofs.laws.a_word_names_one_command.Goals as goal

pub returns-clause-names_one : goal.returns-clause-names_one
returns-clause-names_one c = names_one

pub returns-clause-spellings_name : goal.returns-clause-spellings_name
returns-clause-spellings_name c = spellings_name

pub returns-clause-each_is_named : goal.returns-clause-each_is_named
returns-clause-each_is_named c = each_named

pub returns-clause-names_ascend : goal.returns-clause-names_ascend
returns-clause-names_ascend c = names_ascend
