use Rattle.std.proofs.Common.{Some, None, sym, inl}
use Rattle.line_words.specs.Line.{reading}
use Rattle.line_words.proofs.LineLemmas.{reading_long, long_comes, unknown_comes, open_comes, word_is, after_is, read_short, or_memory, or_unknown}
use Rattle.line_words.proofs.line.read_line.Goals as goal

pub returns-then-line-gt-LONGEST-clause-reads : goal.returns-then-line-gt-LONGEST-clause-reads
returns-then-line-gt-LONGEST-clause-reads c = inl (sym (reading_long c.args.line.now c.if-line-gt-LONGEST.true))

reads-in-Some : goal.returns-in-Some-clause-reads
reads-in-Some c =
    let line = c.args.line.now in
    let word = word_is line c.split_at.result.1.now c.split_at-2.result.0.now c.blank_length.result c.word_length.result c.blank_length.ensures.value
    c.split_at.ensures.back c.word_length.ensures.value c.split_at-2.ensures.front in
    let after = after_is line c.split_at.result.1.now c.split_at-2.result.1.now c.blank_length.result c.word_length.result
    c.blank_length.ensures.value c.split_at.ensures.back c.word_length.ensures.value c.split_at-2.ensures.back in
    or_memory c.read_as.result _ (reading line) c.read_as.ensures
    (read_short line c.split_at-2.result.0.now c.split_at-2.result.1.now c.command_named.result
    (Some c.in-Some.command) c.if-line-gt-LONGEST.false word after c.command_named.ensures (sym c.in-Some.is))

pub returns-in-Some-clause-reads : goal.returns-in-Some-clause-reads
returns-in-Some-clause-reads c = reads-in-Some c

pub returns-in-Some-clause-too_long : goal.returns-in-Some-clause-too_long
returns-in-Some-clause-too_long c = long_comes c.args.line.now c.read_as.result (reads-in-Some c)

pub returns-in-Some-clause-unknown : goal.returns-in-Some-clause-unknown
returns-in-Some-clause-unknown c = unknown_comes c.args.line.now c.read_as.result (reads-in-Some c)

pub returns-in-Some-clause-open_quote : goal.returns-in-Some-clause-open_quote
returns-in-Some-clause-open_quote c = open_comes c.args.line.now c.read_as.result (reads-in-Some c)

pub returns-in-None-clause-reads : goal.returns-in-None-clause-reads
returns-in-None-clause-reads c =
    let line = c.args.line.now in
    let word = word_is line c.split_at.result.1.now c.split_at-2.result.0.now c.blank_length.result c.word_length.result c.blank_length.ensures.value
    c.split_at.ensures.back c.word_length.ensures.value c.split_at-2.ensures.front in
    let after = after_is line c.split_at.result.1.now c.split_at-2.result.1.now c.blank_length.result c.word_length.result
    c.blank_length.ensures.value c.split_at.ensures.back c.word_length.ensures.value c.split_at-2.ensures.back in
    or_unknown c.unknown.result c.split_at-2.result.0.now (reading line) c.unknown.ensures
    (read_short line c.split_at-2.result.0.now c.split_at-2.result.1.now c.command_named.result None c.if-line-gt-LONGEST.false word after c.command_named.ensures (sym c.in-None.is))
