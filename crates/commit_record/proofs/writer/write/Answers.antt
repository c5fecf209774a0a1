use Rattle.std.proofs.Common.{◌∙◌, ◌≡◌, ◌++◌, length, codes, decimal}
use Rattle.std.specs.List.{flat_map}
use Rattle.commit_record.specs.Format.{entry_line, moment_line, phase_word, token_digits, version_line}
use Rattle.commit_record.proofs.FormatLemmas.{written-pieces}
use Rattle.commit_record.proofs.writer.write.Goals as goal

pub returns : goal.returns
returns c =
    let r = c.args.value.now in
    let put : c.push-7.new.self ≡ (((((((((((version_line r.moment ++ codes "phase ") ++ phase_word r.phase) ++ codes "\ntoken ") ++ token_digits r.token) ++ codes "\n") ++ moment_line r.moment) ++ codes "entries ") ++ decimal (length r.entries)) ++ codes "\n") ++ flat_map entry_line r.entries) ++ codes "end\n") =
    cc (
      c.version_line.ensures,
      c.in_ok-text.ensures,
      c.in_ok-push.ensures.ok,
      c.in_ok-push-2.ensures.ok,
      c.in_ok-push-3.ensures.ok,
      c.in_ok-push_token.ensures,
      c.in_ok-push-4.ensures.ok,
      c.in_ok-push_moment.ensures,
      c.in_ok-push-5.ensures.ok,
      c.in_ok-push_number.ensures,
      c.in_ok-push-6.ensures.ok,
      c.in_ok-push_entries.ensures,
      c.in_ok-push-7.ensures.ok,
    ) in
    put ∙ written-pieces r
