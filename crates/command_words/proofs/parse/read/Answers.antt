use Rattle.std.proofs.Common.{ap, ◌≡◌, ◌∙◌, subst, List, ℕ, map}
use Rattle.std.proofs.lemmas.Result.{IfOk-weaker}
use Rattle.clap.specs.Walk.{Text, rows_of}
use Rattle.clap.specs.Matches.{found_of}
use Rattle.std.specs.Borrow.{Bor}
use Rattle.clap.specs.Simple.{App, app_of, is_simple, matches_of, HasMatchesOf}
use Rattle.clap.specs.Faults.{fault_of, is_simple_and_free}
use Rattle.clap.specs.Kinds.{FailsBy}
use Rattle.command_words.specs.Words.{mailx}
use Rattle.command_words.proofs.WordLemmas.{simple, free}
use Rattle.command_words.proofs.parse.read.Goals as goal

pub returns-clause-rows : goal.returns-clause-rows
returns-clause-rows c =
    let is : app_of c.in_ok-command.command ≡ mailx = c.in_ok-command.ensures in
    let words : List Text = map (λ (s : Bor (List ℕ)). s.now) c.args.words.now in
    let same : matches_of (app_of c.in_ok-command.command) words ≡ matches_of mailx words = ap (λ (a : App). matches_of a words) is in
    IfOk-weaker c.try_get_matches_from.result (HasMatchesOf (app_of c.in_ok-command.command) words) (λ m. rows_of (found_of m) ≡ matches_of mailx words)
    (λ m h. (h (ap is_simple is ∙ simple)).0 ∙ same) c.try_get_matches_from.ensures.matches

pub returns-clause-kinds : goal.returns-clause-kinds
returns-clause-kinds c =
    let is : app_of c.in_ok-command.command ≡ mailx = c.in_ok-command.ensures in
    let words : List Text = map (λ (s : Bor (List ℕ)). s.now) c.args.words.now in
    subst (λ (a : App). FailsBy (fault_of a words) c.try_get_matches_from.result) is (c.try_get_matches_from.ensures.kinds (ap is_simple_and_free is ∙ free))
