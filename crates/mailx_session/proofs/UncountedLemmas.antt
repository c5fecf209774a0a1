-- Lines that are no commands bring nothing.
use Rattle.std.proofs.Common.{◌≡◌, ℕ, Bool, true, false, List, [], ◌∷◌, refl, ◌∙◌, ap, sym, subst}
use Rattle.std.proofs.lemmas.Bool.{cond-false}
use Rattle.std.specs.Prelude.{◌||◌, ◌&&◌, ◌==◌, not, codes, length, if◌then◌else◌}
use Rattle.std.specs.Str.{bytes_eq}
use Rattle.std.specs.declared.option.Option.{Option}
use Rattle.std.specs.declared.option.Option.TheVariants.{Some, None}
use Rattle.std.specs.declared.result.Result.{Result}
use Rattle.std.specs.declared.result.Result.TheVariants.{Ok, Err}
use Rattle.line_words.specs.declared.line.CommandLine.{CommandLine}
use Rattle.line_words.specs.declared.line.LineError.{LineError}
use Rattle.line_words.specs.declared.command.Command.{Command}
use Rattle.line_words.specs.declared.command.Command.TheVariants as command
use Rattle.line_words.specs.declared.line.LineError.TheVariants.{TooLong}
use Rattle.line_words.specs.Line.{is_long, command_word, after_word, command_in, with_words, read_named, reading}
use Rattle.line_words.specs.Words.{words_by}
use Rattle.rc_conditionals.specs.declared.conditions.Condition.{Condition}
use Rattle.rc_conditionals.specs.declared.error.CondError.{CondError}
use Rattle.rc_conditionals.specs.Turns.{is_live, turned}
use Rattle.command_desk.specs.declared.desk.Desk.{Desk}
use Rattle.command_desk.specs.Answers.{next, unless, effects_alone}
use Rattle.command_desk.specs.Effects.{unchanged}
use Rattle.command_desk.specs.Faults.{bad_arguments}
use Rattle.desk_commands.specs.Conditions.{turns_or_fault, opening, turning_alone}
use Rattle.read_commands.specs.declared.origin.Origin.{Origin}
use Rattle.read_commands.specs.Commands.{name_of, takes_no_words, meaning, meaning_of, read_or_fault}
use Rattle.read_commands.specs.Origins.{line_of_origin, allowed, read_from, is_condition, turns_lines, is_defining, commanded, commanded_outside}
use Rattle.session_asks.specs.Asks.{brings_lines}
use Rattle.session_asks.proofs.SourcingLemmas.{defining_brings_none}
use Rattle.mailx_session.specs.Rounds.{is_uncounted}

-- `if`, `else` and `endif` bring nothing
turned-brings : (test : List ℕ) (r : Result (List Condition) CondError) → brings_lines (turns_or_fault test r) ≡ false
turned-brings test (Ok list) = refl
turned-brings test (Err e) = refl

opening-brings : (desk : Desk) (words : List (List ℕ)) → brings_lines (opening desk words) ≡ false
opening-brings desk [] = refl
opening-brings desk (test ∷ []) = turned-brings test (turned (codes "if") test desk.mode desk.terminal desk.conditions)
opening-brings desk (a ∷ b ∷ words) = refl

alone-brings : (desk : Desk) (name : List ℕ) (words : List (List ℕ)) → brings_lines (turning_alone desk name words) ≡ false
alone-brings desk name [] = turned-brings [] (turned name [] desk.mode desk.terminal desk.conditions)
alone-brings desk name (w ∷ words) = refl

named-brings : (opens turns : Bool) (desk : Desk) (words : List (List ℕ))
    → brings_lines (if opens then opening desk words else if turns then turning_alone desk (codes "else") words else turning_alone desk (codes "endif") words) ≡ false
named-brings true turns desk words = opening-brings desk words
named-brings false true desk words = alone-brings desk (codes "else") words
named-brings false false desk words = alone-brings desk (codes "endif") words

is-condition : (c : Command) → is_condition (Some c) ≡ true → c ≡ command.Condition
is-condition command.Condition h = refl
is-condition other h = absurd (cc h)

command-brings : (line : CommandLine) (desk : Desk) → is_condition (Some line.command) ≡ true → brings_lines (meaning line desk) ≡ false
command-brings line desk h =
    subst (λ (c : Command). brings_lines (if takes_no_words c && not (length line.words == 0) then Err (bad_arguments (name_of line.word)) else meaning_of c line desk) ≡ false)
    (sym (is-condition line.command h))
    (named-brings (bytes_eq (name_of line.word) (codes "if")) (bytes_eq (name_of line.word) (codes "else")) desk line.words)

-- where one is read, it is carried out or refused
unless-brings : (found : Option (List ℕ)) (line : CommandLine) (desk : Desk) → brings_lines (meaning line desk) ≡ false
    → brings_lines (next (unless found (λ said. said) (Ok line)) (λ c. meaning c desk)) ≡ false
unless-brings (Some w) line desk quiet = refl
unless-brings None line desk quiet = quiet

-- a line whose word is `if`, `else` or `endif` brings nothing, also where it can't be read
read-brings : (from : Origin) (desk : Desk) (line : List ℕ) → turns_lines line ≡ true → brings_lines (next (read_from from line) (λ c. meaning c desk)) ≡ false
unfolding reading
read-brings from desk line turns = long (is_long line)
  where
    brings : Result CommandLine LineError → Bool
    brings r = brings_lines (next (next (read_or_fault r) (allowed from)) (λ c. meaning c desk))

    worded : (c : Command) (words : Option (List (List ℕ))) → is_condition (Some c) ≡ true → brings (with_words c (command_word line) words) ≡ false
    worded c None h = refl
    worded c (Some words) h =
        let read : CommandLine = record { command = c; word = command_word line; words = words; rest = [] } in
        unless-brings (line_of_origin from read) read desk (command-brings read desk h)

    named : (c : Option Command) → is_condition c ≡ true → brings (read_named c (command_word line) (after_word line)) ≡ false
    named (Some command.Condition) h = worded command.Condition (words_by false (after_word line)) h
    named other h = absurd (cc h)

    long : (b : Bool) → brings (if b then Err TooLong else read_named (command_in line) (command_word line) (after_word line)) ≡ false
    long true = refl
    long false = named (command_in line) turns

-- a line that is read where lines aren't carried out brings nothing
dead-brings : (from : Origin) (desk : Desk) (line : List ℕ) → not (is_live desk.conditions) ≡ true → brings_lines (commanded_outside from desk line) ≡ false
dead-brings from desk line dead = go (is_live desk.conditions) (turns_lines line) refl dead
  where
    go : (live turns : Bool) → turns_lines line ≡ turns → not live ≡ true
        → brings_lines (if not live && not turns then effects_alone unchanged else next (read_from from line) (λ c. meaning c desk)) ≡ false
    go true turns is h = absurd (cc h)
    go false false is h = refl
    go false true is h = read-brings from desk line is

or-right : (a b : Bool) → a ≡ false → (a || b) ≡ true → b ≡ true
or-right true b e h = absurd (cc e)
or-right false b e h = h

pub uncounted_brings_none : (origin : Origin) (desk : Desk) (line : List ℕ) → is_uncounted desk ≡ true → brings_lines (commanded origin desk line) ≡ false
uncounted_brings_none origin desk line uncounted = go (is_defining desk) refl
  where
    go : (b : Bool) → is_defining desk ≡ b → brings_lines (commanded origin desk line) ≡ false
    go true e = defining_brings_none origin desk line e
    go false e = ap brings_lines (cond-false _ _ _ e) ∙ dead-brings origin desk line (or-right (is_defining desk) (not (is_live desk.conditions)) e uncounted)
