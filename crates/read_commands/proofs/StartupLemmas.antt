-- What the lines of start-up files ask.
use Rattle.std.proofs.Common.{◌≡◌, ℕ, Bool, true, false, List, [], ◌∷◌, refl, sym, ◌∙◌, ap, subst}
use Rattle.std.specs.Prelude.{codes, is_some, map, if◌then◌else◌}
use Rattle.std.specs.List.{list_all}
use Rattle.std.specs.Str.{bytes_eq}
use Rattle.std.specs.declared.option.Option.{Option}
use Rattle.std.specs.declared.option.Option.TheVariants.{Some, None}
use Rattle.std.specs.declared.result.Result.{Result}
use Rattle.std.specs.declared.result.Result.TheVariants.{Ok, Err}
use Rattle.alias_groups.specs.Groups.{define_refusal}
use Rattle.line_words.specs.declared.line.CommandLine.{CommandLine}
use Rattle.line_words.specs.declared.command.Command.{Command}
use Rattle.line_words.specs.declared.command.Command.TheVariants as command
use Rattle.line_words.specs.Line.{reading}
use Rattle.mailx_macros.specs.Macros.{begin_refusal, line_refusal, body_of}
use Rattle.mailx_macros.specs.declared.error.MacroError.{MacroError}
use Rattle.rc_conditionals.specs.declared.conditions.Condition.{Condition}
use Rattle.rc_conditionals.specs.declared.error.CondError.{CondError}
use Rattle.rc_conditionals.specs.Turns.{turned}
use Rattle.command_desk.specs.declared.desk.Desk.{Desk}
use Rattle.command_desk.specs.declared.naming.Naming.TheVariants as naming
use Rattle.command_desk.specs.declared.steps.Steps.{Steps}
use Rattle.command_desk.specs.Answers.{OrFault, next, unless, effects_alone}
use Rattle.command_desk.specs.Effects.{renames, unchanged}
use Rattle.command_desk.specs.Faults.{bad_arguments, not_in_startup, too_many_aliases}
use Rattle.command_desk.specs.FileNames.{expanded}
use Rattle.desk_commands.specs.Setting.{set, unset, sets, first_refusal, setting_of}
use Rattle.desk_commands.specs.Sourcing.{source, bringing}
use Rattle.desk_commands.specs.Conditions.{condition, opening, turning_alone, turns_or_fault}
use Rattle.desk_commands.specs.Naming.{alias, unalias, alternates, ignore, retain}
use Rattle.desk_commands.specs.Defining.{define, undef, definition_line, or_macro_fault}
use Rattle.desk_commands.specs.Calling.{call, calling_or_fault}
use Rattle.read_commands.specs.declared.origin.Origin.{Origin}
use Rattle.read_commands.specs.declared.origin.Origin.TheVariants.{Startup}
use Rattle.read_commands.specs.Commands.{meaning, meaning_of, name_of, has_words_too_many, read_or_fault}
use Rattle.read_commands.specs.Origins.{allowed, commanded, commanded_outside, is_defining, is_of_startup, is_startup_ask, passes_over, read_from, AsksLittle}

either-little : (b : Bool) (x y : OrFault Steps) → AsksLittle x → AsksLittle y → AsksLittle (if b then x else y)
either-little true x y l r = l
either-little false x y l r = r

next-little : {A : Type 0} (m : OrFault A) (k : A → OrFault Steps) → ((a : A) → AsksLittle (k a)) → AsksLittle (next m k)
next-little (Ok a) k each = each a
next-little (Err line) k each = tt

unless-little : (found : Option (List ℕ)) (line : List ℕ → List ℕ) (m : OrFault Steps) → AsksLittle m → AsksLittle (unless found line m)
unless-little (Some word) line m little = tt
unless-little None line m little = little

macro-little : (name : List ℕ) (o : Option MacroError) (m : OrFault Steps) → AsksLittle m → AsksLittle (or_macro_fault name o m)
macro-little name (Some e) m little = tt
macro-little name None m little = little

set-little : (desk : Desk) (words : List (List ℕ)) → AsksLittle (set desk words)
set-little desk [] = refl
set-little desk (w ∷ ws) = unless-little (first_refusal desk.vars (map setting_of (w ∷ ws))) (λ line. line) (effects_alone (sets (map setting_of (w ∷ ws)))) refl

unset-little : (desk : Desk) (words : List (List ℕ)) → AsksLittle (unset desk words)
unset-little desk [] = tt
unset-little desk (w ∷ ws) = refl

source-little : (desk : Desk) (words : List (List ℕ)) → AsksLittle (source desk words)
source-little desk [] = tt
source-little desk (word ∷ []) = next-little (expanded desk word) (λ name. Ok (bringing name)) (λ name. refl)
source-little desk (w ∷ v ∷ ws) = tt

turned-little : (test : List ℕ) (r : Result (List Condition) CondError) → AsksLittle (turns_or_fault test r)
turned-little test (Ok list) = refl
turned-little test (Err e) = tt

opening-little : (desk : Desk) (words : List (List ℕ)) → AsksLittle (opening desk words)
opening-little desk [] = tt
opening-little desk (test ∷ []) = turned-little test (turned (codes "if") test desk.mode desk.terminal desk.conditions)
opening-little desk (w ∷ v ∷ ws) = tt

turning-little : (desk : Desk) (name : List ℕ) (words : List (List ℕ)) → AsksLittle (turning_alone desk name words)
turning-little desk name [] = turned-little [] (turned name [] desk.mode desk.terminal desk.conditions)
turning-little desk name (w ∷ ws) = tt

condition-little : (desk : Desk) (name : List ℕ) (words : List (List ℕ)) → AsksLittle (condition desk name words)
condition-little desk name words =
    either-little (bytes_eq name (codes "if")) (opening desk words)
    (if bytes_eq name (codes "else") then turning_alone desk (codes "else") words else turning_alone desk (codes "endif") words) (opening-little desk words)
    (either-little (bytes_eq name (codes "else")) (turning_alone desk (codes "else") words) (turning_alone desk (codes "endif") words)
    (turning-little desk (codes "else") words) (turning-little desk (codes "endif") words))

alias-little : (desk : Desk) (words : List (List ℕ)) → AsksLittle (alias desk words)
alias-little desk [] = refl
alias-little desk (name ∷ []) = refl
alias-little desk (name ∷ member ∷ members) =
    either-little (is_some (define_refusal desk.aliases (member ∷ members))) (Err too_many_aliases) (effects_alone (renames (naming.Alias name (member ∷ members)))) tt refl

unalias-little : (desk : Desk) (words : List (List ℕ)) → AsksLittle (unalias desk words)
unalias-little desk [] = tt
unalias-little desk (w ∷ ws) = refl

alternates-little : (desk : Desk) (words : List (List ℕ)) → AsksLittle (alternates desk words)
alternates-little desk [] = refl
alternates-little desk (w ∷ ws) = refl

ignore-little : (desk : Desk) (words : List (List ℕ)) → AsksLittle (ignore desk words)
ignore-little desk [] = refl
ignore-little desk (w ∷ ws) = refl

retain-little : (desk : Desk) (words : List (List ℕ)) → AsksLittle (retain desk words)
retain-little desk [] = refl
retain-little desk (w ∷ ws) = refl

define-little : (desk : Desk) (words : List (List ℕ)) → AsksLittle (define desk words)
define-little desk [] = tt
define-little desk (name ∷ []) = tt
define-little desk (name ∷ brace ∷ []) =
    either-little (bytes_eq brace (codes "{")) (or_macro_fault name (begin_refusal desk.macros name) (effects_alone (renames (naming.Begin name)))) (Err (bad_arguments (codes "define")))
    (macro-little name (begin_refusal desk.macros name) (effects_alone (renames (naming.Begin name))) refl) tt
define-little desk (name ∷ brace ∷ w ∷ ws) = tt

called-little : (name : List ℕ) (o : Option (List (List ℕ))) → AsksLittle (calling_or_fault name o)
called-little name (Some lines) = refl
called-little name None = tt

call-little : (desk : Desk) (words : List (List ℕ)) → AsksLittle (call desk words)
call-little desk [] = tt
call-little desk (name ∷ []) = called-little name (body_of desk.macros.done name)
call-little desk (w ∷ v ∷ ws) = tt

undef-little : (desk : Desk) (words : List (List ℕ)) → AsksLittle (undef desk words)
undef-little desk [] = tt
undef-little desk (w ∷ ws) = refl

-- a command that a start-up file may hold
row-little : (c : Command) (line : CommandLine) (desk : Desk) → is_of_startup c ≡ true → AsksLittle (meaning_of c line desk)
row-little command.Alias line desk is = alias-little desk line.words
row-little command.Alternates line desk is = alternates-little desk line.words
row-little command.Call line desk is = call-little desk line.words
row-little command.Define line desk is = define-little desk line.words
row-little command.Defines line desk is = refl
row-little command.Undef line desk is = undef-little desk line.words
row-little command.Ignore line desk is = ignore-little desk line.words
row-little command.Retain line desk is = retain-little desk line.words
row-little command.Echo line desk is = refl
row-little command.Condition line desk is = condition-little desk (name_of line.word) line.words
row-little command.Set line desk is = set-little desk line.words
row-little command.Unset line desk is = unset-little desk line.words
row-little command.Source line desk is = source-little desk line.words
row-little command.Unalias line desk is = unalias-little desk line.words
row-little command.Comment line desk is = refl
row-little other line desk is = absurd (cc is)

-- a line that was read, if it may stand in such a file
allowed-little : (line : CommandLine) (desk : Desk) → AsksLittle (next (allowed Startup line) (λ l. meaning l desk))
allowed-little line desk = go (is_of_startup line.command) (not_in_startup (name_of line.word))
    (λ is. either-little (has_words_too_many line) (Err (bad_arguments (name_of line.word))) (meaning_of line.command line desk) tt (row-little line.command line desk is))
  where
    go : (held : Bool) (x : List ℕ) → (held ≡ true → AsksLittle (meaning line desk)) → AsksLittle (next (unless (if held then None else Some x) (λ said. said) (Ok line)) (λ l. meaning l desk))
    go true x little = little refl
    go false x little = tt

read-little : (m : OrFault CommandLine) (desk : Desk) → AsksLittle (next (next m (allowed Startup)) (λ l. meaning l desk))
read-little (Ok line) desk = allowed-little line desk
read-little (Err said) desk = tt

definition-little : (desk : Desk) (line : List ℕ) → AsksLittle (definition_line desk line)
definition-little desk line =
    either-little (bytes_eq line (codes "}")) (effects_alone (renames naming.End)) (or_macro_fault [] (line_refusal desk.macros line) (effects_alone (renames (naming.Line line)))) refl
    (macro-little [] (line_refusal desk.macros line) (effects_alone (renames (naming.Line line))) refl)

pub startup_asks_little : (desk : Desk) (line : List ℕ) → AsksLittle (commanded Startup desk line)
startup_asks_little desk line =
    either-little (is_defining desk) (definition_line desk line) (commanded_outside Startup desk line) (definition-little desk line)
    (either-little (passes_over desk line) (effects_alone unchanged) (next (read_from Startup line) (λ l. meaning l desk)) refl (read-little (read_or_fault (reading line)) desk))

pub startup-steps : (from : Origin) (desk : Desk) (line : List ℕ) (steps : Steps) → from ≡ Startup → commanded from desk line ≡ Ok steps → list_all is_startup_ask steps.asks ≡ true
startup-steps from desk line steps is comes =
    subst (λ (m : OrFault Steps). AsksLittle m) (ap (λ (o : Origin). commanded o desk line) (sym is) ∙ comes) (startup_asks_little desk line)
