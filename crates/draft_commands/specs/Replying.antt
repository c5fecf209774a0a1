-- A message that is begun as an answer to messages of the folder.
use Rattle.std.specs.Prelude.{ℕ, Bool, true, false, ◌==◌, List, [], length, slice_index, codes, Option, if◌then◌else◌}
use Rattle.std.specs.List.{fold, list_any}
use Rattle.std.specs.declared.option.Option.TheVariants.{Some, None}
use Rattle.std.specs.declared.result.Result.TheVariants.{Ok, Err}
use Rattle.mailx_vars.specs.Settings.{is_set}
use Rattle.name_lists.specs.Names.{with_names}
use Rattle.message_list.specs.declared.list.Purpose.TheVariants.{Live}
use Rattle.draft_text.specs.declared.draft.Draft.{Draft}
use Rattle.draft_text.specs.declared.reply.ReplyHow.{ReplyHow}
use Rattle.draft_text.specs.declared.reply.ReplyHow.TheVariants as how
use Rattle.draft_text.specs.Replies as replies
use Rattle.command_desk.specs.declared.desk.Desk.{Desk}
use Rattle.command_desk.specs.declared.steps.Steps.{Steps}
use Rattle.command_desk.specs.Answers.{OrFault, next}
use Rattle.command_desk.specs.Desks.{message_text}
use Rattle.command_desk.specs.Faults.{no_author}
use Rattle.command_desk.specs.FileNames.{author_of, named_after}
use Rattle.command_desk.specs.Selecting.{chosen, single, last_message}
use Rattle.draft_commands.specs.Mailing.{writer, drafting}

-- a draft, with who writes it
abbrev pub from_writer : Desk → Draft → Draft
from_writer desk draft = record draft { from = writer desk }

-- a draft that answers a message, if somebody is answered
abbrev pub or_no_author : Option Draft → OrFault Draft
or_no_author (Some draft) = Ok draft
or_no_author None = Err no_author

-- the draft that answers message n
abbrev pub answer_one : ReplyHow → Desk → ℕ → OrFault Draft
answer_one how desk n = or_no_author (replies.reply how desk.own (is_set desk.vars (codes "metoo")) (message_text desk n))

-- nobody is answered in message n
abbrev pub has_nobody : Desk → ℕ → Bool
has_nobody desk n = length (replies.answered (message_text desk n)) == 0

-- names with those who are answered in message n
abbrev pub with_answered : Desk → List (List ℕ) → ℕ → List (List ℕ)
with_answered desk names n = with_names names (replies.answered (message_text desk n))

-- those who are answered in these messages, each once; in each of them there is somebody
abbrev pub all_answered : Desk → List ℕ → OrFault (List (List ℕ))
all_answered desk ns = if list_any (has_nobody desk) ns then Err no_author else Ok (fold (with_answered desk) [] ns)

-- the draft to those who are answered in these messages; the rest of it answers the first of them
abbrev pub answer_all : Desk → List ℕ → OrFault Draft
answer_all desk ns =
    next (all_answered desk ns) (λ to. next (answer_one how.Authors desk (slice_index ns 0)) (λ draft. Ok (record draft { to = to })))

-- the file in which the message is recorded, if it is: that of the author of message n
abbrev pub recorded_in : Bool → Desk → ℕ → OrFault (Option (List ℕ))
recorded_in false desk n = Ok None
recorded_in true desk n = next (named_after (author_of desk n)) (λ name. Ok (Some name))

-- a draft is begun, that answers these messages, of which the last becomes current; it may be recorded in the file of the author of
-- the first
abbrev pub begun : Bool → Desk → List ℕ → Draft → OrFault Steps
begun recorded desk ns draft =
    next (recorded_in recorded desk (slice_index ns 0)) (λ file. Ok (drafting (from_writer desk draft) file (Some (last_message ns))))

-- one message is answered, to all, by the command of this name
abbrev pub answer_message : Bool → List ℕ → Desk → List (List ℕ) → OrFault Steps
answer_message recorded name desk words =
    next (chosen Live desk words) (λ ns. next (single name ns) (λ n. next (answer_one how.All desk n) (begun recorded desk ns)))

-- messages are answered, to the authors
abbrev pub answer_messages : Bool → Desk → List (List ℕ) → OrFault Steps
answer_messages recorded desk words = next (chosen Live desk words) (λ ns. next (answer_all desk ns) (begun recorded desk ns))

-- the two kinds of answers have changed places
abbrev pub is_flipped : Desk → Bool
is_flipped desk = is_set desk.vars (codes "flipr")

-- `reply`, `respond`, of which one was given; if the kinds have changed places as `Reply`
abbrev pub reply : List ℕ → Desk → List (List ℕ) → OrFault Steps
reply name desk words = if is_flipped desk then answer_messages false desk words else answer_message false name desk words

-- `Reply`, `Respond`, of which one was given; if the kinds have changed places as `reply`
abbrev pub reply_authors : List ℕ → Desk → List (List ℕ) → OrFault Steps
reply_authors name desk words = if is_flipped desk then answer_message false name desk words else answer_messages false desk words

-- `followup`: as `reply`, but recorded, and it never changes places
abbrev pub followup : Desk → List (List ℕ) → OrFault Steps
followup desk words = answer_message true (codes "followup") desk words

-- `Followup`: as `Reply`, but recorded
abbrev pub followup_authors : Desk → List (List ℕ) → OrFault Steps
followup_authors desk words = answer_messages true desk words
