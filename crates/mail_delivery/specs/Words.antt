-- The words of a delivery: who sends, and who gets the message.
use Rattle.std.specs.Prelude.{◌==◌, ◌&&◌, not, nat_lt, nat_le, ℕ, Bool, false, List, [], ◌∷◌, ◌++◌, Option, Some, None, length, codes, if◌then◌else◌}
use Rattle.std.specs.List.{fold, list_all}
use Rattle.std.specs.Option.{option_map}
use Rattle.std.specs.Str.{bytes_eq}
use Rattle.mailx_vars.specs.Environment.{Pairs, variable}
use Rattle.mailx_vars.specs.Names.{is_graphic, is_user_name}
use Rattle.commit_machine.specs.Records.{has}
use Rattle.folder_commit.specs.Names.{is_file_name}
use Rattle.mail_delivery.specs.declared.words.Request.{Request}

-- the actor of every delivery
abbrev pub actor : List ℕ
actor = codes "/var/mail/.mail_deliver"

-- where the mail of a user stands
abbrev pub mailbox : List ℕ → List ℕ
mailbox user = codes "/var/mail/" ++ user

-- the most users that one message is delivered to
abbrev pub user_limit : ℕ
user_limit = 256

-- a byte of a user's name: neither below 33 nor 127, and no `/`
abbrev pub is_user_byte : ℕ → Bool
is_user_byte b = is_graphic b && not (b == 47)

-- a name begins with none of `-` and `.`
abbrev pub begins_plainly : List ℕ → Bool
begins_plainly [] = false
begins_plainly (b ∷ bs) = not (b == 45) && not (b == 46)

-- a user to whom can be delivered: a name of up to 255 such bytes, whose mailbox a commit may change
abbrev pub is_recipient : List ℕ → Bool
is_recipient user = begins_plainly user && (nat_le (length user) 255 && (list_all is_user_byte user && is_file_name actor (mailbox user)))

-- a name behind others, unless it is among them
abbrev pub with_name : List (List ℕ) → List ℕ → List (List ℕ)
with_name names name = if has names name then names else names ++ name ∷ []

-- names in order of first naming, each once
abbrev pub each_once : List (List ℕ) → List (List ℕ)
each_once names = fold with_name [] names

-- there are users, each a recipient, and not too many of them
abbrev pub are_recipients : List (List ℕ) → Bool
are_recipients users = nat_lt 0 (length users) && (list_all is_recipient users && nat_le (length (each_once users)) user_limit)

-- the users, each once, if they are such
abbrev pub recipients_of : List (List ℕ) → Option (List (List ℕ))
recipients_of users = if are_recipients users then Some (each_once users) else None

-- a message of this sender to these users
abbrev pub request_of : List ℕ → List (List ℕ) → Option Request
request_of sender users = if is_user_name sender then option_map (λ once. record { sender = sender; users = once }) (recipients_of users) else None

-- What the words ask for: `-r` and the sender, and then the users; or the users alone, and the sender is LOGNAME.
abbrev pub reading : List (List ℕ) → Pairs → Option Request
reading (word ∷ sender ∷ users) pairs =
    if bytes_eq word (codes "-r") then request_of sender users else request_of (variable pairs (codes "LOGNAME")) (word ∷ sender ∷ users)
reading words pairs = request_of (variable pairs (codes "LOGNAME")) words
