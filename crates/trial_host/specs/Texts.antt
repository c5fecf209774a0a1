-- The mailbox of a trial, and the lines that are carried out on it.
use Rattle.std.specs.Prelude.{◌/◌, ◌%◌, nat_lt, ℕ, zero, suc, List, [], ◌++◌, if◌then◌else◌, codes}
use Rattle.std.specs.Fmt.{decimal}
use Rattle.mail_text.specs.Lines.{with_feed}

-- a line with a number
abbrev pub numbered : List ℕ → ℕ → List ℕ → List ℕ
numbered front n behind = with_feed (front ++ decimal n ++ behind)

-- each message but the first is an answer to that with half its number
abbrev pub references_of : ℕ → List ℕ
references_of k = if nat_lt 1 k then numbered (codes "References: <m") (k / 2) (codes "@x>") else []

-- message k: of one of seven senders, under one of five subjects
abbrev pub message_of : ℕ → List ℕ
message_of k =
    numbered (codes "From u") (k % 7) (codes "@x Mon Jan  1 10:00:00 2024") ++ numbered (codes "From: u") (k % 7) (codes "@x") ++ numbered (codes "Subject: s") (k % 5) []
    ++ numbered (codes "Message-ID: <m") k (codes "@x>") ++ references_of k ++ with_feed [] ++ numbered (codes "body ") k [] ++ with_feed []

-- messages 1 to n
abbrev pub mailbox_of : ℕ → List ℕ
mailbox_of zero = []
mailbox_of (suc n) = mailbox_of n ++ message_of (suc n)

-- threads are shown, the messages of one subject deleted, and those of one sender saved
abbrev pub trial_lines : List ℕ
trial_lines = with_feed (codes "thread") ++ with_feed (codes "d /s3") ++ with_feed (codes "s u2@x saved") ++ with_feed (codes "q")
