-- Commands that put messages into files.
use Rattle.std.specs.Prelude.{◌≤◌, ◌==◌, ℕ, List, [], ◌++◌, map, length, slice_index, codes, unwrap_or, IfOk, IfSome, if◌then◌else◌}
use Rattle.std.specs.List.{flat_map}
use Rattle.std.specs.Fmt.{decimal}
use Rattle.std.specs.declared.result.Result.{Result}
use Rattle.std.specs.declared.result.Result.TheVariants.{Ok, Err}
use Rattle.mail_text.specs.Lines.{with_feed}
use Rattle.mail_headers.specs.Header.{body_of}
use Rattle.quit_rules.specs.declared.gathered.Payload.TheVariants.{Texts, Bytes}
use Rattle.message_state.specs.declared.mark.Act.{Act}
use Rattle.message_state.specs.declared.mark.Act.TheVariants.{Look, Save}
use Rattle.message_list.specs.declared.list.Purpose.TheVariants.{Live}
use Rattle.command_desk.specs.declared.desk.Desk.{Desk}
use Rattle.command_desk.specs.Answers.{OrFault, next}
use Rattle.command_desk.specs.Desks.{message_text}
use Rattle.command_desk.specs.Effects.{marked}
use Rattle.command_desk.specs.Faults.{bad_arguments}
use Rattle.command_desk.specs.Selecting.{chosen, list_words, last_word}
use Rattle.folder_commands.specs.declared.wanted.Filing.{Filing}
use Rattle.command_desk.specs.FileNames.{expanded, author_of, named_after}

-- what is printed once `count` messages were put into the file of this name
abbrev pub receipt : List ℕ → List ℕ → ℕ → List ℕ
receipt name done count = with_feed (codes "\"" ++ name ++ codes "\" [" ++ done ++ codes "] " ++ decimal count)

-- the body of a message and a line feed
abbrev pub body_line : Desk → ℕ → List ℕ
body_line desk n = with_feed (unwrap_or (body_of (message_text desk n)) [])

-- the texts of these are added to a file as they stand in the folder, and then an act is done on each
abbrev pub adding : Act → Desk → List ℕ → List ℕ → Filing
adding act desk ns name = record {
  put = record { name = name; what = Texts (map (message_text desk) ns); reply = receipt name (codes "Appended") (length ns) };
  effects = marked desk act ns;
}

-- the bodies of these are put at the end of a file, and then they are saved
abbrev pub writing : Desk → List ℕ → List ℕ → Filing
writing desk ns name = record {
  put = record { name = name; what = Bytes (flat_map (body_line desk) ns); reply = receipt name (codes "Written") (length ns) };
  effects = marked desk Save ns;
}

-- the selected messages are added to the file that a word names
abbrev pub into_named : Act → Desk → List (List ℕ) → List ℕ → OrFault Filing
into_named act desk list word = next (chosen Live desk list) (λ ns. next (expanded desk word) (λ name. Ok (adding act desk ns name)))

-- the current message is added to mbox
abbrev pub into_mbox : Act → Desk → OrFault Filing
into_mbox act desk = next (chosen Live desk []) (λ ns. Ok (adding act desk ns desk.places.mbox))

-- A list and a file after it; a single word is the file, and without a word it is mbox.
abbrev pub into_file : Act → Desk → List (List ℕ) → OrFault Filing
into_file act desk words = if length words == 0 then into_mbox act desk else into_named act desk (list_words words) (last_word words)

-- the file is named after the author of the first selected message
abbrev pub by_author : Act → Desk → List (List ℕ) → OrFault Filing
by_author act desk words =
    next (chosen Live desk words) (λ ns. next (named_after (author_of desk (slice_index ns 0))) (λ name. Ok (adding act desk ns name)))

-- `copy`: the messages are looked at
abbrev pub copy : Desk → List (List ℕ) → OrFault Filing
copy desk words = into_file Look desk words

-- `Copy`
abbrev pub copy_by_author : Desk → List (List ℕ) → OrFault Filing
copy_by_author desk words = by_author Look desk words

-- `save`: the messages are saved
abbrev pub save : Desk → List (List ℕ) → OrFault Filing
save desk words = into_file Save desk words

-- `Save`
abbrev pub save_by_author : Desk → List (List ℕ) → OrFault Filing
save_by_author desk words = by_author Save desk words

-- the bodies of the selected messages are put at the end of the file that a word names
abbrev pub write_to : Desk → List (List ℕ) → List ℕ → OrFault Filing
write_to desk list word = next (chosen Live desk list) (λ ns. next (expanded desk word) (λ name. Ok (writing desk ns name)))

-- `write`: a list and a file after it, which can't be left out
abbrev pub write : Desk → List (List ℕ) → OrFault Filing
write desk words = if length words == 0 then Err (bad_arguments (codes "write")) else write_to desk (list_words words) (last_word words)

-- if an answer makes a message current, it is one, or none
abbrev pub IsFilingWithin : {E : Type 0} → Desk → Result Filing E → Type 0
IsFilingWithin desk result = IfOk result (λ filing. IfSome filing.effects.current (λ n. n ≤ length desk.shown.rows))
