-- What counts as saved is in what is put into the file.
use Rattle.std.specs.Prelude.{◌≡◌, ◌⊎◌, ◌+◌, ℕ, List, ◌++◌}
use Rattle.std.specs.List.{Contains}
use Rattle.std.specs.declared.result.Result.TheVariants.{Ok}
use Rattle.quit_rules.specs.declared.gathered.Payload.{Payload}
use Rattle.quit_rules.specs.declared.gathered.Payload.TheVariants.{Texts, Bytes}
use Rattle.command_desk.specs.declared.desk.Desk.{Desk}
use Rattle.command_desk.specs.declared.effects.Marking.{Marking}
use Rattle.command_desk.specs.Desks.{message_text, IsMessageOf}
use Rattle.folder_commands.specs.declared.wanted.Filing.{Filing}
use Rattle.folder_commands.specs.Saving.{body_line, copy, copy_by_author, save, save_by_author, write}

-- these bytes stand somewhere in those
pub record StandsIn (part bytes : List ℕ) : Type 0 where
  pub front : List ℕ
  pub back : List ℕ
  pub is : bytes ≡ front ++ (part ++ back)

-- message n is in what is put: its text is one of the texts, or its body with a line feed stands in the bytes
abbrev pub IsIn : Payload → Desk → ℕ → Type 0
IsIn (Texts texts) desk n = Contains texts (message_text desk n)
IsIn (Bytes bytes) desk n = StandsIn (body_line desk n) bytes

-- a command that puts messages into a file comes to this
abbrev pub Files : Desk → List (List ℕ) → Filing → Type 0
Files desk words filing =
    (save desk words ≡ Ok filing)
    ⊎ ((save_by_author desk words ≡ Ok filing)
    ⊎ ((copy desk words ≡ Ok filing)
    ⊎ ((copy_by_author desk words ≡ Ok filing)
    ⊎ (write desk words ≡ Ok filing))))

-- each act of the command is on a message of the desk, which has the number of its row and one more, and that message is in what the command puts
abbrev pub MarkedIsPut : Type 0
MarkedIsPut = (desk : Desk) (words : List (List ℕ)) (filing : Filing) (m : Marking)
    → Files desk words filing → Contains filing.effects.marks m
    → (n : ℕ) × IsMessageOf desk.shown n × (n ≡ m.row + 1) × IsIn filing.put.what desk n
