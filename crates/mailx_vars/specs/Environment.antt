-- What a run takes from its environment, a list of pairs of a name and a value.
use Rattle.std.specs.Prelude.{◌==◌, ◌&&◌, nat_le, ℕ, Bool, List, [], ◌++◌, Option, Some, None, unwrap_or, length, codes, if◌then◌else◌}
use Rattle.std.specs.Map.{lookup}
use Rattle.std.specs.Str.{bytes_eq}
use Rattle.mail_text.specs.Number.{number_of}
use Rattle.mailx_vars.specs.Names.{is_short_name, is_user_name}
use Rattle.mailx_vars.specs.declared.environment.Places.{Places}

-- the environment as it is given
abbrev pub Pairs : Type 0
Pairs = List (List ℕ × List ℕ)

-- the value of a variable; of several pairs of one name the first counts, and one that is unset counts as empty
abbrev pub variable : Pairs → List ℕ → List ℕ
variable pairs name = unwrap_or (lookup (bytes_eq name) pairs) []

-- a text, or what stands in its place if it is empty
abbrev pub or_default : List ℕ → List ℕ → List ℕ
or_default value default = if length value == 0 then default else value

-- the home folder and the user are set, to values that can be used
abbrev pub knows_user : Pairs → Bool
knows_user pairs = is_short_name (variable pairs (codes "HOME")) && is_user_name (variable pairs (codes "LOGNAME"))

-- a number of columns from 40 to 1,000, else 80
abbrev pub width_of : Option ℕ → ℕ
width_of None = 80
width_of (Some n) = if nat_le 40 n && nat_le n 1000 then n else 80

-- the system mailbox of a user, and the start-up file, the mbox and the file of dead letters of a home folder
abbrev pub mail_in : Pairs → List ℕ → List ℕ
mail_in pairs user = or_default (variable pairs (codes "MAIL")) (codes "/var/mail/" ++ user)

abbrev pub rc_in : Pairs → List ℕ → List ℕ
rc_in pairs home = or_default (variable pairs (codes "MAILRC")) (home ++ codes "/.mailrc")

abbrev pub mbox_in : Pairs → List ℕ → List ℕ
mbox_in pairs home = or_default (variable pairs (codes "MBOX")) (home ++ codes "/mbox")

abbrev pub dead_in : Pairs → List ℕ → List ℕ
dead_in pairs home = or_default (variable pairs (codes "DEAD")) (home ++ codes "/dead.letter")

-- the command that lists a folder, and the command interpreter
abbrev pub lister_in : Pairs → List ℕ
lister_in pairs = or_default (variable pairs (codes "LISTER")) (codes "ls")

abbrev pub shell_in : Pairs → List ℕ
shell_in pairs = or_default (variable pairs (codes "SHELL")) (codes "/bin/sh")

-- the editors: of `edit` and `~e`, and of `visual` and `~v`
abbrev pub editor_in : Pairs → List ℕ
editor_in pairs = or_default (variable pairs (codes "EDITOR")) (codes "ed")

abbrev pub visual_in : Pairs → List ℕ
visual_in pairs = or_default (variable pairs (codes "VISUAL")) (codes "vi")

-- the places that the environment names, with what stands in place of those that are unset or empty
abbrev pub places_in : Pairs → Places
places_in pairs =
    let home = variable pairs (codes "HOME") in
    let user = variable pairs (codes "LOGNAME") in
    record {
      home = home;
      user = user;
      mail = mail_in pairs user;
      rc = rc_in pairs home;
      mbox = mbox_in pairs home;
      dead = dead_in pairs home;
      lister = lister_in pairs;
      shell = shell_in pairs;
      editor = editor_in pairs;
      visual = visual_in pairs;
      tz = variable pairs (codes "TZ");
      width = width_of (number_of (variable pairs (codes "COLUMNS")));
    }

-- the places, if home folder and user are known
abbrev pub places_of : Pairs → Option Places
places_of pairs = if knows_user pairs then Some (places_in pairs) else None
